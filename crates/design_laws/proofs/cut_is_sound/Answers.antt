use Rattle.std.proofs.Common.{not}
use Rattle.std.specs.Prelude.{slice_index_or}
use Rattle.design_core.specs.Designs.{cells, cut_cells}
use Rattle.design_core.specs.Numbers.{idle}
use Rattle.design_core.specs.Parts.{item_cell, scope_of, is_boxed}
use Rattle.design_laws.proofs.PartLaws.{in_map_filter}
use Rattle.design_laws.proofs.CutLaws.{cut_ordered}
use Rattle.design_laws.proofs.RowLaws.{cut_sound}
use Rattle.design_laws.proofs.cut_is_sound.Goals as goal

pub returns : goal.returns
returns c = record {
  ordered = λ signals items keeps o. cut_ordered (item_cell signals) keeps items o;
  order = λ all order keeps o. cut_ordered (λ n. slice_index_or all n idle) keeps order o;
  part = λ design boxes x m. in_map_filter (item_cell design.signals) (λ i. not (is_boxed design.scopes boxes (scope_of i))) design.items x m;
  parts = λ E F held row inside valid. cut_sound E F held row inside valid;
  valid = λ design boxes held row valid. cut_sound (cells design) (cut_cells design boxes) held row
      (λ x m. in_map_filter (item_cell design.signals) (λ i. not (is_boxed design.scopes boxes (scope_of i))) design.items x m) valid;
}
