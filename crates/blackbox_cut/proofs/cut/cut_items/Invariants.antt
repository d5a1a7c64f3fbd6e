use Rattle.std.proofs.Common.{◌≡◌, not, take}
use Rattle.std.specs.List.{filter}
use Rattle.design_core.specs.Parts.{is_boxed, scope_of}
use Rattle.blackbox_cut.specs.Boxes.{is_among}
use Rattle.blackbox_cut.proofs.cut.cut_items.Given as goal

abbrev pub invariant-loop-item : goal.invariant-loop-item
invariant-loop-item l = l.all ≡ filter (λ i. not (is_boxed l.design.scopes (is_among l.closed) (scope_of i))) (take l.item-index l.design.items)
