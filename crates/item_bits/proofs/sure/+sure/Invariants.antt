use Rattle.std.proofs.Common.{take}
use Rattle.std.specs.List.{list_any}
use Rattle.design_core.specs.Core.{surely_names}
use Rattle.design_core.specs.Parts.{length_at}
use Rattle.design_core.specs.Terms.{left}
use Rattle.item_bits.specs.Pieces.{Adds}
use Rattle.item_bits.proofs.sure.+sure.Given as goal

abbrev pub invariant-loop-at : goal.invariant-loop-at
invariant-loop-at l = Adds l.fn.all.items l.all.items (λ b. list_any (λ x. surely_names (left (length_at l.signals) x) b) (take l.at l.parts))
