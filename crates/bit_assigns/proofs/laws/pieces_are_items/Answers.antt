use Rattle.std.proofs.Common.{◌∙◌}
use Rattle.design_core.specs.Parts.{length_at}
use Rattle.design_core.specs.Wellformed.{signal_lengths}
use Rattle.bit_assigns.specs.Pieces.{bit_assigns}
use Rattle.bit_assigns.specs.Sides.{left_bits, right_bits}
use Rattle.bit_assigns.proofs.FitLaws.{kept, pieces_fit, pieces_weigh}
use Rattle.bit_assigns.proofs.laws.pieces_are_items.Goals as goal

pub returns-clause-fit : goal.returns-clause-fit
unfolding bit_assigns
returns-clause-fit c = λ signals scopes scope weight l e plain.
    let k = kept signals scopes scope weight l e plain in
    pieces_fit (signal_lengths signals) (length_at signals) scopes scope k.stands (left_bits (length_at signals) l) (right_bits e) k.targets k.sources

pub returns-clause-weigh : goal.returns-clause-weigh
unfolding bit_assigns
returns-clause-weigh c = λ signals scopes scope weight l e plain.
    pieces_weigh scope (left_bits (length_at signals) l) (right_bits e) ∙ (kept signals scopes scope weight l e plain).weighs
