use Rattle.design_core.specs.Parts.{length_at}
use Rattle.bit_assigns.specs.Pieces.{bit_assigns}
use Rattle.bit_assigns.specs.Sides.{left_bits}
use Rattle.bit_assigns.proofs.FitLaws.{kept}
use Rattle.bit_assigns.proofs.ReadLaws.{pieces_read}
use Rattle.bit_assigns.proofs.laws.pieces_read_no_more.Goals as goal

pub returns : goal.returns
unfolding bit_assigns
returns c = λ signals scopes scope weight l e plain x i b r.
    pieces_read signals scope weight l e plain.right (kept signals scopes scope weight l e plain).sources (left_bits (length_at signals) l) x i b r
