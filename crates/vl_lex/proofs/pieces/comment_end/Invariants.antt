use Rattle.std.proofs.Common.{◌≡◌, false, drop}
use Rattle.vl_lex.specs.Pieces.{comment_end}
use Rattle.vl_lex.proofs.pieces.comment_end.Given as goal

abbrev pub invariant-loop-at : goal.invariant-loop-at
invariant-loop-at l = comment_end l.at l.star (drop l.at l.bytes) ≡ comment_end 0 false l.bytes
