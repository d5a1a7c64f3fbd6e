use Rattle.std.proofs.Common.{◌≡◌, false, drop}
use Rattle.vl_lex.specs.Pieces.{quote_end}
use Rattle.vl_lex.proofs.pieces.quote_end.Given as goal

abbrev pub invariant-loop-at : goal.invariant-loop-at
invariant-loop-at l = quote_end l.at l.guarded (drop l.at l.bytes) ≡ quote_end 0 false l.bytes
