use Rattle.std.proofs.Common.{◌≡◌, ◌+◌, ◌-◌, ◌≤◌, length, drop}
use Rattle.vl_lex.specs.Pieces.{blank_len, blanks}
use Rattle.vl_lex.proofs.pieces.blanks_len.Given as goal

abbrev pub invariant-loop-len : goal.invariant-loop-len
invariant-loop-len l = record {
  goes_on : l.at + blanks 0 (drop l.at l.bytes) ≡ blanks 0 l.bytes;
  next : l.len ≡ blank_len (drop l.at l.bytes);
  within : l.at + l.len ≤ length l.bytes;
}

abbrev pub decreases-loop-len : goal.decreases-loop-len
decreases-loop-len l = length l.bytes - l.at
