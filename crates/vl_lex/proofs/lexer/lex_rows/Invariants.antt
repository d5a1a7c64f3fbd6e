use Rattle.std.proofs.Common.{◌≡◌, ◌+◌, ◌-◌, ◌≤◌, length, drop, map}
use Rattle.vl_lex.specs.Lexed.{placed, lexed, with_tokens, file_tokens}
use Rattle.vl_lex.proofs.lexer.lex_rows.Given as goal

abbrev pub invariant-loop-here : goal.invariant-loop-here
invariant-loop-here l = record {
  goes_on : with_tokens (map placed l.found) (lexed l.file 0 l.here (drop l.here.at l.bytes)) ≡ file_tokens l.file l.bytes;
  within : l.here.at ≤ length l.bytes;
  lines : l.here.line ≤ l.here.at + 1;
  rows : l.here.row ≤ l.here.at;
}

abbrev pub decreases-loop-here : goal.decreases-loop-here
decreases-loop-here l = length l.bytes - l.here.at
