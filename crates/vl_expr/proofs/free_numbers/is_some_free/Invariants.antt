use Rattle.std.proofs.Common.{◌≡◌, drop}
use Rattle.vl_expr.specs.FreeNumbers.{is_some_free}
use Rattle.vl_expr.proofs.free_numbers.is_some_free.Given as goal

abbrev pub invariant-loop-token : goal.invariant-loop-token
invariant-loop-token l = is_some_free (drop l.token-index l.tokens) ≡ is_some_free l.tokens
