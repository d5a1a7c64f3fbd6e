use Rattle.std.proofs.Common.{◌≡◌, drop, map}
use Rattle.vl_size.specs.Terms.{terms}
use Rattle.vl_nets.specs.Nets.{lval_term}
use Rattle.vl_acts.specs.Writes.{some_term_writes}
use Rattle.vl_acts.proofs.writes.+lval_writes.Given as goal

abbrev pub invariant-some_lval_writes-loop-lval : goal.invariant-some_lval_writes-loop-lval
invariant-some_lval_writes-loop-lval l = some_term_writes l.name (terms (map lval_term (drop l.lval-index l.lvals))) ≡ some_term_writes l.name (terms (map lval_term l.lvals))
