use Rattle.std.proofs.Common.{◌≡◌, drop, map}
use Rattle.vl_names.specs.Names.{listed}
use Rattle.vl_size.specs.Terms.{terms}
use Rattle.vl_nets.specs.Nets.{lval_term}
use Rattle.vl_calls.specs.Called.{in_terms}
use Rattle.vl_calls.proofs.calls.+in_lval.Given as goal

abbrev pub invariant-in_lvals-loop-lval : goal.invariant-in_lvals-loop-lval
invariant-in_lvals-loop-lval l = in_terms (listed l.all) (terms (map lval_term (drop l.lval-index l.lvals))) ≡ in_terms (listed l.fn.before) (terms (map lval_term l.lvals))
