use Rattle.std.proofs.Common.{◌≡◌, drop, map}
use Rattle.vl_names.specs.Outward.{all, is_known}
use Rattle.vl_names.specs.Tables.{table}
use Rattle.vl_nets.specs.Nets.{use_terms, lval_term}
use Rattle.vl_size.specs.Terms.{terms}
use Rattle.vl_nets.proofs.nets.+use_lval.Given as goal

abbrev pub invariant-use_lvals-loop-lval : goal.invariant-use_lvals-loop-lval
invariant-use_lvals-loop-lval l = use_terms (is_known (table l.outside.variable.now) (all l.outside.scopes.now) l.outside.outer) (table l.all) (terms (map lval_term (drop l.lval-index l.lvals))) ≡ use_terms (is_known (table l.outside.variable.now) (all l.outside.scopes.now) l.outside.outer) (table l.fn.before) (terms (map lval_term l.lvals))
