use Rattle.std.proofs.Common.{◌≡◌, drop}
use Rattle.vl_generate.specs.Values.{joint_size}
use Rattle.vl_generate.proofs.values.joint_size.Given as goal

abbrev pub invariant-loop-expr : goal.invariant-loop-expr
invariant-loop-expr g l = joint_size (g.S.Constants.meaning l.scope) l.all (drop l.expr-index l.exprs) ≡ joint_size (g.S.Constants.meaning l.scope) l.fn.size l.exprs
