use Rattle.net_ops.proofs.WordSums.{Product}
use Rattle.net_ops.proofs.arithmetic.product.Given as goal

abbrev pub invariant-loop-from : goal.invariant-loop-from
invariant-loop-from l = Product l.initial.net l.a l.b l.net l.out.items l.from
