use denote.Param.Weighed.{most}
use Rattle.std.proofs.Common.{◌≤◌, IfSome}
use Rattle.vl_size.specs.declared.sizes.SizedExpr.{size-SizedExpr}
use Rattle.vl_size.proofs.sizes.+sized.Given as goal

abbrev pub invariant-SizedExpr::drop-loop-first : goal.invariant-SizedExpr::drop-loop-first
invariant-SizedExpr::drop-loop-first l = size-SizedExpr l.self ≤ size-SizedExpr l.initial.self

abbrev pub invariant-first_of-loop-part : goal.invariant-first_of-loop-part
invariant-first_of-loop-part l = record {
  list : most size-SizedExpr l.list.items ≤ most size-SizedExpr l.fn.parts;
  first : IfSome l.first (λ part. size-SizedExpr part ≤ most size-SizedExpr l.fn.parts);
}

abbrev pub decreases-first_of-loop-part : goal.decreases-first_of-loop-part
decreases-first_of-loop-part l = goal.left-first_of-loop-part l
