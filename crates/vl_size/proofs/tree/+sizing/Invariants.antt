use denote.Param.Weighed.{most}
use Rattle.std.proofs.Common.{◌≤◌, IfSome}
use Rattle.vl_size.specs.declared.tree.Sizing.{size-Sizing}
use Rattle.vl_size.proofs.tree.+sizing.Given as goal

abbrev pub invariant-Sizing::drop-loop-first : goal.invariant-Sizing::drop-loop-first
invariant-Sizing::drop-loop-first l = size-Sizing l.self ≤ size-Sizing l.initial.self

abbrev pub invariant-first_of-loop-part : goal.invariant-first_of-loop-part
invariant-first_of-loop-part l = record {
  list : most size-Sizing l.list.items ≤ most size-Sizing l.fn.parts;
  first : IfSome l.first (λ part. size-Sizing part ≤ most size-Sizing l.fn.parts);
}

abbrev pub decreases-first_of-loop-part : goal.decreases-first_of-loop-part
decreases-first_of-loop-part l = goal.left-first_of-loop-part l
