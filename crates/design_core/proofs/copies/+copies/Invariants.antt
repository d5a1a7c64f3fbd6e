use Rattle.std.proofs.Common.{◌≡◌, take}
use Rattle.design_core.proofs.copies.+copies.Given as goal

-- what was copied so far is the front of the list
abbrev pub invariant-copy_exprs-loop-part : goal.invariant-copy_exprs-loop-part
invariant-copy_exprs-loop-part l = l.copied ≡ take l.part-index l.parts

abbrev pub invariant-copy_lefts-loop-part : goal.invariant-copy_lefts-loop-part
invariant-copy_lefts-loop-part l = l.copied ≡ take l.part-index l.parts

abbrev pub invariant-copy_stmts-loop-part : goal.invariant-copy_stmts-loop-part
invariant-copy_stmts-loop-part l = l.copied ≡ take l.part-index l.parts

abbrev pub invariant-copy_arms-loop-arm : goal.invariant-copy_arms-loop-arm
invariant-copy_arms-loop-arm l = l.copied ≡ take l.arm-index l.arms

abbrev pub invariant-copy_matches-loop-item : goal.invariant-copy_matches-loop-item
invariant-copy_matches-loop-item l = l.copied ≡ take l.item-index l.items
