use Rattle.std.proofs.Common.{◌≡◌, map, take}
use Rattle.design_core.specs.Renumbered.{number_in, renumbered_arm, renumbered_expr, renumbered_left, renumbered_match, renumbered_stmt}
use Rattle.design_copy.proofs.renumber.+renumbers.Given as goal

-- what was copied so far is the front of the list, under the new numbers
abbrev pub invariant-renumber_exprs-loop-part : goal.invariant-renumber_exprs-loop-part
invariant-renumber_exprs-loop-part l = l.copied ≡ map (renumbered_expr (number_in l.numbers)) (take l.part-index l.parts)

abbrev pub invariant-renumber_lefts-loop-part : goal.invariant-renumber_lefts-loop-part
invariant-renumber_lefts-loop-part l = l.copied ≡ map (renumbered_left (number_in l.numbers)) (take l.part-index l.parts)

abbrev pub invariant-renumber_stmts-loop-part : goal.invariant-renumber_stmts-loop-part
invariant-renumber_stmts-loop-part l = l.copied ≡ map (renumbered_stmt (number_in l.numbers)) (take l.part-index l.parts)

abbrev pub invariant-renumber_arms-loop-arm : goal.invariant-renumber_arms-loop-arm
invariant-renumber_arms-loop-arm l = l.copied ≡ map (renumbered_arm (number_in l.numbers)) (take l.arm-index l.arms)

abbrev pub invariant-renumber_matches-loop-item : goal.invariant-renumber_matches-loop-item
invariant-renumber_matches-loop-item l = l.copied ≡ map (renumbered_match (number_in l.numbers)) (take l.item-index l.items)
