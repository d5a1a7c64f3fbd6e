use Rattle.std.proofs.Common.{rules, arith, append_assoc, ◌∷◌, [], replicate}
use Rattle.std.proofs.lemmas.Grind.{common_steps}
use Rattle.std.proofs.lemmas.List.{replicate_more}
use Rattle.vl_generate.proofs.functions.each_of.Goals as goal

pub loop-turn-preserved : goal.loop-turn-preserved
loop-turn-preserved c =
    let more = replicate_more c.loop-turn.turn c.args.length in
    let moved = append_assoc c.args.before (replicate c.loop-turn.turn c.args.length) (c.args.length ∷ []) in
    first_of (search rules, grind (arith, common_steps))
