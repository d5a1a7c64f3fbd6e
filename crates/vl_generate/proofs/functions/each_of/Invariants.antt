use Rattle.std.proofs.Common.{◌≡◌, ◌++◌, replicate}
use Rattle.vl_generate.proofs.functions.each_of.Given as goal

abbrev pub invariant-loop-turn : goal.invariant-loop-turn
invariant-loop-turn l = l.all ≡ l.fn.before ++ replicate l.turn l.length
