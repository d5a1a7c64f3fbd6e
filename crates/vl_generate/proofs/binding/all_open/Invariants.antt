use Rattle.std.proofs.Common.{◌≡◌, replicate}
use Rattle.vl_generate.specs.Overrides.{nothing_bound}
use Rattle.vl_generate.proofs.binding.all_open.Given as goal

abbrev pub invariant-loop-turn : goal.invariant-loop-turn
invariant-loop-turn l = l.all ≡ replicate l.turn nothing_bound
