use Rattle.std.proofs.Common.{◌≡◌, ◌-◌, length}
use Rattle.vl_names.specs.Outward.{outward, all}
use Rattle.vl_names.proofs.outward.outward.Given as goal

abbrev pub invariant-loop-turn : goal.invariant-loop-turn
invariant-loop-turn l = outward (length l.scopes) l.name (all l.scopes) l.fn.from ≡ outward (l.turn-end - l.turn) l.name (all l.scopes) l.at
