use Rattle.std.proofs.Common.{◌≡◌, ◌-◌}
use Rattle.vl_generate.specs.Turns.{values, with_front, goes_on, stepped}
use Rattle.vl_generate.proofs.loops.values.Given as goal

abbrev pub invariant-loop-turn : goal.invariant-loop-turn
invariant-loop-turn g l = values l.limit (goes_on (g.S.Constants.meaning l.scope) l.head l.entry) (stepped (g.S.Constants.meaning l.scope) l.head l.entry) l.fn.first ≡ with_front l.all (values (l.limit - l.turn) (goes_on (g.S.Constants.meaning l.scope) l.head l.entry) (stepped (g.S.Constants.meaning l.scope) l.head l.entry) l.value)
