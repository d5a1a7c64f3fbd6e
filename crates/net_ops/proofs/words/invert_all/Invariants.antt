use Rattle.std.proofs.Common.{map, not}
use Rattle.net_ops.specs.Words.{read}
use Rattle.net_ops.proofs.BuiltLaws.{Built}
use Rattle.net_ops.proofs.words.invert_all.Given as goal

abbrev pub invariant-loop-at : goal.invariant-loop-at
invariant-loop-at l = Built l.initial.net l.net l.out l.at (λ v. map not (read l.initial.net v l.a))
