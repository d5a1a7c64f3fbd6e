use Rattle.bits_core.specs.Places.{zip_with}
use Rattle.net_ops.specs.Words.{gate_of, read}
use Rattle.net_ops.proofs.BuiltLaws.{Built}
use Rattle.net_ops.proofs.words.join_all.Given as goal

abbrev pub invariant-loop-at : goal.invariant-loop-at
invariant-loop-at l = Built l.initial.net l.net l.out l.at (λ v. zip_with (gate_of l.kind) (read l.initial.net v l.a) (read l.initial.net v l.b))
