use Rattle.std.proofs.Common.{cond}
use Rattle.cyc_net.specs.Nets.{value}
use Rattle.net_ops.specs.Words.{read}
use Rattle.net_ops.proofs.BuiltLaws.{Built}
use Rattle.net_ops.proofs.words.choose_all.Given as goal

abbrev pub invariant-loop-at : goal.invariant-loop-at
invariant-loop-at l = Built l.initial.net l.net l.out l.at (λ v. cond (value l.initial.net v l.test) (read l.initial.net v l.a) (read l.initial.net v l.b))
