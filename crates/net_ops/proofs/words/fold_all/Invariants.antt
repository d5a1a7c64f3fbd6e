use Rattle.std.proofs.Common.{take}
use Rattle.cyc_net.specs.Nets.{value, Gated}
use Rattle.net_ops.specs.Words.{IsBit, folded, gate_of, read}
use Rattle.net_ops.proofs.words.fold_all.Given as goal

abbrev pub invariant-loop-at : goal.invariant-loop-at
invariant-loop-at l = record {
  kept : Gated l.initial.net l.net;
  done : IsBit l.net l.so_far (λ v. folded (gate_of l.kind) (value l.initial.net v l.start) (take l.at (read l.initial.net v l.a)));
}
