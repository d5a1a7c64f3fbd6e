use Rattle.std.proofs.Common.{◌≡◌, map, take}
use Rattle.cyc_net.specs.declared.cycle.BitNode.{BitNode}
use Rattle.unroller.specs.Tables.{read_node}
use Rattle.unroller.proofs.unrolling.frame_of.Given as goal

abbrev pub invariant-loop-bit : goal.invariant-loop-bit
invariant-loop-bit l = l.frame ≡ map (λ (p : BitNode). record { bit = p.bit; node = read_node l.copies p.node }) (take l.bit-index l.bits)
