use Rattle.std.proofs.Common.{◌≡◌, drop}
use Rattle.vl_size.specs.Sizings.{faults_after, faults_of}
use Rattle.vl_size.proofs.nodes.faults_of.Given as goal

abbrev pub invariant-loop-part : goal.invariant-loop-part
invariant-loop-part l = faults_after l.lowest (drop l.part-index l.parts) ≡ faults_of l.parts
