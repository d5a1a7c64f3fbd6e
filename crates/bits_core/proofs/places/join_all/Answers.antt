use Rattle.std.proofs.Common.{arith}
use Rattle.bits_core.specs.Joint.{joint_of}
use Rattle.bits_core.proofs.PlaceLaws.{zip_with_by}
use Rattle.bits_core.proofs.places.join_all.Goals as goal

pub returns : goal.returns
returns c = zip_with_by (joint_of _) _ _ _ (omega arith) (omega arith) (λ k l. c.loop-at.invariant.done k (omega arith))
