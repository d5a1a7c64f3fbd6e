-- The operators that join two bits.
use Rattle.std.specs.Prelude.{Bool, ◌&&◌, ◌||◌}
use Rattle.bits_core.specs.Places.{exclusive_or}
use Rattle.bits_core.specs.declared.places.Joint.{Joint}
use Rattle.bits_core.specs.declared.places.Joint.TheVariants as joint

abbrev pub joint_of : Joint → Bool → Bool → Bool
joint_of joint.And a b = a && b
joint_of joint.Or a b = a || b
joint_of joint.Xor a b = exclusive_or a b
