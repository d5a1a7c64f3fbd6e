-- One place of a sum.
use Rattle.std.specs.Prelude.{ℕ, Bool, List, if◌then◌else◌}
use Rattle.bits_core.specs.Places.{exclusive_or}
use Rattle.cyc_net.specs.declared.node.Node.{Node}
use Rattle.cyc_net.specs.Nets.{value}
use Rattle.net_ops.specs.Words.{IsBit}

-- the digit of a sum or a difference, and what goes to the next place
pub record IsPlace (old : List Node) (subtract : Bool) (a b carry : ℕ) (new : List Node) (digit next : ℕ) : Type 0 where
  pub sum : IsBit new digit (λ v. exclusive_or (exclusive_or (value old v a) (value old v b)) (value old v carry))
  pub carried : IsBit new next (λ v. if exclusive_or (value old v a) (value old v b) then (if subtract then value old v b else value old v carry) else (if subtract then value old v carry else value old v b))
