use Rattle.std.proofs.Common.{◌≡◌, drop}
use Rattle.bits_core.specs.Places.{exclusive_or}
use Rattle.design_core.specs.Operators.{is_odd}
use Rattle.value_domain.proofs.operators.odd_set.Given as goal

abbrev pub invariant-loop-at : goal.invariant-loop-at
invariant-loop-at l = exclusive_or l.odd (is_odd (drop l.at l.bits)) ≡ is_odd l.bits
