use Rattle.std.proofs.Common.{◌≡◌, drop}
use Rattle.std.specs.List.{list_any}
use Rattle.value_domain.proofs.operators.some_set.Given as goal

-- the rest decides
abbrev pub invariant-loop-at : goal.invariant-loop-at
invariant-loop-at l = list_any (λ bit. bit) (drop l.at l.bits) ≡ list_any (λ bit. bit) l.bits
