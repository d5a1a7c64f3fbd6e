use Rattle.std.proofs.Common.{◌≡◌, drop}
use Rattle.std.specs.List.{list_all}
use Rattle.value_domain.proofs.operators.all_set.Given as goal

-- the rest decides
abbrev pub invariant-loop-at : goal.invariant-loop-at
invariant-loop-at l = list_all (λ bit. bit) (drop l.at l.bits) ≡ list_all (λ bit. bit) l.bits
