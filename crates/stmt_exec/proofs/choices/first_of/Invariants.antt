use Rattle.std.proofs.Common.{◌≡◌, ℕ, Bool, ◌++◌, map, drop, All}
use Rattle.bits_core.specs.Places.{is_set}
use Rattle.stmt_exec.specs.Choices.{firsts}
use Rattle.value_domain.specs.Meaning.{Keeps}
use Rattle.value_domain.specs.Words.{IsGuard, allows}
use Rattle.stmt_exec.proofs.choices.first_of.Given as goal

-- the guards so far and what the guard that is left gives on the tests that are left are the whole
abbrev pub invariant-loop-at : goal.invariant-loop-at
invariant-loop-at g l = record {
  kept : Keeps g.D.Domain.meaning l.fn.domain l.domain;
  are : All (IsGuard g.D.Domain.meaning l.domain) l.guards.items;
  left_is : IsGuard g.D.Domain.meaning l.domain l.left;
  rest : (v : ℕ → Bool) → map (allows g.D.Domain.meaning l.domain v) l.guards.items
      ++ firsts (allows g.D.Domain.meaning l.domain v l.left) (map (λ x. is_set (g.D.Domain.meaning.reads l.fn.domain v x)) (drop l.at l.tests))
      ≡ firsts (allows g.D.Domain.meaning l.fn.domain v l.guard) (map (λ x. is_set (g.D.Domain.meaning.reads l.fn.domain v x)) l.tests);
}
