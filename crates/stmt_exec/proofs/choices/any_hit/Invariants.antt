use Rattle.std.proofs.Common.{◌≡◌, ℕ, Bool, ◌||◌, map, drop}
use Rattle.bits_core.specs.Places.{is_set}
use Rattle.stmt_exec.specs.Choices.{some_hit}
use Rattle.value_domain.specs.Meaning.{Keeps}
use Rattle.stmt_exec.proofs.choices.any_hit.Given as goal

-- an item so far or one of those that are left matches where one of all does
abbrev pub invariant-loop-at : goal.invariant-loop-at
invariant-loop-at g l = record {
  kept : Keeps g.D.Domain.meaning l.fn.domain l.domain;
  is_one : g.D.Domain.meaning.is_value l.domain l.any;
  rest : (v : ℕ → Bool) → (is_set (g.D.Domain.meaning.reads l.domain v l.any)
      || some_hit (drop l.at l.items) (g.D.Domain.meaning.reads l.fn.domain v l.selector.value) (drop l.at (map (λ w. g.D.Domain.meaning.reads l.fn.domain v w.value) l.values)))
      ≡ some_hit l.items (g.D.Domain.meaning.reads l.fn.domain v l.selector.value) (map (λ w. g.D.Domain.meaning.reads l.fn.domain v w.value) l.values);
}
