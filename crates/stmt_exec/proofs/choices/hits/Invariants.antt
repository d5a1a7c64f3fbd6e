use Rattle.std.proofs.Common.{◌≡◌, ℕ, ◌≤◌, Bool, ◌++◌, length, map, drop, All}
use Rattle.bits_core.specs.Places.{is_set}
use Rattle.stmt_exec.specs.Choices.{arm_hits}
use Rattle.tree_parts.specs.Parts.{items_of}
use Rattle.value_domain.specs.Meaning.{Keeps}
use Rattle.stmt_exec.proofs.choices.hits.Given as goal

-- the values that are left are those of the items of the arms that are left
abbrev pub invariant-loop-at : goal.invariant-loop-at
invariant-loop-at g l = record {
  kept : Keeps g.D.Domain.meaning l.fn.domain l.domain;
  are : All (g.D.Domain.meaning.is_value l.domain) l.all.items;
  within : l.from ≤ length l.values;
  long : map (λ w. w.length) (drop l.from l.values) ≡ map (λ e. e.length) (items_of (drop l.at l.arms));
  rest : (v : ℕ → Bool) → map (λ x. is_set (g.D.Domain.meaning.reads l.domain v x)) l.all.items
      ++ arm_hits (drop l.at l.arms) (g.D.Domain.meaning.reads l.fn.domain v l.selector.value) (drop l.from (map (λ w. g.D.Domain.meaning.reads l.fn.domain v w.value) l.values))
      ≡ arm_hits l.arms (g.D.Domain.meaning.reads l.fn.domain v l.selector.value) (map (λ w. g.D.Domain.meaning.reads l.fn.domain v w.value) l.values);
}
