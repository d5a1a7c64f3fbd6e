use Rattle.std.proofs.Common.{◌≡◌, ℕ, Bool, map, drop, sum_by, All, if◌then◌else◌}
use Rattle.stmt_exec.specs.Aims.{all_written, hit_of}
use Rattle.value_domain.specs.Meaning.{Keeps}
use Rattle.value_domain.specs.Words.{allows}
use Rattle.stmt_exec.proofs.aims.write_all.Given as goal

-- what is left to be written, written now, is the whole written at the start
abbrev pub invariant-loop-at : goal.invariant-loop-at
invariant-loop-at g l = record {
  kept : Keeps g.D.Domain.meaning l.fn.domain l.domain;
  are : All (g.D.Domain.meaning.is_value l.domain) l.vectors;
  wide : map g.D.Domain.meaning.width l.vectors ≡ map g.D.Domain.meaning.width l.fn.vectors;
  bits : l.left ≡ sum_by (λ t. t.length) (drop l.at l.targets);
  rest : (v : ℕ → Bool) → (if allows g.D.Domain.meaning l.fn.domain v l.guard
      then all_written (map (hit_of g.D.Domain.meaning l.fn.domain v) (drop l.at l.targets)) (g.D.Domain.meaning.reads l.fn.domain v l.value) (map (g.D.Domain.meaning.reads l.domain v) l.vectors)
      else map (g.D.Domain.meaning.reads l.domain v) l.vectors)
      ≡ (if allows g.D.Domain.meaning l.fn.domain v l.guard
      then all_written (map (hit_of g.D.Domain.meaning l.fn.domain v) l.targets) (g.D.Domain.meaning.reads l.fn.domain v l.value) (map (g.D.Domain.meaning.reads l.fn.domain v) l.fn.vectors)
      else map (g.D.Domain.meaning.reads l.fn.domain v) l.fn.vectors);
}
