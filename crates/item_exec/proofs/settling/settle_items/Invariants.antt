use Rattle.std.proofs.Common.{◌≡◌, ℕ, Bool, map, take}
use Rattle.stmt_exec.specs.State.{IsEnv, assignment}
use Rattle.value_domain.specs.Meaning.{Keeps}
use Rattle.design_core.specs.Numbers.{chosen_cells}
use Rattle.item_exec.specs.Passes.{IsSettled, cell_in}
use Rattle.item_exec.proofs.settling.settle_items.Given as goal

-- the cells so far have been settled
abbrev pub invariant-loop-at : goal.invariant-loop-at
invariant-loop-at g l = record {
  kept : Keeps g.D.Domain.meaning l.fn.domain l.domain;
  like : IsEnv g.D.Domain.meaning l.domain l.now l.next;
  wide : map g.D.Domain.meaning.width l.now ≡ map g.D.Domain.meaning.width l.fn.now;
  done : (v : ℕ → Bool) → IsSettled (take l.at (chosen_cells (map (cell_in (map g.D.Domain.meaning.width l.fn.now)) l.items) l.order))
      (assignment (map (g.D.Domain.meaning.reads l.fn.domain v) l.fn.next)) (assignment (map (g.D.Domain.meaning.reads l.fn.domain v) l.fn.now))
      (assignment (map (g.D.Domain.meaning.reads l.domain v) l.next)) (assignment (map (g.D.Domain.meaning.reads l.domain v) l.now));
}
