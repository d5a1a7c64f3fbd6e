use denote.Param.Weighed.{most}
use Rattle.std.proofs.Common.{◌≡◌, ℕ, ◌+◌, ◌*◌, max, Bool, map, take, drop}
use Rattle.design_core.specs.declared.tree.DExpr.{size-DExpr}
use Rattle.design_core.specs.declared.tree.DStmt.{size-DStmt}
use Rattle.design_core.specs.declared.tree.DLeft.{size-DLeft}
use Rattle.design_core.specs.declared.tree.DFunction.{size-DFunction}
use Rattle.design_core.specs.Core.{exec}
use Rattle.design_core.specs.Terms.{stmt}
use Rattle.tree_parts.specs.Parts.{children_of, heads_of, seen}
use Rattle.value_domain.specs.Meaning.{Keeps}
use Rattle.value_domain.specs.Words.{allows}
use Rattle.stmt_exec.specs.Choices.{AreGuards, allowed_of, run_each}
use Rattle.stmt_exec.specs.State.{IsLike, expr_value, locals_in, ran, signals_in, size_for, state_in}
use Rattle.stmt_exec.specs.Runs.{AreResolved, AreWorth}
use Rattle.stmt_exec.proofs.walk.+walk.Given as goal

abbrev pub decreases-eval_in : goal.decreases-eval_in
decreases-eval_in g l = 2 * size-DExpr l.e.now

abbrev pub decreases-eval_all : goal.decreases-eval_all
decreases-eval_all g l = 2 * most size-DExpr (seen l.parts.now) + 1

abbrev pub decreases-call : goal.decreases-call
decreases-call g l = 2 * size-DFunction l.function.now

abbrev pub decreases-exec_in : goal.decreases-exec_in
decreases-exec_in g l = 2 * size-DStmt l.body.now + 1

abbrev pub decreases-decide : goal.decreases-decide
decreases-decide g l = 2 * size-DStmt l.body.now

abbrev pub decreases-exec_write : goal.decreases-exec_write
decreases-exec_write g l = 2 * max (size-DLeft l.left.now) (size-DExpr l.right.now) + 1

abbrev pub decreases-resolve_at : goal.decreases-resolve_at
decreases-resolve_at g l = 2 * size-DExpr l.index.now + 1

abbrev pub decreases-resolve : goal.decreases-resolve
decreases-resolve g l = 2 * size-DLeft l.left.now

-- the values of the first parts
abbrev pub invariant-eval_all-loop-at : goal.invariant-eval_all-loop-at
invariant-eval_all-loop-at g l = record {
  kept : Keeps g.D.Domain.meaning l.fn.domain l.domain;
  worth : AreWorth g.D.Domain.meaning l.fn.domain l.domain l.signals l.locals (take l.at (seen l.parts)) l.words.items;
}

-- what is left to be run, run now, is the whole at the start
abbrev pub invariant-exec_in-loop-at : goal.invariant-exec_in-loop-at
invariant-exec_in-loop-at g l = record {
  kept : Keeps g.D.Domain.meaning l.fn.domain l.domain;
  like : IsLike g.D.Domain.meaning l.domain l.inside l.outer l.now l.next l.fn.now;
  guards_are : AreGuards g.D.Domain.meaning l.domain l.guards.items
      (λ v. allowed_of l.body (allows g.D.Domain.meaning l.fn.domain v l.guard)
      (map (λ e. expr_value g.D.Domain.meaning l.fn.domain (signals_in l.inside l.outer l.fn.now) (locals_in l.inside l.outer l.fn.now) e v) (heads_of l.body)));
  rest : (v : ℕ → Bool) →
      run_each (drop l.at (map (allows g.D.Domain.meaning l.domain v) l.guards.items))
      (map (stmt (size_for g.D.Domain.meaning l.inside l.outer l.fn.now)) (drop l.at (children_of l.body)))
      (state_in g.D.Domain.meaning l.domain v l.inside l.outer l.now l.next)
      ≡ ran (allows g.D.Domain.meaning l.fn.domain v l.guard)
      (exec (stmt (size_for g.D.Domain.meaning l.inside l.outer l.fn.now) l.body) (state_in g.D.Domain.meaning l.fn.domain v l.inside l.outer l.fn.now l.fn.next))
      (state_in g.D.Domain.meaning l.fn.domain v l.inside l.outer l.fn.now l.fn.next);
}

-- the targets of the first parts
abbrev pub invariant-resolve-loop-at : goal.invariant-resolve-loop-at
invariant-resolve-loop-at g l = record {
  kept : Keeps g.D.Domain.meaning l.fn.domain l.domain;
  first : AreResolved g.D.Domain.meaning l.fn.domain l.domain l.inside l.outer l.now (take l.at l.parts) l.all.items;
}
