use Rattle.std.proofs.Common.{replicate}
use Rattle.stmt_exec.specs.Choices.{AreGuards}
use Rattle.value_domain.specs.Meaning.{Keeps}
use Rattle.value_domain.specs.Words.{allows}
use Rattle.stmt_exec.proofs.choices.copies.Given as goal

abbrev pub invariant-loop-at : goal.invariant-loop-at
invariant-loop-at g l = record {
  kept : Keeps g.D.Domain.meaning l.fn.domain l.domain;
  made : AreGuards g.D.Domain.meaning l.domain l.guards.items (λ v. replicate l.at (allows g.D.Domain.meaning l.fn.domain v l.guard));
}
