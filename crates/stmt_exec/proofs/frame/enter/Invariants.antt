use Rattle.std.proofs.Common.{◌∷◌, ◌++◌, false, map, take, replicate}
use Rattle.design_core.specs.Core.{fitted}
use Rattle.design_core.specs.Terms.{lengths}
use Rattle.value_domain.specs.Meaning.{Keeps}
use Rattle.stmt_exec.specs.State.{Standing}
use Rattle.stmt_exec.proofs.frame.enter.Given as goal

abbrev pub invariant-loop-at : goal.invariant-loop-at
invariant-loop-at g l = record {
  kept : Keeps g.D.Domain.meaning l.fn.domain l.domain;
  stands : Standing g.D.Domain.meaning l.domain l.all.items (l.size ∷ take l.at (lengths l.inputs))
      (λ v. replicate l.size false ∷ fitted (take l.at (lengths l.inputs)) (map (λ w. g.D.Domain.meaning.reads l.fn.domain v w.value) l.arguments));
}

abbrev pub invariant-loop-at-2 : goal.invariant-loop-at-2
invariant-loop-at-2 g l = record {
  kept : Keeps g.D.Domain.meaning l.fn.domain l.domain;
  stands : Standing g.D.Domain.meaning l.domain l.all.items (l.size ∷ (lengths l.inputs ++ take l.at (lengths l.rest)))
      (λ v. replicate l.size false ∷ (fitted (lengths l.inputs) (map (λ w. g.D.Domain.meaning.reads l.fn.domain v w.value) l.arguments) ++ map (λ k. replicate k false) (take l.at (lengths l.rest))));
}
