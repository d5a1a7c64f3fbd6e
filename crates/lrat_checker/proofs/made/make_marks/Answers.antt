use Rattle.std.proofs.Common.{◌≤◌, false, List, All, sym, subst, rules, arith}
use Rattle.cnf_core.specs.declared.lit.Lit.{Lit}
use Rattle.cnf_core.specs.declared.formula.Step.{Step}
use Rattle.std.proofs.lemmas.List.Elements.{All-replicate}
use Rattle.lrat_checker.specs.declared.stamps.Mark.{Mark}
use Rattle.lrat_checker.specs.Index.{Fits, StepFits}
use Rattle.lrat_checker.proofs.made.make_marks.Goals as goal

abbrev is_old : Mark → Type 0
is_old m = m.stamp ≤ 0

pub returns : goal.returns
returns c = record {
  ascend = c.in_ok-variables.ensures.ascend;
  size = search rules;
  formula_fits = subst (λ (cs : List (List Lit)). All (Fits c.in_ok-variables.variables.items) cs) c.as_slice.ensures c.in_ok-variables.ensures.formula_fits;
  log_fits = subst (λ (ss : List Step). All (StepFits c.in_ok-variables.variables.items) ss) c.as_slice-2.ensures c.in_ok-variables.ensures.log_fits;
  unused = subst (All is_old) (sym (c.in_ok-values.ensures.items_if_clones_equal (λ y e. e))) (All-replicate is_old c.len.result (record { stamp = 0; value = false }) (omega arith));
  entries = search rules;
}
