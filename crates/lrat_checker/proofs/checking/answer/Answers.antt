use Rattle.std.proofs.Common.{ℕ, List, All, sym, subst}
use Rattle.cnf_core.specs.declared.lit.Lit.{Lit}
use Rattle.lrat_checker.specs.Index.{Fits}
use Rattle.lrat_checker.proofs.checking.answer.Goals as goal

pub check_steps-requires-clause-formula_fits : goal.check_steps-requires-clause-formula_fits
check_steps-requires-clause-formula_fits c =
    let vs = c.as_slice-4.result.now in
    subst (λ (cs : List (List Lit)). All (Fits vs) cs) (sym c.as_slice-2.ensures)
    (subst (λ (us : List ℕ). All (Fits us) c.args.formula.now.clauses) (sym c.as_slice-4.ensures.value) c.requires.formula_fits)
