use Rattle.std.proofs.Common.{◌++◌, ◌≡◌, List, ℕ, ap, ◌∙◌, subst}
use Rattle.std.specs.List.{flat_map}
use Rattle.std.specs.List.Sorted.{IsPermutation}
use Rattle.std.proofs.lemmas.List.Filters.{dedup_is}
use Rattle.std.proofs.lemmas.Map.Keys.{IsStrictlyIncreasing-dedup}
use Rattle.lrat_checker.specs.Index.{clause_variables, step_variables, all_variables}
use Rattle.lrat_checker.proofs.RaiseLaws.{formula_fits, log_fits}
use Rattle.lrat_checker.proofs.made.variables_of.Goals as goal

moved : (c : goal.After-dedup) → IsPermutation (all_variables c.args.formula.now c.args.log.now) c.sort_unstable.new.self.items
moved c =
    let cs = c.args.formula.now in
    let log = c.args.log.now in
    let pushed : c.push_of_log.new.variables.items ≡ all_variables cs log =
    c.in_ok-push_of_log.ensures ∙ ap (λ (xs : List ℕ). xs ++ flat_map step_variables log)
    (c.in_ok-push_of_formula.ensures ∙ ap (λ (xs : List ℕ). xs ++ flat_map clause_variables cs) c.new-variables.ensures.items) in
    subst (λ (xs : List ℕ). IsPermutation xs c.sort_unstable.new.self.items) pushed c.sort_unstable.ensures.permutation

pub returns-clause-ascend : goal.returns-clause-ascend
returns-clause-ascend c = rw (dedup_is _ _ _ c.dedup.ensures.filtered) (IsStrictlyIncreasing-dedup _ c.sort_unstable.ensures.sorted)

pub returns-clause-formula_fits : goal.returns-clause-formula_fits
returns-clause-formula_fits c = rw (dedup_is _ _ _ c.dedup.ensures.filtered) (formula_fits c.args.formula.now c.args.log.now c.sort_unstable.new.self.items (moved c))

pub returns-clause-log_fits : goal.returns-clause-log_fits
returns-clause-log_fits c = rw (dedup_is _ _ _ c.dedup.ensures.filtered) (log_fits c.args.formula.now c.args.log.now c.sort_unstable.new.self.items (moved c))
