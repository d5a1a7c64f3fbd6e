use Rattle.std.proofs.Common.{◌-◌, Contains, sym, subst, ◌∙◌}
use Rattle.cnf_core.specs.Lit.{variable_of}
use Rattle.lrat_checker.proofs.MarkLaws.{place_at, place_searched, never_missed}
use Rattle.lrat_checker.proofs.stamps.place_of.Goals as goal

pub returns-then-variables-likely-clause-place : goal.returns-then-variables-likely-clause-place
returns-then-variables-likely-clause-place c =
    place_at c.args.variables.now (c.variable-variable.result - 1) (variable_of c.args.lit) c.requires.ascend c.if-likely-variables.true
    (c.if-variables-likely.true ∙ c.variable-variable.ensures.value)

pub returns-in-Ok-clause-place : goal.returns-in-Ok-clause-place
returns-in-Ok-clause-place c =
    let vs = c.args.variables.now in
    let there = place_searched vs c.variable-variable.result c.in-Ok.place c.requires.ascend c.in-Ok.ensures.position in
    place_at vs c.in-Ok.place (variable_of c.args.lit) c.requires.ascend there.0 (there.1 ∙ c.variable-variable.ensures.value)

pub returns-in-Err-clause-within : goal.returns-in-Err-clause-within
returns-in-Err-clause-within c =
    let vs = c.args.variables.now in
    absurd (never_missed vs c.variable-variable.result c.in-Err.place c.requires.ascend (subst (Contains vs) (sym c.variable-variable.ensures.value) c.requires.occurs) c.in-Err.ensures.position)

pub returns-in-Err-clause-place : goal.returns-in-Err-clause-place
returns-in-Err-clause-place c =
    let vs = c.args.variables.now in
    absurd (never_missed vs c.variable-variable.result c.in-Err.place c.requires.ascend (subst (Contains vs) (sym c.variable-variable.ensures.value) c.requires.occurs) c.in-Err.ensures.position)
