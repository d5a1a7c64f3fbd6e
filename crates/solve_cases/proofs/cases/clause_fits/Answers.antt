use Rattle.std.proofs.Common.{◌<◌, arith, ap, subst}
use Rattle.std.proofs.lemmas.List.{take_all}
use Rattle.std.proofs.lemmas.List.Elements.{All-more}
use Rattle.cnf_core.specs.declared.lit.Lit.{Lit}
use Rattle.cnf_core.specs.Lit.{variable_of}
use Rattle.sat_core.specs.Sync.{Fits}
use Rattle.solve_cases.proofs.cases.clause_fits.Goals as goal

pub loop-lit-preserved : goal.loop-lit-preserved
loop-lit-preserved c =
    All-more (λ (k : Lit). variable_of k < c.args.room) c.args.clause.now c.loop-lit.lit-index c.lit-item.result (omega arith) c.loop-lit.invariant
    (omega (arith, c.variable.ensures.value, ap variable_of c.lit-item.is))

pub returns : goal.returns
returns c = λ e. subst (Fits c.args.room) (take_all c.loop-lit.lit-index c.args.clause.now (omega arith)) c.loop-lit.invariant
