use Rattle.std.proofs.Common.{arith, subst, ◌∙◌, All}
use Rattle.std.proofs.lemmas.List.{take_all}
use Rattle.std.proofs.lemmas.List.Elements.{All-more}
use Rattle.sat_core.specs.Sync.{Fits}
use Rattle.solve_cases.proofs.cases.clauses_fit.Goals as goal

pub loop-clause-preserved : goal.loop-clause-preserved
loop-clause-preserved c =
    All-more (Fits c.args.room) c.args.clauses.now c.loop-clause.clause-index c.clause-item.result (omega arith) c.loop-clause.invariant
    (subst (Fits c.args.room) (c.as_slice.ensures ∙ c.clause-item.is) (c.clause_fits.ensures c.if-not-clause_fits.false))

pub returns : goal.returns
returns c = λ e. subst (All (Fits c.args.room)) (take_all c.loop-clause.clause-index c.args.clauses.now (omega arith)) c.loop-clause.invariant
