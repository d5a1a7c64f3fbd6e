use Rattle.std.proofs.Common.{◌≤◌, arith, ap}
use Rattle.std.proofs.lemmas.List.Elements.{All-more}
use Rattle.cnf_core.specs.declared.lit.Lit.{Lit}
use Rattle.cnf_core.specs.Lit.{variable_of}
use Rattle.sat_core.proofs.solving.see_variables.Goals as goal

pub loop-lit-preserved : goal.loop-lit-preserved
loop-lit-preserved c =
    All-more (λ (k : Lit). 1 ≤ variable_of k) c.args.clause.now c.loop-lit.lit-index c.lit-item.result (omega arith) c.loop-lit.invariant
    (omega (arith, c.variable.ensures.above, ap variable_of c.lit-item.is))
