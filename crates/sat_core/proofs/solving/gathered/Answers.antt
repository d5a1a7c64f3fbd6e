use Rattle.std.proofs.Common.{◌≤◌, All, arith}
use Rattle.std.proofs.lemmas.List.Elements.{All-more}
use Rattle.cnf_core.specs.declared.lit.Lit.{Lit}
use Rattle.cnf_core.specs.Lit.{variable_of}
use Rattle.sat_core.proofs.ArenaLaws.{gathered_more, each_read}
use Rattle.sat_core.proofs.solving.gathered.Goals as goal

pub loop-clause-preserved : goal.loop-clause-preserved
loop-clause-preserved c =
    let cs = c.args.clauses.now in
    let i = c.loop-clause.clause-index in
    let item = c.clause-item.result in
    record {
      same = gathered_more cs c.loop-clause.arena c.push.new.self i item c.as_slice-in-loop-clause.result.now (omega arith) c.loop-clause.invariant.same c.clause-item.is c.as_slice-in-loop-clause.ensures c.in_ok-push.ensures;
      above = All-more (All (λ (l : Lit). 1 ≤ variable_of l)) cs i item (omega arith) c.loop-clause.invariant.above
          (each_read cs i item c.as_slice.result.now c.clause-item.is c.as_slice.ensures c.see_variables.ensures);
    }
