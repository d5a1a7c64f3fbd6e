use Rattle.design_assembly.proofs.AssemblyLaws.{spanned}
use Rattle.design_assembly.proofs.assembly.design_of.Goals as goal

pub first_alike-requires : goal.first_alike-requires
first_alike-requires c = spanned c.args.scopes c.args.signals c.as_slice-2.result.now c.args.items c.requires.formed c.as_slice-2.ensures

pub returns-clause-scope : goal.returns-clause-scope
returns-clause-scope c = λ k h. absurd ((c.assemble.ensures.other k).0 h)

pub returns-clause-signal : goal.returns-clause-signal
returns-clause-signal c = λ k h. absurd ((c.assemble.ensures.other k).1 h)
