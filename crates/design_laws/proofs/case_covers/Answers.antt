use Rattle.design_core.proofs.CoverLaws.{completed}
use Rattle.design_laws.proofs.CoverageLaws.{covers_always}
use Rattle.design_laws.proofs.case_covers.Goals as goal

pub returns : goal.returns
returns c = record { untested = λ s full h t. completed h t; always = covers_always }
