use Rattle.design_laws.proofs.RowLaws.{unblocked_hits}
use Rattle.design_laws.proofs.unblocked_breaks.Goals as goal

pub returns : goal.returns
returns c = λ E F S R held p query checked inside slice about unblocked w.
    unblocked_hits E F S R held p query checked inside slice unblocked about w
