use Rattle.bit_assigns.specs.Pieces.{bit_assigns}
use Rattle.bit_assigns.proofs.FitLaws.{kept}
use Rattle.bit_assigns.proofs.MeanLaws.{cells_mean}
use Rattle.bit_assigns.proofs.laws.pieces_mean_the_assign.Goals as goal

pub returns : goal.returns
unfolding bit_assigns
returns c = λ signals scopes scope weight l e plain apart before after.
    let k = kept signals scopes scope weight l e plain in
    cells_mean signals scope weight l e plain.left plain.right k.targets k.sources apart before after
