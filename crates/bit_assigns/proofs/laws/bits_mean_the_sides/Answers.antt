use Rattle.bit_assigns.proofs.ValueLaws.{left_means, right_means}
use Rattle.bit_assigns.proofs.laws.bits_mean_the_sides.Goals as goal

pub returns-clause-right : goal.returns-clause-right
returns-clause-right c = λ size σ λs e p. right_means σ λs size e p

pub returns-clause-left : goal.returns-clause-left
returns-clause-left c = λ size σ λs l p. left_means σ λs size l p
