use Rattle.net_laws.proofs.LeafLaws.{below_is_had, pushed_stay_below, gated_stay_below}
use Rattle.net_laws.proofs.leaves_stay_below.Goals as goal

pub returns-clause-had : goal.returns-clause-had
returns-clause-had c = below_is_had

pub returns-clause-pushed : goal.returns-clause-pushed
returns-clause-pushed c = pushed_stay_below

pub returns-clause-gated : goal.returns-clause-gated
returns-clause-gated c = gated_stay_below
