use Rattle.std.proofs.Common.{arith, sym}
use Rattle.sat_core.proofs.LearnedLaws.{among_at}
use Rattle.sat_core.proofs.LearnLaws.{among_get}
use Rattle.sat_core.proofs.learning.pair_of.Goals as goal

pub returns-then-not-same : goal.returns-then-not-same
returns-then-not-same c = record {
  first = among_get c.args.clause.now 0 c.in-Some.first.now (sym c.in-Some.ensures.value);
  second = among_at c.args.clause.now c.loop-lit.lit-index c.lit-item.result (omega arith) c.lit-item.is;
  alone = λ e. absurd (c.if-not-same.ensures e);
}
