use Rattle.std.proofs.Common.{arith}
use Rattle.sat_core.proofs.LearnedLaws.{among_at}
use Rattle.sat_core.proofs.visiting.free_literal.Goals as goal

pub returns-then-not-is_false : goal.returns-then-not-is_false
returns-then-not-is_false c = record {
  there = among_at c.args.clause.now c.loop-lit.lit-index c.lit-item.result (omega arith) c.lit-item.is;
  not_false = grind arith;
  another = c.if-not-same.ensures;
}
