use Rattle.std.proofs.Common.{arith}
use Rattle.vl_parse.proofs.Cuts.{cut_front, cut_rest}
use Rattle.vl_parse.proofs.files.part_length.Goals as goal

pub returns-then-before-tokens-clause-part : goal.returns-then-before-tokens-clause-part
returns-then-before-tokens-clause-part c = cut_front c.args.tokens.now c.before_end-before.result c.before_end-before.ensures (omega arith)

pub returns-else-before-tokens-clause-part : goal.returns-else-before-tokens-clause-part
returns-else-before-tokens-clause-part c = cut_rest c.args.tokens.now c.before_end-before.result c.before_end-before.ensures (omega arith) (omega arith)
