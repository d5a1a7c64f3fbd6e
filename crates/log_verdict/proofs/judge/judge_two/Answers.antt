use Rattle.std.proofs.Common.{arith}
use Rattle.cnf_core.specs.Text.{text_lines}
use Rattle.log_verdict.proofs.AnswerLaws.{judged_ok}
use Rattle.log_verdict.proofs.CountLaws.{few_lines}
use Rattle.log_verdict.proofs.judge.judge_two.Goals as goal

pub judge-requires : goal.judge-requires
judge-requires c = let few = few_lines c.args.log.now in omega (arith, few)

pub returns : goal.returns
returns c = judged_ok 0 (text_lines c.args.formula.now) (text_lines c.args.log.now) c.judge.result c.judge.ensures
