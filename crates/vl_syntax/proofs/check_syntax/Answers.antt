use Rattle.vl_syntax.proofs.Views.{refused, spelled}
use Rattle.vl_syntax.proofs.check_syntax.Goals as goal

pub returns-in-Ok-clause-spelled : goal.returns-in-Ok-clause-spelled
returns-in-Ok-clause-spelled c = spelled c.args.tokens.now c.in-Ok._source c.in-Ok.ensures.tree

pub returns-in-Err-clause-refused : goal.returns-in-Err-clause-refused
returns-in-Err-clause-refused c = refused c.args.tokens.now c.in-Err.stop c.in-Err.ensures.refused
