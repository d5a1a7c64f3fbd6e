use Rattle.run_cases.proofs.RunLaws.{write_left, write_right}
use Rattle.run_cases.proofs.ways.env_by.Goals as goal

pub env_at_once-requires-clause-left : goal.env_at_once-requires-clause-left
env_at_once-requires-clause-left c = write_left _ c.args.s.now c.in-Write.left c.in-Write.right c.in-Write.blocking c.in-Write.is c.requires.body

pub env_at_once-requires-clause-right : goal.env_at_once-requires-clause-right
env_at_once-requires-clause-right c = write_right _ c.args.s.now c.in-Write.left c.in-Write.right c.in-Write.blocking c.in-Write.is c.requires.body
