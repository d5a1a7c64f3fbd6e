use Rattle.tree_parts.proofs.OperandLaws.{no_signal}
use Rattle.tree_parts.proofs.expressions.signal_of.Goals as goal

pub returns-in_default : goal.returns-in_default
returns-in_default c = no_signal c.args.e.now c.in_default.not-Signal
