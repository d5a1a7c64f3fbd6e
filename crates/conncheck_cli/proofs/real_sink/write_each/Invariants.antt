use Rattle.std.proofs.Common.{length}
use Rattle.conncheck_cli.proofs.real_sink.write_each.Given as goal

abbrev pub decreases-loop-rest : goal.decreases-loop-rest
decreases-loop-rest g l = length l.rest
