use Rattle.std.proofs.Common.{ap, ◌∙◌, length}
use Rattle.bits_core.proofs.NumberLaws.{bits_of_length}
use Rattle.domain_tests.proofs.values.word.Goals as goal

pub returns-in-Ok-clause-wide : goal.returns-in-Ok-clause-wide
returns-in-Ok-clause-wide c = ap length c.in-Ok.ensures ∙ bits_of_length c.args.size _
