use Rattle.log_laws.proofs.LogLaws.{read_as_spelled, refused_at_its_fault, spelled_or_faulty}
use Rattle.log_laws.proofs.logs_are_read_as_spelled.Goals as goal

pub returns-clause-spells : goal.returns-clause-spells
returns-clause-spells c = read_as_spelled

pub returns-clause-faults : goal.returns-clause-faults
returns-clause-faults c = refused_at_its_fault

pub returns-clause-either : goal.returns-clause-either
returns-clause-either c = spelled_or_faulty
