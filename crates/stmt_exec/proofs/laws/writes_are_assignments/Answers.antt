use Rattle.stmt_exec.proofs.WriteLaws as w
use Rattle.stmt_exec.proofs.laws.writes_are_assignments.Goals as goal

pub returns-clause-at_once : goal.returns-clause-at_once
returns-clause-at_once c = w.blocking_writes

pub returns-clause-stored : goal.returns-clause-stored
returns-clause-stored c = w.stored_writes

pub returns-clause-local : goal.returns-clause-local
returns-clause-local c = w.local_writes
