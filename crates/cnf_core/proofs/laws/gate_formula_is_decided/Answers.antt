use Rattle.cnf_core.proofs.GateLaws.{gate_formula_decided, extends_once}
use Rattle.cnf_core.proofs.laws.gate_formula_is_decided.Goals as goal

pub returns-clause-decided : goal.returns-clause-decided
returns-clause-decided c = gate_formula_decided

pub returns-clause-extends : goal.returns-clause-extends
returns-clause-extends c = extends_once
