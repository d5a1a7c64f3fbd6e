use Rattle.tseitin_cnf.proofs.SolverLaws.{encoded_fit, encoded_decided, encoded_in_text}
use Rattle.tseitin_cnf.proofs.encoding.encode.Goals as goal

pub returns-clause-fit : goal.returns-clause-fit
returns-clause-fit c = encoded_fit c.args.net.now c.args.leaves c.args.goal (record { formula = c.in_ok-formula.formula; leaves = c.args.leaves }) c.in_ok-formula.ensures

pub returns-clause-decided : goal.returns-clause-decided
returns-clause-decided c = encoded_decided c.args.net.now c.args.leaves c.args.goal (record { formula = c.in_ok-formula.formula; leaves = c.args.leaves }) c.in_ok-formula.ensures

pub returns-clause-text : goal.returns-clause-text
returns-clause-text c = encoded_in_text c.args.net.now c.args.leaves c.args.goal (record { formula = c.in_ok-formula.formula; leaves = c.args.leaves }) c.in_ok-formula.ensures
