use Rattle.std.proofs.Common.{length}
use Rattle.tseitin_cnf.specs.Parts.{part_of}
use Rattle.tseitin_cnf.proofs.PartLaws.{part_below}
use Rattle.tseitin_cnf.proofs.SolverLaws.{encoded_fit, encoded_decided, encoded_in_text}
use Rattle.tseitin_cnf.proofs.encoding.encode_part.Goals as goal

pub returns-clause-fit : goal.returns-clause-fit
returns-clause-fit c = encoded_fit (part_of c.args.leaves.now c.args.net.now) (length c.args.leaves.now) c.args.goal (record { formula = c.in_ok-formula.formula; leaves = length c.args.leaves.now }) c.in_ok-formula.ensures

pub returns-clause-decided : goal.returns-clause-decided
returns-clause-decided c = encoded_decided (part_of c.args.leaves.now c.args.net.now) (length c.args.leaves.now) c.args.goal (record { formula = c.in_ok-formula.formula; leaves = length c.args.leaves.now }) c.in_ok-formula.ensures

pub returns-clause-text : goal.returns-clause-text
returns-clause-text c = encoded_in_text (part_of c.args.leaves.now c.args.net.now) (length c.args.leaves.now) c.args.goal (record { formula = c.in_ok-formula.formula; leaves = length c.args.leaves.now }) c.in_ok-formula.ensures

pub goal_formula-requires-clause-leaves : goal.goal_formula-requires-clause-leaves
goal_formula-requires-clause-leaves c = part_below c.args.leaves.now c.args.net.now
