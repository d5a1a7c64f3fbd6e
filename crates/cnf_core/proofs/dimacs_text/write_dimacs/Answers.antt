use Rattle.cnf_core.proofs.DimacsLaws.{dimacs_back}
use Rattle.cnf_core.proofs.dimacs_text.write_dimacs.Goals as goal

pub returns-in_err-push_formula-clause-read_back : goal.returns-in_err-push_formula-clause-read_back
returns-in_err-push_formula-clause-read_back c = dimacs_back c.args.formula.now

pub returns-in_err-extend_from_slice-clause-read_back : goal.returns-in_err-extend_from_slice-clause-read_back
returns-in_err-extend_from_slice-clause-read_back c = dimacs_back c.args.formula.now

pub returns-clause-read_back : goal.returns-clause-read_back
returns-clause-read_back c = dimacs_back c.args.formula.now
