use Rattle.lrat_checker.proofs.LratBack.{lrat_back}
use Rattle.lrat_checker.proofs.writing.write_lrat.Goals as goal

pub returns-in_err-push_steps-clause-read_back : goal.returns-in_err-push_steps-clause-read_back
returns-in_err-push_steps-clause-read_back c = lrat_back c.args.log.now

pub returns-in_err-extend_from_slice-clause-read_back : goal.returns-in_err-extend_from_slice-clause-read_back
returns-in_err-extend_from_slice-clause-read_back c = lrat_back c.args.log.now

pub returns-clause-read_back : goal.returns-clause-read_back
returns-clause-read_back c = lrat_back c.args.log.now
