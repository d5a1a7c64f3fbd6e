use Rattle.std.proofs.Common.{rules, ◌≡◌, Err}
use Rattle.conncheck.specs.declared.status.Stop.TheVariants.{Memory}
use Rattle.conncheck.proofs.LogLaws.{some_log}
use Rattle.conncheck.proofs.PrintLaws.{nothing}
use Rattle.conncheck.proofs.commands.lrat.say_logs.Goals as goal

pub returns-in_err-answer-clause-answer : goal.returns-in_err-answer-clause-answer
returns-in_err-answer-clause-answer g c =
    let e : c.from_residual.result ≡ Err Memory = search rules in
    let o = some_log c.args.files.now in
    record { reply = o.0; is = o.1; ended = rw e (nothing o.0 (g.K.Sink.taken c.args.out.now)) }
