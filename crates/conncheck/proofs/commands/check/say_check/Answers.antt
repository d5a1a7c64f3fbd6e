use Rattle.std.proofs.Common.{rules, ◌≡◌, subst, Some, None, Err, map, List, ℕ}
use Rattle.plain_form.specs.Names.{listed}
use Rattle.plain_form.specs.SeenTable.{seen_row}
use Rattle.plain_form.specs.SeenWires.{seen_wires}
use Rattle.plain_form.specs.Table.{rows_of}
use Rattle.plain_form.specs.Wires.{source_of}
use Rattle.plain_form.specs.declared.table.Line.{Line}
use Rattle.plain_form.specs.declared.wires.Slot.{Slot}
use Rattle.conncheck.specs.Ends.{Ends}
use Rattle.conncheck.specs.Judge.{judge}
use Rattle.conncheck.specs.Seen.{seen_check}
use Rattle.conncheck.specs.declared.status.Stop.TheVariants.{Memory}
use Rattle.conncheck.proofs.JudgeLaws as laws
use Rattle.conncheck.proofs.PrintLaws.{nothing}
use Rattle.conncheck.proofs.commands.check.say_check.Goals as goal
use Rattle.conncheck.specs.Reply.{not_yet, report}
use Rattle.conncheck.specs.commands.Check.{first_of}

pub returns-in_err-wires-clause-answer : goal.returns-in_err-wires-clause-answer
returns-in_err-wires-clause-answer g c =
    let e : c.from_residual.result ≡ Err Memory = search rules in
    let o = laws.some_reply (seen_check c.args.command.now) c.args.table.now (map (λ t. t.text.now) c.args.tokens.now) in
    record { reply = o.0; is = o.1; ended = rw e (nothing o.0 (g.K.Sink.taken c.args.out.now)) }

pub returns-in_default-clause-answer : goal.returns-in_default-clause-answer
returns-in_default-clause-answer g c =
    let e : source_of (seen_check c.args.command.now).top (map (λ t. t.text.now) c.args.tokens.now) ≡ None = search rules in
    let F : List ℕ → Type 0 = λ x. Ends (not_yet x) (g.K.Sink.taken c.args.out.now) (g.K.Sink.taken c.say.new.out) c.say.result in
    record { reply = not_yet (first_of (seen_check c.args.command.now).files); is = laws.not_source (seen_check c.args.command.now) c.args.table.now (map (λ t. t.text.now) c.args.tokens.now) e; ended = subst F c.first_of.ensures c.say.ensures.printed }

pub returns-in_err-rows-clause-answer : goal.returns-in_err-rows-clause-answer
returns-in_err-rows-clause-answer g c =
    let e : c.from_residual-in_err-rows.result ≡ Err Memory = search rules in
    let o = laws.some_reply (seen_check c.args.command.now) c.args.table.now (map (λ t. t.text.now) c.args.tokens.now) in
    record { reply = o.0; is = o.1; ended = rw e (nothing o.0 (g.K.Sink.taken c.args.out.now)) }

pub returns-in_default-2-clause-answer : goal.returns-in_default-2-clause-answer
returns-in_default-2-clause-answer g c =
    let e : source_of (seen_check c.args.command.now).top (map (λ t. t.text.now) c.args.tokens.now) ≡ Some (seen_wires c.in-Some.wires) = search rules in
    let t : rows_of (listed c.in-Some.wires.names) (seen_check c.args.command.now).top c.args.table.now ≡ None = search rules in
    record {
      reply = not_yet (seen_check c.args.command.now).table;
      is = laws.not_table (seen_check c.args.command.now) c.args.table.now (map (λ t. t.text.now) c.args.tokens.now) (seen_wires c.in-Some.wires) e t;
      ended = c.say-in_default-2.ensures.printed;
    }

pub returns-clause-answer : goal.returns-clause-answer
returns-clause-answer g c =
    let command = seen_check c.args.command.now in
    let w = seen_wires c.in-Some.wires in
    let rows = map seen_row c.in-Some-2.rows.items in
    let e : source_of command.top (map (λ t. t.text.now) c.args.tokens.now) ≡ Some w = search rules in
    let t : rows_of w.names command.top c.args.table.now ≡ Some rows = search rules in
    let P : List Line → Type 0 = λ ls. Ends (report c.args.command.now.top.now w.names (map (judge w.slots) (map seen_row ls))) (g.K.Sink.taken c.args.out.now) (g.K.Sink.taken c.say_report.new.out) c.say_report.result in
    let Q : List ℕ → Type 0 = λ top. Ends (report top w.names (map (judge w.slots) (map seen_row c.as_slice-2.result.now))) (g.K.Sink.taken c.args.out.now) (g.K.Sink.taken c.say_report.new.out) c.say_report.result in
    let S : List Slot → Type 0 = λ ss. Ends (report c.as_bytes-top.result.now w.names (map (judge ss) (map seen_row c.as_slice-2.result.now))) (g.K.Sink.taken c.args.out.now) (g.K.Sink.taken c.say_report.new.out) c.say_report.result in
    record {
      reply = report command.top w.names (map (judge w.slots) rows);
      is = laws.of_report command c.args.table.now (map (λ t. t.text.now) c.args.tokens.now) w rows e t;
      ended = subst P c.as_slice-2.ensures.value (subst Q c.as_bytes-top.ensures.value (subst S c.as_slice.ensures.value c.say_report.ensures.printed));
    }
