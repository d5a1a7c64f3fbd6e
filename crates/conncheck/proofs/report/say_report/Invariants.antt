use Rattle.std.proofs.Common.{◌≡◌, ◌≤◌, ◌+◌, take, map, count_by, not}
use Rattle.std.specs.Io.KnownBytes.{Appends}
use Rattle.plain_form.specs.Names.{listed}
use Rattle.plain_form.specs.SeenTable.{seen_row}
use Rattle.conncheck.specs.Judge.{judge}
use Rattle.conncheck.specs.Texts.{judged_text, was_proved}
use Rattle.conncheck.proofs.report.say_report.Given as goal
use Rattle.conncheck.specs.Reply.{joined}

abbrev pub invariant-loop-row : goal.invariant-loop-row
invariant-loop-row g l = record {
  taken : Appends (g.K.Sink.taken l.initial.out) (g.K.Sink.taken l.out)
      (joined (map (λ r. judged_text l.top (listed l.names) (judge (g.D.Decide.slots l.initial.decider) (seen_row r))) (take l.row-index l.rows)));
  faults : g.K.Sink.faults l.out ≡ g.K.Sink.faults l.initial.out;
  slots : g.D.Decide.slots l.decider ≡ g.D.Decide.slots l.initial.decider;
  decided : g.D.Decide.decided l.decider ≤ g.D.Decide.decided l.initial.decider + l.row-index;
  proved : l.proved ≡ count_by (λ r. was_proved (judge (g.D.Decide.slots l.initial.decider) (seen_row r))) (take l.row-index l.rows);
  refuted : l.refuted ≡ count_by (λ r. not (was_proved (judge (g.D.Decide.slots l.initial.decider) (seen_row r)))) (take l.row-index l.rows);
  few : l.proved ≤ l.row-index;
  few_too : l.refuted ≤ l.row-index;
}
