use Rattle.std.proofs.Common.{subst, inl, map, string_bytes, List}
use Rattle.bits_core.specs.declared.names.File.{File}
use Rattle.conncheck.proofs.AllowsLaws as laws
use Rattle.conncheck.proofs.LogLaws.{some_log}
use Rattle.conncheck.proofs.ReadLaws as reads
use Rattle.conncheck.proofs.commands.lrat.answer.Goals as goal
use Rattle.conncheck.specs.commands.Lrat.{Means, OfLogs}

pub returns-in-Ok-clause-answer : goal.returns-in-Ok-clause-answer
returns-in-Ok-clause-answer g c = laws.told (g.H.Shelf.tells c.args.shelf.now) _ (λ files e.
    let all = laws.at_told _ _ files c.in-Ok.ensures.files e in
    let ends = c.say_logs.ensures.answer in
    let P : List File → Type 0 = λ fs. OfLogs fs ends.reply in
    record {
      reply = ends.reply;
      allowed = inl (reads.of_all OfLogs files (map string_bytes c.args.names.now) c.in-Ok.files ends.reply all (subst P c.as_slice.ensures ends.is));
      ended = ends.ended;
    })

pub returns-in-Err-clause-answer : goal.returns-in-Err-clause-answer
returns-in-Err-clause-answer g c = laws.told (g.H.Shelf.tells c.args.shelf.now) _ (λ files e.
    let names = map string_bytes c.args.names.now in
    reads.unread_ends names (Means names) (λ fs. OfLogs) (λ fs o h. h) (g.H.Shelf.is_steady c.args.shelf.now) files c.in-Err.unread
    (g.K.Sink.taken c.args.out.now) (g.K.Sink.taken c.say_unread.new.out) c.say_unread.result some_log (laws.at_told _ _ files c.in-Err.ensures.files e) c.say_unread.ensures.printed)
