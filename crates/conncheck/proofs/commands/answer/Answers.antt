use Rattle.std.proofs.Common.{rules, ◌≡◌, Err, None, Some, Option, inl, map, string_bytes, refl, sym, subst}
use Rattle.conncheck.specs.Ends.{EndsFor}
use Rattle.conncheck.specs.declared.status.Stop.TheVariants.{Memory}
use Rattle.conncheck.proofs.AllowsLaws as laws
use Rattle.conncheck.proofs.PrintLaws.{nothing}
use Rattle.conncheck.proofs.WalkLaws as walk
use Rattle.conncheck.proofs.commands.answer.Goals as goal
use Rattle.conncheck.specs.Seen.{seen_check}
use Rattle.conncheck.specs.Command.{Command, IsReply, check, command}
use Rattle.conncheck.specs.Reply.{bad_words}

pub returns-in_err-check-clause-answer : goal.returns-in_err-check-clause-answer
returns-in_err-check-clause-answer g c = laws.told (g.H.Shelf.tells c.args.shelf.now) _ (λ files e.
    let e : c.from_residual.result ≡ Err Memory = search rules in
    let o = walk.any_command (command (map string_bytes c.args.words.now)) files in
    record { reply = o.0; allowed = inl o.1; ended = rw e (nothing o.0 (g.K.Sink.taken c.args.out.now)) })

pub returns-in-None-clause-answer : goal.returns-in-None-clause-answer
returns-in-None-clause-answer g c = laws.told (g.H.Shelf.tells c.args.shelf.now) _ (λ files e.
    let none : command (map string_bytes c.args.words.now) ≡ None = search rules in
    let P : Option Command → Type 0 = λ k. EndsFor (g.H.Shelf.is_steady c.args.shelf.now) (IsReply k) files (g.K.Sink.taken c.args.out.now) (g.K.Sink.taken c.say.new.out) c.say.result in
    subst P (sym none) (record { reply = bad_words; allowed = inl refl; ended = c.say.ensures.printed }))

pub returns-in-Some-Check-clause-answer : goal.returns-in-Some-Check-clause-answer
returns-in-Some-Check-clause-answer g c = laws.told (g.H.Shelf.tells c.args.shelf.now) _ (λ files e.
    let some : command (map string_bytes c.args.words.now) ≡ Some (check (seen_check c.in-Some-Check.check)) = search rules in
    let P : Option Command → Type 0 = λ k. EndsFor (g.H.Shelf.is_steady c.args.shelf.now) (IsReply k) files (g.K.Sink.taken c.args.out.now) (g.K.Sink.taken c.answer.new.out) c.answer.result in
    let ends = rw c.in-Some-Check.field-0-is at c.answer.ensures.answer in
    subst P (sym some) (laws.at_told _ _ files ends e))
