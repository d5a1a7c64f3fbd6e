use Rattle.std.proofs.Common.{arith, ◌<◌, ◌∙◌, ◌∷◌, [], ℕ, Err, List, length, subst, inl, refl}
use Rattle.bits_core.specs.declared.names.File.{File}
use Rattle.vl_tree.specs.declared.faults.Code.TheVariants as code
use Rattle.vl_tree.specs.declared.faults.Stop.TheVariants as stop
use Rattle.vl_lex.specs.declared.gate.Halt.TheVariants as halt
use Rattle.conncheck.specs.Ends.{EndsFor}
use Rattle.conncheck.specs.Reads.{AreRead, IsRead, StopsAt}
use Rattle.conncheck.specs.Seen.{seen_check}
use Rattle.conncheck.proofs.AllowsLaws as laws
use Rattle.conncheck.proofs.ReadLaws as reads
use Rattle.conncheck.proofs.WalkLaws as walk
use Rattle.conncheck.proofs.commands.check.answer.Goals as goal
use Rattle.conncheck.specs.Reply.{limited}
use Rattle.conncheck.specs.commands.Check.{Means, OfWalk}

pub returns-in-Err-clause-answer : goal.returns-in-Err-clause-answer
returns-in-Err-clause-answer g c = laws.told (g.H.Shelf.tells c.args.shelf.now) _ (λ files e.
    let k = seen_check c.args.command.now in
    let steady = g.H.Shelf.is_steady c.args.shelf.now in
    reads.unread_ends (k.table ∷ k.files) (Means k) (walk.Front k) (λ fs o h. h) steady files c.in-Err.unread (g.K.Sink.taken c.args.out.now) (g.K.Sink.taken c.say_unread.new.out) c.say_unread.result
    (walk.any_front k files) (reads.stops_at steady steady files (k.table ∷ k.files) k.table c.in-Err.unread (λ s. s) (reads.reaches_at files [] k.table k.files (k.table ∷ k.files) [] refl tt)
    (laws.at_told _ _ files c.in-Err.ensures.files e)) c.say_unread.ensures.printed)

pub returns-in-Err-read_each-clause-answer : goal.returns-in-Err-read_each-clause-answer
returns-in-Err-read_each-clause-answer g c = laws.told (g.H.Shelf.tells c.args.shelf.now) _ (λ files e.
    let k = seen_check c.args.command.now in
    let steady = g.H.Shelf.is_steady c.args.shelf.now in
    let after = g.H.Shelf.is_steady c.read_one.new.shelf in
    let one : IsRead files k.table c.in-Ok.file = laws.at_told _ _ files c.in-Ok.ensures.files e in
    let stops : StopsAt after files k.files c.in-Err-read_each.unread = laws.at_told _ _ files c.in-Err-read_each.ensures.files (c.read_one.ensures.kept ∙ e) in
    reads.unread_ends (k.table ∷ k.files) (Means k) (walk.Front k) (λ fs o h. h) steady files c.in-Err-read_each.unread (g.K.Sink.taken c.args.out.now)
    (g.K.Sink.taken c.say_unread-in-Err-read_each.new.out) c.say_unread-in-Err-read_each.result (walk.any_front k files)
    (reads.stops_behind steady after files k.table c.in-Ok.file k.files c.in-Err-read_each.unread c.read_one.ensures.steady one stops) c.say_unread-in-Err-read_each.ensures.printed)

pub returns-then-len-most-clause-answer : goal.returns-then-len-most-clause-answer
returns-then-len-most-clause-answer g c = laws.told (g.H.Shelf.tells c.args.shelf.now) _ (λ files e.
    let k = seen_check c.args.command.now in
    let file = c.in-Ok.file in
    let list = c.in-Ok-read_each.list in
    let one : IsRead files k.table file = laws.at_told _ _ files c.in-Ok.ensures.files e in
    let all : AreRead files k.files list = laws.at_told _ _ files c.in-Ok-read_each.ensures.files (c.read_one.ensures.kept ∙ e) in
    let many : 1024 < length list = omega arith in
    record {
      reply = limited code.Files;
      allowed = inl (reads.of_all (walk.Front k files) files (k.table ∷ k.files) (file ∷ list) (limited code.Files) (one, all)
          (walk.at_end k file.bytes (length list) files list (limited code.Files) (Err (halt.Stop (stop.Limit code.Files))) (walk.too_many list (length list) k.defines many) refl));
      ended = c.say.ensures.printed;
    })

pub returns-clause-answer : goal.returns-clause-answer
returns-clause-answer g c = laws.told (g.H.Shelf.tells c.args.shelf.now) _ (λ files e.
    let k = seen_check c.args.command.now in
    let file = c.in-Ok.file in
    let list = c.in-Ok-read_each.list in
    let steady = g.H.Shelf.is_steady c.args.shelf.now in
    let after = g.H.Shelf.is_steady c.read_each.new.shelf in
    let old = g.K.Sink.taken c.args.out.now in
    let new = g.K.Sink.taken c.walk.new.out in
    let one : IsRead files k.table file = laws.at_told _ _ files c.in-Ok.ensures.files e in
    let all : AreRead files k.files list = laws.at_told _ _ files c.in-Ok-read_each.ensures.files (c.read_one.ensures.kept ∙ e) in
    let rest = laws.at_told _ _ files c.walk.ensures.answer (c.read_each.ensures.kept ∙ c.read_one.ensures.kept ∙ e) in
    let N : List File → Type 0 = λ fs. EndsFor after (λ fls. OfWalk k c.as_slice.result.now (length fs) fls fs) files old new c.walk.result in
    let T : List ℕ → Type 0 = λ x. EndsFor after (λ fls. OfWalk k x (length list) fls list) files old new c.walk.result in
    walk.ends_front k steady after files file list old new c.walk.result (λ s. c.read_each.ensures.steady (c.read_one.ensures.steady s)) one all (subst T c.as_slice.ensures (subst N c.as_slice-2.ensures rest)))
