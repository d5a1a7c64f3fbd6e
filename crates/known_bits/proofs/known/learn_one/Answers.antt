use Rattle.std.proofs.Common.{◌≡◌, sym, subst, List, ℕ, true, false, set, ◌∙◌}
use Rattle.std.proofs.lemmas.List.{get_or_read}
use Rattle.known_bits.specs.Known.{IsKept, knows}
use Rattle.known_bits.proofs.KnownLaws.{kept_push}
use Rattle.known_bits.proofs.known.learn_one.Goals as goal

pub returns-in_ok-push-clause-kept : goal.returns-in_ok-push-clause-kept
returns-in_ok-push-clause-kept c =
    let known = c.args.all.now.known.items in
    let P : List ℕ → Type 0 = λ trail. IsKept (set known c.args.bit true) trail in
    let f : knows known c.args.bit ≡ false = sym (get_or_read known c.args.bit c.index.result.now c.requires.fits c.index.ensures false) ∙ c.if-not-index.true in
    subst P (sym c.in_ok-push.ensures.items) (kept_push known c.args.all.now.trail.items c.args.bit c.requires.fits f c.requires.kept)
