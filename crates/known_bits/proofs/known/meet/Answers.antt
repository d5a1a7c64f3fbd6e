use Rattle.std.proofs.Common.{◌∙◌, sym}
use Rattle.std.proofs.lemmas.Result.{IfOk-weaker}
use Rattle.known_bits.proofs.KnownLaws.{among_drop, trail_below}
use Rattle.known_bits.proofs.known.meet.Goals as goal

pub returns-in-None-clause-fits : goal.returns-in-None-clause-fits
returns-in-None-clause-fits c = IfOk-weaker c.forget.result _ _ (λ r gone. λ n h.
    let all = c.args.all.now in
    trail_below all.known.items all.trail.items n c.requires.kept (among_drop n c.args.from all.trail.items (sym (gone n) ∙ h))) c.forget.ensures.gone
