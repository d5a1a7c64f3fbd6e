use Rattle.std.proofs.Common.{rules, ap, ◌∙◌, not}
use Rattle.std.specs.Prelude.{◌+ℤ◌}
use Rattle.std.proofs.lemmas.Int.{to_z-of_z}
use mir.Val.{SFits}
use mir.Syntax.{w64}
use Rattle.design_core.specs.Operators.{lowest}
use Rattle.std.proofs.lemmas.Result.{IfOk-weaker}
use Rattle.value_domain.proofs.MoveLaws as mv
use Rattle.value_domain.proofs.KeepLaws as k
use Rattle.value_domain.proofs.WordLaws as w
use Rattle.value_domain.proofs.variable.place_at.Goals as goal

pub spread-requires-clause-zero : goal.spread-requires-clause-zero
spread-requires-clause-zero g c = mv.zeros_read g.D.Domain.meaning g.met.D.Domain.as_wide c.move_by.new.domain c.binary.new.self c.ones.new.domain c.args.whole.now c.in_ok-zeros.zeros (c.move_by.ensures.kept.still c.args.whole.now c.requires.whole_is) c.ones.ensures.kept c.in_ok-zeros.ensures.made

pub spread-requires-2-clause-zero : goal.spread-requires-2-clause-zero
spread-requires-2-clause-zero g c = mv.zeros_read g.D.Domain.meaning g.met.D.Domain.as_wide c.move_by.new.domain c.binary.new.self c.spread.new.domain c.args.whole.now c.in_ok-zeros.zeros (c.move_by.ensures.kept.still c.args.whole.now c.requires.whole_is)
    (k.keeps_trans g.D.Domain.meaning c.binary.new.self c.ones.new.domain c.spread.new.domain c.ones.ensures.kept c.spread.ensures.kept) c.in_ok-zeros.ensures.made

pub returns-clause-made : goal.returns-clause-made
returns-clause-made g c =
    let fits : SFits w64 c.args.start.offset = search rules in
    IfOk-weaker c.blend.result _ _ (λ r made. mv.placed_made g.D.Domain.meaning g.met.D.Domain.as_wide c.args.domain.now c.move_by.new.domain c.binary.new.self c.ones.new.domain c.spread.new.domain c.spread-2.new.domain c.blend.new.domain
    c.args.whole.now c.args.part.now.value c.in_ok-zeros.zeros c.in_ok-ones.ones c.in_ok-mask.mask c.in_ok-bits.bits r c.in_ok-by.by c.args.part.now.length _ _ c.requires.whole_is c.requires.part_is.is_one c.requires.part_is.wide c.requires.fits
    (λ v. ap (λ z. lowest z (not c.args.start.down) c.args.start.signed (g.D.Domain.meaning.reads c.args.domain.now v c.args.index.now.value) +ℤ lowest c.args.start.offset c.args.start.down c.args.start.signed (g.D.Domain.meaning.reads c.args.domain.now v c.args.index.now.value)) (to_z-of_z w64 c.args.start.offset fits)
    ∙ mv.turned_place c.args.start.offset c.args.start.down c.args.start.signed (g.D.Domain.meaning.reads c.args.domain.now v c.args.index.now.value))
    c.move_by.ensures.kept c.binary.ensures.kept c.ones.ensures.kept c.spread.ensures.kept c.spread-2.ensures.kept c.in_ok-by.ensures.made c.in_ok-zeros.ensures.made.wide c.in_ok-ones.ensures.made
    c.in_ok-mask.ensures.made c.in_ok-bits.ensures.made made c.requires.most) c.blend.ensures.made
