use Rattle.std.proofs.Common.{rules, subst, to_z, of_z}
use Rattle.std.proofs.lemmas.Int.{to_z-of_z}
use mir.Val.{SFits}
use mir.Syntax.{w64}
use Rattle.design_core.specs.Operators.{lowest}
use Rattle.value_domain.specs.Moved.{AreAmounts}
use Rattle.value_domain.proofs.MoveLaws as mv
use Rattle.value_domain.proofs.NearLaws as n
use Rattle.value_domain.proofs.variable.move_by.Goals as goal

pub returns-then-start-clause-made : goal.returns-then-start-clause-made
returns-then-start-clause-made g c =
    let fits : SFits w64 c.args.start.offset = search rules in
    let near = c.in_ok-near.ensures.made in
    n.near_amounts g.D.Domain.meaning g.met.D.Domain.as_wide c.args.domain.now c.nearer.new.domain c.unary.new.self c.args.start.signed c.args.index.now c.in_ok-near.near _ c.args.start.offset c.args.start.down (mv.fits_abs c.args.start.offset fits) near
    (subst (λ z. AreAmounts g.D.Domain.meaning c.unary.new.self (record { right = c.in_ok-turned.turned; left = c.in_ok-moved.moved }) (λ v. lowest z c.args.start.down c.args.start.signed (g.D.Domain.meaning.reads c.nearer.new.domain v c.in_ok-near.near.value)))
    (to_z-of_z w64 c.args.start.offset fits)
    (mv.made_down g.D.Domain.meaning g.met.D.Domain.as_wide c.nearer.new.domain c.extend.new.self c.less_offset.new.domain c.unary.new.self c.in_ok-near.near.value c.in_ok-value.value c.in_ok-moved.moved c.in_ok-turned.turned
    c.in_ok-near.near.length c.room-wide.result (to_z w64 (of_z w64 c.args.start.offset)) c.args.start.signed near.is_word.is_one near.is_word.wide c.room-wide.ensures.fits c.room-wide.ensures.narrow c.room-wide.ensures.enough c.unary.ensures.kept
    c.in_ok-value.ensures.made c.in_ok-moved.ensures.made c.in_ok-turned.ensures.made c.args.start.down c.if-start.true))

pub returns-clause-made : goal.returns-clause-made
returns-clause-made g c =
    let fits : SFits w64 c.args.start.offset = search rules in
    let near = c.in_ok-near.ensures.made in
    n.near_amounts g.D.Domain.meaning g.met.D.Domain.as_wide c.args.domain.now c.nearer.new.domain c.unary.new.self c.args.start.signed c.args.index.now c.in_ok-near.near _ c.args.start.offset c.args.start.down (mv.fits_abs c.args.start.offset fits) near
    (subst (λ z. AreAmounts g.D.Domain.meaning c.unary.new.self (record { right = c.in_ok-moved.moved; left = c.in_ok-turned.turned }) (λ v. lowest z c.args.start.down c.args.start.signed (g.D.Domain.meaning.reads c.nearer.new.domain v c.in_ok-near.near.value)))
    (to_z-of_z w64 c.args.start.offset fits)
    (mv.made_up g.D.Domain.meaning g.met.D.Domain.as_wide c.nearer.new.domain c.extend.new.self c.less_offset.new.domain c.unary.new.self c.in_ok-near.near.value c.in_ok-value.value c.in_ok-moved.moved c.in_ok-turned.turned
    c.in_ok-near.near.length c.room-wide.result (to_z w64 (of_z w64 c.args.start.offset)) c.args.start.signed near.is_word.is_one near.is_word.wide c.room-wide.ensures.fits c.room-wide.ensures.narrow c.room-wide.ensures.enough c.unary.ensures.kept
    c.in_ok-value.ensures.made c.in_ok-moved.ensures.made c.in_ok-turned.ensures.made c.args.start.down c.if-start.false))
