use Rattle.std.proofs.lemmas.Int.{to_z-of_z}
use Rattle.std.proofs.lemmas.Result.{IfOk-weaker}
use mir.Val.{SFits}
use mir.Syntax.{w64}
use Rattle.std.proofs.Common.{rules}
use Rattle.stmt_exec.proofs.DomainLaws as d
use Rattle.stmt_exec.proofs.aims.changed.Goals as goal

pub returns-in-Whole-clause-made : goal.returns-in-Whole-clause-made
returns-in-Whole-clause-made g c =
    IfOk-weaker c.guarded.result _ _ (λ r made. d.whole_spot g.D.Domain.meaning g.met.D.Domain.as_wide c.args.domain.now c.guarded.new.domain c.args.guard.now c.args.part.value c.args.old.now r c.args.part.length c.args.spot.now c.in-Whole.is
    c.requires.part_is.is_one c.requires.old_is c.requires.part_is.wide c.requires.fits made) c.guarded.ensures.made

pub returns-in_ok-new-in-At-clause-made : goal.returns-in_ok-new-in-At-clause-made
returns-in_ok-new-in-At-clause-made g c =
    let fits : SFits w64 c.in-At.low = search rules in
    IfOk-weaker c.place.result _ _ (λ r made. d.at_spot g.D.Domain.meaning c.args.domain.now c.select.new.self c.guarded-in-At.new.domain c.place.new.self c.args.guard.now
    c.args.part.value c.args.old.now c.in_ok-had-in-At.had c.in_ok-new-in-At.new r c.in-At.low _ c.args.part.length c.args.spot.now c.in-At.is (to_z-of_z w64 c.in-At.low fits) c.requires.guard_is
    c.requires.part_is.is_one c.requires.old_is c.select.ensures.kept c.guarded-in-At.ensures.kept c.in_ok-had-in-At.ensures.made c.in_ok-new-in-At.ensures.made made) c.place.ensures.made
