use Rattle.std.proofs.Common.{arith}
use Rattle.std.proofs.lemmas.Int.{ints}
use Rattle.stmt_exec.proofs.AimLaws as a
use Rattle.stmt_exec.proofs.aims.write_one.Goals as goal

pub changed-requires-clause-wide : goal.changed-requires-clause-wide
changed-requires-clause-wide g c = a.width_fits g.D.Domain.meaning c.args.vectors.now c.args.target.now.vector c.index-vectors-place.result c.requires.target_is.there c.requires.most

pub returns-clause-wide : goal.returns-clause-wide
returns-clause-wide g c =
    a.set_wide g.D.Domain.meaning c.args.vectors.now c.args.target.now.vector c.index-vectors-place.result c.in_ok-new.new c.requires.target_is.there c.index-vectors-place.is c.in_ok-new.ensures.made.wide

pub returns-clause-written : goal.returns-clause-written
returns-clause-written g c =
    a.one_made g.D.Domain.meaning c.args.domain.now c.select.new.self c.changed.new.domain c.args.guard.now c.args.target.now c.args.low _ c.args.value.now c.in_ok-bits.bits c.index-vectors-place.result c.in_ok-new.new
    c.args.vectors.now (omega (arith, ints, c.ranges.low.fits)) c.requires.guard_is c.requires.value_is c.requires.all c.requires.target_is c.index-vectors-place.is c.select.ensures.kept c.changed.ensures.kept
    c.in_ok-bits.ensures.made c.in_ok-new.ensures.made
