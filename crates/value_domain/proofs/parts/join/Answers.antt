use Rattle.std.proofs.Common.{◌≡◌, pos, arith}
use Rattle.std.proofs.lemmas.Int.{ints}
use Rattle.value_domain.proofs.WordLaws as w
use Rattle.value_domain.proofs.parts.join.Goals as goal

pub returns-clause-made : goal.returns-clause-made
returns-clause-made g c =
    w.join_made g.D.Domain.meaning g.met.D.Domain.as_wide c.args.domain.now c.extend.new.self c.place.new.self c.args.low.now c.args.high.now c.in_ok-wide.wide c.in_ok-value.value _
    (omega (arith, ints, c.requires.most)) c.requires.second c.requires.first c.extend.ensures.kept c.in_ok-wide.ensures.made c.in_ok-value.ensures.made
