use Rattle.std.proofs.Common.{◌≡◌, ◌∙◌, sym, ap, length}
use Rattle.bits_core.proofs.NumberLaws.{bits_of_length}
use Rattle.value_domain.proofs.MoveLaws as mv
use Rattle.value_domain.proofs.variable.less_offset.Goals as goal

pub binary-requires-clause-fits : goal.binary-requires-clause-fits
binary-requires-clause-fits g c = mv.narrow_pair (g.D.Domain.meaning.width c.args.number.now.value) (g.D.Domain.meaning.width c.in_ok-size.size) c.args.number.now.length c.requires.number_is.wide
    (c.in_ok-size.ensures.made.wide ∙ ap length c.in_ok-bits.ensures ∙ bits_of_length c.args.number.now.length _) c.requires.narrow

pub binary-requires-else-offset-lt0-clause-fits : goal.binary-requires-else-offset-lt0-clause-fits
binary-requires-else-offset-lt0-clause-fits g c = mv.narrow_pair (g.D.Domain.meaning.width c.args.number.now.value) (g.D.Domain.meaning.width c.in_ok-size.size) c.args.number.now.length c.requires.number_is.wide
    (c.in_ok-size.ensures.made.wide ∙ ap length c.in_ok-bits.ensures ∙ bits_of_length c.args.number.now.length _) c.requires.narrow
