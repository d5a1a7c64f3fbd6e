use Rattle.std.proofs.Common.{◌≡◌, ◌∙◌, sym, ap, arith, length}
use Rattle.bits_core.proofs.NumberLaws.{bits_of_length}
use Rattle.value_domain.proofs.NearLaws as n
use Rattle.value_domain.proofs.variable.nearer.Goals as goal

pub mux-requires-clause-same : goal.mux-requires-clause-same
mux-requires-clause-same g c = c.in_ok-distant.ensures.made.wide ∙ ap length c.in_ok-bits.ensures ∙ bits_of_length 127 _ ∙ sym c.in_ok-low.ensures.made.wide

pub returns-clause-made : goal.returns-clause-made
returns-clause-made g c =
    n.nearer_made g.D.Domain.meaning g.met.D.Domain.as_wide c.args.domain.now c.select.new.self c.far_bit.new.domain c.constant.new.self c.mux.new.self c.args.signed c.args.index.now c.in_ok-low.low c.in_ok-far.far c.in_ok-distant.distant c.in_ok-value-2.value
    c.requires.index_is (let a = c.requires.narrow in let b = c.if-index-lt128.false in omega arith) c.select.ensures.kept c.far_bit.ensures.kept c.constant.ensures.kept c.in_ok-bits.bits c.in_ok-bits.ensures
    c.in_ok-low.ensures.made c.in_ok-far.ensures.made c.in_ok-distant.ensures.made c.in_ok-value-2.ensures.made
