use Rattle.std.proofs.Common.{refl}
use Rattle.vl_lex.proofs.Values.{value_end, value_stop}
use Rattle.vl_lex.proofs.numbers.value_of.Goals as goal

pub returns-in-None : goal.returns-in-None
returns-in-None c = value_stop _ _ _ _ _ _ c.requires c.loop-byte.invariant.goes_on c.loop-byte-test.true refl c.if-byte-ne95.true (c.in-None.ensures)

pub returns : goal.returns
returns c = value_end _ _ _ _ _ c.loop-byte.invariant.goes_on c.loop-byte-test.false c.loop-byte.invariant.small
