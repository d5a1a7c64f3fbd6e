use Rattle.std.proofs.Common.{arith}
use Rattle.std.specs.Prelude.{slice_index_or}
use Rattle.known_bits.proofs.KnownLaws.{among_get}
use Rattle.known_bits.proofs.known.learn_all.Goals as goal

pub learn_one-requires-clause-fits : goal.learn_one-requires-clause-fits
learn_one-requires-clause-fits c =
    let bits = c.args.bits.now in
    let l = c.requires.fits (slice_index_or bits c.loop-at.at 0) (among_get bits c.loop-at.at 0 c.loop-at-test.true) in
    let m = c.loop-at.invariant.many in
    omega (arith, l, m)
