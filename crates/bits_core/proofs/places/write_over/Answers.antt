use Rattle.std.proofs.Common.{false, arith, get_or, pos, ◌-ℤ◌, ◌∙◌, ap, w64}
use Rattle.std.proofs.lemmas.Int.{to_z-of_z}
use Rattle.std.proofs.lemmas.List.FromFn.{fill_by_all}
use Rattle.bits_core.specs.Places.{placed, written}
use Rattle.bits_core.proofs.places.write_over.Goals as goal

pub returns : goal.returns
unfolding placed
returns c = fill_by_all _ _ _ false (omega arith) (λ k l.
    c.loop-at.invariant.done k (omega (arith, l))
    ∙ ap (λ z. written c.args.part.now (pos k -ℤ z) (get_or c.args.out.now k false)) (to_z-of_z w64 c.args.low c.ranges.low))
