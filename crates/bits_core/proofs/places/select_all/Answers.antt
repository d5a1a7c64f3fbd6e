use Rattle.std.proofs.Common.{◌∙◌, ap, length, w64}
use Rattle.std.proofs.lemmas.Int.{to_z-of_z}
use Rattle.bits_core.specs.Places.{selected}
use Rattle.bits_core.proofs.places.select_all.Goals as goal

pub returns : goal.returns
unfolding selected
returns c = c.fill.ensures ∙ ap (λ z. selected z (length c.args.out.now) c.args.bits.now) (to_z-of_z w64 c.args.low c.ranges.low)
