use Rattle.std.proofs.Common.{◌∙◌, ◌-◌, ap, sym, false, nat_lt, if◌then◌else◌}
use Rattle.bits_core.specs.Places.{bit_at, by_place, shifted_left}
use Rattle.bits_core.proofs.places.move_up.Goals as goal

pub returns : goal.returns
unfolding shifted_left
returns c = c.fill.ensures ∙ ap (λ n. by_place n (λ k. if nat_lt k c.args.by then false else bit_at c.args.bits.now (k - c.args.by))) (sym c.requires.same)
