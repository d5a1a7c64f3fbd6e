use Rattle.std.proofs.Common.{◌∙◌, ◌+◌, ap, sym, length, nat_lt, if◌then◌else◌}
use Rattle.bits_core.specs.Places.{bit_at, by_place, shifted_right}
use Rattle.bits_core.proofs.places.move_down.Goals as goal

pub returns : goal.returns
unfolding shifted_right
returns c =
    c.fill.ensures
    ∙ ap (λ n. by_place n (λ k. if nat_lt (k + c.args.by) (length c.args.bits.now) then bit_at c.args.bits.now (k + c.args.by) else c.args.fill_bit))
    (sym c.requires.same)
