use Rattle.std.proofs.Common.{ap, sym, length, pos, ◌-ℤ◌, ◌∙◌, w64}
use Rattle.std.proofs.lemmas.Int.{to_z-of_z}
use Rattle.std.proofs.lemmas.List.{length-map}
use Rattle.bits_core.specs.Places.{bit_at, by_place, placed, written}
use Rattle.cyc_net.specs.Nets.{value}
use Rattle.net_ops.specs.Words.{read}
use Rattle.net_ops.proofs.FoldLaws as f
use Rattle.net_ops.proofs.places.place_nodes.Goals as goal

pub returns : goal.returns
unfolding placed
returns c =
    let net = c.args.net.now in let whole = c.args.whole.now in let part = c.args.part.now in
    f.said net (length whole) _ (λ v. placed c.args.low (read net v part) (read net v whole)) c.fill.result
    (λ v. ap (λ z. by_place (length whole) (λ k. written (read net v part) (pos k -ℤ z) (bit_at (read net v whole) k))) (to_z-of_z w64 c.args.low c.ranges.low)
    ∙ ap (λ n. by_place n (λ k. written (read net v part) (pos k -ℤ c.args.low) (bit_at (read net v whole) k))) (sym (length-map whole (value net v))))
    c.fill.ensures
