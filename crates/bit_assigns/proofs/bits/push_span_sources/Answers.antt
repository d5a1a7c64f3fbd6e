use Rattle.std.proofs.Common.{◌≡◌, ◌++◌, ◌∙◌, ap, map, pos, ◌+ℤ◌, rules, sym}
use Rattle.std.specs.List.{range_with_len}
use Rattle.std.proofs.lemmas.Int.{to_z-of_z}
use mir.Syntax.{w64}
use mir.Val.{SFits, of_z, to_z}
use Rattle.design_core.specs.Core.{spot}
use Rattle.bit_assigns.specs.Bits.{source_at}
use Rattle.bit_assigns.proofs.ListLaws.{map_spots, one_more}
use Rattle.bit_assigns.proofs.bits.push_span_sources.Goals as goal

pub loop-at-preserved : goal.loop-at-preserved
loop-at-preserved c = one_more (λ k. source_at c.args.signal c.args.size (spot c.args.size (to_z w64 (of_z w64 c.args.low) +ℤ pos k))) _ _ _ c.loop-at.at _ c.in_ok-push.ensures.items c.loop-at.invariant
    (c.source_at.ensures ∙ ap (source_at c.args.signal c.args.size) c.place_in.ensures)

pub returns : goal.returns
returns c =
    let fits : SFits w64 c.args.low = search rules in
    let last : c.loop-at.at ≡ c.args.length = search rules in
    c.loop-at.invariant
    ∙ ap (λ n. c.args.all.now.items ++ map (λ k. source_at c.args.signal c.args.size (spot c.args.size (to_z w64 (of_z w64 c.args.low) +ℤ pos k))) (range_with_len 0 n)) last
    ∙ ap (λ z. c.args.all.now.items ++ map (λ k. source_at c.args.signal c.args.size (spot c.args.size (z +ℤ pos k))) (range_with_len 0 c.args.length)) (to_z-of_z w64 c.args.low fits)
    ∙ ap (λ xs. c.args.all.now.items ++ xs) (sym (map_spots (source_at c.args.signal c.args.size) c.args.size c.args.low c.args.length))
