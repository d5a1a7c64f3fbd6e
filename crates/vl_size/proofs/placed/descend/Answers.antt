use Rattle.std.proofs.Common.{◌≡◌, ◌∙◌, ◌++◌, ◌∷◌, [], ap, sym, ◌+◌, arith, true, map, drop}
use Rattle.vl_size.specs.declared.placed.Frame.{Frame}
use Rattle.vl_size.specs.declared.tree.Sizing.{Sizing, size-Sizing}
use Rattle.vl_size.specs.Sizings.{parts_of, node_of, common}
use Rattle.vl_size.specs.Placed.{context}
use Rattle.vl_size.specs.Descents.{placed_at, placed_over, placed_frames, depth_of_frames}
use Rattle.vl_size.proofs.PlacingLaws.{from_part, placed_first, frames_more, depth_of_more, part_smaller}
use Rattle.vl_size.proofs.placed.descend.Goals as goal

pub loop-first-preserved : goal.loop-first-preserved
loop-first-preserved c =
    let here = c.loop-first.here.now in
    let outer = c.loop-first.outer in
    let old = c.loop-first.frames.items in
    let first = c.first-item.result in
    let slice = c.as_slice.result.now in
    let rest = drop (0 + 1) slice in
    let parts : parts_of here ≡ first ∷ rest = sym c.as_slice.ensures ∙ from_part slice 0 first (omega (arith, c.in-len1-up.len_at_least)) c.first-item.is in
    let frame : Frame = record { sizing = c.loop-first.here; context = outer } in
    let all : c.push.new.self.items ≡ old ++ frame ∷ [] = c.in_ok-push.ensures.items in
    let depths = ap depth_of_frames all ∙ depth_of_more old frame in
    let less = part_smaller here first rest parts in
    let inner : c.context_of-outer.result ≡ context (node_of here).operands (common (map node_of (parts_of here))) outer true (node_of first) =
    cc (c.context_of-outer.ensures, c.outer_of.ensures.operands, c.outer_of.ensures.common, c.outer_of.ensures.context) in
    let within = c.loop-first.invariant.within in
    let frames = c.loop-first.invariant.frames in record {
      whole = ap (placed_frames (placed_at first c.context_of-outer.result)) all ∙ frames_more (placed_at first c.context_of-outer.result) old frame
          ∙ ap (λ r. placed_frames r old) (sym (placed_first here first rest outer c.context_of-outer.result parts inner)) ∙ c.loop-first.invariant.whole;
      within = omega (arith, less, within);
      frames = omega (arith, depths, within, frames);
    }
