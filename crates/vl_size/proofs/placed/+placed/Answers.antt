use Rattle.std.proofs.Common.{arith, ap, sym, ◌∙◌, ◌||◌}
use denote.Param.Weighed.{most}
use Rattle.vl_size.specs.declared.tree.Sizing.{size-Sizing}
use Rattle.vl_size.specs.Descents.{behind, placed_frames, depth_of_frames}
use Rattle.vl_size.proofs.PlacingLaws.{sized_more, wide_more, frames_more, depth_of_more, behind_smaller, over_parts}
use Rattle.vl_size.proofs.placed.+placed.Goals as goal

pub placed_parts-loop-part-preserved : goal.placed_parts-loop-part-preserved
placed_parts-loop-part-preserved n c =
    let o = c.args.outer in
    let part = c.part-item.result in (
      sized_more o.operands o.common o.context c.args.parts.now c.loop-part.part-index part c.loop-part.all _ c.context_of.result c.in_ok-sized.sized _
          (omega arith) c.part-item.is c.context_of.ensures c.in_ok-sized.ensures.sized c.in_ok-push.ensures.ok c.loop-part.invariant.0,
      wide_more o.operands o.common o.context c.args.parts.now c.loop-part.part-index part c.loop-part.wide _ c.in_ok-sized.below c.context_of.result _
          (omega arith) c.part-item.is c.context_of.ensures c.in_ok-sized.ensures.wide c.either-wide.ensures c.loop-part.invariant.1,
    )

pub placed-placed_parts-requires : goal.placed-placed_parts-requires
placed-placed_parts-requires t c =
    let e = ap depth_of_frames c.in-Some.ensures.items ∙ depth_of_more c.pop.new.self.items c.in-Some.frame in
    let m = c.loop-frame.invariant.smaller in
    let h = behind_smaller c.in-Some.frame.sizing.now in
    let o = ap (most size-Sizing) (c.behind_first-others.ensures ∙ ap behind c.as_slice.ensures) in
    let falls = c.decreases in (omega (arith, falls, e, m, h, o), tt)

pub placed-loop-frame-preserved : goal.placed-loop-frame-preserved
placed-loop-frame-preserved t c =
    let frames = c.pop.new.self.items in
    let frame = c.in-Some.frame in
    let e = ap depth_of_frames c.in-Some.ensures.items ∙ depth_of_more frames frame in
    let m = c.loop-frame.invariant.smaller in
    let others = c.behind_first-others.ensures ∙ ap behind c.as_slice.ensures in
    let here = c.either-here.ensures ∙ ap (λ t. t || c.loop-frame.wide) c.is_wide_at.ensures in
    let over = over_parts frame.sizing.now frame.context c.loop-frame.all c.sized_of-all-in-Some.result c.loop-frame.wide c.either-here.result c.in_ok-parts.below _ _ _ _ _ _
    c.outer_of-outer.ensures.operands c.outer_of-outer.ensures.common c.outer_of-outer.ensures.context others here c.in_ok-only.ensures
    c.in_ok-parts.ensures.sized c.in_ok-parts.ensures.wide c.sized_of-all-in-Some.ensures in record {
      whole = ap (λ r. placed_frames r frames) over ∙ sym (frames_more (c.loop-frame.all, c.loop-frame.wide) frames frame)
          ∙ ap (placed_frames (c.loop-frame.all, c.loop-frame.wide)) (sym c.in-Some.ensures.items) ∙ c.loop-frame.invariant.whole;
      smaller = omega (arith, e, m);
    }
