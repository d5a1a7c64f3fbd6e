use Rattle.std.proofs.Common.{◌≡◌, ◌++◌, ◌≤◌, false, map, drop, vec_len}
use Rattle.vl_size.specs.declared.tree.Sizing.{size-Sizing}
use Rattle.vl_size.specs.Placed.{placing, sized_each, is_some_wide}
use Rattle.vl_size.specs.Descents.{placed_at, placed_frames, depth_of_frames}
use Rattle.vl_size.proofs.placed.+placed.Given as goal

abbrev pub invariant-placed_parts-loop-part : goal.invariant-placed_parts-loop-part
invariant-placed_parts-loop-part l = (l.all ++ sized_each l.outer.operands l.outer.common l.outer.context false (map placing (drop l.part-index l.parts)) ≡ l.fn.before ++ sized_each l.outer.operands l.outer.common l.outer.context false (map placing l.parts))
    × (is_some_wide l.outer.operands l.outer.common l.outer.context false l.wide (map placing (drop l.part-index l.parts)) ≡ is_some_wide l.outer.operands l.outer.common l.outer.context false l.here (map placing l.parts))

abbrev pub invariant-placed-loop-frame : goal.invariant-placed-loop-frame
invariant-placed-loop-frame l = record {
  whole : placed_frames (l.all, l.wide) l.frames.items ≡ placed_at l.sizing l.fn.context;
  smaller : depth_of_frames l.frames.items ≤ size-Sizing l.sizing;
}

abbrev pub decreases-placed-loop-frame : goal.decreases-placed-loop-frame
decreases-placed-loop-frame l = vec_len l.frames
