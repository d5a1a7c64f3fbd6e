use Rattle.std.proofs.Common.{◌≡◌, ◌≤◌}
use Rattle.vl_size.specs.declared.tree.Sizing.{size-Sizing}
use Rattle.vl_size.specs.Descents.{placed_at, placed_frames, depth_of_frames}
use Rattle.vl_size.proofs.placed.descend.Given as goal

abbrev pub invariant-loop-first : goal.invariant-loop-first
invariant-loop-first l = record {
  whole : placed_frames (placed_at l.here l.outer) l.frames.items ≡ placed_at l.sizing l.fn.context;
  within : size-Sizing l.here ≤ size-Sizing l.sizing;
  frames : depth_of_frames l.frames.items ≤ size-Sizing l.sizing;
}
