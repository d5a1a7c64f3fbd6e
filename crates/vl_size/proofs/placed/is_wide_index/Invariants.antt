use Rattle.std.proofs.Common.{◌≡◌, map, drop}
use Rattle.vl_size.specs.Sizings.{node_of}
use Rattle.vl_size.specs.Placed.{is_wide_index}
use Rattle.vl_size.proofs.placed.is_wide_index.Given as goal

abbrev pub invariant-loop-part : goal.invariant-loop-part
invariant-loop-part l = is_wide_index (map node_of (drop l.part-index l.parts)) ≡ is_wide_index (map node_of l.parts)
