use Rattle.std.proofs.Common.{◌≡◌, ◌&&◌, max, map, drop}
use Rattle.vl_size.specs.Sizings.{common, node_of}
use Rattle.vl_size.proofs.placed.common.Given as goal

abbrev pub invariant-loop-part : goal.invariant-loop-part
invariant-loop-part l = (max l.length (common (map node_of (drop l.part-index l.parts))).length ≡ (common (map node_of l.parts)).length)
    × (l.signed && (common (map node_of (drop l.part-index l.parts))).signed ≡ (common (map node_of l.parts)).signed)
