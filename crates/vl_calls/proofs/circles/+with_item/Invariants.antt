use Rattle.std.proofs.Common.{◌≡◌, drop, map}
use Rattle.vl_calls.specs.Seen.{callers}
use Rattle.vl_items.specs.Parts.{part, parts_of}
use Rattle.vl_calls.specs.Callers.{with_parts}
use Rattle.vl_calls.proofs.circles.+with_item.Given as goal

abbrev pub invariant-with_items-loop-item : goal.invariant-with_items-loop-item
invariant-with_items-loop-item l = with_parts (callers l.all) (parts_of (map part (drop l.item-index l.items))) ≡ with_parts (callers l.fn.before) (parts_of (map part l.items))
