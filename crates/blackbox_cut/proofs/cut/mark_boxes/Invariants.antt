use Rattle.std.proofs.Common.{◌≡◌, ◌<◌, ℕ, false, length, slice_index_or, take}
use Rattle.blackbox_cut.specs.Boxes.{is_among}
use Rattle.blackbox_cut.proofs.cut.mark_boxes.Given as goal

abbrev pub invariant-loop-number : goal.invariant-loop-number
invariant-loop-number l = record {
  count : length l.marks.items ≡ l.count;
  here : (s : ℕ) → s < length l.marks.items → slice_index_or l.marks.items s false ≡ is_among (take l.number-index l.closed) s;
}
