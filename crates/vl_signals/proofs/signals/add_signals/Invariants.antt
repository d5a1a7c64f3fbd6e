use Rattle.std.proofs.Common.{◌≡◌, ◌++◌, length, drop}
use Rattle.vl_signals.specs.Signals.{slot_signals, slot_numbers, behind_slots}
use Rattle.vl_signals.proofs.signals.add_signals.Given as goal

abbrev pub invariant-loop-slot : goal.invariant-loop-slot
invariant-loop-slot l = record {
  signals : l.signals ++ slot_signals l.scope l.path (drop l.slot-index l.slots) ≡ l.fn.signals ++ slot_signals l.scope l.path l.slots;
  numbers : l.numbers ++ slot_numbers (length l.signals) (drop l.slot-index l.slots) ≡ slot_numbers (length l.fn.signals) l.slots;
  behind : behind_slots (length l.signals) (drop l.slot-index l.slots) ≡ behind_slots (length l.fn.signals) l.slots;
}
