use Rattle.std.proofs.Common.{◌≡◌, ◌+◌, drop}
use Rattle.design_core.specs.Wellformed.{signal_lengths}
use Rattle.tree_weights.specs.Spines.{lengths_sum}
use Rattle.tree_weights.proofs.weights.+lengths.Given as goal

abbrev pub invariant-spend_lengths-loop-part : goal.invariant-spend_lengths-loop-part
invariant-spend_lengths-loop-part l = l.fn.room + lengths_sum (signal_lengths l.signals) (drop l.part-index l.parts) ≡ l.rest + lengths_sum (signal_lengths l.signals) l.parts
