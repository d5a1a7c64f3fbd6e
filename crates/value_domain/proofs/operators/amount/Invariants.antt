use Rattle.std.proofs.Common.{◌≡◌, ◌<◌, ◌-◌, ◌^◌, drop}
use Rattle.bits_core.specs.Numbers.{number}
use Rattle.value_domain.proofs.operators.amount.Given as goal

-- the number of the highest bits so far
abbrev pub invariant-loop-done : goal.invariant-loop-done
invariant-loop-done l = record {
  value : l.number ≡ number (drop (l.len - l.done) l.bits);
  below : l.number < 2 ^ l.done;
}
