use Rattle.std.proofs.Common.{◌≡◌, ℕ, ◌≤◌, ◌||◌, eqb, length, drop}
use Rattle.cyc_net.specs.Nets.{bit_at}
use Rattle.tseitin_cnf.specs.Encoding.{is_input}
use Rattle.tseitin_cnf.proofs.marking.mark_below.Given as goal

abbrev pub invariant-loop-at : goal.invariant-loop-at
invariant-loop-at l = record {
  within : l.at ≤ length l.net;
  read : (m : ℕ) → bit_at l.marks m ≡ (eqb m l.goal || is_input (bit_at l.marks) l.at (drop l.at l.net) m);
}

abbrev pub decreases-loop-at : goal.decreases-loop-at
decreases-loop-at l = l.at
