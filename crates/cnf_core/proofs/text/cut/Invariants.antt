use Rattle.std.proofs.Common.{◌≡◌, ℕ, ◌<◌, false, get_or}
use Rattle.cnf_core.specs.Separators.{ends}
use Rattle.cnf_core.proofs.text.cut.Given as goal

abbrev pub invariant-loop-i : goal.invariant-loop-i
invariant-loop-i l = (k : ℕ) → k < l.i → ends l.separator (get_or l.text k 0) ≡ false
