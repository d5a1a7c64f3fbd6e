use Rattle.std.proofs.Common.{◌≡◌, take, sum_by}
use Rattle.stmt_exec.proofs.aims.bits_of.Given as goal

abbrev pub invariant-loop-at : goal.invariant-loop-at
invariant-loop-at g l = l.bits ≡ sum_by (λ t. t.length) (take l.at l.targets)
