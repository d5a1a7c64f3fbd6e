use Rattle.std.proofs.Common.{◌≡◌, ℕ, ◌<◌, false}
use Rattle.item_links.specs.Noted.{flag}
use Rattle.item_links.proofs.drivers.first_flag.Given as goal

abbrev pub invariant-loop-at : goal.invariant-loop-at
invariant-loop-at l = (t : ℕ) → t < l.at → flag l.twice t ≡ false
