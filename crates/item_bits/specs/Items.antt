-- What an item reads within the cycle, with the bits that it drives itself.
use Rattle.std.specs.Prelude.{ℕ, ◌<◌, ◌^◌, Bool, true, false}
use Rattle.design_core.specs.declared.place.BitRef.{BitRef}
use Rattle.design_core.specs.Core.{same_bit, write, stmt_reads}
use Rattle.design_core.specs.Items.{CoreItem, assign, comb, clocked, reset_by}

-- the bits of its right sides, tests and indices, and of a clocked item the reset bit alone
abbrev pub asked_within : CoreItem → BitRef → Bool
asked_within (assign l e) b = stmt_reads (write l e true) b
asked_within (comb body) b = stmt_reads body b
asked_within (clocked body) b = false
asked_within (reset_by r asserted branch body) b = same_bit b r

-- the place of its reset bit is a number that a vector may have
abbrev pub HasLowReset : CoreItem → Type 0
HasLowReset (assign l e) = Unit {0}
HasLowReset (comb body) = Unit {0}
HasLowReset (clocked body) = Unit {0}
HasLowReset (reset_by r asserted branch body) = r.bit < 2 ^ 31
