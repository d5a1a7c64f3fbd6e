-- What a clocked item reads at the end of the cycle.
use Rattle.std.proofs.Common.{◌≡◌, ℕ, ◌||◌, refl, Option, Some, None}
use Rattle.design_core.specs.declared.items.DReset.{DReset}
use Rattle.design_core.specs.declared.place.BitRef.{BitRef}
use Rattle.design_core.specs.declared.tree.DStmt.{DStmt}
use Rattle.design_core.specs.Core.{stmt_reads}
use Rattle.design_core.specs.Items.{cell_of}
use Rattle.design_core.specs.Parts.{clocked_of}
use Rattle.design_core.specs.Terms.{stmt}
use Rattle.item_bits.specs.Items.{asked_within}

pub clocked_uses : (size : ℕ → ℕ) (reset : Option DReset) (body : DStmt) (b : BitRef)
    → (cell_of (clocked_of size reset body)).uses b ≡ (asked_within (clocked_of size reset body) b || stmt_reads (stmt size body) b)
clocked_uses size None body b = refl
clocked_uses size (Some r) body b = refl
