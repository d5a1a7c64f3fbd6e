-- What stands at a place is what the place leads to.
use Rattle.std.specs.Prelude.{◌≡◌, ℕ, List}
use Rattle.vl_items.specs.Parts.{Parts, Body}
use Rattle.vl_places.specs.Places.{BlockAt, block_parts}
use Rattle.vl_places.specs.Steps.{parts_at}

-- the items at the place of a block are its own
abbrev pub BlocksStandInPlace : Type 0
BlocksStandInPlace = (ps : Parts) (at : List ℕ) (b : Body) → BlockAt ps at b → parts_at ps at ≡ block_parts b
