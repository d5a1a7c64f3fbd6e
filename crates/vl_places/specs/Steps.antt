-- The items of the block at a place, number by number.
use Rattle.std.specs.Prelude.{ℕ, zero, suc, Bool, true, false, List, [], ◌∷◌, Option, Some, None, if◌then◌else◌}
use Rattle.vl_items.specs.Parts.{Part, Parts, Body, none, port, net, integer, genvar, parameter, assign, always, initial, function, instances, gates, region, loop, choice, cases, absent}
use Rattle.vl_places.specs.Places.{item_at, block_parts, arm_at}

abbrev pub branch_of_if : Body → Body → ℕ → Body
branch_of_if b c zero = b
branch_of_if b c (suc zero) = c
branch_of_if b c (suc (suc n)) = absent

abbrev pub branch_of_loop : Body → ℕ → Body
branch_of_loop b zero = b
branch_of_loop b (suc n) = absent

-- the block of this number in an item
abbrev pub branch : Part → ℕ → Body
branch (loop h b) n = branch_of_loop b n
branch (choice e b c) n = branch_of_if b c n
branch (cases e as') n = arm_at as' n
branch (port p) n = absent
branch (net p) n = absent
branch (integer vs) n = absent
branch (genvar ts) n = absent
branch (parameter p) n = absent
branch (assign xs) n = absent
branch (always p) n = absent
branch (initial s) n = absent
branch (function f) n = absent
branch (instances i) n = absent
branch (gates g) n = absent
branch (region ps) n = absent

abbrev pub is_region : Part → Bool
is_region (region ps) = true
is_region (port p) = false
is_region (net p) = false
is_region (integer vs) = false
is_region (genvar ts) = false
is_region (parameter p) = false
is_region (assign xs) = false
is_region (always p) = false
is_region (initial s) = false
is_region (function f) = false
is_region (instances i) = false
is_region (gates g) = false
is_region (loop h b) = false
is_region (choice e b c) = false
is_region (cases e as') = false

abbrev pub own_parts : Part → Parts
own_parts (region ps) = ps
own_parts (port p) = none
own_parts (net p) = none
own_parts (integer vs) = none
own_parts (genvar ts) = none
own_parts (parameter p) = none
own_parts (assign xs) = none
own_parts (always p) = none
own_parts (initial s) = none
own_parts (function f) = none
own_parts (instances i) = none
own_parts (gates g) = none
own_parts (loop h b) = none
own_parts (choice e b c) = none
own_parts (cases e as') = none

abbrev pub branch_parts : Option Part → ℕ → Parts
branch_parts None n = none
branch_parts (Some p) n = block_parts (branch p n)

abbrev pub region_at : Option Part → Bool
region_at None = false
region_at (Some p) = is_region p

abbrev pub region_parts : Option Part → Parts
region_parts None = none
region_parts (Some p) = own_parts p

-- where the numbers of a place lead so far: to items, or to the item of this number among them
pub record Spot : Type 0 where
  pub parts : Parts
  pub item : Option ℕ

abbrev pub spot : Parts → Option ℕ → Spot
spot ps item = record { parts = ps; item = item }

-- The next number is that of an item, or of a block in an item; the items of a region are counted behind its own place.
abbrev pub next : Parts → Option ℕ → ℕ → Spot
next ps None n = spot ps (Some n)
next ps (Some at) n =
    if region_at (item_at ps at) then spot (region_parts (item_at ps at)) (Some n)
    else spot (branch_parts (item_at ps at) n) None

abbrev pub spot_from : Spot → List ℕ → Spot
spot_from s [] = s
spot_from s (n ∷ ns) = spot_from (next s.parts s.item n) ns

abbrev pub parts_in : Parts → Option ℕ → Parts
parts_in ps None = ps
parts_in ps (Some at) = region_parts (item_at ps at)

abbrev pub parts_of_spot : Spot → Parts
parts_of_spot s = parts_in s.parts s.item

-- the items of the block at a place; none where no block stands there
abbrev pub parts_at : Parts → List ℕ → Parts
parts_at ps place = parts_of_spot (spot_from (spot ps None) place)
