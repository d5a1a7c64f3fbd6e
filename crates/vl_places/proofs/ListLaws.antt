-- Items and arms by their numbers.
use Rattle.std.proofs.Common.{◌≡◌, ℕ, zero, suc, ◌<◌, ◌≤◌, List, [], ◌∷◌, map, length, get_or, refl, ap, ◌∙◌, Option, Some, None, slice_get}
use Rattle.std.proofs.lemmas.Option.{slice_get-map, slice_get_read, slice_get_past}
use Rattle.std.specs.Option.{option_map}
use Rattle.vl_tree.specs.declared.modules.GenArm.{GenArm}
use Rattle.vl_tree.specs.declared.modules.Item.{Item}
use Rattle.vl_items.specs.Parts.{Part, Arm, Body, part, parts_of, arms_of, arm_part, absent}
use Rattle.vl_places.specs.Places.{item_at, arm_at, arm_block}

item_of : (ps : List Part) (n : ℕ) → item_at (parts_of ps) n ≡ slice_get ps n
item_of [] n = refl
item_of (p ∷ ps) zero = refl
item_of (p ∷ ps) (suc n) = item_of ps n

abbrev block_or_absent : Option Arm → Body
block_or_absent None = absent
block_or_absent (Some a) = arm_block a

arm_of : (as' : List Arm) (n : ℕ) → arm_at (arms_of as') n ≡ block_or_absent (slice_get as' n)
arm_of [] n = refl
arm_of (a ∷ as') zero = refl
arm_of (a ∷ as') (suc n) = arm_of as' n

-- an item that is read at its number
pub item_read : (xs : List Item) (n : ℕ) (x : Item) → n < length xs → x ≡ get_or xs n x → item_at (parts_of (map part xs)) n ≡ Some (part x)
item_read xs n x lt e = item_of (map part xs) n ∙ slice_get-map part xs n ∙ ap (option_map part) (slice_get_read xs (length xs) n x refl lt e)

pub no_item : (xs : List Item) (n : ℕ) → length xs ≤ n → item_at (parts_of (map part xs)) n ≡ None
no_item xs n past = item_of (map part xs) n ∙ slice_get-map part xs n ∙ ap (option_map part) (slice_get_past xs n past)

-- and the block of an arm
pub arm_read : (xs : List GenArm) (n : ℕ) (x : GenArm) → n < length xs → x ≡ get_or xs n x → arm_at (arms_of (map arm_part xs)) n ≡ arm_block (arm_part x)
arm_read xs n x lt e = arm_of (map arm_part xs) n ∙ ap block_or_absent (slice_get-map arm_part xs n ∙ ap (option_map arm_part) (slice_get_read xs (length xs) n x refl lt e))

pub past_arms : (xs : List GenArm) (n : ℕ) → length xs ≤ n → arm_at (arms_of (map arm_part xs)) n ≡ absent
past_arms xs n past = arm_of (map arm_part xs) n ∙ ap block_or_absent (slice_get-map arm_part xs n ∙ ap (option_map arm_part) (slice_get_past xs n past))
