-- The arm at a place, and bits of different lengths.
use Rattle.std.proofs.Common.{◌≡◌, ◌≢◌, ◌<◌, ◌≤◌, ◌∙◌, None, Some, ℕ, zero, suc, Bool, true, false, List, [], ◌∷◌, map, length, refl, ap}
use Rattle.design_core.specs.Operators.{is_equal}
use Rattle.std.specs.Prelude.{◌&&◌, slice_get, slice_index_or}
use Rattle.std.specs.Option.{option_map}
use Rattle.std.proofs.lemmas.Option.{slice_get_past, slice_get_read}
use Rattle.vl_tree.specs.declared.modules.GenArm.{GenArm}
use Rattle.vl_items.specs.Parts.{arms_of, arm_part}
use Rattle.vl_generate.specs.Branches.{arm_at}

arm_at_place : (xs : List GenArm) (n : ℕ) → arm_at (arms_of (map arm_part xs)) n ≡ option_map arm_part (slice_get xs n)
arm_at_place [] n = refl
arm_at_place (x ∷ xs) zero = refl
arm_at_place (x ∷ xs) (suc n) = arm_at_place xs n

pub arm_past : (xs : List GenArm) (n : ℕ) → length xs ≤ n → arm_at (arms_of (map arm_part xs)) n ≡ None
arm_past xs n past = arm_at_place xs n ∙ ap (option_map arm_part) (slice_get_past xs n past)

pub arm_read : (xs : List GenArm) (n : ℕ) (x : GenArm) → n < length xs → x ≡ slice_index_or xs n x → arm_at (arms_of (map arm_part xs)) n ≡ Some (arm_part x)
arm_read xs n x within is = arm_at_place xs n ∙ ap (option_map arm_part) (slice_get_read xs (length xs) n x refl within is)

both_false : (a b : Bool) → b ≡ false → (a && b) ≡ false
both_false true b e = e
both_false false b e = refl

pub unequal : (xs ys : List Bool) → length xs ≢ length ys → is_equal xs ys ≡ false
unequal [] [] h = absurd (h refl)
unequal [] (y ∷ ys) h = refl
unequal (x ∷ xs) [] h = refl
unequal (x ∷ xs) (y ∷ ys) h = both_false _ _ (unequal xs ys (λ e. h (ap suc e)))
