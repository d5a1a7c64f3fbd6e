-- Extensions, selects and writes bit by bit.
use Rattle.std.proofs.Common.{◌≡◌, ℕ, zero, suc, ◌+◌, ◌-◌, ◌<◌, ◌≤◌, Bool, true, false, ◌&&◌, List, [], ◌∷◌, ◌++◌, length, map, get_or, ap, refl, sym, ◌∙◌, arith, inl, inr, if◌then◌else◌}
use Rattle.std.specs.Prelude.{nat_lt, ℤ, pos, negsuc, ◌+ℤ◌, ◌-ℤ◌}
use Rattle.std.proofs.lemmas.Int.{ints}
use Rattle.std.proofs.lemmas.List.{length-append, get_or_append_left, get_or-append_right, get_or_past, ext_get_or}
use Rattle.std.proofs.lemmas.List.FromFn.{fill_by_all, get_or-map-range_with_len, length-map-range_with_len}
use Rattle.std.proofs.lemmas.Bool.{lt-ltb, le-ltb, cases_lt}
use Rattle.bits_core.specs.Places.{bit_at, bit_at_int, sign_of, written, extended, selected, placed, shifted_left, shifted_right}

pub length_extended : (keeps : Bool) (n : ℕ) (xs : List Bool) → length (extended keeps n xs) ≡ n
unfolding extended
length_extended keeps n xs = length-map-range_with_len _ 0 n

pub length_selected : (low : ℤ) (n : ℕ) (xs : List Bool) → length (selected low n xs) ≡ n
unfolding selected
length_selected low n xs = length-map-range_with_len _ 0 n

pub length_placed : (low : ℤ) (part whole : List Bool) → length (placed low part whole) ≡ length whole
unfolding placed
length_placed low part whole = length-map-range_with_len _ 0 (length whole)

pub extended_at : (keeps : Bool) (n : ℕ) (xs : List Bool) (k : ℕ) → k < n
    → bit_at (extended keeps n xs) k ≡ (if nat_lt k (length xs) then bit_at xs k else (keeps && sign_of xs))
unfolding extended
extended_at keeps n xs k l = get_or-map-range_with_len _ 0 n k k false l (omega arith)

pub selected_at : (low : ℤ) (n : ℕ) (xs : List Bool) (k : ℕ) → k < n → bit_at (selected low n xs) k ≡ bit_at_int xs (low +ℤ pos k)
unfolding selected
selected_at low n xs k l = get_or-map-range_with_len _ 0 n k k false l (omega arith)

pub placed_at : (low : ℤ) (part whole : List Bool) (k : ℕ) → k < length whole → bit_at (placed low part whole) k ≡ written part (pos k -ℤ low) (bit_at whole k)
unfolding placed
placed_at low part whole k l = get_or-map-range_with_len _ 0 (length whole) k k false l (omega arith)

pub shifted_left_at : (by : ℕ) (xs : List Bool) (k : ℕ) → k < length xs → bit_at (shifted_left by xs) k ≡ (if nat_lt k by then false else bit_at xs (k - by))
unfolding shifted_left
shifted_left_at by xs k l = get_or-map-range_with_len _ 0 (length xs) k k false l (omega arith)

pub shifted_right_at : (by : ℕ) (xs : List Bool) (k : ℕ) → k < length xs → bit_at (shifted_right false by xs) k ≡ bit_at xs (k + by)
unfolding shifted_right
shifted_right_at by xs k l = get_or-map-range_with_len _ 0 (length xs) k k false l (omega arith)
    ∙ elim (cases_lt (k + by) (length xs)) [
      | inl h ↦ ap (λ t. if t then bit_at xs (k + by) else false) (lt-ltb (k + by) (length xs) h)
      | inr h ↦ ap (λ t. if t then bit_at xs (k + by) else false) (le-ltb (k + by) (length xs) h) ∙ sym (get_or_past xs (k + by) false h)
    ]

pub if_lt : {X : Type 0} (a b : ℕ) (x y : X) → a < b → (if nat_lt a b then x else y) ≡ x
if_lt a b x y l = ap (λ t. if t then x else y) (lt-ltb a b l)

pub if_ge : {X : Type 0} (a b : ℕ) (x y : X) → b ≤ a → (if nat_lt a b then x else y) ≡ y
if_ge a b x y l = ap (λ t. if t then x else y) (le-ltb a b l)

pub same_lists_bits : (xs ys : List Bool) → length xs ≡ length ys → ((k : ℕ) → k < length xs → bit_at xs k ≡ bit_at ys k) → xs ≡ ys
same_lists_bits xs ys e h = ext_get_or false xs ys e h

-- a part written above is appended
module _ (low high : List Bool) (n : ℕ) (e : n ≡ length low + length high) where
  below : (k : ℕ) → k < n → k < length low → written high (pos k -ℤ pos (length low)) (bit_at (extended false n low) k) ≡ bit_at low k
  below k l h =
      let d : pos k -ℤ pos (length low) ≡ negsuc (length low - suc k) = omega (arith, ints) in
      ap (λ z. written high z (bit_at (extended false n low) k)) d ∙ extended_at false n low k l ∙ if_lt k (length low) _ _ h

  above : (k : ℕ) → k < n → length low ≤ k → written high (pos k -ℤ pos (length low)) (bit_at (extended false n low) k) ≡ bit_at high (k - length low)
  above k l h =
      let d : pos k -ℤ pos (length low) ≡ pos (k - length low) = omega (arith, ints) in
      ap (λ z. written high z (bit_at (extended false n low) k)) d ∙ if_lt (k - length low) (length high) _ _ (omega (arith, e))

  bits : (k : ℕ) → k < n → bit_at (low ++ high) k ≡ written high (pos k -ℤ pos (length low)) (bit_at (extended false n low) k)
  bits k l = elim (cases_lt k (length low)) [
    | inl h ↦ get_or_append_left low high false k h ∙ sym (below k l h)
    | inr h ↦ get_or-append_right low high (length low) k false refl h ∙ sym (above k l h)
  ]

  pub placed_above : placed (pos (length low)) high (extended false n low) ≡ low ++ high
  placed_above =
      let m = length_extended false n low in
      same_lists_bits (placed (pos (length low)) high (extended false n low)) (low ++ high)
      (length_placed (pos (length low)) high (extended false n low) ∙ m ∙ e ∙ sym (length-append low high))
      (λ k l. (let within : k < n = omega (arith, l, length_placed (pos (length low)) high (extended false n low), m) in
      placed_at (pos (length low)) high (extended false n low) k (omega (arith, within, m)) ∙ sym (bits k within)))
