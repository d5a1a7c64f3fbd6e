-- Signals, bits and scopes that print alike.
use Rattle.std.specs.Prelude.{◌≡◌, ℕ, suc, ◌<◌, ◌≤◌, max, Bool, true, false, not, ◌&&◌, ◌==◌, if◌then◌else◌, List, [], map, take, length, slice_index_or, Option, Some, None, ◌⊎◌, ℤ, ◌<ℤ◌, ◌≤ℤ◌}
use Rattle.std.specs.List.{list_any}
use Rattle.design_core.specs.declared.signals.Scope.{Scope}
use Rattle.design_core.specs.declared.signals.Signal.{Signal}
use Rattle.design_core.specs.Wellformed.{same_bytes, all_distinct, texts_from, bit_texts, is_bound, span_of, index_text, bit_index}

-- a text is among these
abbrev pub has : List ℕ → List (List ℕ) → Bool
has t ts = list_any (same_bytes t) ts

abbrev pub paths : List Signal → List (List ℕ)
paths signals = map (λ (x : Signal). x.path) signals

abbrev pub paths_of : List Scope → List (List ℕ)
paths_of scopes = map (λ (x : Scope). x.path) scopes

-- a signal has as many bits as its declared bounds span, or one where it has no range
abbrev pub is_spanned : Signal → Bool
is_spanned x = if x.ranged then is_bound x.high && is_bound x.low && (span_of x.high x.low == x.length) else (x.length == 1)

-- x has no range, and its path is printed for a bit of y, which has one: the only way in which bits of signals with different paths print alike
abbrev pub is_bit_of : Signal → Signal → Bool
is_bit_of x y = not x.ranged && (y.ranged && has x.path (texts_from y 0 y.length))

-- the first that prints like an earlier one: those before it print apart, and with it they don't
abbrev pub IsFirstAlike : {A : Type 0} → (List A → Bool) → List A → Option ℕ → Type 0
IsFirstAlike apart xs None = apart xs ≡ true
IsFirstAlike apart xs (Some k) = (k < length xs) × (apart (take k xs) ≡ true) × (apart (take (suc k) xs) ≡ false)

-- x stands at place k of the list
pub record Stands {A : Type 0} (xs : List A) (k : ℕ) (x : A) : Type 0 where
  pub within : k < length xs
  pub is_there : slice_index_or xs k x ≡ x

-- texts up to the first that stands there already
pub record IsFront (front all : List (List ℕ)) : Type 0 where
  pub within : length front ≤ length all
  pub is_front : front ≡ take (length front) all
  pub distinct : all_distinct front ≡ true
  pub repeats : length front < length all → has (slice_index_or all (length front) []) front ≡ true

-- the later of the two signals, among the first n, of which the one at this place is printed as a bit of the other; n where there is none
pub record IsMeeting (signals : List Signal) (n at r : ℕ) : Type 0 where
  pub least : (j : ℕ) (x y : Signal) → Stands signals at x → Stands signals j y → j < n → is_bit_of x y ≡ true → r ≤ max at j
  pub found : r < n → (j : ℕ) × (x : Signal) × (y : Signal) × Stands signals at x × Stands signals j y × (j < n) × (is_bit_of x y ≡ true) × (r ≡ max at j)

-- the first of them, over the places below `to`
pub record IsEarliest (signals : List Signal) (n to r : ℕ) : Type 0 where
  pub small : r ≤ n
  pub least : (i j : ℕ) (x y : Signal) → Stands signals i x → Stands signals j y → i < to → j < n → is_bit_of x y ≡ true → r ≤ max i j
  pub found : r < n → (i : ℕ) × (j : ℕ) × (x : Signal) × (y : Signal) × Stands signals i x × Stands signals j y × (i < to) × (j < n) × (is_bit_of x y ≡ true) × (r ≡ max i j)

-- an index is between two bounds
abbrev pub IsBetween : ℤ → ℤ → ℤ → Type 0
IsBetween high low z = ((high <ℤ low) × (high ≤ℤ z) × (z ≤ℤ low)) ⊎ ((low ≤ℤ high) × (low ≤ℤ z) × (z ≤ℤ high))

-- a text is the index of one of a signal's bits
pub record IsIndexOf (y : Signal) (text : List ℕ) : Type 0 where
  pub ranged : y.ranged ≡ true
  pub place : ℕ
  pub is_place : place < y.length
  pub is_text : text ≡ index_text (bit_index y place)
