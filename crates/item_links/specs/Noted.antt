-- The items that drive bits, noted one after the other.
use Rattle.std.specs.Prelude.{◌≡◌, ℕ, ◌<◌, Bool, true, false, ◌&&◌, ◌⊎◌, nat_lt, List, Option, Some, slice_index_or}
use Rattle.design_core.specs.declared.place.BitRef.{BitRef}
use Rattle.design_core.specs.Cells.{Cell}
use Rattle.design_core.specs.Numbers.{is_bit, number, idle}
use Rattle.item_order.specs.declared.spans.Span.{Span}
use Rattle.item_order.specs.Spans.{holds, driver_in}

-- a cell of a list, idle past the last one
abbrev pub cell_in : List (Cell BitRef) → ℕ → Cell BitRef
cell_in cells i = slice_index_or cells i idle

-- two different items drive a bit
pub record IsDouble (drives : ℕ → BitRef → Bool) (b : BitRef) : Type 0 where
  pub one : ℕ
  pub other : ℕ
  pub one_drives : drives one b ≡ true
  pub other_drives : drives other b ≡ true
  pub differ : one ≡ other → ⊥

-- the signal has a bit of which this holds, and no signal before it has one
pub record IsFirstSignal (P : BitRef → Type 0) (s : ℕ) : Type 0 where
  pub bit : BitRef
  pub is_own : bit.signal ≡ s
  pub has : P bit
  pub none_before : (b : BitRef) → b.signal < s → P b → ⊥

-- what the items of a list drive, and what the first n of them do
abbrev pub all_drives : List (Cell BitRef) → ℕ → BitRef → Bool
all_drives cells i b = (cell_in cells i).drives b

abbrev pub first_drives : List (Cell BitRef) → ℕ → ℕ → BitRef → Bool
first_drives cells n i b = nat_lt i n && (cell_in cells i).drives b

-- whether a signal was found to have a bit that two items drive
abbrev pub flag : List Bool → ℕ → Bool
flag twice s = slice_index_or twice s false

-- of what was noted that items drive: each driver drives its bit; each bit has its driver, but in signals that were found to have a bit of two; and these have one
pub record AreNoted (lengths : List ℕ) (drives : ℕ → BitRef → Bool) (drivers : List (Option ℕ)) (twice : List Bool) : Type 0 where
  pub sound : (n i : ℕ) → driver_in drivers n ≡ Some i → (b : BitRef) × ((is_bit lengths b ≡ true) × (number lengths b ≡ n) × (drives i b ≡ true))
  pub complete : (i : ℕ) (b : BitRef) → drives i b ≡ true → (is_bit lengths b ≡ true) × ((driver_in drivers (number lengths b) ≡ Some i) ⊎ (flag twice b.signal ≡ true))
  pub doubled : (s : ℕ) → flag twice s ≡ true → (b : BitRef) × ((b.signal ≡ s) × IsDouble drives b)

-- a bit of the span is driven by another item than this
pub record IsTaken (old : List (Option ℕ)) (span : Span) (item : ℕ) : Type 0 where
  pub place : ℕ
  pub other : ℕ
  pub has : holds span place ≡ true
  pub driver : driver_in old place ≡ Some other
  pub differs : other ≡ item → ⊥

-- drivers stay; only this item was noted, for bits of the span alone; and for all of them, unless one is another's
pub record IsMarked (old new : List (Option ℕ)) (span : Span) (item : ℕ) (clash : Bool) : Type 0 where
  pub keeps : (n j : ℕ) → driver_in old n ≡ Some j → driver_in new n ≡ Some j
  pub only : (n j : ℕ) → driver_in new n ≡ Some j → (driver_in old n ≡ Some j) ⊎ ((j ≡ item) × (holds span n ≡ true))
  pub all : clash ≡ false → (n : ℕ) → holds span n ≡ true → driver_in new n ≡ Some item
  pub taken : clash ≡ true → IsTaken old span item
