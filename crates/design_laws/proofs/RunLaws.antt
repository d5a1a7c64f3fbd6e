-- A run from a launch on is a window, a row breaks where one of its bits does, and what the outside holds.
use Rattle.std.proofs.Common.{◌≡◌, ℕ, zero, suc, ◌+◌, ◌<◌, ◌≤◌, Bool, true, false, not, List, [], ◌∷◌, length, take, drop, inl, inr, refl, sym, ◌∙◌, ap, subst, if◌then◌else◌, Option, Some, None, arith}
use Rattle.std.specs.Prelude.{nat_lt}
use Rattle.std.proofs.lemmas.Bool.Decides.{nat_tests}
use Rattle.design_core.specs.declared.place.BitRef.{BitRef}
use Rattle.design_core.specs.Core.{same_bit}
use Rattle.design_core.specs.Cells.{Bitmap, Cell, In, driven, Steps}
use Rattle.design_core.specs.Rows.{Row, row_bit, CanBreak}
use Rattle.design_core.specs.Setups.{given, or_else, reset_at, held_in_window, held_in_run}
use Rattle.design_core.proofs.BoolLaws.{either, if_false}
use Rattle.design_laws.proofs.ItemLaws.{same_bit_is}

zero_plus : (k : ℕ) → k ≡ 0 + k
zero_plus k = omega arith

plus_zero : (k : ℕ) → k + 0 ≡ k
plus_zero k = omega arith

module _ {B : Type 0} where
  -- a part of a run from a launch on is a window
  pub run_window : (E : List (Cell B)) (held held' : ℕ → B → Option Bool) (p : Option (Bitmap B)) (row : Row B) (n : ℕ)
      → ((k : ℕ) (b : B) → held' (n + k) b ≡ held k b) → CanBreak E held' p row n → CanBreak E held None row 0
  run_window E held held' p row n shifted w = record {
    s = λ k. w.s (n + k);
    σ = λ k. w.σ (n + k);
    trace = record {
      settled = λ k l. w.trace.settled (n + k) (omega arith);
      steps = λ k l c m. (let up : suc (n + k) ≡ n + suc k = omega arith in
          let P : ℕ → Type 0 = λ j. Steps c (w.s (n + k)) (w.σ (n + k)) (w.s j) in
          subst P up (w.trace.steps (n + k) (omega arith) c m));
      holding = λ k l b v h. w.trace.holding (n + k) (omega arith) b v (shifted k b ∙ h);
    };
    begins = tt;
    hits = record {
      met = λ k l c m. (let z : n + (0 + k) ≡ n + k = omega arith in ap (λ j. w.σ j c.0) z ∙ w.hits.met k l c m);
      pair = w.hits.pair;
      is_one = w.hits.is_one;
      differs = (let z : n + (0 + row.latency) ≡ n + row.latency = omega arith in ap (λ j. w.σ j w.hits.pair.1) z)
          ∙ w.hits.differs ∙ ap not (ap (λ j. w.σ j w.hits.pair.0) (sym (plus_zero n)));
    };
  }

  in_taken : (p : B × B) (k : ℕ) (ps : List (B × B)) → In p (take 1 (drop k ps)) → In p ps
  in_taken p zero [] m = m
  in_taken p zero (x ∷ xs) (inl e) = inl e
  in_taken p zero (x ∷ xs) (inr m) = elim m [ ]
  in_taken p (suc k) [] m = m
  in_taken p (suc k) (x ∷ xs) m = inr (in_taken p k xs m)

  taken_at : (p : B × B) (ps : List (B × B)) → In p ps → (k : ℕ) × (k < length ps) × In p (take 1 (drop k ps))
  taken_at p [] m = elim m [ ]
  taken_at p (x ∷ xs) (inl e) = (zero, omega arith, inl e)
  taken_at p (x ∷ xs) (inr m) = let r = taken_at p xs m in (suc r.0, (let h = r.1 in omega arith), r.2)

  -- a row that breaks breaks in one of its bits
  pub breaks_in_bit : (E : List (Cell B)) (held : ℕ → B → Option Bool) (p : Option (Bitmap B)) (row : Row B) (launch : ℕ)
      → CanBreak E held p row launch → (k : ℕ) × (k < length row.pairs) × CanBreak E held p (row_bit row k) launch
  breaks_in_bit E held p row launch w = let r = taken_at w.hits.pair row.pairs w.hits.is_one in (
    r.0,
    r.1,
    record {
      s = w.s;
      σ = w.σ;
      trace = w.trace;
      begins = w.begins;
      hits = record { met = w.hits.met; pair = w.hits.pair; is_one = r.2; differs = w.hits.differs };
    },
  )

  pub bit_breaks : (E : List (Cell B)) (held : ℕ → B → Option Bool) (p : Option (Bitmap B)) (row : Row B) (launch k : ℕ)
      → CanBreak E held p (row_bit row k) launch → CanBreak E held p row launch
  bit_breaks E held p row launch k w = record {
    s = w.s;
    σ = w.σ;
    trace = w.trace;
    begins = w.begins;
    hits = record { met = w.hits.met; pair = w.hits.pair; is_one = in_taken w.hits.pair k row.pairs w.hits.is_one; differs = w.hits.differs };
  }

-- from the first launch on the outside holds what it holds in a window
pub held_shifted : (pins : List (BitRef × Bool)) (reset : Option (BitRef × Bool)) (first n : ℕ) → first ≤ n → (k : ℕ) (b : BitRef)
    → held_in_run pins reset first (n + k) b ≡ held_in_window pins reset k b
held_shifted pins reset first n h k b =
    let past : nat_lt (n + k) first ≡ false = grind (arith, nat_tests) in
    ap (λ v. or_else (given pins b) (reset_at (not v) reset b)) past

given_free : (E : List (Cell BitRef)) (pins : List (BitRef × Bool)) → ((q : BitRef × Bool) → In q pins → driven E q.0 ≡ false)
    → (b : BitRef) (v : Bool) → given pins b ≡ Some v → driven E b ≡ false
given_free E [] free b v h = cc
given_free E (q ∷ qs) free b v h = elim (either (same_bit b q.0)) [
  | inl s ↦ ap (driven E) (same_bit_is b q.0 s) ∙ free q (inl refl)
  | inr s ↦ given_free E qs (λ x m. free x (inr m)) b v (sym (if_false (same_bit b q.0) (Some q.1) (given qs b) s) ∙ h)
]

reset_free : (E : List (Cell BitRef)) (released : Bool) (reset : Option (BitRef × Bool)) → ((q : BitRef × Bool) → reset ≡ Some q → driven E q.0 ≡ false)
    → (b : BitRef) (v : Bool) → reset_at released reset b ≡ Some v → driven E b ≡ false
reset_free E released None free b v h = cc
reset_free E released (Some q) free b v h = elim (either (same_bit b q.0)) [
  | inl s ↦ ap (driven E) (same_bit_is b q.0 s) ∙ free q refl
  | inr s ↦ (let n : None ≡ Some v = sym (if_false (same_bit b q.0) (Some (if released then not q.1 else q.1)) None s) ∙ h in cc)
]

either_free : (E : List (Cell BitRef)) (x y : Option Bool) (b : BitRef) (v : Bool) → (x ≡ Some v → driven E b ≡ false) → (y ≡ Some v → driven E b ≡ false)
    → or_else x y ≡ Some v → driven E b ≡ false
either_free E None y b v f g h = g h
either_free E (Some u) y b v f g h = f h

-- held bits are inputs, where the pins and the reset input are
pub window_free : (E : List (Cell BitRef)) (pins : List (BitRef × Bool)) (reset : Option (BitRef × Bool)) → ((q : BitRef × Bool) → In q pins → driven E q.0 ≡ false)
    → ((q : BitRef × Bool) → reset ≡ Some q → driven E q.0 ≡ false) → (k : ℕ) (b : BitRef) (v : Bool) → held_in_window pins reset k b ≡ Some v → driven E b ≡ false
window_free E pins reset pinned resets k b v = either_free E (given pins b) (reset_at true reset b) b v (given_free E pins pinned b v) (reset_free E true reset resets b v)

pub run_free : (E : List (Cell BitRef)) (pins : List (BitRef × Bool)) (reset : Option (BitRef × Bool)) (n : ℕ) → ((q : BitRef × Bool) → In q pins → driven E q.0 ≡ false)
    → ((q : BitRef × Bool) → reset ≡ Some q → driven E q.0 ≡ false) → (k : ℕ) (b : BitRef) (v : Bool) → held_in_run pins reset n k b ≡ Some v → driven E b ≡ false
run_free E pins reset n pinned resets k b v = either_free E (given pins b) (reset_at (not (nat_lt k n)) reset b) b v (given_free E pins pinned b v) (reset_free E (not (nat_lt k n)) reset resets b v)
