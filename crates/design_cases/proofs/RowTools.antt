-- What the worked rows share.
use Rattle.std.proofs.Common.{◌≡◌, ℕ, ◌+◌, ◌<◌, ◌≤◌, Bool, true, false, not, List, [], ◌∷◌, map, inl, inr, refl, sym, ◌∙◌, ap, subst, Option, Some, None, arith, ◌||◌}
use Rattle.design_core.specs.declared.place.BitRef.{BitRef}
use Rattle.design_core.specs.Core.{Term, Left, reads, left_reads, left_drives, surely_names}
use Rattle.design_core.specs.Cells.{Bitmap, Cell, In, driven, states, assigned, IsLawful, IsOrdered}
use Rattle.design_core.specs.Items.{CoreItem, assign, cell_of, IsGood}
use Rattle.design_core.specs.Rows.{Row, Breaks, IsChecked, CanBreak, IsValid}
use Rattle.design_cases.specs.WorkedRows.{of, row}
use Rattle.design_laws.proofs.ComputedLaws.{computed, computed_trace}
use Rattle.design_core.specs.Setups.{held_in_window, held_in_run}
use Rattle.design_core.proofs.BoolLaws.{or_right}
use Rattle.design_laws.proofs.ItemLaws.{lawful}
use Rattle.design_laws.proofs.RunLaws.{window_free, run_free}

pub no_fixed : (v : Bool) → v ≡ not v → ⊥
no_fixed true h = cc
no_fixed false h = cc

pub all_lawful : (items : List CoreItem) → ((x : CoreItem) → In x items → IsGood x) → (c : Cell BitRef) → In c (map cell_of items) → IsLawful c
all_lawful [] good c m = elim m [ ]
all_lawful (x ∷ xs) good c (inl e) = subst IsLawful (sym e) (lawful x (good x (inl refl)))
all_lawful (x ∷ xs) good c (inr m) = all_lawful xs (λ y n. good y (inr n)) c m

-- an assign whose left side has no variable index is good
pub good_assign : (l : Left) (e : Term) → ((b : BitRef) → left_drives l b ≡ true → surely_names l b ≡ true) → IsGood (assign l e)
good_assign l e h b d = or_right (reads e b || left_reads l b) (surely_names l b) (h b d)

pub only_one : (x : CoreItem) → IsGood x → (y : CoreItem) → In y (x ∷ []) → IsGood y
only_one x g y (inl e) = subst IsGood (sym e) g
only_one x g y (inr m) = elim m [ ]

pub both_good : (x y : CoreItem) → IsGood x → IsGood y → (z : CoreItem) → In z (x ∷ y ∷ []) → IsGood z
both_good x y g h z (inl e) = subst IsGood (sym e) g
both_good x y g h z (inr (inl e)) = subst IsGood (sym e) h
both_good x y g h z (inr (inr m)) = elim m [ ]

-- a design is checked for its windows, and for its runs, where the reset input is no driven bit
pub checked_window : (items : List CoreItem) (reset : Option (BitRef × Bool)) → IsOrdered (map cell_of items) → ((x : CoreItem) → In x items → IsGood x)
    → ((q : BitRef × Bool) → reset ≡ Some q → driven (map cell_of items) q.0 ≡ false) → IsChecked (map cell_of items) (held_in_window [] reset)
checked_window items reset o good free = record {
  ordered = o;
  lawful = all_lawful items good;
  free = window_free (map cell_of items) [] reset (λ q m. elim m [ ]) free;
}

pub checked_run : (items : List CoreItem) (reset : Option (BitRef × Bool)) (first : ℕ) → IsOrdered (map cell_of items) → ((x : CoreItem) → In x items → IsGood x)
    → ((q : BitRef × Bool) → reset ≡ Some q → driven (map cell_of items) q.0 ≡ false) → IsChecked (map cell_of items) (held_in_run [] reset first)
checked_run items reset first o good free = record {
  ordered = o;
  lawful = all_lawful items good;
  free = run_free (map cell_of items) [] reset first (λ q m. elim m [ ]) free;
}

pub no_reset : (E : List (Cell BitRef)) (q : BitRef × Bool) → None ≡ Some q → driven E q.0 ≡ false
no_reset E q h = cc

zero_plus : (k : ℕ) → 0 + k ≡ k
zero_plus k = omega arith

pub pair_is : {A : Type 0} (p q : A) → In p (q ∷ []) → p ≡ q
pair_is p q (inl e) = e
pair_is p q (inr m) = elim m [ ]

-- a row of one bit is valid where destination and source agree in each computed window that meets the conditions and the held values
pub valid_when : (E : List (Cell BitRef)) (held : ℕ → BitRef → Option Bool) (source dest latency : ℕ) (conditions : List (BitRef × Bool)) → IsChecked E held
    → ((s : Bitmap BitRef) (i : ℕ → Bitmap BitRef) → ((k : ℕ) → k ≤ latency → (c : BitRef × Bool) → In c conditions → i k c.0 ≡ c.1)
    → ((k : ℕ) → k ≤ latency → (b : BitRef) (v : Bool) → held k b ≡ Some v → i k b ≡ v)
    → assigned E s i latency (of dest) ≡ assigned E s i 0 (of source))
    → IsValid E held (row source dest latency conditions)
valid_when E held source dest latency conditions checked agrees w =
    let same = computed E held checked (0 + latency) w.s w.σ w.trace in
    let p = pair_is w.hits.pair (of source, of dest) w.hits.is_one in
    no_fixed (w.σ 0 (of source)) (
    same 0 (omega arith) (of source)
    ∙ sym (agrees (w.s 0) w.σ
    (λ k l c m. sym (ap (λ j. w.σ j c.0) (zero_plus k)) ∙ w.hits.met k l c m)
    (λ k l. w.trace.holding k (omega arith)))
    ∙ sym (same latency (omega arith) (of dest))
    ∙ sym (ap (λ j. w.σ j (of dest)) (zero_plus latency))
    ∙ sym (ap (λ (q : BitRef × BitRef). w.σ (0 + latency) q.1) p) ∙ w.hits.differs ∙ ap (λ (q : BitRef × BitRef). not (w.σ 0 q.0)) p)

abbrev pub or_value : Option Bool → Bool → Bool
or_value None d = d
or_value (Some v) d = v

pub value_of_some : (x : Option Bool) (d v : Bool) → x ≡ Some v → or_value x d ≡ v
value_of_some None d v h = cc
value_of_some (Some u) d v h = cc

-- inputs: what is held, and else what is given
abbrev pub stimulus : (ℕ → BitRef → Option Bool) → (ℕ → BitRef → Bool) → ℕ → Bitmap BitRef
stimulus held f k b = or_value (held k b) (f k b)

-- a run from power-up with these inputs that breaks the row
unfoldable pub breaks_so : (E : List (Cell BitRef)) (held : ℕ → BitRef → Option Bool) (p : Bitmap BitRef) (f : ℕ → BitRef → Bool) (r : Row BitRef) (launch : ℕ) → IsChecked E held
    → Breaks r launch (assigned E p (stimulus held f)) → CanBreak E held (Some p) r launch
breaks_so E held p f r launch checked b = record {
  s = states E p (stimulus held f);
  σ = assigned E p (stimulus held f);
  trace = computed_trace E held checked (launch + r.latency) p (stimulus held f) (λ k l a v. value_of_some (held k a) (f k a) v);
  begins = λ c m a h k. refl;
  hits = b;
}

-- a window from this state with these inputs that breaks the row
pub window_so : (E : List (Cell BitRef)) (held : ℕ → BitRef → Option Bool) (start : Bitmap BitRef) (f : ℕ → BitRef → Bool) (r : Row BitRef) → IsChecked E held
    → Breaks r 0 (assigned E start (stimulus held f)) → CanBreak E held None r 0
window_so E held start f r checked b = record {
  s = states E start (stimulus held f);
  σ = assigned E start (stimulus held f);
  trace = computed_trace E held checked (0 + r.latency) start (stimulus held f) (λ k l a v. value_of_some (held k a) (f k a) v);
  begins = tt;
  hits = b;
}

pub none_between : (t u : ℕ) → t ≤ u → u < t → ⊥
none_between t u h g = omega arith
