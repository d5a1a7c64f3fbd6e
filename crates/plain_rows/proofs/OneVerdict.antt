-- The right verdict on a row is one: the least launch, the first run there, and so the inputs that are printed.
use Rattle.std.proofs.Common.{arith, ◌≡◌, ◌∙◌, ◌+◌, ◌<◌, ◌≤◌, ◌++◌, ℕ, suc, Bool, true, false, ◌||◌, List, [], ◌∷◌, length, map, Option, Some, refl, sym, ap, subst, inl, inr, if◌then◌else◌}
use Rattle.std.specs.Prelude.{nat_lt, not, ◌&&◌, is_none}
use Rattle.std.specs.List.{filter, flat_map, range_with_len}
use Rattle.std.proofs.lemmas.Bool.Decides.{nat_tests}
use Rattle.std.proofs.lemmas.List.{length-map}
use Rattle.design_core.specs.declared.place.BitRef.{BitRef}
use Rattle.design_core.specs.Cells.{Bitmap, Cell, In, driven, read_by, IsSliceOf}
use Rattle.design_core.specs.Leaves.{IsFirstBreaking, IsNoLater, Leaf, input, leaf_value, leaves_in_order, stored}
use Rattle.design_core.specs.Rows.{CanBreak, IsKind, Row, row_bit, refuted as refuted_at}
use Rattle.plain_rows.specs.Verdicts.{IsFirstRun, IsRight, Verdict, is_leaf, named, ones_of, proved, refuted}

-- of two numbers that are neither the lesser
neither : (a b : ℕ) → (a < b → ⊥) → (b < a → ⊥) → a ≡ b
neither a b h k = omega (arith, h, k)

both : (a b : Bool) → (a ≡ true → b ≡ true) → (b ≡ true → a ≡ true) → a ≡ b
both true b h k = sym (h refl)
both false true h k = k refl
both false false h k = refl

same_values : (a b : List Bool) → length a ≡ length b → IsNoLater a b → IsNoLater b a → a ≡ b
same_values [] [] e h k = refl
same_values [] (b ∷ bs) e h k = absurd (omega arith)
same_values (a ∷ xs) [] e h k = absurd (omega arith)
same_values (false ∷ xs) (false ∷ bs) e h k = ap (λ (ys : List Bool). false ∷ ys) (same_values xs bs (omega arith) h k)
same_values (true ∷ xs) (true ∷ bs) e h k = ap (λ (ys : List Bool). true ∷ ys) (same_values xs bs (omega arith) h k)
same_values (false ∷ xs) (true ∷ bs) e h k = absurd k
same_values (true ∷ xs) (false ∷ bs) e h k = absurd h

-- what is printed is fixed by the values of the leaves
ones_same : (s σ t τ : ℕ → Bitmap BitRef) (ls : List (Leaf BitRef)) → map (leaf_value s σ) ls ≡ map (leaf_value t τ) ls → ones_of σ ls ≡ ones_of τ ls
ones_same s σ t τ [] e = refl
ones_same s σ t τ (stored b ∷ ls) e =
    let rest : map (leaf_value s σ) ls ≡ map (leaf_value t τ) ls = cc in
    ones_same s σ t τ ls rest
ones_same s σ t τ (input k b ∷ ls) e =
    let one : σ k b ≡ τ k b = cc in
    let rest : map (leaf_value s σ) ls ≡ map (leaf_value t τ) ls = cc in
    ap (λ (x : Bool). if x then (k, b) ∷ ones_of σ ls else ones_of σ ls) one ∙ ap (λ (os : List (ℕ × BitRef)). if τ k b then (k, b) ∷ os else os) (ones_same s σ t τ ls rest)

-- slices of the same bits have the same members, so they read the same bits
read_in : (c : Cell BitRef) (T : List (Cell BitRef)) (b : BitRef) → In c T → (c.reads b || c.uses b) ≡ true → read_by T b ≡ true
read_in c [] b h r = absurd h
read_in c (x ∷ xs) b (inl e) r =
    let P : Cell BitRef → Type 0 = λ y. (y.reads b || y.uses b) ≡ true in
    ap (λ (z : Bool). z || read_by xs b) (subst P e r)
read_in c (x ∷ xs) b (inr h) r = at (x.reads b || x.uses b) (read_by xs b) (read_in c xs b h r)
  where
    at : (p q : Bool) → q ≡ true → (p || q) ≡ true
    at true q e = refl
    at false q e = e

either : (p q r : Bool) → (p ≡ true → r ≡ true) → (q ≡ true → r ≡ true) → (p || q) ≡ true → r ≡ true
either true q r h k e = h refl
either false q r h k e = k e

reads_more : (S T : List (Cell BitRef)) (b : BitRef) → ((c : Cell BitRef) → In c S → In c T) → read_by S b ≡ true → read_by T b ≡ true
reads_more [] T b h r = absurd (cc)
reads_more (x ∷ xs) T b h r = either (x.reads b || x.uses b) (read_by xs b) (read_by T b) (read_in x T b (h x (inl refl))) (reads_more xs T b (λ c k. h c (inr k))) r

slices_read : (E : List (Cell BitRef)) (wanted : BitRef → Bool) (S T : List (Cell BitRef)) → IsSliceOf E wanted S → IsSliceOf E wanted T → (b : BitRef) → read_by S b ≡ read_by T b
slices_read E wanted S T f g b = both (read_by S b) (read_by T b) (reads_more S T b (λ c k. f.least T g.closed c k)) (reads_more T S b (λ c k. g.least S f.closed c k))

filter_same : {A : Type 0} (p q : A → Bool) (xs : List A) → ((x : A) → p x ≡ q x) → filter p xs ≡ filter q xs
filter_same p q [] h = refl
filter_same {A} p q (x ∷ xs) h =
    ap (λ (z : Bool). if z then x ∷ filter p xs else filter p xs) (h x) ∙ ap (λ (ys : List A). if q x then x ∷ ys else ys) (filter_same p q xs h)

leaves_same : (bits : List BitRef) (p q : BitRef → Bool) (last : ℕ) → ((b : BitRef) → p b ≡ q b) → leaves_in_order bits (λ b. false) p last ≡ leaves_in_order bits (λ b. false) q last
leaves_same bits p q last h =
    ap (λ (xs : List BitRef). map stored (filter (λ b. false) bits) ++ flat_map (λ k. map (input k) xs) (range_with_len 0 (suc last))) (filter_same p q bits h)

module _ (E : List (Cell BitRef)) (bits : List BitRef) (run : ℕ → BitRef → Option Bool) (power_up : Bitmap BitRef) (row : Row BitRef) (launch : ℕ) where
  abbrev leaves : ℕ → List (Cell BitRef) → List (Leaf BitRef)
  leaves lowest slice = leaves_in_order bits (λ b. false) (is_leaf E run (row_bit row lowest) slice) (launch + row.latency)

  -- the first run that breaks this bit of the row
  record RunAt (lowest : ℕ) (ones : List (ℕ × BitRef)) : Type 0 where
    slice : List (Cell BitRef)
    is_slice : IsSliceOf E (named (row_bit row lowest)) slice
    s : ℕ → Bitmap BitRef
    σ : ℕ → Bitmap BitRef
    first : IsFirstBreaking E run (Some power_up) (row_bit row lowest) launch (leaves lowest slice) s σ
    printed : ones ≡ ones_of σ (leaves lowest slice)

  run_of : (ones : List (ℕ × BitRef)) (f : IsFirstRun E bits run power_up row launch ones) → RunAt f.lowest ones
  run_of ones f = record { slice = f.slice; is_slice = f.is_slice; s = f.s; σ = f.σ; first = f.first; printed = f.printed }

  can : (lowest : ℕ) (ones : List (ℕ × BitRef)) → RunAt lowest ones → CanBreak E run (Some power_up) (row_bit row lowest) launch
  can lowest ones f = record { s = f.s; σ = f.σ; trace = f.first.trace; begins = f.first.begins; hits = f.first.hits }

  -- no run has values that come before those of the first
  no_later : (lowest : ℕ) (ls : List (Leaf BitRef)) (s σ t τ : ℕ → Bitmap BitRef) → IsFirstBreaking E run (Some power_up) (row_bit row lowest) launch ls s σ
      → IsFirstBreaking E run (Some power_up) (row_bit row lowest) launch ls t τ → IsNoLater (map (leaf_value s σ) ls) (map (leaf_value t τ) ls)
  no_later lowest ls s σ t τ f g =
      f.first.none_before (map (leaf_value t τ) ls) (record { can = record { s = t; σ = τ; trace = g.trace; begins = g.begins; hits = g.hits }; has = refl })

  one_trace : (lowest : ℕ) (ls : List (Leaf BitRef)) (s σ t τ : ℕ → Bitmap BitRef) → IsFirstBreaking E run (Some power_up) (row_bit row lowest) launch ls s σ
      → IsFirstBreaking E run (Some power_up) (row_bit row lowest) launch ls t τ → ones_of σ ls ≡ ones_of τ ls
  one_trace lowest ls s σ t τ f g =
      ones_same s σ t τ ls (same_values (map (leaf_value s σ) ls) (map (leaf_value t τ) ls) (length-map ls (leaf_value s σ) ∙ sym (length-map ls (leaf_value t τ)))
      (no_later lowest ls s σ t τ f g) (no_later lowest ls t τ s σ g f))

  one_run_at : (lowest : ℕ) (a b : List (ℕ × BitRef)) → RunAt lowest a → RunAt lowest b → a ≡ b
  one_run_at lowest a b f g =
      let same : leaves lowest g.slice ≡ leaves lowest f.slice =
      leaves_same bits (is_leaf E run (row_bit row lowest) g.slice) (is_leaf E run (row_bit row lowest) f.slice) (launch + row.latency)
      (λ x. ap (λ (z : Bool). (not (driven E x) && is_none (run 0 x)) && (named (row_bit row lowest) x || z)) (slices_read E (named (row_bit row lowest)) g.slice f.slice g.is_slice f.is_slice x)) in
      let P : List (Leaf BitRef) → Type 0 = λ ls. IsFirstBreaking E run (Some power_up) (row_bit row lowest) launch ls g.s g.σ in
      f.printed ∙ one_trace lowest (leaves lowest f.slice) f.s f.σ g.s g.σ f.first (subst P same g.first) ∙ ap (ones_of g.σ) (sym same) ∙ sym g.printed

  pub one_run : (a b : List (ℕ × BitRef)) → IsFirstRun E bits run power_up row launch a → IsFirstRun E bits run power_up row launch b → a ≡ b
  one_run a b f g =
      let same : g.lowest ≡ f.lowest =
      neither g.lowest f.lowest (λ lt. f.none_lower g.lowest lt (can g.lowest b (run_of b g))) (λ lt. g.none_lower f.lowest lt (can f.lowest a (run_of a f))) in
      let P : ℕ → Type 0 = λ l. RunAt l b in
      one_run_at f.lowest a b (run_of a f) (subst P same (run_of b g))

pub one_verdict : (E : List (Cell BitRef)) (bits : List BitRef) (window run : ℕ → BitRef → Option Bool) (power_up : Bitmap BitRef) (row : Row BitRef) (first depth : ℕ) (v w : Verdict)
    → IsRight E bits window run power_up row first depth v → IsRight E bits window run power_up row first depth w → v ≡ w
one_verdict E bits window run power_up row first depth proved proved h k = refl
one_verdict E bits window run power_up row first depth proved (refuted t ones) h k = absurd (k.0 h)
one_verdict E bits window run power_up row first depth (refuted t ones) proved h k = absurd (h.0 k)
one_verdict E bits window run power_up row first depth (refuted t a) (refuted u b) h k =
    let x : IsKind E window run power_up row first depth (refuted_at t) = h.1 in
    let y : IsKind E window run power_up row first depth (refuted_at u) = k.1 in
    let same : u ≡ t = neither u t (λ lt. x.3 u y.0 lt y.2) (λ lt. y.3 t x.0 lt x.2) in
    let P : ℕ → Type 0 = λ l. IsFirstRun E bits run power_up row l a in
    ap (λ (l : ℕ). refuted l a) (sym same) ∙ ap (refuted u) (one_run E bits run power_up row u a b (subst P (sym same) h.2) k.2)
