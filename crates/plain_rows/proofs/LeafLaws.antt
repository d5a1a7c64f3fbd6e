-- The leaves of a row, as the places of free ports in order.
use Rattle.std.proofs.Common.{suc, zero, ◌≡◌, ◌∙◌, ◌+◌, ◌<◌, ◌≤◌, ℕ, Bool, true, false, ◌==◌, cond, List, [], ◌∷◌, ◌++◌, map, refl, sym, ap, arith, inl, inr}
use Rattle.std.proofs.lemmas.List.{append-nil}
use Rattle.std.specs.List.{filter, range_with_len}
use Rattle.design_core.specs.declared.place.BitRef.{BitRef}
use Rattle.design_core.specs.Core.{bit}
use Rattle.design_core.specs.Cells.{Bitmap, In}
use Rattle.design_core.specs.Leaves.{Leaf, stored, input, leaf_value, leaves_in_order, IsNoLater}
use Rattle.plain_rows.specs.Verdicts.{ones_of}
use Rattle.plain_rows.proofs.CellLaws.{either, same, same_self}

abbrev pub leaf : ℕ → Leaf BitRef
leaf k = input 0 (bit k 0)

-- the free ports among those from i on
abbrev pub chosen : (ℕ → Bool) → ℕ → ℕ → List ℕ
chosen P i n = filter P (range_with_len i n)

map_filter : {A B : Type 0} (h : A → B) (p : B → Bool) (xs : List A) → filter p (map h xs) ≡ map h (filter (λ x. p (h x)) xs)
map_filter h p [] = refl
map_filter {A} {B} h p (x ∷ xs) = at (p (h x)) (map_filter h p xs)
  where
    at : (b : Bool) → filter p (map h xs) ≡ map h (filter (λ y. p (h y)) xs)
        → cond b (h x ∷ filter p (map h xs)) (filter p (map h xs)) ≡ map h (cond b (x ∷ filter (λ y. p (h y)) xs) (filter (λ y. p (h y)) xs))
    at true e = ap (λ (ys : List B). h x ∷ ys) e
    at false e = e

map_twice : {A B C : Type 0} (g : B → C) (f : A → B) (xs : List A) → map g (map f xs) ≡ map (λ x. g (f x)) xs
map_twice g f [] = refl
map_twice {C = C} g f (x ∷ xs) = ap (λ (ys : List C). g (f x) ∷ ys) (map_twice g f xs)

none_filtered : {A : Type 0} (xs : List A) → filter (λ x. false) xs ≡ []
none_filtered [] = refl
none_filtered (x ∷ xs) = none_filtered xs

-- the leaves of one cycle with no registers
pub leaves_are : (inputs : BitRef → Bool) (n : ℕ)
    → leaves_in_order (map (λ i. bit i 0) (range_with_len 0 n)) (λ b. false) inputs 0 ≡ map leaf (chosen (λ k. inputs (bit k 0)) 0 n)
leaves_are inputs n =
    let bits : List BitRef = map (λ i. bit i 0) (range_with_len 0 n) in
    ap (λ (ys : List BitRef). map stored ys ++ (map (input 0) (filter inputs bits) ++ [])) (none_filtered bits)
    ∙ append-nil (map (input 0) (filter inputs bits))
    ∙ ap (map (input 0)) (map_filter (λ i. bit i 0) inputs (range_with_len 0 n))
    ∙ map_twice (input 0) (λ i. bit i 0) (chosen (λ k. inputs (bit k 0)) 0 n)

pub values_are : (s σ : ℕ → Bitmap BitRef) (ks : List ℕ) → map (leaf_value s σ) (map leaf ks) ≡ map (λ k. σ 0 (bit k 0)) ks
values_are s σ ks = map_twice (leaf_value s σ) leaf ks

module _ (P f g : ℕ → Bool) where
  -- where each 1 of the first is one of the second
  pub no_later : (i n : ℕ) → ((k : ℕ) → P k ≡ true → f k ≡ true → g k ≡ true) → IsNoLater (map f (chosen P i n)) (map g (chosen P i n))
  no_later i zero h = tt
  no_later i (suc n) h = at (P i) (f i) (g i) refl refl refl (no_later (i + 1) n h)
    where
      at : (p a b : Bool) → P i ≡ p → f i ≡ a → g i ≡ b → IsNoLater (map f (chosen P (i + 1) n)) (map g (chosen P (i + 1) n))
          → IsNoLater (map f (cond p (i ∷ chosen P (i + 1) n) (chosen P (i + 1) n))) (map g (cond p (i ∷ chosen P (i + 1) n) (chosen P (i + 1) n)))
      at false a b p x y r = r
      at true false true p x y r = rw (x, y) tt
      at true false false p x y r = rw (x, y) r
      at true true true p x y r = rw (x, y) r
      at true true false p x y r = let w : true ≡ false = sym (h i p x) ∙ y in cc

  -- where the second has a 1 before each 1 of the first
  pub before : (a i n : ℕ) → i ≤ a → a < i + n → P a ≡ true → f a ≡ false → g a ≡ true → ((k : ℕ) → P k ≡ true → f k ≡ true → a < k)
      → IsNoLater (map f (chosen P i n)) (map g (chosen P i n))
  before a i zero le lt pa fa ga h = absurd (omega arith)
  before a i (suc n) le lt pa fa ga h =
      elim (either (a == i)) [
        | inl t ↦ here (same a i t)
        | inr d ↦ at (P i) (f i) (g i) refl refl refl (before a (i + 1) n (later d) (omega arith) pa fa ga h)
      ]
    where
      later : (a == i) ≡ false → i + 1 ≤ a
      later d = let ne : a ≡ i → ⊥ = λ e. let w : true ≡ false = sym (same_self i) ∙ ap (λ x. x == i) (sym e) ∙ d in cc in omega arith

      here : a ≡ i → IsNoLater (map f (chosen P i (suc n))) (map g (chosen P i (suc n)))
      here e = let p : P i ≡ true = ap P (sym e) ∙ pa in let x : f i ≡ false = ap f (sym e) ∙ fa in let y : g i ≡ true = ap g (sym e) ∙ ga in rw (p, x, y) tt

      at : (p x y : Bool) → P i ≡ p → f i ≡ x → g i ≡ y → IsNoLater (map f (chosen P (i + 1) n)) (map g (chosen P (i + 1) n))
          → IsNoLater (map f (cond p (i ∷ chosen P (i + 1) n) (chosen P (i + 1) n))) (map g (cond p (i ∷ chosen P (i + 1) n) (chosen P (i + 1) n)))
      at false x y p e q r = r
      at true false true p e q r = rw (e, q) tt
      at true false false p e q r = rw (e, q) r
      at true true y p e q r = absurd (let lt : a < i = h i p e in omega arith)

module _ (P : ℕ → Bool) (σ : ℕ → Bitmap BitRef) where
  pub no_ones : (i n : ℕ) → ((k : ℕ) → i ≤ k → P k ≡ true → σ 0 (bit k 0) ≡ false) → ones_of σ (map leaf (chosen P i n)) ≡ []
  no_ones i zero h = refl
  no_ones i (suc n) h = at (P i) refl (no_ones (i + 1) n (λ k le. h k (omega arith)))
    where
      at : (p : Bool) → P i ≡ p → ones_of σ (map leaf (chosen P (i + 1) n)) ≡ [] → ones_of σ (map leaf (cond p (i ∷ chosen P (i + 1) n) (chosen P (i + 1) n))) ≡ []
      at false e r = r
      at true e r = let x : σ 0 (bit i 0) ≡ false = h i (omega arith) e in rw x r

  pub one_one : (m i n : ℕ) → i ≤ m → m < i + n → P m ≡ true → ((k : ℕ) → P k ≡ true → σ 0 (bit k 0) ≡ (k == m))
      → ones_of σ (map leaf (chosen P i n)) ≡ (0, bit m 0) ∷ []
  one_one m i zero le lt pm h = absurd (omega arith)
  one_one m i (suc n) le lt pm h =
      elim (either (i == m)) [
        | inl t ↦ here (same i m t) t
        | inr d ↦ at (P i) refl d (one_one m (i + 1) n (later d) (omega arith) pm h)
      ]
    where
      differs : (k : ℕ) → (k ≡ m → ⊥) → (b : Bool) → (k == m) ≡ b → b ≡ false
      differs k ne true t = absurd (ne (same k m t))
      differs k ne false t = refl

      later : (i == m) ≡ false → i + 1 ≤ m
      later d = let ne : i ≡ m → ⊥ = λ e. let w : true ≡ false = sym (same_self m) ∙ ap (λ x. x == m) (sym e) ∙ d in cc in omega arith

      here : i ≡ m → (i == m) ≡ true → ones_of σ (map leaf (chosen P i (suc n))) ≡ (0, bit m 0) ∷ []
      here e t =
          let p : P i ≡ true = ap P e ∙ pm in
          let x : σ 0 (bit i 0) ≡ true = h i p ∙ t in
          let rest : ones_of σ (map leaf (chosen P (i + 1) n)) ≡ [] = no_ones (i + 1) n (λ k le' pk. h k pk ∙ differs k (λ q. omega arith) (k == m) refl) in
          rw (p, x, rest) (ap (λ (k : ℕ). (0, bit k 0) ∷ []) e)

      at : (p : Bool) → P i ≡ p → (i == m) ≡ false → ones_of σ (map leaf (chosen P (i + 1) n)) ≡ (0, bit m 0) ∷ []
          → ones_of σ (map leaf (cond p (i ∷ chosen P (i + 1) n) (chosen P (i + 1) n))) ≡ (0, bit m 0) ∷ []
      at false e d r = r
      at true e d r = let x : σ 0 (bit i 0) ≡ false = h i e ∙ d in rw x r

pub in_leaves : (P : ℕ → Bool) (m i n : ℕ) → i ≤ m → m < i + n → P m ≡ true → In (leaf m) (map leaf (chosen P i n))
in_leaves P m i zero le lt pm = absurd (omega arith)
in_leaves P m i (suc n) le lt pm =
    elim (either (i == m)) [
      | inl t ↦ here (same i m t)
      | inr d ↦ at (P i) (in_leaves P m (i + 1) n (later d) (omega arith) pm)
    ]
  where
    later : (i == m) ≡ false → i + 1 ≤ m
    later d = let ne : i ≡ m → ⊥ = λ e. let w : true ≡ false = sym (same_self m) ∙ ap (λ x. x == m) (sym e) ∙ d in cc in omega arith

    here : i ≡ m → In (leaf m) (map leaf (chosen P i (suc n)))
    here e = let p : P i ≡ true = ap P e ∙ pm in rw p (inl (ap leaf (sym e)))

    at : (p : Bool) → In (leaf m) (map leaf (chosen P (i + 1) n)) → In (leaf m) (map leaf (cond p (i ∷ chosen P (i + 1) n) (chosen P (i + 1) n)))
    at false r = r
    at true r = inr r
