-- Lists by places.
use Rattle.std.proofs.Common.{◌≡◌, ℕ, zero, suc, ◌+◌, ◌<◌, ◌≤◌, Bool, true, false, All, List, [], ◌∷◌, ◌⊎◌, inl, inr, Option, Some, None, map, length, get_or, refl, sym, ap, ◌∙◌, subst, arith}
use Rattle.std.specs.Prelude.{slice_index_or, slice_set}
use Rattle.std.specs.List.{range_with_len}
use Rattle.design_core.specs.Cells.{In}

module _ {A : Type 0} (d : A) where
  pub set_here : (xs : List A) (k : ℕ) (v : A) → k < length xs → slice_index_or (slice_set xs k v) k d ≡ v
  set_here [] k v h = absurd (omega arith)
  set_here (x ∷ xs) zero v h = refl
  set_here (x ∷ xs) (suc k) v h = set_here xs k v (omega arith)

  pub set_there : (xs : List A) (k : ℕ) (v : A) (j : ℕ) → ¬ (j ≡ k) → slice_index_or (slice_set xs k v) j d ≡ slice_index_or xs j d
  set_there [] k v j h = refl
  set_there (x ∷ xs) zero v zero h = absurd (h refl)
  set_there (x ∷ xs) zero v (suc j) h = refl
  set_there (x ∷ xs) (suc k) v zero h = refl
  set_there (x ∷ xs) (suc k) v (suc j) h = set_there xs k v j (λ e. h (ap suc e))

  pub past : (xs : List A) (k : ℕ) → length xs ≤ k → slice_index_or xs k d ≡ d
  past [] k h = refl
  past (x ∷ xs) zero h = absurd (omega arith)
  past (x ∷ xs) (suc k) h = past xs k (omega arith)

pub set_length : {A : Type 0} (xs : List A) (k : ℕ) (v : A) → length (slice_set xs k v) ≡ length xs
set_length [] k v = refl
set_length (x ∷ xs) zero v = refl
set_length (x ∷ xs) (suc k) v = ap suc (set_length xs k v)

pub own_there : (a n b : ℕ) → b < n → slice_index_or (map Some (range_with_len a n)) b None ≡ Some (a + b)
own_there a zero b h = absurd (omega arith)
own_there a (suc n) zero h = let e : a ≡ a + 0 = omega arith in ap Some e
own_there a (suc n) (suc b) h = let e : (a + 1) + b ≡ a + suc b = omega arith in own_there (a + 1) n b (omega arith) ∙ ap Some e

some_same : (x y : ℕ) → ◌≡◌ {A = Option ℕ} (Some x) (Some y) → x ≡ y
some_same x y e = cc

pub own_back : (a n b i : ℕ) → slice_index_or (map Some (range_with_len a n)) b None ≡ Some i → (b < n) × (i ≡ a + b)
own_back a zero b i h = absurd (cc)
own_back a (suc n) zero i h = let e = some_same a i h in (omega arith, omega (arith, e))
own_back a (suc n) (suc b) i h = let r = own_back (a + 1) n b i h in let s = r.0 in let t = r.1 in (omega (arith, s), omega (arith, t))

pub own_zero : (n b : ℕ) → b < n → slice_index_or (map Some (range_with_len 0 n)) b None ≡ Some b
own_zero n b h = let e : 0 + b ≡ b = omega arith in own_there 0 n b h ∙ ap Some e

pub in_all : {A : Type 0} (P : A → Type 0) (xs : List A) (x : A) → All P xs → In x xs → P x
in_all P [] x h i = absurd i
in_all P (y ∷ ys) x h (inl e) = subst P (sym e) (h 0 y (omega arith))
in_all P (y ∷ ys) x h (inr i) = in_all P ys x (λ k d below. h (suc k) d (omega (arith, below))) i

place_in : {A : Type 0} (xs : List A) (k : ℕ) (d : A) → suc k ≤ length xs → In (get_or xs k d) xs
place_in [] k d h = absurd (omega (arith, h))
place_in (x ∷ xs) zero d h = inl refl
place_in (x ∷ xs) (suc k) d h = inr (place_in xs k d (omega (arith, h)))

pub all_in : {A : Type 0} (P : A → Type 0) (xs : List A) → ((x : A) → In x xs → P x) → All P xs
all_in P xs f = λ k d below. f (get_or xs k d) (place_in xs k d below)

pub all_none : {A : Type 0} (P : A → Type 0) → All P []
all_none P = λ k d below. absurd (omega (arith, below))

pub all_more : {A : Type 0} (P : A → Type 0) (x : A) (xs : List A) → P x → All P xs → All P (x ∷ xs)
all_more {A = A} P x xs h rest = λ k d below. more k d below
  where
    more : (k : ℕ) (d : A) → suc k ≤ length (x ∷ xs) → P (get_or (x ∷ xs) k d)
    more zero d below = h
    more (suc k) d below = rest k d (omega (arith, below))
