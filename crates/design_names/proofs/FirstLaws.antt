-- The first signal that prints like an earlier one.
use Rattle.std.proofs.Common.{◌≡◌, ℕ, zero, suc, ◌+◌, ◌<◌, ◌≤◌, min, Bool, true, false, not, List, [], ◌∷◌, ◌++◌, ◌⊎◌, take, length, refl, sym, ap, ◌∙◌, subst, inl, inr, arith}
use Rattle.std.specs.Prelude.{slice_index_or}
use Rattle.std.specs.List.{list_all}
use Rattle.std.specs.declared.option.Option.TheVariants.{Some, None}
use Rattle.design_core.specs.declared.signals.Signal.{Signal}
use Rattle.design_core.specs.Cells.{In}
use Rattle.design_core.specs.Wellformed.{print_apart, all_distinct, bit_texts}
use Rattle.design_core.proofs.BoolLaws.{both_true, true_both, either, not_both}
use Rattle.design_names.specs.Alike.{has, paths, is_spanned, is_bit_of, Stands, IsFront, IsMeeting, IsEarliest, IsFirstAlike}
use Rattle.design_names.proofs.DistinctLaws.{in_has, none, false_not, not_true}
use Rattle.design_names.proofs.ApartLaws.{NoBit, bits_apart, clash_later, path_later, is_bit, at_or_past}

below_or_at : (at i : ℕ) → i < at + 1 → (i < at) ⊎ (i ≡ at)
below_or_at zero zero h = inr refl
below_or_at zero (suc i) h = absurd (omega arith)
below_or_at (suc a) zero h = inl (omega arith)
below_or_at (suc a) (suc i) h = elim (below_or_at a i (omega arith)) [ inl b ↦ inl (omega arith) | inr e ↦ inr (ap suc e) ]

smaller : (r m : ℕ) → (min r m ≡ r) ⊎ (min r m ≡ m)
smaller zero m = inl (omega arith)
smaller (suc r) zero = inr (omega arith)
smaller (suc r) (suc m) = elim (smaller r m) [ inl e ↦ inl (omega arith) | inr e ↦ inr (omega arith) ]

-- one more place
pub more : (signals : List Signal) (n at m r : ℕ) → IsEarliest signals n at r → IsMeeting signals n at m → m ≤ n → at < n → IsEarliest signals n (at + 1) (min r m)
more signals n at m r w v h l = record {
  small = omega (arith, w.small);
  least = λ i j x y a b p q e. elim (below_or_at at i p) [
    | inl b' ↦ (let s = w.least i j x y a b b' q e in omega arith)
    | inr is ↦ (let s = v.least j x y (subst (λ k. Stands signals k x) is a) b q e in omega (arith, is))
  ];
  found = λ k. elim (smaller r m) [
    | inl s ↦ (let f = w.found (omega (arith, s)) in (f.0, f.1, f.2, f.3, f.4, f.5, omega (arith, f.6), f.7, f.8, omega (arith, s, f.9)))
    | inr s ↦ (let f = v.found (omega (arith, s)) in (at, f.0, f.1, f.2, f.3, f.4, omega arith, f.5, f.6, omega (arith, s, f.7)))
  ];
}

-- a place of a list, and a list up to there
pub there : {A : Type 0} (xs : List A) (k : ℕ) → k < length xs → (x : A) × Stands xs k x
there [] k h = absurd (omega arith)
there (x ∷ xs) zero h = (x, record { within = h; is_there = refl })
there (x ∷ xs) (suc k) h = let r = there xs k (omega arith) in (r.0, record { within = h; is_there = r.1.is_there })

in_front : {A : Type 0} (xs : List A) (n : ℕ) (x : A) → In x (take n xs) → (k : ℕ) × (k < n) × Stands xs k x
in_front [] zero x m = elim m [ ]
in_front [] (suc n) x m = elim m [ ]
in_front (y ∷ ys) zero x m = elim m [ ]
in_front (y ∷ ys) (suc n) x (inl e) = (0, omega arith, record { within = omega arith; is_there = sym e })
in_front (y ∷ ys) (suc n) x (inr m) = let r = in_front ys n x m in (suc r.0, omega (arith, r.1), record { within = omega (arith, r.2.within); is_there = r.2.is_there })

pub front_in : {A : Type 0} (xs : List A) (n k : ℕ) (x : A) → k < n → Stands xs k x → In x (take n xs)
front_in [] n k x h w = absurd (omega (arith, w.within))
front_in (y ∷ ys) zero k x h w = absurd (omega arith)
front_in (y ∷ ys) (suc n) zero x h w = inl (sym w.is_there)
front_in (y ∷ ys) (suc n) (suc k) x h w = inr (front_in ys n k x (omega arith) (record { within = omega (arith, w.within); is_there = w.is_there }))

pub front_more : {A : Type 0} (xs : List A) (k : ℕ) (x : A) → Stands xs k x → take (suc k) xs ≡ take k xs ++ x ∷ []
front_more [] k x w = absurd (omega (arith, w.within))
front_more (y ∷ ys) zero x w = ap (λ z. z ∷ []) w.is_there
front_more (y ∷ ys) (suc k) x w = ap (λ r. y ∷ r) (front_more ys k x (record { within = omega (arith, w.within); is_there = w.is_there }))

front_all : {A : Type 0} (p : A → Bool) (xs : List A) (n : ℕ) → list_all p xs ≡ true → list_all p (take n xs) ≡ true
front_all p [] zero h = refl
front_all p [] (suc n) h = refl
front_all p (x ∷ xs) zero h = refl
front_all p (x ∷ xs) (suc n) h = let k = both_true (p x) (list_all p xs) h in true_both (p x) (list_all p (take n xs)) k.0 (front_all p xs n k.1)

front_paths : (xs : List Signal) (n : ℕ) → paths (take n xs) ≡ take n (paths xs)
front_paths [] zero = refl
front_paths [] (suc n) = refl
front_paths (x ∷ xs) zero = refl
front_paths (x ∷ xs) (suc n) = ap (λ r. x.path ∷ r) (front_paths xs n)

pub stands_in : {A : Type 0} (xs : List A) (k : ℕ) (x : A) → Stands xs k x → In x xs
stands_in [] k x w = absurd (omega (arith, w.within))
stands_in (y ∷ ys) zero x w = inl (sym w.is_there)
stands_in (y ∷ ys) (suc k) x w = inr (stands_in ys k x (record { within = omega (arith, w.within); is_there = w.is_there }))

nothing : {A : Type 0} (xs : List A) → take 0 xs ≡ []
nothing [] = refl
nothing (x ∷ xs) = refl

front_distinct : (ts : List (List ℕ)) (n : ℕ) → all_distinct ts ≡ true → all_distinct (take n ts) ≡ true
front_distinct [] zero h = refl
front_distinct [] (suc n) h = refl
front_distinct (t ∷ ts) zero h = refl
front_distinct (t ∷ ts) (suc n) h =
    let k = both_true (not (has t ts)) (all_distinct ts) h in
    true_both (not (has t (take n ts))) (all_distinct (take n ts))
    (false_not _ (none t (take n ts) (λ m. let r = in_front ts n t m in not_both {P = ⊥} (has t ts) (in_has t ts (stands_in ts r.0 t r.2)) (not_true _ k.0))))
    (front_distinct ts n k.1)

front_front : {A : Type 0} (xs : List A) (n m : ℕ) → n ≤ m → take n (take m xs) ≡ take n xs
front_front [] zero zero h = refl
front_front [] (suc n) zero h = refl
front_front [] zero (suc m) h = refl
front_front [] (suc n) (suc m) h = refl
front_front (x ∷ xs) zero m h = nothing (take m (x ∷ xs))
front_front (x ∷ xs) (suc n) zero h = absurd (omega arith)
front_front (x ∷ xs) (suc n) (suc m) h = ap (λ r. x ∷ r) (front_front xs n m (omega arith))

pub whole : {A : Type 0} (xs : List A) (n : ℕ) → length xs ≤ n → take n xs ≡ xs
whole [] zero h = refl
whole [] (suc n) h = refl
whole (x ∷ xs) zero h = absurd (omega arith)
whole (x ∷ xs) (suc n) h = ap (λ r. x ∷ r) (whole xs n (omega arith))

module _ (signals : List Signal) (front : List (List ℕ)) (spanned : list_all is_spanned signals ≡ true) (w : IsFront front (paths signals)) (e : ℕ) (v : IsEarliest signals (length front) (length front) e) where
  no_bits : NoBit (take e signals)
  no_bits = record {
    none_of = λ x y m n.
        let a = in_front signals e x m in
        let b = in_front signals e y n in
        elim (either (is_bit_of x y)) [
          | inl hit ↦ (let s = v.least a.0 b.0 x y a.2 b.2 (omega (arith, v.small, a.1)) (omega (arith, v.small, b.1)) hit in absurd (omega (arith, a.1, b.1)))
          | inr miss ↦ miss
        ];
  }

  front_apart : print_apart (take e signals) ≡ true
  unfolding print_apart
  front_apart =
      let d : all_distinct (paths (take e signals)) ≡ true =
      ap all_distinct (front_paths signals e ∙ sym (front_front (paths signals) e (length front) v.small) ∙ sym (ap (take e) w.is_front)) ∙ front_distinct front e w.distinct in
      true_both (all_distinct (paths (take e signals))) (all_distinct (bit_texts (take e signals))) d (bits_apart (take e signals) (front_all is_spanned signals e spanned) d no_bits)

pub stands_one : {A : Type 0} (xs : List A) (k : ℕ) (x y : A) → Stands xs k x → Stands xs k y → x ≡ y
stands_one [] k x y v w = absurd (omega (arith, v.within))
stands_one (z ∷ zs) zero x y v w = sym v.is_there ∙ w.is_there
stands_one (z ∷ zs) (suc k) x y v w =
    stands_one zs k x y (record { within = omega (arith, v.within); is_there = v.is_there }) (record { within = omega (arith, w.within); is_there = w.is_there })

pub path_there : (signals : List Signal) (k : ℕ) (z : Signal) → Stands signals k z → slice_index_or (paths signals) k [] ≡ z.path
path_there [] k z w = absurd (omega (arith, w.within))
path_there (x ∷ xs) zero z w = ap (λ (y : Signal). y.path) w.is_there
path_there (x ∷ xs) (suc k) z w = path_there xs k z (record { within = omega (arith, w.within); is_there = w.is_there })

pub paths_length : (signals : List Signal) → length (paths signals) ≡ length signals
paths_length [] = refl
paths_length (x ∷ xs) = ap suc (paths_length xs)

pub all_at : {A : Type 0} (p : A → Bool) (xs : List A) (k : ℕ) (x : A) → list_all p xs ≡ true → Stands xs k x → p x ≡ true
all_at p [] k x h w = absurd (omega (arith, w.within))
all_at p (y ∷ ys) zero x h w = sym (ap p w.is_there) ∙ (both_true (p y) (list_all p ys) h).0
all_at p (y ∷ ys) (suc k) x h w = all_at p ys k x (both_true (p y) (list_all p ys) h).1 (record { within = omega (arith, w.within); is_there = w.is_there })

-- not a bit of itself
other_one : (x y : Signal) → is_bit_of x y ≡ true → x ≡ y → ⊥
other_one x y h e = let w = is_bit x y h in not_both {P = ⊥} y.ranged w.other (ap (λ (z : Signal). z.ranged) (sym e) ∙ w.single)

apart_places : (i j : ℕ) → (i ≡ j) ⊎ (i < j) ⊎ (j < i)
apart_places zero zero = inl refl
apart_places zero (suc j) = inr (inl (omega arith))
apart_places (suc i) zero = inr (inr (omega arith))
apart_places (suc i) (suc j) = elim (apart_places i j) [ inl e ↦ inl (ap suc e) | inr o ↦ elim o [ inl l ↦ inr (inl (omega arith)) | inr g ↦ inr (inr (omega arith)) ] ]

module _ (signals : List Signal) (front : List (List ℕ)) (spanned : list_all is_spanned signals ≡ true) (w : IsFront front (paths signals)) (e : ℕ) (v : IsEarliest signals (length front) (length front) e) where
  alike_bit : (z : Signal) → Stands signals e z → e < length front → print_apart (take e signals ++ z ∷ []) ≡ false
  alike_bit z s l =
      let f = v.found l in
      let x = f.2 in
      let y = f.3 in
      elim (apart_places f.0 f.1) [
        | inl is ↦ absurd (other_one x y f.8 (stands_one signals f.1 x y (subst (λ k. Stands signals k x) is f.4) f.5))
        | inr o ↦ elim o [
          | inl before ↦ (let is : f.1 ≡ e = omega (arith, f.9) in
              let same : y ≡ z = stands_one signals e y z (subst (λ k. Stands signals k y) is f.5) s in
              clash_later (take e signals) x z (front_in signals e f.0 x (omega arith) f.4) (all_at is_spanned signals f.0 x spanned f.4) (all_at is_spanned signals e z spanned s) (inl (subst (λ (u : Signal). is_bit_of x u ≡ true) same f.8)))
          | inr behind ↦ (let is : f.0 ≡ e = omega (arith, f.9) in
              let same : x ≡ z = stands_one signals e x z (subst (λ k. Stands signals k x) is f.4) s in
              clash_later (take e signals) y z (front_in signals e f.1 y (omega arith) f.5) (all_at is_spanned signals f.1 y spanned f.5) (all_at is_spanned signals e z spanned s) (inr (subst (λ (u : Signal). is_bit_of u y ≡ true) same f.8)))
        ]
      ]

  alike_path : (z : Signal) → Stands signals e z → e ≡ length front → print_apart (take e signals ++ z ∷ []) ≡ false
  alike_path z s is =
      let l : length front < length (paths signals) = omega (arith, paths_length signals, s.within) in
      path_later (take e signals) z
      (ap (has z.path) (front_paths signals e ∙ ap (λ k. take k (paths signals)) is ∙ sym w.is_front)
      ∙ ap (λ t. has t front) (sym (path_there signals e z s) ∙ ap (λ k. slice_index_or (paths signals) k []) is) ∙ w.repeats l)

  pub some_alike : e < length signals → IsFirstAlike print_apart signals (Some e)
  some_alike l =
      let z = there signals e l in
      (l, front_apart signals front spanned w e v, ap print_apart (front_more signals e z.0 z.1) ∙ elim (at_or_past e (length front) v.small) [ inl is ↦ alike_path z.0 z.1 (sym is) | inr less ↦ alike_bit z.0 z.1 less ])

  pub none_alike : length signals ≤ e → IsFirstAlike print_apart signals None
  none_alike l = ap print_apart (sym (whole signals e l)) ∙ front_apart signals front spanned w e v
