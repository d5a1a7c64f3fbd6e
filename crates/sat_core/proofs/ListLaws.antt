-- Lists by place: what a write, a push and a removal keep.
use Rattle.std.proofs.Common.{◌≡◌, ℕ, ◌-◌, ◌<◌, ◌≤◌, List, [], ◌∷◌, ◌++◌, refl, sym, ap, subst, ◌∙◌, Some, inl, inr, ◌⊎◌, slice_get, get_or, set, take, length, zero, suc, arith, All, length-append, get_or-set_other}
use Rattle.std.proofs.lemmas.Bool.{cases_eq, cases_lt}
use Rattle.std.proofs.lemmas.Grind.{get_or-set_at}
use Rattle.std.proofs.lemmas.List.{get_or_append_left, length-set, length-take-le, get_or_read}
use Rattle.std.proofs.lemmas.Option.{get_or_from_slice_get, slice_get_within, slice_get_read}
use Rattle.sat_core.specs.Watch.{list_at, taken_out, listed_more, listed_less, IsFrom}

pub same_some : {A : Type 0} (x y : A) → Some x ≡ Some y → x ≡ y
same_some x y e = cc

pub get_front : {A : Type 0} (xs ys : List A) (j : ℕ) (x : A) → slice_get xs j ≡ Some x → slice_get (xs ++ ys) j ≡ Some x
get_front [] ys j x e = absurd cc
get_front (z ∷ zs) ys zero x e = e
get_front (z ∷ zs) ys (suc j) x e = get_front zs ys j x e

pub get_last : {A : Type 0} (xs : List A) (x : A) → slice_get (xs ++ x ∷ []) (length xs) ≡ Some x
get_last [] x = refl
get_last (z ∷ zs) x = get_last zs x

pub get_snoc : {A : Type 0} (xs : List A) (j : ℕ) (x y : A) → slice_get (xs ++ x ∷ []) j ≡ Some y → ((j ≡ length xs) × (x ≡ y)) ⊎ (slice_get xs j ≡ Some y)
get_snoc [] zero x y e = inl (refl, same_some x y e)
get_snoc [] (suc j) x y e = absurd cc
get_snoc (z ∷ zs) zero x y e = inr e
get_snoc (z ∷ zs) (suc j) x y e = elim (get_snoc zs j x y e) [
  | inl p ↦ inl (ap suc p.0, p.1)
  | inr h ↦ inr h
]

pub get_set_here : {A : Type 0} (xs : List A) (at : ℕ) (x : A) → at < length xs → slice_get (set xs at x) at ≡ Some x
get_set_here [] at x h = absurd (omega arith)
get_set_here (z ∷ zs) zero x h = refl
get_set_here (z ∷ zs) (suc at) x h = get_set_here zs at x (omega arith)

pub get_set_other : {A : Type 0} (xs : List A) (at j : ℕ) (x y : A) → (j ≡ at → ⊥) → slice_get xs j ≡ Some y → slice_get (set xs at x) j ≡ Some y
get_set_other [] at j x y ne e = absurd cc
get_set_other (z ∷ zs) zero zero x y ne e = absurd (ne refl)
get_set_other (z ∷ zs) zero (suc j) x y ne e = e
get_set_other (z ∷ zs) (suc at) zero x y ne e = e
get_set_other (z ∷ zs) (suc at) (suc j) x y ne e = get_set_other zs at j x y (λ h. ne (ap suc h)) e

record Changed {A : Type 0} (xs : List A) (at j : ℕ) (x y : A) : Type 0 where
  pub is : ((j ≡ at) × (x ≡ y)) ⊎ ((j ≡ at → ⊥) × (slice_get xs j ≡ Some y))

changed_suc : {A : Type 0} (z : A) (zs : List A) (at j : ℕ) (x y : A) → Changed zs at j x y → Changed (z ∷ zs) (suc at) (suc j) x y
changed_suc z zs at j x y c = record {
  is = elim c.is [
    | inl p ↦ inl (ap suc p.0, p.1)
    | inr p ↦ inr (λ h. p.0 (omega arith), p.1)
  ];
}

changed : {A : Type 0} (xs : List A) (at j : ℕ) (x y : A) → slice_get (set xs at x) j ≡ Some y → Changed xs at j x y
changed [] at j x y e = absurd cc
changed (z ∷ zs) zero zero x y e = record { is = inl (refl, same_some x y e) }
changed (z ∷ zs) zero (suc j) x y e = record { is = inr (λ h. omega arith, e) }
changed (z ∷ zs) (suc at) zero x y e = record { is = inr (λ h. omega arith, e) }
changed (z ∷ zs) (suc at) (suc j) x y e = changed_suc z zs at j x y (changed zs at j x y e)

-- what stands in a list after a write
pub get_set : {A : Type 0} (xs : List A) (at j : ℕ) (x y : A) → slice_get (set xs at x) j ≡ Some y → ((j ≡ at) × (x ≡ y)) ⊎ ((j ≡ at → ⊥) × (slice_get xs j ≡ Some y))
get_set xs at j x y e = (changed xs at j x y e).is

get_take : {A : Type 0} (xs : List A) (n j : ℕ) (x : A) → j < n → slice_get xs j ≡ Some x → slice_get (take n xs) j ≡ Some x
get_take [] n j x h e = absurd cc
get_take (z ∷ zs) zero j x h e = absurd (omega arith)
get_take (z ∷ zs) (suc n) zero x h e = e
get_take (z ∷ zs) (suc n) (suc j) x h e = get_take zs n j x (omega arith) e

pub taken_length : (ks : List ℕ) (at : ℕ) → length (taken_out ks at) ≡ length ks - 1
taken_length ks at =
    let n : ℕ = length ks - 1 in
    let e : length (set ks at (get_or ks n 0)) ≡ length ks = length-set ks at (get_or ks n 0) in
    length-take-le n (set ks at (get_or ks n 0)) (omega arith)

pub from_taken : (ks : List ℕ) (i at x k : ℕ) → i ≤ at → slice_get ks at ≡ Some x → IsFrom ks i k → (k ≡ x) ⊎ IsFrom (taken_out ks at) i k
from_taken ks i at x k le here f =
    let j = f.place in
    let n : ℕ = length ks - 1 in
    let last : ℕ = get_or ks n 0 in
    let lt : j < length ks = slice_get_within ks j k f.there in
    let room : at < length ks = slice_get_within ks at x here in
    elim (cases_eq j at) [
      | inl e ↦ inl (same_some k x (sym f.there ∙ ap (slice_get ks) e ∙ here))
      | inr ne ↦ inr (elim (cases_lt j n) [
        | inl less ↦ record { place = j; later = f.later; there = get_take (set ks at last) n j k less (get_set_other ks at j last k ne f.there) }
        | inr more ↦
            let same : j ≡ n = omega arith in
            let before : at < n = omega arith in
            let is : last ≡ k = get_or_from_slice_get ks n k 0 (ap (slice_get ks) (sym same) ∙ f.there) in
            record { place = at; later = le; there = get_take (set ks at last) n at k before (get_set_here ks at last room ∙ ap Some is) }
      ])
    ]

pub from_front : (ks zs : List ℕ) (i k : ℕ) → IsFrom ks i k → IsFrom (ks ++ zs) i k
from_front ks zs i k f = record { place = f.place; later = f.later; there = get_front ks zs f.place k f.there }

pub from_last : (ks : List ℕ) (k : ℕ) → IsFrom (ks ++ k ∷ []) 0 k
from_last ks k = record { place = length ks; later = omega arith; there = get_last ks k }

more_here : (lists : List (List ℕ)) (i k c : ℕ) → i < length lists → c ≡ i → list_at (listed_more lists i k) c ≡ list_at lists c ++ k ∷ []
more_here lists i k c h e = get_or-set_at lists i c (list_at lists i ++ k ∷ []) [] e h ∙ ap (λ (j : ℕ). list_at lists j ++ k ∷ []) (sym e)

pub more_other : (lists : List (List ℕ)) (i k c : ℕ) → (c ≡ i → ⊥) → list_at (listed_more lists i k) c ≡ list_at lists c
more_other lists i k c ne = get_or-set_other lists i c (list_at lists i ++ k ∷ []) [] ne

pub from_more : (lists : List (List ℕ)) (i k c from j : ℕ) → i < length lists → IsFrom (list_at lists c) from j → IsFrom (list_at (listed_more lists i k) c) from j
from_more lists i k c from j h f = elim (cases_eq c i) [
  | inl e ↦ subst (λ (ks : List ℕ). IsFrom ks from j) (sym (more_here lists i k c h e)) (from_front (list_at lists c) (k ∷ []) from j f)
  | inr ne ↦ subst (λ (ks : List ℕ). IsFrom ks from j) (sym (more_other lists i k c ne)) f
]

pub on_here : (lists : List (List ℕ)) (i k : ℕ) → i < length lists → IsFrom (list_at (listed_more lists i k) i) 0 k
on_here lists i k h = subst (λ (ks : List ℕ). IsFrom ks 0 k) (sym (more_here lists i k i h refl)) (from_last (list_at lists i) k)

pub less_here : (lists : List (List ℕ)) (i at c : ℕ) → i < length lists → c ≡ i → list_at (listed_less lists i at) c ≡ taken_out (list_at lists c) at
less_here lists i at c h e = get_or-set_at lists i c (taken_out (list_at lists i) at) [] e h ∙ ap (λ (j : ℕ). taken_out (list_at lists j) at) (sym e)

pub less_other : (lists : List (List ℕ)) (i at c : ℕ) → (c ≡ i → ⊥) → list_at (listed_less lists i at) c ≡ list_at lists c
less_other lists i at c ne = get_or-set_other lists i c (taken_out (list_at lists i) at) [] ne

pub from_less_other : (lists : List (List ℕ)) (i at c from j : ℕ) → (c ≡ i → ⊥) → IsFrom (list_at lists c) from j → IsFrom (list_at (listed_less lists i at) c) from j
from_less_other lists i at c from j ne f = subst (λ (ks : List ℕ). IsFrom ks from j) (sym (less_other lists i at c ne)) f

-- what one removal takes from a list
pub from_less : (lists : List (List ℕ)) (i at x c from j : ℕ) → i < length lists → slice_get (list_at lists i) at ≡ Some x → from ≤ at → (j ≡ x → ⊥) → IsFrom (list_at lists c) from j → IsFrom (list_at (listed_less lists i at) c) from j
from_less lists i at x c from j h here le ne f = elim (cases_eq c i) [
  | inl e ↦ subst (λ (ks : List ℕ). IsFrom ks from j) (sym (less_here lists i at c h e))
      (elim (from_taken (list_at lists c) from at x j le (ap (λ (d : ℕ). slice_get (list_at lists d) at) e ∙ here) f) [
        | inl s ↦ absurd (ne s)
        | inr g ↦ g
      ])
  | inr other ↦ from_less_other lists i at c from j other f
]

pub read_list : (lists : List (List ℕ)) (list : List ℕ) (n i : ℕ) → n ≡ i → i < length lists → list ≡ get_or lists n list → list ≡ list_at lists i
read_list lists list n i e lt is = get_or_read lists i list lt (is ∙ ap (λ (k : ℕ). get_or lists k list) e) []

pub at_list : (lists : List (List ℕ)) (i at : ℕ) → at < length (list_at lists i) → i < length lists
at_list [] i at h = absurd (omega arith)
at_list (ks ∷ kss) zero at h = omega arith
at_list (ks ∷ kss) (suc i) at h = let r = at_list kss i at h in omega arith

pub read_place : (ks list : List ℕ) (at place : ℕ) → list ≡ ks → at < length ks → place ≡ get_or list at place → slice_get ks at ≡ Some place
read_place ks list at place e lt is = slice_get_read ks (length ks) at place refl lt (is ∙ ap (λ (xs : List ℕ). get_or xs at place) e)

pub all_front : {A : Type 0} (P : A → Type 0) (xs ys : List A) → All P (xs ++ ys) → All P xs
all_front P xs ys h k d lt = subst P (get_or_append_left xs ys d k lt) (h k d (omega (arith, length-append xs ys)))
