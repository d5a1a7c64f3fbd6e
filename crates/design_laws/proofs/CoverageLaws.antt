-- A finite test tells that a case always finds its item.
use Rattle.std.proofs.Common.{◌≡◌, ℕ, zero, suc, Bool, true, false, List, [], ◌∷◌, ◌++◌, map, length, refl, ◌∙◌, ap, ap₂, ◌||◌, arith}
use Rattle.std.specs.List.{list_all}
use Rattle.design_core.specs.Core.{Assignment, Term, value}
use Rattle.design_core.specs.Covers.{Arm, some_holds}
use Rattle.design_core.proofs.BoolLaws.{both_true, true_both}
use Rattle.design_laws.specs.Coverage.{words, arm_matches, TestItems, CoversAlways}

all_front : (p : List Bool → Bool) (xs ys : List (List Bool)) → list_all p (xs ++ ys) ≡ true → list_all p xs ≡ true
all_front p [] ys h = refl
all_front p (x ∷ xs) ys h = let q = both_true (p x) (list_all p (xs ++ ys)) h in true_both (p x) (list_all p xs) q.0 (all_front p xs ys q.1)

all_back : (p : List Bool → Bool) (xs ys : List (List Bool)) → list_all p (xs ++ ys) ≡ true → list_all p ys ≡ true
all_back p [] ys h = h
all_back p (x ∷ xs) ys h = all_back p xs ys (both_true (p x) (list_all p (xs ++ ys)) h).1

all_under : (p : List Bool → Bool) (f : List Bool → List Bool) (xs : List (List Bool)) → list_all p (map f xs) ≡ true → list_all (λ v. p (f v)) xs ≡ true
all_under p f [] h = refl
all_under p f (x ∷ xs) h = let q = both_true (p (f x)) (list_all p (map f xs)) h in true_both (p (f x)) (list_all (λ v. p (f v)) xs) q.0 (all_under p f xs q.1)

no_bits : (x : Bool) (xs : List Bool) → length (x ∷ xs) ≡ zero → ⊥
no_bits x xs h = cc

-- a list of n bits is one of all such lists
at_word : (n : ℕ) (p : List Bool → Bool) → list_all p (words n) ≡ true → (v : List Bool) → length v ≡ n → p v ≡ true
at_word zero p h [] e = (both_true (p []) true h).0
at_word zero p h (x ∷ xs) e = absurd (no_bits x xs e)
at_word (suc n) p h [] e = cc
at_word (suc n) p h (false ∷ xs) e = at_word n (λ w. p (false ∷ w)) (all_under p (λ w. false ∷ w) (words n) (all_front p (map (λ w. false ∷ w) (words n)) (map (λ w. true ∷ w) (words n)) h)) xs (let q : suc (length xs) ≡ suc n = e in omega (arith, q))
at_word (suc n) p h (true ∷ xs) e = at_word n (λ w. p (true ∷ w)) (all_under p (λ w. true ∷ w) (words n) (all_back p (map (λ w. false ∷ w) (words n)) (map (λ w. true ∷ w) (words n)) h)) xs (let q : suc (length xs) ≡ suc n = e in omega (arith, q))

holds_by_items : (selector : Term) (arms : List Arm) (items : List (List (List Bool × List Bool))) → TestItems selector arms items → (σ : Assignment) (λs : List (List Bool))
    → some_holds arms σ λs ≡ arm_matches (value selector σ λs) items
holds_by_items selector [] [] h σ λs = refl
holds_by_items selector [] (i ∷ is) h σ λs = elim h [ ]
holds_by_items selector (a ∷ as') [] h σ λs = elim h [ ]
holds_by_items selector (a ∷ as') (i ∷ is) h σ λs = ap₂ (λ x y. x || y) (h.0 σ λs) (holds_by_items selector as' is h.1 σ λs)

pub covers_always : CoversAlways
covers_always selector inner m widen arms items long is tests all σ λs =
    holds_by_items selector arms items tests σ λs
    ∙ ap (λ v. arm_matches v items) (is σ λs)
    ∙ at_word m (λ v. arm_matches (widen v) items) all (value inner σ λs) (long σ λs)
