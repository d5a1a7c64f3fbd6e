-- Going over a text byte by byte.
use Rattle.std.proofs.Common.{rules, suc, ◌≡◌, ◌<◌, ◌≤◌, ◌+◌, ◌-◌, ◌++◌, ◌∙◌, ℕ, true, false, List, [], ◌∷◌, length, take, drop, get_or, slice_range, refl, sym, ap, arith, add-one, drop-cons, ◌==◌, if◌then◌else◌}
use Rattle.std.proofs.Math.Seq.{take-suc}
use Rattle.std.proofs.lemmas.List.{get_or-drop, length-drop}
use Rattle.plain_form.specs.Pieces.{cut}

pub at_byte : (xs : List ℕ) (i : ℕ) → i < length xs → drop i xs ≡ get_or xs i 0 ∷ drop (i + 1) xs
at_byte xs i lt = rw (add-one, drop-cons xs i 0 lt) refl

pub longer : (xs : List ℕ) (s i : ℕ) → s ≤ i → i < length xs → slice_range xs s (i + 1) ≡ slice_range xs s i ++ (get_or xs i 0 ∷ [])
longer xs s i le lt =
    let more : (i + 1) - s ≡ suc (i - s) = omega arith in
    let same : s + (i - s) ≡ i = omega arith in
    let inside : i - s < length (drop s xs) = omega (arith, length-drop s xs) in
    ap (λ n. take n (drop s xs)) more ∙ take-suc (drop s xs) (i - s) 0 inside
    ∙ ap (λ (b : ℕ). take (i - s) (drop s xs) ++ (b ∷ [])) (get_or-drop s xs (i - s) 0 ∙ ap (λ n. get_or xs n 0) same)

pub none : (xs : List ℕ) (i : ℕ) → slice_range xs i i ≡ []
none xs i = let z : i - i ≡ 0 = omega arith in ap (λ n. take n (drop i xs)) z

pub alone : (xs : List ℕ) (i : ℕ) → i < length xs → slice_range xs i (i + 1) ≡ get_or xs i 0 ∷ []
alone xs i lt = longer xs i i (omega arith) lt ∙ ap (λ (ys : List ℕ). ys ++ (get_or xs i 0 ∷ [])) (none xs i)

-- a byte that cuts nothing
pub cut_moves : (at : ℕ) (xs : List ℕ) (s i : ℕ) → s ≤ i → i < length xs → (get_or xs i 0 ≡ at → ⊥)
    → cut at (slice_range xs s (i + 1)) (drop (i + 1) xs) ≡ cut at (slice_range xs s i) (drop i xs)
cut_moves at xs s i le lt differs =
    let e : (get_or xs i 0 == at) ≡ false = search rules in
    let held = slice_range xs s i in
    sym (ap (cut at held) (at_byte xs i lt) ∙ ap (λ t. if t then held ∷ cut at [] (drop (i + 1) xs) else cut at (held ++ (get_or xs i 0 ∷ [])) (drop (i + 1) xs)) e
    ∙ ap (λ h. cut at h (drop (i + 1) xs)) (sym (longer xs s i le lt)))

pub cut_here : (at : ℕ) (xs : List ℕ) (s i : ℕ) → i < length xs → get_or xs i 0 ≡ at
    → cut at (slice_range xs s i) (drop i xs) ≡ slice_range xs s i ∷ cut at (slice_range xs (i + 1) (i + 1)) (drop (i + 1) xs)
cut_here at xs s i lt is =
    let e : (get_or xs i 0 == at) ≡ true = search rules in
    let held = slice_range xs s i in
    ap (cut at held) (at_byte xs i lt) ∙ ap (λ t. if t then held ∷ cut at [] (drop (i + 1) xs) else cut at (held ++ (get_or xs i 0 ∷ [])) (drop (i + 1) xs)) e
    ∙ ap (λ h. held ∷ cut at h (drop (i + 1) xs)) (sym (none xs (i + 1)))
