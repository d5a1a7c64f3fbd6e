-- Going over a text byte by byte.
use Rattle.std.proofs.Common.{rules, zero, suc, min, option_map, append_assoc, append-nil, Option, Some, None, Bool, ◌≡◌, ◌<◌, ◌≤◌, ◌+◌, ◌-◌, ◌++◌, ◌∙◌, ℕ, true, false, List, [], ◌∷◌, length, take, drop, get_or, slice_range, refl, sym, ap, arith, add-one, drop-cons, ◌==◌, if◌then◌else◌}
use Rattle.std.proofs.Math.Seq.{take-suc}
use Rattle.std.proofs.lemmas.List.{get_or-drop, get_or-take, length-drop, length-take, length-take-le, take_all}
use Rattle.command_words.specs.Parts.{cut_first, cut_last, here_unless_later, onto, parts_from}

pub at_byte : (xs : List ℕ) (i : ℕ) → i < length xs → drop i xs ≡ get_or xs i 0 ∷ drop (i + 1) xs
at_byte xs i lt = rw (add-one, drop-cons xs i 0 lt) refl

pub longer : (xs : List ℕ) (s i : ℕ) → s ≤ i → i < length xs → slice_range xs s (i + 1) ≡ slice_range xs s i ++ (get_or xs i 0 ∷ [])
longer xs s i le lt =
    let more : (i + 1) - s ≡ suc (i - s) = omega arith in
    let same : s + (i - s) ≡ i = omega arith in
    let inside : i - s < length (drop s xs) = omega (arith, length-drop s xs) in
    ap (λ n. take n (drop s xs)) more ∙ take-suc (drop s xs) (i - s) 0 inside
    ∙ ap (λ (b : ℕ). take (i - s) (drop s xs) ++ (b ∷ [])) (get_or-drop s xs (i - s) 0 ∙ ap (λ n. get_or xs n 0) same)

-- a byte that cuts nothing
pub cut_moves : (at : ℕ) (xs : List ℕ) (s i : ℕ) → s ≤ i → i < length xs → (get_or xs i 0 ≡ at → ⊥)
    → parts_from at (slice_range xs s (i + 1)) (drop (i + 1) xs) ≡ parts_from at (slice_range xs s i) (drop i xs)
cut_moves at xs s i le lt differs =
    let e : (get_or xs i 0 == at) ≡ false = search rules in
    let held = slice_range xs s i in
    sym (ap (parts_from at held) (at_byte xs i lt) ∙ ap (λ t. if t then held ∷ parts_from at [] (drop (i + 1) xs) else parts_from at (held ++ (get_or xs i 0 ∷ [])) (drop (i + 1) xs)) e
    ∙ ap (λ h. parts_from at h (drop (i + 1) xs)) (sym (longer xs s i le lt)))

-- ---- the first occurrence

abbrev pub with_front : List ℕ → List ℕ × List ℕ → List ℕ × List ℕ
with_front front p = (front ++ p.0, p.1)

pub first_here : (at : ℕ) (xs : List ℕ) (i : ℕ) → i < length xs → get_or xs i 0 ≡ at → cut_first at (drop i xs) ≡ Some ([], drop (i + 1) xs)
first_here at xs i lt is =
    let e : (get_or xs i 0 == at) ≡ true = search rules in
    ap (cut_first at) (at_byte xs i lt) ∙ ap (λ t. if t then Some ([], drop (i + 1) xs) else option_map (onto (get_or xs i 0)) (cut_first at (drop (i + 1) xs))) e

pub first_moves : (at : ℕ) (xs : List ℕ) (i : ℕ) → i < length xs → (get_or xs i 0 ≡ at → ⊥) → cut_first at (drop i xs) ≡ option_map (onto (get_or xs i 0)) (cut_first at (drop (i + 1) xs))
first_moves at xs i lt differs =
    let e : (get_or xs i 0 == at) ≡ false = search rules in
    ap (cut_first at) (at_byte xs i lt) ∙ ap (λ t. if t then Some ([], drop (i + 1) xs) else option_map (onto (get_or xs i 0)) (cut_first at (drop (i + 1) xs))) e

pub front_moves : (xs : List ℕ) (i : ℕ) (o : Option (List ℕ × List ℕ)) → i < length xs
    → option_map (with_front (take i xs)) (option_map (onto (get_or xs i 0)) o) ≡ option_map (with_front (take (i + 1) xs)) o
front_moves xs i None lt = refl
front_moves xs i (Some p) lt =
    let one : i + 1 ≡ suc i = omega arith in
    ap (λ (f : List ℕ). Some (f, p.1)) (sym (append_assoc (take i xs) (get_or xs i 0 ∷ []) p.0)
    ∙ ap (λ (f : List ℕ). f ++ p.0) (sym (ap (λ n. take n xs) one ∙ take-suc xs i 0 lt)))

-- ---- the last occurrence

abbrev pub with_back : List ℕ → List ℕ × List ℕ → List ℕ × List ℕ
with_back back p = (p.0, p.1 ++ back)

same : (at : ℕ) → (at == at) ≡ true
same at = search rules

pub last_here : (at : ℕ) (front : List ℕ) → cut_last at (front ++ at ∷ []) ≡ Some (front, [])
last_here at [] = rw (same at) refl
last_here at (b ∷ bs) = ap (here_unless_later at b (bs ++ at ∷ [])) (last_here at bs)

pub last_moves : (at : ℕ) (front : List ℕ) (b : ℕ) → (b == at) ≡ false → cut_last at (front ++ b ∷ []) ≡ option_map (with_back (b ∷ [])) (cut_last at front)
last_moves at [] b e = rw e refl
last_moves at (x ∷ xs) b e = ap (here_unless_later at x (xs ++ b ∷ [])) (last_moves at xs b e) ∙ go (cut_last at xs)
  where
    at_first : (t : Bool) → (if t then Some ([], xs ++ b ∷ []) else None) ≡ option_map (with_back (b ∷ [])) (if t then Some ([], xs) else None)
    at_first true = refl
    at_first false = refl

    go : (o : Option (List ℕ × List ℕ)) → here_unless_later at x (xs ++ b ∷ []) (option_map (with_back (b ∷ [])) o) ≡ option_map (with_back (b ∷ [])) (here_unless_later at x xs o)
    go None = at_first (x == at)
    go (Some p) = refl

pub back_moves : (back : List ℕ) (b : ℕ) (o : Option (List ℕ × List ℕ)) → option_map (with_back back) (option_map (with_back (b ∷ [])) o) ≡ option_map (with_back (b ∷ back)) o
back_moves back b None = refl
back_moves back b (Some p) = ap (λ (t : List ℕ). Some (p.0, t)) (append_assoc p.1 (b ∷ []) back)

pub back_none : (o : Option (List ℕ × List ℕ)) → o ≡ option_map (with_back []) o
back_none None = refl
back_none (Some p) = ap (λ (t : List ℕ). Some (p.0, t)) (sym (append-nil p.1))

take_within : (n m : ℕ) (xs : List ℕ) → n ≤ m → take n (take m xs) ≡ take n xs
take_within zero m xs le = refl
take_within (suc n) zero xs le = absurd (omega arith)
take_within (suc n) (suc m) [] le = refl
take_within (suc n) (suc m) (x ∷ xs) le = ap (λ (ys : List ℕ). x ∷ ys) (take_within n m xs (omega arith))

last_split : (xs : List ℕ) → 1 ≤ length xs → xs ≡ take (length xs - 1) xs ++ (get_or xs (length xs - 1) 0 ∷ [])
last_split xs le =
    let n : suc (length xs - 1) ≡ length xs = omega arith in
    sym (take_all (length xs) xs (omega arith)) ∙ ap (λ n. take n xs) (sym n) ∙ take-suc xs (length xs - 1) 0 (omega arith)

module _ (at : ℕ) (text left : List ℕ) (front : left ≡ take (length left) text)
    (so_far : cut_last at text ≡ option_map (with_back (drop (length left) text)) (cut_last at left)) (le : 1 ≤ length left) where
  abbrev before : List ℕ
  before = take (length left - 1) left

  abbrev byte : ℕ
  byte = get_or left (length left - 1) 0

  left_length : length left ≤ length text
  left_length = omega (arith, length-take (length left) text, ap length front)

  before_length : length (take (length left - 1) left) ≡ length left - 1
  before_length = length-take-le (length left - 1) left (omega arith)

  -- the byte is the last occurrence
  pub last_found : get_or left (length left - 1) 0 ≡ at
      → Some (take (length left - 1) left, take (length text - (length (take (length left - 1) left) + 1)) (drop (length (take (length left - 1) left) + 1) text)) ≡ cut_last at text
  last_found is =
      let n : length (take (length left - 1) left) + 1 ≡ length left = omega (arith, before_length) in
      let here : cut_last at left ≡ Some (before, []) = ap (cut_last at) (last_split left le ∙ ap (λ (b : ℕ). before ++ b ∷ []) is) ∙ last_here at before in
      let rest : take (length text - length left) (drop (length left) text) ≡ drop (length left) text = take_all (length text - length left) (drop (length left) text) (omega (arith, length-drop (length left) text)) in
      ap (λ (m : ℕ). Some (before, take (length text - m) (drop m text))) n
      ∙ ap (λ (t : List ℕ). Some (before, t)) rest
      ∙ sym (so_far ∙ ap (option_map (with_back (drop (length left) text))) here)

  -- it is none
  pub last_front : take (length left - 1) left ≡ take (length (take (length left - 1) left)) text
  last_front = ap (take (length left - 1)) front ∙ take_within (length left - 1) (length left) text (omega arith) ∙ ap (λ n. take n text) (sym before_length)

  pub last_passes : (get_or left (length left - 1) 0 ≡ at → ⊥)
      → cut_last at text ≡ option_map (with_back (drop (length (take (length left - 1) left)) text)) (cut_last at (take (length left - 1) left))
  last_passes differs =
      let e : (byte == at) ≡ false = search rules in
      let one : (length left - 1) + 1 ≡ length left = omega arith in
      let here : cut_last at left ≡ option_map (with_back (byte ∷ [])) (cut_last at before) = ap (cut_last at) (last_split left le) ∙ last_moves at before byte e in
      let same : byte ≡ get_or text (length left - 1) 0 = ap (λ (xs : List ℕ). get_or xs (length left - 1) 0) front ∙ get_or-take (length left) text (length left - 1) 0 (omega arith) in
      let back : byte ∷ drop (length left) text ≡ drop (length before) text =
      ap (λ (b : ℕ). b ∷ drop (length left) text) same ∙ ap (λ (n : ℕ). get_or text (length left - 1) 0 ∷ drop n text) (sym one)
      ∙ sym (at_byte text (length left - 1) (omega (arith, left_length))) ∙ ap (λ n. drop n text) (sym before_length) in
      so_far ∙ ap (option_map (with_back (drop (length left) text))) here ∙ back_moves (drop (length left) text) byte (cut_last at before)
      ∙ ap (λ (t : List ℕ). option_map (with_back t) (cut_last at before)) back
