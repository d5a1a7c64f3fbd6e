-- The pieces of a report, by the rows as the code holds them.
use Rattle.std.proofs.Common.{◌≡◌, ◌∙◌, ◌+◌, ◌++◌, ℕ, zero, suc, ◌≤◌, Bool, true, false, not, ◌&&◌, Option, List, [], ◌∷◌, length, take, map, subst, count_by, refl, sym, ap, arith, cond, if◌then◌else◌}
use Rattle.std.proofs.lemmas.List.{length-map}
use Rattle.std.proofs.lemmas.List.Sums.{sum_by-cons}
use Rattle.std.proofs.lemmas.Simd.{map-map}
use Rattle.std.specs.List.{list_all}
use Rattle.plain_form.specs.SeenTable.{seen_row}
use Rattle.plain_form.specs.declared.table.Line.{Line}
use Rattle.plain_form.specs.declared.wires.Slot.{Slot}
use Rattle.conncheck.specs.Judge.{judge}
use Rattle.conncheck.specs.declared.status.Status.TheVariants as status
use Rattle.conncheck.specs.Texts.{Judged, judged_text, total_of, total_text, was_proved}
use Rattle.std.specs.Io.KnownBytes.{Appends}
use Rattle.conncheck.specs.Ends.{PrintsEach}
use Rattle.conncheck.specs.Reply.{joined, report}
use Rattle.conncheck.specs.Words.{Text}

count_cons : {A : Type 0} (p : A → Bool) (x : A) (xs : List A) → count_by p (x ∷ xs) ≡ cond (p x) 1 0 + count_by p xs
count_cons p x xs = sum_by-cons (λ y. cond (p y) 1 0) x xs

count_map : {A B : Type 0} (p : B → Bool) (f : A → B) (xs : List A) → count_by p (map f xs) ≡ count_by (λ x. p (f x)) xs
count_map p f [] = refl
count_map p f (x ∷ xs) = count_cons p (f x) (map f xs) ∙ ap (λ n. cond (p (f x)) 1 0 + n) (count_map p f xs) ∙ sym (count_cons (λ y. p (f y)) x xs)

all_map : {A B : Type 0} (p : B → Bool) (f : A → B) (xs : List A) → list_all p (map f xs) ≡ list_all (λ x. p (f x)) xs
all_map p f [] = refl
all_map p f (x ∷ xs) = ap (λ b. p (f x) && b) (all_map p f xs)

none_at : (b rest : Bool) (n : ℕ) → (n ≡ 0 → rest ≡ true) → cond (not b) 1 0 + n ≡ 0 → (b && rest) ≡ true
none_at true rest n later e = later (omega arith)
none_at false rest n later e = absurd (omega arith)

some_at : (b rest : Bool) (n : ℕ) → ((n ≡ 0 → ⊥) → rest ≡ false) → (cond (not b) 1 0 + n ≡ 0 → ⊥) → (b && rest) ≡ false
some_at true rest n later e = later (λ q. e (omega arith))
some_at false rest n later e = refl

none_left : {A : Type 0} (p : A → Bool) (xs : List A) → count_by (λ x. not (p x)) xs ≡ 0 → list_all p xs ≡ true
none_left p [] e = refl
none_left p (x ∷ xs) e = none_at (p x) (list_all p xs) (count_by (λ y. not (p y)) xs) (none_left p xs) (sym (count_cons (λ y. not (p y)) x xs) ∙ e)

some_left : {A : Type 0} (p : A → Bool) (xs : List A) → (count_by (λ x. not (p x)) xs ≡ 0 → ⊥) → list_all p xs ≡ false
some_left p [] e = absurd (e refl)
some_left p (x ∷ xs) e = some_at (p x) (list_all p xs) (count_by (λ y. not (p y)) xs) (some_left p xs) (λ z. e (count_cons (λ y. not (p y)) x xs ∙ z))

take_map : {A B : Type 0} (f : A → B) (i : ℕ) (xs : List A) → take i (map f xs) ≡ map f (take i xs)
take_map f zero xs = refl
take_map f (suc i) [] = refl
take_map {B = B} f (suc i) (x ∷ xs) = ap (λ (ys : List B). f x ∷ ys) (take_map f i xs)

module _ (top : Text) (names : List Text) (slots : List Slot) (rows : List Line) where
  abbrev pub js : List Judged
  js = map (judge slots) (map seen_row rows)

  abbrev pub proved_row : Line → Bool
  proved_row r = was_proved (judge slots (seen_row r))

  abbrev pub text_at : Line → Text
  text_at r = judged_text top names (judge slots (seen_row r))

  together : map (λ r. judge slots (seen_row r)) rows ≡ js
  together = sym (map-map (judge slots) seen_row rows)

  counted : (p : Judged → Bool) → count_by p js ≡ count_by (λ r. p (judge slots (seen_row r))) rows
  counted p = ap (count_by p) (sym together) ∙ count_map p (λ r. judge slots (seen_row r)) rows

  lengths : length js ≡ length rows
  lengths = ap length (sym together) ∙ length-map rows (λ r. judge slots (seen_row r))

  pub total_at : (n p q : ℕ) → n ≡ length rows → p ≡ count_by proved_row rows → q ≡ count_by (λ r. not (proved_row r)) rows → total_of n p q ≡ total_text js
  total_at n p q a b c =
      ap (λ x. total_of x p q) (a ∙ sym lengths) ∙ ap (λ x. total_of (length js) x q) (b ∙ sym (counted was_proved))
      ∙ ap (λ x. total_of (length js) (count_by was_proved js) x) (c ∙ sym (counted (λ j. not (was_proved j))))

  pub pieces_at : map text_at rows ++ (total_text js ∷ []) ≡ (report top names js).pieces
  pieces_at = ap (λ (ts : List Text). ts ++ (total_text js ∷ [])) (sym (map-map (judged_text top names) (λ r. judge slots (seen_row r)) rows) ∙ ap (map (judged_text top names)) together)

  texts_at : map text_at rows ≡ map (judged_text top names) js
  texts_at = sym (map-map (judged_text top names) (λ r. judge slots (seen_row r)) rows) ∙ ap (map (judged_text top names)) together

  -- the first texts went out whole
  pub each_at : (before now i : ℕ) (old new : Option Text) → now ≤ before + i + 1 → (rest : Text) × Appends old new (joined (map text_at (take i rows)) ++ rest)
      → PrintsEach before now (map (judged_text top names) js) old new
  each_at before now i old new le h =
      let P : List Text → Type 0 = λ ts. Appends old new (joined ts ++ h.0) in
      record { printed = i; each = le; rest = h.0; follows = subst P (sym (take_map text_at i rows) ∙ ap (take i) texts_at) h.1 }

  all_rows : list_all was_proved js ≡ list_all proved_row rows
  all_rows = ap (list_all was_proved) (sym together) ∙ all_map was_proved (λ r. judge slots (seen_row r)) rows

  pub status_done : (q : ℕ) → q ≡ count_by (λ r. not (proved_row r)) rows → q ≡ 0 → status.Done ≡ (report top names js).status
  status_done q e z = sym (ap (λ b. if b then status.Done else status.Findings) (all_rows ∙ none_left proved_row rows (sym e ∙ z)))

  pub status_findings : (q : ℕ) → q ≡ count_by (λ r. not (proved_row r)) rows → (q ≡ 0 → ⊥) → status.Findings ≡ (report top names js).status
  status_findings q e z = sym (ap (λ b. if b then status.Done else status.Findings) (all_rows ∙ some_left proved_row rows (λ y. z (e ∙ y))))
