-- Where a text is cut.
use Rattle.std.proofs.Common.{◌≡◌, ℕ, ◌<◌, Bool, true, false, List, [], ◌∷◌, length, get_or, take, drop, refl, ap, ◌∙◌, arith, zero, suc}
use Rattle.std.proofs.lemmas.Bool.{cond-true, cond-false}
use Rattle.cnf_core.specs.Text.{onto_first, parts, onto_full, full_parts, words_of, is_blank}

pub parts_cut : (p : ℕ → Bool) (xs : List ℕ) (i : ℕ) → i < length xs → ((k : ℕ) → k < i → p (get_or xs k 0) ≡ false) → p (get_or xs i 0) ≡ true → parts p xs ≡ take i xs ∷ parts p (drop (suc i) xs)
parts_cut p [] i lt h t = absurd (omega arith)
parts_cut p (x ∷ xs) zero lt h t = cond-true (p x) ([] ∷ parts p xs) (onto_first x (parts p xs)) t
parts_cut p (x ∷ xs) (suc i) lt h t =
    cond-false (p x) ([] ∷ parts p xs) (onto_first x (parts p xs)) (h 0 (omega arith))
    ∙ ap (onto_first x) (parts_cut p xs i (omega arith) (λ k below. h (suc k) (omega arith)) t)

pub parts_whole : (p : ℕ → Bool) (xs : List ℕ) → 0 < length xs → ((k : ℕ) → k < length xs → p (get_or xs k 0) ≡ false) → parts p xs ≡ xs ∷ []
parts_whole p [] lt h = absurd (omega arith)
parts_whole p (x ∷ []) lt h = cond-false (p x) ([] ∷ []) (onto_first x []) (h 0 (omega arith))
parts_whole p (x ∷ y ∷ ys) lt h =
    cond-false (p x) ([] ∷ parts p (y ∷ ys)) (onto_first x (parts p (y ∷ ys))) (h 0 (omega arith))
    ∙ ap (onto_first x) (parts_whole p (y ∷ ys) (omega arith) (λ k below. h (suc k) (omega arith)))

pub words_after_none : (line word behind : List ℕ) → parts is_blank line ≡ word ∷ parts is_blank behind → word ≡ [] → words_of line ≡ words_of behind
words_after_none line word behind e n = ap full_parts e ∙ ap (λ (w : List ℕ). onto_full w (words_of behind)) n

full_word : (word : List ℕ) (ws : List (List ℕ)) → 0 < length word → onto_full word ws ≡ word ∷ ws
full_word [] ws h = absurd (omega arith)
full_word (b ∷ bs) ws h = refl

pub words_after_one : (line word behind : List ℕ) → parts is_blank line ≡ word ∷ parts is_blank behind → 0 < length word → words_of line ≡ word ∷ words_of behind
words_after_one line word behind e h = ap full_parts e ∙ full_word word (words_of behind) h

pub nil_from_none : (xs : List ℕ) → length xs ≡ 0 → xs ≡ []
nil_from_none [] h = refl
nil_from_none (x ∷ xs) h = absurd (omega arith)
