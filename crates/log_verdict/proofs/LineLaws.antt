-- Lines put one behind the other, and cut again.
use Rattle.std.proofs.Common.{◌≡◌, ℕ, suc, ◌+◌, Bool, true, false, cond, List, [], ◌∷◌, ◌++◌, length, ap, refl, sym, ◌∙◌, subst, arith, if◌then◌else◌, bytes_eq}
use Rattle.std.proofs.lemmas.Bool.{cond-false}
use Rattle.std.proofs.lemmas.List.{append_assoc, length-append}
use Rattle.cnf_core.specs.Text.{is_newline, onto_first, parts}
use Rattle.log_verdict.specs.Lines.{past, upto}

-- no newline in it
abbrev pub Clean : List ℕ → Type 0
Clean [] = Unit {0}
Clean (b ∷ bs) = (is_newline b ≡ false) × Clean bs

abbrev pub AllClean : List (List ℕ) → Type 0
AllClean [] = Unit {0}
AllClean (l ∷ ls) = Clean l × AllClean ls

onto_clean : (b : ℕ) (ls : List (List ℕ)) → is_newline b ≡ false → AllClean ls → AllClean (onto_first b ls)
onto_clean b [] e c = ((e, tt), tt)
onto_clean b (l ∷ ls) e c = ((e, c.0), c.1)

clean_cut : (b : ℕ) (bs : List ℕ) (t : Bool) → is_newline b ≡ t → AllClean (parts is_newline bs)
    → AllClean (cond t ([] ∷ parts is_newline bs) (onto_first b (parts is_newline bs)))
clean_cut b bs true e c = (tt, c)
clean_cut b bs false e c = onto_clean b (parts is_newline bs) e c

clean_parts : (xs : List ℕ) → AllClean (parts is_newline xs)
clean_parts [] = tt
clean_parts (b ∷ bs) = clean_cut b bs (is_newline b) refl (clean_parts bs)

pub clean_first : (xs line : List ℕ) (rest : List (List ℕ)) → parts is_newline xs ≡ line ∷ rest → Clean line
clean_first xs line rest e = (subst AllClean e (clean_parts xs)).0

line_part : (line ys : List ℕ) → Clean line → parts is_newline (line ++ 10 ∷ ys) ≡ line ∷ parts is_newline ys
line_part [] ys c = refl
line_part (b ∷ bs) ys c =
    cond-false (is_newline b) ([] ∷ parts is_newline (bs ++ 10 ∷ ys)) (onto_first b (parts is_newline (bs ++ 10 ∷ ys))) c.0
    ∙ ap (onto_first b) (line_part bs ys c.1)

-- what follows begins a line of its own
abbrev pub IsEnded : List ℕ → Type 0
IsEnded front = (ys : List ℕ) → parts is_newline (front ++ ys) ≡ parts is_newline front ++ parts is_newline ys

pub one_line : (front line : List ℕ) → IsEnded front → Clean line → parts is_newline (front ++ (line ++ 10 ∷ [])) ≡ parts is_newline front ++ line ∷ []
one_line front line h c = h (line ++ 10 ∷ []) ∙ ap (λ r. parts is_newline front ++ r) (line_part line [] c)

pub ended_more : (front line : List ℕ) → IsEnded front → Clean line → IsEnded (front ++ (line ++ 10 ∷ []))
ended_more front line h c ys =
    ap (parts is_newline) (append_assoc front (line ++ 10 ∷ []) ys ∙ ap (λ r. front ++ r) (append_assoc line (10 ∷ []) ys))
    ∙ h (line ++ 10 ∷ ys) ∙ ap (λ r. parts is_newline front ++ r) (line_part line ys c)
    ∙ sym (append_assoc (parts is_newline front) (line ∷ []) (parts is_newline ys))
    ∙ ap (λ r. r ++ parts is_newline ys) (sym (one_line front line h c))

-- a line that is not the marker goes to the front
pub upto_more : (marker front rest line behind : List ℕ) (all : List (List ℕ)) → IsEnded front
    → parts is_newline rest ≡ line ∷ parts is_newline behind → bytes_eq line marker ≡ false
    → parts is_newline front ++ upto marker (parts is_newline rest) ≡ all
    → parts is_newline (front ++ (line ++ 10 ∷ [])) ++ upto marker (parts is_newline behind) ≡ all
upto_more marker front rest line behind all h e n before =
    ap (λ r. r ++ upto marker (parts is_newline behind)) (one_line front line h (clean_first rest line (parts is_newline behind) e))
    ∙ append_assoc (parts is_newline front) (line ∷ []) (upto marker (parts is_newline behind))
    ∙ ap (λ t. parts is_newline front ++ (if t then [] else (line ∷ upto marker (parts is_newline behind)))) (sym n)
    ∙ ap (λ r. parts is_newline front ++ upto marker r) (sym e) ∙ before

pub past_more : (marker rest line behind : List ℕ) (all : List (List ℕ)) → parts is_newline rest ≡ line ∷ parts is_newline behind → bytes_eq line marker ≡ false
    → past marker (parts is_newline rest) ≡ all → past marker (parts is_newline behind) ≡ all
past_more marker rest line behind all e n before =
    ap (λ t. if t then parts is_newline behind else past marker (parts is_newline behind)) (sym n) ∙ ap (past marker) (sym e) ∙ before

pub count_more : (front line : List ℕ) (n m : ℕ) → IsEnded front → Clean line → n ≡ suc (length (parts is_newline front)) → m ≡ n + 1
    → m ≡ suc (length (parts is_newline (front ++ (line ++ 10 ∷ []))))
count_more front line n m h c e f =
    let size = ap length (one_line front line h c) ∙ length-append (parts is_newline front) (line ∷ []) in
    omega (arith, e, f, size)
