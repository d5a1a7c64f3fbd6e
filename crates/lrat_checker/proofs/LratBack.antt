-- The text that is written for a log says that log.
use Rattle.std.proofs.Common.{◌≡◌, ℕ, ◌+◌, ◌<◌, ◌≤◌, ◌^◌, Bool, false, cond, eqb, ◌&&◌, List, [], ◌∷◌, ◌++◌, map, arith, refl, ap, ◌∙◌, Option, Some, None, Ok, Err, ℤ, pos, negsuc, zero, suc, append_assoc}
use Rattle.std.specs.Prelude.{codes}
use Rattle.std.specs.Str.{bytes_eq}
use Rattle.std.specs.Int.RustNames.{unsigned_abs}
use Rattle.std.specs.Fmt.{decimal, signed_decimal}
use Rattle.std.proofs.lemmas.Bool.{cond-true, cond-false, ne_eqb}
use Rattle.std.proofs.lemmas.Fmt.{decimal_nonempty}
use Rattle.cnf_core.specs.declared.formula.Step.{Step}
use Rattle.cnf_core.specs.declared.formula.Step.TheVariants.{Add, Delete}
use Rattle.cnf_core.specs.Text.{is_newline, text_lines, words_of, is_comment}
use Rattle.cnf_core.specs.Numbers.{numbers_text, AllFit}
use Rattle.cnf_core.specs.Dimacs.{if_some}
use Rattle.cnf_core.proofs.TextLaws.{NoneEnds, none_append, parts_at, words_cons, decimal_no_blank, decimal_no_newline, decimal_said, integer_said, zero_said, number_words, last_number_words, numbers_no_newline, no_comment, BeginsNumber, begins_more, signed_begins}
use Rattle.lrat_checker.specs.Lrat.{Found, onto_found, go_on, until_zero, ended, all_positive, deletion, with_hints, addition, after_id, id_of, one_step, steps_of_words, steps_of_line, onto_log, log_from, as_fault, lrat_of}
use Rattle.lrat_checker.specs.LratText.{step_text, log_text, StepInText, LogInText}

goes_on : (z : ℤ) (ws : List (List ℕ)) (zs : List ℤ) (behind : List (List ℕ)) (o : Option Found) → 1 ≤ unsigned_abs z → o ≡ Some (record { numbers = zs; behind = behind }) → go_on z ws o ≡ Some (record { numbers = z ∷ zs; behind = behind })
goes_on (pos zero) ws zs behind o h e = absurd (omega arith)
goes_on (pos (suc n)) ws zs behind o h e = ap (onto_found (pos (suc n))) e
goes_on (negsuc n) ws zs behind o h e = ap (onto_found (negsuc n)) e

numbers_read : (bound : ℕ) (zs : List ℤ) (ws : List (List ℕ)) → 0 < bound → bound ≤ 2 ^ 63 → AllFit bound zs → until_zero bound (map signed_decimal zs ++ (48 ∷ []) ∷ ws) ≡ Some (record { numbers = zs; behind = ws })
numbers_read bound [] ws full small fit = ap (λ (o : Option ℤ). if_some o None (λ z. go_on z ws (until_zero bound ws))) (zero_said bound full small)
numbers_read bound (z ∷ zs) ws full small fit =
    let rest = map signed_decimal zs ++ (48 ∷ []) ∷ ws in
    ap (λ (o : Option ℤ). if_some o None (λ y. go_on y rest (until_zero bound rest))) (integer_said bound z fit.1 small)
    ∙ goes_on z rest zs ws (until_zero bound rest) fit.0 (numbers_read bound zs ws full small fit.2)

id_said : (id : ℕ) → 1 ≤ id → id < 2 ^ 63 → id_of (decimal id) ≡ Some id
id_said id low high =
    ap (λ (o : Option ℕ). if_some o None (λ n. cond (eqb n 0) None (Some n))) (decimal_said (2 ^ 63) id high (omega arith))
    ∙ cond-false (eqb id 0) None (Some id) (ne_eqb id 0 (λ e. omega arith))

not_d : (w : List ℕ) → BeginsNumber w → bytes_eq w (codes "d") ≡ false
not_d [] h = absurd h
not_d (b ∷ bs) h = ap (λ (x : Bool). x && bytes_eq bs []) (ne_eqb b 100 (λ e. let u = h.1 in omega arith))

add_by : (id : ℕ) (w : List ℕ) (ws : List (List ℕ)) → BeginsNumber w → after_id id (w ∷ ws) ≡ addition id (until_zero (2 ^ 30) (w ∷ ws))
add_by id w ws h = cond-false (bytes_eq w (codes "d")) (deletion (ended (until_zero (2 ^ 63) ws))) (addition id (until_zero (2 ^ 30) (w ∷ ws))) (not_d w h)

add_first : (id : ℕ) (lits : List ℤ) (ws : List (List ℕ)) → AllFit (2 ^ 30) lits → after_id id (map signed_decimal lits ++ (48 ∷ []) ∷ ws) ≡ addition id (until_zero (2 ^ 30) (map signed_decimal lits ++ (48 ∷ []) ∷ ws))
add_first id [] ws fit = add_by id (48 ∷ []) ws (omega arith, omega arith)
add_first id (l ∷ ls) ws fit = add_by id (signed_decimal l) (map signed_decimal ls ++ (48 ∷ []) ∷ ws) (signed_begins l (let f = fit.1 in omega arith))

-- the line of a step
abbrev line_of : Step → List ℕ
line_of (Add id lits hints) = decimal id ++ 32 ∷ (numbers_text lits ++ 32 ∷ numbers_text hints)
line_of (Delete ids) = codes "1 d " ++ numbers_text ids

text_of_step : (s : Step) (rest : List ℕ) → step_text s ++ rest ≡ line_of s ++ 10 ∷ rest
text_of_step (Add id lits hints) rest =
    append_assoc ((decimal id ++ 32 ∷ numbers_text lits) ++ 32 ∷ numbers_text hints) (10 ∷ []) rest
    ∙ ap (λ (xs : List ℕ). xs ++ 10 ∷ rest) (append_assoc (decimal id) (32 ∷ numbers_text lits) (32 ∷ numbers_text hints))
text_of_step (Delete ids) rest = append_assoc (codes "1 d " ++ numbers_text ids) (10 ∷ []) rest

line_no_newline : (s : Step) → StepInText s → NoneEnds is_newline (line_of s)
line_no_newline (Add id lits hints) h =
    none_append is_newline (decimal id) (32 ∷ (numbers_text lits ++ 32 ∷ numbers_text hints)) (decimal_no_newline id (let u = h.1 in omega arith))
    (refl, none_append is_newline (numbers_text lits) (32 ∷ numbers_text hints) (numbers_no_newline (2 ^ 30) (omega arith) lits h.2) (refl, numbers_no_newline (2 ^ 63) (omega arith) hints h.3))
line_no_newline (Delete ids) h = (refl, (refl, (refl, (refl, numbers_no_newline (2 ^ 63) (omega arith) ids h.0))))

addition_said : (id : ℕ) (lits hints : List ℤ) → AllFit (2 ^ 30) lits → AllFit (2 ^ 63) hints → addition id (until_zero (2 ^ 30) (map signed_decimal lits ++ (48 ∷ []) ∷ (map signed_decimal hints ++ (48 ∷ []) ∷ []))) ≡ Some (Add id lits hints)
addition_said id lits hints fl fh =
    ap (addition id) (numbers_read (2 ^ 30) lits (map signed_decimal hints ++ (48 ∷ []) ∷ []) (omega arith) (omega arith) fl)
    ∙ ap (λ (o : Option Found). with_hints id lits (ended o)) (numbers_read (2 ^ 63) hints [] (omega arith) (omega arith) fh)

step_said : (s : Step) → StepInText s → steps_of_words (words_of (line_of s)) ≡ Some (s ∷ [])
step_said (Add id lits hints) h =
    let small : id < 2 ^ 64 = let u = h.1 in omega arith in
    let tail = map signed_decimal hints ++ (48 ∷ []) ∷ [] in
    ap steps_of_words
    (words_cons (decimal id) (numbers_text lits ++ 32 ∷ numbers_text hints) (decimal_no_blank id small) (decimal_nonempty id small)
    ∙ ap (λ (ws : List (List ℕ)). decimal id ∷ ws)
    (number_words (2 ^ 30) (omega arith) lits (numbers_text hints) h.2
    ∙ ap (λ (ws : List (List ℕ)). map signed_decimal lits ++ (48 ∷ []) ∷ ws) (last_number_words (2 ^ 63) (omega arith) hints h.3)))
    ∙ ap one_step
    (ap (λ (o : Option ℕ). if_some o None (λ i. after_id i (map signed_decimal lits ++ (48 ∷ []) ∷ tail))) (id_said id h.0 h.1)
    ∙ add_first id lits tail h.2 ∙ addition_said id lits hints h.2 h.3)
step_said (Delete ids) h =
    ap steps_of_words
    (words_cons (49 ∷ []) (codes "d " ++ numbers_text ids) (refl, tt) (omega arith)
    ∙ ap (λ (ws : List (List ℕ)). (49 ∷ []) ∷ ws)
    (words_cons (codes "d") (numbers_text ids) (refl, tt) (omega arith)
    ∙ ap (λ (ws : List (List ℕ)). codes "d" ∷ ws) (last_number_words (2 ^ 63) (omega arith) ids h.0)))
    ∙ ap one_step
    (ap (λ (o : Option Found). deletion (ended o)) (numbers_read (2 ^ 63) ids [] (omega arith) (omega arith) h.0)
    ∙ cond-true (all_positive ids) (Some (Delete ids)) None h.1)

line_begins : (s : Step) → StepInText s → BeginsNumber (line_of s)
line_begins (Add id lits hints) h = begins_more (decimal id) (32 ∷ (numbers_text lits ++ 32 ∷ numbers_text hints)) (signed_begins (pos id) h.1)
line_begins (Delete ids) h = (omega arith, omega arith)

line_said : (s : Step) → StepInText s → steps_of_line (line_of s) ≡ Some (s ∷ [])
line_said s h = cond-false (is_comment (line_of s)) (Some []) (steps_of_words (words_of (line_of s))) (no_comment (line_of s) (line_begins s h)) ∙ step_said s h

log_back : (n : ℕ) (ss : List Step) → LogInText ss → log_from n (text_lines (log_text ss)) ≡ Ok ss
log_back n [] h = refl
log_back n (s ∷ ss) h =
    let lines : text_lines (log_text (s ∷ ss)) ≡ line_of s ∷ text_lines (log_text ss) =
    ap text_lines (text_of_step s (log_text ss)) ∙ parts_at is_newline (line_of s) 10 (log_text ss) (line_no_newline s h.0) refl in
    ap (log_from n) lines
    ∙ ap (λ (o : Option (List Step)). if_some o (Err n) (λ steps. onto_log steps (log_from (n + 1) (text_lines (log_text ss))))) (line_said s h.0)
    ∙ ap (onto_log (s ∷ [])) (log_back (n + 1) ss h.1)

-- what is written is read back
pub lrat_back : (log : List Step) → LogInText log → lrat_of (log_text log) ≡ Ok log
lrat_back log h = ap as_fault (log_back 1 log h)
