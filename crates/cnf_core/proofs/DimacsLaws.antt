-- The text that is written for a formula says that formula.
use Rattle.std.proofs.Common.{◌≡◌, ℕ, ◌+◌, ◌-◌, ◌<◌, ◌≤◌, ◌^◌, eqb, List, [], ◌∷◌, ◌++◌, map, length, arith, refl, sym, ap, ◌∙◌, Option, Some, None, Ok, Err, ℤ, pos, negsuc, zero, suc, append_assoc}
use Rattle.std.specs.Prelude.{codes}
use Rattle.std.specs.Int.RustNames.{unsigned_abs}
use Rattle.std.specs.Fmt.{decimal, signed_decimal}
use Rattle.std.proofs.lemmas.Bool.{cond-true, cond-false, ne_eqb, eq-eqb}
use Rattle.std.proofs.lemmas.List.{append-nil}
use Rattle.std.proofs.lemmas.Fmt.{decimal_nonempty}
use Rattle.cnf_core.specs.declared.lit.Lit.{Lit}
use Rattle.cnf_core.specs.declared.formula.Formula.{Formula}
use Rattle.cnf_core.specs.declared.dimacs.Reading.{Reading}
use Rattle.cnf_core.specs.declared.dimacs.Stage.TheVariants.{Count, Clauses}
use Rattle.cnf_core.specs.Text.{is_newline, text_lines, words_of, Word, marked, line_words, words_from, text_words, is_comment}
use Rattle.cnf_core.specs.Numbers.{integer_below, numbers_text, AllFit}
use Rattle.cnf_core.specs.Dimacs.{if_some, start, with_literal, read_words, at_line, dimacs_of}
use Rattle.cnf_core.specs.DimacsText.{clause_text, clauses_text, dimacs_text, AllInText, IsInText}
use Rattle.cnf_core.proofs.TextLaws.{NoneEnds, none_append, parts_at, words_cons, words_one, decimal_no_blank, decimal_no_newline, decimal_said, integer_said, zero_said, last_number_words, numbers_no_newline, numbers_begin, no_comment}

clause_line : (c : List Lit) (rest : List ℕ) → clause_text c ++ rest ≡ numbers_text c ++ 10 ∷ rest
clause_line [] rest = refl
clause_line (l ∷ ls) rest =
    append_assoc (signed_decimal l) (32 ∷ clause_text ls) rest
    ∙ ap (λ (xs : List ℕ). signed_decimal l ++ 32 ∷ xs) (clause_line ls rest)
    ∙ sym (append_assoc (signed_decimal l) (32 ∷ numbers_text ls) (10 ∷ rest))

-- in the clauses of a text, with k + 1 of them to come
abbrev in_clauses : ℕ → ℕ → List (List Lit) → List Lit → Reading
in_clauses v k done clause = record { stage = Clauses; variables = v; left = k; clauses = done; clause = clause }

step_number : (v k : ℕ) (done : List (List Lit)) (clause : List Lit) (n : ℕ) (w : List ℕ) (z : ℤ) (ws : List Word) → 0 < k → integer_below (v + 1) w ≡ Some z → read_words (in_clauses v k done clause) (record { line = n; bytes = w } ∷ ws) ≡ read_words (with_literal (in_clauses v k done clause) z) ws
step_number v k done clause n w z ws left e =
    ap (λ (o : Option Reading). if_some o (Err (Some n)) (λ next. read_words next ws))
    (cond-false (eqb k 0) None (if_some (integer_below (v + 1) w) None (λ y. Some (with_literal (in_clauses v k done clause) y))) (ne_eqb k 0 (λ h. omega arith))
    ∙ ap (λ (o : Option ℤ). if_some o None (λ y. Some (with_literal (in_clauses v k done clause) y))) e)

one_literal : (v k : ℕ) (done : List (List Lit)) (clause : List Lit) (z : ℤ) → 1 ≤ unsigned_abs z → with_literal (in_clauses v k done clause) z ≡ in_clauses v k done (clause ++ z ∷ [])
one_literal v k done clause (pos zero) h = absurd (omega arith)
one_literal v k done clause (pos (suc n)) h = refl
one_literal v k done clause (negsuc n) h = refl

read_line : (v k : ℕ) (done : List (List Lit)) (clause c : List Lit) (n : ℕ) (ws : List Word) → v < 2 ^ 30 → 0 < k → AllFit (v + 1) c → read_words (in_clauses v k done clause) (marked n (map signed_decimal c ++ (48 ∷ []) ∷ []) ++ ws) ≡ read_words (in_clauses v (k - 1) (done ++ (clause ++ c) ∷ []) []) ws
read_line v k done clause [] n ws small left fit =
    step_number v k done clause n (48 ∷ []) (pos 0) ws left (zero_said (v + 1) (omega arith) (omega arith))
    ∙ ap (λ (d : List Lit). read_words (in_clauses v (k - 1) (done ++ d ∷ []) []) ws) (sym (append-nil clause))
read_line v k done clause (l ∷ ls) n ws small left fit =
    step_number v k done clause n (signed_decimal l) l (marked n (map signed_decimal ls ++ (48 ∷ []) ∷ []) ++ ws) left (integer_said (v + 1) l fit.1 (omega arith))
    ∙ ap (λ (r : Reading). read_words r (marked n (map signed_decimal ls ++ (48 ∷ []) ∷ []) ++ ws)) (one_literal v k done clause l fit.0)
    ∙ read_line v k done (clause ++ l ∷ []) ls n ws small left fit.2
    ∙ ap (λ (d : List Lit). read_words (in_clauses v (k - 1) (done ++ d ∷ []) []) ws) (append_assoc clause (l ∷ []) ls)

read_all : (v : ℕ) (done cs : List (List Lit)) (k n : ℕ) → v < 2 ^ 30 → k ≡ length cs → AllInText v cs → read_words (in_clauses v k done []) (words_from n (text_lines (clauses_text cs))) ≡ Ok (record { variables = v; clauses = done ++ cs })
read_all v done [] k n small e fit =
    cond-true (eqb k 0) (Ok (record { variables = v; clauses = done })) (Err None) (eq-eqb k 0 e)
    ∙ ap (λ (cs : List (List Lit)). Ok (record { variables = v; clauses = cs })) (sym (append-nil done))
read_all v done (c ∷ cs) k n small e fit =
    let lines : text_lines (clauses_text (c ∷ cs)) ≡ numbers_text c ∷ text_lines (clauses_text cs) =
    ap text_lines (clause_line c (clauses_text cs)) ∙ parts_at is_newline (numbers_text c) 10 (clauses_text cs) (numbers_no_newline (v + 1) (omega arith) c fit.0) refl in
    let words : line_words n (numbers_text c) ≡ marked n (map signed_decimal c ++ (48 ∷ []) ∷ []) =
    cond-false (is_comment (numbers_text c)) [] (marked n (words_of (numbers_text c))) (no_comment (numbers_text c) (numbers_begin (v + 1) (omega arith) c fit.0))
    ∙ ap (marked n) (last_number_words (v + 1) (omega arith) c fit.0) in
    ap (λ (ls : List (List ℕ)). read_words (in_clauses v k done []) (words_from n ls)) lines
    ∙ ap (λ (ws : List Word). read_words (in_clauses v k done []) (ws ++ words_from (n + 1) (text_lines (clauses_text cs)))) words
    ∙ read_line v k done [] c n (words_from (n + 1) (text_lines (clauses_text cs))) small (omega arith) fit.0
    ∙ read_all v (done ++ c ∷ []) cs (k - 1) (n + 1) small (omega arith) fit.1
    ∙ ap (λ (ds : List (List Lit)). Ok (record { variables = v; clauses = ds })) (append_assoc done (c ∷ []) cs)

abbrev head : ℕ → ℕ → List ℕ
head v c = codes "p cnf " ++ (decimal v ++ 32 ∷ decimal c)

text_is : (f : Formula) → dimacs_text f ≡ head f.variables (length f.clauses) ++ 10 ∷ clauses_text f.clauses
text_is f = refl

head_words : (v c : ℕ) → v < 2 ^ 30 → c < 2 ^ 30 → words_of (head v c) ≡ codes "p" ∷ codes "cnf" ∷ decimal v ∷ decimal c ∷ []
head_words v c sv sc =
    words_cons (codes "p") (codes "cnf " ++ (decimal v ++ 32 ∷ decimal c)) (refl, tt) (omega arith)
    ∙ ap (λ (ws : List (List ℕ)). codes "p" ∷ ws)
    (words_cons (codes "cnf") (decimal v ++ 32 ∷ decimal c) (refl, (refl, (refl, tt))) (omega arith)
    ∙ ap (λ (ws : List (List ℕ)). codes "cnf" ∷ ws)
    (words_cons (decimal v) (decimal c) (decimal_no_blank v (omega arith)) (decimal_nonempty v (omega arith))
    ∙ ap (λ (ws : List (List ℕ)). decimal v ∷ ws) (words_one (decimal c) (decimal_no_blank c (omega arith)) (decimal_nonempty c (omega arith)))))

head_no_newline : (v c : ℕ) → v < 2 ^ 30 → c < 2 ^ 30 → NoneEnds is_newline (head v c)
head_no_newline v c sv sc =
    none_append is_newline (codes "p cnf ") (decimal v ++ 32 ∷ decimal c) (refl, (refl, (refl, (refl, (refl, (refl, tt))))))
    (none_append is_newline (decimal v) (32 ∷ decimal c) (decimal_no_newline v (omega arith)) (refl, decimal_no_newline c (omega arith)))

read_head : (v c n : ℕ) (ws : List Word) → v < 2 ^ 30 → c < 2 ^ 30 → read_words start (marked n (codes "p" ∷ codes "cnf" ∷ decimal v ∷ decimal c ∷ []) ++ ws) ≡ read_words (in_clauses v c [] []) ws
read_head v c n ws sv sc =
    ap (λ (o : Option ℕ). if_some (if_some o None (λ x. Some (record { stage = Count; variables = x; left = 0; clauses = []; clause = [] })))
    (Err (Some n)) (λ next. read_words next (record { line = n; bytes = decimal c } ∷ ws))) (decimal_said (2 ^ 30) v sv (omega arith))
    ∙ ap (λ (o : Option ℕ). if_some (if_some o None (λ x. Some (in_clauses v x [] []))) (Err (Some n)) (λ next. read_words next ws)) (decimal_said (2 ^ 30) c sc (omega arith))

-- what is written is read back
pub dimacs_back : (f : Formula) → IsInText f → dimacs_of (dimacs_text f) ≡ Ok f
dimacs_back f h =
    let v = f.variables in
    let c = length f.clauses in
    let lines : text_lines (dimacs_text f) ≡ head v c ∷ text_lines (clauses_text f.clauses) =
    ap text_lines (text_is f) ∙ parts_at is_newline (head v c) 10 (clauses_text f.clauses) (head_no_newline v c h.variables h.clauses) refl in
    let read : read_words start (text_words (dimacs_text f)) ≡ Ok (record { variables = v; clauses = f.clauses }) =
    ap (λ (ls : List (List ℕ)). read_words start (words_from 1 ls)) lines
    ∙ ap (λ (ws : List (List ℕ)). read_words start (marked 1 ws ++ words_from 2 (text_lines (clauses_text f.clauses)))) (head_words v c h.variables h.clauses)
    ∙ read_head v c 1 (words_from 2 (text_lines (clauses_text f.clauses))) h.variables h.clauses
    ∙ read_all v [] f.clauses c 2 h.variables refl h.literals in
    ap (at_line _) read
