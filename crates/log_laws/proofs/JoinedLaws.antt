-- A formula and its log in one text.
use Rattle.std.proofs.Common.{◌≡◌, ◌<◌, ◌+◌, ◌^◌, inl, inr, ℕ, zero, suc, Bool, true, false, cond, List, [], ◌∷◌, ◌++◌, length, get_or, arith, refl, sym, ap, ◌∙◌, subst, if◌then◌else◌, append_assoc}
use Rattle.std.specs.Prelude.{Contains, codes, Result}
use Rattle.std.specs.Fmt.{decimal, signed_decimal}
use Rattle.std.proofs.Common.{pos}
use Rattle.std.specs.Str.{bytes_eq}
use Rattle.cnf_core.specs.declared.lit.Lit.{Lit}
use Rattle.cnf_core.specs.declared.formula.Formula.{Formula}
use Rattle.cnf_core.specs.declared.formula.Step.{Step}
use Rattle.cnf_core.specs.declared.formula.Step.TheVariants.{Add, Delete}
use Rattle.cnf_core.specs.declared.fault.TextFault.{TextFault}
use Rattle.cnf_core.specs.Text.{is_newline, onto_first, parts, text_lines}
use Rattle.cnf_core.specs.Numbers.{numbers_text}
use Rattle.cnf_core.specs.DimacsText.{clause_text, clauses_text, dimacs_text, AllInText, IsInText}
use Rattle.cnf_core.proofs.TextLaws.{NoneEnds, none_append, parts_at, decimal_no_newline, numbers_no_newline, numbers_begin, BeginsNumber, begins_more, signed_begins}
use Rattle.cnf_core.proofs.DimacsLaws.{dimacs_back}
use Rattle.lrat_checker.specs.LratText.{step_text, log_text, StepInText, LogInText}
use Rattle.lrat_checker.proofs.LratBack.{lrat_back}
use Rattle.log_verdict.specs.Answer.{answer_of, answer_of_one, of_formula, of_log, proof_line, next_line, said_log}
use Rattle.log_verdict.specs.Lines.{upto, past}
use Rattle.text_laws.proofs.NumeralLaws.{same_bytes}
use Rattle.log_laws.specs.Joined.{IsWhole, joined_text, JudgedAsApart, PrintedIsJudged}

-- lines

-- a text with a newline at its end has lines, and what follows begins one of its own
cut_line : (b : ℕ) (body ys : List ℕ) (t : Bool) → is_newline b ≡ t → (parts is_newline (body ++ 10 ∷ ys) ≡ parts is_newline (body ++ 10 ∷ []) ++ parts is_newline ys) → (l : List ℕ) (ls : List (List ℕ)) → parts is_newline (body ++ 10 ∷ []) ≡ l ∷ ls
    → cond t ([] ∷ parts is_newline (body ++ 10 ∷ ys)) (onto_first b (parts is_newline (body ++ 10 ∷ ys))) ≡ cond t ([] ∷ parts is_newline (body ++ 10 ∷ [])) (onto_first b (parts is_newline (body ++ 10 ∷ []))) ++ parts is_newline ys
cut_line b body ys true e h l ls is = ap (λ (xs : List (List ℕ)). [] ∷ xs) h
cut_line b body ys false e h l ls is =
    ap (onto_first b) (h ∙ ap (λ (xs : List (List ℕ)). xs ++ parts is_newline ys) is)
    ∙ ap (λ (xs : List (List ℕ)). onto_first b xs ++ parts is_newline ys) (sym is)

-- lines that are there
record Full (ls : List (List ℕ)) : Type 0 where
  first : List ℕ
  others : List (List ℕ)
  are : ls ≡ first ∷ others

full_onto : (b : ℕ) (ls : List (List ℕ)) → Full (onto_first b ls)
full_onto b [] = record { first = b ∷ []; others = []; are = refl }
full_onto b (l ∷ ls) = record { first = b ∷ l; others = ls; are = refl }

full_cut : (t : Bool) (b : ℕ) (ls : List (List ℕ)) → Full (cond t ([] ∷ ls) (onto_first b ls))
full_cut true b ls = record { first = []; others = ls; are = refl }
full_cut false b ls = full_onto b ls

full_lines : (body : List ℕ) → Full (parts is_newline (body ++ 10 ∷ []))
full_lines [] = record { first = []; others = []; are = refl }
full_lines (b ∷ body) = full_cut (is_newline b) b (parts is_newline (body ++ 10 ∷ []))

ended_lines : (body ys : List ℕ) → parts is_newline (body ++ 10 ∷ ys) ≡ parts is_newline (body ++ 10 ∷ []) ++ parts is_newline ys
ended_lines [] ys = refl
ended_lines (b ∷ body) ys =
    let f = full_lines body in
    cut_line b body ys (is_newline b) refl (ended_lines body ys) f.first f.others f.are

whole_lines : (text ys : List ℕ) → IsWhole text → text_lines (text ++ ys) ≡ text_lines text ++ text_lines ys
whole_lines text ys (inl none) = ap (λ (t : List ℕ). text_lines (t ++ ys)) none ∙ ap (λ (t : List ℕ). text_lines t ++ text_lines ys) (sym none)
whole_lines text ys (inr w) =
    ap (λ (t : List ℕ). text_lines (t ++ ys)) w.1 ∙ ap text_lines (append_assoc w.0 (10 ∷ []) ys) ∙ ended_lines w.0 ys
    ∙ ap (λ (t : List ℕ). text_lines t ++ text_lines ys) (sym w.1)

proof_lines : (log : List ℕ) → text_lines (proof_line ++ 10 ∷ log) ≡ proof_line ∷ text_lines log
proof_lines log = refl

joined_lines : (formula log : List ℕ) → IsWhole formula → text_lines (joined_text formula log) ≡ text_lines formula ++ proof_line ∷ text_lines log
joined_lines formula log w = whole_lines formula (proof_line ++ 10 ∷ log) w

-- markers

differs : (line marker : List ℕ) (b : Bool) → bytes_eq line marker ≡ b → (line ≡ marker → ⊥) → b ≡ false
differs line marker true e h = absurd (h (same_bytes line marker e))
differs line marker false e h = refl

first_differs : (line marker : List ℕ) (lines : List (List ℕ)) → (Contains (line ∷ lines) marker → ⊥) → bytes_eq line marker ≡ false
first_differs line marker lines h = differs line marker (bytes_eq line marker) refl (λ e. h (0, omega arith, e))

others_lack : (line marker : List ℕ) (lines : List (List ℕ)) → (Contains (line ∷ lines) marker → ⊥) → Contains lines marker → ⊥
others_lack line marker lines h c = h (suc c.0, omega (arith, c.1), c.2)

upto_marker : (marker : List ℕ) (front behind : List (List ℕ)) → bytes_eq marker marker ≡ true → (Contains front marker → ⊥) → upto marker (front ++ marker ∷ behind) ≡ front
upto_marker marker [] behind same h = ap (λ (b : Bool). if b then [] else (marker ∷ upto marker behind)) same
upto_marker marker (line ∷ front) behind same h =
    ap (λ (b : Bool). if b then [] else (line ∷ upto marker (front ++ marker ∷ behind))) (first_differs line marker front h)
    ∙ ap (λ (xs : List (List ℕ)). line ∷ xs) (upto_marker marker front behind same (others_lack line marker front h))

past_marker : (marker : List ℕ) (front behind : List (List ℕ)) → bytes_eq marker marker ≡ true → (Contains front marker → ⊥) → past marker (front ++ marker ∷ behind) ≡ behind
past_marker marker [] behind same h = ap (λ (b : Bool). if b then behind else past marker behind) same
past_marker marker (line ∷ front) behind same h =
    ap (λ (b : Bool). if b then (front ++ marker ∷ behind) else past marker (front ++ marker ∷ behind)) (first_differs line marker front h)
    ∙ past_marker marker front behind same (others_lack line marker front h)

upto_none : (marker : List ℕ) (lines : List (List ℕ)) → (Contains lines marker → ⊥) → upto marker lines ≡ lines
upto_none marker [] h = refl
upto_none marker (line ∷ lines) h =
    ap (λ (b : Bool). if b then [] else (line ∷ upto marker lines)) (first_differs line marker lines h)
    ∙ ap (λ (xs : List (List ℕ)). line ∷ xs) (upto_none marker lines (others_lack line marker lines h))

pub judged_as_apart : JudgedAsApart
judged_as_apart formula log whole no_proof no_next =
    let front = text_lines formula in
    let behind = text_lines log in
    ap answer_of_one (joined_lines formula log whole)
    ∙ ap (λ (xs : List (List ℕ)). answer_of (suc (length xs)) xs (upto next_line (past proof_line (front ++ proof_line ∷ behind)))) (upto_marker proof_line front behind refl no_proof)
    ∙ ap (λ (xs : List (List ℕ)). answer_of (suc (length front)) front (upto next_line xs)) (past_marker proof_line front behind refl no_proof)
    ∙ ap (answer_of (suc (length front)) front) (upto_none next_line behind no_next)

-- what is printed

-- a line and a newline before a whole text
whole_more : (line text : List ℕ) → IsWhole text → IsWhole (line ++ 10 ∷ text)
whole_more line text (inl none) = inr (line, ap (λ (t : List ℕ). line ++ 10 ∷ t) none)
whole_more line text (inr w) = inr (line ++ 10 ∷ w.0, ap (λ (t : List ℕ). line ++ 10 ∷ t) w.1 ∙ sym (append_assoc line (10 ∷ w.0) (10 ∷ [])))

clause_line : (c : List Lit) (rest : List ℕ) → clause_text c ++ rest ≡ numbers_text c ++ 10 ∷ rest
clause_line [] rest = refl
clause_line (l ∷ ls) rest =
    append_assoc (signed_decimal l) (32 ∷ clause_text ls) rest
    ∙ ap (λ (xs : List ℕ). signed_decimal l ++ 32 ∷ xs) (clause_line ls rest)
    ∙ sym (append_assoc (signed_decimal l) (32 ∷ numbers_text ls) (10 ∷ rest))

whole_clauses : (cs : List (List Lit)) → IsWhole (clauses_text cs)
whole_clauses [] = inl refl
whole_clauses (c ∷ cs) = subst IsWhole (sym (clause_line c (clauses_text cs))) (whole_more (numbers_text c) (clauses_text cs) (whole_clauses cs))

abbrev head : ℕ → ℕ → List ℕ
head v c = codes "p cnf " ++ (decimal v ++ 32 ∷ decimal c)

whole_formula : (f : Formula) → IsWhole (dimacs_text f)
whole_formula f = whole_more (head f.variables (length f.clauses)) (clauses_text f.clauses) (whole_clauses f.clauses)

head_no_newline : (v c : ℕ) → v < 2 ^ 30 → c < 2 ^ 30 → NoneEnds is_newline (head v c)
head_no_newline v c sv sc =
    none_append is_newline (codes "p cnf ") (decimal v ++ 32 ∷ decimal c) (refl, (refl, (refl, (refl, (refl, (refl, tt))))))
    (none_append is_newline (decimal v) (32 ∷ decimal c) (decimal_no_newline v (omega arith)) (refl, decimal_no_newline c (omega arith)))

-- a marker is no line of these

lacks_by : (line marker : List ℕ) (lines : List (List ℕ)) → (line ≡ marker → ⊥) → (Contains lines marker → ⊥) → (k : ℕ) → k < length (line ∷ lines) → get_or (line ∷ lines) k marker ≡ marker → ⊥
lacks_by line marker lines first others zero lt e = first e
lacks_by line marker lines first others (suc k) lt e = others (k, omega (arith, lt), e)

lacks : (line marker : List ℕ) (lines : List (List ℕ)) → (line ≡ marker → ⊥) → (Contains lines marker → ⊥) → Contains (line ∷ lines) marker → ⊥
lacks line marker lines first others c = lacks_by line marker lines first others c.0 c.1 c.2

lacks_none : (marker : List ℕ) → Contains [] marker → ⊥
lacks_none marker c = omega (arith, c.1)

not_proof : (line : List ℕ) → BeginsNumber line → line ≡ proof_line → ⊥
not_proof line b e = let n : BeginsNumber proof_line = subst BeginsNumber e b in let high = n.1 in omega (arith, high)

not_next : (line : List ℕ) → BeginsNumber line → line ≡ next_line → ⊥
not_next line b e = let n : BeginsNumber next_line = subst BeginsNumber e b in let high = n.1 in omega (arith, high)

clauses_lack : (v : ℕ) (cs : List (List Lit)) → v < 2 ^ 30 → AllInText v cs → Contains (text_lines (clauses_text cs)) proof_line → ⊥
clauses_lack v [] small fit c = lacks_none proof_line c
clauses_lack v (c ∷ cs) small fit h =
    let lines : text_lines (clauses_text (c ∷ cs)) ≡ numbers_text c ∷ text_lines (clauses_text cs) =
    ap text_lines (clause_line c (clauses_text cs)) ∙ parts_at is_newline (numbers_text c) 10 (clauses_text cs) (numbers_no_newline (v + 1) (omega arith) c fit.0) refl in
    lacks (numbers_text c) proof_line (text_lines (clauses_text cs)) (not_proof (numbers_text c) (numbers_begin (v + 1) (omega arith) c fit.0)) (clauses_lack v cs small fit.1)
    (subst (λ (ls : List (List ℕ)). Contains ls proof_line) lines h)

not_head : (v c : ℕ) → head v c ≡ proof_line → ⊥
not_head v c e = let first : 112 ≡ 99 = ap (λ (l : List ℕ). get_or l 0 0) e in omega (arith, first)

formula_lacks : (f : Formula) → IsInText f → Contains (text_lines (dimacs_text f)) proof_line → ⊥
formula_lacks f h c =
    let v = f.variables in
    let n = length f.clauses in
    let lines : text_lines (dimacs_text f) ≡ head v n ∷ text_lines (clauses_text f.clauses) =
    parts_at is_newline (head v n) 10 (clauses_text f.clauses) (head_no_newline v n h.variables h.clauses) refl in
    lacks (head v n) proof_line (text_lines (clauses_text f.clauses)) (not_head v n) (clauses_lack v f.clauses h.variables h.literals) (subst (λ (ls : List (List ℕ)). Contains ls proof_line) lines c)

abbrev line_of : Step → List ℕ
line_of (Add id lits hints) = decimal id ++ 32 ∷ (numbers_text lits ++ 32 ∷ numbers_text hints)
line_of (Delete ids) = codes "1 d " ++ numbers_text ids

text_of_step : (s : Step) (rest : List ℕ) → step_text s ++ rest ≡ line_of s ++ 10 ∷ rest
text_of_step (Add id lits hints) rest =
    append_assoc ((decimal id ++ 32 ∷ numbers_text lits) ++ 32 ∷ numbers_text hints) (10 ∷ []) rest
    ∙ ap (λ (xs : List ℕ). xs ++ 10 ∷ rest) (append_assoc (decimal id) (32 ∷ numbers_text lits) (32 ∷ numbers_text hints))
text_of_step (Delete ids) rest = append_assoc (codes "1 d " ++ numbers_text ids) (10 ∷ []) rest

line_no_newline : (s : Step) → StepInText s → NoneEnds is_newline (line_of s)
line_no_newline (Add id lits hints) h =
    none_append is_newline (decimal id) (32 ∷ (numbers_text lits ++ 32 ∷ numbers_text hints)) (decimal_no_newline id (let u = h.1 in omega arith))
    (refl, none_append is_newline (numbers_text lits) (32 ∷ numbers_text hints) (numbers_no_newline (2 ^ 30) (omega arith) lits h.2) (refl, numbers_no_newline (2 ^ 63) (omega arith) hints h.3))
line_no_newline (Delete ids) h = (refl, (refl, (refl, (refl, numbers_no_newline (2 ^ 63) (omega arith) ids h.0))))

line_begins : (s : Step) → StepInText s → BeginsNumber (line_of s)
line_begins (Add id lits hints) h = begins_more (decimal id) (32 ∷ (numbers_text lits ++ 32 ∷ numbers_text hints)) (signed_begins (pos id) h.1)
line_begins (Delete ids) h = (omega arith, omega arith)

log_lacks : (log : List Step) → LogInText log → Contains (text_lines (log_text log)) next_line → ⊥
log_lacks [] h c = lacks_none next_line c
log_lacks (s ∷ log) h c =
    let lines : text_lines (log_text (s ∷ log)) ≡ line_of s ∷ text_lines (log_text log) =
    ap text_lines (text_of_step s (log_text log)) ∙ parts_at is_newline (line_of s) 10 (log_text log) (line_no_newline s h.0) refl in
    lacks (line_of s) next_line (text_lines (log_text log)) (not_next (line_of s) (line_begins s h.0)) (log_lacks log h.1) (subst (λ (ls : List (List ℕ)). Contains ls next_line) lines c)

pub printed_is_judged : PrintedIsJudged
printed_is_judged f log hf hl =
    let n = suc (length (text_lines (dimacs_text f))) in
    judged_as_apart (dimacs_text f) (log_text log) (whole_formula f) (formula_lacks f hf) (log_lacks log hl)
    ∙ ap (λ (r : Result Formula TextFault). of_formula n r (said_log (text_lines (log_text log)))) (dimacs_back f hf)
    ∙ ap (of_log n f) (lrat_back log hl)
