-- Numbers of lines.
use Rattle.std.proofs.Common.{◌≡◌, ℕ, suc, ◌+◌, ◌<◌, ◌≤◌, Bool, true, false, cond, List, [], ◌∷◌, ◌++◌, length, ap, arith, if◌then◌else◌, bytes_eq, Option, Some, None}
use Rattle.std.specs.Prelude.{Result, Ok, Err}
use Rattle.cnf_core.specs.declared.formula.Step.{Step}
use Rattle.cnf_core.specs.declared.fault.TextFault.{TextFault}
use Rattle.cnf_core.specs.declared.fault.TextFault.TheVariants.{Bad, NoMemory}
use Rattle.cnf_core.specs.Dimacs.{if_some}
use Rattle.cnf_core.specs.Text.{is_newline, onto_first, text_lines}
use Rattle.lrat_checker.specs.Lrat.{steps_of_line, onto_log, log_from, as_fault}
use Rattle.log_verdict.specs.Lines.{past, upto}

onto_short : (b : ℕ) (ls : List (List ℕ)) → length (onto_first b ls) ≤ length ls + 1
onto_short b [] = omega arith
onto_short b (l ∷ ls) = omega arith

cut_short : (b : ℕ) (ls : List (List ℕ)) (n : ℕ) (t : Bool) → length ls ≤ n → length (cond t ([] ∷ ls) (onto_first b ls)) ≤ suc n
cut_short b ls n true l = omega (arith, l)
cut_short b ls n false l = let s = onto_short b ls in omega (arith, l, s)

-- a text has no more lines than bytes
pub few_lines : (xs : List ℕ) → length (text_lines xs) ≤ length xs
few_lines [] = omega arith
few_lines (b ∷ bs) = cut_short b (text_lines bs) (length bs) (is_newline b) (few_lines bs)

parted : (t : Bool) (line : List ℕ) (marker : List ℕ) (lines : List (List ℕ)) → length (upto marker lines) + length (past marker lines) ≤ length lines
    → length (if t then [] else (line ∷ upto marker lines)) + length (if t then lines else past marker lines) ≤ suc (length lines)
parted true line marker lines h = omega arith
parted false line marker lines h = omega (arith, h)

-- the lines before a marker and those behind it
pub both_parts : (marker : List ℕ) (lines : List (List ℕ)) → length (upto marker lines) + length (past marker lines) ≤ length lines
both_parts marker [] = omega arith
both_parts marker (line ∷ lines) = parted (bytes_eq line marker) line marker lines (both_parts marker lines)

shorter : (t : Bool) (line : List ℕ) (some lines : List (List ℕ)) → length some ≤ length lines → length (if t then [] else (line ∷ some)) ≤ suc (length lines)
shorter true line some lines h = omega arith
shorter false line some lines h = omega (arith, h)

pub upto_short : (marker : List ℕ) (lines : List (List ℕ)) → length (upto marker lines) ≤ length lines
upto_short marker [] = omega arith
upto_short marker (line ∷ lines) = shorter (bytes_eq line marker) line (upto marker lines) lines (upto_short marker lines)

abbrev number_or : ℕ → Result (List Step) ℕ → ℕ
number_or d (Ok log) = d
number_or d (Err n) = n

ok_err : {A : Type 0} (log : List Step) (n : ℕ) → ◌≡◌ {A = Result (List Step) ℕ} (Ok log) (Err n) → A
ok_err log n e = absurd (cc)

rest_bad : (ss : List Step) (r : Result (List Step) ℕ) (n : ℕ) → onto_log ss r ≡ Err n → r ≡ Err n
rest_bad ss (Ok log) n e = ok_err (ss ++ log) n e
rest_bad ss (Err m) n e = e

line_bad : (o : Option (List Step)) (k size n : ℕ) (r : Result (List Step) ℕ) → (r ≡ Err n → n < k + 1 + size)
    → if_some o (Err k) (λ ss. onto_log ss r) ≡ Err n → n < k + suc size
line_bad None k size n r h e = let same : k ≡ n = ap (number_or k) e in omega (arith, same)
line_bad (Some ss) k size n r h e = let l = h (rest_bad ss r n e) in omega (arith, l)

-- the line of a fault is one of the lines
pub bad_line : (k : ℕ) (lines : List (List ℕ)) (n : ℕ) → log_from k lines ≡ Err n → n < k + length lines
bad_line k [] n e = ok_err [] n e
bad_line k (l ∷ ls) n e = line_bad (steps_of_line l) k (length ls) n (log_from (k + 1) ls) (λ f. bad_line (k + 1) ls n f) e

abbrev line_or : ℕ → Result (List Step) TextFault → ℕ
line_or d (Ok log) = d
line_or d (Err (Bad n)) = n
line_or d (Err NoMemory) = d

as_bad : (r : Result (List Step) ℕ) (n : ℕ) → as_fault r ≡ Err (Bad n) → r ≡ Err n
as_bad (Ok log) n e = absurd (cc)
as_bad (Err m) n e = ap Err (ap (line_or m) e)

pub bad_text : (xs : List ℕ) (n : ℕ) → as_fault (log_from 1 (text_lines xs)) ≡ Err (Bad n) → n ≤ length (text_lines xs)
bad_text xs n e = let l = bad_line 1 (text_lines xs) n (as_bad (log_from 1 (text_lines xs)) n e) in omega (arith, l)

-- the lines up to a marker, the marker, and the lines behind it up to another marker are no more than the text has, and one
pub lines_room : (m m' text front behind : List ℕ) (lines : ℕ) → lines ≡ suc (length (upto m (text_lines text))) → text_lines behind ≡ past m (text_lines text)
    → text_lines front ≡ upto m' (text_lines behind) → lines + length (text_lines front) ≤ suc (length text)
lines_room m m' text front behind lines e f g =
    let both = both_parts m (text_lines text) in
    let few = few_lines text in
    let some = upto_short m' (text_lines behind) in
    let here = ap length g in
    let there = ap length f in
    omega (arith, e, both, few, some, here, there)
