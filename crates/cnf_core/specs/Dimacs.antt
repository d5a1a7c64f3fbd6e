-- DIMACS texts: `p cnf V C`, then C clauses, each ended by 0.
use Rattle.std.specs.Prelude.{◌≡◌, ℕ, ◌+◌, ◌-◌, ◌^◌, ℤ, pos, negsuc, zero, suc, cond, eqb, List, [], ◌∷◌, ◌++◌, Option, Some, None, Result, Ok, Err, codes}
use Rattle.std.specs.Str.{bytes_eq}
use Rattle.cnf_core.specs.declared.formula.Formula.{Formula}
use Rattle.cnf_core.specs.declared.fault.TextFault.{TextFault}
use Rattle.cnf_core.specs.declared.fault.TextFault.TheVariants.{Bad, NoMemory}
use Rattle.cnf_core.specs.declared.dimacs.Reading.{Reading}
use Rattle.cnf_core.specs.declared.dimacs.Stage.{Stage}
use Rattle.cnf_core.specs.declared.dimacs.Stage.TheVariants.{Problem, Format, Variables, Count, Clauses}
use Rattle.cnf_core.specs.Text.{Word, text_lines, text_words, last_line}
use Rattle.cnf_core.specs.Numbers.{number_below, integer_below}

abbrev pub if_some : {A B : Type 0} → Option A → B → (A → B) → B
if_some None e f = e
if_some (Some x) e f = f x

-- whether the next word is a number
abbrev pub IsCounted : Stage → Type 0
IsCounted Problem = ⊥
IsCounted Format = ⊥
IsCounted Variables = Unit {0}
IsCounted Count = Unit {0}
IsCounted Clauses = Unit {0}

-- before the first word
abbrev pub start : Reading
start = record { stage = Problem; variables = 0; left = 0; clauses = []; clause = [] }

-- one more literal, or the end of a clause
abbrev pub with_literal : Reading → ℤ → Reading
with_literal r (pos zero) = record r { left = r.left - 1; clauses = r.clauses ++ r.clause ∷ []; clause = [] }
with_literal r (pos (suc n)) = record r { clause = r.clause ++ pos (suc n) ∷ [] }
with_literal r (negsuc n) = record r { clause = r.clause ++ negsuc n ∷ [] }

-- after one more word, where it fits
abbrev pub stepped_at : Stage → Reading → List ℕ → Option Reading
stepped_at Problem r w = cond (bytes_eq w (codes "p")) (Some (record r { stage = Format })) None
stepped_at Format r w = cond (bytes_eq w (codes "cnf")) (Some (record r { stage = Variables })) None
stepped_at Variables r w = if_some (number_below (2 ^ 30) w) None (λ v. Some (record r { stage = Count; variables = v }))
stepped_at Count r w = if_some (number_below (2 ^ 30) w) None (λ c. Some (record r { stage = Clauses; left = c }))
stepped_at Clauses r w = cond (eqb r.left 0) None (if_some (integer_below (r.variables + 1) w) None (λ z. Some (with_literal r z)))

abbrev pub stepped : Reading → List ℕ → Option Reading
stepped r w = stepped_at r.stage r w

-- a formula, or the line of the first word that does not fit; no line where words are missing
abbrev pub Read : Type 0
Read = Result Formula (Option ℕ)

abbrev pub finished_at : Stage → Reading → Read
finished_at Problem r = Err None
finished_at Format r = Err None
finished_at Variables r = Err None
finished_at Count r = Err None
finished_at Clauses r = cond (eqb r.left 0) (Ok (record { variables = r.variables; clauses = r.clauses })) (Err None)

abbrev pub read_words : Reading → List Word → Read
read_words r [] = finished_at r.stage r
read_words r (w ∷ ws) = if_some (stepped r w.bytes) (Err (Some w.line)) (λ next. read_words next ws)

-- missing words are a fault of the last line
abbrev pub at_line : ℕ → Read → Result Formula TextFault
at_line n (Ok f) = Ok f
at_line n (Err None) = Err (Bad n)
at_line n (Err (Some k)) = Err (Bad k)

-- what a text says
abbrev pub dimacs_of : List ℕ → Result Formula TextFault
dimacs_of text = at_line (last_line (text_lines text)) (read_words start (text_words text))

-- what was read is what the text says, unless memory was wanting
abbrev pub Reads : {T : Type 0} → Result T TextFault → Result T TextFault → Type 0
Reads (Ok x) said = said ≡ Ok x
Reads (Err (Bad n)) said = said ≡ Err (Bad n)
Reads (Err NoMemory) said = Unit {0}
