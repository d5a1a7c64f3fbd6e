-- The DIMACS text that is written for a formula.
use Rattle.std.specs.Prelude.{ℕ, ◌+◌, ◌^◌, ◌<◌, List, [], ◌∷◌, ◌++◌, length, codes}
use Rattle.std.specs.Fmt.{decimal, signed_decimal}
use Rattle.cnf_core.specs.declared.lit.Lit.{Lit}
use Rattle.cnf_core.specs.declared.formula.Formula.{Formula}
use Rattle.cnf_core.specs.Numbers.{AllFit}

-- the literals, each with a blank behind it, and 0, on a line
abbrev pub clause_text : List Lit → List ℕ
clause_text [] = 48 ∷ 10 ∷ []
clause_text (l ∷ ls) = signed_decimal l ++ 32 ∷ clause_text ls

abbrev pub clauses_text : List (List Lit) → List ℕ
clauses_text [] = []
clauses_text (c ∷ cs) = clause_text c ++ clauses_text cs

abbrev pub dimacs_text : Formula → List ℕ
dimacs_text f = codes "p cnf " ++ decimal f.variables ++ 32 ∷ decimal (length f.clauses) ++ 10 ∷ clauses_text f.clauses

-- clauses of the variables 1 to n alone
abbrev pub AllInText : ℕ → List (List Lit) → Type 0
AllInText n [] = Unit {0}
AllInText n (c ∷ cs) = AllFit (n + 1) c × AllInText n cs

-- a formula that a text can hold
pub record IsInText (f : Formula) : Type 0 where
  pub variables : f.variables < 2 ^ 30
  pub clauses : length f.clauses < 2 ^ 30
  pub literals : AllInText f.variables f.clauses
