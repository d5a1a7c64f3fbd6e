-- What a function that reads a part of the grammar ensures.
use Rattle.std.specs.Prelude.{◌≡◌, Some, None, Result, Ok, Err}
use Rattle.vl_expr.specs.declared.errors.ReadError.{ReadError}
use Rattle.vl_expr.specs.declared.errors.ReadError.TheVariants.{NoMemory, Refused}
use Rattle.vl_grammar.specs.Read.{Tokens, Outcome}

-- the outcome of the grammar's reader, unless memory fails
abbrev pub Gives : {X A : Type 0} → (X → A × Tokens) → Result X ReadError → Outcome A → Type 0
Gives view (Ok x) outcome = outcome ≡ Some (view x)
Gives view (Err NoMemory) outcome = Unit {0}
Gives view (Err Refused) outcome = outcome ≡ None

-- this value and these tokens behind it, unless memory fails
abbrev pub IsGiven : {X A : Type 0} → (X → A × Tokens) → A → Tokens → Result X ReadError → Type 0
IsGiven view value rest (Ok x) = view x ≡ (value, rest)
IsGiven view value rest (Err NoMemory) = Unit {0}
IsGiven view value rest (Err Refused) = ⊥
