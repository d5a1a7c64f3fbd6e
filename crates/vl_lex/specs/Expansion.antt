-- The expansion of macros with no bound on how deep they nest (IEEE 1364-2005, section 19.3), and the bound of the definition.
use Rattle.std.specs.Prelude.{◌≡◌, ◌-◌, ◌≤◌, ◌^◌, ◌⊎◌, Bool, true, false, Some, None, Ok, Err, List, [], ◌∷◌, length}
use Rattle.vl_lex.specs.Bytes.{Text}
use Rattle.vl_lex.specs.Lexed.{Seen}
use Rattle.vl_lex.specs.Gate.{SGate, Reached, fed, halt_reason}
use Rattle.vl_lex.specs.Macros.{Table, updated, directive_name, is_directive, body_of, expansion_fault, marked}
use Rattle.vl_lex.specs.Walk.{SState}
use Rattle.vl_lex.specs.declared.gate.Halt.{Halt}

-- What the tokens of a body make of a gate: a token goes through as it stands, and the name of a macro stands for its body, in which that macro is not defined.
pub data Expands : Bool → Table → List Seen → SGate → Reached SGate → Type 0 where
  body_ends : {implicit : Bool} {table : Table} {g : SGate} → Expands implicit table [] g (Ok g)
  goes_on : {implicit : Bool} {table : Table} {t : Seen} {ts : List Seen} {g n : SGate} {reached : Reached SGate}
      → is_directive t.kind ≡ false → fed g (marked implicit t) g.mode ≡ Ok n → Expands implicit table ts n reached → Expands implicit table (t ∷ ts) g reached
  is_halted : {implicit : Bool} {table : Table} {t : Seen} {ts : List Seen} {g : SGate} {e : Halt}
      → is_directive t.kind ≡ false → fed g (marked implicit t) g.mode ≡ Err e → Expands implicit table (t ∷ ts) g (Err e)
  body_goes : {implicit : Bool} {table : Table} {t : Seen} {ts body : List Seen} {g n : SGate} {reached : Reached SGate}
      → is_directive t.kind ≡ true → body_of table t ≡ Some body → Expands implicit (updated table (directive_name t) None) body g (Ok n) → Expands implicit table ts n reached
      → Expands implicit table (t ∷ ts) g reached
  body_halts : {implicit : Bool} {table : Table} {t : Seen} {ts body : List Seen} {g : SGate} {e : Halt}
      → is_directive t.kind ≡ true → body_of table t ≡ Some body → Expands implicit (updated table (directive_name t) None) body g (Err e) → Expands implicit table (t ∷ ts) g (Err e)
  no_macro : {implicit : Bool} {table : Table} {t : Seen} {ts : List Seen} {g : SGate}
      → is_directive t.kind ≡ true → body_of table t ≡ None → Expands implicit table (t ∷ ts) g (Err (halt_reason g (expansion_fault t)))

abbrev pub Member : Text → List Text → Type 0
Member q [] = ⊥
Member q (n ∷ ns) = (q ≡ n) ⊎ Member q ns

-- each macro that is defined has one of these names
abbrev pub Covers : Table → List Text → Type 0
Covers table names = (q : Text) (body : List Seen) → table q ≡ Some body → Member q names

-- The bound that a state carries is no less than the number of its macros, or as large as a number of 64 bits can be.
abbrev pub IsBounded : SState → Type 0
IsBounded s = ((names : List Text) × Covers s.table names × (length names ≤ s.defined)) ⊎ (2 ^ 64 - 1 ≤ s.defined)
