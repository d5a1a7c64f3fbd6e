-- What is left of an expansion: the macros whose bodies are open. Each is not defined inside its body, and is defined again behind it.
use Rattle.std.specs.Prelude.{◌≡◌, ℕ, zero, suc, ◌+◌, Bool, if◌then◌else◌, Option, Some, None, Result, Ok, Err, List, [], ◌∷◌, drop, map, reverse}
use Rattle.vl_lex.specs.declared.calls.Call.{Call}
use Rattle.vl_lex.specs.declared.gate.Halt.{Halt}
use Rattle.vl_lex.specs.Bytes.{Text}
use Rattle.vl_lex.specs.Lexed.{Seen, view}
use Rattle.vl_lex.specs.Gate.{SGate, Reached, and_then, Ends}
use Rattle.vl_lex.specs.Macros.{Table, updated, directive_name, is_directive, body_of, expanded}

-- a macro whose body is open: how many macros may still nest in it, its name, its body, and what of its body is still to be expanded
pub record SCall : Type 0 where
  pub levels : ℕ
  pub name : Text
  pub body : List Seen
  pub behind : List Seen

abbrev pub call_view : Call → SCall
call_view c = record { levels = c.levels; name = c.name.now; body = map view c.body; behind = map view (drop c.at c.body) }

-- the open macros, the innermost first
abbrev pub calls_view : List Call → List SCall
calls_view calls = reverse (map call_view calls)

-- the rests of the open bodies, the innermost first
abbrev pub unwound : Bool → Table → List SCall → SGate → Reached SGate
unwound implicit table [] g = Ok g
unwound implicit table (c ∷ cs) g = and_then (expanded c.levels table implicit c.behind g) (unwound implicit (updated table c.name (Some c.body)) cs)

-- the macros behind all of them
abbrev pub table_behind : Table → List SCall → Table
table_behind table [] = table
table_behind table (c ∷ cs) = table_behind (updated table c.name (Some c.body)) cs

abbrev pub sum_of : (Seen → ℕ) → List Seen → ℕ
sum_of f [] = 0
sum_of f (t ∷ ts) = f t + sum_of f ts

abbrev pub turns_called : (Table → List Seen → ℕ) → Table → Option (List Seen) → Seen → ℕ
turns_called inner table None t = 1
turns_called inner table (Some body) t = 2 + inner (updated table (directive_name t) None) body

-- how many turns a token of a body takes, its own and those of the body that it stands for
unfoldable pub turns_of : ℕ → Table → Seen → ℕ
turns_of zero table t = 1
turns_of (suc levels) table t = if is_directive t.kind then turns_called (λ inner body. sum_of (turns_of levels inner) body) table (body_of table t) t else 1

-- how many turns are left, one of each body to close it
abbrev pub turns_left : Table → List SCall → ℕ
turns_left table [] = 0
turns_left table (c ∷ cs) = 1 + sum_of (turns_of c.levels table) c.behind + turns_left (updated table c.name (Some c.body)) cs

-- A turn: what was left before it is left behind it, or the walk ends as it would.
abbrev pub Turns : {X : Type 0} → Result X Halt → Reached SGate → Reached SGate → Type 0
Turns (Ok x) behind before = behind ≡ before
Turns (Err e) behind before = Ends e before
