-- The gate behind the directives: attributes are dropped, and what is kept is judged and counted.
use Rattle.std.specs.Prelude.{◌≡◌, ℕ, nat_le, Bool, true, false, ◌&&◌, if◌then◌else◌, Option, Some, None, Result, Ok, Err, List, [], ◌∷◌, ◌++◌, map, length}
use Rattle.vl_tree.specs.declared.tokens.TokenKind.{TokenKind}
use Rattle.vl_tree.specs.declared.tokens.TokenKind.TheVariants as k
use Rattle.vl_tree.specs.declared.faults.Code.{Code}
use Rattle.vl_tree.specs.declared.faults.Code.TheVariants as code
use Rattle.vl_tree.specs.declared.faults.Place.TheVariants as place
use Rattle.vl_tree.specs.declared.faults.Stop.TheVariants as stop
use Rattle.vl_tree.specs.declared.words.Word.{Word}
use Rattle.vl_tree.specs.declared.words.Word.TheVariants as w
use Rattle.vl_tree.specs.Words.{word, same_word}
use Rattle.vl_lex.specs.declared.gate.Mode.{Mode}
use Rattle.vl_lex.specs.declared.gate.Mode.TheVariants as m
use Rattle.vl_lex.specs.declared.gate.Gate.{Gate}
use Rattle.vl_lex.specs.declared.gate.Halt.{Halt}
use Rattle.vl_lex.specs.declared.gate.Halt.TheVariants as h
use Rattle.vl_lex.specs.Lexed.{Seen, view}
use Rattle.vl_lex.specs.Numbers.{is_bad_number}

-- what was kept, and the tokens that wait, for they may be an attribute
pub record SGate : Type 0 where
  pub kept : List Seen
  pub waiting : List Seen
  pub mode : Mode

abbrev pub gate_view : Gate → SGate
gate_view g = record { kept = map view g.kept; waiting = map view g.waiting; mode = g.mode }

-- a state, or why the walk ends
abbrev pub Reached : Type 0 → Type 0
Reached S = Result S Halt

abbrev pub and_then : {A B : Type 0} → Reached A → (A → Reached B) → Reached B
and_then (Ok a) f = f a
and_then (Err e) f = Err e

-- The walk ends for this reason; memory may fail anywhere.
abbrev pub Ends : {S : Type 0} → Halt → Reached S → Type 0
Ends (h.Stop (stop.Fault f)) reached = reached ≡ Err (h.Stop (stop.Fault f))
Ends (h.Stop (stop.Limit c)) reached = reached ≡ Err (h.Stop (stop.Limit c))
Ends (h.Stop stop.NoMemory) reached = Unit {0}
Ends (h.Need n) reached = reached ≡ Err (h.Need n)

-- What a call that changes a state gives: the state that is reached, or the reason for which the walk ends, unless memory fails.
abbrev pub Gives : {X S : Type 0} → Result X Halt → S → Reached S → Type 0
Gives (Ok x) new reached = reached ≡ Ok new
Gives (Err e) new reached = Ends e reached

-- no file is asked for
abbrev pub IsStop : Halt → Type 0
IsStop (h.Stop s) = Unit {0}
IsStop (h.Need n) = ⊥

abbrev pub fault_at : Code → ℕ → ℕ → Halt
fault_at c file line = h.Stop (stop.Fault (record { code = c; place = place.Line file line }))

abbrev pub is_number : TokenKind → Bool
is_number k.Number = true
is_number _ = false

-- the fault of a kept token
unfoldable pub flaw_of : Seen → Option Code
flaw_of t = if is_number t.kind && is_bad_number t.text then Some code.BadNumber else (if same_word (word t.kind t.text) w.LeftOut then Some code.LeftOut else None)

-- the most tokens that are kept
abbrev pub most_tokens : ℕ
most_tokens = 4194304

abbrev pub kept_if : Option Code → SGate → Seen → Reached SGate
kept_if (Some c) g t = Err (fault_at c t.span.file t.span.line)
kept_if None g t = if nat_le most_tokens (length g.kept) then Err (h.Stop (stop.Limit code.Tokens)) else Ok (record { kept = g.kept ++ t ∷ []; waiting = g.waiting; mode = g.mode })

-- a token is kept: its own fault first, then the count
unfoldable pub kept_one : SGate → Seen → Reached SGate
kept_one g t = kept_if (flaw_of t) g t

abbrev pub kept_all : List Seen → SGate → Reached SGate
kept_all [] g = Ok g
kept_all (t ∷ ts) g = and_then (kept_one g t) (kept_all ts)

abbrev pub nothing_waits : SGate → SGate
nothing_waits g = record { kept = g.kept; waiting = []; mode = m.Plain }

-- the tokens that wait are kept after all
unfoldable pub flushed : SGate → Reached SGate
flushed g = kept_all g.waiting (nothing_waits g)

abbrev pub waits : SGate → Seen → Mode → SGate
waits g t mode = record { kept = g.kept; waiting = g.waiting ++ t ∷ []; mode = mode }

-- a token where no attribute is open
unfoldable pub fed_plain : SGate → Seen → Reached SGate
fed_plain g t = if same_word (word t.kind t.text) w.LeftParen then Ok (waits g t m.Open) else kept_one g t

-- behind `(` `*` inside an attribute: the mode behind one token more
abbrev pub inside : Word → Mode
inside x = if same_word x w.Star then m.Closing else m.Inside

-- `(` and `*` begin an attribute where no `)` follows, and the first `*` with `)` behind it ends it
unfoldable pub fed : SGate → Seen → Mode → Reached SGate
fed g t m.Plain = fed_plain g t
fed g t m.Open = if same_word (word t.kind t.text) w.Star then Ok (waits g t m.Starred) else and_then (flushed g) (λ n. fed_plain n t)
fed g t m.Starred = if same_word (word t.kind t.text) w.RightParen then and_then (flushed g) (λ n. kept_one n t) else Ok (waits g t (inside (word t.kind t.text)))
fed g t m.Inside = Ok (waits g t (inside (word t.kind t.text)))
fed g t m.Closing = if same_word (word t.kind t.text) w.RightParen then Ok (nothing_waits g) else Ok (waits g t (inside (word t.kind t.text)))

abbrev pub reason_of : Reached SGate → Halt → Halt
reason_of (Ok n) reason = reason
reason_of (Err e) reason = e

-- Where the walk ends for a reason of its own, what waits is kept first, and a fault there comes before.
unfoldable pub halt_reason : SGate → Halt → Halt
halt_reason g reason = reason_of (flushed g) reason

abbrev pub halted : {S : Type 0} → SGate → Halt → Reached S
halted g reason = Err (halt_reason g reason)

-- this reason, unless memory fails
abbrev pub IsReason : Halt → Halt → Type 0
IsReason (h.Stop (stop.Fault f)) reason = reason ≡ h.Stop (stop.Fault f)
IsReason (h.Stop (stop.Limit c)) reason = reason ≡ h.Stop (stop.Limit c)
IsReason (h.Stop stop.NoMemory) reason = Unit {0}
IsReason (h.Need n) reason = reason ≡ h.Need n
