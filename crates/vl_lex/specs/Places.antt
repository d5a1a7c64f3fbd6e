-- Where tokens stand: each is a slice of its file, and those of a file are in order.
use Rattle.std.specs.Prelude.{◌≡◌, ℕ, ◌+◌, ◌-◌, ◌<◌, ◌≤◌, List, [], ◌∷◌, drop, take, map, length}
use Rattle.bits_core.specs.declared.names.File.{File}
use Rattle.vl_lex.specs.Bytes.{Text}
use Rattle.vl_lex.specs.Lexed.{Seen, Placed, newlines}
use Rattle.vl_lex.specs.Walk.{bytes_of}

-- A token is the slice of some bytes that its span says, and the line is that of its first byte, counted from 1.
pub record IsSliceOf (bytes : Text) (t : Seen) : Type 0 where
  pub there : t.span.start < t.span.end
  pub within : t.span.end ≤ length bytes
  pub text : t.text ≡ take (t.span.end - t.span.start) (drop t.span.start bytes)
  pub line : t.span.line ≡ 1 + newlines (take t.span.start bytes)

abbrev pub Each : (Seen → Type 0) → List Seen → Type 0
Each P [] = Unit {0}
Each P (t ∷ ts) = P t × Each P ts

-- Each token of a file is a slice of it.
abbrev pub AreSlices : ℕ → Text → List Seen → Type 0
AreSlices file bytes ts = Each (λ t. (t.span.file ≡ file) × IsSliceOf bytes t) ts

-- Each token is a slice of the file that its span names.
abbrev pub AreSlicesOf : List File → List Seen → Type 0
AreSlicesOf files ts = Each (λ t. IsSliceOf (bytes_of t.span.file files) t) ts

-- Each token begins where the one before ends, or later; the first at a place or later.
abbrev pub InOrder : ℕ → List Seen → Type 0
InOrder from [] = Unit {0}
InOrder from (t ∷ ts) = (from ≤ t.span.start) × InOrder t.span.end ts

abbrev pub tokens_of : List Placed → List Seen
tokens_of ts = map (λ t. t.token) ts
