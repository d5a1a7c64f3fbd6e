-- Attributes in a list of tokens: `(` and `*` up to the first `*` with `)` behind it (IEEE 1364-2005, section 3.8).
use Rattle.std.specs.Prelude.{◌≡◌, Bool, true, false, ◌&&◌, not, List, [], ◌∷◌, ◌++◌}
use Rattle.vl_tree.specs.declared.words.Word.{Word}
use Rattle.vl_tree.specs.declared.words.Word.TheVariants as w
use Rattle.vl_tree.specs.Words.{word, same_word}
use Rattle.vl_lex.specs.declared.gate.Mode.TheVariants as m
use Rattle.vl_lex.specs.Lexed.{Seen}
use Rattle.vl_lex.specs.Gate.{SGate, Reached, and_then, fed, flushed}

abbrev pub is_word : Word → Seen → Bool
is_word x t = same_word (word t.kind t.text) x

abbrev pub is_open : Seen → Bool
is_open t = is_word w.LeftParen t

abbrev pub is_star : Seen → Bool
is_star t = is_word w.Star t

abbrev pub is_close : Seen → Bool
is_close t = is_word w.RightParen t

abbrev pub begins_with_star : List Seen → Bool
begins_with_star [] = false
begins_with_star (t ∷ ts) = is_star t

-- no `*` with `)` behind it stands in these tokens, where `star` says whether a `*` stands before them
abbrev pub never_ends : Bool → List Seen → Bool
never_ends star [] = true
never_ends star (t ∷ ts) = not (star && is_close t) && never_ends (is_star t) ts

-- What is left of some tokens without their attributes.
pub data Leaves : List Seen → List Seen → Type 0 where
  leaves_none : Leaves [] []
  leaves_token : {t : Seen} {ts left : List Seen} → is_open t ≡ false → Leaves ts left → Leaves (t ∷ ts) (t ∷ left)
  leaves_bracket : {t : Seen} {ts left : List Seen} → is_open t ≡ true → begins_with_star ts ≡ false → Leaves ts left → Leaves (t ∷ ts) (t ∷ left)
  -- `(*)` is no attribute
  leaves_all_signals : {t s c : Seen} {ts left : List Seen} → is_open t ≡ true → is_star s ≡ true → is_close c ≡ true → Leaves ts left → Leaves (t ∷ s ∷ c ∷ ts) (t ∷ s ∷ c ∷ left)
  -- an attribute is dropped up to the first `*` and `)` behind its first two tokens
  drops_attribute : {t s : Seen} {ts left : List Seen} (inner : List Seen) (e c : Seen) → is_open t ≡ true → is_star s ≡ true → never_ends true (inner ++ e ∷ []) ≡ true → is_star e ≡ true → is_close c ≡ true
      → Leaves ts left → Leaves (t ∷ s ∷ (inner ++ e ∷ c ∷ ts)) left
  -- and stays where it does not end
  leaves_unended : {t s : Seen} {ts : List Seen} → is_open t ≡ true → is_star s ≡ true → never_ends true ts ≡ true → Leaves (t ∷ s ∷ ts) (t ∷ s ∷ ts)

-- what was kept so far, and no token waits
abbrev pub kept_so_far : List Seen → SGate
kept_so_far before = record { kept = before; waiting = []; mode = m.Plain }

-- some tokens one after the other, and the end
abbrev pub all_fed : List Seen → SGate → Reached SGate
all_fed [] g = flushed g
all_fed (t ∷ ts) g = and_then (fed g t g.mode) (all_fed ts)
