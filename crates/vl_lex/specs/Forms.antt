-- The texts that are white space, comments and tokens (IEEE 1364-2005, section 3), and a file as these one after the other.
use Rattle.std.specs.Prelude.{◌≡◌, ℕ, ◌<◌, ◌≤◌, ◌==◌, Bool, true, false, ◌&&◌, not, if◌then◌else◌, ◌⊎◌, List, [], ◌∷◌, ◌++◌, length, codes}
use Rattle.std.specs.Str.{bytes_eq}
use Rattle.std.specs.List.{list_all, list_any}
use Rattle.vl_tree.specs.declared.tokens.TokenKind.{TokenKind}
use Rattle.vl_tree.specs.declared.tokens.TokenKind.TheVariants as k
use Rattle.vl_lex.specs.declared.lexer.Cursor.{Cursor}
use Rattle.vl_lex.specs.Bytes.{Text, other_than_newline, is_space, is_digit, is_letter, is_name, is_decimal, is_based, is_graphic, is_sign, is_base}
use Rattle.vl_lex.specs.Lexed.{Lexed, nothing, flawed, with_tokens, past_space, past_join, past_token, token_here, bad_byte, unclosed}

-- a byte of one kind, then any number of another
abbrev pub begins : (ℕ → Bool) → (ℕ → Bool) → Text → Bool
begins p q [] = false
begins p q (b ∷ bs) = p b && list_all q bs

-- one byte or more, all of one kind
abbrev pub is_run : (ℕ → Bool) → Text → Bool
is_run p text = begins p p text

-- a mark, and behind it a text of a form
abbrev pub marked : ℕ → (Text → Bool) → Text → Bool
marked mark form [] = false
marked mark form (b ∷ bs) = (b == mark) && form bs

-- one byte of a kind
abbrev pub is_one : (ℕ → Bool) → Text → Bool
is_one p (b ∷ []) = p b
is_one p _ = false

-- a backslash at the end of a line, however the line ends
abbrev pub is_join : Text → Bool
is_join (a ∷ b ∷ []) = a == 92 && b == 10
is_join (a ∷ b ∷ c ∷ []) = a == 92 && (b == 13 && c == 10)
is_join _ = false

-- `//` and what stands behind it on the line
abbrev pub is_line_comment : Text → Bool
is_line_comment (a ∷ b ∷ bs) = a == 47 && (b == 47 && list_all other_than_newline bs)
is_line_comment _ = false

-- no `*/` stands in a text, where `star` says whether a `*` stands before it
abbrev pub never_closes : Bool → Text → Bool
never_closes star [] = true
never_closes star (b ∷ bs) = not (star && (b == 47)) && never_closes (b == 42) bs

-- `/*` up to the first `*/` behind it
abbrev pub IsBlockComment : Text → Type 0
IsBlockComment text = (inner : Text) × (text ≡ 47 ∷ 42 ∷ (inner ++ 42 ∷ 47 ∷ [])) × (never_closes false (inner ++ 42 ∷ []) ≡ true)

-- what may stand between the quotes of a string: no newline, no `"` but behind a `\`, which guards the byte behind it
abbrev pub is_quotable : Bool → Text → Bool
is_quotable guarded [] = not guarded
is_quotable guarded (b ∷ bs) = not (b == 10) && (if guarded then is_quotable false bs else (not (b == 34) && is_quotable (b == 92) bs))

abbrev pub IsString : Text → Type 0
IsString text = (inner : Text) × (text ≡ 34 ∷ (inner ++ 34 ∷ [])) × (is_quotable false inner ≡ true)

-- any number of bytes of white space and joined newlines
pub data IsBlank : Text → Type 0 where
  blank_none : IsBlank []
  blank_space : {b : ℕ} {bs : Text} → is_space b ≡ true → IsBlank bs → IsBlank (b ∷ bs)
  blank_join : {bs : Text} → IsBlank bs → IsBlank (92 ∷ 10 ∷ bs)
  blank_return : {bs : Text} → IsBlank bs → IsBlank (92 ∷ 13 ∷ 10 ∷ bs)

-- digits, with `_` between or behind them
abbrev pub is_decimal_number : Text → Bool
is_decimal_number text = begins is_digit is_decimal text

-- `'`, an `s` where the number is signed, and a base
abbrev pub is_base_mark : Text → Bool
is_base_mark (a ∷ b ∷ []) = a == 39 && is_base b
is_base_mark (a ∷ b ∷ c ∷ []) = a == 39 && (is_sign b && is_base c)
is_base_mark _ = false

-- nothing, or a size and white space behind it
abbrev pub IsSize : Text → Text → Type 0
IsSize size blank = (is_decimal_number size ≡ true) ⊎ ((size ≡ []) × (blank ≡ []))

-- digits with white space before them, or nothing: then the number is one without digits, which is a fault where it is kept
abbrev pub IsValue : Text → Text → Type 0
IsValue blank digits = (is_run is_based digits ≡ true) ⊎ ((blank ≡ []) × (digits ≡ []))

-- a size or none, the base, and digits or none, with white space before the base and before the digits
pub record IsBasedNumber (text : Text) : Type 0 where
  pub size : Text
  pub before : Text
  pub mark : Text
  pub behind : Text
  pub digits : Text
  pub whole : text ≡ size ++ (before ++ (mark ++ (behind ++ digits)))
  pub sized : IsSize size before
  pub blank_before : IsBlank before
  pub based : is_base_mark mark ≡ true
  pub blank_behind : IsBlank behind
  pub valued : IsValue behind digits

-- the operators of two and three bytes
abbrev pub operators : List Text
operators =
    codes "<<<" ∷
    codes ">>>" ∷
    codes "===" ∷
    codes "!==" ∷
    codes "<<" ∷
    codes ">>" ∷
    codes "<=" ∷
    codes ">=" ∷
    codes "==" ∷
    codes "!=" ∷
    codes "&&" ∷
    codes "||" ∷
    codes "**" ∷
    codes "~&" ∷
    codes "~|" ∷
    codes "~^" ∷
    codes "^~" ∷
    codes "+:" ∷
    codes "-:" ∷
    []

unfoldable pub is_operator : Text → Bool
is_operator text = list_any (bytes_eq text) operators

-- a printed byte that begins no name, number or string, and is no `\` and no backquote
abbrev pub is_mark : ℕ → Bool
is_mark b = is_graphic b && (not (is_letter b) && (not (is_digit b) && (not (b == 34) && (not (b == 92) && not (b == 96)))))

-- a text is a token of a kind
abbrev pub IsToken : TokenKind → Text → Type 0
IsToken k.Name text = begins is_letter is_name text ≡ true
IsToken k.Escaped text = marked 92 (is_run is_graphic) text ≡ true
IsToken k.System text = marked 36 (is_run is_name) text ≡ true
IsToken k.Directive text = marked 96 (begins is_letter is_name) text ≡ true
IsToken k.Number text = (is_decimal_number text ≡ true) ⊎ IsBasedNumber text
IsToken k.Quoted text = IsString text
IsToken k.Operator text = is_operator text ≡ true
IsToken k.Single text = is_one is_mark text ≡ true

-- white space that may end a line, or a comment
abbrev pub IsSpace : Text → Type 0
IsSpace text = (is_one is_space text ≡ true) ⊎ ((is_line_comment text ≡ true) ⊎ IsBlockComment text)

-- white space, a comment or a token
pub data Fits : Text → Type 0 where
  fits_space : {text : Text} → IsSpace text → Fits text
  fits_join : {text : Text} → is_join text ≡ true → Fits text
  fits_token : {text : Text} (kind : TokenKind) → IsToken kind text → Fits text

-- what fits at the front of a text is never longer than this
abbrev pub Longest : Text → Text → Type 0
Longest text piece = (front rest : Text) → text ≡ front ++ rest → Fits front → length front ≤ length piece

-- nothing fits at the front
abbrev pub NothingFits : Text → Type 0
NothingFits text = (front rest : Text) → text ≡ front ++ rest → Fits front → ⊥

-- a comment or a string begins, and ends nowhere
abbrev pub NeverEnds : Text → Type 0
NeverEnds text =
    ((behind : Text) × (text ≡ 47 ∷ 42 ∷ behind) × ((front rest : Text) → text ≡ front ++ rest → IsBlockComment front → ⊥))
    ⊎ ((behind : Text) × (text ≡ 34 ∷ behind) × ((front rest : Text) → text ≡ front ++ rest → IsString front → ⊥))

-- a piece is taken at the front of a text
abbrev pub Taken : Text → Text → Type 0
Taken text piece = Longest text piece × (NeverEnds text → ⊥)

-- The bytes of a file from a place on are white space, comments and tokens one after the other, each the longest that fits,
-- up to the end or to the first place where nothing fits, or where a comment or string does not end.
pub data Cut : ℕ → Cursor → Text → Lexed → Type 0 where
  cut_end : {file : ℕ} {here : Cursor} → Cut file here [] nothing
  cut_space : {file : ℕ} {here : Cursor} {l : Lexed} (piece rest : Text) → IsSpace piece → Taken (piece ++ rest) piece
      → Cut file (past_space here piece) rest l → Cut file here (piece ++ rest) l
  cut_join : {file : ℕ} {here : Cursor} {l : Lexed} (piece rest : Text) → is_join piece ≡ true → Taken (piece ++ rest) piece
      → Cut file (past_join here piece) rest l → Cut file here (piece ++ rest) l
  cut_token : {file : ℕ} {here : Cursor} {l : Lexed} (kind : TokenKind) (piece rest : Text) → IsToken kind piece → Taken (piece ++ rest) piece
      → Cut file (past_token here piece) rest l → Cut file here (piece ++ rest) (with_tokens (token_here file here kind piece ∷ []) l)
  cut_bad : {file : ℕ} {here : Cursor} {text : Text} → 0 < length text → NothingFits text → (NeverEnds text → ⊥) → Cut file here text (flawed (bad_byte file here))
  cut_unclosed : {file : ℕ} {here : Cursor} {text : Text} → NeverEnds text → Cut file here text (flawed (unclosed file here))
