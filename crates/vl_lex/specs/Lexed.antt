-- The tokens of a file: its bytes are white space, comments and tokens, one piece after the other.
use Rattle.std.specs.Prelude.{◌≡◌, ℕ, zero, suc, ◌+◌, ◌-◌, ◌==◌, Bool, true, Option, Some, None, Result, Ok, Err, List, [], ◌∷◌, ◌++◌, take, map, length, count_by}
use Rattle.vl_tree.specs.declared.tokens.Token.{Token}
use Rattle.vl_tree.specs.declared.tokens.Span.{Span}
use Rattle.vl_tree.specs.declared.tokens.TokenKind.{TokenKind}
use Rattle.vl_tree.specs.declared.faults.Fault.{Fault}
use Rattle.vl_tree.specs.declared.faults.Code.TheVariants as code
use Rattle.vl_tree.specs.declared.faults.Place.TheVariants as place
use Rattle.vl_tree.specs.declared.faults.Stop.{Stop}
use Rattle.vl_tree.specs.declared.faults.Stop.TheVariants as stop
use Rattle.vl_lex.specs.declared.pieces.Piece.{Piece}
use Rattle.vl_lex.specs.declared.pieces.Piece.TheVariants as p
use Rattle.vl_lex.specs.declared.lexer.Lined.{Lined}
use Rattle.vl_lex.specs.declared.lexer.Cursor.{Cursor}
use Rattle.vl_lex.specs.Bytes.{Text, is_newline}
use Rattle.vl_lex.specs.Pieces.{piece}

-- a token without where its text lies in memory
pub record Seen : Type 0 where
  pub kind : TokenKind
  pub text : Text
  pub span : Span
  pub implicit : Bool

abbrev pub view : Token → Seen
view t = record { kind = t.kind; text = t.text.now; span = t.span; implicit = t.implicit }

-- a token and the row that it begins on: how many line ends that no backslash joins stand before it
pub record Placed : Type 0 where
  pub token : Seen
  pub row : ℕ

abbrev pub placed : Lined → Placed
placed t = record { token = view t.token; row = t.row }

-- the tokens up to the first byte that begins nothing, or comment or string that does not end, and that fault
pub record Lexed : Type 0 where
  pub tokens : List Placed
  pub flaw : Option Fault

abbrev pub nothing : Lexed
nothing = record { tokens = []; flaw = None }

abbrev pub flawed : Fault → Lexed
flawed f = record { tokens = []; flaw = Some f }

abbrev pub with_tokens : List Placed → Lexed → Lexed
with_tokens front l = record { tokens = front ++ l.tokens; flaw = l.flaw }

abbrev pub newlines : Text → ℕ
newlines text = count_by is_newline text

-- a number may have joined newlines in it, each with one backslash
abbrev pub line_ends : Text → ℕ
line_ends text = newlines text - count_by (λ b. b == 92) text

-- where a piece ends
abbrev pub past_space : Cursor → Text → Cursor
past_space here text = record { at = here.at + length text; line = here.line + newlines text; row = here.row + newlines text }

abbrev pub past_join : Cursor → Text → Cursor
past_join here text = record { at = here.at + length text; line = here.line + newlines text; row = here.row }

abbrev pub past_token : Cursor → Text → Cursor
past_token here text = record { at = here.at + length text; line = here.line + newlines text; row = here.row + line_ends text }

abbrev pub token_here : ℕ → Cursor → TokenKind → Text → Placed
token_here file here kind text =
    record { token = record { kind = kind; text = text; span = record { file = file; start = here.at; end = here.at + length text; line = here.line }; implicit = true }; row = here.row }

abbrev pub bad_byte : ℕ → Cursor → Fault
bad_byte file here = record { code = code.BadByte; place = place.Line file here.line }

abbrev pub unclosed : ℕ → Cursor → Fault
unclosed file here = record { code = code.Unclosed; place = place.Line file here.line }

-- a piece at a place, and what comes behind it
unfoldable pub turn : ℕ → Cursor → Text → Piece → (ℕ → Cursor → Lexed) → Lexed
turn file here text (p.Space n) next = next (n - 1) (past_space here (take n text))
turn file here text (p.Join n) next = next (n - 1) (past_join here (take n text))
turn file here text (p.Token kind n) next = with_tokens (token_here file here kind (take n text) ∷ []) (next (n - 1) (past_token here (take n text)))
turn file here text p.Bad next = flawed (bad_byte file here)
turn file here text p.Unclosed next = flawed (unclosed file here)

-- piece after piece; the second number counts the bytes that are left of the piece before, and the cursor stands behind it
unfoldable pub lexed : ℕ → ℕ → Cursor → Text → Lexed
lexed file left here [] = nothing
lexed file (suc left) here (b ∷ bs) = lexed file left here bs
lexed file zero here (b ∷ bs) = turn file here (b ∷ bs) (piece (b ∷ bs)) (λ left there. lexed file left there bs)

abbrev pub beginning : Cursor
beginning = record { at = 0; line = 1; row = 0 }

-- a file by itself
abbrev pub file_tokens : ℕ → Text → Lexed
file_tokens file text = lexed file 0 beginning text

-- what the lexer answers: the tokens where no fault stands, else the first fault
abbrev pub LexesRows : Result (List Lined) Stop → Lexed → Type 0
LexesRows (Ok tokens) l = (map placed tokens ≡ l.tokens) × (l.flaw ≡ None)
LexesRows (Err (stop.Fault f)) l = l.flaw ≡ Some f
LexesRows (Err (stop.Limit c)) l = ⊥
LexesRows (Err stop.NoMemory) l = Unit {0}

abbrev pub Lexes : Result (List Token) Stop → Lexed → Type 0
Lexes (Ok tokens) l = (map view tokens ≡ map (λ t. t.token) l.tokens) × (l.flaw ≡ None)
Lexes (Err (stop.Fault f)) l = l.flaw ≡ Some f
Lexes (Err (stop.Limit c)) l = ⊥
Lexes (Err stop.NoMemory) l = Unit {0}

-- these tokens, unless memory fails
abbrev pub IsBare : Result (List Token) Stop → List Token → Type 0
IsBare (Ok tokens) bare = tokens ≡ bare
IsBare (Err (stop.Fault f)) bare = ⊥
IsBare (Err (stop.Limit c)) bare = ⊥
IsBare (Err stop.NoMemory) bare = Unit {0}
