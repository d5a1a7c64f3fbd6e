-- The piece of a source that stands at the front of some bytes: white space, a comment, or the longest token that fits there (IEEE 1364-2005, section 3).
use Rattle.std.specs.Prelude.{ℕ, zero, suc, ◌+◌, ◌-◌, ◌<◌, ◌≤◌, ◌==◌, Bool, false, ◌||◌, ◌&&◌, not, if◌then◌else◌, Option, Some, None, [], ◌∷◌, drop}
use Rattle.std.specs.List.{prefix_len}
use Rattle.vl_tree.specs.declared.tokens.TokenKind.TheVariants as k
use Rattle.vl_lex.specs.declared.pieces.Piece.{Piece}
use Rattle.vl_lex.specs.declared.pieces.Piece.TheVariants as p
use Rattle.vl_lex.specs.Bytes.{Text, first, other_than_newline, is_space, is_digit, is_letter, is_name, is_decimal, is_based, is_graphic, is_sign, is_base}

-- the length of a backslash and the newline that it joins, from the bytes behind the backslash; 0 where it joins none
abbrev pub joined_len : Text → ℕ
joined_len bs = if first bs == 10 then 2 else (if first bs == 13 && first (drop 1 bs) == 10 then 3 else 0)

-- how many bytes of white space stand in front, at one place: a byte of white space, or a joined newline; 0 where there is none
abbrev pub blank_len : Text → ℕ
blank_len [] = 0
blank_len (b ∷ bs) = if is_space b then 1 else (if b == 92 then joined_len bs else 0)

-- how many bytes of white space stand in front in all; the first number counts the bytes that are left of the blank before
unfoldable pub blanks : ℕ → Text → ℕ
blanks left [] = 0
blanks (suc left) (b ∷ bs) = suc (blanks left bs)
blanks zero (b ∷ bs) = if blank_len (b ∷ bs) == 0 then 0 else suc (blanks (blank_len (b ∷ bs) - 1) bs)

-- the end of a comment: behind the first `*/`; `star` says whether the byte before is a `*`
abbrev pub comment_end : ℕ → Bool → Text → Option ℕ
comment_end n star [] = None
comment_end n star (b ∷ bs) = if star && (b == 47) then Some (n + 1) else comment_end (n + 1) (b == 42) bs

-- the end of a string: behind the next `"` that no backslash guards, on the same line
abbrev pub quote_end : ℕ → Bool → Text → Option ℕ
quote_end n guarded [] = None
quote_end n guarded (b ∷ bs) =
    if b == 10 then None else (
    if not guarded && (b == 34) then Some (n + 1) else
    quote_end (n + 1) (not guarded && (b == 92)) bs)

-- the digits behind a base, with the white space before them; 0 where there are none
unfoldable pub digits_len : Text → ℕ
digits_len bs = if prefix_len is_based (drop (blanks 0 bs) bs) == 0 then 0 else blanks 0 bs + prefix_len is_based (drop (blanks 0 bs) bs)

-- `'`, a base and the digits; 0 where they do not stand in front
unfoldable pub base_len : Text → ℕ
base_len bs =
    if first bs == 39 then (
    if is_base (first (drop 1 bs)) then 2 + digits_len (drop 2 bs) else (
    if is_sign (first (drop 1 bs)) && is_base (first (drop 2 bs)) then 3 + digits_len (drop 3 bs) else 0))
    else 0

-- a number that begins with a digit
unfoldable pub number_len : Text → ℕ
number_len bs =
    if base_len (drop (prefix_len is_decimal bs + blanks 0 (drop (prefix_len is_decimal bs) bs)) bs) == 0 then prefix_len is_decimal bs
    else prefix_len is_decimal bs + blanks 0 (drop (prefix_len is_decimal bs) bs) + base_len (drop (prefix_len is_decimal bs + blanks 0 (drop (prefix_len is_decimal bs) bs)) bs)

-- operators of two bytes
abbrev pub is_pair : ℕ → ℕ → Bool
is_pair b c =
    if b == 60 then (c == 60 || c == 61) else (
    if b == 62 then (c == 62 || c == 61) else (
    if b == 61 then c == 61 else (
    if b == 33 then c == 61 else (
    if b == 38 then c == 38 else (
    if b == 124 then c == 124 else (
    if b == 42 then c == 42 else (
    if b == 126 then (c == 38 || c == 124 || c == 94) else (
    if b == 94 then c == 126 else (
    if b == 43 then c == 58 else (
    if b == 45 then c == 58 else
    false))))))))))

-- operators of three bytes
abbrev pub is_triple : ℕ → ℕ → ℕ → Bool
is_triple b c d =
    if b == 60 then (c == 60 && d == 60) else (
    if b == 62 then (c == 62 && d == 62) else (
    if b == 61 then (c == 61 && d == 61) else (
    if b == 33 then (c == 61 && d == 61) else
    false)))

-- an operator, or a byte that is a token by itself
unfoldable pub operator_piece : ℕ → Text → Piece
operator_piece b bs =
    if is_triple b (first bs) (first (drop 1 bs)) then p.Token k.Operator 3 else (
    if is_pair b (first bs) then p.Token k.Operator 2 else (
    if is_graphic b then p.Token k.Single 1 else p.Bad))

abbrev pub closed_space : Option ℕ → Piece
closed_space (Some n) = p.Space (2 + n)
closed_space None = p.Unclosed

-- behind a `/`
unfoldable pub slash_piece : Text → Piece
slash_piece bs =
    if first bs == 47 then p.Space (1 + prefix_len other_than_newline bs) else (
    if first bs == 42 then closed_space (comment_end 0 false (drop 1 bs)) else p.Token k.Single 1)

abbrev pub closed_quote : Option ℕ → Piece
closed_quote (Some n) = p.Token k.Quoted (1 + n)
closed_quote None = p.Unclosed

-- behind a `"`
unfoldable pub quote_piece : Text → Piece
quote_piece bs = closed_quote (quote_end 0 false bs)

-- a backslash begins a joined newline or an escaped name
unfoldable pub backslash_piece : Text → Piece
backslash_piece bs =
    if not (joined_len bs == 0) then p.Join (joined_len bs) else (
    if prefix_len is_graphic bs == 0 then p.Bad else p.Token k.Escaped (1 + prefix_len is_graphic bs))

-- behind a `$`
unfoldable pub dollar_piece : Text → Piece
dollar_piece bs = if prefix_len is_name bs == 0 then p.Token k.Single 1 else p.Token k.System (1 + prefix_len is_name bs)

-- behind a backquote
unfoldable pub directive_piece : Text → Piece
directive_piece bs = if is_letter (first bs) then p.Token k.Directive (1 + prefix_len is_name bs) else p.Bad

-- from a `'` on
unfoldable pub tick_piece : Text → Piece
tick_piece bs = if base_len bs == 0 then p.Token k.Single 1 else p.Token k.Number (base_len bs)

-- what a byte begins that no other rule takes first
unfoldable pub mark_piece : ℕ → Text → Piece
mark_piece b bs =
    if b == 47 then slash_piece bs else (
    if b == 92 then backslash_piece bs else (
    if b == 34 then quote_piece bs else (
    if b == 36 then dollar_piece bs else (
    if b == 96 then directive_piece bs else (
    if b == 39 then tick_piece (b ∷ bs) else
    operator_piece b bs)))))

unfoldable pub piece : Text → Piece
piece [] = p.Bad
piece (b ∷ bs) =
    if is_space b then p.Space 1 else (
    if is_letter b then p.Token k.Name (1 + prefix_len is_name bs) else (
    if is_digit b then p.Token k.Number (number_len (b ∷ bs)) else
    mark_piece b bs))

-- A piece ends within the bytes and takes one at least.
abbrev pub IsWithin : Piece → ℕ → Type 0
IsWithin (p.Space n) most = (0 < n) × (n ≤ most)
IsWithin (p.Join n) most = (0 < n) × (n ≤ most)
IsWithin (p.Token k n) most = (0 < n) × (n ≤ most)
IsWithin p.Bad most = Unit {0}
IsWithin p.Unclosed most = Unit {0}
