-- The name that a token gives.
use Rattle.std.specs.Prelude.{ℕ, List, drop}
use Rattle.vl_tree.specs.declared.tokens.TokenKind.{TokenKind}
use Rattle.vl_tree.specs.declared.tokens.TokenKind.TheVariants as k

-- the bytes of the token, without the backslash of an escaped name
abbrev pub name_of : TokenKind → List ℕ → List ℕ
name_of k.Escaped text = drop 1 text
name_of _ text = text
