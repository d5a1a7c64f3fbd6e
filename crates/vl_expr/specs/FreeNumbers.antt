-- Numbers with bits that are left free, by `z` or `?` (IEEE 1364-2005, 3.5.1), in an expression and among tokens.
use Rattle.std.specs.Prelude.{◌≡◌, Bool, false, ◌||◌, List, map}
use Rattle.std.specs.List.{list_any}
use Rattle.vl_tree.specs.Words.{word_of, same_word}
use Rattle.vl_tree.specs.declared.tokens.Token.{Token}
use Rattle.vl_tree.specs.declared.words.Word.TheVariants as word
use Rattle.vl_tree.specs.declared.expressions.Expr.{Expr, fold-Expr}
use Rattle.vl_tree.specs.declared.expressions.Expr.TheOpen.{Expr-F, Select-F}
use Rattle.vl_tree.specs.declared.expressions.Select.{Select, fold-Select}
use Rattle.vl_grammar.specs.Read.{Tokens}
use Rattle.vl_grammar.specs.Spells.{Whole, Listed, Selected}

abbrev pub is_free_number : Token → Bool
is_free_number t = same_word (word_of t) word.FreeNumber

-- whether some token is a number with free bits
abbrev pub is_some_free : List Token → Bool
is_some_free ts = list_any is_free_number ts

abbrev pub is_some : List Bool → Bool
is_some bs = list_any (λ b. b) bs

abbrev pub free_layer : Expr-F Bool Bool → Bool
free_layer (Expr-F.Number t) = is_free_number t
free_layer (Expr-F.Name t ps) = is_some ps
free_layer (Expr-F.Call t xs) = is_some xs
free_layer (Expr-F.System t a) = a
free_layer (Expr-F.Concat xs) = is_some xs
free_layer (Expr-F.Repeat c xs) = c || is_some xs
free_layer (Expr-F.Group a) = a
free_layer (Expr-F.Unary t a) = a
free_layer (Expr-F.Binary t a b) = a || b
free_layer (Expr-F.Choice c a b) = c || (a || b)

abbrev pub free_select_layer : Select-F Bool Bool → Bool
free_select_layer (Select-F.Index a) = a
free_select_layer (Select-F.Range a b) = a || b
free_select_layer (Select-F.Up a b) = a || b
free_select_layer (Select-F.Down a b) = a || b

-- whether some number of the expression has free bits
unfoldable pub has_free_number : Expr → Bool
has_free_number = fold-Expr Bool Bool free_layer free_select_layer

unfoldable pub select_has_free_number : Select → Bool
select_has_free_number = fold-Select Bool Bool free_layer free_select_layer

-- an expression in which no number has free bits
abbrev pub HasNoFreeNumber : Expr → Type 0
HasNoFreeNumber t = has_free_number t ≡ false

-- Of the tokens before a rest some is a number with free bits just where the expression that they spell has one.
abbrev pub FreeNumbersAreTokens : Type 0
FreeNumbersAreTokens = (t : Expr) (ts rest : Tokens) → Whole t ts rest → is_some_free ts ≡ (has_free_number t || is_some_free rest)

abbrev pub FreeNumbersOfLists : Type 0
FreeNumbersOfLists = (xs : List Expr) (ts rest : Tokens) → Listed xs ts rest → is_some_free ts ≡ (is_some (map has_free_number xs) || is_some_free rest)

abbrev pub FreeNumbersOfSelects : Type 0
FreeNumbersOfSelects = (x : Select) (ts rest : Tokens) → Selected x ts rest → is_some_free ts ≡ (select_has_free_number x || is_some_free rest)
