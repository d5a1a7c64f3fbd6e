-- Expressions as plain data: the operators in place of their tokens, and no place in memory.
use Rattle.std.specs.Prelude.{ℕ, List, [], ◌∷◌}
use Rattle.vl_tree.specs.Names.{name_of}
use Rattle.vl_tree.specs.Words.{word_of}
use Rattle.vl_tree.specs.declared.tokens.Token.{Token}
use Rattle.vl_tree.specs.declared.expressions.Expr.{Expr, fold-Expr}
use Rattle.vl_tree.specs.declared.expressions.Expr.TheOpen.{Expr-F, Select-F}
use Rattle.vl_tree.specs.declared.expressions.Select.{Select, fold-Select}
use Rattle.vl_size.specs.declared.operators.UnaryOperator.{UnaryOperator}
use Rattle.vl_size.specs.declared.operators.BinaryOperator.{BinaryOperator}
use Rattle.vl_size.specs.declared.operators.SystemFunction.{SystemFunction}
use Rattle.vl_size.specs.Operators.{unary_operator, binary_operator, system_function}

mutual
  -- a number has its token's text; a name has no backslash
  pub data Term : Type 0 where
    number : List ℕ → Term
    name : List ℕ → Picks → Term
    call : List ℕ → Terms → Term
    system : SystemFunction → Term → Term
    concat : Terms → Term
    repeat : Term → Terms → Term
    group : Term → Term
    unary : UnaryOperator → Term → Term
    binary : BinaryOperator → Term → Term → Term
    choice : Term → Term → Term → Term

  pub data Terms : Type 0 where
    none : Terms
    more : Term → Terms → Terms

  pub data Pick : Type 0 where
    index : Term → Pick
    range : Term → Term → Pick
    up : Term → Term → Pick
    down : Term → Term → Pick

  pub data Picks : Type 0 where
    whole : Picks
    pick : Pick → Picks → Picks

abbrev pub terms : List Term → Terms
terms [] = none
terms (t ∷ ts) = more t (terms ts)

abbrev pub picks : List Pick → Picks
picks [] = whole
picks (p ∷ ps) = pick p (picks ps)

abbrev pub name_at : Token → List ℕ
name_at t = name_of t.kind t.text.now

abbrev pub term_layer : Expr-F Term Pick → Term
term_layer (Expr-F.Number t) = number t.text.now
term_layer (Expr-F.Name t ps) = name (name_at t) (picks ps)
term_layer (Expr-F.Call t ts) = call (name_at t) (terms ts)
term_layer (Expr-F.System t a) = system (system_function t.text.now) a
term_layer (Expr-F.Concat ts) = concat (terms ts)
term_layer (Expr-F.Repeat c ts) = repeat c (terms ts)
term_layer (Expr-F.Group a) = group a
term_layer (Expr-F.Unary t a) = unary (unary_operator (word_of t)) a
term_layer (Expr-F.Binary t a b) = binary (binary_operator (word_of t)) a b
term_layer (Expr-F.Choice c a b) = choice c a b

abbrev pub pick_layer : Select-F Term Pick → Pick
pick_layer (Select-F.Index a) = index a
pick_layer (Select-F.Range a b) = range a b
pick_layer (Select-F.Up a b) = up a b
pick_layer (Select-F.Down a b) = down a b

unfoldable pub term : Expr → Term
term = fold-Expr Term Pick term_layer pick_layer

unfoldable pub pick_term : Select → Pick
pick_term = fold-Select Term Pick term_layer pick_layer
