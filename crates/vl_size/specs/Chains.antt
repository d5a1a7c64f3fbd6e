-- An expression as a chain: its first operand, and the operators that join others to it from the left.
use Rattle.std.specs.Prelude.{◌≡◌, ℕ, suc, max, List, [], ◌∷◌}
use Rattle.vl_tree.specs.declared.tokens.Token.{Token}
use Rattle.vl_tree.specs.declared.expressions.Expr.{Expr, size-Expr}
use Rattle.vl_tree.specs.declared.expressions.Expr.TheVariants as e
use Rattle.vl_size.specs.declared.operators.BinaryOperator.{BinaryOperator}
use Rattle.vl_size.specs.declared.chain.Link.{Link}
use Rattle.vl_size.specs.Terms.{Term, term, binary}

-- the chain of a first operand and of links, the last operator first
abbrev pub chained : Term → List Link → Term
chained t [] = t
chained t (l ∷ ls) = binary l.op (chained t ls) (term l.right.now)

abbrev pub IsNoBinary : Expr → Type 0
IsNoBinary x = (op : Token) (l r : Expr) → x ≡ e.Binary op l r → ⊥

-- a bound above the depth of each right operand
abbrev pub depth : List Link → ℕ
depth [] = 0
depth (l ∷ ls) = max (suc (size-Expr l.right.now)) (depth ls)
