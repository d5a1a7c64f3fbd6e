-- The longest expression at a place in a list of tokens.
use Rattle.std.specs.Prelude.{◌≡◌, ℕ, ◌-◌, ◌≤◌, [], length, take, drop}
use Rattle.vl_tree.specs.declared.expressions.Expr.{Expr}
use Rattle.vl_grammar.specs.Read.{Tokens}
use Rattle.vl_grammar.specs.Spells.{Whole}

-- the tree spells the tokens from a place to before another
pub record Stands (t : Expr) (ts : Tokens) (at end : ℕ) : Type 0 where
  pub order : at ≤ end
  pub within : end ≤ length ts
  pub spells : Whole t (take (end - at) (drop at ts)) []

pub record IsLongest (t : Expr) (ts : Tokens) (at end : ℕ) : Type 0 where
  pub stands : Stands t ts at end
  pub longest : (u : Expr) (n : ℕ) → Stands u ts at n → n ≤ end
  pub only : (u : Expr) → Stands u ts at end → u ≡ t

-- no expression begins at the place
abbrev pub NoneBegins : Tokens → ℕ → Type 0
NoneBegins ts at = (t : Expr) (n : ℕ) → Stands t ts at n → ⊥
