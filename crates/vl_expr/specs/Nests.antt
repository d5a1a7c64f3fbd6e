-- A function value that reads expressions to a depth.
use Rattle.std.specs.Prelude.{ℕ, List, Result}
use Rattle.std.specs.declared.alloc.Global.{Global}
use denote.Ref.{Bor}
use Rattle.vl_tree.specs.declared.tokens.Token.{Token}
use Rattle.vl_tree.specs.declared.expressions.Expr.{Expr}
use Rattle.vl_expr.specs.declared.errors.ReadError.{ReadError}
use Rattle.vl_grammar.specs.Read.{expr}
use Rattle.vl_expr.specs.Gives.{Gives}

pub record Nests (depth : ℕ) (pre : Global → Bor (List Token) → ℕ → ℕ → Type 0)
    (post : Global → Bor (List Token) → ℕ → ℕ → Result (Expr × Bor (List Token)) ReadError → Type 0) : Type 0 where
  pub callable : (alloc : Global) (tokens : Bor (List Token)) (least : ℕ) → pre alloc tokens depth least
  pub reads : (alloc : Global) (tokens : Bor (List Token)) (least : ℕ) (r : Result (Expr × Bor (List Token)) ReadError) → post alloc tokens depth least r
      → Gives (λ x. (x.0, x.1.now)) r (expr depth least tokens.now)
