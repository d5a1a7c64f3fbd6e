-- An expression as its first operand and the operators that are joined to it from the left, each in its context.
use Rattle.std.specs.Prelude.{◌≡◌, ℕ, suc, max, true, false, List, [], ◌∷◌, Option, Some, None}
use Rattle.vl_tree.specs.Words.{word_of}
use Rattle.vl_tree.specs.declared.tokens.Token.{Token}
use Rattle.vl_tree.specs.declared.expressions.Expr.{Expr, size-Expr}
use Rattle.vl_tree.specs.declared.expressions.Expr.TheVariants as e
use Rattle.design_core.specs.declared.tree.DExpr.{DExpr}
use Rattle.vl_size.specs.declared.constant.Const.{Const}
use Rattle.vl_size.specs.declared.tree.Size.{Size}
use Rattle.vl_size.specs.declared.tree.Sizing.{Sizing}
use Rattle.vl_size.specs.Operators.{binary_operator}
use Rattle.vl_size.specs.Owns.{Found, and_then}
use Rattle.vl_size.specs.Terms.{Term, term}
use Rattle.vl_const.specs.Streams.{inside, behind, part_context}
use Rattle.vl_elab_trees.specs.declared.nodes.Form.{Form}
use Rattle.vl_elab_trees.specs.declared.steps.Step.{Step}
use Rattle.vl_elab_trees.specs.declared.steps.Steps.{Steps}
use Rattle.vl_elab_trees.specs.Built.{built}
use Rattle.vl_elab_trees.specs.Nodes.{form_of, operated}
use Rattle.vl_elab_trees.specs.Scopes.{Meaning}

-- no operator between operands that stays one in a design
abbrev pub IsOperand : Expr → Type 0
IsOperand x = (op : Token) (l r : Expr) → x ≡ e.Binary op l r → form_of (binary_operator (word_of op)) ≡ None

abbrev pub right_built : Meaning → Step → List Const → Found DExpr
right_built m o cs = built m (term o.right.now) (behind (inside o.sizings.now)) (part_context o.sizings.now o.context false (behind (inside o.sizings.now))) cs

-- what some operators make, the last one first, where the left operand of the first of them is found
abbrev pub built_steps : Meaning → Found DExpr → List Step → Found DExpr
built_steps m r [] = r
built_steps m r (o ∷ os) = and_then (operated o.form o.context) (built_steps m r os) (right_built m o)

abbrev pub MeansAs : Steps → Term → List Sizing → Size → Type 0
MeansAs o t ss x = (m : Meaning) (cs : List Const) → built_steps m (built m (term o.first.now) o.sizings.now o.context cs) o.steps.items ≡ built m t ss x cs

-- a bound above the depth of each right operand
abbrev pub depth : List Step → ℕ
depth [] = 0
depth (o ∷ os) = max (suc (size-Expr o.right.now)) (depth os)
