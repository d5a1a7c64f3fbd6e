-- Chains of operators, one more at a time.
use Rattle.std.proofs.Common.{◌≡◌, ℕ, suc, max, true, false, List, [], ◌∷◌, ◌++◌, refl, ap, sym, ◌∙◌, arith, Option, Some, None}
use Rattle.design_core.specs.declared.tree.DExpr.{DExpr}
use Rattle.vl_tree.specs.Words.{word_of}
use Rattle.vl_tree.specs.declared.tokens.Token.{Token}
use Rattle.vl_tree.specs.declared.expressions.Expr.{Expr, size-Expr, out-Expr}
use Rattle.vl_tree.specs.declared.expressions.Expr.TheOpen.{Expr-F}
use Rattle.vl_tree.specs.declared.expressions.Select.{Select}
use Rattle.vl_tree.specs.declared.expressions.Expr.TheVariants as e
use Rattle.vl_size.specs.declared.constant.Const.{Const}
use Rattle.vl_size.specs.declared.operators.BinaryOperator.{BinaryOperator}
use Rattle.vl_size.specs.declared.tree.Size.{Size}
use Rattle.vl_size.specs.declared.tree.Sizing.{Sizing}
use Rattle.vl_size.specs.Operators.{binary_operator}
use Rattle.vl_size.specs.Owns.{Found, and_then}
use Rattle.vl_size.specs.Terms.{Term, term, binary}
use Rattle.vl_size.proofs.TermLaws.{term-Binary}
use Rattle.vl_const.specs.Streams.{inside, behind, part_context}
use Rattle.vl_elab_trees.specs.declared.nodes.Form.{Form}
use Rattle.vl_elab_trees.specs.declared.steps.Step.{Step}
use Rattle.vl_elab_trees.specs.Built.{built, by_form, constant_in}
use Rattle.vl_elab_trees.specs.Nodes.{form_of, operated}
use Rattle.vl_elab_trees.specs.Scopes.{Meaning}
use Rattle.vl_elab_trees.specs.Steps.{built_steps, right_built, depth, IsOperand}

pub steps_more : (m : Meaning) (r : Found DExpr) (os : List Step) (o : Step) → built_steps m r (os ++ o ∷ []) ≡ built_steps m (and_then (operated o.form o.context) r (right_built m o)) os
steps_more m r [] o = refl
steps_more m r (p ∷ os) o = ap (λ q. and_then (operated p.form p.context) q (right_built m p)) (steps_more m r os o)

pub depth_more : (os : List Step) (o : Step) → depth (os ++ o ∷ []) ≡ max (depth os) (suc (size-Expr o.right.now))
depth_more [] o = omega arith
depth_more (p ∷ os) o = let h = depth_more os o in omega (arith, h)

-- an operator that stays one, by its own definition
pub opened : (m : Meaning) (cs : List Const) (o : Step) (op : BinaryOperator) (t a : Term) (inner : List Sizing) (outer : Size) → t ≡ binary op a (term o.right.now) → form_of op ≡ Some o.form
    → inner ≡ inside o.sizings.now → outer ≡ part_context o.sizings.now o.context true inner
    → and_then (operated o.form o.context) (built m a inner outer cs) (right_built m o) ≡ built m t o.sizings.now o.context cs
opened m cs o op t a inner outer e1 f e2 e3 =
    ap (λ z. and_then (operated o.form o.context) (built m a inner z cs) (right_built m o)) (e3 ∙ ap (part_context o.sizings.now o.context true) e2)
    ∙ ap (λ z. and_then (operated o.form o.context) (built m a z (part_context o.sizings.now o.context true (inside o.sizings.now)) cs) (right_built m o)) e2
    ∙ ap (λ g. by_form g o.context (constant_in m (binary op a (term o.right.now)) o.sizings.now o.context cs)
    (built m a (inside o.sizings.now) (part_context o.sizings.now o.context true (inside o.sizings.now)) cs) (right_built m o)) (sym f)
    ∙ ap (λ u. built m u o.sizings.now o.context cs) (sym e1)

-- the next operator of a chain
pub step_made : (m : Meaning) (f : Found DExpr) (o : Step) (made right : DExpr) (cs : List Const) (inner second : List Sizing) (x : Size)
    → inner ≡ inside o.sizings.now → second ≡ behind inner → x ≡ part_context o.sizings.now o.context false second
    → (right, cs) ≡ built m (term o.right.now) second x f.1 → made ≡ operated o.form o.context f.0 right → (made, cs) ≡ and_then (operated o.form o.context) f (right_built m o)
step_made m f o made right cs inner second x e1 e2 e3 e4 e5 =
    let s : second ≡ behind (inside o.sizings.now) = e2 ∙ ap behind e1 in
    let y : x ≡ part_context o.sizings.now o.context false (behind (inside o.sizings.now)) = e3 ∙ ap (part_context o.sizings.now o.context false) s in
    let r : (right, cs) ≡ right_built m o f.1 =
    e4 ∙ ap (λ z. built m (term o.right.now) second z f.1) y ∙ ap (λ z. built m (term o.right.now) z (part_context o.sizings.now o.context false (behind (inside o.sizings.now))) f.1) s in
    let one : (made, cs) ≡ (operated o.form o.context f.0 right, cs) = ap (λ a. (a, cs)) e5 in
    let two : (operated o.form o.context f.0 right, cs) ≡ (operated o.form o.context f.0 (right_built m o f.1).0, (right_built m o f.1).1) =
    ap (λ (q : Found DExpr). (operated o.form o.context f.0 q.0, q.1)) r in
    one ∙ two

same_token : (op other : Token) (l r a b : Expr) → ◌≡◌ {A = Expr-F Expr Select} (Expr-F.Binary op l r) (Expr-F.Binary other a b) → op ≡ other
same_token op other l r a b e = cc

-- an operator that does not stay one
pub no_form : (x : Expr) (op : Token) (l r : Expr) → x ≡ e.Binary op l r → form_of (binary_operator (word_of op)) ≡ None → IsOperand x
no_form x op l r is none other a b is_other =
    let same = same_token op other l r a b (sym (e.outs-Binary op l r) ∙ ap out-Expr (sym is ∙ is_other) ∙ e.outs-Binary other a b) in
    sym (ap (λ o. form_of (binary_operator (word_of o))) same) ∙ none

-- an operator on constants is one itself
pub folded : (m : Meaning) (op : Token) (l r x : Expr) (ss : List Sizing) (y : Size) (cs : List Const) → x ≡ e.Binary op l r → form_of (binary_operator (word_of op)) ≡ None
    → constant_in m (term x) ss y cs ≡ built m (term x) ss y cs
folded m op l r x ss y cs is none =
    let t : term x ≡ binary (binary_operator (word_of op)) (term l) (term r) = ap term is ∙ term-Binary op l r in
    let u = binary (binary_operator (word_of op)) (term l) (term r) in
    ap (λ z. constant_in m z ss y cs) t
    ∙ ap (λ g. by_form g y (constant_in m u ss y cs) (built m (term l) (inside ss) (part_context ss y true (inside ss)) cs) (built m (term r) (behind (inside ss)) (part_context ss y false (behind (inside ss)))))
    (sym none)
    ∙ ap (λ z. built m z ss y cs) (sym t)
