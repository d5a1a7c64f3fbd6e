-- Under the same numbers a tree is itself; so over lengths that agree on the signals that an item names, it is formed alike, weighs the same, and is the same core item.
use Rattle.std.proofs.Common.{◌≡◌, ℕ, List, refl, sym, ◌∙◌, ap, ap₂, Some, None}
use Rattle.design_core.specs.declared.tree.DBase.{DBase}
use Rattle.design_core.specs.declared.tree.DBase.TheVariants as base
use Rattle.design_core.specs.declared.tree.DExpr.{DExpr}
use Rattle.design_core.specs.declared.tree.DNode.{DNode, out-DNode, roll-DNode}
use Rattle.design_core.specs.declared.tree.DLeft.{DLeft, out-DLeft, roll-DLeft}
use Rattle.design_core.specs.declared.tree.DLeft.TheOpen.{DLeft-F, DNode-F, DStmt-F}
use Rattle.design_core.specs.declared.tree.DStmt.{DStmt, out-DStmt, roll-DStmt}
use Rattle.design_core.specs.declared.tree.DArm.{DArm, out-DArm, roll-DArm, roll-out-DArm}
use Rattle.design_core.specs.declared.tree.DFunction.{DFunction}
use Rattle.design_core.specs.declared.tree.DMatch.{DMatch, out-DMatch, roll-DMatch, roll-out-DMatch}
use Rattle.design_core.specs.Core.{Base, signal, local, Term, constant, span, own, app1, app2, app3, call, Args, stop, pass, Left, nowhere, both, slice, slice_at, Stmt, skip, seq, write, choose}
use Rattle.design_core.specs.Renamed.{moved_base, renamed, renamed_args, renamed_left, renamed_stmt}
use Rattle.design_core.specs.Renumbered.{renumbered_base, renumbered_expr, renumbered_left, renumbered_stmt, renumbered_arm, renumbered_function, renumbered_match}
use Rattle.design_core.proofs.RenumberedLaws as r
use Rattle.design_core.proofs.TreeInduction.{NodeLayer, LeftLayer, StmtLayer, NodeParts, LeftParts, StmtParts, Steps, same_items, node_is, left_is, stmt_is, of_expr, of_left, of_stmt}
use Rattle.design_laws.proofs.AgainLaws.{node_again, left_again, stmt_again, node_rolled, left_rolled, stmt_rolled}

abbrev same : ℕ → ℕ
same s = s

abbrev E : DExpr → Type 0
E e = renumbered_expr same e ≡ e

abbrev L : DLeft → Type 0
L l = renumbered_left same l ≡ l

abbrev S : DStmt → Type 0
S s = renumbered_stmt same s ≡ s

abbrev A : DArm → Type 0
A a = renumbered_arm same a ≡ a

abbrev F : DFunction → Type 0
F g = renumbered_function same g ≡ g

abbrev M : DMatch → Type 0
M x = renumbered_match same x ≡ x

same_base : (b : DBase) → renumbered_base same b ≡ b
same_base (base.Signal s) = refl
same_base (base.Local k) = refl

node_itself : (x : NodeLayer) → NodeParts E L S A F M x → node_again same x ≡ x
node_itself (DNode-F.Const bits) h = refl
node_itself (DNode-F.Signal s) h = refl
node_itself (DNode-F.Local k) h = refl
node_itself (DNode-F.Select a low) h = ap (λ (y : DExpr). let z : NodeLayer = DNode-F.Select y low in z) h
node_itself (DNode-F.SelectAt a index offset down) h = ap₂ (λ (y z : DExpr). let w : NodeLayer = DNode-F.SelectAt y z offset down in w) h.0 h.1
node_itself (DNode-F.Unary op a) h = ap (λ (y : DExpr). let z : NodeLayer = DNode-F.Unary op y in z) h
node_itself (DNode-F.Binary op a b) h = ap₂ (λ (y z : DExpr). let w : NodeLayer = DNode-F.Binary op y z in w) h.0 h.1
node_itself (DNode-F.Mux c a b) h =
    ap (λ (y : DExpr). let w : NodeLayer = DNode-F.Mux y (renumbered_expr same a) (renumbered_expr same b) in w) h.0 ∙ ap₂ (λ (y z : DExpr). let w : NodeLayer = DNode-F.Mux c y z in w) h.1.0 h.1.1
node_itself (DNode-F.Extend a by_sign) h = ap (λ (y : DExpr). let z : NodeLayer = DNode-F.Extend y by_sign in z) h
node_itself (DNode-F.«DNode::Concat» parts) h = ap (λ (ys : List DExpr). let z : NodeLayer = DNode-F.«DNode::Concat» ys in z) (same_items (renumbered_expr same) parts h)
node_itself (DNode-F.Repeat count part) h = ap (λ (y : DExpr). let z : NodeLayer = DNode-F.Repeat count y in z) h
node_itself (DNode-F.Call function arguments) h =
    ap₂ (λ (y : DFunction) (ys : List DExpr). let z : NodeLayer = DNode-F.Call y ys in z) h.0 (same_items (renumbered_expr same) arguments h.1)

left_itself : (x : LeftLayer) → LeftParts E L S A F M x → left_again same x ≡ x
left_itself (DLeft-F.Whole b n) h = ap (λ (y : DBase). let z : LeftLayer = DLeft-F.Whole y n in z) (same_base b)
left_itself (DLeft-F.Part b low n) h = ap (λ (y : DBase). let z : LeftLayer = DLeft-F.Part y low n in z) (same_base b)
left_itself (DLeft-F.At b index offset down n) h = ap₂ (λ (y : DBase) (i : DExpr). let z : LeftLayer = DLeft-F.At y i offset down n in z) (same_base b) h
left_itself (DLeft-F.«DLeft::Concat» parts) h = ap (λ (ys : List DLeft). let z : LeftLayer = DLeft-F.«DLeft::Concat» ys in z) (same_items (renumbered_left same) parts h)

stmt_itself : (x : StmtLayer) → StmtParts E L S A F M x → stmt_again same x ≡ x
stmt_itself (DStmt-F.Block parts) h = ap (λ (ys : List DStmt). let z : StmtLayer = DStmt-F.Block ys in z) (same_items (renumbered_stmt same) parts h)
stmt_itself (DStmt-F.Write l e blocking) h = ap₂ (λ (y : DLeft) (z : DExpr). let w : StmtLayer = DStmt-F.Write y z blocking in w) h.0 h.1
stmt_itself (DStmt-F.If test a b) h =
    ap (λ (y : DExpr). let w : StmtLayer = DStmt-F.If y (renumbered_stmt same a) (renumbered_stmt same b) in w) h.0 ∙ ap₂ (λ (y z : DStmt). let w : StmtLayer = DStmt-F.If test y z in w) h.1.0 h.1.1
stmt_itself (DStmt-F.Case selector arms None) h =
    ap₂ (λ (y : DExpr) (ys : List DArm). let w : StmtLayer = DStmt-F.Case y ys None in w) h.0 (same_items (renumbered_arm same) arms h.1.0)
stmt_itself (DStmt-F.Case selector arms (Some rest)) h =
    ap₂ (λ (y : DExpr) (ys : List DArm). let w : StmtLayer = DStmt-F.Case y ys (Some (renumbered_stmt same rest)) in w) h.0 (same_items (renumbered_arm same) arms h.1.0)
    ∙ ap (λ (y : DStmt). let w : StmtLayer = DStmt-F.Case selector arms (Some y) in w) h.1.1
stmt_itself (DStmt-F.Turns parts) h = ap (λ (ys : List DStmt). let z : StmtLayer = DStmt-F.Turns ys in z) (same_items (renumbered_stmt same) parts h)

expr_itself : (e : DExpr) (x : NodeLayer) → out-DNode e.node ≡ x → NodeParts E L S A F M x → E e
expr_itself e x is h =
    r.expr_out same e ∙ ap (λ (n : DNode). let y : DExpr = record { length = e.length; signed = e.signed; node = n } in y)
    (r.node_out same e.node x is ∙ node_rolled same x ∙ ap roll-DNode (node_itself x h) ∙ sym (node_is e.node x is))

steps : Steps E L S A F M
steps = record {
  expr = λ e h. expr_itself e (out-DNode e.node) refl h;
  left = λ l h. r.left_out same l (out-DLeft l) refl ∙ left_rolled same (out-DLeft l) ∙ ap roll-DLeft (left_itself (out-DLeft l) h) ∙ sym (left_is l (out-DLeft l) refl);
  stmt = λ s h. r.stmt_out same s (out-DStmt s) refl ∙ stmt_rolled same (out-DStmt s) ∙ ap roll-DStmt (stmt_itself (out-DStmt s) h) ∙ sym (stmt_is s (out-DStmt s) refl);
  arm = λ a h g. r.arm_out same a
      ∙ ap₂ (λ (xs : List DMatch) (y : DStmt). roll-DArm (record { matches = xs; body = y })) (same_items (renumbered_match same) (out-DArm a).matches h) g ∙ roll-out-DArm a;
  function = λ g h. r.function_out same g
      ∙ ap (λ (y : DStmt). let k : DFunction = record { length = g.length; signed = g.signed; inputs = g.inputs; locals = g.locals; body = y } in k) h;
  match = λ x h. r.match_out same x ∙ ap (λ (y : DExpr). roll-DMatch (record { value = y; free = (out-DMatch x).free })) h ∙ roll-out-DMatch x;
}

pub expr_same : (e : DExpr) → renumbered_expr (λ s. s) e ≡ e
expr_same e = of_expr E L S A F M steps e

pub left_same : (l : DLeft) → renumbered_left (λ s. s) l ≡ l
left_same l = of_left E L S A F M steps l

pub stmt_same : (s : DStmt) → renumbered_stmt (λ s. s) s ≡ s
stmt_same s = of_stmt E L S A F M steps s

base_kept : (b : Base) → moved_base same b ≡ b
base_kept (signal s) = refl
base_kept (local k) = refl

mutual
  pub renamed_same : (e : Term) → renamed (λ s. s) e ≡ e
  renamed_same (constant v) = refl
  renamed_same (span s m low n) = refl
  renamed_same (own k) = refl
  renamed_same (app1 g a) = ap (app1 g) (renamed_same a)
  renamed_same (app2 g a b) = ap₂ (app2 g) (renamed_same a) (renamed_same b)
  renamed_same (app3 g c a b) = ap (λ x. app3 g x (renamed same a) (renamed same b)) (renamed_same c) ∙ ap₂ (app3 g c) (renamed_same a) (renamed_same b)
  renamed_same (call as' body n inputs locals) = ap₂ (λ x y. call x y n inputs locals) (renamed_args_same as') (renamed_stmt_same body)

  pub renamed_args_same : (as' : Args) → renamed_args (λ s. s) as' ≡ as'
  renamed_args_same stop = refl
  renamed_args_same (pass e as') = ap₂ pass (renamed_same e) (renamed_args_same as')

  pub renamed_left_same : (l : Left) → renamed_left (λ s. s) l ≡ l
  renamed_left_same nowhere = refl
  renamed_left_same (both x y) = ap₂ both (renamed_left_same x) (renamed_left_same y)
  renamed_left_same (slice b m low n) = ap (λ c. slice c m low n) (base_kept b)
  renamed_left_same (slice_at b m g e n) = ap₂ (λ c x. slice_at c m g x n) (base_kept b) (renamed_same e)

  pub renamed_stmt_same : (s : Stmt) → renamed_stmt (λ s. s) s ≡ s
  renamed_stmt_same skip = refl
  renamed_stmt_same (seq x y) = ap₂ seq (renamed_stmt_same x) (renamed_stmt_same y)
  renamed_stmt_same (write l e blocking) = ap₂ (λ x y. write x y blocking) (renamed_left_same l) (renamed_same e)
  renamed_stmt_same (choose c x y) = ap (λ t. choose t (renamed_stmt same x) (renamed_stmt same y)) (renamed_same c) ∙ ap₂ (choose c) (renamed_stmt_same x) (renamed_stmt_same y)
