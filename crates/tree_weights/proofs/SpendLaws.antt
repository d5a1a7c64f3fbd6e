-- Chains get less deep, and what is told of what is left.
use Rattle.std.proofs.Common.{◌≡◌, ℕ, ◌<◌, Option, Some, None, ap, refl, sym, subst, ◌∙◌}
use Rattle.std.proofs.lemmas.Option.{none-some}
use Rattle.design_core.specs.declared.tree.DExpr.{DExpr, size-DExpr}
use Rattle.design_core.specs.declared.tree.DNode.{DNode, out-DNode, roll-DNode, roll-out-DNode}
use Rattle.design_core.specs.declared.tree.DNode.TheVariants as node
use Rattle.design_core.specs.declared.tree.DLeft.TheOpen.{DNode-F, DStmt-F}
use Rattle.design_core.specs.declared.tree.DStmt.{DStmt, out-DStmt, roll-DStmt, roll-out-DStmt, size-DStmt}
use Rattle.design_core.specs.declared.tree.DStmt.TheVariants as stmts
use Rattle.design_core.proofs.SizeLaws.{smaller_select, smaller_select_at, smaller_unary, smaller_binary, smaller_mux, smaller_extend, smaller_repeat, smaller_if, smaller_case}
use Rattle.tree_weights.specs.Spent.{IsSpent}
use Rattle.tree_weights.specs.Spines.{NodeLayer, StmtLayer, last, last_in, spine, spine_in}

rolled : (d : DNode) (x : NodeLayer) → out-DNode d ≡ x → d ≡ roll-DNode x
rolled d x is = sym (roll-out-DNode d) ∙ ap roll-DNode is

rolled_body : (s : DStmt) (x : StmtLayer) → out-DStmt s ≡ x → s ≡ roll-DStmt x
rolled_body s x is = sym (roll-out-DStmt s) ∙ ap roll-DStmt is

-- what is told of one holds of the same
less_as : (e a c : DExpr) → Some c ≡ Some a → size-DExpr c < size-DExpr e → size-DExpr a < size-DExpr e
less_as e a c h l = let q : c ≡ a = cc in subst (λ x. size-DExpr x < size-DExpr e) q l

less_body : (s a c : DStmt) → Some c ≡ Some a → size-DStmt c < size-DStmt s → size-DStmt a < size-DStmt s
less_body s a c h l = let q : c ≡ a = cc in subst (λ x. size-DStmt x < size-DStmt s) q l

spine_less : (e a : DExpr) (x : NodeLayer) → out-DNode e.node ≡ x → spine_in x ≡ Some a → size-DExpr a < size-DExpr e
spine_less e a (DNode-F.Const bits) is h = absurd (none-some a h)
spine_less e a (DNode-F.Signal s) is h = absurd (none-some a h)
spine_less e a (DNode-F.Local k) is h = absurd (none-some a h)
spine_less e a (DNode-F.Select c low) is h = less_as e a c h (smaller_select e c low (rolled e.node (DNode-F.Select c low) is ∙ node.rolls-Select c low))
spine_less e a (DNode-F.SelectAt c index offset down) is h = less_as e a c h ((smaller_select_at e c index offset down (rolled e.node (DNode-F.SelectAt c index offset down) is ∙ node.rolls-SelectAt c index offset down)).0)
spine_less e a (DNode-F.Unary op c) is h = less_as e a c h (smaller_unary e op c (rolled e.node (DNode-F.Unary op c) is ∙ node.rolls-Unary op c))
spine_less e a (DNode-F.Binary op c b) is h = less_as e a c h ((smaller_binary e op c b (rolled e.node (DNode-F.Binary op c b) is ∙ node.rolls-Binary op c b)).0)
spine_less e a (DNode-F.Mux k c b) is h = less_as e a b h ((smaller_mux e k c b (rolled e.node (DNode-F.Mux k c b) is ∙ node.rolls-Mux k c b)).2)
spine_less e a (DNode-F.Extend c keeps) is h = less_as e a c h (smaller_extend e c keeps (rolled e.node (DNode-F.Extend c keeps) is ∙ node.rolls-Extend c keeps))
spine_less e a (DNode-F.«DNode::Concat» parts) is h = absurd (none-some a h)
spine_less e a (DNode-F.Repeat count part) is h = less_as e a part h (smaller_repeat e count part (rolled e.node (DNode-F.Repeat count part) is ∙ node.rolls-Repeat count part))
spine_less e a (DNode-F.Call function arguments) is h = absurd (none-some a h)

pub spine_falls : (e a : DExpr) → spine e.node ≡ Some a → size-DExpr a < size-DExpr e
unfolding spine
spine_falls e a is = spine_less e a (out-DNode e.node) refl is

last_less : (s a : DStmt) (x : StmtLayer) → out-DStmt s ≡ x → last_in x ≡ Some a → size-DStmt a < size-DStmt s
last_less s a (DStmt-F.Block parts) is h = absurd (none-some a h)
last_less s a (DStmt-F.Write left right blocking) is h = absurd (none-some a h)
last_less s a (DStmt-F.If test b c) is h = less_body s a c h ((smaller_if s test b c (rolled_body s (DStmt-F.If test b c) is ∙ stmts.rolls-If test b c)).2)
last_less s a (DStmt-F.Case selector arms (Some c)) is h = less_body s a c h ((smaller_case s selector arms (Some c) (rolled_body s (DStmt-F.Case selector arms (Some c)) is ∙ stmts.rolls-Case selector arms (Some c))).2)
last_less s a (DStmt-F.Case selector arms None) is h = absurd (none-some a h)
last_less s a (DStmt-F.Turns parts) is h = absurd (none-some a h)

pub last_falls : (s a : DStmt) → last s ≡ Some a → size-DStmt a < size-DStmt s
unfolding last
last_falls s a is = last_less s a (out-DStmt s) refl is

-- what there is room for is less than the weight
pub none_left : (r : Option ℕ) (w room : ℕ) → r ≡ None → room < w → IsSpent w room r
none_left r w room is less = subst (λ o. IsSpent w room o) (sym is) less

-- the same weight under another name
pub spent_as : (r : Option ℕ) (w v room : ℕ) → v ≡ w → IsSpent w room r → IsSpent v room r
spent_as r w v room is h = subst (λ k. IsSpent k room r) (sym is) h
