-- What each function of the walk asks of the others.
use denote.Param.Weighed.{most, at_most}
use Rattle.std.proofs.Common.{◌≡◌, ℕ, ◌+◌, ◌*◌, ◌<◌, ◌≤◌, Bool, true, false, List, length, get_or, max, ap, refl, sym, subst, ◌∙◌, arith, All}
use Rattle.std.specs.Borrow.{Bor}
use Rattle.design_core.specs.declared.tree.DExpr.{DExpr, size-DExpr}
use Rattle.design_core.specs.declared.tree.DNode.{DNode, out-DNode, roll-DNode, roll-out-DNode}
use Rattle.design_core.specs.declared.tree.DNode.TheVariants as node
use Rattle.design_core.specs.declared.tree.DLeft.{DLeft, out-DLeft, size-DLeft}
use Rattle.design_core.specs.declared.tree.DLeft.TheOpen.{DLeft-F, DNode-F, DStmt-F}
use Rattle.design_core.specs.declared.tree.DStmt.{DStmt, out-DStmt, roll-DStmt, roll-out-DStmt, size-DStmt}
use Rattle.design_core.specs.declared.tree.DStmt.TheVariants as stmts
use Rattle.design_core.specs.declared.tree.DArm.{DArm}
use Rattle.design_core.specs.declared.tree.DMatch.{DMatch}
use Rattle.design_core.specs.declared.tree.DFunction.{DFunction}
use Rattle.design_core.proofs.BoolLaws.{both_true}
use Rattle.design_core.proofs.FormedLaws as f
use Rattle.design_core.specs.Formed.{IsFormed, IsFormedLeft, Place, is_vector, left_length, left_size}
use Rattle.design_core.proofs.SizeLaws.{smaller_write}
use Rattle.tree_parts.specs.Parts.{NodeLayer, StmtLayer, children_of, heads_of, operands_of, seen}
use Rattle.tree_parts.proofs.PartLaws.{formed_write, seen_at, seen_length, smaller_children, smaller_heads, smaller_operands}
use Rattle.stmt_exec.specs.Runs.{CanRun, IsPlain, is_call}
use Rattle.stmt_exec.specs.State.{signal_widths, local_widths}
use Rattle.stmt_exec.proofs.ChoiceLaws.{is_write}
use Rattle.stmt_exec.proofs.StandingLaws as s
use Rattle.value_domain.specs.Meaning.{Meaning}

no_call : (n : DNode) (x : NodeLayer) → out-DNode n ≡ x → ((f : DFunction) (es : List DExpr) → n ≡ node.Call f es → ⊥) → is_call x ≡ false
no_call n (DNode-F.Const bits) e h = refl
no_call n (DNode-F.Signal s) e h = refl
no_call n (DNode-F.Local k) e h = refl
no_call n (DNode-F.Select base low) e h = refl
no_call n (DNode-F.SelectAt base index offset down) e h = refl
no_call n (DNode-F.Unary op a) e h = refl
no_call n (DNode-F.Binary op a b) e h = refl
no_call n (DNode-F.Mux c a b) e h = refl
no_call n (DNode-F.Extend a by_sign) e h = refl
no_call n (DNode-F.«DNode::Concat» parts) e h = refl
no_call n (DNode-F.Repeat count part) e h = refl
no_call n (DNode-F.Call f es) e h = absurd (h f es (sym (roll-out-DNode n) ∙ ap roll-DNode e ∙ node.rolls-Call f es))

pub plain : (e : DExpr) → ((f : DFunction) (es : List DExpr) → e.node ≡ node.Call f es → ⊥) → IsPlain e
unfolding IsPlain
plain e h = no_call e.node (out-DNode e.node) refl h

no_write : (s : DStmt) (x : StmtLayer) → out-DStmt s ≡ x → ((l : DLeft) (e : DExpr) (blocking : Bool) → s ≡ stmts.Write l e blocking → ⊥) → is_write x ≡ false
no_write s (DStmt-F.Block parts) e h = refl
no_write s (DStmt-F.Write l r blocking) e h = absurd (h l r blocking (sym (roll-out-DStmt s) ∙ ap roll-DStmt e ∙ stmts.rolls-Write l r blocking))
no_write s (DStmt-F.If test a b) e h = refl
no_write s (DStmt-F.Case selector arms rest) e h = refl
no_write s (DStmt-F.Turns parts) e h = refl

pub writes_nothing : (s : DStmt) → ((l : DLeft) (e : DExpr) (blocking : Bool) → s ≡ stmts.Write l e blocking → ⊥) → is_write (out-DStmt s) ≡ false
writes_nothing s h = no_write s (out-DStmt s) refl h

pub operands_fall : (e : DExpr) (es : List (Bor DExpr)) → seen es ≡ operands_of e → 2 * most size-DExpr (seen es) + 1 < 2 * size-DExpr e
operands_fall e es is = let s = smaller_operands e in let n = ap (most size-DExpr) is in omega (arith, s, n)

pub part_falls : (es : List (Bor DExpr)) (k : ℕ) (x : Bor DExpr) → k < length es → x ≡ get_or es k x → 2 * size-DExpr x.now < 2 * most size-DExpr (seen es) + 1
part_falls es k x lt is =
    let n = seen_length es in
    let s = at_most size-DExpr (seen es) k x.now (omega (arith, lt, n)) in
    let e = ap size-DExpr (seen_at es k x lt ∙ ap (λ (y : Bor DExpr). y.now) (sym is)) in
    omega (arith, s, e)

pub heads_fall : (b : DStmt) (es : List (Bor DExpr)) → seen es ≡ heads_of b → 2 * most size-DExpr (seen es) + 1 < 2 * size-DStmt b
heads_fall b es is = let s = smaller_heads b in let n = ap (most size-DExpr) is in omega (arith, s, n)

pub child_falls : (b : DStmt) (cs : List (Bor DStmt)) (k : ℕ) (x : Bor DStmt) → seen cs ≡ children_of b → k < length cs → x ≡ get_or cs k x → 2 * size-DStmt x.now + 1 < 2 * size-DStmt b + 1
child_falls b cs k x is lt at =
    let n = seen_length cs in
    let s = at_most size-DStmt (seen cs) k x.now (omega (arith, lt, n)) in
    let e = ap size-DStmt (seen_at cs k x lt ∙ ap (λ (y : Bor DStmt). y.now) (sym at)) in
    let w = smaller_children b in
    let m = ap (most size-DStmt) is in
    omega (arith, s, e, w, m)

pub write_falls : (s : DStmt) (l : DLeft) (e : DExpr) (blocking : Bool) → s ≡ stmts.Write l e blocking → 2 * max (size-DLeft l) (size-DExpr e) + 1 < 2 * size-DStmt s + 1
write_falls s l e blocking is = let w = smaller_write s l e blocking is in let a = w.0 in let b = w.1 in omega (arith, a, b)

pub part_formed : (vs ls : List ℕ) (es : List (Bor DExpr)) (k : ℕ) (x : Bor DExpr) → All (IsFormed vs ls) (seen es) → k < length es → x ≡ get_or es k x → IsFormed vs ls x.now
part_formed vs ls es k x h lt is =
    let n = seen_length es in
    subst (IsFormed vs ls) (seen_at es k x lt ∙ ap (λ (y : Bor DExpr). y.now) (sym is)) (h k x.now (omega (arith, lt, n)))

pub part_is : {X : Type 0} (es : List (Bor X)) (k : ℕ) (x : Bor X) → k < length es → x ≡ get_or es k x → get_or (seen es) k x.now ≡ x.now
part_is {X} es k x lt is = seen_at es k x lt ∙ ap (λ (y : Bor X). y.now) (sym is)

pub part_there : {X : Type 0} (es : List (Bor X)) (k : ℕ) → k < length es → k < length (seen es)
part_there {X} es k lt = let n = seen_length es in omega (arith, lt, n)

module _ (vs ls : List ℕ) (inside : Bool) where
  layer_vector : (x : DLeft-F DLeft DNode DStmt DArm DExpr DFunction DMatch) → (left_size vs (f.left_parts vs x)).formed ls inside ≡ true → is_vector (left_size vs (f.left_parts vs x)).length ≡ true
  layer_vector (DLeft-F.Whole b n) h = (both_true _ _ h).1
  layer_vector (DLeft-F.Part b low n) h = (both_true _ _ h).1
  layer_vector (DLeft-F.At b index offset down n) h = (both_true _ _ h).1
  layer_vector (DLeft-F.«DLeft::Concat» parts) h = (both_true _ _ h).1

  left_vector : (l : DLeft) → IsFormedLeft vs ls inside l → is_vector (left_length vs l) ≡ true
  unfolding IsFormedLeft left_length
  left_vector l h =
      let e = f.left_node vs l (out-DLeft l) refl in
      subst (λ (y : Place). is_vector y.length ≡ true) (sym e) (layer_vector (out-DLeft l) (subst (λ (y : Place). y.formed ls inside ≡ true) e h))

-- a left side that is formed has at most 65,536 bits
pub left_most : (vs ls : List ℕ) (inside : Bool) (l : DLeft) → IsFormedLeft vs ls inside l → left_length vs l ≤ 65536
left_most vs ls inside l h = s.vector_most (left_length vs l) (left_vector vs ls inside l h)

module _ {S V : Type 0} (m : Meaning S V) where
  -- what a write that can be run is made of
  pub write_parts : (inside : Bool) (outer now : List V) (s : DStmt) (l : DLeft) (e : DExpr) (blocking : Bool) → s ≡ stmts.Write l e blocking → CanRun m inside outer now s
      → IsFormedLeft (signal_widths m inside outer now) (local_widths m inside outer now) inside l × (IsFormed (signal_widths m inside outer now) (local_widths m inside outer now) e × (inside ≡ true → blocking ≡ true))
  write_parts inside outer now s l e blocking is r =
      let p = formed_write (signal_widths m inside outer now) (local_widths m inside outer now) inside r.kinds s l e blocking is r.formed in
      (p.0, (p.1.0, λ i. r.blocks i blocking p.1.1.1))

pub guard_there : {X : Type 0} (cs : List (Bor DStmt)) (gs : List X) (b : DStmt) (k : ℕ) → seen cs ≡ children_of b → length (children_of b) ≤ length gs → k < length cs → k < length gs
guard_there {X} cs gs b k is many lt = let n = seen_length cs in let e = ap length is in omega (arith, many, lt, n, e)

pub all_seen : (cs : List (Bor DStmt)) (ss : List DStmt) (k : ℕ) → seen cs ≡ ss → length cs ≤ k → length ss ≤ k
all_seen cs ss k is le = let n = seen_length cs in let e = ap length is in omega (arith, le, n, e)
