-- Parts of formed trees are formed, and parts of trees are smaller.
use denote.Param.Weighed.{most, most-append}
use Rattle.std.proofs.Common.{◌≡◌, ℕ, suc, ◌<◌, ◌≤◌, Bool, true, List, [], ◌∷◌, ◌++◌, length, map, get_or, ap, refl, sym, subst, ◌∙◌, ◌&&◌, arith, All, Option, Some, None, ℤ}
use Rattle.std.specs.Prelude.{nat_le, ◌==◌, sum}
use Rattle.std.specs.List.{list_all, sum_by}
use Rattle.std.specs.Borrow.{Bor}
use Rattle.std.proofs.lemmas.Bool.{leb-true, eqb-true}
use Rattle.std.proofs.lemmas.List.{length-map, get_or-map}
use Rattle.std.proofs.lemmas.List.Elements.{All-nil, All-cons, All-append}
use Rattle.std.proofs.lemmas.List.Sums.{sum-map}
use Rattle.design_core.specs.Formed.{Sized, Place, Body, Branch, Choice, Routine, IsFormed, IsFormedLeft, IsFormedOf, is_vector, is_narrow, left_length, node_size, stmt_size, base_fits, base_length, all_formed, arguments_fit, of_kind, sized_expr, sized_left, sized_stmt, sized_arm, sized_match, sized_function}
use Rattle.design_core.specs.Terms.{lengths}
use Rattle.design_core.specs.declared.tree.DBase.{DBase}
use Rattle.design_core.specs.declared.tree.DExpr.{DExpr, size-DExpr, size_is-DExpr}
use Rattle.design_core.specs.declared.tree.DNode.{out-DNode, roll-DNode, roll-out-DNode}
use Rattle.design_core.specs.declared.tree.DNode.TheVariants as node
use Rattle.design_core.specs.declared.tree.DLeft.{DLeft}
use Rattle.design_core.specs.declared.tree.DLocal.{DLocal}
use Rattle.design_core.specs.declared.tree.DLeft.TheVariants as lefts
use Rattle.design_core.specs.declared.tree.DLeft.TheOpen.{DNode-F, DStmt-F}
use Rattle.design_core.specs.declared.tree.DStmt.{DStmt, out-DStmt, size-DStmt, roll-DStmt, roll-out-DStmt}
use Rattle.design_core.specs.declared.tree.DStmt.TheVariants as stmts
use Rattle.design_core.specs.declared.tree.DArm.{DArm, out-DArm, size-DArm}
use Rattle.design_core.specs.declared.tree.DMatch.{DMatch, out-DMatch, size-DMatch}
use Rattle.design_core.specs.declared.tree.DFunction.{DFunction}
use Rattle.design_core.proofs.BoolLaws.{both_true}
use Rattle.design_core.proofs.FormedLaws as f
use Rattle.design_core.proofs.SizeLaws as small
use Rattle.tree_parts.specs.Parts.{IsFormedFunction, NodeLayer, StmtLayer, base_operands, children_in, children_of, heads_in, heads_of, items_of, operands_in, operands_of, rest_of, seen}

pub seen_length : {X : Type 0} (all : List (Bor X)) → length (seen all) ≡ length all
seen_length {X} all = length-map all (λ (x : Bor X). x.now)

pub seen_at : {X : Type 0} (all : List (Bor X)) (k : ℕ) (d : Bor X) → k < length all → get_or (seen all) k d.now ≡ (get_or all k d).now
seen_at {X} all k d lt = get_or-map (λ (x : Bor X). x.now) all k d d.now lt

and_left : (a b : Bool) → (a && b) ≡ true → a ≡ true
and_left a b h = (both_true a b h).0

and_right : (a b : Bool) → (a && b) ≡ true → b ≡ true
and_right a b h = (both_true a b h).1

-- a test of all the images of some elements
all_true : {X Y : Type 0} (p : Y → Bool) (g : X → Y) (xs : List X) → list_all p (map g xs) ≡ true → All (λ x. p (g x) ≡ true) xs
all_true {X} p g [] h = All-nil (λ (x : X). p (g x) ≡ true)
all_true {X} p g (x ∷ xs) h = All-cons (λ (x : X). p (g x) ≡ true) x xs (and_left _ _ h) (all_true p g xs (and_right _ _ h))

one : {X : Type 0} (P : X → Type 0) (x : X) → P x → All P (x ∷ [])
one P x h = All-cons P x [] h (All-nil P)

two : {X : Type 0} (P : X → Type 0) (x y : X) → P x → P y → All P (x ∷ y ∷ [])
two P x y h k = All-cons P x (y ∷ []) h (one P y k)

-- a fact of the base of a select
base_all : (P : DExpr → Type 0) (x : NodeLayer) (b : DExpr) → P b → All P (base_operands x b)
base_all P (DNode-F.Signal s) b h = All-nil P
base_all P (DNode-F.Const bits) b h = one P b h
base_all P (DNode-F.Local k) b h = one P b h
base_all P (DNode-F.Select a low) b h = one P b h
base_all P (DNode-F.SelectAt a index offset down) b h = one P b h
base_all P (DNode-F.Unary op a) b h = one P b h
base_all P (DNode-F.Binary op a c) b h = one P b h
base_all P (DNode-F.Mux c a d) b h = one P b h
base_all P (DNode-F.Extend a keeps) b h = one P b h
base_all P (DNode-F.«DNode::Concat» parts) b h = one P b h
base_all P (DNode-F.Repeat count part) b h = one P b h
base_all P (DNode-F.Call function arguments) b h = one P b h

module _ (vs ls : List ℕ) where
  -- what being formed says of the layer that an expression is made of
  formed_in : (e : DExpr) (x : NodeLayer) → out-DNode e.node ≡ x → IsFormed vs ls e → (is_vector e.length ≡ true) × ((node_size vs (f.node_parts vs x) e.length).formed ls ≡ true)
  unfolding IsFormed
  formed_in e x is h =
      let t : (is_vector e.length && (node_size vs (f.node_parts vs x) e.length).formed ls) ≡ true = sym (ap (λ (y : Sized). y.formed ls) (f.expr_node vs e x is)) ∙ h in
      (and_left _ _ t, and_right _ _ t)

  pub formed_vector : (e : DExpr) → IsFormed vs ls e → is_vector e.length ≡ true
  formed_vector e h = (formed_in e (out-DNode e.node) refl h).0

  formed_layer : (n : ℕ) (x : NodeLayer) → (node_size vs (f.node_parts vs x) n).formed ls ≡ true → All (IsFormed vs ls) (operands_in x)
  unfolding IsFormed
  formed_layer n (DNode-F.Const bits) h = All-nil (IsFormed vs ls)
  formed_layer n (DNode-F.Signal s) h = All-nil (IsFormed vs ls)
  formed_layer n (DNode-F.Local k) h = All-nil (IsFormed vs ls)
  formed_layer n (DNode-F.Select a low) h = base_all (IsFormed vs ls) (out-DNode a.node) a h
  formed_layer n (DNode-F.SelectAt a index offset down) h = two (IsFormed vs ls) a index (and_left _ _ (and_left _ _ h)) (and_right _ _ (and_left _ _ h))
  formed_layer n (DNode-F.Unary op a) h = one (IsFormed vs ls) a (and_left _ _ h)
  formed_layer n (DNode-F.Binary op a b) h = two (IsFormed vs ls) a b (and_left _ _ (and_left _ _ h)) (and_right _ _ (and_left _ _ h))
  formed_layer n (DNode-F.Mux c a b) h = let k = and_left _ _ (and_left _ _ h) in All-cons (IsFormed vs ls) c (a ∷ b ∷ []) (and_left _ _ (and_left _ _ k)) (two (IsFormed vs ls) a b (and_right _ _ (and_left _ _ k)) (and_right _ _ k))
  formed_layer n (DNode-F.Extend a keeps) h = one (IsFormed vs ls) a (and_left _ _ h)
  formed_layer n (DNode-F.«DNode::Concat» parts) h = all_true (λ (x : Sized). x.formed ls) (sized_expr vs) parts (and_left _ _ h)
  formed_layer n (DNode-F.Repeat count part) h = one (IsFormed vs ls) part (and_left _ _ h)
  formed_layer n (DNode-F.Call function arguments) h = all_true (λ (x : Sized). x.formed ls) (sized_expr vs) arguments (and_right _ _ (and_left _ _ h))

  pub formed_operands : (e : DExpr) → IsFormed vs ls e → All (IsFormed vs ls) (operands_of e)
  unfolding operands_of
  formed_operands e h = formed_layer e.length (out-DNode e.node) (formed_in e (out-DNode e.node) refl h).1

base_most : (x : NodeLayer) (b : DExpr) → most size-DExpr (base_operands x b) ≤ size-DExpr b
base_most (DNode-F.Signal s) b = omega arith
base_most (DNode-F.Const bits) b = omega arith
base_most (DNode-F.Local k) b = omega arith
base_most (DNode-F.Select a low) b = omega arith
base_most (DNode-F.SelectAt a index offset down) b = omega arith
base_most (DNode-F.Unary op a) b = omega arith
base_most (DNode-F.Binary op a c) b = omega arith
base_most (DNode-F.Mux c a d) b = omega arith
base_most (DNode-F.Extend a keeps) b = omega arith
base_most (DNode-F.«DNode::Concat» parts) b = omega arith
base_most (DNode-F.Repeat count part) b = omega arith
base_most (DNode-F.Call function arguments) b = omega arith

node_is : (e : DExpr) (x : NodeLayer) → out-DNode e.node ≡ x → e.node ≡ roll-DNode x
node_is e x is = sym (roll-out-DNode e.node) ∙ ap roll-DNode is

smaller_layer : (e : DExpr) (x : NodeLayer) → out-DNode e.node ≡ x → most size-DExpr (operands_in x) < size-DExpr e
smaller_layer e (DNode-F.Const bits) is = let w = size_is-DExpr e in omega (arith, w)
smaller_layer e (DNode-F.Signal s) is = let w = size_is-DExpr e in omega (arith, w)
smaller_layer e (DNode-F.Local k) is = let w = size_is-DExpr e in omega (arith, w)
smaller_layer e (DNode-F.Select a low) is =
    let w = small.smaller_select e a low (node_is e (DNode-F.Select a low) is ∙ node.rolls-Select a low) in
    let b = base_most (out-DNode a.node) a in omega (arith, w, b)
smaller_layer e (DNode-F.SelectAt a index offset down) is =
    let w = small.smaller_select_at e a index offset down (node_is e (DNode-F.SelectAt a index offset down) is ∙ node.rolls-SelectAt a index offset down) in omega (arith, w.0, w.1)
smaller_layer e (DNode-F.Unary op a) is = let w = small.smaller_unary e op a (node_is e (DNode-F.Unary op a) is ∙ node.rolls-Unary op a) in omega (arith, w)
smaller_layer e (DNode-F.Binary op a b) is = let w = small.smaller_binary e op a b (node_is e (DNode-F.Binary op a b) is ∙ node.rolls-Binary op a b) in omega (arith, w.0, w.1)
smaller_layer e (DNode-F.Mux c a b) is = let w = small.smaller_mux e c a b (node_is e (DNode-F.Mux c a b) is ∙ node.rolls-Mux c a b) in omega (arith, w.0, w.1, w.2)
smaller_layer e (DNode-F.Extend a keeps) is = let w = small.smaller_extend e a keeps (node_is e (DNode-F.Extend a keeps) is ∙ node.rolls-Extend a keeps) in omega (arith, w)
smaller_layer e (DNode-F.«DNode::Concat» parts) is = small.smaller_concat e parts (node_is e (DNode-F.«DNode::Concat» parts) is ∙ node.rolls-Concat parts)
smaller_layer e (DNode-F.Repeat count part) is = let w = small.smaller_repeat e count part (node_is e (DNode-F.Repeat count part) is ∙ node.rolls-Repeat count part) in omega (arith, w)
smaller_layer e (DNode-F.Call function arguments) is = (small.smaller_call e function arguments (node_is e (DNode-F.Call function arguments) is ∙ node.rolls-Call function arguments)).1

pub smaller_operands : (e : DExpr) → most size-DExpr (operands_of e) < size-DExpr e
unfolding operands_of
smaller_operands e = smaller_layer e (out-DNode e.node) refl

stmt_is : (s : DStmt) (x : StmtLayer) → out-DStmt s ≡ x → s ≡ roll-DStmt x
stmt_is s x is = sym (roll-out-DStmt s) ∙ ap roll-DStmt is

values_most : (ms : List DMatch) → most size-DExpr (map (λ (x : DMatch). (out-DMatch x).value) ms) ≤ most size-DMatch ms
values_most [] = omega arith
values_most (x ∷ ms) = let w = small.smaller_match x in let r = values_most ms in omega (arith, w, r)

items_most : (as' : List DArm) → most size-DExpr (items_of as') ≤ most size-DArm as'
items_most [] = omega arith
items_most (a ∷ as') =
    let w = small.smaller_arm a in
    let v = values_most (out-DArm a).matches in
    let r = items_most as' in
    let j = most-append size-DExpr (map (λ (x : DMatch). (out-DMatch x).value) (out-DArm a).matches) (items_of as') in
    omega (arith, w.0, v, r, j)

bodies_most : (as' : List DArm) → most size-DStmt (map (λ (a : DArm). (out-DArm a).body) as') ≤ most size-DArm as'
bodies_most [] = omega arith
bodies_most (a ∷ as') = let w = small.smaller_arm a in let r = bodies_most as' in omega (arith, w.1, r)

rest_most : (rest : Option DStmt) → most size-DStmt (rest_of rest) ≤ small.rest_size rest
rest_most None = omega arith
rest_most (Some s) = omega arith

heads_smaller : (s : DStmt) (x : StmtLayer) → out-DStmt s ≡ x → most size-DExpr (heads_in x) < size-DStmt s
heads_smaller s (DStmt-F.Block parts) is = let w = small.smaller_block s parts (stmt_is s (DStmt-F.Block parts) is ∙ stmts.rolls-Block parts) in omega (arith, w)
heads_smaller s (DStmt-F.Turns parts) is = let w = small.smaller_turns s parts (stmt_is s (DStmt-F.Turns parts) is ∙ stmts.rolls-Turns parts) in omega (arith, w)
heads_smaller s (DStmt-F.Write l e blocking) is = let w = small.smaller_write s l e blocking (stmt_is s (DStmt-F.Write l e blocking) is ∙ stmts.rolls-Write l e blocking) in omega (arith, w.0)
heads_smaller s (DStmt-F.If test a b) is = let w = small.smaller_if s test a b (stmt_is s (DStmt-F.If test a b) is ∙ stmts.rolls-If test a b) in omega (arith, w.0)
heads_smaller s (DStmt-F.Case selector arms rest) is =
    let w = small.smaller_case s selector arms rest (stmt_is s (DStmt-F.Case selector arms rest) is ∙ stmts.rolls-Case selector arms rest) in
    let i = items_most arms in omega (arith, w.0, w.1, i)

pub smaller_heads : (s : DStmt) → most size-DExpr (heads_of s) < size-DStmt s
unfolding heads_of
smaller_heads s = heads_smaller s (out-DStmt s) refl

children_smaller : (s : DStmt) (x : StmtLayer) → out-DStmt s ≡ x → most size-DStmt (children_in x) < size-DStmt s
children_smaller s (DStmt-F.Block parts) is = small.smaller_block s parts (stmt_is s (DStmt-F.Block parts) is ∙ stmts.rolls-Block parts)
children_smaller s (DStmt-F.Turns parts) is = small.smaller_turns s parts (stmt_is s (DStmt-F.Turns parts) is ∙ stmts.rolls-Turns parts)
children_smaller s (DStmt-F.Write l e blocking) is = let w = small.smaller_write s l e blocking (stmt_is s (DStmt-F.Write l e blocking) is ∙ stmts.rolls-Write l e blocking) in omega (arith, w.0)
children_smaller s (DStmt-F.If test a b) is = let w = small.smaller_if s test a b (stmt_is s (DStmt-F.If test a b) is ∙ stmts.rolls-If test a b) in omega (arith, w.1, w.2)
children_smaller s (DStmt-F.Case selector arms rest) is =
    let w = small.smaller_case s selector arms rest (stmt_is s (DStmt-F.Case selector arms rest) is ∙ stmts.rolls-Case selector arms rest) in
    let b = bodies_most arms in
    let r = rest_most rest in
    let j = most-append size-DStmt (map (λ (a : DArm). (out-DArm a).body) arms) (rest_of rest) in
    omega (arith, w.1, w.2, b, r, j)

pub smaller_children : (s : DStmt) → most size-DStmt (children_of s) < size-DStmt s
unfolding children_of
smaller_children s = children_smaller s (out-DStmt s) refl

module _ (vs ls : List ℕ) (inside : Bool) (kinds : Bool → Bool) where
  -- what being formed says of the layer that a statement is made of
  stmt_in : (s : DStmt) (x : StmtLayer) → out-DStmt s ≡ x → IsFormedOf vs ls inside kinds s → (stmt_size (f.stmt_parts vs x)).formed ls inside kinds ≡ true
  unfolding IsFormedOf
  stmt_in s x is h = sym (ap (λ (y : Body). y.formed ls inside kinds) (f.stmt_node vs s x is)) ∙ h

  values_formed : (n : ℕ) (ms : List DMatch) → list_all (λ (x : Choice). x.formed n ls) (map (sized_match vs) ms) ≡ true → All (IsFormed vs ls) (map (λ (x : DMatch). (out-DMatch x).value) ms)
  unfolding IsFormed
  values_formed n [] h = All-nil (IsFormed vs ls)
  values_formed n (x ∷ ms) h =
      let m = sym (ap (λ (y : Choice). y.formed n ls) (f.sized_match_is vs x)) ∙ and_left _ _ h in
      All-cons (IsFormed vs ls) (out-DMatch x).value (map (λ (x : DMatch). (out-DMatch x).value) ms) (and_left _ _ (and_left _ _ m)) (values_formed n ms (and_right _ _ h))

  -- an arm of a case
  arm_in : (n : ℕ) (a : DArm) → (sized_arm vs a).formed n ls inside kinds ≡ true
      → (list_all (λ (x : Choice). x.formed n ls) (map (sized_match vs) (out-DArm a).matches) ≡ true) × ((sized_stmt vs (out-DArm a).body).formed ls inside kinds ≡ true)
  arm_in n a h =
      let t : (list_all (λ (x : Choice). x.formed n ls) (map (sized_match vs) (out-DArm a).matches) && (sized_stmt vs (out-DArm a).body).formed ls inside kinds) ≡ true
      = sym (ap (λ (y : Branch). y.formed n ls inside kinds) (f.sized_arm_is vs a)) ∙ h in
      (and_left _ _ t, and_right _ _ t)

  items_formed : (n : ℕ) (as' : List DArm) → list_all (λ (x : Branch). x.formed n ls inside kinds) (map (sized_arm vs) as') ≡ true → All (IsFormed vs ls) (items_of as')
  items_formed n [] h = All-nil (IsFormed vs ls)
  items_formed n (a ∷ as') h =
      All-append (IsFormed vs ls) (map (λ (x : DMatch). (out-DMatch x).value) (out-DArm a).matches) (items_of as')
      (values_formed n (out-DArm a).matches (arm_in n a (and_left _ _ h)).0) (items_formed n as' (and_right _ _ h))

  bodies_formed : (n : ℕ) (as' : List DArm) → list_all (λ (x : Branch). x.formed n ls inside kinds) (map (sized_arm vs) as') ≡ true
      → All (IsFormedOf vs ls inside kinds) (map (λ (a : DArm). (out-DArm a).body) as')
  unfolding IsFormedOf
  bodies_formed n [] h = All-nil (IsFormedOf vs ls inside kinds)
  bodies_formed n (a ∷ as') h =
      All-cons (IsFormedOf vs ls inside kinds) (out-DArm a).body (map (λ (a : DArm). (out-DArm a).body) as') (arm_in n a (and_left _ _ h)).1 (bodies_formed n as' (and_right _ _ h))

  heads_formed : (x : StmtLayer) → (stmt_size (f.stmt_parts vs x)).formed ls inside kinds ≡ true → All (IsFormed vs ls) (heads_in x)
  unfolding IsFormed
  heads_formed (DStmt-F.Block parts) h = All-nil (IsFormed vs ls)
  heads_formed (DStmt-F.Turns parts) h = All-nil (IsFormed vs ls)
  heads_formed (DStmt-F.Write l e blocking) h = All-nil (IsFormed vs ls)
  heads_formed (DStmt-F.If test a b) h = one (IsFormed vs ls) test (and_left _ _ (and_left _ _ h))
  heads_formed (DStmt-F.Case selector arms None) h =
      All-cons (IsFormed vs ls) selector (items_of arms) (and_left _ _ (and_left _ _ h)) (items_formed (sized_expr vs selector).length arms (and_right _ _ (and_left _ _ h)))
  heads_formed (DStmt-F.Case selector arms (Some rest)) h =
      All-cons (IsFormed vs ls) selector (items_of arms) (and_left _ _ (and_left _ _ h)) (items_formed (sized_expr vs selector).length arms (and_right _ _ (and_left _ _ h)))

  pub formed_heads : (s : DStmt) → IsFormedOf vs ls inside kinds s → All (IsFormed vs ls) (heads_of s)
  unfolding heads_of
  formed_heads s h = heads_formed (out-DStmt s) (stmt_in s (out-DStmt s) refl h)

  children_formed : (x : StmtLayer) → (stmt_size (f.stmt_parts vs x)).formed ls inside kinds ≡ true → All (IsFormedOf vs ls inside kinds) (children_in x)
  unfolding IsFormedOf
  children_formed (DStmt-F.Block parts) h = all_true (λ (x : Body). x.formed ls inside kinds) (sized_stmt vs) parts h
  children_formed (DStmt-F.Turns parts) h = all_true (λ (x : Body). x.formed ls inside kinds) (sized_stmt vs) parts h
  children_formed (DStmt-F.Write l e blocking) h = All-nil (IsFormedOf vs ls inside kinds)
  children_formed (DStmt-F.If test a b) h = two (IsFormedOf vs ls inside kinds) a b (and_right _ _ (and_left _ _ h)) (and_right _ _ h)
  children_formed (DStmt-F.Case selector arms None) h =
      All-append (IsFormedOf vs ls inside kinds) (map (λ (a : DArm). (out-DArm a).body) arms) [] (bodies_formed (sized_expr vs selector).length arms (and_right _ _ (and_left _ _ h))) (All-nil (IsFormedOf vs ls inside kinds))
  children_formed (DStmt-F.Case selector arms (Some rest)) h =
      All-append (IsFormedOf vs ls inside kinds) (map (λ (a : DArm). (out-DArm a).body) arms) (rest ∷ []) (bodies_formed (sized_expr vs selector).length arms (and_right _ _ (and_left _ _ h)))
      (one (IsFormedOf vs ls inside kinds) rest (and_right _ _ h))

  pub formed_children : (s : DStmt) → IsFormedOf vs ls inside kinds s → All (IsFormedOf vs ls inside kinds) (children_of s)
  unfolding children_of
  formed_children s h = children_formed (out-DStmt s) (stmt_in s (out-DStmt s) refl h)

  pub formed_write : (s : DStmt) (l : DLeft) (e : DExpr) (blocking : Bool) → s ≡ stmts.Write l e blocking → IsFormedOf vs ls inside kinds s
      → IsFormedLeft vs ls inside l × (IsFormed vs ls e × ((left_length vs l ≤ e.length) × (kinds blocking ≡ true)))
  unfolding IsFormed IsFormedLeft IsFormedOf left_length
  formed_write s l e blocking is h =
      let t : ((sized_left vs l).formed ls inside && (sized_expr vs e).formed ls && nat_le (sized_left vs l).length (sized_expr vs e).length && kinds blocking) ≡ true
      = sym (ap (λ (y : Body). y.formed ls inside kinds) (f.sized_write vs s l e blocking is)) ∙ h in
      let k = and_left _ _ t in
      let w = and_left _ _ k in
      (and_left _ _ w, (and_right _ _ w, (subst (λ n. (sized_left vs l).length ≤ n) (f.sized_length vs e) (leb-true (sized_left vs l).length (sized_expr vs e).length (and_right _ _ k)), and_right _ _ t)))

-- there is an argument for each input
arguments_many : (vs : List ℕ) (ns : List ℕ) (as' : List DExpr) → arguments_fit ns (map (sized_expr vs) as') ≡ true → length as' ≡ length ns
arguments_many vs [] [] h = refl
arguments_many vs [] (a ∷ as') h = cc
arguments_many vs (n ∷ ns) [] h = cc
arguments_many vs (n ∷ ns) (a ∷ as') h = ap suc (arguments_many vs ns as' (and_right _ _ h))

-- a test of each element
all_pass : {X : Type 0} (p : X → Bool) (xs : List X) → list_all p xs ≡ true → All (λ x. p x ≡ true) xs
all_pass {X} p [] h = All-nil (λ (x : X). p x ≡ true)
all_pass {X} p (x ∷ xs) h = All-cons (λ (x : X). p x ≡ true) x xs (and_left _ _ h) (all_pass p xs (and_right _ _ h))

pub formed_function : (vs : List ℕ) (g : DFunction) → IsFormedFunction vs g
    → (is_vector g.length ≡ true) × (All (λ n. is_vector n ≡ true) (lengths g.inputs) × (All (λ n. is_vector n ≡ true) (lengths g.locals)
    × IsFormedOf vs (g.length ∷ (lengths g.inputs ++ lengths g.locals)) true (of_kind true) g.body))
unfolding IsFormedOf
formed_function vs g h =
    let t : (is_vector g.length && list_all is_vector (lengths g.inputs) && list_all is_vector (lengths g.locals)
    && (sized_stmt vs g.body).formed (g.length ∷ (lengths g.inputs ++ lengths g.locals)) true (of_kind true)) ≡ true
    = sym (ap (λ (y : Routine). y.formed) (f.sized_function_is vs g)) ∙ h in
    let k = and_left _ _ t in
    let i = and_left _ _ k in
    (and_left _ _ i, (all_pass is_vector (lengths g.inputs) (and_right _ _ i), (all_pass is_vector (lengths g.locals) (and_right _ _ k), and_right _ _ t)))

module _ (vs ls : List ℕ) where
  pub formed_call : (e : DExpr) (g : DFunction) (arguments : List DExpr) → e.node ≡ node.Call g arguments → IsFormed vs ls e
      → IsFormedFunction vs g × ((g.length ≡ e.length) × (length arguments ≡ length g.inputs))
  unfolding IsFormed
  formed_call e g arguments is h =
      let r = sized_function vs g in
      let as' = map (sized_expr vs) arguments in
      let t : (is_vector e.length && (r.formed && (r.length == e.length) && all_formed as' ls && arguments_fit r.inputs as')) ≡ true
      = sym (ap (λ (y : Sized). y.formed ls) (f.sized_call vs e g arguments is)) ∙ h in
      let u = and_right _ _ t in
      let k = and_left _ _ (and_left _ _ u) in
      let fits = subst (λ ns. arguments_fit ns as' ≡ true) (ap (λ (y : Routine). y.inputs) (f.sized_function_is vs g)) (and_right _ _ u) in
      let many = length-map g.inputs (λ (x : DLocal). x.length) in
      (and_left _ _ k, (sym (ap (λ (y : Routine). y.length) (f.sized_function_is vs g)) ∙ eqb-true r.length e.length (and_right _ _ k), arguments_many vs (lengths g.inputs) arguments fits ∙ many))

part_lengths : (vs : List ℕ) (parts : List DLeft) → map (λ (x : Place). x.length) (map (sized_left vs) parts) ≡ map (λ (l : DLeft). (sized_left vs l).length) parts
part_lengths vs [] = refl
part_lengths vs (l ∷ parts) = ap (λ ns. (sized_left vs l).length ∷ ns) (part_lengths vs parts)

lengths_sum : (vs : List ℕ) (parts : List DLeft) → sum (map (λ (x : Place). x.length) (map (sized_left vs) parts)) ≡ sum_by (λ (l : DLeft). (sized_left vs l).length) parts
lengths_sum vs parts = ap sum (part_lengths vs parts) ∙ sum-map (λ (l : DLeft). (sized_left vs l).length) parts

module _ (vs ls : List ℕ) (inside : Bool) (l : DLeft) where
  pub formed_whole : (b : DBase) (n : ℕ) → l ≡ lefts.Whole b n → IsFormedLeft vs ls inside l
      → (base_fits vs ls inside b ≡ true) × ((base_length vs ls b ≡ n) × ((is_vector n ≡ true) × (left_length vs l ≡ n)))
  unfolding IsFormedLeft left_length
  formed_whole b n is h =
      let e = f.sized_whole vs l b n is in
      let t : (base_fits vs ls inside b && (base_length vs ls b == n) && is_vector n) ≡ true = sym (ap (λ (y : Place). y.formed ls inside) e) ∙ h in
      let k = and_left _ _ t in
      (and_left _ _ k, (eqb-true (base_length vs ls b) n (and_right _ _ k), (and_right _ _ t, ap (λ (y : Place). y.length) e)))

  pub formed_part : (b : DBase) (low : ℤ) (n : ℕ) → l ≡ lefts.Part b low n → IsFormedLeft vs ls inside l
      → (base_fits vs ls inside b ≡ true) × ((is_vector n ≡ true) × (left_length vs l ≡ n))
  unfolding IsFormedLeft left_length
  formed_part b low n is h =
      let e = f.sized_part vs l b low n is in
      let t : (base_fits vs ls inside b && is_vector n) ≡ true = sym (ap (λ (y : Place). y.formed ls inside) e) ∙ h in
      (and_left _ _ t, (and_right _ _ t, ap (λ (y : Place). y.length) e))

  pub formed_at : (b : DBase) (index : DExpr) (offset : ℤ) (down : Bool) (n : ℕ) → l ≡ lefts.At b index offset down n → IsFormedLeft vs ls inside l
      → (base_fits vs ls inside b ≡ true) × (IsFormed vs ls index × ((index.length ≤ 128) × ((is_vector n ≡ true) × (left_length vs l ≡ n))))
  unfolding IsFormed IsFormedLeft left_length
  formed_at b index offset down n is h =
      let e = f.sized_at vs l b index offset down n is in
      let x = sized_expr vs index in
      let t : (base_fits vs ls inside b && x.formed ls && is_narrow x.length && is_vector n) ≡ true = sym (ap (λ (y : Place). y.formed ls inside) e) ∙ h in
      let k = and_left _ _ t in
      let i = and_left _ _ k in
      (and_left _ _ i, (and_right _ _ i, (subst (λ m. m ≤ 128) (f.sized_length vs index) (leb-true x.length 128 (and_right _ _ k)), (and_right _ _ t, ap (λ (y : Place). y.length) e))))

  pub formed_left_parts : (parts : List DLeft) → l ≡ lefts.Concat parts → IsFormedLeft vs ls inside l
      → All (IsFormedLeft vs ls inside) parts × ((left_length vs l ≡ sum_by (left_length vs) parts) × (is_vector (left_length vs l) ≡ true))
  unfolding IsFormedLeft left_length
  formed_left_parts parts is h =
      let e = f.sized_left_concat vs l parts is in
      let ps = map (sized_left vs) parts in
      let t : (list_all (λ (x : Place). x.formed ls inside) ps && is_vector (sum (map (λ (x : Place). x.length) ps))) ≡ true = sym (ap (λ (y : Place). y.formed ls inside) e) ∙ h in
      let n = ap (λ (y : Place). y.length) e in
      (all_true (λ (x : Place). x.formed ls inside) (sized_left vs) parts (and_left _ _ t), (n ∙ lengths_sum vs parts, subst (λ m. is_vector m ≡ true) (sym n) (and_right _ _ t)))
