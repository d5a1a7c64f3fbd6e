-- Induction over the types of a tree at once: a fact holds of each tree that follows from the facts of its parts.
use denote.Param.Weighed.{most}
use Rattle.std.proofs.Common.{◌≡◌, ℕ, zero, suc, ◌<◌, ◌≤◌, List, [], ◌∷◌, map, refl, sym, ap, ap₂, ◌∙◌, arith, Option, Some, None}
use Rattle.design_core.specs.declared.tree.DExpr.{DExpr, size-DExpr}
use Rattle.design_core.specs.declared.tree.DNode.{DNode, out-DNode, roll-DNode, roll-out-DNode}
use Rattle.design_core.specs.declared.tree.DNode.TheVariants as node
use Rattle.design_core.specs.declared.tree.DLeft.{DLeft, out-DLeft, roll-DLeft, roll-out-DLeft, size-DLeft}
use Rattle.design_core.specs.declared.tree.DLeft.TheVariants as lefts
use Rattle.design_core.specs.declared.tree.DLeft.TheOpen.{DLeft-F, DNode-F, DStmt-F}
use Rattle.design_core.specs.declared.tree.DStmt.{DStmt, out-DStmt, roll-DStmt, roll-out-DStmt, size-DStmt}
use Rattle.design_core.specs.declared.tree.DStmt.TheVariants as stmts
use Rattle.design_core.specs.declared.tree.DArm.{DArm, out-DArm, size-DArm}
use Rattle.design_core.specs.declared.tree.DMatch.{DMatch, out-DMatch, size-DMatch}
use Rattle.design_core.specs.declared.tree.DFunction.{DFunction, size-DFunction}
use Rattle.design_core.proofs.SizeLaws as small

-- one layer of an expression, of a left side, of a statement
abbrev pub NodeLayer : Type 0
NodeLayer = DNode-F DLeft DNode DStmt DArm DExpr DFunction DMatch

abbrev pub LeftLayer : Type 0
LeftLayer = DLeft-F DLeft DNode DStmt DArm DExpr DFunction DMatch

abbrev pub StmtLayer : Type 0
StmtLayer = DStmt-F DLeft DNode DStmt DArm DExpr DFunction DMatch

-- a fact of each member
abbrev pub Each : {X : Type 0} → (X → Type 0) → List X → Type 0
Each P [] = Unit {0}
Each P (x ∷ xs) = P x × Each P xs

abbrev pub There : {X : Type 0} → (X → Type 0) → Option X → Type 0
There P None = Unit {0}
There P (Some x) = P x

-- two functions that agree on each member give the same list
pub same_map : {X Y : Type 0} (f g : X → Y) (xs : List X) → Each (λ x. f x ≡ g x) xs → map f xs ≡ map g xs
same_map f g [] h = refl
same_map f g (x ∷ xs) h = ap₂ (λ y ys. y ∷ ys) h.0 (same_map f g xs h.1)

pub same_items : {X : Type 0} (f : X → X) (xs : List X) → Each (λ x. f x ≡ x) xs → map f xs ≡ xs
same_items f [] h = refl
same_items f (x ∷ xs) h = ap₂ (λ y ys. y ∷ ys) h.0 (same_items f xs h.1)

pub node_is : (n : DNode) (x : NodeLayer) → out-DNode n ≡ x → n ≡ roll-DNode x
node_is n x is = sym (roll-out-DNode n) ∙ ap roll-DNode is

pub left_is : (l : DLeft) (x : LeftLayer) → out-DLeft l ≡ x → l ≡ roll-DLeft x
left_is l x is = sym (roll-out-DLeft l) ∙ ap roll-DLeft is

pub stmt_is : (s : DStmt) (x : StmtLayer) → out-DStmt s ≡ x → s ≡ roll-DStmt x
stmt_is s x is = sym (roll-out-DStmt s) ∙ ap roll-DStmt is

module _ (E : DExpr → Type 0) (L : DLeft → Type 0) (S : DStmt → Type 0) (A : DArm → Type 0) (F : DFunction → Type 0) (M : DMatch → Type 0) where
  -- the facts of the parts of a layer
  abbrev pub NodeParts : NodeLayer → Type 0
  NodeParts (DNode-F.Const bits) = Unit {0}
  NodeParts (DNode-F.Signal s) = Unit {0}
  NodeParts (DNode-F.Local k) = Unit {0}
  NodeParts (DNode-F.Select a low) = E a
  NodeParts (DNode-F.SelectAt a index offset down) = E a × E index
  NodeParts (DNode-F.Unary op a) = E a
  NodeParts (DNode-F.Binary op a b) = E a × E b
  NodeParts (DNode-F.Mux c a b) = E c × (E a × E b)
  NodeParts (DNode-F.Extend a by_sign) = E a
  NodeParts (DNode-F.«DNode::Concat» parts) = Each E parts
  NodeParts (DNode-F.Repeat count part) = E part
  NodeParts (DNode-F.Call function arguments) = F function × Each E arguments

  abbrev pub LeftParts : LeftLayer → Type 0
  LeftParts (DLeft-F.Whole b n) = Unit {0}
  LeftParts (DLeft-F.Part b low n) = Unit {0}
  LeftParts (DLeft-F.At b index offset down n) = E index
  LeftParts (DLeft-F.«DLeft::Concat» parts) = Each L parts

  abbrev pub StmtParts : StmtLayer → Type 0
  StmtParts (DStmt-F.Block parts) = Each S parts
  StmtParts (DStmt-F.Write l e blocking) = L l × E e
  StmtParts (DStmt-F.If test a b) = E test × (S a × S b)
  StmtParts (DStmt-F.Case selector arms rest) = E selector × (Each A arms × There S rest)
  StmtParts (DStmt-F.Turns parts) = Each S parts

  -- what is to be shown of each type
  pub record Steps : Type 0 where
    pub expr : (e : DExpr) → NodeParts (out-DNode e.node) → E e
    pub left : (l : DLeft) → LeftParts (out-DLeft l) → L l
    pub stmt : (s : DStmt) → StmtParts (out-DStmt s) → S s
    pub arm : (a : DArm) → Each M (out-DArm a).matches → S (out-DArm a).body → A a
    pub function : (f : DFunction) → S f.body → F f
    pub match : (m : DMatch) → E (out-DMatch m).value → M m

  -- the facts of all trees below a size
  pub record Below (n : ℕ) : Type 0 where
    pub exprs : (e : DExpr) → size-DExpr e < n → E e
    pub left_sides : (l : DLeft) → size-DLeft l < n → L l
    pub bodies : (s : DStmt) → size-DStmt s < n → S s
    pub arms : (a : DArm) → size-DArm a < n → A a
    pub functions : (f : DFunction) → size-DFunction f < n → F f
    pub matches : (m : DMatch) → size-DMatch m < n → M m

  each_expr : (n : ℕ) → Below n → (es : List DExpr) → most size-DExpr es < n → Each E es
  each_expr n w [] l = tt
  each_expr n w (e ∷ es) l = (w.exprs e (omega (arith, l)), each_expr n w es (omega (arith, l)))

  each_left : (n : ℕ) → Below n → (ls : List DLeft) → most size-DLeft ls < n → Each L ls
  each_left n w [] l = tt
  each_left n w (x ∷ ls) l = (w.left_sides x (omega (arith, l)), each_left n w ls (omega (arith, l)))

  each_stmt : (n : ℕ) → Below n → (ss : List DStmt) → most size-DStmt ss < n → Each S ss
  each_stmt n w [] l = tt
  each_stmt n w (s ∷ ss) l = (w.bodies s (omega (arith, l)), each_stmt n w ss (omega (arith, l)))

  each_arm : (n : ℕ) → Below n → (as' : List DArm) → most size-DArm as' < n → Each A as'
  each_arm n w [] l = tt
  each_arm n w (a ∷ as') l = (w.arms a (omega (arith, l)), each_arm n w as' (omega (arith, l)))

  each_match : (n : ℕ) → Below n → (ms : List DMatch) → most size-DMatch ms < n → Each M ms
  each_match n w [] l = tt
  each_match n w (m ∷ ms) l = (w.matches m (omega (arith, l)), each_match n w ms (omega (arith, l)))

  rest_there : (n : ℕ) → Below n → (rest : Option DStmt) → small.rest_size rest < n → There S rest
  rest_there n w None l = tt
  rest_there n w (Some s) l = w.bodies s l

  node_parts : (e : DExpr) → Below (size-DExpr e) → (x : NodeLayer) → out-DNode e.node ≡ x → NodeParts x
  node_parts e w (DNode-F.Const bits) is = tt
  node_parts e w (DNode-F.Signal s) is = tt
  node_parts e w (DNode-F.Local k) is = tt
  node_parts e w (DNode-F.Select a low) is = w.exprs a (small.smaller_select e a low (node_is e.node (DNode-F.Select a low) is ∙ node.rolls-Select a low))
  node_parts e w (DNode-F.SelectAt a index offset down) is =
      let l = small.smaller_select_at e a index offset down (node_is e.node (DNode-F.SelectAt a index offset down) is ∙ node.rolls-SelectAt a index offset down) in (w.exprs a l.0, w.exprs index l.1)
  node_parts e w (DNode-F.Unary op a) is = w.exprs a (small.smaller_unary e op a (node_is e.node (DNode-F.Unary op a) is ∙ node.rolls-Unary op a))
  node_parts e w (DNode-F.Binary op a b) is =
      let l = small.smaller_binary e op a b (node_is e.node (DNode-F.Binary op a b) is ∙ node.rolls-Binary op a b) in (w.exprs a l.0, w.exprs b l.1)
  node_parts e w (DNode-F.Mux c a b) is =
      let l = small.smaller_mux e c a b (node_is e.node (DNode-F.Mux c a b) is ∙ node.rolls-Mux c a b) in (w.exprs c l.0, (w.exprs a l.1, w.exprs b l.2))
  node_parts e w (DNode-F.Extend a by_sign) is = w.exprs a (small.smaller_extend e a by_sign (node_is e.node (DNode-F.Extend a by_sign) is ∙ node.rolls-Extend a by_sign))
  node_parts e w (DNode-F.«DNode::Concat» parts) is =
      each_expr (size-DExpr e) w parts (small.smaller_concat e parts (node_is e.node (DNode-F.«DNode::Concat» parts) is ∙ node.rolls-Concat parts))
  node_parts e w (DNode-F.Repeat count part) is = w.exprs part (small.smaller_repeat e count part (node_is e.node (DNode-F.Repeat count part) is ∙ node.rolls-Repeat count part))
  node_parts e w (DNode-F.Call function arguments) is =
      let l = small.smaller_call e function arguments (node_is e.node (DNode-F.Call function arguments) is ∙ node.rolls-Call function arguments) in
      (w.functions function l.0, each_expr (size-DExpr e) w arguments l.1)

  left_parts : (k : DLeft) → Below (size-DLeft k) → (x : LeftLayer) → out-DLeft k ≡ x → LeftParts x
  left_parts k w (DLeft-F.Whole b n) is = tt
  left_parts k w (DLeft-F.Part b low n) is = tt
  left_parts k w (DLeft-F.At b index offset down n) is =
      w.exprs index (small.smaller_index k b index offset down n (left_is k (DLeft-F.At b index offset down n) is ∙ lefts.rolls-At b index offset down n))
  left_parts k w (DLeft-F.«DLeft::Concat» parts) is = each_left (size-DLeft k) w parts (small.smaller_parts k parts (left_is k (DLeft-F.«DLeft::Concat» parts) is ∙ lefts.rolls-Concat parts))

  stmt_parts : (s : DStmt) → Below (size-DStmt s) → (x : StmtLayer) → out-DStmt s ≡ x → StmtParts x
  stmt_parts s w (DStmt-F.Block parts) is = each_stmt (size-DStmt s) w parts (small.smaller_block s parts (stmt_is s (DStmt-F.Block parts) is ∙ stmts.rolls-Block parts))
  stmt_parts s w (DStmt-F.Write k e blocking) is =
      let l = small.smaller_write s k e blocking (stmt_is s (DStmt-F.Write k e blocking) is ∙ stmts.rolls-Write k e blocking) in (w.left_sides k l.0, w.exprs e l.1)
  stmt_parts s w (DStmt-F.If test a b) is =
      let l = small.smaller_if s test a b (stmt_is s (DStmt-F.If test a b) is ∙ stmts.rolls-If test a b) in (w.exprs test l.0, (w.bodies a l.1, w.bodies b l.2))
  stmt_parts s w (DStmt-F.Case selector arms rest) is =
      let l = small.smaller_case s selector arms rest (stmt_is s (DStmt-F.Case selector arms rest) is ∙ stmts.rolls-Case selector arms rest) in
      (w.exprs selector l.0, (each_arm (size-DStmt s) w arms l.1, rest_there (size-DStmt s) w rest l.2))
  stmt_parts s w (DStmt-F.Turns parts) is = each_stmt (size-DStmt s) w parts (small.smaller_turns s parts (stmt_is s (DStmt-F.Turns parts) is ∙ stmts.rolls-Turns parts))

  fewer : (m n : ℕ) → m ≤ n → Below n → Below m
  fewer m n l w = record {
    exprs = λ e k. w.exprs e (omega (arith, k, l));
    left_sides = λ x k. w.left_sides x (omega (arith, k, l));
    bodies = λ s k. w.bodies s (omega (arith, k, l));
    arms = λ a k. w.arms a (omega (arith, k, l));
    functions = λ f k. w.functions f (omega (arith, k, l));
    matches = λ x k. w.matches x (omega (arith, k, l));
  }

  below_next : Steps → (n : ℕ) → Below n → Below (suc n)
  below_next steps n w = record {
    exprs = λ e l. steps.expr e (node_parts e (fewer (size-DExpr e) n (omega (arith, l)) w) (out-DNode e.node) refl);
    left_sides = λ x l. steps.left x (left_parts x (fewer (size-DLeft x) n (omega (arith, l)) w) (out-DLeft x) refl);
    bodies = λ s l. steps.stmt s (stmt_parts s (fewer (size-DStmt s) n (omega (arith, l)) w) (out-DStmt s) refl);
    arms = λ a l. (let k = small.smaller_arm a in
        let v = fewer (size-DArm a) n (omega (arith, l)) w in
        steps.arm a (each_match (size-DArm a) v (out-DArm a).matches k.0) (v.bodies (out-DArm a).body k.1));
    functions = λ f l. steps.function f (w.bodies f.body (let k = small.smaller_body f in omega (arith, k, l)));
    matches = λ m l. steps.match m (w.exprs (out-DMatch m).value (let k = small.smaller_match m in omega (arith, k, l)));
  }

  below : Steps → (n : ℕ) → Below n
  below steps zero = record {
    exprs = λ e l. absurd (omega (arith, l));
    left_sides = λ x l. absurd (omega (arith, l));
    bodies = λ s l. absurd (omega (arith, l));
    arms = λ a l. absurd (omega (arith, l));
    functions = λ f l. absurd (omega (arith, l));
    matches = λ x l. absurd (omega (arith, l));
  }
  below steps (suc n) = below_next steps n (below steps n)

  -- the facts of all trees
  pub of_expr : Steps → (e : DExpr) → E e
  of_expr steps e = (below steps (suc (size-DExpr e))).exprs e (omega arith)

  pub of_left : Steps → (l : DLeft) → L l
  of_left steps l = (below steps (suc (size-DLeft l))).left_sides l (omega arith)

  pub of_stmt : Steps → (s : DStmt) → S s
  of_stmt steps s = (below steps (suc (size-DStmt s))).bodies s (omega arith)

  pub of_arm : Steps → (a : DArm) → A a
  of_arm steps a = (below steps (suc (size-DArm a))).arms a (omega arith)

  pub of_function : Steps → (f : DFunction) → F f
  of_function steps f = (below steps (suc (size-DFunction f))).functions f (omega arith)

  pub of_match : Steps → (m : DMatch) → M m
  of_match steps m = (below steps (suc (size-DMatch m))).matches m (omega arith)
