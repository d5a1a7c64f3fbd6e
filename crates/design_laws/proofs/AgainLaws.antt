-- A tree under other numbers of signals, over lengths that agree on the signals that it names: it is formed alike, it weighs the same, and it is the renamed term.
use Rattle.std.proofs.Common.{◌≡◌, ℕ, Bool, true, false, not, ◌&&◌, if◌then◌else◌, List, [], ◌∷◌, map, length, inl, inr, refl, sym, ◌∙◌, ap, ap₂, arith, ◌++◌, ◌+◌, ◌||◌, Option, Some, None, ℤ, pos, negsuc, zero, suc}
use Rattle.std.specs.Prelude.{◌==◌, nat_lt, slice_index_or}
use Rattle.std.proofs.lemmas.Bool.Decides.{nat_tests}
use Rattle.design_core.specs.declared.tree.DBase.{DBase}
use Rattle.design_core.specs.declared.tree.DBase.TheVariants as base
use Rattle.design_core.specs.declared.tree.DExpr.{DExpr}
use Rattle.design_core.specs.declared.tree.DNode.{DNode, out-DNode, roll-DNode, out-roll-DNode, fold_out-DNode}
use Rattle.design_core.specs.declared.tree.DLeft.{DLeft, out-DLeft, roll-DLeft, out-roll-DLeft, fold_out-DLeft}
use Rattle.design_core.specs.declared.tree.DLeft.TheOpen.{DLeft-F, DNode-F, DStmt-F}
use Rattle.design_core.specs.declared.tree.DStmt.{DStmt, out-DStmt, roll-DStmt, out-roll-DStmt, fold_out-DStmt}
use Rattle.design_core.specs.declared.tree.DArm.{DArm, out-DArm, out-roll-DArm, fold_out-DArm}
use Rattle.design_core.specs.declared.tree.DFunction.{DFunction, fold_out-DFunction}
use Rattle.design_core.specs.declared.tree.DMatch.{DMatch, out-DMatch, out-roll-DMatch, fold_out-DMatch}
use Rattle.design_core.specs.Core.{Term, constant, span, own, app1, app2, app3, call, Args, pass, Left, both, slice, slice_at, Stmt, skip, seq, write, choose}
use Rattle.design_core.specs.Operators.{by_sign, lowest, all_match, one_bit}
use Rattle.bits_core.specs.Places.{is_set, selected}
use Rattle.design_core.specs.Formed.{Sized, Node, Place, Body, Branch, Routine, Choice, is_vector, is_narrow, variable_weight, base_fits, base_length, left_size, node_size, stmt_size, arm_size, function_size, match_size, sized_expr, sized_left, sized_stmt, sized_arm, sized_function, sized_match}
use Rattle.design_core.specs.Renamed.{moved_base, renamed, renamed_args, renamed_left, renamed_stmt}
use Rattle.design_core.specs.Renumbered.{node_renumbered, left_renumbered, renumbered_base, renumbered_expr, renumbered_node, renumbered_left, renumbered_stmt, renumbered_arm, renumbered_function, renumbered_match}
use Rattle.design_core.specs.Mentions.{Signals, and_also, of_all, of_rest, base_mentions, left_mentions, node_mentions, stmt_mentions, mentions_expr, mentions_left, mentions_stmt, mentions_arm, mentions_function, mentions_match}
use Rattle.design_core.specs.Terms.{Operand, base_of, size_of, select_of, chained, passed, all_left, in_turn, arms_in_turn, some_match, free_bits, lengths, left_step, node_step, stmt_step, arm_step, expr_step, function_step, match_step, folded_expr, folded_node, folded_left, folded_stmt, folded_arm, folded_function, folded_match}
use Rattle.design_core.proofs.BoolLaws.{or_cases, or_left, or_right}
use Rattle.design_core.proofs.FormedLaws as f
use Rattle.design_core.proofs.TermLaws as t
use Rattle.design_core.proofs.RenumberedLaws as r
use Rattle.design_core.proofs.MentionLaws as m
use Rattle.design_core.proofs.TreeInduction.{NodeLayer, LeftLayer, StmtLayer, Each, NodeParts, LeftParts, StmtParts, Steps}

same_number : (k : ℕ) → (k == k) ≡ true
same_number k = grind (arith, nat_tests)

-- two lists of images, member by member
map_again : {X Y : Type 0} (again : X → X) (g h : X → Y) (xs : List X) → Each (λ x. g (again x) ≡ h x) xs → map g (map again xs) ≡ map h xs
map_again again g h [] e = refl
map_again again g h (x ∷ xs) e = ap₂ (λ y ys. y ∷ ys) e.0 (map_again again g h xs e.1)

map_twice : {X Y Z : Type 0} (k : Y → Z) (g : X → Y) (xs : List X) → map k (map g xs) ≡ map (λ x. k (g x)) xs
map_twice k g [] = refl
map_twice k g (x ∷ xs) = ap (λ ys. k (g x) ∷ ys) (map_twice k g xs)

-- the core of each tree, by its layer
pub node_core : (size : ℕ → ℕ) (n : DNode) (x : NodeLayer) → out-DNode n ≡ x → folded_node size n ≡ node_step (t.node_parts size x)
node_core size n x is = fold_out-DNode Left (ℕ → Bool → Term) Stmt (Term → Stmt → Stmt) Operand (Args → Term) (Term → Term) (left_step size) node_step stmt_step arm_step expr_step function_step match_step n ∙ ap (λ y. node_step (t.node_parts size y)) is

pub left_core : (size : ℕ → ℕ) (l : DLeft) (x : LeftLayer) → out-DLeft l ≡ x → folded_left size l ≡ left_step size (t.left_parts size x)
left_core size l x is = fold_out-DLeft Left (ℕ → Bool → Term) Stmt (Term → Stmt → Stmt) Operand (Args → Term) (Term → Term) (left_step size) node_step stmt_step arm_step expr_step function_step match_step l ∙ ap (λ y. left_step size (t.left_parts size y)) is

pub stmt_core : (size : ℕ → ℕ) (s : DStmt) (x : StmtLayer) → out-DStmt s ≡ x → folded_stmt size s ≡ stmt_step (t.stmt_parts size x)
stmt_core size s x is = fold_out-DStmt Left (ℕ → Bool → Term) Stmt (Term → Stmt → Stmt) Operand (Args → Term) (Term → Term) (left_step size) node_step stmt_step arm_step expr_step function_step match_step s ∙ ap (λ y. stmt_step (t.stmt_parts size y)) is

pub arm_core : (size : ℕ → ℕ) (a : DArm) → folded_arm size a ≡ (λ selector rest. choose (some_match (map (folded_match size) (out-DArm a).matches) selector) (folded_stmt size (out-DArm a).body) rest)
arm_core size a = fold_out-DArm Left (ℕ → Bool → Term) Stmt (Term → Stmt → Stmt) Operand (Args → Term) (Term → Term) (left_step size) node_step stmt_step arm_step expr_step function_step match_step a

pub function_core : (size : ℕ → ℕ) (g : DFunction) → folded_function size g ≡ (λ as'. call as' (folded_stmt size g.body) g.length (lengths g.inputs) (lengths g.locals))
function_core size g = fold_out-DFunction Left (ℕ → Bool → Term) Stmt (Term → Stmt → Stmt) Operand (Args → Term) (Term → Term) (left_step size) node_step stmt_step arm_step expr_step function_step match_step g

pub match_core : (size : ℕ → ℕ) (x : DMatch) → folded_match size x ≡ (λ selector. app2 (λ a b. one_bit (all_match a b (free_bits (out-DMatch x).free))) selector (folded_expr size (out-DMatch x).value).core)
match_core size x = fold_out-DMatch Left (ℕ → Bool → Term) Stmt (Term → Stmt → Stmt) Operand (Args → Term) (Term → Term) (left_step size) node_step stmt_step arm_step expr_step function_step match_step x

-- a left side with a variable index
abbrev at_place : ℕ → (List ℕ → Bool → Bool) → (List ℕ → ℕ) → Sized → Place
at_place n fits long index = record {
  length = n;
  fixed = false;
  formed = λ ls inside. fits ls inside && index.formed ls && is_narrow index.length && is_vector n;
  weight = λ ls. variable_weight (long ls) index.length + index.weight ls;
}

module _ (ρ : ℕ → ℕ) where
  abbrev moved_operand : Operand → Operand
  moved_operand o = record { sign = o.sign; core = renamed ρ o.core }

  span_moved : (c : Bool) (s m : ℕ) (low : ℤ) (n k : ℕ)
      → (if c then span (ρ s) m low n else app1 (selected low n) (span (ρ s) m (pos zero) k)) ≡ renamed ρ (if c then span s m low n else app1 (selected low n) (span s m (pos zero) k))
  span_moved true s m low n k = refl
  span_moved false s m low n k = refl

  select_moved : (low : ℤ) (n : ℕ) (e : Term) → select_of low n (renamed ρ e) ≡ renamed ρ (select_of low n e)
  select_moved low n (constant v) = refl
  select_moved low n (span s m (pos zero) k) = span_moved (k == m) s m low n k
  select_moved low n (span s m (pos (suc j)) k) = refl
  select_moved low n (span s m (negsuc j) k) = refl
  select_moved low n (own k) = refl
  select_moved low n (app1 g a) = refl
  select_moved low n (app2 g a b) = refl
  select_moved low n (app3 g c a b) = refl
  select_moved low n (call arguments body k inputs locals) = refl

  chained_moved : (os : List Operand) → chained (map (λ (x : Operand). x.core) (map moved_operand os)) ≡ renamed ρ (chained (map (λ (x : Operand). x.core) os))
  chained_moved [] = refl
  chained_moved (o ∷ os) = ap (app2 (λ high low. low ++ high) (renamed ρ o.core)) (chained_moved os)

  passed_moved : (os : List Operand) → passed (map (λ (x : Operand). x.core) (map moved_operand os)) ≡ renamed_args ρ (passed (map (λ (x : Operand). x.core) os))
  passed_moved [] = refl
  passed_moved (o ∷ os) = ap (pass (renamed ρ o.core)) (passed_moved os)

  all_left_moved : (ls : List Left) → all_left (map (renamed_left ρ) ls) ≡ renamed_left ρ (all_left ls)
  all_left_moved [] = refl
  all_left_moved (l ∷ ls) = ap (both (renamed_left ρ l)) (all_left_moved ls)

  in_turn_moved : (ss : List Stmt) → in_turn (map (renamed_stmt ρ) ss) ≡ renamed_stmt ρ (in_turn ss)
  in_turn_moved [] = refl
  in_turn_moved (s ∷ ss) = ap (seq (renamed_stmt ρ s)) (in_turn_moved ss)

  base_moved : (b : DBase) → base_of (renumbered_base ρ b) ≡ moved_base ρ (base_of b)
  base_moved (base.Signal s) = refl
  base_moved (base.Local k) = refl

  -- a layer under other numbers
  abbrev pub node_again : NodeLayer → NodeLayer
  node_again (DNode-F.Const bits) = DNode-F.Const bits
  node_again (DNode-F.Signal s) = DNode-F.Signal (ρ s)
  node_again (DNode-F.Local k) = DNode-F.Local k
  node_again (DNode-F.Select a low) = DNode-F.Select (renumbered_expr ρ a) low
  node_again (DNode-F.SelectAt a index offset down) = DNode-F.SelectAt (renumbered_expr ρ a) (renumbered_expr ρ index) offset down
  node_again (DNode-F.Unary op a) = DNode-F.Unary op (renumbered_expr ρ a)
  node_again (DNode-F.Binary op a b) = DNode-F.Binary op (renumbered_expr ρ a) (renumbered_expr ρ b)
  node_again (DNode-F.Mux c a b) = DNode-F.Mux (renumbered_expr ρ c) (renumbered_expr ρ a) (renumbered_expr ρ b)
  node_again (DNode-F.Extend a by_sign) = DNode-F.Extend (renumbered_expr ρ a) by_sign
  node_again (DNode-F.«DNode::Concat» parts) = DNode-F.«DNode::Concat» (map (renumbered_expr ρ) parts)
  node_again (DNode-F.Repeat count part) = DNode-F.Repeat count (renumbered_expr ρ part)
  node_again (DNode-F.Call function arguments) = DNode-F.Call (renumbered_function ρ function) (map (renumbered_expr ρ) arguments)

  pub node_rolled : (x : NodeLayer) → node_renumbered ρ (r.node_parts ρ x) ≡ roll-DNode (node_again x)
  node_rolled (DNode-F.Const bits) = refl
  node_rolled (DNode-F.Signal s) = refl
  node_rolled (DNode-F.Local k) = refl
  node_rolled (DNode-F.Select a low) = refl
  node_rolled (DNode-F.SelectAt a index offset down) = refl
  node_rolled (DNode-F.Unary op a) = refl
  node_rolled (DNode-F.Binary op a b) = refl
  node_rolled (DNode-F.Mux c a b) = refl
  node_rolled (DNode-F.Extend a by_sign) = refl
  node_rolled (DNode-F.«DNode::Concat» parts) = refl
  node_rolled (DNode-F.Repeat count part) = refl
  node_rolled (DNode-F.Call function arguments) = refl

  abbrev pub left_again : LeftLayer → LeftLayer
  left_again (DLeft-F.Whole b n) = DLeft-F.Whole (renumbered_base ρ b) n
  left_again (DLeft-F.Part b low n) = DLeft-F.Part (renumbered_base ρ b) low n
  left_again (DLeft-F.At b index offset down n) = DLeft-F.At (renumbered_base ρ b) (renumbered_expr ρ index) offset down n
  left_again (DLeft-F.«DLeft::Concat» parts) = DLeft-F.«DLeft::Concat» (map (renumbered_left ρ) parts)

  pub left_rolled : (x : LeftLayer) → left_renumbered ρ (r.left_parts ρ x) ≡ roll-DLeft (left_again x)
  left_rolled (DLeft-F.Whole b n) = refl
  left_rolled (DLeft-F.Part b low n) = refl
  left_rolled (DLeft-F.At b index offset down n) = refl
  left_rolled (DLeft-F.«DLeft::Concat» parts) = refl

  -- a statement's layer under other numbers
  abbrev pub stmt_again : StmtLayer → StmtLayer
  stmt_again (DStmt-F.Block parts) = DStmt-F.Block (map (renumbered_stmt ρ) parts)
  stmt_again (DStmt-F.Write l e blocking) = DStmt-F.Write (renumbered_left ρ l) (renumbered_expr ρ e) blocking
  stmt_again (DStmt-F.If test a b) = DStmt-F.If (renumbered_expr ρ test) (renumbered_stmt ρ a) (renumbered_stmt ρ b)
  stmt_again (DStmt-F.Case selector arms None) = DStmt-F.Case (renumbered_expr ρ selector) (map (renumbered_arm ρ) arms) None
  stmt_again (DStmt-F.Case selector arms (Some rest)) = DStmt-F.Case (renumbered_expr ρ selector) (map (renumbered_arm ρ) arms) (Some (renumbered_stmt ρ rest))
  stmt_again (DStmt-F.Turns parts) = DStmt-F.Turns (map (renumbered_stmt ρ) parts)

  pub stmt_rolled : (x : StmtLayer) → roll-DStmt (r.stmt_parts ρ x) ≡ roll-DStmt (stmt_again x)
  stmt_rolled (DStmt-F.Block parts) = refl
  stmt_rolled (DStmt-F.Write l e blocking) = refl
  stmt_rolled (DStmt-F.If test a b) = refl
  stmt_rolled (DStmt-F.Case selector arms None) = refl
  stmt_rolled (DStmt-F.Case selector arms (Some rest)) = refl
  stmt_rolled (DStmt-F.Turns parts) = refl

  module _ (vs ws : List ℕ) where
    -- a signal has the same length under its other number, or stands in neither list
    abbrev pub Agree : ℕ → Type 0
    Agree s = (nat_lt (ρ s) (length ws) ≡ nat_lt s (length vs)) × (slice_index_or ws (ρ s) 0 ≡ slice_index_or vs s 0)

    abbrev pub Agrees : Signals → Type 0
    Agrees g = (s : ℕ) → g s ≡ true → Agree s

    abbrev sv : ℕ → ℕ
    sv s = slice_index_or vs s 0

    abbrev sw : ℕ → ℕ
    sw s = slice_index_or ws s 0

    first_agrees : (g h : Signals) → Agrees (and_also g h) → Agrees g
    first_agrees g h a s p = a s (or_left (g s) (h s) p)

    second_agrees : (g h : Signals) → Agrees (and_also g h) → Agrees h
    second_agrees g h a s p = a s (or_right (g s) (h s) p)

    abbrev pub E : DExpr → Type 0
    E e = Agrees (mentions_expr e) → (sized_expr ws (renumbered_expr ρ e) ≡ sized_expr vs e) × (folded_expr sw (renumbered_expr ρ e) ≡ moved_operand (folded_expr sv e))

    abbrev pub L : DLeft → Type 0
    L l = Agrees (mentions_left l) → (sized_left ws (renumbered_left ρ l) ≡ sized_left vs l) × (folded_left sw (renumbered_left ρ l) ≡ renamed_left ρ (folded_left sv l))

    abbrev pub S : DStmt → Type 0
    S s = Agrees (mentions_stmt s) → (sized_stmt ws (renumbered_stmt ρ s) ≡ sized_stmt vs s) × (folded_stmt sw (renumbered_stmt ρ s) ≡ renamed_stmt ρ (folded_stmt sv s))

    abbrev ArmMoved : DArm → Type 0
    ArmMoved a = (selector : Term) (rest : Stmt) → folded_arm sw (renumbered_arm ρ a) (renamed ρ selector) (renamed_stmt ρ rest) ≡ renamed_stmt ρ (folded_arm sv a selector rest)

    abbrev pub A : DArm → Type 0
    A a = Agrees (mentions_arm a) → (sized_arm ws (renumbered_arm ρ a) ≡ sized_arm vs a) × ArmMoved a

    abbrev pub F : DFunction → Type 0
    F g = Agrees (mentions_function g) → (sized_function ws (renumbered_function ρ g) ≡ sized_function vs g)
        × ((as' : Args) → folded_function sw (renumbered_function ρ g) (renamed_args ρ as') ≡ renamed ρ (folded_function sv g as'))

    abbrev MatchMoved : DMatch → Type 0
    MatchMoved x = (selector : Term) → folded_match sw (renumbered_match ρ x) (renamed ρ selector) ≡ renamed ρ (folded_match sv x selector)

    abbrev pub M : DMatch → Type 0
    M x = Agrees (mentions_match x) → (sized_match ws (renumbered_match ρ x) ≡ sized_match vs x) × MatchMoved x

    -- the facts of the members of a list, taken apart
    taken : {X : Type 0} (mention : X → Signals) (P Q : X → Type 0) (xs : List X) → Each (λ x. Agrees (mention x) → P x × Q x) xs → Agrees (of_all (map mention xs)) → Each P xs × Each Q xs
    taken mention P Q [] h a = (tt, tt)
    taken mention P Q (x ∷ xs) h a =
        let p = h.0 (first_agrees (mention x) (of_all (map mention xs)) a) in
        let q = taken mention P Q xs h.1 (second_agrees (mention x) (of_all (map mention xs)) a) in
        ((p.0, q.0), (p.1, q.1))

    exprs_same : (es : List DExpr) → Each E es → Agrees (of_all (map mentions_expr es))
        → (map (sized_expr ws) (map (renumbered_expr ρ) es) ≡ map (sized_expr vs) es) × (map (folded_expr sw) (map (renumbered_expr ρ) es) ≡ map moved_operand (map (folded_expr sv) es))
    exprs_same es h a =
        let p = taken mentions_expr (λ e. sized_expr ws (renumbered_expr ρ e) ≡ sized_expr vs e) (λ e. folded_expr sw (renumbered_expr ρ e) ≡ moved_operand (folded_expr sv e)) es h a in (
          map_again (renumbered_expr ρ) (sized_expr ws) (sized_expr vs) es p.0,
          map_again (renumbered_expr ρ) (folded_expr sw) (λ e. moved_operand (folded_expr sv e)) es p.1 ∙ sym (map_twice moved_operand (folded_expr sv) es),
        )

    lefts_same : (ls : List DLeft) → Each L ls → Agrees (of_all (map mentions_left ls))
        → (map (sized_left ws) (map (renumbered_left ρ) ls) ≡ map (sized_left vs) ls) × (map (folded_left sw) (map (renumbered_left ρ) ls) ≡ map (renamed_left ρ) (map (folded_left sv) ls))
    lefts_same ls h a =
        let p = taken mentions_left (λ l. sized_left ws (renumbered_left ρ l) ≡ sized_left vs l) (λ l. folded_left sw (renumbered_left ρ l) ≡ renamed_left ρ (folded_left sv l)) ls h a in (
          map_again (renumbered_left ρ) (sized_left ws) (sized_left vs) ls p.0,
          map_again (renumbered_left ρ) (folded_left sw) (λ l. renamed_left ρ (folded_left sv l)) ls p.1 ∙ sym (map_twice (renamed_left ρ) (folded_left sv) ls),
        )

    stmts_same : (ss : List DStmt) → Each S ss → Agrees (of_all (map mentions_stmt ss))
        → (map (sized_stmt ws) (map (renumbered_stmt ρ) ss) ≡ map (sized_stmt vs) ss) × (map (folded_stmt sw) (map (renumbered_stmt ρ) ss) ≡ map (renamed_stmt ρ) (map (folded_stmt sv) ss))
    stmts_same ss h a =
        let p = taken mentions_stmt (λ s. sized_stmt ws (renumbered_stmt ρ s) ≡ sized_stmt vs s) (λ s. folded_stmt sw (renumbered_stmt ρ s) ≡ renamed_stmt ρ (folded_stmt sv s)) ss h a in (
          map_again (renumbered_stmt ρ) (sized_stmt ws) (sized_stmt vs) ss p.0,
          map_again (renumbered_stmt ρ) (folded_stmt sw) (λ s. renamed_stmt ρ (folded_stmt sv s)) ss p.1 ∙ sym (map_twice (renamed_stmt ρ) (folded_stmt sv) ss),
        )

    arms_moved : (as' : List DArm) → Each ArmMoved as' → (selector : Term) (rest : Stmt)
        → arms_in_turn (map (folded_arm sw) (map (renumbered_arm ρ) as')) (renamed ρ selector) (renamed_stmt ρ rest) ≡ renamed_stmt ρ (arms_in_turn (map (folded_arm sv) as') selector rest)
    arms_moved [] h selector rest = refl
    arms_moved (a ∷ as') h selector rest =
        ap (folded_arm sw (renumbered_arm ρ a) (renamed ρ selector)) (arms_moved as' h.1 selector rest) ∙ h.0 selector (arms_in_turn (map (folded_arm sv) as') selector rest)

    matches_moved : (xs : List DMatch) → Each MatchMoved xs → (selector : Term)
        → some_match (map (folded_match sw) (map (renumbered_match ρ) xs)) (renamed ρ selector) ≡ renamed ρ (some_match (map (folded_match sv) xs) selector)
    matches_moved [] h selector = refl
    matches_moved (x ∷ xs) h selector = ap₂ (λ a b. app2 (λ a b. one_bit (is_set a || is_set b)) a b) (h.0 selector) (matches_moved xs h.1 selector)

    -- a layer, and the same layer under other numbers
    record NodeSame (x y : NodeLayer) : Type 0 where
      sized : (n : ℕ) → node_size ws (f.node_parts ws y) n ≡ node_size vs (f.node_parts vs x) n
      core : (n : ℕ) (k : Bool) → node_step (t.node_parts sw y) n k ≡ renamed ρ (node_step (t.node_parts sv x) n k)

    node_same : (x : NodeLayer) → NodeParts E L S A F M x → Agrees (node_mentions (m.node_signals x)) → NodeSame x (node_again x)
    node_same (DNode-F.Const bits) h a = record { sized = λ n. refl; core = λ n k. refl }
    node_same (DNode-F.Signal s) h a =
        let p = a s (same_number s) in
        record {
          sized = λ n. ap₂ (λ (u : Bool) (v : ℕ). let x : Node = record { formed = λ ls. u && (v == n); weight = λ ls. 0 } in x) p.0 p.1;
          core = λ n k. refl;
        }
    node_same (DNode-F.Local k) h a = record { sized = λ n. refl; core = λ n k. refl }
    node_same (DNode-F.Select e low) h a =
        let p = h a in
        record {
          sized = λ n. ap (λ (x : Sized). node_size vs (DNode-F.Select x low) n) p.0;
          core = λ n k. ap (λ (x : Operand). node_step (DNode-F.Select x low) n k) p.1 ∙ select_moved low n (folded_expr sv e).core;
        }
    node_same (DNode-F.SelectAt e index offset down) h a =
        let p = h.0 (first_agrees (mentions_expr e) (mentions_expr index) a) in
        let q = h.1 (second_agrees (mentions_expr e) (mentions_expr index) a) in
        record {
          sized = λ n. ap₂ (λ (x y : Sized). node_size vs (DNode-F.SelectAt x y offset down) n) p.0 q.0;
          core = λ n k. ap₂ (λ (x y : Operand). node_step (DNode-F.SelectAt x y offset down) n k) p.1 q.1;
        }
    node_same (DNode-F.Unary op e) h a =
        let p = h a in
        record {
          sized = λ n. ap (λ (x : Sized). node_size vs (DNode-F.Unary op x) n) p.0;
          core = λ n k. ap (λ (x : Operand). node_step (DNode-F.Unary op x) n k) p.1;
        }
    node_same (DNode-F.Binary op d e) h a =
        let p = h.0 (first_agrees (mentions_expr d) (mentions_expr e) a) in
        let q = h.1 (second_agrees (mentions_expr d) (mentions_expr e) a) in
        record {
          sized = λ n. ap₂ (λ (x y : Sized). node_size vs (DNode-F.Binary op x y) n) p.0 q.0;
          core = λ n k. ap₂ (λ (x y : Operand). node_step (DNode-F.Binary op x y) n k) p.1 q.1;
        }
    node_same (DNode-F.Mux c d e) h a =
        let p = h.0 (first_agrees (mentions_expr c) (and_also (mentions_expr d) (mentions_expr e)) a) in
        let b = second_agrees (mentions_expr c) (and_also (mentions_expr d) (mentions_expr e)) a in
        let q = h.1.0 (first_agrees (mentions_expr d) (mentions_expr e) b) in
        let s = h.1.1 (second_agrees (mentions_expr d) (mentions_expr e) b) in
        record {
          sized = λ n. ap (λ (x : Sized). node_size vs (DNode-F.Mux x (sized_expr ws (renumbered_expr ρ d)) (sized_expr ws (renumbered_expr ρ e))) n) p.0
              ∙ ap₂ (λ (y z : Sized). node_size vs (DNode-F.Mux (sized_expr vs c) y z) n) q.0 s.0;
          core = λ n k. ap (λ (x : Operand). node_step (DNode-F.Mux x (folded_expr sw (renumbered_expr ρ d)) (folded_expr sw (renumbered_expr ρ e))) n k) p.1
              ∙ ap₂ (λ (y z : Operand). node_step (DNode-F.Mux (moved_operand (folded_expr sv c)) y z) n k) q.1 s.1;
        }
    node_same (DNode-F.Extend e by_sign) h a =
        let p = h a in
        record {
          sized = λ n. ap (λ (x : Sized). node_size vs (DNode-F.Extend x by_sign) n) p.0;
          core = λ n k. ap (λ (x : Operand). node_step (DNode-F.Extend x by_sign) n k) p.1;
        }
    node_same (DNode-F.«DNode::Concat» parts) h a =
        let p = exprs_same parts h a in
        record {
          sized = λ n. ap (λ (xs : List Sized). node_size vs (DNode-F.«DNode::Concat» xs) n) p.0;
          core = λ n k. ap (λ (os : List Operand). chained (map (λ (x : Operand). x.core) os)) p.1 ∙ chained_moved (map (folded_expr sv) parts);
        }
    node_same (DNode-F.Repeat count part) h a =
        let p = h a in
        record {
          sized = λ n. ap (λ (x : Sized). node_size vs (DNode-F.Repeat count x) n) p.0;
          core = λ n k. ap (λ (x : Operand). node_step (DNode-F.Repeat count x) n k) p.1;
        }
    node_same (DNode-F.Call function arguments) h a =
        let p = h.0 (first_agrees (mentions_function function) (of_all (map mentions_expr arguments)) a) in
        let q = exprs_same arguments h.1 (second_agrees (mentions_function function) (of_all (map mentions_expr arguments)) a) in
        record {
          sized = λ n. ap₂ (λ (x : Routine) (ys : List Sized). node_size vs (DNode-F.Call x ys) n) p.0 q.0;
          core = λ n k. ap (λ (os : List Operand). folded_function sw (renumbered_function ρ function) (passed (map (λ (x : Operand). x.core) os))) q.1
              ∙ ap (folded_function sw (renumbered_function ρ function)) (passed_moved (map (folded_expr sv) arguments))
              ∙ p.1 (passed (map (λ (x : Operand). x.core) (map (folded_expr sv) arguments)));
        }

    expr_step_same : (e : DExpr) (x : NodeLayer) → out-DNode e.node ≡ x → NodeParts E L S A F M x → E e
    expr_step_same e x is h agrees =
        let a : Agrees (node_mentions (m.node_signals x)) = λ s p. agrees s (ap (λ (g : Signals). g s) (m.expr_mention e x is) ∙ p) in
        let same = node_same x h a in
        let y = node_again x in
        let n : out-DNode (renumbered_node ρ e.node) ≡ y = ap out-DNode (r.node_out ρ e.node x is ∙ node_rolled x) ∙ out-roll-DNode y in
        let e' : DExpr = record { length = e.length; signed = e.signed; node = renumbered_node ρ e.node } in (
          ap (sized_expr ws) (r.expr_out ρ e) ∙ f.expr_node ws e' y n ∙ ap (f.at_length e.length) (same.sized e.length) ∙ sym (f.expr_node vs e x is),
          ap (folded_expr sw) (r.expr_out ρ e) ∙ t.operand_out sw e'
              ∙ ap (λ (c : Term). let o : Operand = record { sign = e.signed; core = c } in o)
              (ap (λ (g : ℕ → Bool → Term). g e.length e.signed) (node_core sw (renumbered_node ρ e.node) y n) ∙ same.core e.length e.signed
              ∙ sym (ap (λ (g : ℕ → Bool → Term). renamed ρ (g e.length e.signed)) (node_core sv e.node x is)))
              ∙ sym (ap moved_operand (t.operand_out sv e)),
        )

    -- what a left side names
    abbrev base_fits_of : List ℕ → DBase → List ℕ → Bool → Bool
    base_fits_of us b ls inside = base_fits us ls inside b

    abbrev base_length_of : List ℕ → DBase → List ℕ → ℕ
    base_length_of us b ls = base_length us ls b

    record BaseSame (b : DBase) : Type 0 where
      fits : base_fits_of ws (renumbered_base ρ b) ≡ base_fits_of vs b
      long : base_length_of ws (renumbered_base ρ b) ≡ base_length_of vs b
      size : size_of sw (renumbered_base ρ b) ≡ size_of sv b

    base_same : (b : DBase) → Agrees (base_mentions b) → BaseSame b
    base_same (base.Signal s) a =
        let p = a s (same_number s) in
        record {
          fits = let w : Bool → List ℕ → Bool → Bool = λ u ls inside. not inside && u in ap w p.0;
          long = let w : ℕ → List ℕ → ℕ = λ v ls. v in ap w p.1;
          size = p.1;
        }
    base_same (base.Local k) a = record { fits = refl; long = refl; size = refl }

    record LeftSame (x y : LeftLayer) : Type 0 where
      sized : left_size ws (f.left_parts ws y) ≡ left_size vs (f.left_parts vs x)
      core : left_step sw (t.left_parts sw y) ≡ renamed_left ρ (left_step sv (t.left_parts sv x))

    left_same : (x : LeftLayer) → LeftParts E L S A F M x → Agrees (left_mentions (m.left_signals x)) → LeftSame x (left_again x)
    left_same (DLeft-F.Whole b n) h a =
        let p = base_same b a in
        record {
          sized = ap₂ (λ (fits : List ℕ → Bool → Bool) (long : List ℕ → ℕ).
              let x : Place = record { length = n; fixed = true; formed = λ ls inside. fits ls inside && (long ls == n) && is_vector n; weight = λ ls. 0 } in x) p.fits p.long;
          core = ap (λ c. slice c n (pos 0) n) (base_moved b);
        }
    left_same (DLeft-F.Part b low n) h a =
        let p = base_same b a in
        record {
          sized = ap (λ (fits : List ℕ → Bool → Bool).
              let x : Place = record { length = n; fixed = true; formed = λ ls inside. fits ls inside && is_vector n; weight = λ ls. 0 } in x) p.fits;
          core = ap₂ (λ c j. slice c j low n) (base_moved b) p.size;
        }
    left_same (DLeft-F.At b index offset down n) h a =
        let p = base_same b (first_agrees (base_mentions b) (mentions_expr index) a) in
        let q = h (second_agrees (base_mentions b) (mentions_expr index) a) in
        record {
          sized = ap₂ (λ (fits : List ℕ → Bool → Bool) (long : List ℕ → ℕ). at_place n fits long (sized_expr ws (renumbered_expr ρ index))) p.fits p.long
              ∙ ap (at_place n (base_fits_of vs b) (base_length_of vs b)) q.0;
          core = ap₂ (λ c j. slice_at c j (lowest offset down (folded_expr sw (renumbered_expr ρ index)).sign) (folded_expr sw (renumbered_expr ρ index)).core n) (base_moved b) p.size
              ∙ ap (λ (x : Operand). slice_at (moved_base ρ (base_of b)) (size_of sv b) (lowest offset down x.sign) x.core n) q.1;
        }
    left_same (DLeft-F.«DLeft::Concat» parts) h a =
        let p = lefts_same parts h a in
        record {
          sized = ap (λ (xs : List Place). left_size vs (DLeft-F.«DLeft::Concat» xs)) p.0;
          core = ap all_left p.1 ∙ all_left_moved (map (folded_left sv) parts);
        }

    left_step_same : (l : DLeft) (x : LeftLayer) → out-DLeft l ≡ x → LeftParts E L S A F M x → L l
    left_step_same l x is h agrees =
        let a : Agrees (left_mentions (m.left_signals x)) = λ s p. agrees s (ap (λ (g : Signals). g s) (m.left_mention l x is) ∙ p) in
        let same = left_same x h a in
        let y = left_again x in
        let n : out-DLeft (renumbered_left ρ l) ≡ y = ap out-DLeft (r.left_out ρ l x is ∙ left_rolled x) ∙ out-roll-DLeft y in (
          f.left_node ws (renumbered_left ρ l) y n ∙ same.sized ∙ sym (f.left_node vs l x is),
          left_core sw (renumbered_left ρ l) y n ∙ same.core ∙ sym (ap (renamed_left ρ) (left_core sv l x is)),
        )

    record StmtSame (x y : StmtLayer) : Type 0 where
      sized : stmt_size (f.stmt_parts ws y) ≡ stmt_size (f.stmt_parts vs x)
      core : stmt_step (t.stmt_parts sw y) ≡ renamed_stmt ρ (stmt_step (t.stmt_parts sv x))

    case_same : (selector : DExpr) (arms : List DArm) (rest rest' : Option Body) (tail tail' : Stmt) → E selector → Each A arms → Agrees (and_also (mentions_expr selector) (of_all (map mentions_arm arms)))
        → rest' ≡ rest → tail' ≡ renamed_stmt ρ tail
        → (stmt_size (DStmt-F.Case (sized_expr ws (renumbered_expr ρ selector)) (map (sized_arm ws) (map (renumbered_arm ρ) arms)) rest') ≡ stmt_size (DStmt-F.Case (sized_expr vs selector) (map (sized_arm vs) arms) rest))
        × (arms_in_turn (map (folded_arm sw) (map (renumbered_arm ρ) arms)) (folded_expr sw (renumbered_expr ρ selector)).core tail' ≡ renamed_stmt ρ (arms_in_turn (map (folded_arm sv) arms) (folded_expr sv selector).core tail))
    case_same selector arms rest rest' tail tail' h g a same moved =
        let p = h (first_agrees (mentions_expr selector) (of_all (map mentions_arm arms)) a) in
        let q = taken mentions_arm (λ x. sized_arm ws (renumbered_arm ρ x) ≡ sized_arm vs x) ArmMoved arms g (second_agrees (mentions_expr selector) (of_all (map mentions_arm arms)) a) in (
          ap₂ (λ (x : Sized) (ys : List Branch). stmt_size (DStmt-F.Case x ys rest')) p.0 (map_again (renumbered_arm ρ) (sized_arm ws) (sized_arm vs) arms q.0)
              ∙ ap (λ (z : Option Body). stmt_size (DStmt-F.Case (sized_expr vs selector) (map (sized_arm vs) arms) z)) same,
          ap₂ (λ (x : Operand) (z : Stmt). arms_in_turn (map (folded_arm sw) (map (renumbered_arm ρ) arms)) x.core z) p.1 moved ∙ arms_moved arms q.1 (folded_expr sv selector).core tail,
        )

    stmt_same : (x : StmtLayer) → StmtParts E L S A F M x → Agrees (stmt_mentions (m.stmt_signals x)) → StmtSame x (stmt_again x)
    stmt_same (DStmt-F.Block parts) h a =
        let p = stmts_same parts h a in
        record { sized = ap (λ (xs : List Body). stmt_size (DStmt-F.Block xs)) p.0; core = ap in_turn p.1 ∙ in_turn_moved (map (folded_stmt sv) parts) }
    stmt_same (DStmt-F.Turns parts) h a =
        let p = stmts_same parts h a in
        record { sized = ap (λ (xs : List Body). stmt_size (DStmt-F.Turns xs)) p.0; core = ap in_turn p.1 ∙ in_turn_moved (map (folded_stmt sv) parts) }
    stmt_same (DStmt-F.Write l e blocking) h a =
        let p = h.0 (first_agrees (mentions_left l) (mentions_expr e) a) in
        let q = h.1 (second_agrees (mentions_left l) (mentions_expr e) a) in
        record {
          sized = ap₂ (λ (x : Place) (y : Sized). stmt_size (DStmt-F.Write x y blocking)) p.0 q.0;
          core = ap₂ (λ (x : Left) (y : Operand). write x y.core blocking) p.1 q.1;
        }
    stmt_same (DStmt-F.If test b c) h a =
        let p = h.0 (first_agrees (mentions_expr test) (and_also (mentions_stmt b) (mentions_stmt c)) a) in
        let d = second_agrees (mentions_expr test) (and_also (mentions_stmt b) (mentions_stmt c)) a in
        let q = h.1.0 (first_agrees (mentions_stmt b) (mentions_stmt c) d) in
        let s = h.1.1 (second_agrees (mentions_stmt b) (mentions_stmt c) d) in
        record {
          sized = ap (λ (x : Sized). stmt_size (DStmt-F.If x (sized_stmt ws (renumbered_stmt ρ b)) (sized_stmt ws (renumbered_stmt ρ c)))) p.0
              ∙ ap₂ (λ (y z : Body). stmt_size (DStmt-F.If (sized_expr vs test) y z)) q.0 s.0;
          core = ap (λ (x : Operand). choose x.core (folded_stmt sw (renumbered_stmt ρ b)) (folded_stmt sw (renumbered_stmt ρ c))) p.1
              ∙ ap₂ (λ (y z : Stmt). choose (renamed ρ (folded_expr sv test).core) y z) q.1 s.1;
        }
    stmt_same (DStmt-F.Case selector arms None) h a =
        let b : Agrees (and_also (mentions_expr selector) (of_all (map mentions_arm arms))) = λ s p. a s (elim (or_cases (mentions_expr selector s) (of_all (map mentions_arm arms) s) p) [
          | inl q ↦ or_left (mentions_expr selector s) (and_also (of_all (map mentions_arm arms)) (of_rest None) s) q
          | inr q ↦ or_right (mentions_expr selector s) (and_also (of_all (map mentions_arm arms)) (of_rest None) s) (or_left (of_all (map mentions_arm arms) s) false q)
        ]) in
        let p = case_same selector arms None None skip skip h.0 h.1.0 b refl refl in
        record { sized = p.0; core = p.1 }
    stmt_same (DStmt-F.Case selector arms (Some rest)) h a =
        let b : Agrees (and_also (mentions_expr selector) (of_all (map mentions_arm arms))) = λ s p. a s (elim (or_cases (mentions_expr selector s) (of_all (map mentions_arm arms) s) p) [
          | inl q ↦ or_left (mentions_expr selector s) (of_all (map mentions_arm arms) s || mentions_stmt rest s) q
          | inr q ↦ or_right (mentions_expr selector s) (of_all (map mentions_arm arms) s || mentions_stmt rest s) (or_left (of_all (map mentions_arm arms) s) (mentions_stmt rest s) q)
        ]) in
        let c : Agrees (mentions_stmt rest) = λ s p. a s (or_right (mentions_expr selector s) (of_all (map mentions_arm arms) s || mentions_stmt rest s) (or_right (of_all (map mentions_arm arms) s) (mentions_stmt rest s) p)) in
        let q = h.1.1 c in
        let p = case_same selector arms (Some (sized_stmt vs rest)) (Some (sized_stmt ws (renumbered_stmt ρ rest))) (folded_stmt sv rest) (folded_stmt sw (renumbered_stmt ρ rest)) h.0 h.1.0 b (ap Some q.0) q.1 in
        record { sized = p.0; core = p.1 }

    stmt_step_same : (s : DStmt) (x : StmtLayer) → out-DStmt s ≡ x → StmtParts E L S A F M x → S s
    stmt_step_same s x is h agrees =
        let a : Agrees (stmt_mentions (m.stmt_signals x)) = λ j p. agrees j (ap (λ (g : Signals). g j) (m.stmt_mention s x is) ∙ p) in
        let same = stmt_same x h a in
        let y = stmt_again x in
        let n : out-DStmt (renumbered_stmt ρ s) ≡ y = ap out-DStmt (r.stmt_out ρ s x is ∙ stmt_rolled x) ∙ out-roll-DStmt y in (
          f.stmt_node ws (renumbered_stmt ρ s) y n ∙ same.sized ∙ sym (f.stmt_node vs s x is),
          stmt_core sw (renumbered_stmt ρ s) y n ∙ same.core ∙ sym (ap (renamed_stmt ρ) (stmt_core sv s x is)),
        )

    arm_step_same : (a : DArm) → Each M (out-DArm a).matches → S (out-DArm a).body → A a
    arm_step_same a h g agrees =
        let b : Agrees (and_also (of_all (map mentions_match (out-DArm a).matches)) (mentions_stmt (out-DArm a).body)) = λ s p. agrees s (ap (λ (g : Signals). g s) (m.arm_mention a) ∙ p) in
        let p = taken mentions_match (λ x. sized_match ws (renumbered_match ρ x) ≡ sized_match vs x) MatchMoved (out-DArm a).matches h (first_agrees (of_all (map mentions_match (out-DArm a).matches)) (mentions_stmt (out-DArm a).body) b) in
        let q = g (second_agrees (of_all (map mentions_match (out-DArm a).matches)) (mentions_stmt (out-DArm a).body) b) in
        let again = out-roll-DArm (record { matches = map (renumbered_match ρ) (out-DArm a).matches; body = renumbered_stmt ρ (out-DArm a).body }) in
        let is = ap out-DArm (r.arm_out ρ a) ∙ again in (
          f.sized_arm_is ws (renumbered_arm ρ a) ∙ ap (λ y. arm_size (record { matches = map (sized_match ws) y.matches; body = sized_stmt ws y.body })) is
              ∙ ap₂ (λ (xs : List Choice) (y : Body). arm_size (record { matches = xs; body = y })) (map_again (renumbered_match ρ) (sized_match ws) (sized_match vs) (out-DArm a).matches p.0) q.0
              ∙ sym (f.sized_arm_is vs a),
          λ selector rest. (ap (λ (k : Term → Stmt → Stmt). k (renamed ρ selector) (renamed_stmt ρ rest)) (arm_core sw (renumbered_arm ρ a))
              ∙ ap (λ y. choose (some_match (map (folded_match sw) y.matches) (renamed ρ selector)) (folded_stmt sw y.body) (renamed_stmt ρ rest)) is
              ∙ ap₂ (λ (x : Term) (y : Stmt). choose x y (renamed_stmt ρ rest)) (matches_moved (out-DArm a).matches p.1 selector) q.1
              ∙ sym (ap (λ (k : Term → Stmt → Stmt). renamed_stmt ρ (k selector rest)) (arm_core sv a))),
        )

    function_step_same : (g : DFunction) → S g.body → F g
    function_step_same g h agrees =
        let b : Agrees (mentions_stmt g.body) = λ s p. agrees s (ap (λ (k : Signals). k s) (m.function_mention g) ∙ p) in
        let p = h b in
        let g' : DFunction = record { length = g.length; signed = g.signed; inputs = g.inputs; locals = g.locals; body = renumbered_stmt ρ g.body } in (
          ap (sized_function ws) (r.function_out ρ g) ∙ f.sized_function_is ws g'
              ∙ ap (λ (y : Body). function_size (record { length = g.length; signed = g.signed; inputs = g.inputs; locals = g.locals; body = y })) p.0
              ∙ sym (f.sized_function_is vs g),
          λ as'. (ap (λ k. folded_function sw k (renamed_args ρ as')) (r.function_out ρ g) ∙ ap (λ (k : Args → Term). k (renamed_args ρ as')) (function_core sw g')
              ∙ ap (λ (y : Stmt). call (renamed_args ρ as') y g.length (lengths g.inputs) (lengths g.locals)) p.1
              ∙ sym (ap (λ (k : Args → Term). renamed ρ (k as')) (function_core sv g))),
        )

    match_step_same : (x : DMatch) → E (out-DMatch x).value → M x
    match_step_same x h agrees =
        let b : Agrees (mentions_expr (out-DMatch x).value) = λ s p. agrees s (ap (λ (k : Signals). k s) (m.match_mention x) ∙ p) in
        let p = h b in
        let is = ap out-DMatch (r.match_out ρ x) ∙ out-roll-DMatch (record { value = renumbered_expr ρ (out-DMatch x).value; free = (out-DMatch x).free }) in (
          f.sized_match_is ws (renumbered_match ρ x) ∙ ap (λ y. match_size (record { value = sized_expr ws y.value; free = y.free })) is
              ∙ ap (λ (y : Sized). match_size (record { value = y; free = (out-DMatch x).free })) p.0
              ∙ sym (f.sized_match_is vs x),
          λ selector. (ap (λ (k : Term → Term). k (renamed ρ selector)) (match_core sw (renumbered_match ρ x))
              ∙ ap (λ y. app2 (λ a b. one_bit (all_match a b (free_bits y.free))) (renamed ρ selector) (folded_expr sw y.value).core) is
              ∙ ap (λ (y : Operand). app2 (λ a b. one_bit (all_match a b (free_bits (out-DMatch x).free))) (renamed ρ selector) y.core) p.1
              ∙ sym (ap (λ (k : Term → Term). renamed ρ (k selector)) (match_core sv x))),
        )

    pub steps : Steps E L S A F M
    steps = record {
      expr = λ e h. expr_step_same e (out-DNode e.node) refl h;
      left = λ l h. left_step_same l (out-DLeft l) refl h;
      stmt = λ s h. stmt_step_same s (out-DStmt s) refl h;
      arm = arm_step_same;
      function = function_step_same;
      match = match_step_same;
    }
