-- What a tree weighs, in its parts.
use Rattle.std.proofs.Common.{◌≡◌, ℕ, ◌+◌, ◌*◌, Bool, List, [], ◌∷◌, ◌++◌, length, map, sum, Some, None, ap, ap₂, refl, ◌∙◌, ℤ, arith, mul-add}
use Rattle.std.proofs.lemmas.List.{length-map}
use Rattle.std.proofs.lemmas.List.Sums.{sum_by-cons}
use Rattle.design_core.specs.declared.tree.DBase.{DBase}
use Rattle.design_core.specs.declared.tree.DExpr.{DExpr}
use Rattle.design_core.specs.declared.tree.DNode.{out-DNode}
use Rattle.design_core.specs.declared.tree.DLeft.{DLeft}
use Rattle.design_core.specs.declared.tree.DLeft.TheOpen.{DNode-F, DStmt-F}
use Rattle.design_core.specs.declared.tree.DLeft.TheVariants as lefts
use Rattle.design_core.specs.declared.tree.DStmt.{DStmt, out-DStmt}
use Rattle.design_core.specs.declared.tree.DArm.{DArm, out-DArm}
use Rattle.design_core.specs.declared.tree.DMatch.{DMatch}
use Rattle.design_core.specs.declared.tree.DFunction.{DFunction}
use Rattle.design_core.specs.Formed.{Sized, Place, Body, Branch, Routine, Choice, all_weights, base_length, binary_weight, expr_weight, left_length, node_size, sized_arm, sized_expr, sized_left, sized_match, sized_stmt, stmt_size, stmt_weight, unary_weight, variable_weight}
use Rattle.design_core.specs.Terms.{lengths}
use Rattle.design_core.proofs.FormedLaws.{expr_out, node_parts, sized_length, stmt_node, stmt_parts, sized_whole, sized_part, sized_at, sized_left_concat, sized_arm_is, sized_match_is, sized_function_is}
use Rattle.tree_weights.specs.Spines.{NodeLayer, StmtLayer, arms_weight, before_last, before_last_in, beside, beside_in, exprs_weight, function_weight, last, last_in, last_weight, left_weight, lefts_weight, lengths_sum, matches_weight, spine, spine_in, spine_weight, stmts_weight}

sum_more : (n : ℕ) (ns : List ℕ) → sum (n ∷ ns) ≡ n + sum ns
sum_more n ns = sum_by-cons (λ (x : ℕ). x) n ns

module _ (vs : List ℕ) where
  module _ (ls : List ℕ) where
    exprs_sum : (es : List DExpr) → all_weights (map (sized_expr vs) es) ls ≡ exprs_weight vs ls es
    unfolding expr_weight
    exprs_sum [] = refl
    exprs_sum (e ∷ es) = sum_more ((sized_expr vs e).weight ls) (map (λ (x : Sized). x.weight ls) (map (sized_expr vs) es)) ∙ ap (λ n. (sized_expr vs e).weight ls + n) (exprs_sum es)

    stmts_sum : (ss : List DStmt) → sum (map (λ (x : Body). x.weight ls) (map (sized_stmt vs) ss)) ≡ stmts_weight vs ls ss
    unfolding stmt_weight
    stmts_sum [] = refl
    stmts_sum (s ∷ ss) = sum_more ((sized_stmt vs s).weight ls) (map (λ (x : Body). x.weight ls) (map (sized_stmt vs) ss)) ∙ ap (λ n. (sized_stmt vs s).weight ls + n) (stmts_sum ss)

    lefts_sum : (xs : List DLeft) → sum (map (λ (x : Place). x.weight ls) (map (sized_left vs) xs)) ≡ lefts_weight vs ls xs
    unfolding left_weight
    lefts_sum [] = refl
    lefts_sum (x ∷ xs) = sum_more ((sized_left vs x).weight ls) (map (λ (y : Place). y.weight ls) (map (sized_left vs) xs)) ∙ ap (λ n. (sized_left vs x).weight ls + n) (lefts_sum xs)

    matches_sum : (ms : List DMatch) → sum (map (λ (x : Choice). x.weight ls) (map (sized_match vs) ms)) ≡ matches_weight vs ls ms
    unfolding expr_weight
    matches_sum [] = refl
    matches_sum (m ∷ ms) = sum_more ((sized_match vs m).weight ls) (map (λ (x : Choice). x.weight ls) (map (sized_match vs) ms)) ∙ ap₂ (λ x y. x + y) (ap (λ (x : Choice). x.weight ls) (sized_match_is vs m)) (matches_sum ms)

    items_of : (a : DArm) → (sized_arm vs a).items ≡ length (out-DArm a).matches
    items_of a = ap (λ (x : Branch). x.items) (sized_arm_is vs a) ∙ length-map (out-DArm a).matches (sized_match vs)

    arm_sum : (a : DArm) → (sized_arm vs a).weight ls ≡ matches_weight vs ls (out-DArm a).matches + stmt_weight vs ls (out-DArm a).body
    unfolding stmt_weight
    arm_sum a = ap (λ (x : Branch). x.weight ls) (sized_arm_is vs a) ∙ ap (λ n. n + (sized_stmt vs (out-DArm a).body).weight ls) (matches_sum (out-DArm a).matches)

    arms_sum : (n : ℕ) (arms : List DArm) → n * sum (map (λ (x : Branch). x.items) (map (sized_arm vs) arms)) + sum (map (λ (x : Branch). x.weight ls) (map (sized_arm vs) arms)) ≡ arms_weight vs ls n arms
    arms_sum n [] = omega arith
    arms_sum n (a ∷ arms) =
        let i = items_of a in
        let p = sum_more (sized_arm vs a).items (map (λ (x : Branch). x.items) (map (sized_arm vs) arms)) in
        let q = sum_more ((sized_arm vs a).weight ls) (map (λ (x : Branch). x.weight ls) (map (sized_arm vs) arms)) in
        let r = ap (λ k. n * k) p in
        let w = arm_sum a in
        let h = arms_sum n arms in
        let d = mul-add n (sized_arm vs a).items (sum (map (λ (x : Branch). x.items) (map (sized_arm vs) arms))) in
        let e = ap (λ k. n * k) i in
        omega (arith, w, h, d, e, q, r)

    split_node : (x : NodeLayer) (n : ℕ) → (node_size vs (node_parts vs x) n).weight ls ≡ beside_in vs ls x n + spine_weight vs ls (spine_in x)
    unfolding expr_weight function_weight
    split_node (DNode-F.Const bits) n = refl
    split_node (DNode-F.Signal s) n = refl
    split_node (DNode-F.Local k) n = refl
    split_node (DNode-F.Select e low) n = omega arith
    split_node (DNode-F.SelectAt e index offset down) n = let p = sized_length vs e in let q = sized_length vs index in omega (arith, p, q)
    split_node (DNode-F.Unary op a) n = ap (λ k. unary_weight op k + (sized_expr vs a).weight ls) (sized_length vs a)
    split_node (DNode-F.Binary op a b) n =
        let both = ap₂ (binary_weight op) (sized_length vs a) (sized_length vs b) in omega (arith, both)
    split_node (DNode-F.Mux c a b) n = refl
    split_node (DNode-F.Extend a keeps) n = omega arith
    split_node (DNode-F.«DNode::Concat» parts) n = let s = exprs_sum parts in omega (arith, s)
    split_node (DNode-F.Repeat count part) n = omega arith
    split_node (DNode-F.Call function arguments) n = let s = exprs_sum arguments in omega (arith, s)

    pub split_expr : (e : DExpr) → expr_weight vs ls e ≡ beside vs ls e.node e.length + spine_weight vs ls (spine e.node)
    unfolding expr_weight beside spine
    split_expr e = ap (λ (x : Sized). x.weight ls) (expr_out vs e) ∙ split_node (out-DNode e.node) e.length

    split_body : (x : StmtLayer) → (stmt_size (stmt_parts vs x)).weight ls ≡ before_last_in vs ls x + last_weight vs ls (last_in x)
    unfolding expr_weight stmt_weight left_weight left_length
    split_body (DStmt-F.Block parts) = let s = stmts_sum parts in omega (arith, s)
    split_body (DStmt-F.Write left right blocking) = omega arith
    split_body (DStmt-F.If test a b) = omega arith
    split_body (DStmt-F.Case selector arms None) = let s = arms_sum selector.length arms in let p = sized_length vs selector in
        let q = ap (λ k. k * sum (map (λ (x : Branch). x.items) (map (sized_arm vs) arms))) p in omega (arith, s, q)
    split_body (DStmt-F.Case selector arms (Some rest)) = let s = arms_sum selector.length arms in let p = sized_length vs selector in
        let q = ap (λ k. k * sum (map (λ (x : Branch). x.items) (map (sized_arm vs) arms))) p in omega (arith, s, q)
    split_body (DStmt-F.Turns parts) = let s = stmts_sum parts in let n = length-map parts (sized_stmt vs) in omega (arith, s, n)

    pub split_stmt : (s : DStmt) → stmt_weight vs ls s ≡ before_last vs ls s + last_weight vs ls (last s)
    unfolding stmt_weight before_last last
    split_stmt s = ap (λ (x : Body). x.weight ls) (stmt_node vs s (out-DStmt s) refl) ∙ split_body (out-DStmt s)

    pub left-Whole : (b : DBase) (n : ℕ) → left_weight vs ls (lefts.Whole b n) ≡ 0
    unfolding left_weight
    left-Whole b n = ap (λ (x : Place). x.weight ls) (sized_whole vs (lefts.Whole b n) b n refl)

    pub left-Part : (b : DBase) (low : ℤ) (n : ℕ) → left_weight vs ls (lefts.Part b low n) ≡ 0
    unfolding left_weight
    left-Part b low n = ap (λ (x : Place). x.weight ls) (sized_part vs (lefts.Part b low n) b low n refl)

    pub left-At : (b : DBase) (index : DExpr) (offset : ℤ) (down : Bool) (n : ℕ)
        → left_weight vs ls (lefts.At b index offset down n) ≡ variable_weight (base_length vs ls b) index.length + expr_weight vs ls index
    unfolding left_weight expr_weight
    left-At b index offset down n =
        ap (λ (x : Place). x.weight ls) (sized_at vs (lefts.At b index offset down n) b index offset down n refl)
        ∙ ap (λ k. variable_weight (base_length vs ls b) k + (sized_expr vs index).weight ls) (sized_length vs index)

    pub left-Concat : (parts : List DLeft) → left_weight vs ls (lefts.Concat parts) ≡ lefts_weight vs ls parts
    unfolding left_weight
    left-Concat parts = ap (λ (x : Place). x.weight ls) (sized_left_concat vs (lefts.Concat parts) parts refl) ∙ lefts_sum parts

  pub length-Whole : (b : DBase) (n : ℕ) → left_length vs (lefts.Whole b n) ≡ n
  unfolding left_length
  length-Whole b n = ap (λ (x : Place). x.length) (sized_whole vs (lefts.Whole b n) b n refl)

  pub length-Part : (b : DBase) (low : ℤ) (n : ℕ) → left_length vs (lefts.Part b low n) ≡ n
  unfolding left_length
  length-Part b low n = ap (λ (x : Place). x.length) (sized_part vs (lefts.Part b low n) b low n refl)

  pub length-At : (b : DBase) (index : DExpr) (offset : ℤ) (down : Bool) (n : ℕ) → left_length vs (lefts.At b index offset down n) ≡ n
  unfolding left_length
  length-At b index offset down n = ap (λ (x : Place). x.length) (sized_at vs (lefts.At b index offset down n) b index offset down n refl)

  lengths_are : (xs : List DLeft) → sum (map (λ (x : Place). x.length) (map (sized_left vs) xs)) ≡ lengths_sum vs xs
  unfolding left_length
  lengths_are [] = refl
  lengths_are (x ∷ xs) = sum_more ((sized_left vs x).length) (map (λ (y : Place). y.length) (map (sized_left vs) xs)) ∙ ap (λ n. (sized_left vs x).length + n) (lengths_are xs)

  pub length-Concat : (parts : List DLeft) → left_length vs (lefts.Concat parts) ≡ lengths_sum vs parts
  unfolding left_length
  length-Concat parts = ap (λ (x : Place). x.length) (sized_left_concat vs (lefts.Concat parts) parts refl) ∙ lengths_are parts

  pub function_is : (f : DFunction) → function_weight vs f ≡ stmt_weight vs (f.length ∷ (lengths f.inputs ++ lengths f.locals)) f.body
  unfolding function_weight stmt_weight
  function_is f = ap (λ (x : Routine). x.weight) (sized_function_is vs f)
