-- What an expression and a statement read is what their parts read.
use Rattle.std.proofs.Common.{◌≡◌, ℕ, zero, suc, Bool, true, false, ◌&&◌, ◌||◌, ◌⊎◌, inl, inr, List, [], ◌∷◌, ◌++◌, map, refl, sym, ◌∙◌, ap, ap₂, subst, Option, Some, None, ℤ, pos, negsuc, if◌then◌else◌, arith}
use Rattle.std.specs.Prelude.{◌==◌}
use Rattle.std.specs.List.{list_any}
use Rattle.std.proofs.lemmas.Bool.Decides.{nat_tests}
use Rattle.bits_core.specs.Places.{selected}
use Rattle.design_core.specs.declared.place.BitRef.{BitRef}
use Rattle.design_core.specs.declared.tree.DExpr.{DExpr}
use Rattle.design_core.specs.declared.tree.DBase.{DBase}
use Rattle.design_core.specs.declared.tree.DFunction.{DFunction}
use Rattle.design_core.specs.declared.tree.DLeft.{DLeft}
use Rattle.design_core.specs.declared.tree.DLeft.TheVariants as lefts
use Rattle.design_core.specs.declared.tree.DNode.{DNode, out-DNode, roll-DNode}
use Rattle.design_core.specs.declared.tree.DNode.TheVariants as node
use Rattle.design_core.specs.declared.tree.DLeft.TheOpen.{DNode-F, DStmt-F}
use Rattle.design_core.specs.declared.tree.DStmt.{DStmt, out-DStmt, roll-DStmt, roll-out-DStmt}
use Rattle.design_core.specs.declared.tree.DStmt.TheVariants as stmts
use Rattle.design_core.specs.declared.tree.DArm.{DArm, out-DArm}
use Rattle.design_core.specs.declared.tree.DMatch.{DMatch, out-DMatch}
use Rattle.design_core.specs.Core.{Term, constant, span, own, app1, app2, app3, call, Args, Left, Stmt, skip, seq, write, choose, reads, args_read, left_reads, stmt_reads}
use Rattle.design_core.specs.Covers.{Arm, first_arm}
use Rattle.design_core.specs.Operators.{one_bit, all_match}
use Rattle.design_core.specs.Terms.{term, left, stmt, matching, select_of, chained, passed, all_left, in_turn, some_match, lengths, free_bits}
use Rattle.design_core.proofs.BoolLaws.{or_cases, or_left, or_right}
use Rattle.design_core.proofs.TermLaws.{arm_of, arms_then, skip_last, matching_is, term_constant, term_signal, term_local, term_select, term_select_at, term_unary, term_binary, term_mux, term_extend, term_concat, term_repeat, term_call, left_whole, left_part, left_at, left_concat, stmt_block, stmt_turns, stmt_write, stmt_if, stmt_case, stmt_case_else}
use Rattle.tree_parts.specs.Parts.{NodeLayer, StmtLayer, asked_in, asked_of, base_operands, compared_in, operands_in, operands_of, children_in, children_of, items_of, rest_of}
use Rattle.tree_parts.proofs.OperandLaws.{operands_layer}
use Rattle.tree_parts.proofs.StatementLaws.{children_layer}
use Rattle.item_bits.specs.Reads.{is_span, all_read, all_run}
use Rattle.item_bits.proofs.RangeLaws.{same_tests}
use Rattle.item_bits.proofs.SpanLaws.{node_of}

or_none : (a : Bool) → (a || false) ≡ a
or_none true = refl
or_none false = refl

or_group : (a b c : Bool) → ((a || b) || c) ≡ (a || (b || c))
or_group true b c = refl
or_group false b c = refl

span_reads : (low : ℤ) (n s m k : ℕ) (b : BitRef) (c : Bool) → is_span (if c then span s m low n else app1 (selected low n) (span s m (pos 0) k)) ≡ false
    → reads (if c then span s m low n else app1 (selected low n) (span s m (pos 0) k)) b ≡ reads (span s m (pos 0) k) b
span_reads low n s m k b true h = cc
span_reads low n s m k b false h = refl

span_whole : (low : ℤ) (n s m k : ℕ) (c : Bool) → c ≡ true → is_span (if c then span s m low n else app1 (selected low n) (span s m (pos 0) k)) ≡ true
span_whole low n s m k true e = refl
span_whole low n s m k false e = cc

same_number : (k : ℕ) → (k == k) ≡ true
same_number k = grind (arith, nat_tests)

-- a select that is no span reads what its base reads
select_reads : (low : ℤ) (n : ℕ) (t : Term) (b : BitRef) → is_span (select_of low n t) ≡ false → reads (select_of low n t) b ≡ reads t b
select_reads low n (constant v) b h = refl
select_reads low n (span s m (pos zero) k) b h = span_reads low n s m k b (k == m) h
select_reads low n (span s m (pos (suc j)) k) b h = refl
select_reads low n (span s m (negsuc j) k) b h = refl
select_reads low n (own k) b h = refl
select_reads low n (app1 f x) b h = refl
select_reads low n (app2 f x y) b h = refl
select_reads low n (app3 f x y z) b h = refl
select_reads low n (call as' body k inputs locals) b h = refl

one : (a : Bool) → a ≡ ((a || false) || false)
one true = refl
one false = refl

two : (a c : Bool) → (a || c) ≡ ((a || (c || false)) || false)
two true c = refl
two false true = refl
two false false = refl

three : (a c d : Bool) → (a || (c || d)) ≡ ((a || (c || (d || false))) || false)
three true c d = refl
three false true d = refl
three false false true = refl
three false false false = refl

abbrev not_empty : List DExpr → Bool
not_empty [] = false
not_empty (e ∷ es) = true

more_tests : (k v : Bool) (es : List DExpr) (r : Bool) → (not_empty es ≡ false → r ≡ false) → ((k || v) || (not_empty es && (k || r))) ≡ (k || (v || r))
more_tests true v es r h = refl
more_tests false true es r h = refl
more_tests false false [] r h = sym (h refl)
more_tests false false (e ∷ es) r h = refl

shuffled : (p x q r : Bool) → (p || (x || (q || r))) ≡ (x || ((p || q) || r))
shuffled true true q r = refl
shuffled true false q r = refl
shuffled false true q r = refl
shuffled false false q r = refl

later_arms : (k : Bool) (is : List DExpr) (ri body bs r : Bool) → (not_empty is ≡ false → ri ≡ false) → (k ≡ false)
    → (body || ((not_empty is && (k || ri)) || (bs || r))) ≡ (ri || ((body || bs) || r))
later_arms true is ri body bs r h e = cc
later_arms false [] ri body bs r h e = shuffled body false bs r ∙ ap (λ x. x || ((body || bs) || r)) (sym (h refl))
later_arms false (i ∷ is) ri body bs r h e = shuffled body ri bs r

first_arms : (k rv : Bool) (is : List DExpr) (ri body bs r : Bool) → (not_empty is ≡ false → ri ≡ false)
    → ((k || rv) || (body || ((not_empty is && (k || ri)) || (bs || r)))) ≡ ((k || (rv || ri)) || ((body || bs) || r))
first_arms true rv is ri body bs r h = refl
first_arms false true is ri body bs r h = refl
first_arms false false is ri body bs r h = later_arms false is ri body bs r h refl

more_arms : (k : Bool) (vs is : List DExpr) (rv ri ra body bs r : Bool) → (not_empty vs ≡ false → rv ≡ false) → (not_empty is ≡ false → ri ≡ false) → ra ≡ (rv || ri)
    → ((not_empty vs && (k || rv)) || (body || ((not_empty is && (k || ri)) || (bs || r)))) ≡ ((not_empty (vs ++ is) && (k || ra)) || ((body || bs) || r))
more_arms k [] is rv ri ra body bs r h g e =
    shuffled body (not_empty is && (k || ri)) bs r ∙ ap (λ x. (not_empty is && (k || x)) || ((body || bs) || r)) (sym (e ∙ ap (λ y. y || ri) (h refl)))
more_arms k (v ∷ vs) is rv ri ra body bs r h g e = first_arms k rv is ri body bs r g ∙ ap (λ x. (k || x) || ((body || bs) || r)) (sym e)

branches : (a c d : Bool) → (a || (c || d)) ≡ ((a || false) || (c || (d || false)))
branches true c d = refl
branches false true d = refl
branches false false true = refl
branches false false false = refl

module _ (size : ℕ → ℕ) (b : BitRef) where
  chain_reads : (es : List DExpr) → reads (chained (map (term size) es)) b ≡ all_read size es b
  chain_reads [] = refl
  chain_reads (e ∷ es) = ap (λ x. reads (term size e) b || x) (chain_reads es)

  args_reads : (es : List DExpr) → args_read (passed (map (term size) es)) b ≡ all_read size es b
  args_reads [] = refl
  args_reads (e ∷ es) = ap (λ x. reads (term size e) b || x) (args_reads es)

  -- what a called function reads
  abbrev pub called_reads : NodeLayer → Bool
  called_reads (DNode-F.Const bits) = false
  called_reads (DNode-F.Signal s) = false
  called_reads (DNode-F.Local k) = false
  called_reads (DNode-F.Select base low) = false
  called_reads (DNode-F.SelectAt a index offset down) = false
  called_reads (DNode-F.Unary op a) = false
  called_reads (DNode-F.Binary op a c) = false
  called_reads (DNode-F.Mux k a c) = false
  called_reads (DNode-F.Extend a keeps) = false
  called_reads (DNode-F.«DNode::Concat» parts) = false
  called_reads (DNode-F.Repeat count part) = false
  called_reads (DNode-F.Call function as') = stmt_reads (stmt size function.body) b

  base_reads : (base : DExpr) (low : ℤ) (n : ℕ) (x : NodeLayer) → out-DNode base.node ≡ x → is_span (select_of low n (term size base)) ≡ false
      → reads (term size base) b ≡ all_read size (base_operands x base) b
  base_reads base low n (DNode-F.Signal s) is h =
      let t = term_signal size base s (node_of base (DNode-F.Signal s) is ∙ node.rolls-Signal s) in
      let f : is_span (select_of low n (span s base.length (pos 0) base.length)) ≡ false = sym (ap (λ y. is_span (select_of low n y)) t) ∙ h in
      let g : is_span (select_of low n (span s base.length (pos 0) base.length)) ≡ true = span_whole low n s base.length base.length (base.length == base.length) (same_number base.length) in cc
  base_reads base low n (DNode-F.Const bits) is h = sym (or_none (reads (term size base) b))
  base_reads base low n (DNode-F.Local k) is h = sym (or_none (reads (term size base) b))
  base_reads base low n (DNode-F.Select a l) is h = sym (or_none (reads (term size base) b))
  base_reads base low n (DNode-F.SelectAt a index offset down) is h = sym (or_none (reads (term size base) b))
  base_reads base low n (DNode-F.Unary op a) is h = sym (or_none (reads (term size base) b))
  base_reads base low n (DNode-F.Binary op a k) is h = sym (or_none (reads (term size base) b))
  base_reads base low n (DNode-F.Mux k a c) is h = sym (or_none (reads (term size base) b))
  base_reads base low n (DNode-F.Extend a keeps) is h = sym (or_none (reads (term size base) b))
  base_reads base low n (DNode-F.«DNode::Concat» parts) is h = sym (or_none (reads (term size base) b))
  base_reads base low n (DNode-F.Repeat count part) is h = sym (or_none (reads (term size base) b))
  base_reads base low n (DNode-F.Call function as') is h = sym (or_none (reads (term size base) b))

  module _ (e : DExpr) (plain : is_span (term size e) ≡ false) where
    node_reads : (x : NodeLayer) → out-DNode e.node ≡ x → reads (term size e) b ≡ (all_read size (operands_in x) b || called_reads x)
    node_reads (DNode-F.Const bits) is = ap (λ t. reads t b) (term_constant size e bits (node_of e (DNode-F.Const bits) is ∙ node.rolls-Const bits))
    node_reads (DNode-F.Signal s) is = let f : is_span (term size e) ≡ true = ap is_span (term_signal size e s (node_of e (DNode-F.Signal s) is ∙ node.rolls-Signal s)) in cc
    node_reads (DNode-F.Local k) is = ap (λ t. reads t b) (term_local size e k (node_of e (DNode-F.Local k) is ∙ node.rolls-Local k))
    node_reads (DNode-F.Select base low) is =
        let t = term_select size e base low (node_of e (DNode-F.Select base low) is ∙ node.rolls-Select base low) in
        let p : is_span (select_of low e.length (term size base)) ≡ false = sym (ap is_span t) ∙ plain in
        ap (λ y. reads y b) t ∙ select_reads low e.length (term size base) b p ∙ base_reads base low e.length (out-DNode base.node) refl p ∙ sym (or_none (all_read size (base_operands (out-DNode base.node) base) b))
    node_reads (DNode-F.SelectAt a index offset down) is = ap (λ t. reads t b) (term_select_at size e a index offset down (node_of e (DNode-F.SelectAt a index offset down) is ∙ node.rolls-SelectAt a index offset down))
        ∙ two (reads (term size a) b) (reads (term size index) b)
    node_reads (DNode-F.Unary op a) is = ap (λ t. reads t b) (term_unary size e op a (node_of e (DNode-F.Unary op a) is ∙ node.rolls-Unary op a)) ∙ one (reads (term size a) b)
    node_reads (DNode-F.Binary op a c) is = ap (λ t. reads t b) (term_binary size e op a c (node_of e (DNode-F.Binary op a c) is ∙ node.rolls-Binary op a c)) ∙ two (reads (term size a) b) (reads (term size c) b)
    node_reads (DNode-F.Mux k a c) is = ap (λ t. reads t b) (term_mux size e k a c (node_of e (DNode-F.Mux k a c) is ∙ node.rolls-Mux k a c)) ∙ three (reads (term size k) b) (reads (term size a) b) (reads (term size c) b)
    node_reads (DNode-F.Extend a keeps) is = ap (λ t. reads t b) (term_extend size e a keeps (node_of e (DNode-F.Extend a keeps) is ∙ node.rolls-Extend a keeps)) ∙ one (reads (term size a) b)
    node_reads (DNode-F.«DNode::Concat» parts) is = ap (λ t. reads t b) (term_concat size e parts (node_of e (DNode-F.«DNode::Concat» parts) is ∙ node.rolls-Concat parts)) ∙ chain_reads parts ∙ sym (or_none (all_read size parts b))
    node_reads (DNode-F.Repeat count part) is = ap (λ t. reads t b) (term_repeat size e count part (node_of e (DNode-F.Repeat count part) is ∙ node.rolls-Repeat count part)) ∙ one (reads (term size part) b)
    node_reads (DNode-F.Call function as') is = ap (λ t. reads t b) (term_call size e function as' (node_of e (DNode-F.Call function as') is ∙ node.rolls-Call function as'))
        ∙ ap (λ x. x || stmt_reads (stmt size function.body) b) (args_reads as')

    -- an expression that is no span reads what its operands read, and what a called function reads
    pub expr_reads : reads (term size e) b ≡ (all_read size (operands_of e) b || called_reads (out-DNode e.node))
    expr_reads = node_reads (out-DNode e.node) refl ∙ ap (λ es. all_read size es b || called_reads (out-DNode e.node)) (sym (operands_layer e (out-DNode e.node) refl))

  turn_reads : (ss : List DStmt) → stmt_reads (in_turn (map (stmt size) ss)) b ≡ all_run size ss b
  turn_reads [] = refl
  turn_reads (s ∷ ss) = ap (λ x. stmt_reads (stmt size s) b || x) (turn_reads ss)

  read_append : (xs ys : List DExpr) → all_read size (xs ++ ys) b ≡ (all_read size xs b || all_read size ys b)
  read_append [] ys = refl
  read_append (x ∷ xs) ys = ap (λ y. reads (term size x) b || y) (read_append xs ys) ∙ sym (or_group (reads (term size x) b) (all_read size xs b) (all_read size ys b))

  run_append : (xs ys : List DStmt) → all_run size (xs ++ ys) b ≡ (all_run size xs b || all_run size ys b)
  run_append [] ys = refl
  run_append (x ∷ xs) ys = ap (λ y. stmt_reads (stmt size x) b || y) (run_append xs ys) ∙ sym (or_group (stmt_reads (stmt size x) b) (all_run size xs b) (all_run size ys b))

  empty_reads : (es : List DExpr) → not_empty es ≡ false → all_read size es b ≡ false
  empty_reads [] h = refl
  empty_reads (e ∷ es) h = cc

  module _ (selector : DExpr) where
    compared_is : (k : Bool) → reads (term size selector) b ≡ k → (es : List DExpr) → all_read size (compared_in (selector ∷ es)) b ≡ (not_empty es && (k || all_read size es b))
    compared_is k e [] = refl
    compared_is k e (x ∷ es) = ap (λ y. y || (reads (term size x) b || all_read size es b)) e

    test_reads : (k : Bool) → reads (term size selector) b ≡ k → (ms : List DMatch) → reads (some_match (map (matching size) ms) (term size selector)) b
        ≡ (not_empty (map (λ (x : DMatch). (out-DMatch x).value) ms) && (k || all_read size (map (λ (x : DMatch). (out-DMatch x).value) ms) b))
    test_reads k e [] = refl
    test_reads k e (m ∷ ms) =
        ap (λ t. reads t b || reads (some_match (map (matching size) ms) (term size selector)) b) (matching_is size m (term size selector))
        ∙ ap₂ (λ x y. (x || reads (term size (out-DMatch m).value) b) || y) e (test_reads k e ms)
        ∙ more_tests k (reads (term size (out-DMatch m).value) b) (map (λ (x : DMatch). (out-DMatch x).value) ms) (all_read size (map (λ (x : DMatch). (out-DMatch x).value) ms) b) (empty_reads (map (λ (x : DMatch). (out-DMatch x).value) ms))

    arms_reads : (k : Bool) → reads (term size selector) b ≡ k → (rest : Stmt) (arms : List DArm) → stmt_reads (arms_then size (map (arm_of size (term size selector)) arms) rest) b
        ≡ ((not_empty (items_of arms) && (k || all_read size (items_of arms) b)) || (all_run size (map (λ (a : DArm). (out-DArm a).body) arms) b || stmt_reads rest b))
    arms_reads k e rest [] = refl
    arms_reads k e rest (a ∷ arms) =
        ap₂ (λ x y. x || (stmt_reads (stmt size (out-DArm a).body) b || y)) (test_reads k e (out-DArm a).matches) (arms_reads k e rest arms)
        ∙ more_arms k (map (λ (x : DMatch). (out-DMatch x).value) (out-DArm a).matches) (items_of arms)
        (all_read size (map (λ (x : DMatch). (out-DMatch x).value) (out-DArm a).matches) b) (all_read size (items_of arms) b)
        (all_read size (map (λ (x : DMatch). (out-DMatch x).value) (out-DArm a).matches ++ items_of arms) b)
        (stmt_reads (stmt size (out-DArm a).body) b) (all_run size (map (λ (y : DArm). (out-DArm y).body) arms) b) (stmt_reads rest b)
        (empty_reads (map (λ (x : DMatch). (out-DMatch x).value) (out-DArm a).matches)) (empty_reads (items_of arms))
        (read_append (map (λ (x : DMatch). (out-DMatch x).value) (out-DArm a).matches) (items_of arms))

  module _ (s : DStmt) where
    stmt_of : (x : StmtLayer) → out-DStmt s ≡ x → s ≡ roll-DStmt x
    stmt_of x is = sym (roll-out-DStmt s) ∙ ap roll-DStmt is

    node_runs : (x : StmtLayer) → out-DStmt s ≡ x → ((l : DLeft) (e : DExpr) (blocking : Bool) → s ≡ stmts.Write l e blocking → ⊥)
        → stmt_reads (stmt size s) b ≡ (all_read size (asked_in x) b || all_run size (children_in x) b)
    node_runs (DStmt-F.Block parts) is f = ap (λ t. stmt_reads t b) (stmt_block size s parts (stmt_of (DStmt-F.Block parts) is ∙ stmts.rolls-Block parts)) ∙ turn_reads parts
    node_runs (DStmt-F.Write l e blocking) is f = absurd (f l e blocking (stmt_of (DStmt-F.Write l e blocking) is ∙ stmts.rolls-Write l e blocking))
    node_runs (DStmt-F.If test a c) is f = ap (λ t. stmt_reads t b) (stmt_if size s test a c (stmt_of (DStmt-F.If test a c) is ∙ stmts.rolls-If test a c))
        ∙ branches (reads (term size test) b) (stmt_reads (stmt size a) b) (stmt_reads (stmt size c) b)
    node_runs (DStmt-F.Case selector arms None) is f =
        ap (λ t. stmt_reads t b) (stmt_case size s selector arms (stmt_of (DStmt-F.Case selector arms None) is ∙ stmts.rolls-Case selector arms None) ∙ sym (skip_last size (map (arm_of size (term size selector)) arms)))
        ∙ arms_reads selector (reads (term size selector) b) refl skip arms
        ∙ ap₂ (λ x y. x || y) (sym (compared_is selector (reads (term size selector) b) refl (items_of arms))) (sym (run_append (map (λ (a : DArm). (out-DArm a).body) arms) []))
    node_runs (DStmt-F.Case selector arms (Some rest)) is f =
        ap (λ t. stmt_reads t b) (stmt_case_else size s selector arms rest (stmt_of (DStmt-F.Case selector arms (Some rest)) is ∙ stmts.rolls-Case selector arms (Some rest)))
        ∙ arms_reads selector (reads (term size selector) b) refl (stmt size rest) arms
        ∙ ap₂ (λ x y. x || y) (sym (compared_is selector (reads (term size selector) b) refl (items_of arms)))
        (ap (λ y. all_run size (map (λ (a : DArm). (out-DArm a).body) arms) b || y) (sym (or_none (stmt_reads (stmt size rest) b))) ∙ sym (run_append (map (λ (a : DArm). (out-DArm a).body) arms) (rest ∷ [])))
    node_runs (DStmt-F.Turns parts) is f = ap (λ t. stmt_reads t b) (stmt_turns size s parts (stmt_of (DStmt-F.Turns parts) is ∙ stmts.rolls-Turns parts)) ∙ turn_reads parts

    -- a statement that is no write reads what it asks for, and what the statements that it runs read
    pub stmt_runs : ((l : DLeft) (e : DExpr) (blocking : Bool) → s ≡ stmts.Write l e blocking → ⊥) → stmt_reads (stmt size s) b ≡ (all_read size (asked_of s) b || all_run size (children_of s) b)
    unfolding asked_of
    stmt_runs f = node_runs (out-DStmt s) refl f ∙ ap (λ y. all_read size (asked_in (out-DStmt s)) b || all_run size y b) (sym (children_layer s (out-DStmt s) refl))

    pub write_reads : (l : DLeft) (e : DExpr) (blocking : Bool) → s ≡ stmts.Write l e blocking → stmt_reads (stmt size s) b ≡ (reads (term size e) b || left_reads (left size l) b)
    write_reads l e blocking is = ap (λ t. stmt_reads t b) (stmt_write size s l e blocking is)

  -- the indices of a left side
  left_all_reads : (ls : List DLeft) → left_reads (all_left (map (left size) ls)) b ≡ list_any (λ l. left_reads (left size l) b) ls
  left_all_reads [] = refl
  left_all_reads (l ∷ ls) = ap (λ x. left_reads (left size l) b || x) (left_all_reads ls)

  pub left_whole_reads : (l : DLeft) (base : DBase) (n : ℕ) → l ≡ lefts.Whole base n → left_reads (left size l) b ≡ false
  left_whole_reads l base n is = ap (λ t. left_reads t b) (left_whole size l base n is)

  pub left_part_reads : (l : DLeft) (base : DBase) (low : ℤ) (n : ℕ) → l ≡ lefts.Part base low n → left_reads (left size l) b ≡ false
  left_part_reads l base low n is = ap (λ t. left_reads t b) (left_part size l base low n is)

  pub left_at_reads : (l : DLeft) (base : DBase) (index : DExpr) (offset : ℤ) (down : Bool) (n : ℕ) → l ≡ lefts.At base index offset down n → left_reads (left size l) b ≡ reads (term size index) b
  left_at_reads l base index offset down n is = ap (λ t. left_reads t b) (left_at size l base index offset down n is)

  pub left_concat_reads : (l : DLeft) (parts : List DLeft) → l ≡ lefts.Concat parts → left_reads (left size l) b ≡ list_any (λ x. left_reads (left size x) b) parts
  left_concat_reads l parts is = ap (λ t. left_reads t b) (left_concat size l parts is) ∙ left_all_reads parts

  pub called_by : (e : DExpr) (f : DFunction) (as' : List DExpr) → e.node ≡ node.Call f as' → called_reads (out-DNode e.node) ≡ stmt_reads (stmt size f.body) b
  called_by e f as' is = ap called_reads (ap out-DNode is ∙ node.outs-Call f as')

  layer_none : (e : DExpr) (x : NodeLayer) → out-DNode e.node ≡ x → ((f : DFunction) (as' : List DExpr) → e.node ≡ node.Call f as' → ⊥) → called_reads x ≡ false
  layer_none e (DNode-F.Const bits) is h = refl
  layer_none e (DNode-F.Signal s) is h = refl
  layer_none e (DNode-F.Local k) is h = refl
  layer_none e (DNode-F.Select a low) is h = refl
  layer_none e (DNode-F.SelectAt a index offset down) is h = refl
  layer_none e (DNode-F.Unary op a) is h = refl
  layer_none e (DNode-F.Binary op a c) is h = refl
  layer_none e (DNode-F.Mux k a c) is h = refl
  layer_none e (DNode-F.Extend a keeps) is h = refl
  layer_none e (DNode-F.«DNode::Concat» parts) is h = refl
  layer_none e (DNode-F.Repeat count part) is h = refl
  layer_none e (DNode-F.Call function as') is h = absurd (h function as' (node_of e (DNode-F.Call function as') is ∙ node.rolls-Call function as'))

  pub called_none : (e : DExpr) → ((f : DFunction) (as' : List DExpr) → e.node ≡ node.Call f as' → ⊥) → (r : Bool) → (r || called_reads (out-DNode e.node)) ≡ r
  called_none e h r = ap (λ x. r || x) (layer_none e (out-DNode e.node) refl h) ∙ or_none r
