use Rattle.std.proofs.Common.{◌≡◌, ℕ, Bool, List, map, sym, ◌∙◌, ap, ap₂, rules, Option}
use Rattle.std.specs.Option.{option_map}
use Rattle.std.proofs.lemmas.Int.{to_z-of_z}
use Rattle.std.proofs.lemmas.Result.{IfOk-weaker}
use mir.Val.{SFits}
use mir.Syntax.{w64}
use Rattle.design_core.specs.declared.tree.DExpr.{DExpr}
use Rattle.design_core.specs.declared.tree.DNode.{DNode}
use Rattle.design_core.specs.declared.tree.DNode.TheVariants as node
use Rattle.design_core.specs.declared.tree.DStmt.{DStmt}
use Rattle.design_core.specs.declared.tree.DStmt.TheVariants as stmts
use Rattle.design_core.specs.declared.tree.DArm.{DArm, roll-DArm}
use Rattle.design_core.specs.declared.tree.DFunction.{DFunction}
use Rattle.design_core.specs.declared.tree.DMatch.{DMatch, roll-DMatch}
use Rattle.design_core.specs.Renumbered.{number_in, renumbered_arm, renumbered_expr, renumbered_match, renumbered_node, renumbered_stmt}
use Rattle.design_core.proofs.RenumberedLaws as r
use Rattle.design_copy.proofs.renumber.+renumbers.Goals as goal

-- a node or a statement is put together from copies of its parts
mux_copied : (ρ : ℕ → ℕ) (n : DNode) (k a b : DExpr) → n ≡ node.Mux k a b → (k' k0 a' a0 b0 : DExpr) → k' ≡ renumbered_expr ρ k0 → k0 ≡ k → a' ≡ renumbered_expr ρ a0 → a0 ≡ a → b0 ≡ b
    → (m : DNode) → m ≡ node.Mux k' a' (renumbered_expr ρ b0) → m ≡ renumbered_node ρ n
mux_copied ρ n k a b is k' k0 a' a0 b0 p g q h l m made =
    made ∙ ap (λ (x : DExpr). node.Mux x a' (renumbered_expr ρ b0)) (p ∙ ap (renumbered_expr ρ) g)
    ∙ ap₂ (λ (x y : DExpr). node.Mux (renumbered_expr ρ k) x y) (q ∙ ap (renumbered_expr ρ) h) (ap (renumbered_expr ρ) l) ∙ sym (r.mux_again ρ n k a b is)

extend_copied : (ρ : ℕ → ℕ) (n : DNode) (a : DExpr) (by_sign : Bool) → n ≡ node.Extend a by_sign → (a' a0 : DExpr) → a' ≡ renumbered_expr ρ a0 → a0 ≡ a → node.Extend a' by_sign ≡ renumbered_node ρ n
extend_copied ρ n a by_sign is a' a0 p g = ap (λ (x : DExpr). node.Extend x by_sign) (p ∙ ap (renumbered_expr ρ) g) ∙ sym (r.extend_again ρ n a by_sign is)

repeat_copied : (ρ : ℕ → ℕ) (n : DNode) (count : ℕ) (a : DExpr) → n ≡ node.Repeat count a → (a' a0 : DExpr) → a' ≡ renumbered_expr ρ a0 → a0 ≡ a → node.Repeat count a' ≡ renumbered_node ρ n
repeat_copied ρ n count a is a' a0 p g = ap (λ (x : DExpr). node.Repeat count x) (p ∙ ap (renumbered_expr ρ) g) ∙ sym (r.repeat_again ρ n count a is)

if_copied : (ρ : ℕ → ℕ) (s : DStmt) (test : DExpr) (a b : DStmt) → s ≡ stmts.If test a b → (test' : DExpr) (a' a0 b0 : DStmt) → test' ≡ renumbered_expr ρ test → a' ≡ renumbered_stmt ρ a0 → a0 ≡ a → b0 ≡ b
    → (m : DStmt) → m ≡ stmts.If test' a' (renumbered_stmt ρ b0) → m ≡ renumbered_stmt ρ s
if_copied ρ s test a b is test' a' a0 b0 p q g l m made =
    made ∙ ap (λ (x : DExpr). stmts.If x a' (renumbered_stmt ρ b0)) p
    ∙ ap₂ (λ (x y : DStmt). stmts.If (renumbered_expr ρ test) x y) (q ∙ ap (renumbered_stmt ρ) g) (ap (renumbered_stmt ρ) l) ∙ sym (r.if_again ρ s test a b is)

case_copied : (ρ : ℕ → ℕ) (s : DStmt) (selector : DExpr) (arms : List DArm) (rest : Option DStmt) → s ≡ stmts.Case selector arms rest → (selector' : DExpr) (arms' arms0 : List DArm)
    → selector' ≡ renumbered_expr ρ selector → arms' ≡ map (renumbered_arm ρ) arms0 → arms0 ≡ arms
    → (m : DStmt) → m ≡ stmts.Case selector' arms' (option_map (renumbered_stmt ρ) rest) → m ≡ renumbered_stmt ρ s
case_copied ρ s selector arms rest is selector' arms' arms0 p q g m made =
    made ∙ ap₂ (λ (x : DExpr) (ys : List DArm). stmts.Case x ys (option_map (renumbered_stmt ρ) rest)) p (q ∙ ap (map (renumbered_arm ρ)) g) ∙ sym (r.case_again ρ s selector arms rest is)

pub renumber_arm-returns : goal.renumber_arm-returns
renumber_arm-returns t c =
    let ρ = number_in c.args.numbers.now in
    ap₂ (λ (xs : List DMatch) (y : DStmt). roll-DArm (record { matches = xs; body = y })) (c.in_ok-matches.ensures ∙ ap (map (renumbered_match ρ)) c.as_slice.ensures) c.in_ok-body.ensures
    ∙ sym (r.arm_out ρ c.args.arm.now)

pub renumber_expr-returns : goal.renumber_expr-returns
renumber_expr-returns t c =
    let e = c.args.e.now in
    ap (λ (n : DNode). let y : DExpr = record { length = e.length; signed = e.signed; node = n } in y) c.in_ok-node.ensures ∙ sym (r.expr_out (number_in c.args.numbers.now) e)

pub renumber_function-returns : goal.renumber_function-returns
renumber_function-returns t c =
    let g = c.args.function.now in
    let i = c.in_ok-inputs.ensures in
    let l = c.in_ok-locals.ensures in
    ap (λ xs. let y : DFunction = record { length = g.length; signed = g.signed; inputs = xs; locals = c.in_ok-locals.locals; body = c.in_ok-body.body } in y) i
    ∙ ap₂ (λ xs (s : DStmt). let y : DFunction = record { length = g.length; signed = g.signed; inputs = g.inputs; locals = xs; body = s } in y) l c.in_ok-body.ensures
    ∙ sym (r.function_out (number_in c.args.numbers.now) g)

pub renumber_left-returns-in-Whole : goal.renumber_left-returns-in-Whole
renumber_left-returns-in-Whole t c =
    let b = c.renumber_base.ensures in
    let e = r.whole_again (number_in c.args.numbers.now) c.args.left.now _ _ c.in-Whole.is in
    cc

pub renumber_left-returns-in-Part : goal.renumber_left-returns-in-Part
renumber_left-returns-in-Part t c =
    let b = c.renumber_base-in-Part.ensures in
    let fits : SFits w64 c.in-Part.low = search rules in
    let z = to_z-of_z w64 c.in-Part.low fits in
    let e = r.part_again (number_in c.args.numbers.now) c.args.left.now _ _ _ c.in-Part.is in
    cc

pub renumber_left-returns-in_ok-renumber_boxed-in-At :
    goal.renumber_left-returns-in_ok-renumber_boxed-in-At
renumber_left-returns-in_ok-renumber_boxed-in-At t c =
    let b = c.renumber_base-in-At.ensures in
    let g = c.get.ensures in
    let i = c.in_ok-renumber_boxed-in-At.ensures in
    let fits : SFits w64 c.in-At.offset = search rules in
    let z = to_z-of_z w64 c.in-At.offset fits in
    let e = r.at_again (number_in c.args.numbers.now) c.args.left.now _ _ _ _ _ c.in-At.is in
    cc

pub renumber_left-returns-in_ok-renumber_lefts-in-Concat :
    goal.renumber_left-returns-in_ok-renumber_lefts-in-Concat
renumber_left-returns-in_ok-renumber_lefts-in-Concat t c =
    let s = c.as_slice.ensures in
    let p = c.in_ok-renumber_lefts-in-Concat.ensures in
    let e = r.left_concat_again (number_in c.args.numbers.now) c.args.left.now _ c.in-Concat.is in
    cc

pub renumber_match-returns : goal.renumber_match-returns
renumber_match-returns t c =
    let ρ = number_in c.args.numbers.now in
    ap₂ (λ (y : DExpr) free. roll-DMatch (record { value = y; free = free })) c.in_ok-value.ensures c.in_ok-free.ensures ∙ sym (r.match_out ρ c.args.item.now)

pub renumber_node-returns-in_ok-copy-in-Const : goal.renumber_node-returns-in_ok-copy-in-Const
renumber_node-returns-in_ok-copy-in-Const t c =
    let p = c.in_ok-copy-in-Const.ensures in
    let e = r.constant_again (number_in c.args.numbers.now) c.args.node.now _ c.in-Const.is in
    cc

pub renumber_node-returns-in-Signal : goal.renumber_node-returns-in-Signal
renumber_node-returns-in-Signal t c =
    let p = c.number_of.ensures in
    let e = r.signal_again (number_in c.args.numbers.now) c.args.node.now _ c.in-Signal.is in
    cc

pub renumber_node-returns-in-Local : goal.renumber_node-returns-in-Local
renumber_node-returns-in-Local t c = sym (r.local_again (number_in c.args.numbers.now) c.args.node.now _ c.in-Local.is)

pub renumber_node-returns-in_ok-renumber_boxed-in-Select :
    goal.renumber_node-returns-in_ok-renumber_boxed-in-Select
renumber_node-returns-in_ok-renumber_boxed-in-Select t c =
    let g = c.get.ensures in
    let p = c.in_ok-renumber_boxed-in-Select.ensures in
    let fits : SFits w64 c.in-Select.low = search rules in
    let z = to_z-of_z w64 c.in-Select.low fits in
    let e = r.select_again (number_in c.args.numbers.now) c.args.node.now _ _ c.in-Select.is in
    cc

pub renumber_node-returns-in_ok-base-in-SelectAt :
    goal.renumber_node-returns-in_ok-base-in-SelectAt
renumber_node-returns-in_ok-base-in-SelectAt t c =
    let g = c.get-in-SelectAt.ensures in
    let k = c.get-in-SelectAt-2.ensures in
    let p = c.in_ok-base-in-SelectAt.ensures in
    let fits : SFits w64 c.in-SelectAt.offset = search rules in
    let z = to_z-of_z w64 c.in-SelectAt.offset fits in
    let e = r.select_at_again (number_in c.args.numbers.now) c.args.node.now _ _ _ _ c.in-SelectAt.is in
    IfOk-weaker c.finish_select_at.result _ _ (λ n h. cc) c.finish_select_at.ensures

pub renumber_node-returns-in_ok-renumber_boxed-in-Unary :
    goal.renumber_node-returns-in_ok-renumber_boxed-in-Unary
renumber_node-returns-in_ok-renumber_boxed-in-Unary t c =
    let g = c.get-in-Unary.ensures in
    let p = c.in_ok-renumber_boxed-in-Unary.ensures in
    let e = r.unary_again (number_in c.args.numbers.now) c.args.node.now _ _ c.in-Unary.is in
    cc

pub renumber_node-returns-in_ok-a-in-Binary : goal.renumber_node-returns-in_ok-a-in-Binary
renumber_node-returns-in_ok-a-in-Binary t c =
    let g = c.get-in-Binary.ensures in
    let k = c.get-in-Binary-2.ensures in
    let p = c.in_ok-a-in-Binary.ensures in
    let e = r.binary_again (number_in c.args.numbers.now) c.args.node.now _ _ _ c.in-Binary.is in
    IfOk-weaker c.finish_binary.result _ _ (λ n h. cc) c.finish_binary.ensures

pub renumber_node-returns-in_ok-a-in-Mux : goal.renumber_node-returns-in_ok-a-in-Mux
renumber_node-returns-in_ok-a-in-Mux t c =
    IfOk-weaker c.finish_mux.result _ _ (λ m h. mux_copied (number_in c.args.numbers.now) c.args.node.now _ _ _ c.in-Mux.is _ _ _ _ _
    c.in_ok-c-in-Mux.ensures c.get-in-Mux.ensures c.in_ok-a-in-Mux.ensures c.get-in-Mux-2.ensures c.get-in-Mux-3.ensures m h) c.finish_mux.ensures

pub renumber_node-returns-in_ok-renumber_boxed-in-Extend :
    goal.renumber_node-returns-in_ok-renumber_boxed-in-Extend
renumber_node-returns-in_ok-renumber_boxed-in-Extend t c =
    extend_copied (number_in c.args.numbers.now) c.args.node.now _ _ c.in-Extend.is _ _ c.in_ok-renumber_boxed-in-Extend.ensures c.get-in-Extend.ensures

pub renumber_node-returns-in_ok-renumber_exprs-in-Concat :
    goal.renumber_node-returns-in_ok-renumber_exprs-in-Concat
renumber_node-returns-in_ok-renumber_exprs-in-Concat t c =
    let s = c.as_slice.ensures in
    let p = c.in_ok-renumber_exprs-in-Concat.ensures in
    let e = r.concat_again (number_in c.args.numbers.now) c.args.node.now _ c.in-Concat.is in
    cc

pub renumber_node-returns-in_ok-renumber_boxed-in-Repeat :
    goal.renumber_node-returns-in_ok-renumber_boxed-in-Repeat
renumber_node-returns-in_ok-renumber_boxed-in-Repeat t c =
    repeat_copied (number_in c.args.numbers.now) c.args.node.now _ _ c.in-Repeat.is _ _ c.in_ok-renumber_boxed-in-Repeat.ensures c.get-in-Repeat.ensures

pub renumber_node-returns-in_ok-function-in-Call :
    goal.renumber_node-returns-in_ok-function-in-Call
renumber_node-returns-in_ok-function-in-Call t c =
    let g = c.get-in-Call.ensures in
    let s = c.as_slice-in-Call.ensures in
    let p = c.in_ok-function-in-Call.ensures in
    let e = r.call_again (number_in c.args.numbers.now) c.args.node.now _ _ c.in-Call.is in
    IfOk-weaker c.finish_call.result _ _ (λ n h. cc) c.finish_call.ensures

pub renumber_stmt-returns-in_ok-renumber_stmts-in-Block :
    goal.renumber_stmt-returns-in_ok-renumber_stmts-in-Block
renumber_stmt-returns-in_ok-renumber_stmts-in-Block t c =
    let g = c.as_slice.ensures in
    let p = c.in_ok-renumber_stmts-in-Block.ensures in
    let e = r.block_again (number_in c.args.numbers.now) c.args.s.now _ c.in-Block.is in
    cc

pub renumber_stmt-returns-in_ok-left-in-Write : goal.renumber_stmt-returns-in_ok-left-in-Write
renumber_stmt-returns-in_ok-left-in-Write t c =
    let p = c.in_ok-left-in-Write.ensures in
    let e = r.write_again (number_in c.args.numbers.now) c.args.s.now _ _ _ c.in-Write.is in
    IfOk-weaker c.finish_write.result _ _ (λ n h. cc) c.finish_write.ensures

pub renumber_stmt-returns-in_ok-yes-in-If : goal.renumber_stmt-returns-in_ok-yes-in-If
renumber_stmt-returns-in_ok-yes-in-If t c =
    IfOk-weaker c.finish_if.result _ _ (λ m h. if_copied (number_in c.args.numbers.now) c.args.s.now _ _ _ c.in-If.is _ _ _ _
    c.in_ok-test-in-If.ensures c.in_ok-yes-in-If.ensures c.get.ensures c.get-in-If.ensures m h) c.finish_if.ensures

pub renumber_stmt-returns-in_ok-arms-in-Case : goal.renumber_stmt-returns-in_ok-arms-in-Case
renumber_stmt-returns-in_ok-arms-in-Case t c =
    IfOk-weaker c.finish_case.result _ _ (λ m h. case_copied (number_in c.args.numbers.now) c.args.s.now _ _ _ c.in-Case.is _ _ _
    c.in_ok-selector-in-Case.ensures c.in_ok-arms-in-Case.ensures c.as_slice-in-Case.ensures m h) c.finish_case.ensures

pub renumber_stmt-returns-in_ok-renumber_stmts-in-Turns :
    goal.renumber_stmt-returns-in_ok-renumber_stmts-in-Turns
renumber_stmt-returns-in_ok-renumber_stmts-in-Turns t c =
    let g = c.as_slice-in-Turns.ensures in
    let p = c.in_ok-renumber_stmts-in-Turns.ensures in
    let e = r.turns_again (number_in c.args.numbers.now) c.args.s.now _ c.in-Turns.is in
    cc
