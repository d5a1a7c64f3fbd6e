-- The call of the function is formed.
use Rattle.std.proofs.Common.{◌≡◌, ℕ, zero, suc, ◌++◌, ◌<◌, ◌+◌, ◌≤◌, ◌==◌, nat_le, get_or, Bool, true, false, ◌&&◌, List, [], ◌∷◌, length, map, refl, sym, subst, ap, ◌∙◌, ℤ, arith, All, Option, Some, None}
use Rattle.std.specs.List.{list_all}
use Rattle.std.proofs.lemmas.Bool.Decides.{nat_tests}
use Rattle.std.proofs.lemmas.List.Elements.{All-nil, All-cons, All-head, All-tail}
use Rattle.std.proofs.lemmas.Bool.{false≢true}
use Rattle.design_core.specs.declared.tree.DBase.{DBase}
use Rattle.design_core.specs.declared.tree.DExpr.{DExpr}
use Rattle.design_core.specs.declared.tree.DLeft.{DLeft}
use Rattle.design_core.specs.declared.tree.DLeft.TheVariants as lefts
use Rattle.design_core.specs.declared.tree.DStmt.{DStmt}
use Rattle.design_core.specs.declared.tree.DStmt.TheVariants as stmts
use Rattle.design_core.specs.declared.tree.DMatch.{DMatch, out-DMatch}
use Rattle.design_core.specs.declared.tree.DArm.{DArm, out-DArm, roll-DArm, out-roll-DArm}
use Rattle.design_core.specs.declared.tree.DNode.{DNode}
use Rattle.design_core.specs.declared.tree.DFunction.{DFunction}
use Rattle.design_core.specs.declared.tree.DLeft.TheOpen.{DArm-F}
use Rattle.design_core.specs.declared.tree.DNode.TheVariants as node
use Rattle.design_core.specs.Terms.{lengths}
use Rattle.design_core.specs.Formed.{Routine, has_length, of_kind, arguments_fit, sized_function, Sized, Place, Body, Branch, Choice, IsFormedOf, base_fits, is_vector, is_narrow, free_fits, sized_expr, sized_left, sized_stmt, sized_match, sized_arm}
use Rattle.design_core.proofs.FormedLaws.{sized_length, sized_whole, sized_part, sized_at, sized_left_concat, sized_block, sized_write, sized_if, sized_turns, sized_case, sized_case_else, sized_arm_is, sized_match_is, sized_function_is, sized_call}
use Rattle.design_core.proofs.BoolLaws.{true_both, both_true}
use Rattle.formed_trees.specs.Trees.{is_formed, IsMade, is_body, IsBody}
use Rattle.formed_trees.proofs.Built.{formed_as}
use Rattle.formed_trees.proofs.Bodies.{le_by, same_length}
use Rattle.called_function.specs.Inside.{bytes, IsInside}

pub byte_at : (k : ℕ) → k < 3 → has_length bytes k 8 ≡ true
byte_at zero l = refl
byte_at (suc zero) l = refl
byte_at (suc (suc zero)) l = refl
byte_at (suc (suc (suc k))) l = absurd (omega arith)

routine : (vs : List ℕ) (f : DFunction) → f.length ≡ 8 → lengths f.inputs ≡ 8 ∷ [] → lengths f.locals ≡ 8 ∷ [] → (sized_stmt vs f.body).formed bytes true (of_kind true) ≡ true → (sized_function vs f).formed ≡ true
routine vs f e inputs locals h =
    let g = λ (n : ℕ) (ns ks : List ℕ). is_vector n && list_all is_vector ns && list_all is_vector ks && (sized_stmt vs f.body).formed (n ∷ (ns ++ ks)) true (of_kind true) in
    ap (λ (r : Routine). r.formed) (sized_function_is vs f)
    ∙ ap (λ (n : ℕ). g n (lengths f.inputs) (lengths f.locals)) e ∙ ap (λ (ns : List ℕ). g 8 ns (lengths f.locals)) inputs ∙ ap (λ (ks : List ℕ). g 8 (8 ∷ []) ks) locals ∙ h

pub formed_call : (e : DExpr) (f : DFunction) (arguments : List DExpr) (x : DExpr) (body : DStmt) → e.node ≡ node.Call f arguments → e.length ≡ 8 → arguments ≡ x ∷ [] → 8 ≤ x.length
    → (f.length ≡ 8) × (lengths f.inputs ≡ 8 ∷ []) × (lengths f.locals ≡ 8 ∷ []) × (f.body ≡ body) → IsInside body
    → (vs ls : List ℕ) → IsMade vs ls x → IsMade vs ls e
unfolding is_formed is_body
formed_call e f arguments x body is e8 args x8 (f8, inputs, locals, same) inside vs ls h =
    let r = sized_function_is vs f in
    formed_as _ _ ls (sized_call vs e f (x ∷ []) (is ∙ ap (node.Call f) args)) (true_both _ _ (subst (λ n. is_vector n ≡ true) (sym e8) refl)
    (true_both _ _ (true_both _ _ (true_both _ _
    (routine vs f f8 inputs locals (subst (λ (s : DStmt). (sized_stmt vs s).formed bytes true (of_kind true) ≡ true) (sym same) (inside vs)))
    (same_length _ _ (ap (λ (z : Routine). z.length) r ∙ f8 ∙ sym e8)))
    (true_both _ _ h refl))
    (subst (λ (ns : List ℕ). arguments_fit ns (map (sized_expr vs) (x ∷ [])) ≡ true) (sym (ap (λ (z : Routine). z.inputs) r ∙ inputs))
    (true_both _ _ (le_by 8 8 x.length _ refl (sized_length vs x) x8) refl))))
