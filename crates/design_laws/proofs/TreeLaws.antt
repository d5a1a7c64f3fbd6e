-- Trees over lengths that agree on the signals that they name.
use Rattle.std.proofs.Common.{◌≡◌, ℕ, ◌+◌, true, false, ◌&&◌, List, [], refl, sym, ◌∙◌, ap, ap₂, arith, Option, Some, None}
use Rattle.std.specs.Prelude.{◌==◌, nat_lt, nat_le, not}
use Rattle.std.proofs.lemmas.Bool.Decides.{nat_tests}
use Rattle.design_core.specs.declared.tree.DExpr.{DExpr}
use Rattle.design_core.specs.declared.tree.DLeft.{DLeft}
use Rattle.design_core.specs.declared.tree.DStmt.{DStmt}
use Rattle.design_core.specs.declared.items.Item.{Item}
use Rattle.design_core.specs.declared.items.Item.TheVariants as item
use Rattle.design_core.specs.declared.items.DReset.{DReset}
use Rattle.bits_core.specs.Places.{is_set}
use Rattle.design_core.specs.Core.{same_bit, Term, value}
use Rattle.design_core.specs.Formed.{Sized, Place, Body, of_kind, sized_expr, sized_left, sized_stmt}
use Rattle.design_core.specs.Items.{assign, comb, clocked, reset_by}
use Rattle.design_core.specs.Mentions.{Signals, and_also, names_of, names_of_left, names_of_stmt, names_of_reset, names_of_item}
use Rattle.design_core.specs.Parts.{item_of, clocked_of}
use Rattle.design_core.specs.Terms.{term, left, stmt}
use Rattle.design_core.specs.Wellformed.{silent_stmt, tells_reset, reads_only, reset_fits, reset_weight, tree_fits, weight_of}
use Rattle.design_core.proofs.BoolLaws.{or_left, or_right}
use Rattle.design_core.proofs.TreeInduction.{of_expr, of_left, of_stmt}
use Rattle.design_laws.specs.Kinds.{length_in}
use Rattle.design_laws.specs.Trees.{AgreeOn, itself, ExprIsRenumbered, LeftIsRenumbered, StmtIsRenumbered}
use Rattle.design_laws.proofs.AgainLaws as again
use Rattle.design_laws.proofs.SameLaws.{expr_same, left_same, stmt_same, renamed_same, renamed_left_same, renamed_stmt_same}

pub expr_again : ExprIsRenumbered
unfolding term names_of
expr_again ρ vs ws e a =
    let p = of_expr (again.E ρ vs ws) (again.L ρ vs ws) (again.S ρ vs ws) (again.A ρ vs ws) (again.F ρ vs ws) (again.M ρ vs ws) (again.steps ρ vs ws) e a in
    (p.0, ap (λ o. o.core) p.1)

pub left_again : LeftIsRenumbered
unfolding left names_of_left
left_again ρ vs ws l a = of_left (again.E ρ vs ws) (again.L ρ vs ws) (again.S ρ vs ws) (again.A ρ vs ws) (again.F ρ vs ws) (again.M ρ vs ws) (again.steps ρ vs ws) l a

pub stmt_again : StmtIsRenumbered
unfolding stmt names_of_stmt
stmt_again ρ vs ws s a = of_stmt (again.E ρ vs ws) (again.L ρ vs ws) (again.S ρ vs ws) (again.A ρ vs ws) (again.F ρ vs ws) (again.M ρ vs ws) (again.steps ρ vs ws) s a

tells_same : (r : DReset) (vs ws : List ℕ) → term (length_in ws) r.test ≡ term (length_in vs) r.test → tells_reset (length_in ws) r ≡ tells_reset (length_in vs) r
tells_same r vs ws e = ap (λ (t : Term). reads_only r.bit t && is_set (value t (λ b. same_bit b r.bit && r.asserted) []) && not (is_set (value t (λ b. same_bit b r.bit && not r.asserted) []))) e

same_number : (k : ℕ) → (k == k) ≡ true
same_number k = grind (arith, nat_tests)

module _ (vs ws : List ℕ) where
  expr_named : (e : DExpr) → AgreeOn itself vs ws (names_of e) → (sized_expr ws e ≡ sized_expr vs e) × (term (length_in ws) e ≡ term (length_in vs) e)
  expr_named e a = let p = expr_again itself vs ws e a in let s = expr_same e in
      (sym (ap (sized_expr ws) s) ∙ p.0, sym (ap (term (length_in ws)) s) ∙ p.1 ∙ renamed_same (term (length_in vs) e))

  left_named : (l : DLeft) → AgreeOn itself vs ws (names_of_left l) → (sized_left ws l ≡ sized_left vs l) × (left (length_in ws) l ≡ left (length_in vs) l)
  left_named l a = let p = left_again itself vs ws l a in let s = left_same l in
      (sym (ap (sized_left ws) s) ∙ p.0, sym (ap (left (length_in ws)) s) ∙ p.1 ∙ renamed_left_same (left (length_in vs) l))

  stmt_named : (s : DStmt) → AgreeOn itself vs ws (names_of_stmt s) → (sized_stmt ws s ≡ sized_stmt vs s) × (stmt (length_in ws) s ≡ stmt (length_in vs) s)
  stmt_named s a = let p = stmt_again itself vs ws s a in let e = stmt_same s in
      (sym (ap (sized_stmt ws) e) ∙ p.0, sym (ap (stmt (length_in ws)) e) ∙ p.1 ∙ renamed_stmt_same (stmt (length_in vs) s))

  first_part : (g h : Signals) → AgreeOn itself vs ws (and_also g h) → AgreeOn itself vs ws g
  first_part g h a s p = a s (or_left (g s) (h s) p)

  second_part : (g h : Signals) → AgreeOn itself vs ws (and_also g h) → AgreeOn itself vs ws h
  second_part g h a s p = a s (or_right (g s) (h s) p)

  record ResetSame (r : Option DReset) (body : DStmt) : Type 0 where
    fits : reset_fits ws (length_in ws) r ≡ reset_fits vs (length_in vs) r
    weighs : reset_weight ws r body ≡ reset_weight vs r body
    core : clocked_of (length_in ws) r body ≡ clocked_of (length_in vs) r body

  reset_named : (r : Option DReset) (body : DStmt) → AgreeOn itself vs ws (names_of_reset r) → AgreeOn itself vs ws (names_of_stmt body) → ResetSame r body
  reset_named None body a b = let p = stmt_named body b in record { fits = refl; weighs = ap (λ (x : Body). x.weight []) p.0; core = ap clocked p.1 }
  reset_named (Some r) body a b =
      let own = first_part (λ s. s == (r.bit).signal) (and_also (names_of r.test) (names_of_stmt r.branch)) a (r.bit).signal (same_number (r.bit).signal) in
      let c = second_part (λ s. s == (r.bit).signal) (and_also (names_of r.test) (names_of_stmt r.branch)) a in
      let test = expr_named r.test (first_part (names_of r.test) (names_of_stmt r.branch) c) in
      let branch = stmt_named r.branch (second_part (names_of r.test) (names_of_stmt r.branch) c) in
      let p = stmt_named body b in
      record {
        fits = ap₂ (λ x y. x && y)
            (ap₂ (λ x y. x && y) (ap₂ (λ x y. x && y) (ap₂ (λ x y. x && y) (ap (λ n. nat_lt (r.bit).bit n) own.1) (ap (λ (x : Sized). x.formed []) test.0)) (tells_same r vs ws test.1))
            (ap (λ (x : Body). x.formed [] false (of_kind false)) branch.0)) (ap silent_stmt branch.1);
        weighs = ap₂ (λ x y. x + y) (ap₂ (λ x y. x + 1 + y) (ap (λ (x : Sized). x.weight []) test.0) (ap (λ (x : Body). x.weight []) branch.0)) (ap (λ (x : Body). x.weight []) p.0);
        core = ap₂ (reset_by r.bit r.asserted) branch.1 p.1;
      }

  pub item_named : (i : Item) → AgreeOn itself vs ws (names_of_item i)
      → (tree_fits ws (length_in ws) i ≡ tree_fits vs (length_in vs) i) × (weight_of ws i ≡ weight_of vs i) × (item_of (length_in ws) i ≡ item_of (length_in vs) i)
  item_named (item.Assign scope weight l e) a =
      let p = left_named l (first_part (names_of_left l) (names_of e) a) in
      let q = expr_named e (second_part (names_of_left l) (names_of e) a) in (
        ap₂ (λ (x : Place) (y : Sized). x.formed [] false && x.fixed && y.formed [] && nat_le x.length y.length) p.0 q.0,
        ap₂ (λ (x : Place) (y : Sized). x.length + x.weight [] + y.weight []) p.0 q.0,
        ap₂ assign p.1 q.1,
      )
  item_named (item.Comb scope weight body) a =
      let p = stmt_named body a in
      (ap (λ (x : Body). x.formed [] false (of_kind true)) p.0, ap (λ (x : Body). x.weight []) p.0, ap comb p.1)
  item_named (item.Clocked scope weight reset body) a =
      let b = second_part (names_of_reset reset) (names_of_stmt body) a in
      let p = stmt_named body b in
      let q = reset_named reset body (first_part (names_of_reset reset) (names_of_stmt body) a) b in
      (ap₂ (λ x y. x && y) (ap (λ (x : Body). x.formed [] false (of_kind false)) p.0) q.fits, q.weighs, q.core)
