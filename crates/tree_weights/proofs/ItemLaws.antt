-- What an item weighs, in the weights of its trees: outside functions there are no locals.
use Rattle.std.proofs.Common.{◌≡◌, ℕ, ◌+◌, List, [], Option, Some, None, ap, sym, ◌∙◌}
use Rattle.design_core.specs.declared.items.DReset.{DReset}
use Rattle.design_core.specs.declared.items.Item.{Item}
use Rattle.design_core.specs.declared.items.Item.TheVariants as items
use Rattle.design_core.specs.declared.tree.DExpr.{DExpr}
use Rattle.design_core.specs.declared.tree.DLeft.{DLeft}
use Rattle.design_core.specs.declared.tree.DStmt.{DStmt}
use Rattle.design_core.specs.Formed.{expr_weight, left_length, sized_expr, sized_left, sized_stmt, stmt_weight}
use Rattle.design_core.specs.Wellformed.{reset_weight, weight_of}
use Rattle.tree_weights.specs.Spines.{left_weight}

module _ (vs ls : List ℕ) (none : ls ≡ []) where
  pub assign_is : (i : Item) (scope weight : ℕ) (l : DLeft) (e : DExpr) → i ≡ items.Assign scope weight l e
      → weight_of vs i ≡ left_length vs l + left_weight vs ls l + expr_weight vs ls e
  unfolding left_length left_weight expr_weight
  assign_is i scope weight l e is = ap (weight_of vs) is ∙ ap (λ (k : List ℕ). (sized_left vs l).length + (sized_left vs l).weight k + (sized_expr vs e).weight k) (sym none)

  pub process_is : (i : Item) (scope weight : ℕ) (s : DStmt) → i ≡ items.Comb scope weight s → weight_of vs i ≡ stmt_weight vs ls s
  unfolding stmt_weight
  process_is i scope weight s is = ap (weight_of vs) is ∙ ap (λ (k : List ℕ). (sized_stmt vs s).weight k) (sym none)

  pub plain_is : (r : Option DReset) (s : DStmt) → r ≡ None → reset_weight vs r s ≡ stmt_weight vs ls s
  unfolding stmt_weight
  plain_is r s is = ap (λ (o : Option DReset). reset_weight vs o s) is ∙ ap (λ (k : List ℕ). (sized_stmt vs s).weight k) (sym none)

  pub reset_is : (r : Option DReset) (d : DReset) (s : DStmt) → r ≡ Some d
      → reset_weight vs r s ≡ expr_weight vs ls d.test + 1 + stmt_weight vs ls d.branch + stmt_weight vs ls s
  unfolding expr_weight stmt_weight
  reset_is r d s is = ap (λ (o : Option DReset). reset_weight vs o s) is
      ∙ ap (λ (k : List ℕ). (sized_expr vs d.test).weight k + 1 + (sized_stmt vs d.branch).weight k + (sized_stmt vs s).weight k) (sym none)
