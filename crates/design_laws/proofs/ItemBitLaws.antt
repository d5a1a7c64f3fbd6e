-- An item that fits reads and drives bits of the signals alone.
use Rattle.std.proofs.Common.{◌≡◌, ℕ, Bool, true, false, not, ◌&&◌, List, [], sym, subst, Option, Some, None}
use Rattle.design_core.specs.declared.place.BitRef.{BitRef}
use Rattle.design_core.specs.declared.tree.DExpr.{DExpr}
use Rattle.design_core.specs.declared.tree.DLeft.{DLeft}
use Rattle.design_core.specs.declared.tree.DStmt.{DStmt}
use Rattle.design_core.specs.declared.items.Item.{Item}
use Rattle.design_core.specs.declared.items.Item.TheVariants as item
use Rattle.design_core.specs.declared.items.DReset.{DReset}
use Rattle.design_core.specs.declared.design.Design.{Design}
use Rattle.design_core.specs.Cells.{In}
use Rattle.design_core.specs.Core.{same_bit, reads, left_reads, stmt_reads, left_drives, drives}
use Rattle.design_core.specs.Formed.{sized_expr, sized_left, sized_stmt, of_kind}
use Rattle.design_core.specs.Items.{cell_of}
use Rattle.design_core.specs.Numbers.{is_bit}
use Rattle.design_core.specs.Parts.{item_of, clocked_of, item_cell}
use Rattle.design_core.specs.Terms.{term, left, stmt}
use Rattle.design_core.specs.Wellformed.{signal_lengths, reset_fits, tree_fits}
use Rattle.design_core.proofs.BoolLaws.{both_true}
use Rattle.design_core.proofs.TreeInduction.{of_expr, of_left, of_stmt}
use Rattle.design_laws.specs.Kinds.{IsOverBits, length_in}
use Rattle.design_laws.proofs.BitLaws as bits
use Rattle.design_laws.proofs.DesignLaws.{item_kept}
use Rattle.design_laws.proofs.ItemLaws.{same_bit_is}

and_left : (a b : Bool) → (a && b) ≡ true → a ≡ true
and_left a b h = (both_true a b h).0

and_right : (a b : Bool) → (a && b) ≡ true → b ≡ true
and_right a b h = (both_true a b h).1

module _ (vs : List ℕ) where
  pub expr_bits : (ls : List ℕ) (e : DExpr) → (sized_expr vs e).formed ls ≡ true → bits.Among vs (reads (term (length_in vs) e))
  unfolding term
  expr_bits ls e g = of_expr (bits.E vs) (bits.L vs) (bits.S vs) (bits.A vs) (bits.F vs) (bits.M vs) (bits.steps vs) e ls g

  pub left_bits : (ls : List ℕ) (inside : Bool) (l : DLeft) → (sized_left vs l).formed ls inside ≡ true
      → bits.Among vs (left_reads (left (length_in vs) l)) × bits.Among vs (left_drives (left (length_in vs) l))
  unfolding left
  left_bits ls inside l g = of_left (bits.E vs) (bits.L vs) (bits.S vs) (bits.A vs) (bits.F vs) (bits.M vs) (bits.steps vs) l ls inside g

  pub stmt_bits : (ls : List ℕ) (inside : Bool) (kinds : Bool → Bool) (s : DStmt) → (sized_stmt vs s).formed ls inside kinds ≡ true
      → bits.Among vs (stmt_reads (stmt (length_in vs) s)) × bits.Among vs (drives (stmt (length_in vs) s))
  unfolding stmt
  stmt_bits ls inside kinds s g = of_stmt (bits.E vs) (bits.L vs) (bits.S vs) (bits.A vs) (bits.F vs) (bits.M vs) (bits.steps vs) s ls inside kinds g

  clocked_bits : (reset : Option DReset) (body : DStmt) → (sized_stmt vs body).formed [] false (of_kind false) ≡ true → reset_fits vs (length_in vs) reset ≡ true
      → IsOverBits vs (cell_of (clocked_of (length_in vs) reset body))
  clocked_bits None body g h =
      let p = stmt_bits [] false (of_kind false) body g in
      record { reads_bits = λ b q. cc; uses_bits = p.0; drives_bits = p.1 }
  clocked_bits (Some r) body g h =
      let p = stmt_bits [] false (of_kind false) body g in
      let branch = stmt_bits [] false (of_kind false) r.branch (and_right _ _ (and_left _ _ h)) in
      let own : is_bit vs r.bit ≡ true = and_left _ _ (and_left _ _ (and_left _ _ (and_left _ _ h))) in
      let at_bit : (b : BitRef) → same_bit b r.bit ≡ true → is_bit vs b ≡ true = λ b q. subst (λ a. is_bit vs a ≡ true) (sym (same_bit_is b r.bit q)) own in
      record {
        reads_bits = at_bit;
        uses_bits = bits.both_among vs (λ b. same_bit b r.bit) (stmt_reads (stmt (length_in vs) body)) at_bit p.0;
        drives_bits = bits.both_among vs (drives (stmt (length_in vs) r.branch)) (drives (stmt (length_in vs) body)) branch.1 p.1;
      }

  pub item_bits : (i : Item) → tree_fits vs (length_in vs) i ≡ true → IsOverBits vs (cell_of (item_of (length_in vs) i))
  item_bits (item.Assign scope weight l e) h =
      let w = and_left _ _ h in
      let p = left_bits [] false l (and_left _ _ (and_left _ _ w)) in
      record {
        reads_bits = bits.both_among vs (reads (term (length_in vs) e)) (left_reads (left (length_in vs) l)) (expr_bits [] e (and_right _ _ w)) p.0;
        uses_bits = λ b q. cc;
        drives_bits = p.1;
      }
  item_bits (item.Comb scope weight body) h =
      let p = stmt_bits [] false (of_kind true) body h in
      record {
        reads_bits = λ b q. p.0 b (and_left (stmt_reads (stmt (length_in vs) body) b) (not (drives (stmt (length_in vs) body) b)) q);
        uses_bits = λ b q. cc;
        drives_bits = p.1;
      }
  item_bits (item.Clocked scope weight reset body) h = clocked_bits reset body (and_left _ _ h) (and_right _ _ h)

pub design_bits : (design : Design) (i : Item) → In i design.items → IsOverBits (signal_lengths design.signals) (item_cell design.signals i)
design_bits design i m = item_bits (signal_lengths design.signals) i (and_right _ _ (and_left _ _ (item_kept design i m)))
