-- What follows from what a design keeps.
use Rattle.std.proofs.Common.{◌≡◌, ℕ, Bool, true, false, List, [], ◌∷◌, length, inl, inr, refl, ◌∙◌, ap, arith, ◌&&◌, ◌||◌}
use Rattle.std.specs.Prelude.{◌==◌}
use Rattle.std.specs.List.{list_all}
use Rattle.std.proofs.lemmas.Bool.Decides.{nat_tests}
use Rattle.design_core.specs.declared.place.BitRef.{BitRef}
use Rattle.design_core.specs.declared.items.Item.{Item}
use Rattle.design_core.specs.declared.design.Design.{Design}
use Rattle.design_core.specs.Core.{Term, constant, span, own, app1, app2, app3, call, Args, stop, pass, Left, nowhere, both, slice, slice_at, Stmt, skip, seq, write, choose, reads, args_read, left_reads, stmt_reads}
use Rattle.design_core.specs.Cells.{In}
use Rattle.design_core.specs.Parts.{length_at}
use Rattle.design_core.specs.Wellformed.{is_design, are_formed, item_fits, signal_lengths, carried_weight, weight_of, is_silent, silent_args, silent_left, silent_stmt}
use Rattle.design_core.proofs.BoolLaws.{both_true, false_or}

all_member : {A : Type 0} (p : A → Bool) (xs : List A) (x : A) → list_all p xs ≡ true → In x xs → p x ≡ true
all_member p [] x h m = elim m [ ]
all_member p (y ∷ ys) x h (inl e) = ap p e ∙ (both_true (p y) (list_all p ys) h).0
all_member p (y ∷ ys) x h (inr m) = all_member p ys x (both_true (p y) (list_all p ys) h).1 m

number_is : (a b : ℕ) → (a == b) ≡ true → a ≡ b
number_is a b h = grind (arith, nat_tests)

-- each item of a design fits it
pub item_kept : (design : Design) (i : Item) → In i design.items → item_fits (signal_lengths design.signals) (length_at design.signals) (length design.scopes) i ≡ true
unfolding is_design are_formed
item_kept design i m = all_member _ design.items i
    (both_true _ _ (both_true _ _ (both_true _ _ (both_true _ _ (both_true _ _ design.kept).0).0).0).0).1 m

-- each item weighs what it carries
pub item_weighs : (design : Design) (i : Item) → In i design.items → carried_weight i ≡ weight_of (signal_lengths design.signals) i
item_weighs design i m =
    let w = (both_true _ _ (item_kept design i m)).1 in
    let e : (carried_weight i == weight_of (signal_lengths design.signals) i) ≡ true = w in
    number_is (carried_weight i) (weight_of (signal_lengths design.signals) i) e

mutual
  -- what is silent reads no signal
  pub silent_reads : (e : Term) (b : BitRef) → is_silent e ≡ true → reads e b ≡ false
  silent_reads (constant v) b h = refl
  silent_reads (span s m low n) b h = cc
  silent_reads (own k) b h = refl
  silent_reads (app1 f x) b h = silent_reads x b h
  silent_reads (app2 f x y) b h = let p = both_true (is_silent x) (is_silent y) h in false_or (reads x b) (reads y b) (silent_reads x b p.0) (silent_reads y b p.1)
  silent_reads (app3 f x y z) b h =
      let p = both_true (is_silent x && is_silent y) (is_silent z) h in let q = both_true (is_silent x) (is_silent y) p.0 in
      false_or (reads x b) (reads y b || reads z b) (silent_reads x b q.0) (false_or (reads y b) (reads z b) (silent_reads y b q.1) (silent_reads z b p.1))
  silent_reads (call as' body n inputs locals) b h = let p = both_true (silent_args as') (silent_stmt body) h in
      false_or (args_read as' b) (stmt_reads body b) (silent_args_read as' b p.0) (silent_stmt_reads body b p.1)

  pub silent_args_read : (as' : Args) (b : BitRef) → silent_args as' ≡ true → args_read as' b ≡ false
  silent_args_read stop b h = refl
  silent_args_read (pass e as') b h = let p = both_true (is_silent e) (silent_args as') h in
      false_or (reads e b) (args_read as' b) (silent_reads e b p.0) (silent_args_read as' b p.1)

  pub silent_left_reads : (l : Left) (b : BitRef) → silent_left l ≡ true → left_reads l b ≡ false
  silent_left_reads nowhere b h = refl
  silent_left_reads (both x y) b h = let p = both_true (silent_left x) (silent_left y) h in
      false_or (left_reads x b) (left_reads y b) (silent_left_reads x b p.0) (silent_left_reads y b p.1)
  silent_left_reads (slice base m low n) b h = refl
  silent_left_reads (slice_at base m f e n) b h = silent_reads e b h

  pub silent_stmt_reads : (s : Stmt) (b : BitRef) → silent_stmt s ≡ true → stmt_reads s b ≡ false
  silent_stmt_reads skip b h = refl
  silent_stmt_reads (seq x y) b h = let p = both_true (silent_stmt x) (silent_stmt y) h in
      false_or (stmt_reads x b) (stmt_reads y b) (silent_stmt_reads x b p.0) (silent_stmt_reads y b p.1)
  silent_stmt_reads (write l e blocking) b h = let p = both_true (is_silent e) (silent_left l) h in
      false_or (reads e b) (left_reads l b) (silent_reads e b p.0) (silent_left_reads l b p.1)
  silent_stmt_reads (choose c x y) b h =
      let p = both_true (is_silent c && silent_stmt x) (silent_stmt y) h in let q = both_true (is_silent c) (silent_stmt x) p.0 in
      false_or (reads c b) (stmt_reads x b || stmt_reads y b) (silent_reads c b q.0)
      (false_or (stmt_reads x b) (stmt_reads y b) (silent_stmt_reads x b q.1) (silent_stmt_reads y b p.1))
