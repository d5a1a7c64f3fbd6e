-- A body outside functions writes no locals, and one that is formed with writes of one kind has no targets of the other.
use Rattle.std.proofs.Common.{◌≡◌, ℕ, zero, Bool, true, false, not, ◌&&◌, List, [], ◌∷◌, map, refl, sym, ◌∙◌, ap, subst, Option, Some, None, ℤ, pos}
use Rattle.std.specs.List.{list_all}
use Rattle.design_core.specs.declared.place.BitRef.{BitRef}
use Rattle.design_core.specs.declared.tree.DBase.{DBase}
use Rattle.design_core.specs.declared.tree.DBase.TheVariants as base
use Rattle.design_core.specs.declared.tree.DExpr.{DExpr}
use Rattle.design_core.specs.declared.tree.DLeft.{DLeft, out-DLeft}
use Rattle.design_core.specs.declared.tree.DLeft.TheOpen.{DLeft-F, DStmt-F}
use Rattle.design_core.specs.declared.tree.DStmt.{DStmt, out-DStmt}
use Rattle.design_core.specs.declared.tree.DArm.{DArm, out-DArm}
use Rattle.design_core.specs.declared.tree.DFunction.{DFunction}
use Rattle.design_core.specs.declared.tree.DMatch.{DMatch}
use Rattle.design_core.specs.declared.items.Item.{Item}
use Rattle.design_core.specs.declared.items.Item.TheVariants as item
use Rattle.design_core.specs.declared.items.DReset.{DReset}
use Rattle.design_core.specs.declared.design.Design.{Design}
use Rattle.design_core.specs.Cells.{In}
use Rattle.design_core.specs.Core.{Term, Left, slice, slice_at, Stmt, skip, seq, write, choose}
use Rattle.design_core.specs.Needs.{names_local, writes_local, targets}
use Rattle.design_core.specs.Formed.{Place, Body, Branch, base_fits, of_kind, sized_expr, sized_left, sized_stmt, sized_arm, left_size, stmt_size}
use Rattle.design_core.specs.Terms.{base_of, all_left, in_turn, arms_in_turn, some_match, left, stmt, left_step, stmt_step, folded_left, folded_stmt, folded_arm, folded_match, folded_expr}
use Rattle.design_core.specs.Parts.{item_of, clocked_of, length_at}
use Rattle.design_core.specs.Wellformed.{signal_lengths, reset_fits, tree_fits}
use Rattle.design_core.proofs.BoolLaws.{both_true, false_or}
use Rattle.design_core.proofs.FormedLaws as f
use Rattle.design_core.proofs.TermLaws as t
use Rattle.design_core.proofs.TreeInduction.{LeftLayer, StmtLayer, Each, LeftParts, StmtParts, Steps, of_stmt, of_left}
use Rattle.design_laws.specs.Kinds.{IsOfKind, KeepsKind}
use Rattle.design_laws.proofs.AgainLaws.{left_core, stmt_core, arm_core}
use Rattle.design_laws.proofs.DesignLaws.{item_kept, silent_stmt_reads}

and_left : (a b : Bool) → (a && b) ≡ true → a ≡ true
and_left a b h = (both_true a b h).0

and_right : (a b : Bool) → (a && b) ≡ true → b ≡ true
and_right a b h = (both_true a b h).1

no_skip : (k : Bool) (b : BitRef) → targets k skip b ≡ false
no_skip true b = refl
no_skip false b = refl

no_seq : (k : Bool) (x y : Stmt) (b : BitRef) → targets k x b ≡ false → targets k y b ≡ false → targets k (seq x y) b ≡ false
no_seq true x y b h j = false_or (targets true x b) (targets true y b) h j
no_seq false x y b h j = false_or (targets false x b) (targets false y b) h j

no_choose : (k : Bool) (c : Term) (x y : Stmt) (b : BitRef) → targets k x b ≡ false → targets k y b ≡ false → targets k (choose c x y) b ≡ false
no_choose true c x y b h j = false_or (targets true x b) (targets true y b) h j
no_choose false c x y b h j = false_or (targets false x b) (targets false y b) h j

no_write : (k blocking : Bool) (l : Left) (e : Term) (b : BitRef) → of_kind k blocking ≡ true → targets (not k) (write l e blocking) b ≡ false
no_write true true l e b h = refl
no_write true false l e b h = cc
no_write false true l e b h = cc
no_write false false l e b h = refl

of_skip : (k : Bool) → IsOfKind k skip
of_skip k = record { no_local = refl; no_other = no_skip (not k) }

of_seq : (k : Bool) (x y : Stmt) → IsOfKind k x → IsOfKind k y → IsOfKind k (seq x y)
of_seq k x y p q = record { no_local = false_or (writes_local x) (writes_local y) p.no_local q.no_local; no_other = λ b. no_seq (not k) x y b (p.no_other b) (q.no_other b) }

of_choose : (k : Bool) (c : Term) (x y : Stmt) → IsOfKind k x → IsOfKind k y → IsOfKind k (choose c x y)
of_choose k c x y p q = record { no_local = false_or (writes_local x) (writes_local y) p.no_local q.no_local; no_other = λ b. no_choose (not k) c x y b (p.no_other b) (q.no_other b) }

module _ (vs : List ℕ) (size : ℕ → ℕ) (k : Bool) where
  abbrev E : DExpr → Type 0
  E e = Unit {0}

  abbrev L : DLeft → Type 0
  L l = (ls : List ℕ) → (sized_left vs l).formed ls false ≡ true → names_local (folded_left size l) ≡ false

  abbrev S : DStmt → Type 0
  S s = (ls : List ℕ) → (sized_stmt vs s).formed ls false (of_kind k) ≡ true → IsOfKind k (folded_stmt size s)

  abbrev A : DArm → Type 0
  A a = (n : ℕ) (ls : List ℕ) → (sized_arm vs a).formed n ls false (of_kind k) ≡ true → (selector : Term) (rest : Stmt) → IsOfKind k rest → IsOfKind k (folded_arm size a selector rest)

  abbrev F : DFunction → Type 0
  F g = Unit {0}

  abbrev M : DMatch → Type 0
  M x = Unit {0}

  no_local_slice : (b : DBase) (ls : List ℕ) (m : ℕ) (low : ℤ) (n : ℕ) → base_fits vs ls false b ≡ true → names_local (slice (base_of b) m low n) ≡ false
  no_local_slice (base.Signal s) ls m low n h = refl
  no_local_slice (base.Local j) ls m low n h = cc

  no_local_at : (b : DBase) (ls : List ℕ) (m : ℕ) (g : List Bool → ℤ) (e : Term) (n : ℕ) → base_fits vs ls false b ≡ true → names_local (slice_at (base_of b) m g e n) ≡ false
  no_local_at (base.Signal s) ls m g e n h = refl
  no_local_at (base.Local j) ls m g e n h = cc

  no_local_parts : (es : List DLeft) (ls : List ℕ) → Each L es → list_all (λ (x : Place). x.formed ls false) (map (sized_left vs) es) ≡ true → names_local (all_left (map (folded_left size) es)) ≡ false
  no_local_parts [] ls h g = refl
  no_local_parts (l ∷ es) ls h g =
      false_or (names_local (folded_left size l)) (names_local (all_left (map (folded_left size) es))) (h.0 ls (and_left _ _ g)) (no_local_parts es ls h.1 (and_right _ _ g))

  layer_global : (x : LeftLayer) (ls : List ℕ) → LeftParts E L S A F M x → (left_size vs (f.left_parts vs x)).formed ls false ≡ true → names_local (left_step size (t.left_parts size x)) ≡ false
  layer_global (DLeft-F.Whole b n) ls h g = no_local_slice b ls n (pos zero) n (and_left _ _ (and_left _ _ g))
  layer_global (DLeft-F.Part b low n) ls h g = no_local_slice b ls _ low n (and_left _ _ g)
  layer_global (DLeft-F.At b index offset down n) ls h g = no_local_at b ls _ _ (folded_expr size index).core n (and_left _ _ (and_left _ _ (and_left _ _ g)))
  layer_global (DLeft-F.«DLeft::Concat» parts) ls h g = no_local_parts parts ls h (and_left _ _ g)

  left_global : (l : DLeft) (x : LeftLayer) → out-DLeft l ≡ x → LeftParts E L S A F M x → L l
  left_global l x is h ls g =
      let formed : (left_size vs (f.left_parts vs x)).formed ls false ≡ true = sym (ap (λ (y : Place). y.formed ls false) (f.left_node vs l x is)) ∙ g in
      ap names_local (left_core size l x is) ∙ layer_global x ls h formed

  parts_of_kind : (ss : List DStmt) (ls : List ℕ) → Each S ss → list_all (λ (x : Body). x.formed ls false (of_kind k)) (map (sized_stmt vs) ss) ≡ true → IsOfKind k (in_turn (map (folded_stmt size) ss))
  parts_of_kind [] ls h g = of_skip k
  parts_of_kind (s ∷ ss) ls h g = of_seq k (folded_stmt size s) (in_turn (map (folded_stmt size) ss)) (h.0 ls (and_left _ _ g)) (parts_of_kind ss ls h.1 (and_right _ _ g))

  arms_of_kind : (as' : List DArm) (n : ℕ) (ls : List ℕ) → Each A as' → list_all (λ (x : Branch). x.formed n ls false (of_kind k)) (map (sized_arm vs) as') ≡ true
      → (selector : Term) (rest : Stmt) → IsOfKind k rest → IsOfKind k (arms_in_turn (map (folded_arm size) as') selector rest)
  arms_of_kind [] n ls h g selector rest r = r
  arms_of_kind (a ∷ as') n ls h g selector rest r = h.0 n ls (and_left _ _ g) selector (arms_in_turn (map (folded_arm size) as') selector rest) (arms_of_kind as' n ls h.1 (and_right _ _ g) selector rest r)

  layer_of_kind : (x : StmtLayer) (ls : List ℕ) → StmtParts E L S A F M x → (stmt_size (f.stmt_parts vs x)).formed ls false (of_kind k) ≡ true → IsOfKind k (stmt_step (t.stmt_parts size x))
  layer_of_kind (DStmt-F.Block parts) ls h g = parts_of_kind parts ls h g
  layer_of_kind (DStmt-F.Turns parts) ls h g = parts_of_kind parts ls h g
  layer_of_kind (DStmt-F.Write l e blocking) ls h g = record {
    no_local = h.0 ls (and_left _ _ (and_left _ _ (and_left _ _ g)));
    no_other = λ b. no_write k blocking (folded_left size l) (folded_expr size e).core b (and_right _ _ g);
  }
  layer_of_kind (DStmt-F.If test a b) ls h g =
      of_choose k (folded_expr size test).core (folded_stmt size a) (folded_stmt size b) (h.1.0 ls (and_right _ _ (and_left _ _ g))) (h.1.1 ls (and_right _ _ g))
  layer_of_kind (DStmt-F.Case selector arms None) ls h g =
      arms_of_kind arms (sized_expr vs selector).length ls h.1.0 (and_right _ _ (and_left _ _ g)) (folded_expr size selector).core skip (of_skip k)
  layer_of_kind (DStmt-F.Case selector arms (Some rest)) ls h g =
      arms_of_kind arms (sized_expr vs selector).length ls h.1.0 (and_right _ _ (and_left _ _ g)) (folded_expr size selector).core (folded_stmt size rest) (h.1.1 ls (and_right _ _ g))

  stmt_of_kind : (s : DStmt) (x : StmtLayer) → out-DStmt s ≡ x → StmtParts E L S A F M x → S s
  stmt_of_kind s x is h ls g =
      let formed : (stmt_size (f.stmt_parts vs x)).formed ls false (of_kind k) ≡ true = sym (ap (λ (y : Body). y.formed ls false (of_kind k)) (f.stmt_node vs s x is)) ∙ g in
      subst (IsOfKind k) (sym (stmt_core size s x is)) (layer_of_kind x ls h formed)

  arm_of_kind : (a : DArm) → Each M (out-DArm a).matches → S (out-DArm a).body → A a
  arm_of_kind a h j n ls g selector rest r =
      let formed = sym (ap (λ (y : Branch). y.formed n ls false (of_kind k)) (f.sized_arm_is vs a)) ∙ g in
      let test = some_match (map (folded_match size) (out-DArm a).matches) selector in
      let is : folded_arm size a selector rest ≡ choose test (folded_stmt size (out-DArm a).body) rest = ap (λ (c : Term → Stmt → Stmt). c selector rest) (arm_core size a) in
      subst (IsOfKind k) (sym is) (of_choose k test (folded_stmt size (out-DArm a).body) rest (j ls (and_right _ _ formed)) r)

  steps : Steps E L S A F M
  steps = record {
    expr = λ e h. tt;
    left = λ l h. left_global l (out-DLeft l) refl h;
    stmt = λ s h. stmt_of_kind s (out-DStmt s) refl h;
    arm = arm_of_kind;
    function = λ g h. tt;
    match = λ x h. tt;
  }

  -- a formed body has one kind of writes, and names no locals
  pub body_of_kind : (s : DStmt) → (sized_stmt vs s).formed [] false (of_kind k) ≡ true → IsOfKind k (stmt size s)
  unfolding stmt
  body_of_kind s g = of_stmt E L S A F M steps s [] g

  pub left_is_global : (l : DLeft) → (sized_left vs l).formed [] false ≡ true → names_local (left size l) ≡ false
  unfolding left
  left_is_global l g = of_left E L S A F M steps l [] g

-- a formed item keeps its kind
clocked_kept : (vs : List ℕ) (size : ℕ → ℕ) (reset : Option DReset) (body : DStmt) → (sized_stmt vs body).formed [] false (of_kind false) ≡ true → reset_fits vs size reset ≡ true → KeepsKind (clocked_of size reset body)
clocked_kept vs size None body g h = body_of_kind vs size false body g
clocked_kept vs size (Some r) body g h = record {
  branch_kind = body_of_kind vs size false r.branch (and_right _ _ (and_left _ _ h));
  body_kind = body_of_kind vs size false body g;
  silent = λ b. silent_stmt_reads (stmt size r.branch) b (and_right _ _ h);
}

pub kind_kept : (vs : List ℕ) (size : ℕ → ℕ) (i : Item) → tree_fits vs size i ≡ true → KeepsKind (item_of size i)
kind_kept vs size (item.Assign scope weight l e) h = left_is_global vs size false l (and_left _ _ (and_left _ _ (and_left _ _ h)))
kind_kept vs size (item.Comb scope weight body) h = body_of_kind vs size true body h
kind_kept vs size (item.Clocked scope weight reset body) h = clocked_kept vs size reset body (and_left _ _ h) (and_right _ _ h)

pub design_kept : (design : Design) (i : Item) → In i design.items → KeepsKind (item_of (length_at design.signals) i)
design_kept design i m = kind_kept (signal_lengths design.signals) (length_at design.signals) i (and_right _ _ (and_left _ _ (item_kept design i m)))
