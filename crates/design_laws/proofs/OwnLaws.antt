-- A formed tree names signals of its list alone; so an item stays what it is over these signals and more.
use Rattle.std.proofs.Common.{◌≡◌, ℕ, ◌<◌, ◌≤◌, Bool, true, false, ◌&&◌, List, [], ◌∷◌, ◌++◌, map, length, length-append, inl, inr, refl, sym, ◌∙◌, ap, subst, arith, Option, Some, None, nat_lt}
use Rattle.std.specs.Prelude.{◌==◌, slice_index_or}
use Rattle.std.specs.List.{list_all}
use Rattle.std.proofs.lemmas.Bool.Decides.{nat_tests}
use Rattle.std.proofs.lemmas.List.{get_or_append_left, get_or_past}
use Rattle.design_core.specs.declared.place.BitRef.{BitRef}
use Rattle.design_core.specs.declared.tree.DBase.{DBase}
use Rattle.design_core.specs.declared.tree.DBase.TheVariants as base
use Rattle.design_core.specs.declared.tree.DExpr.{DExpr}
use Rattle.design_core.specs.declared.tree.DNode.{out-DNode}
use Rattle.design_core.specs.declared.tree.DLeft.{DLeft, out-DLeft}
use Rattle.design_core.specs.declared.tree.DLeft.TheOpen.{DLeft-F, DNode-F, DStmt-F}
use Rattle.design_core.specs.declared.tree.DStmt.{DStmt, out-DStmt}
use Rattle.design_core.specs.declared.tree.DArm.{DArm, out-DArm}
use Rattle.design_core.specs.declared.tree.DFunction.{DFunction}
use Rattle.design_core.specs.declared.tree.DMatch.{DMatch, out-DMatch}
use Rattle.design_core.specs.declared.items.Item.{Item}
use Rattle.design_core.specs.declared.items.Item.TheVariants as item
use Rattle.design_core.specs.declared.items.DReset.{DReset}
use Rattle.design_core.specs.Formed.{Sized, Place, Body, Branch, Routine, Choice, is_vector, base_fits, of_kind, sized_expr, sized_left, sized_stmt, sized_arm, sized_function, sized_match, node_size, left_size, stmt_size}
use Rattle.design_core.specs.Mentions.{Signals, no_signals, and_also, of_all, of_rest, base_mentions, left_mentions, node_mentions, stmt_mentions, mentions_expr, mentions_left, mentions_stmt, mentions_arm, mentions_function, mentions_match, names_of, names_of_left, names_of_stmt, names_of_reset, names_of_item}
use Rattle.design_core.specs.Numbers.{is_bit}
use Rattle.design_core.specs.Parts.{item_of}
use Rattle.design_core.specs.Wellformed.{tree_fits, reset_fits, weight_of}
use Rattle.design_core.proofs.BoolLaws.{both_true, or_cases, either}
use Rattle.design_core.proofs.FormedLaws as f
use Rattle.design_core.proofs.MentionLaws as m
use Rattle.design_core.proofs.TreeInduction.{NodeLayer, LeftLayer, StmtLayer, Each, NodeParts, LeftParts, StmtParts, Steps, of_expr, of_left, of_stmt}
use Rattle.design_laws.specs.Kinds.{length_in}
use Rattle.design_laws.specs.Trees.{AgreeOn, itself}
use Rattle.design_laws.proofs.TreeLaws.{item_named}

number_is : (a b : ℕ) → (a == b) ≡ true → a ≡ b
number_is a b h = grind (arith, nat_tests)

below_is : (a b : ℕ) → nat_lt a b ≡ true → a < b
below_is a b h = grind (arith, nat_tests)

is_below : (a b : ℕ) → a < b → nat_lt a b ≡ true
is_below a b h = grind (arith, nat_tests)

not_below : (a b : ℕ) → nat_lt a b ≡ false → b ≤ a
not_below a b h = grind (arith, nat_tests)

and_left : (a b : Bool) → (a && b) ≡ true → a ≡ true
and_left a b h = (both_true a b h).0

and_right : (a b : Bool) → (a && b) ≡ true → b ≡ true
and_right a b h = (both_true a b h).1

module _ (vs : List ℕ) where
  -- each of these signals is one of the list
  abbrev Own : Signals → Type 0
  Own g = (s : ℕ) → g s ≡ true → nat_lt s (length vs) ≡ true

  none_own : Own no_signals
  none_own s p = cc

  both_own : (g h : Signals) → Own g → Own h → Own (and_also g h)
  both_own g h p q s e = elim (or_cases (g s) (h s) e) [ inl x ↦ p s x | inr x ↦ q s x ]

  one_own : (k : ℕ) → nat_lt k (length vs) ≡ true → Own (λ s. s == k)
  one_own k h s p = subst (λ j. nat_lt j (length vs) ≡ true) (sym (number_is s k p)) h

  abbrev E : DExpr → Type 0
  E e = (ls : List ℕ) → (sized_expr vs e).formed ls ≡ true → Own (mentions_expr e)

  abbrev L : DLeft → Type 0
  L l = (ls : List ℕ) (inside : Bool) → (sized_left vs l).formed ls inside ≡ true → Own (mentions_left l)

  abbrev S : DStmt → Type 0
  S s = (ls : List ℕ) (inside : Bool) (kinds : Bool → Bool) → (sized_stmt vs s).formed ls inside kinds ≡ true → Own (mentions_stmt s)

  abbrev A : DArm → Type 0
  A a = (n : ℕ) (ls : List ℕ) (inside : Bool) (kinds : Bool → Bool) → (sized_arm vs a).formed n ls inside kinds ≡ true → Own (mentions_arm a)

  abbrev F : DFunction → Type 0
  F g = (sized_function vs g).formed ≡ true → Own (mentions_function g)

  abbrev M : DMatch → Type 0
  M x = (n : ℕ) (ls : List ℕ) → (sized_match vs x).formed n ls ≡ true → Own (mentions_match x)

  exprs_own : (es : List DExpr) (ls : List ℕ) → Each E es → list_all (λ (x : Sized). x.formed ls) (map (sized_expr vs) es) ≡ true → Own (of_all (map mentions_expr es))
  exprs_own [] ls h g = none_own
  exprs_own (e ∷ es) ls h g = both_own (mentions_expr e) (of_all (map mentions_expr es)) (h.0 ls (and_left _ _ g)) (exprs_own es ls h.1 (and_right _ _ g))

  node_own : (x : NodeLayer) (n : ℕ) (ls : List ℕ) → NodeParts E L S A F M x → (node_size vs (f.node_parts vs x) n).formed ls ≡ true → Own (node_mentions (m.node_signals x))
  node_own (DNode-F.Const bits) n ls h g = none_own
  node_own (DNode-F.Signal s) n ls h g = one_own s (and_left _ _ g)
  node_own (DNode-F.Local j) n ls h g = none_own
  node_own (DNode-F.Select e low) n ls h g = h ls g
  node_own (DNode-F.SelectAt e index offset down) n ls h g =
      both_own (mentions_expr e) (mentions_expr index) (h.0 ls (and_left _ _ (and_left _ _ g))) (h.1 ls (and_right _ _ (and_left _ _ g)))
  node_own (DNode-F.Unary op a) n ls h g = h ls (and_left _ _ g)
  node_own (DNode-F.Binary op a b) n ls h g = both_own (mentions_expr a) (mentions_expr b) (h.0 ls (and_left _ _ (and_left _ _ g))) (h.1 ls (and_right _ _ (and_left _ _ g)))
  node_own (DNode-F.Mux c a b) n ls h g =
      let u = and_left _ _ (and_left _ _ g) in
      both_own (mentions_expr c) (and_also (mentions_expr a) (mentions_expr b)) (h.0 ls (and_left _ _ (and_left _ _ u)))
      (both_own (mentions_expr a) (mentions_expr b) (h.1.0 ls (and_right _ _ (and_left _ _ u))) (h.1.1 ls (and_right _ _ u)))
  node_own (DNode-F.Extend a by_sign) n ls h g = h ls (and_left _ _ g)
  node_own (DNode-F.«DNode::Concat» parts) n ls h g = exprs_own parts ls h (and_left _ _ g)
  node_own (DNode-F.Repeat count part) n ls h g = h ls (and_left _ _ g)
  node_own (DNode-F.Call function arguments) n ls h g =
      both_own (mentions_function function) (of_all (map mentions_expr arguments))
      (h.0 (and_left _ _ (and_left _ _ (and_left _ _ g)))) (exprs_own arguments ls h.1 (and_right _ _ (and_left _ _ g)))

  expr_own : (e : DExpr) (x : NodeLayer) → out-DNode e.node ≡ x → NodeParts E L S A F M x → E e
  expr_own e x is h ls g =
      let formed : (is_vector e.length && (node_size vs (f.node_parts vs x) e.length).formed ls) ≡ true = sym (ap (λ (y : Sized). y.formed ls) (f.expr_node vs e x is)) ∙ g in
      subst Own (sym (m.expr_mention e x is)) (node_own x e.length ls h (and_right _ _ formed))

  base_own : (b : DBase) (ls : List ℕ) (inside : Bool) → base_fits vs ls inside b ≡ true → Own (base_mentions b)
  base_own (base.Signal s) ls inside h = one_own s (and_right _ _ h)
  base_own (base.Local k) ls inside h = none_own

  lefts_own : (es : List DLeft) (ls : List ℕ) (inside : Bool) → Each L es → list_all (λ (x : Place). x.formed ls inside) (map (sized_left vs) es) ≡ true → Own (of_all (map mentions_left es))
  lefts_own [] ls inside h g = none_own
  lefts_own (l ∷ es) ls inside h g = both_own (mentions_left l) (of_all (map mentions_left es)) (h.0 ls inside (and_left _ _ g)) (lefts_own es ls inside h.1 (and_right _ _ g))

  layer_own : (x : LeftLayer) (ls : List ℕ) (inside : Bool) → LeftParts E L S A F M x → (left_size vs (f.left_parts vs x)).formed ls inside ≡ true → Own (left_mentions (m.left_signals x))
  layer_own (DLeft-F.Whole b n) ls inside h g = base_own b ls inside (and_left _ _ (and_left _ _ g))
  layer_own (DLeft-F.Part b low n) ls inside h g = base_own b ls inside (and_left _ _ g)
  layer_own (DLeft-F.At b index offset down n) ls inside h g =
      let w = and_left _ _ (and_left _ _ g) in both_own (base_mentions b) (mentions_expr index) (base_own b ls inside (and_left _ _ w)) (h ls (and_right _ _ w))
  layer_own (DLeft-F.«DLeft::Concat» parts) ls inside h g = lefts_own parts ls inside h (and_left _ _ g)

  left_side_own : (l : DLeft) (x : LeftLayer) → out-DLeft l ≡ x → LeftParts E L S A F M x → L l
  left_side_own l x is h ls inside g =
      let formed : (left_size vs (f.left_parts vs x)).formed ls inside ≡ true = sym (ap (λ (y : Place). y.formed ls inside) (f.left_node vs l x is)) ∙ g in
      subst Own (sym (m.left_mention l x is)) (layer_own x ls inside h formed)

  stmts_own : (ss : List DStmt) (ls : List ℕ) (inside : Bool) (kinds : Bool → Bool) → Each S ss → list_all (λ (x : Body). x.formed ls inside kinds) (map (sized_stmt vs) ss) ≡ true → Own (of_all (map mentions_stmt ss))
  stmts_own [] ls inside kinds h g = none_own
  stmts_own (s ∷ ss) ls inside kinds h g = both_own (mentions_stmt s) (of_all (map mentions_stmt ss)) (h.0 ls inside kinds (and_left _ _ g)) (stmts_own ss ls inside kinds h.1 (and_right _ _ g))

  arms_own : (as' : List DArm) (n : ℕ) (ls : List ℕ) (inside : Bool) (kinds : Bool → Bool) → Each A as' → list_all (λ (x : Branch). x.formed n ls inside kinds) (map (sized_arm vs) as') ≡ true → Own (of_all (map mentions_arm as'))
  arms_own [] n ls inside kinds h g = none_own
  arms_own (a ∷ as') n ls inside kinds h g = both_own (mentions_arm a) (of_all (map mentions_arm as')) (h.0 n ls inside kinds (and_left _ _ g)) (arms_own as' n ls inside kinds h.1 (and_right _ _ g))

  body_own : (x : StmtLayer) (ls : List ℕ) (inside : Bool) (kinds : Bool → Bool) → StmtParts E L S A F M x → (stmt_size (f.stmt_parts vs x)).formed ls inside kinds ≡ true → Own (stmt_mentions (m.stmt_signals x))
  body_own (DStmt-F.Block parts) ls inside kinds h g = stmts_own parts ls inside kinds h g
  body_own (DStmt-F.Turns parts) ls inside kinds h g = stmts_own parts ls inside kinds h g
  body_own (DStmt-F.Write l e blocking) ls inside kinds h g =
      let w = and_left _ _ (and_left _ _ g) in both_own (mentions_left l) (mentions_expr e) (h.0 ls inside (and_left _ _ w)) (h.1 ls (and_right _ _ w))
  body_own (DStmt-F.If test a b) ls inside kinds h g =
      let w = and_left _ _ g in
      both_own (mentions_expr test) (and_also (mentions_stmt a) (mentions_stmt b)) (h.0 ls (and_left _ _ w))
      (both_own (mentions_stmt a) (mentions_stmt b) (h.1.0 ls inside kinds (and_right _ _ w)) (h.1.1 ls inside kinds (and_right _ _ g)))
  body_own (DStmt-F.Case selector arms None) ls inside kinds h g =
      let w = and_left _ _ g in
      both_own (mentions_expr selector) (and_also (of_all (map mentions_arm arms)) (of_rest None)) (h.0 ls (and_left _ _ w))
      (both_own (of_all (map mentions_arm arms)) (of_rest None) (arms_own arms (sized_expr vs selector).length ls inside kinds h.1.0 (and_right _ _ w)) none_own)
  body_own (DStmt-F.Case selector arms (Some rest)) ls inside kinds h g =
      let w = and_left _ _ g in
      both_own (mentions_expr selector) (and_also (of_all (map mentions_arm arms)) (mentions_stmt rest)) (h.0 ls (and_left _ _ w))
      (both_own (of_all (map mentions_arm arms)) (mentions_stmt rest) (arms_own arms (sized_expr vs selector).length ls inside kinds h.1.0 (and_right _ _ w)) (h.1.1 ls inside kinds (and_right _ _ g)))

  stmt_own : (s : DStmt) (x : StmtLayer) → out-DStmt s ≡ x → StmtParts E L S A F M x → S s
  stmt_own s x is h ls inside kinds g =
      let formed : (stmt_size (f.stmt_parts vs x)).formed ls inside kinds ≡ true = sym (ap (λ (y : Body). y.formed ls inside kinds) (f.stmt_node vs s x is)) ∙ g in
      subst Own (sym (m.stmt_mention s x is)) (body_own x ls inside kinds h formed)

  matches_own : (xs : List DMatch) (n : ℕ) (ls : List ℕ) → Each M xs → list_all (λ (x : Choice). x.formed n ls) (map (sized_match vs) xs) ≡ true → Own (of_all (map mentions_match xs))
  matches_own [] n ls h g = none_own
  matches_own (x ∷ xs) n ls h g = both_own (mentions_match x) (of_all (map mentions_match xs)) (h.0 n ls (and_left _ _ g)) (matches_own xs n ls h.1 (and_right _ _ g))

  arm_own : (a : DArm) → Each M (out-DArm a).matches → S (out-DArm a).body → A a
  arm_own a h j n ls inside kinds g =
      let formed : (list_all (λ (x : Choice). x.formed n ls) (map (sized_match vs) (out-DArm a).matches) && (sized_stmt vs (out-DArm a).body).formed ls inside kinds) ≡ true
      = sym (ap (λ (y : Branch). y.formed n ls inside kinds) (f.sized_arm_is vs a)) ∙ g in
      subst Own (sym (m.arm_mention a)) (both_own (of_all (map mentions_match (out-DArm a).matches)) (mentions_stmt (out-DArm a).body)
      (matches_own (out-DArm a).matches n ls h (and_left _ _ formed)) (j ls inside kinds (and_right _ _ formed)))

  function_own : (g : DFunction) → S g.body → F g
  function_own g h e =
      let formed = sym (ap (λ (y : Routine). y.formed) (f.sized_function_is vs g)) ∙ e in
      subst Own (sym (m.function_mention g)) (h _ true (of_kind true) (and_right _ _ formed))

  match_own : (x : DMatch) → E (out-DMatch x).value → M x
  match_own x h n ls g =
      let formed = sym (ap (λ (y : Choice). y.formed n ls) (f.sized_match_is vs x)) ∙ g in
      subst Own (sym (m.match_mention x)) (h ls (and_left _ _ (and_left _ _ formed)))

  steps : Steps E L S A F M
  steps = record {
    expr = λ e h. expr_own e (out-DNode e.node) refl h;
    left = λ l h. left_side_own l (out-DLeft l) refl h;
    stmt = λ s h. stmt_own s (out-DStmt s) refl h;
    arm = arm_own;
    function = function_own;
    match = match_own;
  }

  names_own : (ls : List ℕ) (e : DExpr) → (sized_expr vs e).formed ls ≡ true → Own (names_of e)
  unfolding names_of
  names_own ls e g = of_expr E L S A F M steps e ls g

  left_names_own : (ls : List ℕ) (inside : Bool) (l : DLeft) → (sized_left vs l).formed ls inside ≡ true → Own (names_of_left l)
  unfolding names_of_left
  left_names_own ls inside l g = of_left E L S A F M steps l ls inside g

  stmt_names_own : (ls : List ℕ) (inside : Bool) (kinds : Bool → Bool) (s : DStmt) → (sized_stmt vs s).formed ls inside kinds ≡ true → Own (names_of_stmt s)
  unfolding names_of_stmt
  stmt_names_own ls inside kinds s g = of_stmt E L S A F M steps s ls inside kinds g

  bit_own : (b : BitRef) → is_bit vs b ≡ true → nat_lt b.signal (length vs) ≡ true
  bit_own b h = elim (either (nat_lt b.signal (length vs))) [
    | inl e ↦ e
    | inr e ↦ (let l = below_is b.bit (slice_index_or vs b.signal 0) h in let z = get_or_past vs b.signal 0 (not_below b.signal (length vs) e) in absurd (omega (arith, l, z)))
  ]

  reset_own : (size : ℕ → ℕ) (reset : Option DReset) → reset_fits vs size reset ≡ true → Own (names_of_reset reset)
  reset_own size None h = none_own
  reset_own size (Some r) h =
      let a = and_left _ _ (and_left _ _ h) in
      let t = and_left _ _ a in
      both_own (λ s. s == (r.bit).signal) (and_also (names_of r.test) (names_of_stmt r.branch)) (one_own (r.bit).signal (bit_own r.bit (and_left _ _ t)))
      (both_own (names_of r.test) (names_of_stmt r.branch) (names_own [] r.test (and_right _ _ t)) (stmt_names_own [] false (of_kind false) r.branch (and_right _ _ (and_left _ _ h))))

  pub item_own : (size : ℕ → ℕ) (i : Item) → tree_fits vs size i ≡ true → (s : ℕ) → names_of_item i s ≡ true → nat_lt s (length vs) ≡ true
  item_own size (item.Assign scope weight l e) h =
      let w = and_left _ _ h in
      both_own (names_of_left l) (names_of e) (left_names_own [] false l (and_left _ _ (and_left _ _ w))) (names_own [] e (and_right _ _ w))
  item_own size (item.Comb scope weight body) h = stmt_names_own [] false (of_kind true) body h
  item_own size (item.Clocked scope weight reset body) h =
      both_own (names_of_reset reset) (names_of_stmt body) (reset_own size reset (and_right _ _ h)) (stmt_names_own [] false (of_kind false) body (and_left _ _ h))

-- the lengths of more signals agree on those that there were
longer_agree : (vs more : List ℕ) (g : Signals) → ((s : ℕ) → g s ≡ true → nat_lt s (length vs) ≡ true) → AgreeOn itself vs (vs ++ more) g
longer_agree vs more g own s p =
    let l = below_is s (length vs) (own s p) in
    (is_below s (length (vs ++ more)) (omega (arith, l, length-append vs more)) ∙ sym (own s p), get_or_append_left vs more 0 s l)

pub item_over_more : (vs more : List ℕ) (i : Item) → tree_fits vs (length_in vs) i ≡ true
    → (tree_fits (vs ++ more) (length_in (vs ++ more)) i ≡ true) × (weight_of (vs ++ more) i ≡ weight_of vs i) × (item_of (length_in (vs ++ more)) i ≡ item_of (length_in vs) i)
item_over_more vs more i h =
    let p = item_named vs (vs ++ more) i (longer_agree vs more (names_of_item i) (item_own vs (length_in vs) i h)) in
    (p.0 ∙ h, p.1, p.2)
