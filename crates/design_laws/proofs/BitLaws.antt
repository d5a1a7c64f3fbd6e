-- A formed tree reads and drives bits of signals alone.
use Rattle.std.proofs.Common.{◌≡◌, ℕ, zero, suc, ◌+◌, ◌<◌, ◌≤◌, Bool, true, false, ◌&&◌, ◌||◌, if◌then◌else◌, List, [], ◌∷◌, map, inl, inr, refl, sym, ◌∙◌, ap, subst, arith, Option, Some, None, ℤ, pos, negsuc, ◌+ℤ◌}
use Rattle.std.specs.Prelude.{◌==◌, nat_lt, slice_index_or}
use Rattle.std.specs.List.{list_all}
use Rattle.std.proofs.lemmas.Bool.Decides.{nat_tests}
use Rattle.design_core.specs.declared.place.BitRef.{BitRef}
use Rattle.design_core.specs.declared.tree.DBase.{DBase}
use Rattle.design_core.specs.declared.tree.DBase.TheVariants as base
use Rattle.design_core.specs.declared.tree.DExpr.{DExpr}
use Rattle.design_core.specs.declared.tree.DNode.{out-DNode}
use Rattle.design_core.specs.declared.tree.DLeft.{DLeft, out-DLeft}
use Rattle.design_core.specs.declared.tree.DLeft.TheOpen.{DLeft-F, DNode-F, DStmt-F}
use Rattle.design_core.specs.declared.tree.DStmt.{DStmt, out-DStmt}
use Rattle.design_core.specs.declared.tree.DArm.{DArm, out-DArm}
use Rattle.design_core.specs.declared.tree.DFunction.{DFunction}
use Rattle.design_core.specs.declared.tree.DMatch.{DMatch, out-DMatch}
use Rattle.design_core.specs.Core.{spots, covers, Term, constant, span, own, app1, app2, app3, call, Args, slice, slice_at, Stmt, skip, choose, reads, args_read, left_reads, stmt_reads, left_drives, drives}
use Rattle.design_core.specs.Formed.{Sized, Place, Body, Branch, Routine, Choice, is_vector, base_length, of_kind, sized_expr, sized_left, sized_stmt, sized_arm, sized_function, sized_match, node_size, left_size, stmt_size}
use Rattle.design_core.specs.Numbers.{is_bit}
use Rattle.design_core.specs.Terms.{Operand, base_of, size_of, select_of, chained, passed, all_left, in_turn, arms_in_turn, some_match, node_step, left_step, stmt_step, folded_expr, folded_left, folded_stmt, folded_arm, folded_function, folded_match}
use Rattle.design_core.proofs.BoolLaws.{both_true, or_cases, or_left, or_right, true_both, not_both, either}
use Rattle.design_core.proofs.FormedLaws as f
use Rattle.design_core.proofs.TermLaws as t
use Rattle.design_core.proofs.TreeInduction.{NodeLayer, LeftLayer, StmtLayer, Each, NodeParts, LeftParts, StmtParts, Steps}
use Rattle.design_laws.proofs.AgainLaws.{node_core, left_core, stmt_core, arm_core, function_core, match_core}

number_is : (a b : ℕ) → (a == b) ≡ true → a ≡ b
number_is a b h = grind (arith, nat_tests)

same_number : (k : ℕ) → (k == k) ≡ true
same_number k = grind (arith, nat_tests)

below_is : (a b : ℕ) → nat_lt a b ≡ true → a < b
below_is a b h = grind (arith, nat_tests)

is_below : (a b : ℕ) → a < b → nat_lt a b ≡ true
is_below a b h = grind (arith, nat_tests)

and_left : (a b : Bool) → (a && b) ≡ true → a ≡ true
and_left a b h = (both_true a b h).0

and_right : (a b : Bool) → (a && b) ≡ true → b ≡ true
and_right a b h = (both_true a b h).1

-- a place that is covered is in the vector
covers_one : (k m j : ℕ) (c : Bool) (ps : List (Option ℕ)) → nat_lt j m ≡ c → (covers k ps ≡ true → nat_lt k m ≡ true) → covers k ((if c then Some j else None) ∷ ps) ≡ true → nat_lt k m ≡ true
covers_one k m j false ps e rest h = rest h
covers_one k m j true ps e rest h = elim (or_cases (k == j) (covers k ps) h) [
  | inl q ↦ ap (λ i. nat_lt i m) (number_is k j q) ∙ e
  | inr q ↦ rest q
]

pub covers_in : (k m : ℕ) (low : ℤ) (n : ℕ) → covers k (spots m low n) ≡ true → nat_lt k m ≡ true
covers_in k m low zero h = cc
covers_in k m (pos j) (suc n) h = covers_one k m j (nat_lt j m) (spots m (pos j +ℤ pos 1) n) refl (covers_in k m (pos j +ℤ pos 1) n) h
covers_in k m (negsuc j) (suc n) h = covers_in k m (negsuc j +ℤ pos 1) n h

-- the whole vector covers each of its places
covers_first : (k m : ℕ) (c : Bool) (ps : List (Option ℕ)) → nat_lt k m ≡ c → k < m → covers k ((if c then Some k else None) ∷ ps) ≡ true
covers_first k m true ps e l = or_left (k == k) (covers k ps) (same_number k)
covers_first k m false ps e l = not_both (nat_lt k m) (is_below k m l) e

covers_later : (k m j : ℕ) (c : Bool) (ps : List (Option ℕ)) → covers k ps ≡ true → covers k ((if c then Some j else None) ∷ ps) ≡ true
covers_later k m j true ps h = or_right (k == j) (covers k ps) h
covers_later k m j false ps h = h

covers_from : (n k m j : ℕ) → j ≤ k → k < j + n → k < m → covers k (spots m (pos j) n) ≡ true
covers_from zero k m j le lt l = absurd (omega (arith, le, lt))
covers_from (suc n) k m j le lt l = elim (either (k == j)) [
  | inl q ↦ (let e = number_is k j q in
      subst (λ i. covers k ((if nat_lt i m then Some i else None) ∷ spots m (pos i +ℤ pos 1) n) ≡ true) e (covers_first k m (nat_lt k m) (spots m (pos k +ℤ pos 1) n) refl l))
  | inr q ↦ (let next : covers k (spots m (pos (suc j)) n) ≡ true = covers_from n k m (suc j) (grind (arith, nat_tests)) (omega (arith, lt)) l in
      let e : pos j +ℤ pos 1 ≡ pos (suc j) = ap pos (omega arith) in
      covers_later k m j (nat_lt j m) (spots m (pos j +ℤ pos 1) n) (subst (λ i. covers k (spots m i n) ≡ true) (sym e) next))
]

pub covers_whole : (k m : ℕ) → nat_lt k m ≡ true → covers k (spots m (pos zero) m) ≡ true
covers_whole k m h = let l = below_is k m h in covers_from m k m zero (omega arith) (omega (arith, l)) l

module _ (vs : List ℕ) where
  abbrev sv : ℕ → ℕ
  sv s = slice_index_or vs s 0

  -- each bit of this set is one of the signals
  abbrev pub Among : (BitRef → Bool) → Type 0
  Among g = (b : BitRef) → g b ≡ true → is_bit vs b ≡ true

  no_bits : Among (λ b. false)
  no_bits b h = cc

  pub both_among : (g h : BitRef → Bool) → Among g → Among h → Among (λ b. g b || h b)
  both_among g h p q b e = elim (or_cases (g b) (h b) e) [ inl x ↦ p b x | inr x ↦ q b x ]

  left_among : (g h : BitRef → Bool) → Among (λ b. g b || h b) → Among g
  left_among g h p b e = p b (or_left (g b) (h b) e)

  -- a span of a signal, with its own length
  span_among : (s m : ℕ) (low : ℤ) (n : ℕ) → m ≡ slice_index_or vs s 0 → Among (λ b. (b.signal == s) && covers b.bit (spots m low n))
  span_among s m low n e b h =
      let p = both_true (b.signal == s) (covers b.bit (spots m low n)) h in
      let k = covers_in b.bit m low n p.1 in
      let i = number_is b.signal s p.0 in
      subst (λ j. nat_lt b.bit (slice_index_or vs j 0) ≡ true) (sym i) (subst (λ j. nat_lt b.bit j ≡ true) e k)

  if_among : (c : Bool) (s m : ℕ) (low : ℤ) (n k : ℕ) → (k == m) ≡ c → Among (reads (span s m (pos zero) k)) → Among (reads (if c then span s m low n else app1 (λ v. v) (span s m (pos zero) k)))
  if_among false s m low n k e h = h
  if_among true s m low n k e h = λ b q.
      (let p = both_true (b.signal == s) (covers b.bit (spots m low n)) q in
      let l = covers_in b.bit m low n p.1 in
      let w : covers b.bit (spots m (pos zero) k) ≡ true = subst (λ j. covers b.bit (spots m (pos zero) j) ≡ true) (sym (number_is k m e)) (covers_whole b.bit m l) in
      h b (true_both (b.signal == s) (covers b.bit (spots m (pos zero) k)) p.0 w))

  choice_reads : (c : Bool) (s m : ℕ) (low : ℤ) (n k : ℕ) (g : List Bool → List Bool) (b : BitRef)
      → reads (if c then span s m low n else app1 g (span s m (pos zero) k)) b ≡ reads (if c then span s m low n else app1 (λ v. v) (span s m (pos zero) k)) b
  choice_reads true s m low n k g b = refl
  choice_reads false s m low n k g b = refl

  select_among : (low : ℤ) (n : ℕ) (e : Term) → Among (reads e) → Among (reads (select_of low n e))
  select_among low n (constant v) h = h
  select_among low n (span s m (pos zero) k) h = λ b q. if_among (k == m) s m low n k refl h b (sym (choice_reads (k == m) s m low n k _ b) ∙ q)
  select_among low n (span s m (pos (suc j)) k) h = h
  select_among low n (span s m (negsuc j) k) h = h
  select_among low n (own k) h = h
  select_among low n (app1 g a) h = h
  select_among low n (app2 g a c) h = h
  select_among low n (app3 g a c d) h = h
  select_among low n (call arguments body k inputs locals) h = h

  abbrev pub E : DExpr → Type 0
  E e = (ls : List ℕ) → (sized_expr vs e).formed ls ≡ true → Among (reads (folded_expr sv e).core)

  abbrev pub L : DLeft → Type 0
  L l = (ls : List ℕ) (inside : Bool) → (sized_left vs l).formed ls inside ≡ true → Among (left_reads (folded_left sv l)) × Among (left_drives (folded_left sv l))

  abbrev StmtAmong : Stmt → Type 0
  StmtAmong s = Among (stmt_reads s) × Among (drives s)

  abbrev pub S : DStmt → Type 0
  S s = (ls : List ℕ) (inside : Bool) (kinds : Bool → Bool) → (sized_stmt vs s).formed ls inside kinds ≡ true → StmtAmong (folded_stmt sv s)

  abbrev pub A : DArm → Type 0
  A a = (n : ℕ) (ls : List ℕ) (inside : Bool) (kinds : Bool → Bool) → (sized_arm vs a).formed n ls inside kinds ≡ true
      → (selector : Term) (rest : Stmt) → Among (reads selector) → StmtAmong rest → StmtAmong (folded_arm sv a selector rest)

  abbrev pub F : DFunction → Type 0
  F g = (sized_function vs g).formed ≡ true → (as' : Args) → Among (args_read as') → Among (reads (folded_function sv g as'))

  abbrev pub M : DMatch → Type 0
  M x = (n : ℕ) (ls : List ℕ) → (sized_match vs x).formed n ls ≡ true → (selector : Term) → Among (reads selector) → Among (reads (folded_match sv x selector))

  chained_among : (es : List DExpr) (ls : List ℕ) → Each E es → list_all (λ (x : Sized). x.formed ls) (map (sized_expr vs) es) ≡ true
      → Among (reads (chained (map (λ (x : Operand). x.core) (map (folded_expr sv) es))))
  chained_among [] ls h g = no_bits
  chained_among (e ∷ es) ls h g =
      both_among (reads (folded_expr sv e).core) (reads (chained (map (λ (x : Operand). x.core) (map (folded_expr sv) es)))) (h.0 ls (and_left _ _ g)) (chained_among es ls h.1 (and_right _ _ g))

  passed_among : (es : List DExpr) (ls : List ℕ) → Each E es → list_all (λ (x : Sized). x.formed ls) (map (sized_expr vs) es) ≡ true
      → Among (args_read (passed (map (λ (x : Operand). x.core) (map (folded_expr sv) es))))
  passed_among [] ls h g = no_bits
  passed_among (e ∷ es) ls h g =
      both_among (reads (folded_expr sv e).core) (args_read (passed (map (λ (x : Operand). x.core) (map (folded_expr sv) es)))) (h.0 ls (and_left _ _ g)) (passed_among es ls h.1 (and_right _ _ g))

  node_among : (x : NodeLayer) (n : ℕ) (k : Bool) (ls : List ℕ) → NodeParts E L S A F M x → (node_size vs (f.node_parts vs x) n).formed ls ≡ true → Among (reads (node_step (t.node_parts sv x) n k))
  node_among (DNode-F.Const bits) n k ls h g = no_bits
  node_among (DNode-F.Signal s) n k ls h g = span_among s n (pos zero) n (sym (number_is (slice_index_or vs s 0) n (and_right _ _ g)))
  node_among (DNode-F.Local j) n k ls h g = no_bits
  node_among (DNode-F.Select e low) n k ls h g = select_among low n (folded_expr sv e).core (h ls g)
  node_among (DNode-F.SelectAt e index offset down) n k ls h g =
      both_among (reads (folded_expr sv e).core) (reads (folded_expr sv index).core) (h.0 ls (and_left _ _ (and_left _ _ g))) (h.1 ls (and_right _ _ (and_left _ _ g)))
  node_among (DNode-F.Unary op a) n k ls h g = h ls (and_left _ _ g)
  node_among (DNode-F.Binary op a b) n k ls h g =
      both_among (reads (folded_expr sv a).core) (reads (folded_expr sv b).core) (h.0 ls (and_left _ _ (and_left _ _ g))) (h.1 ls (and_right _ _ (and_left _ _ g)))
  node_among (DNode-F.Mux c a b) n k ls h g =
      let u = and_left _ _ (and_left _ _ g) in
      both_among (reads (folded_expr sv c).core) (λ i. reads (folded_expr sv a).core i || reads (folded_expr sv b).core i) (h.0 ls (and_left _ _ (and_left _ _ u)))
      (both_among (reads (folded_expr sv a).core) (reads (folded_expr sv b).core) (h.1.0 ls (and_right _ _ (and_left _ _ u))) (h.1.1 ls (and_right _ _ u)))
  node_among (DNode-F.Extend a by_sign) n k ls h g = h ls (and_left _ _ g)
  node_among (DNode-F.«DNode::Concat» parts) n k ls h g = chained_among parts ls h (and_left _ _ g)
  node_among (DNode-F.Repeat count part) n k ls h g = h ls (and_left _ _ g)
  node_among (DNode-F.Call function arguments) n k ls h g =
      h.0 (and_left _ _ (and_left _ _ (and_left _ _ g))) (passed (map (λ (x : Operand). x.core) (map (folded_expr sv) arguments))) (passed_among arguments ls h.1 (and_right _ _ (and_left _ _ g)))

  expr_among : (e : DExpr) (x : NodeLayer) → out-DNode e.node ≡ x → NodeParts E L S A F M x → E e
  expr_among e x is h ls g =
      let formed : (is_vector e.length && (node_size vs (f.node_parts vs x) e.length).formed ls) ≡ true = sym (ap (λ (y : Sized). y.formed ls) (f.expr_node vs e x is)) ∙ g in
      let core : (folded_expr sv e).core ≡ node_step (t.node_parts sv x) e.length e.signed =
      ap (λ (o : Operand). o.core) (t.operand_out sv e) ∙ ap (λ (y : ℕ → Bool → Term). y e.length e.signed) (node_core sv e.node x is) in
      subst (λ c. Among (reads c)) (sym core) (node_among x e.length e.signed ls h (and_right _ _ formed))

  base_drives : (b : DBase) (ls : List ℕ) (inside : Bool) (n : ℕ) (low : ℤ) → Among (left_drives (slice (base_of b) (size_of sv b) low n))
  base_drives (base.Signal s) ls inside n low = span_among s (sv s) low n refl
  base_drives (base.Local k) ls inside n low = no_bits

  whole_drives : (b : DBase) (ls : List ℕ) (inside : Bool) (n : ℕ) → (base_length vs ls b == n) ≡ true → Among (left_drives (slice (base_of b) n (pos zero) n))
  whole_drives (base.Signal s) ls inside n e = span_among s n (pos zero) n (sym (number_is (slice_index_or vs s 0) n e))
  whole_drives (base.Local k) ls inside n e = no_bits

  at_drives : (b : DBase) (g : List Bool → ℤ) (i : Term) (n : ℕ) → Among (left_drives (slice_at (base_of b) (size_of sv b) g i n))
  at_drives (base.Signal s) g i n = λ b h. (let p = both_true (b.signal == s) (nat_lt b.bit (sv s)) h in
      subst (λ j. nat_lt b.bit (slice_index_or vs j 0) ≡ true) (sym (number_is b.signal s p.0)) p.1)
  at_drives (base.Local k) g i n = no_bits

  all_left_among : (es : List DLeft) (ls : List ℕ) (inside : Bool) → Each L es → list_all (λ (x : Place). x.formed ls inside) (map (sized_left vs) es) ≡ true
      → Among (left_reads (all_left (map (folded_left sv) es))) × Among (left_drives (all_left (map (folded_left sv) es)))
  all_left_among [] ls inside h g = (no_bits, no_bits)
  all_left_among (l ∷ es) ls inside h g =
      let p = h.0 ls inside (and_left _ _ g) in
      let q = all_left_among es ls inside h.1 (and_right _ _ g) in (
        both_among (left_reads (folded_left sv l)) (left_reads (all_left (map (folded_left sv) es))) p.0 q.0,
        both_among (left_drives (folded_left sv l)) (left_drives (all_left (map (folded_left sv) es))) p.1 q.1,
      )

  layer_among : (x : LeftLayer) (ls : List ℕ) (inside : Bool) → LeftParts E L S A F M x → (left_size vs (f.left_parts vs x)).formed ls inside ≡ true
      → Among (left_reads (left_step sv (t.left_parts sv x))) × Among (left_drives (left_step sv (t.left_parts sv x)))
  layer_among (DLeft-F.Whole b n) ls inside h g = (no_bits, whole_drives b ls inside n (and_right _ _ (and_left _ _ g)))
  layer_among (DLeft-F.Part b low n) ls inside h g = (no_bits, base_drives b ls inside n low)
  layer_among (DLeft-F.At b index offset down n) ls inside h g = (h ls (and_right _ _ (and_left _ _ (and_left _ _ g))), at_drives b _ (folded_expr sv index).core n)
  layer_among (DLeft-F.«DLeft::Concat» parts) ls inside h g = all_left_among parts ls inside h (and_left _ _ g)

  left_side_among : (l : DLeft) (x : LeftLayer) → out-DLeft l ≡ x → LeftParts E L S A F M x → L l
  left_side_among l x is h ls inside g =
      let formed : (left_size vs (f.left_parts vs x)).formed ls inside ≡ true = sym (ap (λ (y : Place). y.formed ls inside) (f.left_node vs l x is)) ∙ g in
      subst (λ c. Among (left_reads c) × Among (left_drives c)) (sym (left_core sv l x is)) (layer_among x ls inside h formed)

  in_turn_among : (ss : List DStmt) (ls : List ℕ) (inside : Bool) (kinds : Bool → Bool) → Each S ss → list_all (λ (x : Body). x.formed ls inside kinds) (map (sized_stmt vs) ss) ≡ true
      → StmtAmong (in_turn (map (folded_stmt sv) ss))
  in_turn_among [] ls inside kinds h g = (no_bits, no_bits)
  in_turn_among (s ∷ ss) ls inside kinds h g =
      let p = h.0 ls inside kinds (and_left _ _ g) in
      let q = in_turn_among ss ls inside kinds h.1 (and_right _ _ g) in (
        both_among (stmt_reads (folded_stmt sv s)) (stmt_reads (in_turn (map (folded_stmt sv) ss))) p.0 q.0,
        both_among (drives (folded_stmt sv s)) (drives (in_turn (map (folded_stmt sv) ss))) p.1 q.1,
      )

  arms_among : (as' : List DArm) (n : ℕ) (ls : List ℕ) (inside : Bool) (kinds : Bool → Bool) → Each A as' → list_all (λ (x : Branch). x.formed n ls inside kinds) (map (sized_arm vs) as') ≡ true
      → (selector : Term) (rest : Stmt) → Among (reads selector) → StmtAmong rest → StmtAmong (arms_in_turn (map (folded_arm sv) as') selector rest)
  arms_among [] n ls inside kinds h g selector rest s r = r
  arms_among (a ∷ as') n ls inside kinds h g selector rest s r =
      h.0 n ls inside kinds (and_left _ _ g) selector (arms_in_turn (map (folded_arm sv) as') selector rest) s (arms_among as' n ls inside kinds h.1 (and_right _ _ g) selector rest s r)

  body_among : (x : StmtLayer) (ls : List ℕ) (inside : Bool) (kinds : Bool → Bool) → StmtParts E L S A F M x → (stmt_size (f.stmt_parts vs x)).formed ls inside kinds ≡ true
      → StmtAmong (stmt_step (t.stmt_parts sv x))
  body_among (DStmt-F.Block parts) ls inside kinds h g = in_turn_among parts ls inside kinds h g
  body_among (DStmt-F.Turns parts) ls inside kinds h g = in_turn_among parts ls inside kinds h g
  body_among (DStmt-F.Write l e blocking) ls inside kinds h g =
      let w = and_left _ _ (and_left _ _ g) in
      let p = h.0 ls inside (and_left _ _ w) in
      (both_among (reads (folded_expr sv e).core) (left_reads (folded_left sv l)) (h.1 ls (and_right _ _ w)) p.0, p.1)
  body_among (DStmt-F.If test a b) ls inside kinds h g =
      let w = and_left _ _ g in
      let p = h.1.0 ls inside kinds (and_right _ _ w) in
      let q = h.1.1 ls inside kinds (and_right _ _ g) in (
        both_among (reads (folded_expr sv test).core) (λ i. stmt_reads (folded_stmt sv a) i || stmt_reads (folded_stmt sv b) i) (h.0 ls (and_left _ _ w))
            (both_among (stmt_reads (folded_stmt sv a)) (stmt_reads (folded_stmt sv b)) p.0 q.0),
        both_among (drives (folded_stmt sv a)) (drives (folded_stmt sv b)) p.1 q.1,
      )
  body_among (DStmt-F.Case selector arms None) ls inside kinds h g =
      let w = and_left _ _ g in
      arms_among arms (sized_expr vs selector).length ls inside kinds h.1.0 (and_right _ _ w) (folded_expr sv selector).core skip (h.0 ls (and_left _ _ w)) (no_bits, no_bits)
  body_among (DStmt-F.Case selector arms (Some rest)) ls inside kinds h g =
      let w = and_left _ _ g in
      arms_among arms (sized_expr vs selector).length ls inside kinds h.1.0 (and_right _ _ w) (folded_expr sv selector).core (folded_stmt sv rest) (h.0 ls (and_left _ _ w)) (h.1.1 ls inside kinds (and_right _ _ g))

  stmt_among : (s : DStmt) (x : StmtLayer) → out-DStmt s ≡ x → StmtParts E L S A F M x → S s
  stmt_among s x is h ls inside kinds g =
      let formed : (stmt_size (f.stmt_parts vs x)).formed ls inside kinds ≡ true = sym (ap (λ (y : Body). y.formed ls inside kinds) (f.stmt_node vs s x is)) ∙ g in
      subst StmtAmong (sym (stmt_core sv s x is)) (body_among x ls inside kinds h formed)

  matches_among : (xs : List DMatch) (n : ℕ) (ls : List ℕ) → Each M xs → list_all (λ (x : Choice). x.formed n ls) (map (sized_match vs) xs) ≡ true
      → (selector : Term) → Among (reads selector) → Among (reads (some_match (map (folded_match sv) xs) selector))
  matches_among [] n ls h g selector s = no_bits
  matches_among (x ∷ xs) n ls h g selector s =
      both_among (reads (folded_match sv x selector)) (reads (some_match (map (folded_match sv) xs) selector))
      (h.0 n ls (and_left _ _ g) selector s) (matches_among xs n ls h.1 (and_right _ _ g) selector s)

  arm_among : (a : DArm) → Each M (out-DArm a).matches → S (out-DArm a).body → A a
  arm_among a h j n ls inside kinds g selector rest s r =
      let formed : (list_all (λ (m : Choice). m.formed n ls) (map (sized_match vs) (out-DArm a).matches) && (sized_stmt vs (out-DArm a).body).formed ls inside kinds) ≡ true
      = sym (ap (λ (y : Branch). y.formed n ls inside kinds) (f.sized_arm_is vs a)) ∙ g in
      let test = some_match (map (folded_match sv) (out-DArm a).matches) selector in
      let body = folded_stmt sv (out-DArm a).body in
      let p = j ls inside kinds (and_right _ _ formed) in
      let is : folded_arm sv a selector rest ≡ choose test body rest = ap (λ (k : Term → Stmt → Stmt). k selector rest) (arm_core sv a) in
      subst StmtAmong (sym is) (
        both_among (reads test) (λ i. stmt_reads body i || stmt_reads rest i) (matches_among (out-DArm a).matches n ls h (and_left _ _ formed) selector s)
            (both_among (stmt_reads body) (stmt_reads rest) p.0 r.0),
        both_among (drives body) (drives rest) p.1 r.1,
      )

  function_among : (g : DFunction) → S g.body → F g
  function_among g h e as' s =
      let formed = sym (ap (λ (y : Routine). y.formed) (f.sized_function_is vs g)) ∙ e in
      let body = folded_stmt sv g.body in
      let p = h _ true (of_kind true) (and_right _ _ formed) in
      let is = ap (λ (k : Args → Term). k as') (function_core sv g) in
      subst (λ c. Among (reads c)) (sym is) (both_among (args_read as') (stmt_reads body) s p.0)

  match_among : (x : DMatch) → E (out-DMatch x).value → M x
  match_among x h n ls g selector s =
      let formed = sym (ap (λ (y : Choice). y.formed n ls) (f.sized_match_is vs x)) ∙ g in
      let is = ap (λ (k : Term → Term). k selector) (match_core sv x) in
      subst (λ c. Among (reads c)) (sym is) (both_among (reads selector) (reads (folded_expr sv (out-DMatch x).value).core) s (h ls (and_left _ _ (and_left _ _ formed))))

  pub steps : Steps E L S A F M
  steps = record {
    expr = λ e h. expr_among e (out-DNode e.node) refl h;
    left = λ l h. left_side_among l (out-DLeft l) refl h;
    stmt = λ s h. stmt_among s (out-DStmt s) refl h;
    arm = arm_among;
    function = function_among;
    match = match_among;
  }
