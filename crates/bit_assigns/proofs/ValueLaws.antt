-- What the bits of a plain right side are worth is its value, and those of a plain left side lie at its places.
use Rattle.std.proofs.Common.{◌≡◌, ℕ, zero, suc, ◌-◌, Bool, true, false, ◌&&◌, List, [], ◌∷◌, ◌++◌, length, map, refl, sym, ◌∙◌, ap, ap₂, ℤ, pos, negsuc, ◌+ℤ◌, Option, Some, None, nat_lt, if◌then◌else◌, arith}
use Rattle.std.specs.Prelude.{◌==◌}
use Rattle.std.specs.List.{list_all, range_with_len}
use Rattle.std.proofs.lemmas.Bool.Decides.{nat_tests}
use Rattle.std.proofs.lemmas.List.{length-map, map-append}
use Rattle.std.proofs.lemmas.Simd.{map-map}
use Rattle.std.proofs.Math.ListN.{get_or-map}
use Rattle.bits_core.specs.Places.{bit_at, bit_at_int, extended, selected, sign_of}
use Rattle.design_core.specs.declared.tree.DBase.{DBase}
use Rattle.design_core.specs.declared.tree.DBase.TheVariants as base
use Rattle.design_core.specs.declared.tree.DExpr.{DExpr}
use Rattle.design_core.specs.declared.tree.DLeft.{DLeft, out-DLeft}
use Rattle.design_core.specs.declared.tree.DLeft.TheOpen.{DLeft-F, DNode-F}
use Rattle.design_core.specs.declared.tree.DLeft.TheVariants as lefts
use Rattle.design_core.specs.declared.tree.DNode.{DNode, out-DNode}
use Rattle.design_core.specs.declared.tree.DNode.TheVariants as node
use Rattle.design_core.specs.declared.tree.DStmt.{DStmt}
use Rattle.design_core.specs.declared.tree.DArm.{DArm}
use Rattle.design_core.specs.declared.tree.DFunction.{DFunction}
use Rattle.design_core.specs.declared.tree.DMatch.{DMatch}
use Rattle.design_core.specs.Core.{Assignment, bit, spot, spots, bit_in, taken, signal, Term, constant, span, own, app1, app2, app3, call, Place, lost, in_signal, joined, placed_at, value, places}
use Rattle.design_core.specs.Terms.{term, left, base_of, size_of, select_of, chained, all_left}
use Rattle.design_core.proofs.BoolLaws.{both_true}
use Rattle.design_core.proofs.TermLaws.{term_constant, term_signal, term_select, term_extend, term_concat, left_whole, left_part, left_concat}
use Rattle.design_core.proofs.TreeInduction.{NodeLayer, LeftLayer, Each, NodeParts, LeftParts, Steps, node_is, left_is, of_expr, of_left}
use Rattle.bit_assigns.specs.declared.bits.Source.{Source}
use Rattle.bit_assigns.specs.declared.bits.Source.TheVariants as source
use Rattle.bit_assigns.specs.Bits.{source_at, source_or, source_or_int, target_at, base_targets, selected_sources, filling, extended_sources, side_by_side}
use Rattle.bit_assigns.specs.Sides.{is_signal, is_plain_left, is_plain_right, left_bits, right_bits}
use Rattle.bit_assigns.specs.Laws.{worth, target_place}
use Rattle.bit_assigns.proofs.ListLaws.{map_as, map_spots, whole_at}
use Rattle.bit_assigns.proofs.SideLaws.{plain_node, bits_node, plain_by_node, bits_by_node, plain-Local, plain-Select, plain-SelectAt, plain-Unary, plain-Binary, plain-Mux, plain-Extend, plain-Concat, plain-Repeat, plain-Call, bits-Const, bits-Signal, bits-Select, bits-Extend, bits-Concat, plain-Whole, plain-Part, plain-At, plain-Parts, bits-Whole, bits-Part, bits-Parts}

-- a side of a kind
pub plain_as : (e : DExpr) (d : DNode) (b : Bool) → e.node ≡ d → plain_node d e.length ≡ b → is_plain_right e ≡ true → b ≡ true
plain_as e d b is p h = sym p ∙ sym (plain_by_node e ∙ ap (λ x. plain_node x e.length) is) ∙ h

pub bits_as : (e : DExpr) (d : DNode) (xs : List Source) → e.node ≡ d → bits_node d e.length ≡ xs → right_bits e ≡ xs
bits_as e d xs is p = bits_by_node e ∙ ap (λ x. bits_node x e.length) is ∙ p

pub never : {P : Type 0} → false ≡ true → P
never e = absurd (let f : ⊥ = cc in f)

-- facts of statements and functions are not asked
abbrev pub Any : {X : Type 0} → X → Type 0
Any x = Unit {0}

module _ (σ : Assignment) where
  worth_or : (xs : List Source) (k : ℕ) → bit_at (map (worth σ) xs) k ≡ worth σ (source_or xs k)
  worth_or xs k = get_or-map (worth σ) xs k (source.Known false)

  worth_int : (xs : List Source) (z : ℤ) → bit_at_int (map (worth σ) xs) z ≡ worth σ (source_or_int xs z)
  worth_int xs (pos k) = worth_or xs k
  worth_int xs (negsuc k) = refl

  worth_known : (bits : List Bool) → map (worth σ) (map source.Known bits) ≡ bits
  worth_known [] = refl
  worth_known (b ∷ bits) = ap (λ x. b ∷ x) (worth_known bits)

  worth_place : (s m : ℕ) (o : Option ℕ) → bit_in (λ k. σ (bit s k)) o ≡ worth σ (source_at s m o)
  worth_place s m None = refl
  worth_place s m (Some k) = refl

  pub worth_span : (s m : ℕ) (os : List (Option ℕ)) → taken σ s os ≡ map (worth σ) (map (source_at s m) os)
  worth_span s m [] = refl
  worth_span s m (o ∷ os) = ap₂ (λ x xs. x ∷ xs) (worth_place s m o) (worth_span s m os)

  worth_selected : (low : ℤ) (n : ℕ) (xs : List Source) → selected low n (map (worth σ) xs) ≡ map (worth σ) (selected_sources low n xs)
  unfolding selected
  worth_selected low n xs =
      map_as (λ k. bit_at_int (map (worth σ) xs) (low +ℤ pos k)) (λ k. worth σ (source_or_int xs (low +ℤ pos k))) (λ k. worth_int xs (low +ℤ pos k)) (range_with_len 0 n)
      ∙ sym (map-map (worth σ) (λ k. source_or_int xs (low +ℤ pos k)) (range_with_len 0 n))

  worth_filling : (keeps : Bool) (xs : List Source) → (keeps && sign_of (map (worth σ) xs)) ≡ worth σ (filling keeps xs)
  worth_filling false xs = refl
  worth_filling true xs = ap (λ n. bit_at (map (worth σ) xs) (n - 1)) (length-map xs (worth σ)) ∙ worth_or xs (length xs - 1)

  worth_chosen : (c : Bool) (x y : Bool) (a b : Source) → x ≡ worth σ a → y ≡ worth σ b → (if c then x else y) ≡ worth σ (if c then a else b)
  worth_chosen true x y a b h g = h
  worth_chosen false x y a b h g = g

  worth_extended_at : (keeps : Bool) (xs : List Source) (k : ℕ)
      → (if nat_lt k (length (map (worth σ) xs)) then bit_at (map (worth σ) xs) k else (keeps && sign_of (map (worth σ) xs)))
      ≡ worth σ (if nat_lt k (length xs) then source_or xs k else filling keeps xs)
  worth_extended_at keeps xs k =
      ap (λ n. if nat_lt k n then bit_at (map (worth σ) xs) k else (keeps && sign_of (map (worth σ) xs))) (length-map xs (worth σ))
      ∙ worth_chosen (nat_lt k (length xs)) (bit_at (map (worth σ) xs) k) (keeps && sign_of (map (worth σ) xs)) (source_or xs k) (filling keeps xs) (worth_or xs k) (worth_filling keeps xs)

  worth_extended : (keeps : Bool) (n : ℕ) (xs : List Source) → extended keeps n (map (worth σ) xs) ≡ map (worth σ) (extended_sources keeps n xs)
  unfolding extended
  worth_extended keeps n xs =
      map_as (λ k. if nat_lt k (length (map (worth σ) xs)) then bit_at (map (worth σ) xs) k else (keeps && sign_of (map (worth σ) xs)))
      (λ k. worth σ (if nat_lt k (length xs) then source_or xs k else filling keeps xs)) (worth_extended_at keeps xs) (range_with_len 0 n)
      ∙ sym (map-map (worth σ) (λ k. if nat_lt k (length xs) then source_or xs k else filling keeps xs) (range_with_len 0 n))

  -- a select of a term, of a whole signal too
  taken_int : (s m : ℕ) (z : ℤ) → bit_in (λ k. σ (bit s k)) (spot m z) ≡ bit_at_int (taken σ s (spots m (pos 0) m)) z
  taken_int s m (pos j) = sym (whole_at (bit_in (λ k. σ (bit s k))) m j)
  taken_int s m (negsuc j) = refl

  taken_selected : (s m : ℕ) (low : ℤ) (n : ℕ) → taken σ s (spots m low n) ≡ selected low n (taken σ s (spots m (pos 0) m))
  unfolding selected
  taken_selected s m low n =
      map_spots (bit_in (λ k. σ (bit s k))) m low n
      ∙ map_as (λ k. bit_in (λ j. σ (bit s j)) (spot m (low +ℤ pos k))) (λ k. bit_at_int (taken σ s (spots m (pos 0) m)) (low +ℤ pos k)) (λ k. taken_int s m (low +ℤ pos k)) (range_with_len 0 n)

  module _ (λs : List (List Bool)) where
    whole_selected : (low : ℤ) (n s m k : ℕ) (c : Bool) → (k == m) ≡ c
        → value (if c then span s m low n else app1 (selected low n) (span s m (pos 0) k)) σ λs ≡ selected low n (value (span s m (pos 0) k) σ λs)
    whole_selected low n s m k false e = refl
    whole_selected low n s m k true e =
        let same : m ≡ k = grind (arith, nat_tests) in
        taken_selected s m low n ∙ ap (λ j. selected low n (taken σ s (spots m (pos 0) j))) same

    value_select : (low : ℤ) (n : ℕ) (t : Term) → value (select_of low n t) σ λs ≡ selected low n (value t σ λs)
    value_select low n (span s m (pos zero) k) = whole_selected low n s m k (k == m) refl
    value_select low n (span s m (pos (suc j)) k) = refl
    value_select low n (span s m (negsuc j) k) = refl
    value_select low n (constant v) = refl
    value_select low n (own k) = refl
    value_select low n (app1 f a) = refl
    value_select low n (app2 f a b) = refl
    value_select low n (app3 f c a b) = refl
    value_select low n (call arguments body m inputs locals) = refl

    module _ (size : ℕ → ℕ) where
      abbrev Worth : DExpr → Type 0
      Worth e = is_plain_right e ≡ true → value (term size e) σ λs ≡ map (worth σ) (right_bits e)

      worth_parts : (es : List DExpr) → Each Worth es → list_all is_plain_right es ≡ true → value (chained (map (term size) es)) σ λs ≡ map (worth σ) (side_by_side (map right_bits es))
      worth_parts [] h p = refl
      worth_parts (e ∷ es) h p =
          let q = both_true (is_plain_right e) (list_all is_plain_right es) p in
          ap₂ (λ high low. low ++ high) (h.0 q.0) (worth_parts es h.1 q.1)
          ∙ sym (map-append (worth σ) (side_by_side (map right_bits es)) (right_bits e))

      worth_node : (e : DExpr) (x : NodeLayer) → out-DNode e.node ≡ x → NodeParts Worth (Any {X = DLeft}) (Any {X = DStmt}) (Any {X = DArm}) (Any {X = DFunction}) (Any {X = DMatch}) x → Worth e
      worth_node e (DNode-F.Const bits) is h p =
          let k = node_is e.node (DNode-F.Const bits) is ∙ node.rolls-Const bits in
          ap (λ t. value t σ λs) (term_constant size e bits k) ∙ sym (ap (map (worth σ)) (bits_as e (node.Const bits) _ k (bits-Const e.length bits)) ∙ worth_known bits)
      worth_node e (DNode-F.Signal s) is h p =
          let k = node_is e.node (DNode-F.Signal s) is ∙ node.rolls-Signal s in
          ap (λ t. value t σ λs) (term_signal size e s k) ∙ worth_span s e.length (spots e.length (pos 0) e.length) ∙ sym (ap (map (worth σ)) (bits_as e (node.Signal s) _ k (bits-Signal e.length s)))
      worth_node e (DNode-F.Local j) is h p = never (plain_as e (node.Local j) false (node_is e.node (DNode-F.Local j) is ∙ node.rolls-Local j) (plain-Local e.length j) p)
      worth_node e (DNode-F.Select a low) is h p =
          let k = node_is e.node (DNode-F.Select a low) is ∙ node.rolls-Select a low in
          let q = plain_as e (node.Select a low) (is_plain_right a) k (plain-Select e.length a low) p in
          ap (λ t. value t σ λs) (term_select size e a low k) ∙ value_select low e.length (term size a) ∙ ap (selected low e.length) (h q)
          ∙ worth_selected low e.length (right_bits a) ∙ sym (ap (map (worth σ)) (bits_as e (node.Select a low) _ k (bits-Select e.length a low)))
      worth_node e (DNode-F.SelectAt a index offset down) is h p =
          never (plain_as e (node.SelectAt a index offset down) false (node_is e.node (DNode-F.SelectAt a index offset down) is ∙ node.rolls-SelectAt a index offset down) (plain-SelectAt e.length a index offset down) p)
      worth_node e (DNode-F.Unary op a) is h p = never (plain_as e (node.Unary op a) false (node_is e.node (DNode-F.Unary op a) is ∙ node.rolls-Unary op a) (plain-Unary e.length op a) p)
      worth_node e (DNode-F.Binary op a b) is h p = never (plain_as e (node.Binary op a b) false (node_is e.node (DNode-F.Binary op a b) is ∙ node.rolls-Binary op a b) (plain-Binary e.length op a b) p)
      worth_node e (DNode-F.Mux c a b) is h p = never (plain_as e (node.Mux c a b) false (node_is e.node (DNode-F.Mux c a b) is ∙ node.rolls-Mux c a b) (plain-Mux e.length c a b) p)
      worth_node e (DNode-F.Extend a keeps) is h p =
          let k = node_is e.node (DNode-F.Extend a keeps) is ∙ node.rolls-Extend a keeps in
          let q = plain_as e (node.Extend a keeps) (is_plain_right a) k (plain-Extend e.length a keeps) p in
          ap (λ t. value t σ λs) (term_extend size e a keeps k) ∙ ap (extended keeps e.length) (h q)
          ∙ worth_extended keeps e.length (right_bits a) ∙ sym (ap (map (worth σ)) (bits_as e (node.Extend a keeps) _ k (bits-Extend e.length a keeps)))
      worth_node e (DNode-F.«DNode::Concat» parts) is h p =
          let k = node_is e.node (DNode-F.«DNode::Concat» parts) is ∙ node.rolls-Concat parts in
          let q = plain_as e (node.Concat parts) (list_all is_plain_right parts) k (plain-Concat e.length parts) p in
          ap (λ t. value t σ λs) (term_concat size e parts k) ∙ worth_parts parts h q ∙ sym (ap (map (worth σ)) (bits_as e (node.Concat parts) _ k (bits-Concat e.length parts)))
      worth_node e (DNode-F.Repeat count part) is h p = never (plain_as e (node.Repeat count part) false (node_is e.node (DNode-F.Repeat count part) is ∙ node.rolls-Repeat count part) (plain-Repeat e.length count part) p)
      worth_node e (DNode-F.Call f arguments) is h p = never (plain_as e (node.Call f arguments) false (node_is e.node (DNode-F.Call f arguments) is ∙ node.rolls-Call f arguments) (plain-Call e.length f arguments) p)

      worth_steps : Steps Worth (Any {X = DLeft}) (Any {X = DStmt}) (Any {X = DArm}) (Any {X = DFunction}) (Any {X = DMatch})
      worth_steps = record {
        expr = λ e h. worth_node e (out-DNode e.node) refl h;
        left = λ l h. tt;
        stmt = λ s h. tt;
        arm = λ a h g. tt;
        function = λ f h. tt;
        match = λ m h. tt;
      }

      -- the value of a plain right side is what its bits are worth
      pub right_means : (e : DExpr) → is_plain_right e ≡ true → value (term size e) σ λs ≡ map (worth σ) (right_bits e)
      right_means = of_expr Worth (Any {X = DLeft}) (Any {X = DStmt}) (Any {X = DArm}) (Any {X = DFunction}) (Any {X = DMatch}) worth_steps

      placed_targets : (s m : ℕ) (os : List (Option ℕ)) → placed_at (signal s) os ≡ map target_place (map (target_at s m) os)
      placed_targets s m [] = refl
      placed_targets s m (None ∷ os) = ap (λ ps. lost ∷ ps) (placed_targets s m os)
      placed_targets s m (Some k ∷ os) = ap (λ ps. in_signal (bit s k) ∷ ps) (placed_targets s m os)

      placed_base : (b : DBase) (m : ℕ) (low : ℤ) (n : ℕ) → is_signal b ≡ true → placed_at (base_of b) (spots m low n) ≡ map target_place (base_targets b m low n)
      placed_base (base.Signal s) m low n p = placed_targets s m (spots m low n)
      placed_base (base.Local j) m low n p = never p

      joined_append : (ps qs : List Place) → joined ps qs ≡ ps ++ qs
      joined_append [] qs = refl
      joined_append (p ∷ ps) qs = ap (λ xs. p ∷ xs) (joined_append ps qs)

      abbrev Lies : DLeft → Type 0
      Lies l = is_plain_left l ≡ true → places (left size l) σ λs ≡ map target_place (left_bits size l)

      lies_parts : (ls : List DLeft) → Each Lies ls → list_all is_plain_left ls ≡ true → places (all_left (map (left size) ls)) σ λs ≡ map target_place (side_by_side (map (left_bits size) ls))
      lies_parts [] h p = refl
      lies_parts (l ∷ ls) h p =
          let q = both_true (is_plain_left l) (list_all is_plain_left ls) p in
          joined_append (places (all_left (map (left size) ls)) σ λs) (places (left size l) σ λs)
          ∙ ap₂ (λ low high. low ++ high) (lies_parts ls h.1 q.1) (h.0 q.0)
          ∙ sym (map-append target_place (side_by_side (map (left_bits size) ls)) (left_bits size l))

      lies_left : (l : DLeft) (x : LeftLayer) → out-DLeft l ≡ x → LeftParts (Any {X = DExpr}) Lies (Any {X = DStmt}) (Any {X = DArm}) (Any {X = DFunction}) (Any {X = DMatch}) x → Lies l
      lies_left l (DLeft-F.Whole b n) is h p =
          let k = left_is l (DLeft-F.Whole b n) is ∙ lefts.rolls-Whole b n in
          ap (λ t. places t σ λs) (left_whole size l b n k) ∙ placed_base b n (pos 0) n (sym (ap is_plain_left k ∙ plain-Whole b n) ∙ p)
          ∙ sym (ap (map target_place) (ap (left_bits size) k ∙ bits-Whole size b n))
      lies_left l (DLeft-F.Part b low n) is h p =
          let k = left_is l (DLeft-F.Part b low n) is ∙ lefts.rolls-Part b low n in
          ap (λ t. places t σ λs) (left_part size l b low n k) ∙ placed_base b (size_of size b) low n (sym (ap is_plain_left k ∙ plain-Part b low n) ∙ p)
          ∙ sym (ap (map target_place) (ap (left_bits size) k ∙ bits-Part size b low n))
      lies_left l (DLeft-F.At b index offset down n) is h p =
          never (sym (ap is_plain_left (left_is l (DLeft-F.At b index offset down n) is ∙ lefts.rolls-At b index offset down n) ∙ plain-At b index offset down n) ∙ p)
      lies_left l (DLeft-F.«DLeft::Concat» parts) is h p =
          let k = left_is l (DLeft-F.«DLeft::Concat» parts) is ∙ lefts.rolls-Concat parts in
          ap (λ t. places t σ λs) (left_concat size l parts k) ∙ lies_parts parts h (sym (ap is_plain_left k ∙ plain-Parts parts) ∙ p)
          ∙ sym (ap (map target_place) (ap (left_bits size) k ∙ bits-Parts size parts))

      lies_steps : Steps (Any {X = DExpr}) Lies (Any {X = DStmt}) (Any {X = DArm}) (Any {X = DFunction}) (Any {X = DMatch})
      lies_steps = record {
        expr = λ e h. tt;
        left = λ l h. lies_left l (out-DLeft l) refl h;
        stmt = λ s h. tt;
        arm = λ a h g. tt;
        function = λ f h. tt;
        match = λ m h. tt;
      }

      -- the places of a plain left side are where its bits lie
      pub left_means : (l : DLeft) → is_plain_left l ≡ true → places (left size l) σ λs ≡ map target_place (left_bits size l)
      left_means = of_left (Any {X = DExpr}) Lies (Any {X = DStmt}) (Any {X = DArm}) (Any {X = DFunction}) (Any {X = DMatch}) lies_steps
