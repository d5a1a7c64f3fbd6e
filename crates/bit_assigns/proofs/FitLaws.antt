-- The bits of formed plain sides are bits of the signals, and the pieces made of them are formed and weigh 1.
use Rattle.std.proofs.Common.{◌≡◌, ℕ, zero, suc, ◌+◌, Bool, true, false, ◌&&◌, List, [], ◌∷◌, inl, inr, length, length-append, get_or, map, sum, refl, sym, ◌∙◌, ap, ap₂, subst, ℤ, pos, negsuc, ◌+ℤ◌, Option, Some, None, nat_lt, nat_le, if◌then◌else◌, arith}
use Rattle.std.specs.Prelude.{◌==◌, ◌-◌, slice_index_or}
use Rattle.std.specs.List.{list_all, range_with_len}
use Rattle.std.proofs.lemmas.Bool.Decides.{nat_tests}
use Rattle.std.proofs.lemmas.List.Folds.{list_all-append}
use Rattle.std.proofs.lemmas.List.Sums.{sum_by-cons}
use Rattle.design_core.specs.declared.items.Item.TheVariants as item
use Rattle.design_core.specs.declared.signals.Signal.{Signal}
use Rattle.design_core.specs.declared.tree.DBase.{DBase}
use Rattle.design_core.specs.declared.tree.DBase.TheVariants as base
use Rattle.design_core.specs.declared.tree.DExpr.{DExpr}
use Rattle.design_core.specs.declared.tree.DLeft.{DLeft, out-DLeft}
use Rattle.design_core.specs.declared.tree.DLeft.TheOpen.{DLeft-F, DNode-F}
use Rattle.design_core.specs.declared.tree.DLeft.TheVariants as lefts
use Rattle.design_core.specs.declared.tree.DNode.{DNode, out-DNode}
use Rattle.design_core.specs.declared.tree.DNode.TheVariants as node
use Rattle.design_core.specs.declared.tree.DStmt.{DStmt}
use Rattle.design_core.specs.declared.tree.DArm.{DArm}
use Rattle.design_core.specs.declared.tree.DFunction.{DFunction}
use Rattle.design_core.specs.declared.tree.DMatch.{DMatch}
use Rattle.design_core.specs.Core.{spot, spots}
use Rattle.design_core.specs.Formed.{Sized, Place, all_formed, all_weights, base_fits, base_length, has_length, is_vector, sized_expr, sized_left}
use Rattle.design_core.specs.Terms.{size_of}
use Rattle.design_core.specs.Parts.{length_at}
use Rattle.design_core.specs.Wellformed.{carried_weight, item_fits, signal_lengths, tree_fits, weight_of}
use Rattle.design_core.proofs.BoolLaws.{both_true, true_both, if_true, if_false, either}
use Rattle.design_core.proofs.FormedLaws.{sized_constant, sized_signal, sized_select, sized_extend, sized_concat, sized_whole, sized_part, sized_left_concat}
use Rattle.design_core.proofs.TreeInduction.{NodeLayer, LeftLayer, Each, NodeParts, LeftParts, Steps, node_is, left_is, of_expr, of_left}
use Rattle.bit_assigns.specs.declared.bits.SignalBit.{SignalBit}
use Rattle.bit_assigns.specs.declared.bits.Source.{Source}
use Rattle.bit_assigns.specs.declared.bits.Source.TheVariants as source
use Rattle.bit_assigns.specs.declared.bits.Target.{Target}
use Rattle.bit_assigns.specs.declared.bits.Target.TheVariants as target
use Rattle.bit_assigns.specs.Bits.{source_at, source_or, source_or_int, span_targets, target_at, base_targets, filling, extended_sources, side_by_side, lowest_source, above_lowest}
use Rattle.bit_assigns.specs.Sides.{is_signal, is_plain_left, is_plain_right, left_bits, right_bits}
use Rattle.bit_assigns.specs.Laws.{IsPlainAssign}
use Rattle.bit_assigns.specs.Pieces.{unsigned, target_left, source_expr, piece, pieces}
use Rattle.bit_assigns.proofs.ListLaws.{length_targets}
use Rattle.bit_assigns.proofs.SideLaws.{plain-Local, plain-Select, plain-SelectAt, plain-Unary, plain-Binary, plain-Mux, plain-Extend, plain-Concat, plain-Repeat, plain-Call, bits-Const, bits-Signal, bits-Select, bits-Extend, bits-Concat, plain-Whole, plain-Part, plain-At, plain-Parts, bits-Whole, bits-Part, bits-Parts}
use Rattle.bit_assigns.proofs.ValueLaws.{Any, plain_as, bits_as, never}

-- what holds of each place of a vector, and outside of it, holds of each of some places
spot_holds : (p : Option ℕ → Bool) (m : ℕ) → p None ≡ true → ((k : ℕ) → nat_lt k m ≡ true → p (Some k) ≡ true) → (z : ℤ) → p (spot m z) ≡ true
spot_holds p m outside inside (pos j) = elim (either (nat_lt j m)) [
  | inl y ↦ ap p (if_true (nat_lt j m) (Some j) None y) ∙ inside j y
  | inr n ↦ ap p (if_false (nat_lt j m) (Some j) None n) ∙ outside
]
spot_holds p m outside inside (negsuc j) = outside

spots_hold : {A : Type 0} (q : A → Bool) (g : Option ℕ → A) (m : ℕ) → q (g None) ≡ true → ((k : ℕ) → nat_lt k m ≡ true → q (g (Some k)) ≡ true)
    → (low : ℤ) (n : ℕ) → list_all q (map g (spots m low n)) ≡ true
spots_hold q g m outside inside low zero = refl
spots_hold q g m outside inside low (suc n) =
    true_both (q (g (spot m low))) (list_all q (map g (spots m (low +ℤ pos 1) n))) (spot_holds (λ o. q (g o)) m outside inside low) (spots_hold q g m outside inside (low +ℤ pos 1) n)

all_map : {A : Type 0} (q : A → Bool) (f : ℕ → A) → ((k : ℕ) → q (f k) ≡ true) → (ns : List ℕ) → list_all q (map f ns) ≡ true
all_map q f h [] = refl
all_map q f h (n ∷ ns) = true_both (q (f n)) (list_all q (map f ns)) (h n) (all_map q f h ns)

all_get : {A : Type 0} (q : A → Bool) (d : A) → q d ≡ true → (xs : List A) → list_all q xs ≡ true → (k : ℕ) → q (get_or xs k d) ≡ true
all_get q d h [] a k = h
all_get q d h (x ∷ xs) a zero = (both_true (q x) (list_all q xs) a).0
all_get q d h (x ∷ xs) a (suc k) = all_get q d h xs (both_true (q x) (list_all q xs) a).1 k

sum_more : (n : ℕ) (ns : List ℕ) → sum (n ∷ ns) ≡ n + sum ns
sum_more n ns = sum_by-cons (λ (x : ℕ). x) n ns

same_number : (k : ℕ) → (k == k) ≡ true
same_number k = grind (arith, nat_tests)

-- the length of a signal, by the list of lengths
abbrev pub length_in : List ℕ → ℕ → ℕ
length_in vs s = slice_index_or vs s 0

-- a bit is one of its signal, which has the length told
abbrev pub is_there : List ℕ → SignalBit → Bool
is_there vs b = nat_lt b.bit b.length && has_length vs b.signal b.length

abbrev pub fits_source : List ℕ → Source → Bool
fits_source vs (source.Known v) = true
fits_source vs (source.Bit b) = is_vector b.length && is_there vs b

abbrev pub fits_target : List ℕ → Target → Bool
fits_target vs (target.Bit b) = is_there vs b
fits_target vs (target.Outside s) = nat_lt s (length vs)

module _ (vs : List ℕ) where
  known_fit : (bits : List Bool) → list_all (fits_source vs) (map source.Known bits) ≡ true
  known_fit [] = refl
  known_fit (b ∷ bits) = known_fit bits

  int_fits : (xs : List Source) → list_all (fits_source vs) xs ≡ true → (z : ℤ) → fits_source vs (source_or_int xs z) ≡ true
  int_fits xs h (pos k) = all_get (fits_source vs) (source.Known false) refl xs h k
  int_fits xs h (negsuc k) = refl

  filling_fits : (keeps : Bool) (xs : List Source) → list_all (fits_source vs) xs ≡ true → fits_source vs (filling keeps xs) ≡ true
  filling_fits true xs h = all_get (fits_source vs) (source.Known false) refl xs h (length xs - 1)
  filling_fits false xs h = refl

  chosen_fits : (c : Bool) (a b : Source) → fits_source vs a ≡ true → fits_source vs b ≡ true → fits_source vs (if c then a else b) ≡ true
  chosen_fits true a b h g = h
  chosen_fits false a b h g = g

  extended_fit : (keeps : Bool) (n : ℕ) (xs : List Source) → list_all (fits_source vs) xs ≡ true → list_all (fits_source vs) (extended_sources keeps n xs) ≡ true
  extended_fit keeps n xs h = all_map (fits_source vs) (λ k. if nat_lt k (length xs) then source_or xs k else filling keeps xs)
      (λ k. chosen_fits (nat_lt k (length xs)) (source_or xs k) (filling keeps xs) (all_get (fits_source vs) (source.Known false) refl xs h k) (filling_fits keeps xs h)) (range_with_len 0 n)

  -- a formed plain right side weighs nothing, and its bits are there
  record RightFits (e : DExpr) : Type 0 where
    fits : list_all (fits_source vs) (right_bits e) ≡ true
    weighs : (sized_expr vs e).weight [] ≡ 0

  abbrev FitsRight : DExpr → Type 0
  FitsRight e = is_plain_right e ≡ true → (sized_expr vs e).formed [] ≡ true → RightFits e

  record PartsFit (es : List DExpr) : Type 0 where
    all_fit : list_all (fits_source vs) (side_by_side (map right_bits es)) ≡ true
    all_weigh : all_weights (map (sized_expr vs) es) [] ≡ 0

  parts_fit : (es : List DExpr) → Each FitsRight es → list_all is_plain_right es ≡ true → all_formed (map (sized_expr vs) es) [] ≡ true → PartsFit es
  parts_fit [] h p g = record { all_fit = refl; all_weigh = refl }
  parts_fit (e ∷ es) h p g =
      let q = both_true (is_plain_right e) (list_all is_plain_right es) p in
      let k = both_true ((sized_expr vs e).formed []) (all_formed (map (sized_expr vs) es) []) g in
      let one = h.0 q.0 k.0 in
      let rest = parts_fit es h.1 q.1 k.1 in
      record {
        all_fit = list_all-append (fits_source vs) (side_by_side (map right_bits es)) (right_bits e) ∙ true_both _ _ rest.all_fit one.fits;
        all_weigh = (let s = sum_more ((sized_expr vs e).weight []) (map (λ (x : Sized). x.weight []) (map (sized_expr vs) es)) in let w = one.weighs in let r = rest.all_weigh in omega (arith, s, w, r));
      }

  -- how a fact of a kind of expression is one of the expression
  right_fits : (e : DExpr) (d : DNode) (x : Sized) (xs : List Source) → right_bits e ≡ xs → sized_expr vs e ≡ x → list_all (fits_source vs) xs ≡ true → x.weight [] ≡ 0 → RightFits e
  right_fits e d x xs is same h w = record { fits = ap (list_all (fits_source vs)) is ∙ h; weighs = ap (λ (y : Sized). y.weight []) same ∙ w }

  formed_in : (e : DExpr) (x : Sized) → sized_expr vs e ≡ x → (sized_expr vs e).formed [] ≡ true → x.formed [] ≡ true
  formed_in e x same h = sym (ap (λ (y : Sized). y.formed []) same) ∙ h

  fits_node : (e : DExpr) (x : NodeLayer) → out-DNode e.node ≡ x → NodeParts FitsRight (Any {X = DLeft}) (Any {X = DStmt}) (Any {X = DArm}) (Any {X = DFunction}) (Any {X = DMatch}) x → FitsRight e
  fits_node e (DNode-F.Const bits) is h p g =
      let k = node_is e.node (DNode-F.Const bits) is ∙ node.rolls-Const bits in
      right_fits e (node.Const bits) _ _ (bits_as e (node.Const bits) _ k (bits-Const e.length bits)) (sized_constant vs e bits k) (known_fit bits) refl
  fits_node e (DNode-F.Signal s) is h p g =
      let k = node_is e.node (DNode-F.Signal s) is ∙ node.rolls-Signal s in
      let f = both_true (is_vector e.length) (has_length vs s e.length) (formed_in e _ (sized_signal vs e s k) g) in
      right_fits e (node.Signal s) _ _ (bits_as e (node.Signal s) _ k (bits-Signal e.length s)) (sized_signal vs e s k)
      (spots_hold (fits_source vs) (source_at s e.length) e.length refl (λ j l. true_both (is_vector e.length) (nat_lt j e.length && has_length vs s e.length) f.0 (true_both (nat_lt j e.length) (has_length vs s e.length) l f.1)) (pos 0) e.length) refl
  fits_node e (DNode-F.Local j) is h p g = never (plain_as e (node.Local j) false (node_is e.node (DNode-F.Local j) is ∙ node.rolls-Local j) (plain-Local e.length j) p)
  fits_node e (DNode-F.Select a low) is h p g =
      let k = node_is e.node (DNode-F.Select a low) is ∙ node.rolls-Select a low in
      let q = plain_as e (node.Select a low) (is_plain_right a) k (plain-Select e.length a low) p in
      let f = both_true (is_vector e.length) ((sized_expr vs a).formed []) (formed_in e _ (sized_select vs e a low k) g) in
      let one = h q f.1 in
      right_fits e (node.Select a low) _ _ (bits_as e (node.Select a low) _ k (bits-Select e.length a low)) (sized_select vs e a low k)
      (all_map (fits_source vs) (λ j. source_or_int (right_bits a) (low +ℤ pos j)) (λ j. int_fits (right_bits a) one.fits (low +ℤ pos j)) (range_with_len 0 e.length)) one.weighs
  fits_node e (DNode-F.SelectAt a index offset down) is h p g =
      never (plain_as e (node.SelectAt a index offset down) false (node_is e.node (DNode-F.SelectAt a index offset down) is ∙ node.rolls-SelectAt a index offset down) (plain-SelectAt e.length a index offset down) p)
  fits_node e (DNode-F.Unary op a) is h p g = never (plain_as e (node.Unary op a) false (node_is e.node (DNode-F.Unary op a) is ∙ node.rolls-Unary op a) (plain-Unary e.length op a) p)
  fits_node e (DNode-F.Binary op a b) is h p g = never (plain_as e (node.Binary op a b) false (node_is e.node (DNode-F.Binary op a b) is ∙ node.rolls-Binary op a b) (plain-Binary e.length op a b) p)
  fits_node e (DNode-F.Mux c a b) is h p g = never (plain_as e (node.Mux c a b) false (node_is e.node (DNode-F.Mux c a b) is ∙ node.rolls-Mux c a b) (plain-Mux e.length c a b) p)
  fits_node e (DNode-F.Extend a keeps) is h p g =
      let k = node_is e.node (DNode-F.Extend a keeps) is ∙ node.rolls-Extend a keeps in
      let q = plain_as e (node.Extend a keeps) (is_plain_right a) k (plain-Extend e.length a keeps) p in
      let f = both_true (is_vector e.length) ((sized_expr vs a).formed [] && nat_le (sized_expr vs a).length e.length) (formed_in e _ (sized_extend vs e a keeps k) g) in
      let one = h q (both_true ((sized_expr vs a).formed []) (nat_le (sized_expr vs a).length e.length) f.1).0 in
      right_fits e (node.Extend a keeps) _ _ (bits_as e (node.Extend a keeps) _ k (bits-Extend e.length a keeps)) (sized_extend vs e a keeps k)
      (extended_fit keeps e.length (right_bits a) one.fits) one.weighs
  fits_node e (DNode-F.«DNode::Concat» parts) is h p g =
      let k = node_is e.node (DNode-F.«DNode::Concat» parts) is ∙ node.rolls-Concat parts in
      let q = plain_as e (node.Concat parts) (list_all is_plain_right parts) k (plain-Concat e.length parts) p in
      let f = both_true (is_vector e.length) _ (formed_in e _ (sized_concat vs e parts k) g) in
      let all = parts_fit parts h q (both_true (all_formed (map (sized_expr vs) parts) []) _ f.1).0 in
      right_fits e (node.Concat parts) _ _ (bits_as e (node.Concat parts) _ k (bits-Concat e.length parts)) (sized_concat vs e parts k) all.all_fit all.all_weigh
  fits_node e (DNode-F.Repeat count part) is h p g = never (plain_as e (node.Repeat count part) false (node_is e.node (DNode-F.Repeat count part) is ∙ node.rolls-Repeat count part) (plain-Repeat e.length count part) p)
  fits_node e (DNode-F.Call f arguments) is h p g = never (plain_as e (node.Call f arguments) false (node_is e.node (DNode-F.Call f arguments) is ∙ node.rolls-Call f arguments) (plain-Call e.length f arguments) p)

  right_steps : Steps FitsRight (Any {X = DLeft}) (Any {X = DStmt}) (Any {X = DArm}) (Any {X = DFunction}) (Any {X = DMatch})
  right_steps = record {
    expr = λ e h. fits_node e (out-DNode e.node) refl h;
    left = λ l h. tt;
    stmt = λ s h. tt;
    arm = λ a h g. tt;
    function = λ f h. tt;
    match = λ m h. tt;
  }

  right_is : (e : DExpr) → FitsRight e
  right_is = of_expr FitsRight (Any {X = DLeft}) (Any {X = DStmt}) (Any {X = DArm}) (Any {X = DFunction}) (Any {X = DMatch}) right_steps

  pub sources_fit : (e : DExpr) → is_plain_right e ≡ true → (sized_expr vs e).formed [] ≡ true → list_all (fits_source vs) (right_bits e) ≡ true
  sources_fit e p g = (right_is e p g).fits

  pub right_weighs : (e : DExpr) → is_plain_right e ≡ true → (sized_expr vs e).formed [] ≡ true → (sized_expr vs e).weight [] ≡ 0
  right_weighs e p g = (right_is e p g).weighs

  -- a formed plain left side weighs nothing beside its length, which is that of its bits, and these are there
  record LeftFits (l : DLeft) : Type 0 where
    there : list_all (fits_target vs) (left_bits (length_in vs) l) ≡ true
    long : length (left_bits (length_in vs) l) ≡ (sized_left vs l).length
    light : (sized_left vs l).weight [] ≡ 0

  abbrev FitsLeft : DLeft → Type 0
  FitsLeft l = is_plain_left l ≡ true → (sized_left vs l).formed [] false ≡ true → LeftFits l

  record LeftsFit (ls : List DLeft) : Type 0 where
    all_there : list_all (fits_target vs) (side_by_side (map (left_bits (length_in vs)) ls)) ≡ true
    all_long : length (side_by_side {A = Target} (map (left_bits (length_in vs)) ls)) ≡ sum (map (λ (x : Place). x.length) (map (sized_left vs) ls))
    all_light : sum (map (λ (x : Place). x.weight []) (map (sized_left vs) ls)) ≡ 0

  lefts_fit : (ls : List DLeft) → Each FitsLeft ls → list_all is_plain_left ls ≡ true → list_all (λ (x : Place). x.formed [] false) (map (sized_left vs) ls) ≡ true → LeftsFit ls
  lefts_fit [] h p g = record { all_there = refl; all_long = refl; all_light = refl }
  lefts_fit (l ∷ ls) h p g =
      let q = both_true (is_plain_left l) (list_all is_plain_left ls) p in
      let k = both_true ((sized_left vs l).formed [] false) (list_all (λ (x : Place). x.formed [] false) (map (sized_left vs) ls)) g in
      let one = h.0 q.0 k.0 in
      let rest = lefts_fit ls h.1 q.1 k.1 in
      record {
        all_there = list_all-append (fits_target vs) (side_by_side (map (left_bits (length_in vs)) ls)) (left_bits (length_in vs) l) ∙ true_both _ _ rest.all_there one.there;
        all_long = (let a = length-append (side_by_side {A = Target} (map (left_bits (length_in vs)) ls)) (left_bits (length_in vs) l) in
            let s = sum_more (sized_left vs l).length (map (λ (x : Place). x.length) (map (sized_left vs) ls)) in
            let u = one.long in let w = rest.all_long in omega (arith, a, s, u, w));
        all_light = (let s = sum_more ((sized_left vs l).weight []) (map (λ (x : Place). x.weight []) (map (sized_left vs) ls)) in let u = one.light in let w = rest.all_light in omega (arith, s, u, w));
      }

  left_fits : (l : DLeft) (x : Place) (ts : List Target) → left_bits (length_in vs) l ≡ ts → sized_left vs l ≡ x → list_all (fits_target vs) ts ≡ true → length ts ≡ x.length → x.weight [] ≡ 0 → LeftFits l
  left_fits l x ts is same h n w = record {
    there = ap (list_all (fits_target vs)) is ∙ h;
    long = ap (length {A = Target}) is ∙ n ∙ sym (ap (λ (y : Place). y.length) same);
    light = ap (λ (y : Place). y.weight []) same ∙ w;
  }

  formed_left_in : (l : DLeft) (x : Place) → sized_left vs l ≡ x → (sized_left vs l).formed [] false ≡ true → x.formed [] false ≡ true
  formed_left_in l x same h = sym (ap (λ (y : Place). y.formed [] false) same) ∙ h

  span_fits : (s m : ℕ) (low : ℤ) (n : ℕ) → has_length vs s m ≡ true → list_all (fits_target vs) (span_targets s m low n) ≡ true
  span_fits s m low n h = spots_hold (fits_target vs) (target_at s m) m (both_true (nat_lt s (length vs)) (length_in vs s == m) h).0 (λ k l. true_both (nat_lt k m) (has_length vs s m) l h) low n

  whole_fits : (b : DBase) (n : ℕ) → is_signal b ≡ true → (base_fits vs [] false b && (base_length vs [] b == n)) ≡ true → list_all (fits_target vs) (base_targets b n (pos 0) n) ≡ true
  whole_fits (base.Signal s) n p h = span_fits s n (pos 0) n h
  whole_fits (base.Local j) n p h = never p

  whole_long : (b : DBase) (m : ℕ) (low : ℤ) (n : ℕ) → is_signal b ≡ true → length (base_targets b m low n) ≡ n
  whole_long (base.Signal s) m low n p = length_targets s m low n
  whole_long (base.Local j) m low n p = never p

  part_fits : (b : DBase) (low : ℤ) (n : ℕ) → is_signal b ≡ true → base_fits vs [] false b ≡ true → list_all (fits_target vs) (base_targets b (size_of (length_in vs) b) low n) ≡ true
  part_fits (base.Signal s) low n p h = span_fits s (length_in vs s) low n (true_both (nat_lt s (length vs)) (length_in vs s == length_in vs s) h (same_number (length_in vs s)))
  part_fits (base.Local j) low n p h = never p

  fits_left : (l : DLeft) (x : LeftLayer) → out-DLeft l ≡ x → LeftParts (Any {X = DExpr}) FitsLeft (Any {X = DStmt}) (Any {X = DArm}) (Any {X = DFunction}) (Any {X = DMatch}) x → FitsLeft l
  fits_left l (DLeft-F.Whole b n) is h p g =
      let k = left_is l (DLeft-F.Whole b n) is ∙ lefts.rolls-Whole b n in
      let q = sym (ap is_plain_left k ∙ plain-Whole b n) ∙ p in
      let f = both_true (base_fits vs [] false b && (base_length vs [] b == n)) (is_vector n) (formed_left_in l _ (sized_whole vs l b n k) g) in
      left_fits l _ _ (ap (left_bits (length_in vs)) k ∙ bits-Whole (length_in vs) b n) (sized_whole vs l b n k) (whole_fits b n q f.0) (whole_long b n (pos 0) n q) refl
  fits_left l (DLeft-F.Part b low n) is h p g =
      let k = left_is l (DLeft-F.Part b low n) is ∙ lefts.rolls-Part b low n in
      let q = sym (ap is_plain_left k ∙ plain-Part b low n) ∙ p in
      let f = both_true (base_fits vs [] false b) (is_vector n) (formed_left_in l _ (sized_part vs l b low n k) g) in
      left_fits l _ _ (ap (left_bits (length_in vs)) k ∙ bits-Part (length_in vs) b low n) (sized_part vs l b low n k) (part_fits b low n q f.0) (whole_long b (size_of (length_in vs) b) low n q) refl
  fits_left l (DLeft-F.At b index offset down n) is h p g =
      never (sym (ap is_plain_left (left_is l (DLeft-F.At b index offset down n) is ∙ lefts.rolls-At b index offset down n) ∙ plain-At b index offset down n) ∙ p)
  fits_left l (DLeft-F.«DLeft::Concat» parts) is h p g =
      let k = left_is l (DLeft-F.«DLeft::Concat» parts) is ∙ lefts.rolls-Concat parts in
      let f = both_true (list_all (λ (x : Place). x.formed [] false) (map (sized_left vs) parts)) _ (formed_left_in l _ (sized_left_concat vs l parts k) g) in
      let all = lefts_fit parts h (sym (ap is_plain_left k ∙ plain-Parts parts) ∙ p) f.0 in
      left_fits l _ _ (ap (left_bits (length_in vs)) k ∙ bits-Parts (length_in vs) parts) (sized_left_concat vs l parts k) all.all_there all.all_long all.all_light

  left_steps : Steps (Any {X = DExpr}) FitsLeft (Any {X = DStmt}) (Any {X = DArm}) (Any {X = DFunction}) (Any {X = DMatch})
  left_steps = record {
    expr = λ e h. tt;
    left = λ l h. fits_left l (out-DLeft l) refl h;
    stmt = λ s h. tt;
    arm = λ a h g. tt;
    function = λ f h. tt;
    match = λ m h. tt;
  }

  left_there : (l : DLeft) → FitsLeft l
  left_there = of_left (Any {X = DExpr}) FitsLeft (Any {X = DStmt}) (Any {X = DArm}) (Any {X = DFunction}) (Any {X = DMatch}) left_steps

  pub targets_fit : (l : DLeft) → is_plain_left l ≡ true → (sized_left vs l).formed [] false ≡ true → list_all (fits_target vs) (left_bits (length_in vs) l) ≡ true
  targets_fit l p g = (left_there l p g).there

  pub left_long : (l : DLeft) → is_plain_left l ≡ true → (sized_left vs l).formed [] false ≡ true → length (left_bits (length_in vs) l) ≡ (sized_left vs l).length
  left_long l p g = (left_there l p g).long

  pub left_weighs : (l : DLeft) → is_plain_left l ≡ true → (sized_left vs l).formed [] false ≡ true → (sized_left vs l).weight [] ≡ 0
  left_weighs l p g = (left_there l p g).light

  -- a piece's sides
  record LeftPiece (l : DLeft) : Type 0 where
    formed : (sized_left vs l).formed [] false ≡ true
    fixed : (sized_left vs l).fixed ≡ true
    one : (sized_left vs l).length ≡ 1
    free : (sized_left vs l).weight [] ≡ 0

  left_piece_as : (l : DLeft) (x : Place) → sized_left vs l ≡ x → x.formed [] false ≡ true → x.fixed ≡ true → x.length ≡ 1 → x.weight [] ≡ 0 → LeftPiece l
  left_piece_as l x same f g n w = record {
    formed = ap (λ (y : Place). y.formed [] false) same ∙ f;
    fixed = ap (λ (y : Place). y.fixed) same ∙ g;
    one = ap (λ (y : Place). y.length) same ∙ n;
    free = ap (λ (y : Place). y.weight []) same ∙ w;
  }

  part_piece : (s : ℕ) (low : ℤ) → nat_lt s (length vs) ≡ true → LeftPiece (lefts.Part (base.Signal s) low 1)
  part_piece s low h = left_piece_as (lefts.Part (base.Signal s) low 1) _ (sized_part vs (lefts.Part (base.Signal s) low 1) (base.Signal s) low 1 refl) (true_both (nat_lt s (length vs)) true h refl) refl refl refl

  whole_piece : (s : ℕ) → has_length vs s 1 ≡ true → LeftPiece (lefts.Whole (base.Signal s) 1)
  whole_piece s h = left_piece_as (lefts.Whole (base.Signal s) 1) _ (sized_whole vs (lefts.Whole (base.Signal s) 1) (base.Signal s) 1 refl) (true_both (has_length vs s 1) true h refl) refl refl refl

  chosen_piece : (b : SignalBit) (c : Bool) → (b.length == 1) ≡ c → is_there vs b ≡ true → LeftPiece (if c then lefts.Whole (base.Signal b.signal) 1 else lefts.Part (base.Signal b.signal) (pos b.bit) 1)
  chosen_piece b true e h =
      let n : b.length ≡ 1 = grind (arith, nat_tests) in
      whole_piece b.signal (subst (λ k. has_length vs b.signal k ≡ true) n (both_true (nat_lt b.bit b.length) (has_length vs b.signal b.length) h).1)
  chosen_piece b false e h = part_piece b.signal (pos b.bit) (both_true (nat_lt b.signal (length vs)) (length_in vs b.signal == b.length) (both_true (nat_lt b.bit b.length) (has_length vs b.signal b.length) h).1).0

  left_piece : (t : Target) → fits_target vs t ≡ true → LeftPiece (target_left t)
  left_piece (target.Bit b) h = chosen_piece b (b.length == 1) refl h
  left_piece (target.Outside s) h = part_piece s (negsuc 0) h

  record RightPiece (e : DExpr) : Type 0 where
    made : (sized_expr vs e).formed [] ≡ true
    single : (sized_expr vs e).length ≡ 1
    weightless : (sized_expr vs e).weight [] ≡ 0

  right_piece_as : (e : DExpr) (x : Sized) → sized_expr vs e ≡ x → x.formed [] ≡ true → x.length ≡ 1 → x.weight [] ≡ 0 → RightPiece e
  right_piece_as e x same f n w = record {
    made = ap (λ (y : Sized). y.formed []) same ∙ f;
    single = ap (λ (y : Sized). y.length) same ∙ n;
    weightless = ap (λ (y : Sized). y.weight []) same ∙ w;
  }

  signal_formed : (s m : ℕ) → is_vector m ≡ true → has_length vs s m ≡ true → (sized_expr vs (unsigned m (node.Signal s))).formed [] ≡ true
  signal_formed s m v h = ap (λ (y : Sized). y.formed []) (sized_signal vs (unsigned m (node.Signal s)) s refl) ∙ true_both (is_vector m) (has_length vs s m) v h

  signal_weight : (s m : ℕ) → (sized_expr vs (unsigned m (node.Signal s))).weight [] ≡ 0
  signal_weight s m = ap (λ (y : Sized). y.weight []) (sized_signal vs (unsigned m (node.Signal s)) s refl)

  bit_piece : (b : SignalBit) (c : Bool) → (b.length == 1) ≡ c → is_vector b.length ≡ true → has_length vs b.signal b.length ≡ true
      → RightPiece (if c then unsigned 1 (node.Signal b.signal) else unsigned 1 (node.Select (unsigned b.length (node.Signal b.signal)) (pos b.bit)))
  bit_piece b true e v h =
      let n : b.length ≡ 1 = grind (arith, nat_tests) in
      right_piece_as (unsigned 1 (node.Signal b.signal)) _ (sized_signal vs (unsigned 1 (node.Signal b.signal)) b.signal refl) (subst (λ k. has_length vs b.signal k ≡ true) n h) refl refl
  bit_piece b false e v h =
      let whole : DExpr = unsigned b.length (node.Signal b.signal) in
      right_piece_as (unsigned 1 (node.Select whole (pos b.bit))) _ (sized_select vs (unsigned 1 (node.Select whole (pos b.bit))) whole (pos b.bit) refl)
      (signal_formed b.signal b.length v h) refl (signal_weight b.signal b.length)

  right_piece : (s : Source) → fits_source vs s ≡ true → RightPiece (source_expr s)
  right_piece (source.Known v) h = right_piece_as (unsigned 1 (node.Const (v ∷ []))) _ (sized_constant vs (unsigned 1 (node.Const (v ∷ []))) (v ∷ []) refl) refl refl refl
  right_piece (source.Bit b) h =
      let p = both_true (is_vector b.length) (is_there vs b) h in
      bit_piece b (b.length == 1) refl p.0 (both_true (nat_lt b.bit b.length) (has_length vs b.signal b.length) p.1).1

  module _ (size : ℕ → ℕ) (scopes scope : ℕ) (stands : nat_lt scope scopes ≡ true) where
    piece_fits : (t : Target) (s : Source) → fits_target vs t ≡ true → fits_source vs s ≡ true → item_fits vs size scopes (piece scope t s) ≡ true
    piece_fits t s h g =
        let l = left_piece t h in
        let r = right_piece s g in
        let n = l.one in let m = r.single in let w = l.free in let u = r.weightless in
        let total : (sized_left vs (target_left t)).length + (sized_left vs (target_left t)).weight [] + (sized_expr vs (source_expr s)).weight [] ≡ 1 = omega (arith, n, w, u) in
        let order : nat_le (sized_left vs (target_left t)).length (sized_expr vs (source_expr s)).length ≡ true = ap₂ nat_le n m in
        true_both _ _ (true_both _ _ stands (true_both _ _ (true_both _ _ (true_both _ _ l.formed l.fixed) r.made) order)) (ap (λ k. 1 == k) total)

    lowest_fits : (ss : List Source) → list_all (fits_source vs) ss ≡ true → fits_source vs (lowest_source ss) ≡ true
    lowest_fits [] h = refl
    lowest_fits (s ∷ ss) h = (both_true (fits_source vs s) (list_all (fits_source vs) ss) h).0

    above_fits : (ss : List Source) → list_all (fits_source vs) ss ≡ true → list_all (fits_source vs) (above_lowest ss) ≡ true
    above_fits [] h = refl
    above_fits (s ∷ ss) h = (both_true (fits_source vs s) (list_all (fits_source vs) ss) h).1

    pub pieces_fit : (ts : List Target) (ss : List Source) → list_all (fits_target vs) ts ≡ true → list_all (fits_source vs) ss ≡ true
        → list_all (item_fits vs size scopes) (pieces scope ts ss) ≡ true
    pieces_fit [] ss h g = refl
    pieces_fit (t ∷ ts) ss h g =
        let p = both_true (fits_target vs t) (list_all (fits_target vs) ts) h in
        true_both (item_fits vs size scopes (piece scope t (lowest_source ss))) (list_all (item_fits vs size scopes) (pieces scope ts (above_lowest ss)))
        (piece_fits t (lowest_source ss) p.0 (lowest_fits ss g)) (pieces_fit ts (above_lowest ss) p.1 (above_fits ss g))

pub pieces_weigh : (scope : ℕ) (ts : List Target) (ss : List Source) → sum (map carried_weight (pieces scope ts ss)) ≡ length ts
pieces_weigh scope [] ss = refl
pieces_weigh scope (t ∷ ts) ss =
    let s = sum_more 1 (map carried_weight (pieces scope ts (above_lowest ss))) in
    let w = pieces_weigh scope ts (above_lowest ss) in omega (arith, s, w)

-- what a plain assign that is an item keeps of its parts
pub record Kept (signals : List Signal) (scopes scope weight : ℕ) (l : DLeft) (e : DExpr) : Type 0 where
  pub stands : nat_lt scope scopes ≡ true
  pub targets : list_all (fits_target (signal_lengths signals)) (left_bits (length_at signals) l) ≡ true
  pub sources : list_all (fits_source (signal_lengths signals)) (right_bits e) ≡ true
  pub weighs : length (left_bits (length_at signals) l) ≡ weight

same_numbers : (a b : ℕ) → (a == b) ≡ true → a ≡ b
same_numbers a b h = grind (arith, nat_tests)

pub kept : (signals : List Signal) (scopes scope weight : ℕ) (l : DLeft) (e : DExpr) → IsPlainAssign signals scopes scope weight l e → Kept signals scopes scope weight l e
kept signals scopes scope weight l e plain =
    let vs = signal_lengths signals in
    let i = item.Assign scope weight l e in
    let p = both_true (nat_lt scope scopes && tree_fits vs (length_at signals) i) (weight == weight_of vs i) plain.fits in
    let q = both_true (nat_lt scope scopes) (tree_fits vs (length_at signals) i) p.0 in
    let r = both_true ((sized_left vs l).formed [] false && (sized_left vs l).fixed && (sized_expr vs e).formed []) (nat_le (sized_left vs l).length (sized_expr vs e).length) q.1 in
    let s = both_true ((sized_left vs l).formed [] false && (sized_left vs l).fixed) ((sized_expr vs e).formed []) r.0 in
    let f = both_true ((sized_left vs l).formed [] false) (sized_left vs l).fixed s.0 in
    record {
      stands = q.0;
      targets = targets_fit vs l plain.left f.0;
      sources = sources_fit vs e plain.right s.1;
      weighs = (let w = same_numbers weight (weight_of vs i) p.1 in
          let n = left_long vs l plain.left f.0 in
          let u = left_weighs vs l plain.left f.0 in
          let v = right_weighs vs e plain.right s.1 in
          omega (arith, w, n, u, v));
    }
