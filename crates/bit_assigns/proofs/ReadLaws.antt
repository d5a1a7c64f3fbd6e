-- What a piece of a plain assign reads, the assign reads.
use Rattle.std.proofs.Common.{◌≡◌, ℕ, zero, suc, ◌-◌, Bool, true, false, ◌&&◌, ◌||◌, List, [], ◌∷◌, length, get_or, map, inl, inr, refl, sym, ◌∙◌, ap, subst, ℤ, pos, negsuc, ◌+ℤ◌, Option, Some, None, nat_lt, if◌then◌else◌, arith}
use Rattle.std.specs.Prelude.{◌==◌}
use Rattle.std.specs.List.{list_all, list_any, range_with_len}
use Rattle.std.proofs.lemmas.Bool.Decides.{nat_tests}
use Rattle.std.proofs.lemmas.List.Folds.{list_any-append}
use Rattle.bits_core.specs.Places.{extended, selected}
use Rattle.design_core.specs.declared.items.Item.TheVariants as item
use Rattle.design_core.specs.declared.place.BitRef.{BitRef}
use Rattle.design_core.specs.declared.signals.Signal.{Signal}
use Rattle.design_core.specs.declared.tree.DBase.TheVariants as base
use Rattle.design_core.specs.declared.tree.DExpr.{DExpr}
use Rattle.design_core.specs.declared.tree.DLeft.{DLeft}
use Rattle.design_core.specs.declared.tree.DLeft.TheOpen.{DNode-F}
use Rattle.design_core.specs.declared.tree.DLeft.TheVariants as lefts
use Rattle.design_core.specs.declared.tree.DNode.{out-DNode}
use Rattle.design_core.specs.declared.tree.DNode.TheVariants as node
use Rattle.design_core.specs.declared.tree.DStmt.{DStmt}
use Rattle.design_core.specs.declared.tree.DArm.{DArm}
use Rattle.design_core.specs.declared.tree.DFunction.{DFunction}
use Rattle.design_core.specs.declared.tree.DMatch.{DMatch}
use Rattle.design_core.specs.Cells.{Cell, In}
use Rattle.design_core.specs.Core.{bit, same_bit, spots, covers, Term, constant, span, own, app1, app2, app3, call, reads, left_reads}
use Rattle.design_core.specs.Formed.{has_length, is_vector}
use Rattle.design_core.specs.Parts.{item_cell, length_at}
use Rattle.design_core.specs.Terms.{term, left, select_of, chained}
use Rattle.design_core.specs.Wellformed.{signal_lengths}
use Rattle.design_core.proofs.BoolLaws.{both_true, true_both, or_cases, or_left, or_right, if_true}
use Rattle.design_core.proofs.TermLaws.{term_constant, term_signal, term_select, term_extend, term_concat, left_whole, left_part}
use Rattle.design_core.proofs.TreeInduction.{NodeLayer, Each, NodeParts, Steps, node_is, of_expr}
use Rattle.bit_assigns.specs.declared.bits.SignalBit.{SignalBit}
use Rattle.bit_assigns.specs.declared.bits.Source.{Source}
use Rattle.bit_assigns.specs.declared.bits.Source.TheVariants as source
use Rattle.bit_assigns.specs.declared.bits.Target.{Target}
use Rattle.bit_assigns.specs.declared.bits.Target.TheVariants as target
use Rattle.bit_assigns.specs.Bits.{source_at, source_or, source_or_int, span_sources, selected_sources, filling, extended_sources, side_by_side, lowest_source, above_lowest}
use Rattle.bit_assigns.specs.Sides.{is_plain_right, right_bits}
use Rattle.bit_assigns.specs.Pieces.{unsigned, target_left, source_expr, pieces}
use Rattle.bit_assigns.proofs.ListLaws.{select_whole}
use Rattle.bit_assigns.proofs.SideLaws.{plain-Local, plain-Select, plain-SelectAt, plain-Unary, plain-Binary, plain-Mux, plain-Extend, plain-Concat, plain-Repeat, plain-Call, bits-Const, bits-Signal, bits-Select, bits-Extend, bits-Concat}
use Rattle.bit_assigns.proofs.ValueLaws.{Any, plain_as, bits_as, never}
use Rattle.bit_assigns.proofs.FitLaws.{is_there, fits_source}

abbrev is_source : BitRef → Source → Bool
is_source b (source.Known v) = false
is_source b (source.Bit c) = same_bit b (bit c.signal c.bit)

abbrev is_read : BitRef → List Source → Bool
is_read b xs = list_any (is_source b) xs

-- places of a signal have its bits
abbrev Follows : Term → List Source → Type 0
Follows (constant v) xs = Unit {0}
Follows (span s m low n) xs = xs ≡ span_sources s m low n
Follows (own k) xs = Unit {0}
Follows (app1 f a) xs = Unit {0}
Follows (app2 f a b) xs = Unit {0}
Follows (app3 f c a b) xs = Unit {0}
Follows (call arguments body n inputs locals) xs = Unit {0}

record Good (t : Term) (xs : List Source) : Type 0 where
  follows : Follows t xs
  read : (b : BitRef) → is_read b xs ≡ true → reads t b ≡ true

good_as : (t u : Term) (xs ys : List Source) → t ≡ u → xs ≡ ys → Good u ys → Good t xs
good_as t u xs ys e f h = subst (λ v. Good v xs) (sym e) (subst (λ zs. Good u zs) (sym f) h)

no_known : (b : BitRef) (bits : List Bool) → is_read b (map source.Known bits) ≡ false
no_known b [] = refl
no_known b (v ∷ bits) = no_known b bits

span_read : (b : BitRef) (s m : ℕ) (os : List (Option ℕ)) → is_read b (map (source_at s m) os) ≡ true → ((b.signal == s) && covers b.bit os) ≡ true
span_read b s m [] h = never h
span_read b s m (None ∷ os) h = span_read b s m os h
span_read b s m (Some k ∷ os) h = elim (or_cases ((b.signal == s) && (b.bit == k)) (is_read b (map (source_at s m) os)) h) [
  | inl y ↦ (let p = both_true (b.signal == s) (b.bit == k) y in true_both (b.signal == s) ((b.bit == k) || covers b.bit os) p.0 (or_left (b.bit == k) (covers b.bit os) p.1))
  | inr y ↦ (let p = both_true (b.signal == s) (covers b.bit os) (span_read b s m os y) in true_both (b.signal == s) ((b.bit == k) || covers b.bit os) p.0 (or_right (b.bit == k) (covers b.bit os) p.1))
]

any_get : (b : BitRef) (xs : List Source) (k : ℕ) → is_source b (get_or xs k (source.Known false)) ≡ true → is_read b xs ≡ true
any_get b [] k h = never h
any_get b (x ∷ xs) zero h = or_left (is_source b x) (is_read b xs) h
any_get b (x ∷ xs) (suc k) h = or_right (is_source b x) (is_read b xs) (any_get b xs k h)

any_int : (b : BitRef) (xs : List Source) (z : ℤ) → is_source b (source_or_int xs z) ≡ true → is_read b xs ≡ true
any_int b xs (pos k) h = any_get b xs k h
any_int b xs (negsuc k) h = never h

any_filling : (b : BitRef) (keeps : Bool) (xs : List Source) → is_source b (filling keeps xs) ≡ true → is_read b xs ≡ true
any_filling b true xs h = any_get b xs (length xs - 1) h
any_filling b false xs h = never h

any_chosen : (b : BitRef) (c keeps : Bool) (xs : List Source) (k : ℕ) → is_source b (if c then source_or xs k else filling keeps xs) ≡ true → is_read b xs ≡ true
any_chosen b true keeps xs k h = any_get b xs k h
any_chosen b false keeps xs k h = any_filling b keeps xs h

any_map : (b : BitRef) (f : ℕ → Source) (d : Bool) → ((k : ℕ) → is_source b (f k) ≡ true → d ≡ true) → (ns : List ℕ) → is_read b (map f ns) ≡ true → d ≡ true
any_map b f d h [] g = never g
any_map b f d h (n ∷ ns) g = elim (or_cases (is_source b (f n)) (is_read b (map f ns)) g) [ inl y ↦ h n y | inr y ↦ any_map b f d h ns y ]

any_selected : (b : BitRef) (low : ℤ) (n : ℕ) (xs : List Source) → is_read b (selected_sources low n xs) ≡ true → is_read b xs ≡ true
any_selected b low n xs = any_map b (λ k. source_or_int xs (low +ℤ pos k)) (is_read b xs) (λ k. any_int b xs (low +ℤ pos k)) (range_with_len 0 n)

any_extended : (b : BitRef) (keeps : Bool) (n : ℕ) (xs : List Source) → is_read b (extended_sources keeps n xs) ≡ true → is_read b xs ≡ true
any_extended b keeps n xs = any_map b (λ k. if nat_lt k (length xs) then source_or xs k else filling keeps xs) (is_read b xs) (λ k. any_chosen b (nat_lt k (length xs)) keeps xs k) (range_with_len 0 n)

-- a select
good_app : (low : ℤ) (n : ℕ) (t : Term) (xs : List Source) → Good t xs → Good (app1 (selected low n) t) (selected_sources low n xs)
good_app low n t xs h = record { follows = tt; read = λ b r. h.read b (any_selected b low n xs r) }

good_span : (s m : ℕ) (low : ℤ) (n : ℕ) → Good (span s m low n) (span_sources s m low n)
good_span s m low n = record { follows = refl; read = λ b r. span_read b s m (spots m low n) r }

good_chosen : (low : ℤ) (n s m k : ℕ) (xs : List Source) (c : Bool) → (k == m) ≡ c → Good (span s m (pos 0) k) xs
    → Good (if c then span s m low n else app1 (selected low n) (span s m (pos 0) k)) (selected_sources low n xs)
good_chosen low n s m k xs false e h = good_app low n (span s m (pos 0) k) xs h
good_chosen low n s m k xs true e h =
    let same : k ≡ m = grind (arith, nat_tests) in
    good_as (span s m low n) (span s m low n) (selected_sources low n xs) (span_sources s m low n) refl
    (ap (selected_sources low n) (h.follows ∙ ap (span_sources s m (pos 0)) same) ∙ select_whole s m low n) (good_span s m low n)

good_select : (low : ℤ) (n : ℕ) (t : Term) (xs : List Source) → Good t xs → Good (select_of low n t) (selected_sources low n xs)
good_select low n (span s m (pos zero) k) xs h = good_chosen low n s m k xs (k == m) refl h
good_select low n (span s m (pos (suc j)) k) xs h = good_app low n (span s m (pos (suc j)) k) xs h
good_select low n (span s m (negsuc j) k) xs h = good_app low n (span s m (negsuc j) k) xs h
good_select low n (constant v) xs h = good_app low n (constant v) xs h
good_select low n (own k) xs h = good_app low n (own k) xs h
good_select low n (app1 f a) xs h = good_app low n (app1 f a) xs h
good_select low n (app2 f a b) xs h = good_app low n (app2 f a b) xs h
good_select low n (app3 f c a b) xs h = good_app low n (app3 f c a b) xs h
good_select low n (call arguments body m inputs locals) xs h = good_app low n (call arguments body m inputs locals) xs h

module _ (size : ℕ → ℕ) where
  abbrev Reads : DExpr → Type 0
  Reads e = is_plain_right e ≡ true → Good (term size e) (right_bits e)

  reads_parts : (es : List DExpr) → Each Reads es → list_all is_plain_right es ≡ true → Good (chained (map (term size) es)) (side_by_side (map right_bits es))
  reads_parts [] h p = record { follows = tt; read = λ b r. never r }
  reads_parts (e ∷ es) h p =
      let q = both_true (is_plain_right e) (list_all is_plain_right es) p in
      record {
        follows = tt;
        read = λ b r. elim (or_cases (is_read b (side_by_side (map right_bits es))) (is_read b (right_bits e))
            (sym (list_any-append (is_source b) (side_by_side (map right_bits es)) (right_bits e)) ∙ r)) [
              | inl y ↦ or_right (reads (term size e) b) (reads (chained (map (term size) es)) b) ((reads_parts es h.1 q.1).read b y)
              | inr y ↦ or_left (reads (term size e) b) (reads (chained (map (term size) es)) b) ((h.0 q.0).read b y)
            ];
      }

  reads_node : (e : DExpr) (x : NodeLayer) → out-DNode e.node ≡ x → NodeParts Reads (Any {X = DLeft}) (Any {X = DStmt}) (Any {X = DArm}) (Any {X = DFunction}) (Any {X = DMatch}) x → Reads e
  reads_node e (DNode-F.Const bits) is h p =
      let k = node_is e.node (DNode-F.Const bits) is ∙ node.rolls-Const bits in
      good_as (term size e) (constant bits) (right_bits e) (map source.Known bits) (term_constant size e bits k) (bits_as e (node.Const bits) _ k (bits-Const e.length bits))
      (record { follows = tt; read = λ b r. never (sym (no_known b bits) ∙ r) })
  reads_node e (DNode-F.Signal s) is h p =
      let k = node_is e.node (DNode-F.Signal s) is ∙ node.rolls-Signal s in
      good_as (term size e) (span s e.length (pos 0) e.length) (right_bits e) (span_sources s e.length (pos 0) e.length) (term_signal size e s k) (bits_as e (node.Signal s) _ k (bits-Signal e.length s))
      (good_span s e.length (pos 0) e.length)
  reads_node e (DNode-F.Local j) is h p = never (plain_as e (node.Local j) false (node_is e.node (DNode-F.Local j) is ∙ node.rolls-Local j) (plain-Local e.length j) p)
  reads_node e (DNode-F.Select a low) is h p =
      let k = node_is e.node (DNode-F.Select a low) is ∙ node.rolls-Select a low in
      let q = plain_as e (node.Select a low) (is_plain_right a) k (plain-Select e.length a low) p in
      good_as (term size e) (select_of low e.length (term size a)) (right_bits e) (selected_sources low e.length (right_bits a)) (term_select size e a low k) (bits_as e (node.Select a low) _ k (bits-Select e.length a low))
      (good_select low e.length (term size a) (right_bits a) (h q))
  reads_node e (DNode-F.SelectAt a index offset down) is h p =
      never (plain_as e (node.SelectAt a index offset down) false (node_is e.node (DNode-F.SelectAt a index offset down) is ∙ node.rolls-SelectAt a index offset down) (plain-SelectAt e.length a index offset down) p)
  reads_node e (DNode-F.Unary op a) is h p = never (plain_as e (node.Unary op a) false (node_is e.node (DNode-F.Unary op a) is ∙ node.rolls-Unary op a) (plain-Unary e.length op a) p)
  reads_node e (DNode-F.Binary op a b) is h p = never (plain_as e (node.Binary op a b) false (node_is e.node (DNode-F.Binary op a b) is ∙ node.rolls-Binary op a b) (plain-Binary e.length op a b) p)
  reads_node e (DNode-F.Mux c a b) is h p = never (plain_as e (node.Mux c a b) false (node_is e.node (DNode-F.Mux c a b) is ∙ node.rolls-Mux c a b) (plain-Mux e.length c a b) p)
  reads_node e (DNode-F.Extend a keeps) is h p =
      let k = node_is e.node (DNode-F.Extend a keeps) is ∙ node.rolls-Extend a keeps in
      let q = plain_as e (node.Extend a keeps) (is_plain_right a) k (plain-Extend e.length a keeps) p in
      good_as (term size e) (app1 (extended keeps e.length) (term size a)) (right_bits e) (extended_sources keeps e.length (right_bits a)) (term_extend size e a keeps k) (bits_as e (node.Extend a keeps) _ k (bits-Extend e.length a keeps))
      (record { follows = tt; read = λ b r. (h q).read b (any_extended b keeps e.length (right_bits a) r) })
  reads_node e (DNode-F.«DNode::Concat» parts) is h p =
      let k = node_is e.node (DNode-F.«DNode::Concat» parts) is ∙ node.rolls-Concat parts in
      let q = plain_as e (node.Concat parts) (list_all is_plain_right parts) k (plain-Concat e.length parts) p in
      good_as (term size e) (chained (map (term size) parts)) (right_bits e) (side_by_side (map right_bits parts)) (term_concat size e parts k) (bits_as e (node.Concat parts) _ k (bits-Concat e.length parts))
      (reads_parts parts h q)
  reads_node e (DNode-F.Repeat count part) is h p = never (plain_as e (node.Repeat count part) false (node_is e.node (DNode-F.Repeat count part) is ∙ node.rolls-Repeat count part) (plain-Repeat e.length count part) p)
  reads_node e (DNode-F.Call f arguments) is h p = never (plain_as e (node.Call f arguments) false (node_is e.node (DNode-F.Call f arguments) is ∙ node.rolls-Call f arguments) (plain-Call e.length f arguments) p)

  reads_steps : Steps Reads (Any {X = DLeft}) (Any {X = DStmt}) (Any {X = DArm}) (Any {X = DFunction}) (Any {X = DMatch})
  reads_steps = record {
    expr = λ e h. reads_node e (out-DNode e.node) refl h;
    left = λ l h. tt;
    stmt = λ s h. tt;
    arm = λ a h g. tt;
    function = λ f h. tt;
    match = λ m h. tt;
  }

  bits_read : (e : DExpr) → is_plain_right e ≡ true → (b : BitRef) → is_read b (right_bits e) ≡ true → reads (term size e) b ≡ true
  bits_read e p = (of_expr Reads (Any {X = DLeft}) (Any {X = DStmt}) (Any {X = DArm}) (Any {X = DFunction}) (Any {X = DMatch}) reads_steps e p).read

  -- a piece reads its bit alone
  or_none : (a : Bool) → (a || false) ≡ a
  or_none true = refl
  or_none false = refl

  same_number : (k : ℕ) → (k == k) ≡ true
  same_number k = grind (arith, nat_tests)

  bit_reads : (c : SignalBit) (b : BitRef) (one : Bool) → (c.length == 1) ≡ one → nat_lt c.bit c.length ≡ true
      → reads (term size (if one then unsigned 1 (node.Signal c.signal) else unsigned 1 (node.Select (unsigned c.length (node.Signal c.signal)) (pos c.bit)))) b ≡ same_bit b (bit c.signal c.bit)
  bit_reads c b true e h =
      let n : c.length ≡ 1 = grind (arith, nat_tests) in
      let k : c.bit ≡ 0 = grind (arith, nat_tests) in
      ap (λ t. reads t b) (term_signal size (unsigned 1 (node.Signal c.signal)) c.signal refl)
      ∙ ap (λ x. (b.signal == c.signal) && x) (or_none (b.bit == 0)) ∙ ap (λ j. (b.signal == c.signal) && (b.bit == j)) (sym k)
  bit_reads c b false e h =
      let x : DExpr = unsigned c.length (node.Signal c.signal) in
      ap (λ t. reads t b) (term_select size (unsigned 1 (node.Select x (pos c.bit))) x (pos c.bit) refl
      ∙ ap (select_of (pos c.bit) 1) (term_signal size x c.signal refl)
      ∙ if_true (c.length == c.length) (span c.signal c.length (pos c.bit) 1) (app1 (selected (pos c.bit) 1) (span c.signal c.length (pos 0) c.length)) (same_number c.length))
      ∙ ap (λ o. (b.signal == c.signal) && covers b.bit (o ∷ [])) (if_true (nat_lt c.bit c.length) (Some c.bit) None h)
      ∙ ap (λ y. (b.signal == c.signal) && y) (or_none (b.bit == c.bit))

  source_reads : (vs : List ℕ) (s : Source) (b : BitRef) → fits_source vs s ≡ true → reads (term size (source_expr s)) b ≡ is_source b s
  source_reads vs (source.Known v) b h = ap (λ t. reads t b) (term_constant size (unsigned 1 (node.Const (v ∷ []))) (v ∷ []) refl)
  source_reads vs (source.Bit c) b h =
      bit_reads c b (c.length == 1) refl (both_true (nat_lt c.bit c.length) (has_length vs c.signal c.length) (both_true (is_vector c.length) (is_there vs c) h).1).0

  bit_left_reads : (c : SignalBit) (b : BitRef) (one : Bool) → left_reads (left size (if one then lefts.Whole (base.Signal c.signal) 1 else lefts.Part (base.Signal c.signal) (pos c.bit) 1)) b ≡ false
  bit_left_reads c b true = ap (λ t. left_reads t b) (left_whole size (lefts.Whole (base.Signal c.signal) 1) (base.Signal c.signal) 1 refl)
  bit_left_reads c b false = ap (λ t. left_reads t b) (left_part size (lefts.Part (base.Signal c.signal) (pos c.bit) 1) (base.Signal c.signal) (pos c.bit) 1 refl)

  target_reads : (t : Target) (b : BitRef) → left_reads (left size (target_left t)) b ≡ false
  target_reads (target.Bit c) b = bit_left_reads c b (c.length == 1)
  target_reads (target.Outside s) b = ap (λ x. left_reads x b) (left_part size (lefts.Part (base.Signal s) (negsuc 0) 1) (base.Signal s) (negsuc 0) 1 refl)

  piece_reads : (vs : List ℕ) (t : Target) (s : Source) (b : BitRef) → fits_source vs s ≡ true
      → (reads (term size (source_expr s)) b || left_reads (left size (target_left t)) b) ≡ true → is_source b s ≡ true
  piece_reads vs t s b h r = elim (or_cases (reads (term size (source_expr s)) b) (left_reads (left size (target_left t)) b) r) [
    | inl y ↦ sym (source_reads vs s b h) ∙ y
    | inr y ↦ never (sym (target_reads t b) ∙ y)
  ]

module _ (signals : List Signal) where
  abbrev vs : List ℕ
  vs = signal_lengths signals

  lowest_read : (b : BitRef) (ss : List Source) → is_source b (lowest_source ss) ≡ true → is_read b ss ≡ true
  lowest_read b [] h = never h
  lowest_read b (s ∷ ss) h = or_left (is_source b s) (is_read b ss) h

  above_read : (b : BitRef) (ss : List Source) → is_read b (above_lowest ss) ≡ true → is_read b ss ≡ true
  above_read b [] h = h
  above_read b (s ∷ ss) h = or_right (is_source b s) (is_read b ss) h

  lowest_fits : (ss : List Source) → list_all (fits_source vs) ss ≡ true → fits_source vs (lowest_source ss) ≡ true
  lowest_fits [] h = refl
  lowest_fits (s ∷ ss) h = (both_true (fits_source vs s) (list_all (fits_source vs) ss) h).0

  above_fits : (ss : List Source) → list_all (fits_source vs) ss ≡ true → list_all (fits_source vs) (above_lowest ss) ≡ true
  above_fits [] h = refl
  above_fits (s ∷ ss) h = (both_true (fits_source vs s) (list_all (fits_source vs) ss) h).1

  cells_read : (scope : ℕ) (ts : List Target) (ss : List Source) → list_all (fits_source vs) ss ≡ true
      → (c : Cell BitRef) → In c (map (item_cell signals) (pieces scope ts ss)) → (b : BitRef) → c.reads b ≡ true → is_read b ss ≡ true
  cells_read scope [] ss h c i b r = absurd i
  cells_read scope (t ∷ ts) ss h c (inl e) b r =
      lowest_read b ss (piece_reads (length_at signals) vs t (lowest_source ss) b (lowest_fits ss h) (sym (ap (λ (x : Cell BitRef). x.reads b) e) ∙ r))
  cells_read scope (t ∷ ts) ss h c (inr i) b r = above_read b ss (cells_read scope ts (above_lowest ss) (above_fits ss h) c i b r)

  pub pieces_read : (scope weight : ℕ) (l : DLeft) (e : DExpr) → is_plain_right e ≡ true → list_all (fits_source vs) (right_bits e) ≡ true
      → (ts : List Target) (c : Cell BitRef) → In c (map (item_cell signals) (pieces scope ts (right_bits e))) → (b : BitRef) → c.reads b ≡ true
      → (item_cell signals (item.Assign scope weight l e)).reads b ≡ true
  pieces_read scope weight l e p h ts c i b r =
      or_left (reads (term (length_at signals) e) b) (left_reads (left (length_at signals) l) b) (bits_read (length_at signals) e p b (cells_read scope ts (right_bits e) h c i b r))
