-- One more cycle.
use Rattle.std.proofs.Common.{◌≡◌, ℕ, ◌+◌, ◌<◌, ◌≤◌, ◌^◌, ◌||◌, Bool, true, false, cond, eqb, ltb, List, [], ◌∷◌, ◌++◌, map, length, get_or, take, arith, refl, sym, ap, subst, ◌∙◌, Option, Some, None, zero, suc, inl, inr, length-append, add-one}
use Rattle.std.specs.List.{fold}
use Rattle.std.proofs.lemmas.Bool.{cond-true, cond-false, eq-eqb, ne_eqb, cases_eq, cases_lt, lt-ltb, le-ltb, false≢true}
use Rattle.cyc_net.specs.declared.node.Node.{Node}
use Rattle.cyc_net.specs.declared.cycle.BitLeaf.{BitLeaf}
use Rattle.cyc_net.specs.declared.cycle.BitNode.{BitNode}
use Rattle.cyc_net.specs.declared.cycle.CycleNet.{CycleNet}
use Rattle.cyc_net.specs.Nets.{value, has_leaf, is_leaf, LeafBelow, LeavesBelow, Extends}
use Rattle.cyc_net.specs.declared.node.Node.TheVariants as node
use Rattle.cyc_net.specs.Cycles as cycles
use Rattle.cyc_net.specs.Cycles.{IsCycleNet}
use Rattle.cyc_net.proofs.NetLaws.{Extends-trans, has_below, leaves_fit}
use Rattle.unroller.specs.declared.setup.Fixed.{Fixed}
use Rattle.unroller.specs.declared.setup.StartState.{StartState}
use Rattle.unroller.specs.declared.setup.StartState.TheVariants.{Free, PowerUp}
use Rattle.cyc_net.specs.Cycles.{leaf_of, bit_of, bit_at, node_at, node_of, next_of, or_zero}
use Rattle.unroller.specs.Setups.{fixed_at, StartsAt, Trace, IsTrace, Place, state_places, free_place, input_places, places, Agree, AreFrames, IsUnrolled}
use Rattle.unroller.specs.Steps.{AreNodes, Started, Given, Copied, Reached, Before}
use Rattle.unroller.specs.Tables.{read_node}
use Rattle.unroller.proofs.StepLaws.{across_by, at_most_one}

-- leaves at their places

module _ (setup : Fixed) (t : ℕ) (w : ℕ → Bool) (σ : Trace) where
  agree_by : (n : ℕ) (p : BitLeaf) (ps : List BitLeaf) (o : Option Bool) → fixed_at setup t p.bit ≡ o
      → ((k : ℕ) → k < length (p ∷ ps) → fixed_at setup t (bit_of (p ∷ ps) k) ≡ None → w (n + length (input_places setup t (take k (p ∷ ps)))) ≡ σ t (leaf_of (p ∷ ps) k))
      → ((m : ℕ) → ((k : ℕ) → k < length ps → fixed_at setup t (bit_of ps k) ≡ None → w (m + length (input_places setup t (take k ps))) ≡ σ t (leaf_of ps k)) → Agree m (input_places setup t ps) w σ)
      → Agree n (free_place o t p.leaf (input_places setup t ps)) w σ
  agree_by n p ps (Some v) e h rest =
      rest n (λ k lt f. ap (λ (o : Option Bool). w (n + length (free_place o t p.leaf (input_places setup t (take k ps))))) (sym e) ∙ h (suc k) (omega arith) f)
  agree_by n p ps None e h rest = (
    ap w (omega arith) ∙ h 0 (omega arith) e,
    rest (n + 1) (λ k lt f.
        ap w (omega arith)
        ∙ ap (λ (o : Option Bool). w (n + length (free_place o t p.leaf (input_places setup t (take k ps))))) (sym e)
        ∙ h (suc k) (omega arith) f),
  )

  agree_inputs : (n : ℕ) (ps : List BitLeaf) → ((k : ℕ) → k < length ps → fixed_at setup t (bit_of ps k) ≡ None → w (n + length (input_places setup t (take k ps))) ≡ σ t (leaf_of ps k)) → Agree n (input_places setup t ps) w σ
  agree_inputs n [] h = tt
  agree_inputs n (p ∷ ps) h = agree_by n p ps (fixed_at setup t p.bit) refl h (λ m f. agree_inputs m ps f)

agree_append : (n : ℕ) (ps qs : List Place) (w : ℕ → Bool) (σ : Trace) → Agree n ps w σ → Agree (n + length ps) qs w σ → Agree n (ps ++ qs) w σ
agree_append n [] qs w σ h k = subst (λ (m : ℕ). Agree m qs w σ) (omega arith) k
agree_append n (p ∷ ps) qs w σ h k = (h.0, agree_append (n + 1) ps qs w σ h.1 (subst (λ (m : ℕ). Agree m qs w σ) (omega arith) k))

-- two traces that are the same at the places
abbrev pub Same : Trace → Trace → List Place → Type 0
Same σ τ [] = Unit {0}
Same σ τ (p ∷ ps) = (σ p.cycle p.leaf ≡ τ p.cycle p.leaf) × Same σ τ ps

agree_same : (n : ℕ) (ps : List Place) (w : ℕ → Bool) (σ τ : Trace) → Same σ τ ps → Agree n ps w σ → Agree n ps w τ
agree_same n [] w σ τ s h = tt
agree_same n (p ∷ ps) w σ τ s h = (h.0 ∙ s.0, agree_same (n + 1) ps w σ τ s.1 h.1)

same_append : (σ τ : Trace) (ps qs : List Place) → Same σ τ ps → Same σ τ qs → Same σ τ (ps ++ qs)
same_append σ τ [] qs h k = k
same_append σ τ (p ∷ ps) qs h k = (h.0, same_append σ τ ps qs h.1 k)

same_states : (σ τ : Trace) (start : StartState) (ps : List BitLeaf) → ((k : ℕ) → k < length ps → σ 0 (leaf_of ps k) ≡ τ 0 (leaf_of ps k)) → Same σ τ (state_places start ps)
same_states σ τ start [] h = tt
same_states σ τ Free (p ∷ ps) h = (h 0 (omega arith), same_states σ τ Free ps (λ k lt. h (suc k) (omega arith)))
same_states σ τ (PowerUp values) (p ∷ ps) h = tt

same_free : (σ τ : Trace) (o : Option Bool) (t l : ℕ) (rest : List Place) → σ t l ≡ τ t l → Same σ τ rest → Same σ τ (free_place o t l rest)
same_free σ τ None t l rest e h = (e, h)
same_free σ τ (Some v) t l rest e h = h

same_inputs : (σ τ : Trace) (setup : Fixed) (t : ℕ) (ps : List BitLeaf) → ((l : ℕ) → σ t l ≡ τ t l) → Same σ τ (input_places setup t ps)
same_inputs σ τ setup t [] h = tt
same_inputs σ τ setup t (p ∷ ps) h = same_free σ τ (fixed_at setup t p.bit) t p.leaf (input_places setup t ps) (h p.leaf) (same_inputs σ τ setup t ps h)

same_places : (σ τ : Trace) (c : CycleNet) (setup : Fixed) (start : StartState) (t : ℕ) → ((k : ℕ) → k < length c.states → σ 0 (leaf_of c.states k) ≡ τ 0 (leaf_of c.states k)) → ((u : ℕ) → u < t → (l : ℕ) → σ u l ≡ τ u l) → Same σ τ (places c setup start t)
same_places σ τ c setup start zero first rest = same_states σ τ start c.states first
same_places σ τ c setup start (suc t) first rest =
    same_append σ τ (places c setup start t) (input_places setup t c.inputs)
    (same_places σ τ c setup start t first (λ u lt. rest u (omega arith))) (same_inputs σ τ setup t c.inputs (rest t (omega arith)))

-- nodes of lists

node_below : (n : ℕ) (ps : List BitNode) (k : ℕ) → cycles.AreNodes n ps → k < length ps → node_at ps k < n
node_below n [] k all lt = absurd (omega arith)
node_below n (p ∷ ps) zero all lt = all.0
node_below n (p ∷ ps) (suc k) all lt = node_below n ps k all.1 (omega arith)

pick_below : (n : ℕ) (c : Bool) (x : ℕ) (o : Option ℕ) → x < n → or_zero o < n → or_zero (cond c (Some x) o) < n
pick_below n true x o h k = h
pick_below n false x o h k = k

next_below : (n b : ℕ) (ps : List BitNode) → 0 < n → cycles.AreNodes n ps → next_of ps b < n
next_below n b [] h all = h
next_below n b (p ∷ ps) h all = pick_below n (eqb p.bit b) p.node (node_of ps b) all.0 (next_below n b ps h all.1)

abbrev framed : List ℕ → List BitNode → List BitNode
framed copies bits = map (λ (p : BitNode). record { bit = p.bit; node = read_node copies p.node }) bits

frame_node : (copies : List ℕ) (bits : List BitNode) (k : ℕ) → k < length bits → node_at (framed copies bits) k ≡ read_node copies (node_at bits k)
frame_node copies [] k lt = absurd (omega arith)
frame_node copies (p ∷ ps) zero lt = refl
frame_node copies (p ∷ ps) (suc k) lt = frame_node copies ps k (omega arith)

frame_bit : (copies : List ℕ) (bits : List BitNode) (k : ℕ) → k < length bits → bit_at (framed copies bits) k ≡ bit_at bits k
frame_bit copies [] k lt = absurd (omega arith)
frame_bit copies (p ∷ ps) zero lt = refl
frame_bit copies (p ∷ ps) (suc k) lt = frame_bit copies ps k (omega arith)

frame_long : (copies : List ℕ) (bits : List BitNode) → length (framed copies bits) ≡ length bits
frame_long copies [] = refl
frame_long copies (p ∷ ps) = ap suc (frame_long copies ps)

snoc_front : {X : Type 0} (xs : List X) (x d : X) (n : ℕ) → n < length xs → get_or (xs ++ x ∷ []) n d ≡ get_or xs n d
snoc_front [] x d n lt = absurd (omega arith)
snoc_front (y ∷ ys) x d zero lt = refl
snoc_front (y ∷ ys) x d (suc n) lt = snoc_front ys x d n (omega arith)

snoc_last : {X : Type 0} (xs : List X) (x d : X) (n : ℕ) → n ≡ length xs → get_or (xs ++ x ∷ []) n d ≡ x
snoc_last [] x d n e = ap (λ (k : ℕ). get_or (x ∷ []) k d) e
snoc_last (y ∷ ys) x d zero e = absurd (omega arith)
snoc_last (y ∷ ys) x d (suc n) e = snoc_last ys x d n (omega arith)

-- the trace with cycles t and t + 1 as given
abbrev extended : Trace → ℕ → (ℕ → Bool) → (ℕ → Bool) → Trace
extended σ t x y = λ u. cond (eqb u t) x (cond (eqb u (t + 1)) y (σ u))

extended_at : (σ : Trace) (t : ℕ) (x y : ℕ → Bool) (u : ℕ) → u ≡ t → extended σ t x y u ≡ x
extended_at σ t x y u e = cond-true (eqb u t) x (cond (eqb u (t + 1)) y (σ u)) (eq-eqb u t e)

extended_next : (σ : Trace) (t : ℕ) (x y : ℕ → Bool) → extended σ t x y (t + 1) ≡ y
extended_next σ t x y =
    cond-false (eqb (t + 1) t) x (cond (eqb (t + 1) (t + 1)) y (σ (t + 1))) (ne_eqb (t + 1) t (λ e. omega arith))
    ∙ cond-true (eqb (t + 1) (t + 1)) y (σ (t + 1)) (eq-eqb (t + 1) (t + 1) refl)

extended_before : (σ : Trace) (t : ℕ) (x y : ℕ → Bool) (u : ℕ) → u < t → extended σ t x y u ≡ σ u
extended_before σ t x y u lt =
    cond-false (eqb u t) x (cond (eqb u (t + 1)) y (σ u)) (ne_eqb u t (λ e. omega arith))
    ∙ cond-false (eqb u (t + 1)) y (σ u) (ne_eqb u (t + 1) (λ e. omega arith))

on : (l : ℕ) (x y : ℕ → Bool) → x ≡ y → x l ≡ y l
on l x y e = ap (λ (f : ℕ → Bool). f l) e

module _ (c : CycleNet) (setup : Fixed) (start : StartState) (t : ℕ) (net0 netA netB : List Node) (src0 srcA srcB copies : List ℕ) (leaves more : ℕ) (frames : List (List BitNode)) (frame : List BitNode)
    (is : IsCycleNet c) (two : 2 ≤ length c.net) (b : Before c setup start t net0 src0 leaves frames) (g : Given setup t c.inputs net0 src0 leaves netA srcA more) (p : Copied c.net netA srcA netB copies)
    (framed_is : frame ≡ framed copies c.bits) (link : (k : ℕ) → k < length c.states → read_node srcB (leaf_of c.states k) ≡ read_node copies (next_of c.nexts (bit_of c.states k))) (nodesB : AreNodes netB srcB) where
  kept : Extends net0 netB
  kept = Extends-trans net0 netA netB g.kept p.kept

  old_frame : (u : ℕ) → u < t → get_or (frames ++ frame ∷ []) u [] ≡ get_or frames u []
  old_frame u lt = snoc_front frames frame [] u (let l = b.long in omega arith)

  new_frame : (u : ℕ) → u ≡ t → get_or (frames ++ frame ∷ []) u [] ≡ framed copies c.bits
  new_frame u e = snoc_last frames frame [] u (e ∙ sym b.long) ∙ framed_is

  longer : length (frames ++ frame ∷ []) ≡ t + 1
  longer = omega (arith, length-append frames (frame ∷ []), b.long)

  next_in : (k : ℕ) → next_of c.nexts (bit_of c.states k) < length c.net
  next_in k = next_below (length c.net) (bit_of c.states k) c.nexts (omega arith) is.next_nodes

  node_in : (k : ℕ) → k < length c.bits → node_at c.bits k < length c.net
  node_in k lt = node_below (length c.net) c.bits k is.bit_nodes lt

  now_are : AreFrames c netB (frames ++ frame ∷ [])
  now_are = record {
    long = λ u lt. elim (cases_eq u t) [
      | inl e ↦ ap length (new_frame u e) ∙ frame_long copies c.bits
      | inr ne ↦ ap length (old_frame u (let l = longer in omega arith)) ∙ b.are.long u (let l = longer in let m = b.long in omega arith)
    ];
    bits = λ u k lt lk. elim (cases_eq u t) [
      | inl e ↦ ap (λ (f : List BitNode). bit_at f k) (new_frame u e) ∙ frame_bit copies c.bits k lk
      | inr ne ↦ ap (λ (f : List BitNode). bit_at f k) (old_frame u (let l = longer in omega arith)) ∙ b.are.bits u k (let l = longer in let m = b.long in omega arith) lk
    ];
    nodes = λ u k lt lk. elim (cases_eq u t) [
      | inl e ↦ subst (λ (n : ℕ). n < length netB) (sym (ap (λ (f : List BitNode). node_at f k) (new_frame u e) ∙ frame_node copies c.bits k lk)) (p.nodes (node_at c.bits k))
      | inr ne ↦ subst (λ (n : ℕ). n < length netB) (sym (ap (λ (f : List BitNode). node_at f k) (old_frame u (let l = longer in omega arith))))
          (let h = b.are.nodes u k (let l = longer in let m = b.long in omega arith) lk in let q = kept.longer in omega arith)
    ];
  }

  reach : (w : ℕ → Bool) → Reached c setup start (t + 1) netB srcB (frames ++ frame ∷ []) w
  reach w =
      let r = b.reached w in
      let σ : Trace = r.trace in
      let xA : ℕ → Bool = λ l. value netA w (read_node srcA l) in
      let xB : ℕ → Bool = λ l. value netB w (read_node srcB l) in
      let τ : Trace = extended σ t xA xB in
      let states_same : (k : ℕ) → k < length c.states → xA (leaf_of c.states k) ≡ σ t (leaf_of c.states k) =
      λ k lt.
      ap (value netA w) (g.others (leaf_of c.states k) (λ j lj e. across_by c.inputs c.states (at_most_one c.net c.inputs c.states is.leaves) j k lj lt e))
      ∙ g.kept.same (read_node src0 (leaf_of c.states k)) w (b.nodes (leaf_of c.states k)) ∙ sym (r.now k lt) in
      let zero_same : (k : ℕ) → k < length c.states → τ 0 (leaf_of c.states k) ≡ σ 0 (leaf_of c.states k) =
      λ k lt. elim (cases_eq 0 t) [
        | inl e ↦ on (leaf_of c.states k) (τ 0) xA (extended_at σ t xA xB 0 e) ∙ states_same k lt ∙ ap (λ (u : ℕ). σ u (leaf_of c.states k)) (sym e)
        | inr ne ↦ on (leaf_of c.states k) (τ 0) (σ 0) (extended_before σ t xA xB 0 (omega arith))
      ] in
      record {
        trace = τ;
        is_trace = record {
          fixed = λ u k v lt lk f. elim (cases_eq u t) [
            | inl e ↦ on (leaf_of c.inputs k) (τ u) xA (extended_at σ t xA xB u e) ∙ g.fixed w k v lk (ap (λ (n : ℕ). fixed_at setup n (bit_of c.inputs k)) (sym e) ∙ f)
            | inr ne ↦ on (leaf_of c.inputs k) (τ u) (σ u) (extended_before σ t xA xB u (omega arith)) ∙ r.is_trace.fixed u k v (omega arith) lk f
          ];
          steps = λ u k lt lk. elim (cases_eq (u + 1) t) [
            | inl e ↦
                on (leaf_of c.states k) (τ (u + 1)) xA (extended_at σ t xA xB (u + 1) e) ∙ states_same k lk ∙ r.linked u k e lk
                ∙ ap (λ (f : ℕ → Bool). value c.net f (next_of c.nexts (bit_of c.states k))) (sym (extended_before σ t xA xB u (omega arith)))
            | inr ne ↦
                on (leaf_of c.states k) (τ (u + 1)) (σ (u + 1)) (extended_before σ t xA xB (u + 1) (omega arith)) ∙ r.is_trace.steps u k (omega arith) lk
                ∙ ap (λ (f : ℕ → Bool). value c.net f (next_of c.nexts (bit_of c.states k))) (sym (extended_before σ t xA xB u (omega arith)))
          ];
          starts = λ k lk. subst (StartsAt start (bit_of c.states k)) (sym (zero_same k lk)) (r.is_trace.starts k lk);
        };
        now = λ k lk. on (leaf_of c.states k) (τ (t + 1)) xB (extended_next σ t xA xB);
        linked = λ u k e lk.
            on (leaf_of c.states k) (τ (t + 1)) xB (extended_next σ t xA xB) ∙ ap (value netB w) (link k lk) ∙ p.values w (next_of c.nexts (bit_of c.states k)) (next_in k)
            ∙ ap (λ (f : ℕ → Bool). value c.net f (next_of c.nexts (bit_of c.states k))) (sym (extended_at σ t xA xB u (omega arith)));
        agree = subst (λ (n : ℕ). Agree 0 (places c setup start n) w τ) (sym (add-one t))
            (agree_append 0 (places c setup start t) (input_places setup t c.inputs) w τ
            (agree_same 0 (places c setup start t) w σ τ
            (same_places σ τ c setup start t (λ k lk. sym (zero_same k lk)) (λ u lt l. sym (on l (τ u) (σ u) (extended_before σ t xA xB u lt)))) r.agree)
            (agree_inputs setup t w τ (0 + length (places c setup start t)) c.inputs (λ k lk f.
            ap (λ (n : ℕ). w (n + length (input_places setup t (take k c.inputs)))) (omega (arith, b.count))
            ∙ sym (g.free w k lk f) ∙ sym (on (leaf_of c.inputs k) (τ t) xA (extended_at σ t xA xB t refl)))));
        values = λ u k lt lk. elim (cases_eq u t) [
          | inl e ↦
              ap (λ (f : List BitNode). value netB w (node_at f k)) (new_frame u e) ∙ ap (value netB w) (frame_node copies c.bits k lk) ∙ p.values w (node_at c.bits k) (node_in k lk)
              ∙ ap (λ (f : ℕ → Bool). value c.net f (node_at c.bits k)) (sym (extended_at σ t xA xB u e))
          | inr ne ↦
              ap (λ (f : List BitNode). value netB w (node_at f k)) (old_frame u (omega arith))
              ∙ kept.same (node_at (get_or frames u []) k) w (b.are.nodes u k (let m = b.long in omega arith) lk)
              ∙ r.values u k (omega arith) lk
              ∙ ap (λ (f : ℕ → Bool). value c.net f (node_at c.bits k)) (sym (extended_before σ t xA xB u (omega arith)))
        ];
      }

  pub before_more : Before c setup start (t + 1) netB srcB more (frames ++ frame ∷ [])
  before_more = record {
    nodes = nodesB;
    count = g.count ∙ omega (arith, b.count, length-append (places c setup start t) (input_places setup t c.inputs), ap (λ (n : ℕ). length (places c setup start n)) (add-one t));
    has = λ i. p.has i ∙ g.has i;
    long = longer;
    are = now_are;
    reached = reach;
  }

pub before_start : (c : CycleNet) (setup : Fixed) (start : StartState) (old net : List Node) (sources : List ℕ) (leaves : ℕ) → Started start c.states old net sources leaves → Before c setup start 0 net sources leaves []
before_start c setup start old net sources leaves s = record {
  nodes = s.nodes;
  count = s.count;
  has = s.has;
  long = refl;
  are = record { long = λ u lt. absurd (omega arith); bits = λ u k lt lk. absurd (omega arith); nodes = λ u k lt lk. absurd (omega arith) };
  reached = λ w.
      let σ : Trace = λ u l. value net w (read_node sources l) in
      record {
        trace = σ;
        is_trace = record {
          fixed = λ u k v lt lk f. absurd (omega arith);
          steps = λ u k lt lk. absurd (omega arith);
          starts = λ k lk. s.starts w k lk;
        };
        now = λ k lk. refl;
        linked = λ u k e lk. absurd (omega arith);
        agree = s.agree w σ (λ k lk. refl);
        values = λ u k lt lk. absurd (omega arith);
      };
}

below_true : (i n : ℕ) → ltb i n ≡ true → i < n
below_true i n h = elim (cases_lt i n) [ inl lt ↦ lt | inr ge ↦ absurd (false≢true (sym (le-ltb i n ge) ∙ h)) ]

pub unrolled_end : (c : CycleNet) (setup : Fixed) (start : StartState) (t n : ℕ) (net : List Node) (sources : List ℕ) (leaves : ℕ) (frames : List (List BitNode)) → t ≡ n → length net ≤ 2 ^ 27 → Before c setup start t net sources leaves frames → IsUnrolled c setup n start (record { net = net; leaves = leaves; frames = frames })
unrolled_end c setup start t n net sources leaves frames e most b = record {
  count = b.long ∙ e;
  leaves = b.count ∙ ap (λ (m : ℕ). length (places c setup start m)) e;
  few = (let fit = leaves_fit leaves net (λ i lt. b.has i ∙ lt-ltb i leaves lt) in omega (arith, fit, most));
  has = b.has;
  below = has_below leaves net (λ i h. below_true i leaves (sym (b.has i) ∙ h));
  are = b.are;
  follows = λ w.
      let r = b.reached w in
      record {
        trace = r.trace;
        is_trace = subst (λ (m : ℕ). IsTrace c setup start m r.trace) (sym b.long) r.is_trace;
        agree = subst (λ (m : ℕ). Agree 0 (places c setup start m) w r.trace) (sym b.long) r.agree;
        values = λ u k lt lk. r.values u k (let m = b.long in omega arith) lk;
      };
}
