-- The parts of a frame.
use Rattle.std.proofs.Common.{◌≡◌, ℕ, ◌+◌, ◌<◌, ◌≤◌, ◌||◌, Bool, true, false, cond, eqb, ltb, List, [], ◌∷◌, ◌++◌, length, get_or, take, arith, refl, sym, ap, ap₂, subst, ◌∙◌, Option, Some, None, zero, suc, inl, inr, length-append}
use Rattle.std.proofs.lemmas.Bool.{cond-true, cond-false, eq-eqb, ne_eqb, cases_eq, cases_lt, lt-ltb, le-ltb}
use Rattle.std.proofs.lemmas.List.{take_more, get_or_default}
use Rattle.std.proofs.Math.Path.{fun_ext}
use Rattle.cyc_net.specs.declared.node.Node.{Node}
use Rattle.cyc_net.specs.declared.cycle.BitLeaf.{BitLeaf}
use Rattle.cyc_net.specs.Nets.{value, has_leaf, gate_value, ReadsBelow, AllRead, Extends}
use Rattle.cyc_net.specs.Cycles.{times}
use Rattle.cyc_net.proofs.NetLaws.{Extends-trans, gate_same, value_gate}
use Rattle.unroller.specs.declared.setup.Fixed.{Fixed}
use Rattle.unroller.specs.declared.setup.FixedBit.{FixedBit}
use Rattle.unroller.specs.declared.setup.StartState.TheVariants.{Free, PowerUp}
use Rattle.cyc_net.specs.Cycles.{no_leaf, leaf_of, bit_of}
use Rattle.unroller.specs.Setups.{fixed_at, value_of, is_one, Trace, Place, state_places, free_place, input_places, Agree}
use Rattle.unroller.specs.Steps.{Apart, Across, AreNodes, InputSays, Started, Given, Placing, Copied, Copying}
use Rattle.unroller.specs.Tables.{read_node}

pub agree_states : (n : ℕ) (ps : List BitLeaf) (w : ℕ → Bool) (σ : Trace) → ((k : ℕ) → k < length ps → w (n + k) ≡ σ 0 (leaf_of ps k)) → Agree n (state_places Free ps) w σ
agree_states n [] w σ h = tt
agree_states n (p ∷ ps) w σ h = (
  ap w (omega arith) ∙ h 0 (omega arith),
  agree_states (n + 1) ps w σ (λ k lt. ap w (omega arith) ∙ h (suc k) (omega arith)),
)

free_length : (ps : List BitLeaf) → length (state_places Free ps) ≡ length ps
free_length [] = refl
free_length (p ∷ ps) = ap suc (free_length ps)

none_length : (values : List FixedBit) (ps : List BitLeaf) → state_places (PowerUp values) ps ≡ []
none_length values [] = refl
none_length values (p ∷ ps) = refl

pub started_free : (states : List BitLeaf) (old new : List Node) (sources : List ℕ) (leaves i : ℕ) → i ≡ length states → Extends old new → AreNodes new sources → leaves ≡ i → ((x : ℕ) → has_leaf new x ≡ ltb x leaves) → ((w : ℕ → Bool) (k : ℕ) → k < i → value new w (read_node sources (leaf_of states k)) ≡ w k) → Started Free states old new sources leaves
started_free states old new sources leaves i e kept nodes count has values = record {
  kept = kept;
  nodes = nodes;
  count = count ∙ e ∙ sym (free_length states);
  has = has;
  agree = λ w σ h. agree_states 0 states w σ (λ k lt. ap w (omega arith) ∙ sym (values w k (omega arith)) ∙ sym (h k lt));
  starts = λ w k lt. tt;
}

pub started_power : (values : List FixedBit) (states : List BitLeaf) (net : List Node) (sources : List ℕ) (i : ℕ) → i ≡ length states → AreNodes net sources → ((x : ℕ) → has_leaf net x ≡ false) → ((w : ℕ → Bool) (k : ℕ) → k < i → value net w (read_node sources (leaf_of states k)) ≡ is_one (value_of values (bit_of states k))) → Started (PowerUp values) states net net sources 0
started_power values states net sources i e nodes none says = record {
  kept = record { longer = omega arith; same = λ n v h. refl };
  nodes = nodes;
  count = ap length (sym (none_length values states));
  has = λ x. none x ∙ sym (le-ltb x 0 (omega arith));
  agree = λ w σ h. subst (λ (ps : List Place). Agree 0 ps w σ) (sym (none_length values states)) tt;
  starts = λ w k lt. says w k (omega arith);
}

leaf_here : (ps : List BitLeaf) (i : ℕ) (p : BitLeaf) → i < length ps → p ≡ get_or ps i p → leaf_of ps i ≡ p.leaf
leaf_here ps i p lt is = ap (λ (q : BitLeaf). q.leaf) (get_or_default ps i no_leaf p lt ∙ sym is)

bit_here : (ps : List BitLeaf) (i : ℕ) (p : BitLeaf) → i < length ps → p ≡ get_or ps i p → bit_of ps i ≡ p.bit
bit_here ps i p lt is = ap (λ (q : BitLeaf). q.bit) (get_or_default ps i no_leaf p lt ∙ sym is)

free_by : (o : Option Bool) (t l : ℕ) (rest more : List Place) → length rest ≡ length more + 1 → length (free_place o t l rest) ≡ length (free_place o t l more) + 1
free_by None t l rest more e = ap suc e ∙ omega arith
free_by (Some v) t l rest more e = e

free_same : (o : Option Bool) (t l : ℕ) (rest more : List Place) → length rest ≡ length more → length (free_place o t l rest) ≡ length (free_place o t l more)
free_same None t l rest more e = ap suc e
free_same (Some v) t l rest more e = e

places_free : (setup : Fixed) (t : ℕ) (ps : List BitLeaf) (p : BitLeaf) → fixed_at setup t p.bit ≡ None → length (input_places setup t (ps ++ p ∷ [])) ≡ length (input_places setup t ps) + 1
places_free setup t [] p e = ap (λ (o : Option Bool). length (free_place o t p.leaf [])) e
places_free setup t (q ∷ qs) p e = free_by (fixed_at setup t q.bit) t q.leaf (input_places setup t (qs ++ p ∷ [])) (input_places setup t qs) (places_free setup t qs p e)

places_fixed : (setup : Fixed) (t : ℕ) (ps : List BitLeaf) (p : BitLeaf) (v : Bool) → fixed_at setup t p.bit ≡ Some v → length (input_places setup t (ps ++ p ∷ [])) ≡ length (input_places setup t ps)
places_fixed setup t [] p v e = ap (λ (o : Option Bool). length (free_place o t p.leaf [])) e
places_fixed setup t (q ∷ qs) p v e = free_same (fixed_at setup t q.bit) t q.leaf (input_places setup t (qs ++ p ∷ [])) (input_places setup t qs) (places_fixed setup t qs p v e)

below_next : (x n : ℕ) → (ltb x n || eqb x n) ≡ ltb x (n + 1)
below_next x n =
    elim (cases_lt x n) [
      | inl lt ↦ ap (λ (b : Bool). b || eqb x n) (lt-ltb x n lt) ∙ sym (lt-ltb x (n + 1) (omega arith))
      | inr ge ↦ elim (cases_eq x n) [
        | inl e ↦ ap₂ (λ (a b : Bool). a || b) (le-ltb x n ge) (eq-eqb x n e) ∙ sym (lt-ltb x (n + 1) (omega arith))
        | inr ne ↦ ap₂ (λ (a b : Bool). a || b) (le-ltb x n ge) (ne_eqb x n ne) ∙ sym (le-ltb x (n + 1) (omega arith))
      ]
    ]

module _ (setup : Fixed) (t : ℕ) (inputs : List BitLeaf) (i : ℕ) (p : BitLeaf) (lt : i < length inputs) (is : p ≡ get_or inputs i p) (apart : Apart inputs)
    (old net net' : List Node) (before sources sources' : List ℕ) (first leaves next at : ℕ) (done : Placing setup t inputs i old before first net sources leaves)
    (kept : Extends net net') (within : at < length net') (put : (b : ℕ) → read_node sources' b ≡ cond (eqb b p.leaf) at (read_node sources b)) where
  here : leaf_of inputs i ≡ p.leaf
  here = leaf_here inputs i p lt is

  source_here : read_node sources' (leaf_of inputs i) ≡ at
  source_here = put (leaf_of inputs i) ∙ cond-true (eqb (leaf_of inputs i) p.leaf) at (read_node sources (leaf_of inputs i)) (eq-eqb (leaf_of inputs i) p.leaf here)

  source_other : (l : ℕ) → (l ≡ p.leaf → ⊥) → read_node sources' l ≡ read_node sources l
  source_other l ne = put l ∙ cond-false (eqb l p.leaf) at (read_node sources l) (ne_eqb l p.leaf ne)

  source_before : (k : ℕ) → k < i → read_node sources' (leaf_of inputs k) ≡ read_node sources (leaf_of inputs k)
  source_before k less = source_other (leaf_of inputs k) (λ e. apart k i less lt (e ∙ sym here))

  value_before : (w : ℕ → Bool) (k : ℕ) → k < i → value net' w (read_node sources' (leaf_of inputs k)) ≡ value net w (read_node sources (leaf_of inputs k))
  value_before w k less = ap (value net' w) (source_before k less) ∙ kept.same (read_node sources (leaf_of inputs k)) w (done.nodes (leaf_of inputs k))

  still_nodes : AreNodes net' sources'
  still_nodes l =
      elim (cases_eq l p.leaf) [
        | inl e ↦ subst (λ (n : ℕ). n < length net') (sym (put l ∙ cond-true (eqb l p.leaf) at (read_node sources l) (eq-eqb l p.leaf e))) within
        | inr ne ↦ subst (λ (n : ℕ). n < length net') (sym (source_other l ne)) (let a = done.nodes l in let b = kept.longer in omega arith)
      ]

  still_others : (l : ℕ) → ((k : ℕ) → k < i + 1 → leaf_of inputs k ≡ l → ⊥) → read_node sources' l ≡ read_node before l
  still_others l h = source_other l (λ e. h i (omega arith) (here ∙ sym e)) ∙ done.others l (λ k less. h k (omega arith))

  taken : take (i + 1) inputs ≡ take i inputs ++ p ∷ []
  taken = take_more inputs i p lt ∙ ap (λ (q : BitLeaf). take i inputs ++ q ∷ []) (sym is)

  up_to : {P : ℕ → Type 0} → ((k : ℕ) → k < i → P k) → P i → (k : ℕ) → k < i + 1 → P k
  up_to {P} f x k less = elim (cases_eq k i) [ inl e ↦ subst P (sym e) x | inr ne ↦ f k (omega arith) ]

  some_is_none : {A : Type 0} (v : Bool) → ◌≡◌ {A = Option Bool} (Some v) None → A
  some_is_none v e = absurd cc

  same_some : (v b : Bool) → ◌≡◌ {A = Option Bool} (Some v) (Some b) → v ≡ b
  same_some v b e = cc

  pub placed_by : (o : Option Bool) → o ≡ fixed_at setup t p.bit → InputSays o leaves net net' at next → Placing setup t inputs (i + 1) old before first net' sources' next
  placed_by (Some v) e says =
      let fix : fixed_at setup t (bit_of inputs i) ≡ Some v = ap (fixed_at setup t) (bit_here inputs i p lt is) ∙ sym e in
      record {
        kept = Extends-trans old net net' done.kept kept;
        nodes = still_nodes;
        count = says.1 ∙ done.count ∙ ap (λ (n : ℕ). first + n) (sym (ap (λ (ps : List BitLeaf). length (input_places setup t ps)) taken ∙ places_fixed setup t (take i inputs) p v (sym e)));
        has = λ x. says.2 x ∙ done.has x ∙ ap (ltb x) (sym says.1);
        others = still_others;
        fixed = λ w k b less. up_to {P = λ k. fixed_at setup t (bit_of inputs k) ≡ Some b → value net' w (read_node sources' (leaf_of inputs k)) ≡ b}
            (λ k' l' f. value_before w k' l' ∙ done.fixed w k' b l' f)
            (λ f. ap (value net' w) source_here ∙ says.0 w ∙ same_some v b (sym fix ∙ f)) k less;
        free = λ w k less. up_to {P = λ k. fixed_at setup t (bit_of inputs k) ≡ None → value net' w (read_node sources' (leaf_of inputs k)) ≡ w (first + length (input_places setup t (take k inputs)))}
            (λ k' l' f. value_before w k' l' ∙ done.free w k' l' f)
            (λ f. some_is_none v (sym fix ∙ f)) k less;
      }
  placed_by None e says =
      let fix : fixed_at setup t (bit_of inputs i) ≡ None = ap (fixed_at setup t) (bit_here inputs i p lt is) ∙ sym e in
      record {
        kept = Extends-trans old net net' done.kept kept;
        nodes = still_nodes;
        count = says.1 ∙ omega (arith, done.count, ap (λ (ps : List BitLeaf). length (input_places setup t ps)) taken, places_free setup t (take i inputs) p (sym e));
        has = λ x. says.2 x ∙ ap (λ (b : Bool). b || eqb x leaves) (done.has x) ∙ below_next x leaves ∙ ap (ltb x) (sym says.1);
        others = still_others;
        fixed = λ w k b less. up_to {P = λ k. fixed_at setup t (bit_of inputs k) ≡ Some b → value net' w (read_node sources' (leaf_of inputs k)) ≡ b}
            (λ k' l' f. value_before w k' l' ∙ done.fixed w k' b l' f)
            (λ f. some_is_none b (sym f ∙ fix)) k less;
        free = λ w k less. up_to {P = λ k. fixed_at setup t (bit_of inputs k) ≡ None → value net' w (read_node sources' (leaf_of inputs k)) ≡ w (first + length (input_places setup t (take k inputs)))}
            (λ k' l' f. value_before w k' l' ∙ done.free w k' l' f)
            (λ f. ap (value net' w) source_here ∙ says.0 w ∙ ap w done.count) k less;
      }

pub placing_start : (setup : Fixed) (t : ℕ) (inputs : List BitLeaf) (net : List Node) (sources : List ℕ) (first : ℕ) → AreNodes net sources → ((x : ℕ) → has_leaf net x ≡ ltb x first) → Placing setup t inputs 0 net sources first net sources first
placing_start setup t inputs net sources first nodes has = record {
  kept = record { longer = omega arith; same = λ n v h. refl };
  nodes = nodes;
  count = omega arith;
  has = has;
  others = λ l h. refl;
  fixed = λ w k b lt. absurd (omega arith);
  free = λ w k lt. absurd (omega arith);
}

pub placing_end : (setup : Fixed) (t : ℕ) (inputs : List BitLeaf) (i : ℕ) (old new : List Node) (before after : List ℕ) (first leaves : ℕ) → i ≡ length inputs → take i inputs ≡ inputs → Placing setup t inputs i old before first new after leaves → Given setup t inputs old before first new after leaves
placing_end setup t inputs i old new before after first leaves e whole g = record {
  kept = g.kept;
  nodes = g.nodes;
  count = g.count ∙ ap (λ (ps : List BitLeaf). first + length (input_places setup t ps)) whole;
  has = g.has;
  others = λ l h. g.others l (λ k lt. h k (omega arith));
  fixed = λ w k b lt. g.fixed w k b (omega arith);
  free = λ w k lt. g.free w k (omega arith);
}

-- a gate over other leaves and nodes of the same values
gate_alike : (u v f g : ℕ → Bool) (n : ℕ) (x : Node) → ((l : ℕ) → u l ≡ v l) → ReadsBelow n x → ((k : ℕ) → k < n → f k ≡ g k) → gate_value u f x ≡ gate_value v g x
gate_alike u v f g n x same r h = ap (λ (y : ℕ → Bool). gate_value y f x) (fun_ext same) ∙ gate_same v f g n x r h

read_last : (xs : List ℕ) (x n : ℕ) → n ≡ length xs → read_node (xs ++ x ∷ []) n ≡ x
read_last [] x n e = ap (read_node (x ∷ [])) e
read_last (y ∷ ys) x zero e = absurd (omega arith)
read_last (y ∷ ys) x (suc n) e = read_last ys x n (omega arith)

read_front : (xs : List ℕ) (x n : ℕ) → (n ≡ length xs → ⊥) → read_node (xs ++ x ∷ []) n ≡ read_node xs n
read_front [] x zero ne = absurd (ne refl)
read_front [] x (suc n) ne = refl
read_front (y ∷ ys) x zero ne = refl
read_front (y ∷ ys) x (suc n) ne = read_front ys x n (λ e. ne (omega arith))

pub copying_more : (cycle old net net' : List Node) (sources copies copies' : List ℕ) (i at : ℕ) (x d : Node) → AllRead 0 cycle → i < length cycle → x ≡ get_or cycle i x → ReadsBelow i x → AreNodes old sources → Copying cycle i old sources net copies → Extends net net' → at < length net'
    → ((w : ℕ → Bool) → value net' w at ≡ gate_value (λ l. value net w (read_node sources l)) (λ k. value net w (read_node copies k)) x)
    → ((y : ℕ) → has_leaf net' y ≡ has_leaf net y) → copies' ≡ copies ++ at ∷ [] → Copying cycle (i + 1) old sources net' copies'
copying_more cycle old net net' sources copies copies' i at x d all lt is below nodes c kept within worth has e =
    let other : (n : ℕ) → (n ≡ length copies → ⊥) → read_node copies' n ≡ read_node copies n = λ n ne. ap (λ (xs : List ℕ). read_node xs n) e ∙ read_front copies at n ne in
    let last : (n : ℕ) → n ≡ length copies → read_node copies' n ≡ at = λ n h. ap (λ (xs : List ℕ). read_node xs n) e ∙ read_last copies at n h in
    record {
      kept = Extends-trans old net net' c.kept kept;
      nodes = λ n. elim (cases_eq n (length copies)) [
        | inl h ↦ subst (λ (m : ℕ). m < length net') (sym (last n h)) within
        | inr ne ↦ subst (λ (m : ℕ). m < length net') (sym (other n ne)) (let a = c.nodes n in let b = kept.longer in omega arith)
      ];
      has = λ y. has y ∙ c.has y;
      long = omega (arith, ap length e, length-append copies (at ∷ []), c.long);
      values = λ w k less. elim (cases_eq k i) [
        | inl h ↦
            let v : ℕ → Bool = λ l. value old w (read_node sources l) in
            ap (value net' w) (last k (h ∙ sym c.long)) ∙ worth w
            ∙ gate_alike (λ l. value net w (read_node sources l)) v (λ j. value net w (read_node copies j)) (value cycle v) i x
            (λ l. c.kept.same (read_node sources l) w (nodes l)) below (λ j lt'. c.values w j lt')
            ∙ ap (gate_value v (value cycle v)) is
            ∙ sym (value_gate cycle v i x all lt)
            ∙ ap (value cycle v) (sym h)
        | inr ne ↦ ap (value net' w) (other k (λ h. ne (h ∙ c.long))) ∙ kept.same (read_node copies k) w (c.nodes k) ∙ c.values w k (omega arith)
      ];
    }

pub copying_start : (cycle net : List Node) (sources : List ℕ) → 2 ≤ length net → Copying cycle 0 net sources net []
copying_start cycle net sources two = record {
  kept = record { longer = omega arith; same = λ n v h. refl };
  nodes = λ n. omega arith;
  has = λ x. refl;
  long = refl;
  values = λ w k lt. absurd (omega arith);
}

pub copying_end : (cycle old new : List Node) (sources copies : List ℕ) (i : ℕ) → length cycle ≤ i → Copying cycle i old sources new copies → Copied cycle old sources new copies
copying_end cycle old new sources copies i le c = record { kept = c.kept; nodes = c.nodes; has = c.has; values = λ w k lt. c.values w k (omega arith) }

-- leaves that stand once stand apart
times_one : (ps : List BitLeaf) (k : ℕ) → k < length ps → 1 ≤ times (leaf_of ps k) ps
times_one [] k lt = absurd (omega arith)
times_one (p ∷ ps) zero lt = let e : cond {A = ℕ} (eqb p.leaf p.leaf) 1 0 ≡ 1 = cond-true (eqb p.leaf p.leaf) 1 0 (eq-eqb p.leaf p.leaf refl) in omega arith
times_one (p ∷ ps) (suc k) lt = let h = times_one ps k (omega arith) in omega arith

times_two : (ps : List BitLeaf) (j k : ℕ) → j < k → k < length ps → leaf_of ps j ≡ leaf_of ps k → 2 ≤ times (leaf_of ps k) ps
times_two [] j k less lt e = absurd (omega arith)
times_two (p ∷ ps) j zero less lt e = absurd (omega arith)
times_two (p ∷ ps) zero (suc k) less lt e =
    let h = times_one ps k (omega arith) in
    let one : cond {A = ℕ} (eqb p.leaf (leaf_of ps k)) 1 0 ≡ 1 = cond-true (eqb p.leaf (leaf_of ps k)) 1 0 (eq-eqb p.leaf (leaf_of ps k) e) in
    omega arith
times_two (p ∷ ps) (suc j) (suc k) less lt e = let h = times_two ps j k (omega arith) (omega arith) e in omega arith

one_or_none : (b : Bool) → cond b 1 0 ≤ 1
one_or_none true = omega arith
one_or_none false = omega arith

pub at_most_one : (net : List Node) (ps qs : List BitLeaf) → ((i : ℕ) → times i ps + times i qs ≡ cond (has_leaf net i) 1 0) → (i : ℕ) → times i ps + times i qs ≤ 1
at_most_one net ps qs h i = let e = h i in let o = one_or_none (has_leaf net i) in omega arith

pub apart_by : (ps : List BitLeaf) → ((i : ℕ) → times i ps ≤ 1) → Apart ps
apart_by ps h j k less lt e = let a = times_two ps j k less lt e in let b = h (leaf_of ps k) in omega arith

pub apart_first : (net : List Node) (ps qs : List BitLeaf) → ((i : ℕ) → times i ps + times i qs ≡ cond (has_leaf net i) 1 0) → Apart ps
apart_first net ps qs h = apart_by ps (λ i. let m = at_most_one net ps qs h i in omega arith)

pub apart_second : (net : List Node) (ps qs : List BitLeaf) → ((i : ℕ) → times i ps + times i qs ≡ cond (has_leaf net i) 1 0) → Apart qs
apart_second net ps qs h = apart_by qs (λ i. let m = at_most_one net ps qs h i in omega arith)

pub across_by : (ps qs : List BitLeaf) → ((i : ℕ) → times i ps + times i qs ≤ 1) → Across ps qs
across_by ps qs h j k lj lk e =
    let a = times_one ps j lj in let b = times_one qs k lk in
    let c = subst (λ (i : ℕ). 1 ≤ times i ps) e a in
    let d = h (leaf_of qs k) in omega arith
