-- Two traces with the same leaf values are the same, so the frames follow each of them.
use Rattle.std.proofs.Common.{◌≡◌, ℕ, ◌+◌, ◌<◌, ◌≤◌, ◌||◌, Bool, true, false, cond, eqb, List, [], ◌∷◌, ◌++◌, length, get_or, arith, refl, sym, ap, subst, ◌∙◌, Option, Some, None, zero, suc, inl, inr}
use Rattle.std.proofs.lemmas.Bool.{cond-true, eq-eqb, cases_eq, eqb-true}
use Rattle.cyc_net.specs.declared.node.Node.{Node}
use Rattle.cyc_net.specs.declared.node.Node.TheVariants as node
use Rattle.cyc_net.specs.declared.cycle.BitLeaf.{BitLeaf}
use Rattle.cyc_net.specs.declared.cycle.CycleNet.{CycleNet}
use Rattle.cyc_net.specs.Nets.{value, has_leaf, is_leaf, gate_value, run, bit_at as done_at}
use Rattle.cyc_net.specs.Cycles.{IsCycleNet, times}
use Rattle.unroller.specs.declared.setup.Fixed.{Fixed}
use Rattle.unroller.specs.declared.setup.StartState.{StartState}
use Rattle.unroller.specs.declared.setup.StartState.TheVariants.{Free, PowerUp}
use Rattle.unroller.specs.declared.frames.Unrolled.{Unrolled}
use Rattle.cyc_net.specs.Cycles.{leaf_of, bit_of, node_at, next_of}
use Rattle.unroller.specs.Setups.{fixed_at, StartsAt, Trace, IsTrace, Place, state_places, free_place, input_places, places, Agree, IsUnrolled, FollowsAll}
use Rattle.unroller.proofs.FrameLaws.{Same}

agree_both : (n : ℕ) (ps : List Place) (w : ℕ → Bool) (σ τ : Trace) → Agree n ps w σ → Agree n ps w τ → Same σ τ ps
agree_both n [] w σ τ h k = tt
agree_both n (p ∷ ps) w σ τ h k = (sym h.0 ∙ k.0, agree_both (n + 1) ps w σ τ h.1 k.1)

same_front : (σ τ : Trace) (ps qs : List Place) → Same σ τ (ps ++ qs) → Same σ τ ps
same_front σ τ [] qs h = tt
same_front σ τ (p ∷ ps) qs h = (h.0, same_front σ τ ps qs h.1)

same_back : (σ τ : Trace) (ps qs : List Place) → Same σ τ (ps ++ qs) → Same σ τ qs
same_back σ τ [] qs h = h
same_back σ τ (p ∷ ps) qs h = same_back σ τ ps qs h.1

states_at : (σ τ : Trace) (ps : List BitLeaf) (k : ℕ) → k < length ps → Same σ τ (state_places Free ps) → σ 0 (leaf_of ps k) ≡ τ 0 (leaf_of ps k)
states_at σ τ [] k lt h = absurd (omega arith)
states_at σ τ (p ∷ ps) zero lt h = h.0
states_at σ τ (p ∷ ps) (suc k) lt h = states_at σ τ ps k (omega arith) h.1

free_rest : (σ τ : Trace) (o : Option Bool) (t l : ℕ) (rest : List Place) → Same σ τ (free_place o t l rest) → Same σ τ rest
free_rest σ τ None t l rest h = h.1
free_rest σ τ (Some v) t l rest h = h

free_first : (σ τ : Trace) (o : Option Bool) (t l : ℕ) (rest : List Place) → o ≡ None → Same σ τ (free_place o t l rest) → σ t l ≡ τ t l
free_first σ τ None t l rest e h = h.0
free_first σ τ (Some v) t l rest e h = absurd cc

inputs_at : (σ τ : Trace) (setup : Fixed) (t : ℕ) (ps : List BitLeaf) (k : ℕ) → k < length ps → fixed_at setup t (bit_of ps k) ≡ None → Same σ τ (input_places setup t ps) → σ t (leaf_of ps k) ≡ τ t (leaf_of ps k)
inputs_at σ τ setup t [] k lt e h = absurd (omega arith)
inputs_at σ τ setup t (p ∷ ps) zero lt e h = free_first σ τ (fixed_at setup t p.bit) t p.leaf (input_places setup t ps) e h
inputs_at σ τ setup t (p ∷ ps) (suc k) lt e h = inputs_at σ τ setup t ps k (omega arith) e (free_rest σ τ (fixed_at setup t p.bit) t p.leaf (input_places setup t ps) h)

inputs_same : (σ τ : Trace) (c : CycleNet) (setup : Fixed) (start : StartState) (n t : ℕ) → t < n → Same σ τ (places c setup start n) → Same σ τ (input_places setup t c.inputs)
inputs_same σ τ c setup start zero t lt h = absurd (omega arith)
inputs_same σ τ c setup start (suc n) t lt h =
    elim (cases_eq t n) [
      | inl e ↦ subst (λ (u : ℕ). Same σ τ (input_places setup u c.inputs)) (sym e) (same_back σ τ (places c setup start n) (input_places setup n c.inputs) h)
      | inr ne ↦ inputs_same σ τ c setup start n t (omega arith) (same_front σ τ (places c setup start n) (input_places setup n c.inputs) h)
    ]

states_same : (σ τ : Trace) (c : CycleNet) (setup : Fixed) (start : StartState) (n : ℕ) → Same σ τ (places c setup start n) → Same σ τ (state_places start c.states)
states_same σ τ c setup start zero h = h
states_same σ τ c setup start (suc n) h = states_same σ τ c setup start n (same_front σ τ (places c setup start n) (input_places setup n c.inputs) h)

-- a leaf that stands somewhere
found_by : (l : ℕ) (p : BitLeaf) (ps : List BitLeaf) (b : Bool) → eqb p.leaf l ≡ b → 1 ≤ cond b 1 0 + times l ps → (1 ≤ times l ps → (k : ℕ) × (k < length ps) × (leaf_of ps k ≡ l)) → (k : ℕ) × (k < length (p ∷ ps)) × (leaf_of (p ∷ ps) k ≡ l)
found_by l p ps true e h rest = (0, omega arith, eqb-true p.leaf l e)
found_by l p ps false e h rest = let r = rest (omega arith) in (suc r.0, (let lt = r.1 in omega arith), r.2)

found : (l : ℕ) (ps : List BitLeaf) → 1 ≤ times l ps → (k : ℕ) × (k < length ps) × (leaf_of ps k ≡ l)
found l [] h = absurd (omega arith)
found l (p ∷ ps) h = found_by l p ps (eqb p.leaf l) refl h (λ r. found l ps r)

or_left : (x y : Bool) → x ≡ true → (x || y) ≡ true
or_left x y h = ap (λ (b : Bool). b || y) h

or_right : (x y : Bool) → y ≡ true → (x || y) ≡ true
or_right true y h = refl
or_right false y h = h

gate_leaf : (u v : ℕ → Bool) (f : ℕ → Bool) (x : Node) → ((l : ℕ) → is_leaf l x ≡ true → u l ≡ v l) → gate_value u f x ≡ gate_value v f x
gate_leaf u v f (node.Const b) h = refl
gate_leaf u v f (node.Leaf i) h = h i (eq-eqb i i refl)
gate_leaf u v f (node.And a b) h = refl
gate_leaf u v f (node.Xor a b) h = refl
gate_leaf u v f (node.Mux c a b) h = refl

run_alike : (u v : ℕ → Bool) (done : List Bool) (net : List Node) → ((l : ℕ) → has_leaf net l ≡ true → u l ≡ v l) → run u done net ≡ run v done net
run_alike u v done [] h = refl
run_alike u v done (x ∷ xs) h =
    ap (λ (b : Bool). run u (done ++ b ∷ []) xs) (gate_leaf u v (done_at done) x (λ l e. h l (or_left (is_leaf l x) (has_leaf xs l) e)))
    ∙ run_alike u v (done ++ gate_value v (done_at done) x ∷ []) xs (λ l e. h l (or_right (is_leaf l x) (has_leaf xs l) e))

-- the values of a net depend on its leaves alone
value_alike : (net : List Node) (u v : ℕ → Bool) (n : ℕ) → ((l : ℕ) → has_leaf net l ≡ true → u l ≡ v l) → value net u n ≡ value net v n
unfolding value
value_alike net u v n h = ap (λ (bs : List Bool). get_or bs n false) (run_alike u v [] net h)

start_same : (start : StartState) (b : ℕ) (x y : Bool) → StartsAt start b x → StartsAt start b y → (start ≡ Free → x ≡ y) → x ≡ y
start_same Free b x y h k f = f refl
start_same (PowerUp values) b x y h k f = h ∙ sym k

input_same : (o : Option Bool) (x y : Bool) → ((b : Bool) → o ≡ Some b → x ≡ b) → ((b : Bool) → o ≡ Some b → y ≡ b) → (o ≡ None → x ≡ y) → x ≡ y
input_same None x y f g h = h refl
input_same (Some b) x y f g h = f b refl ∙ sym (g b refl)

module _ (c : CycleNet) (setup : Fixed) (start : StartState) (n : ℕ) (is : IsCycleNet c) (σ τ : Trace) (s : IsTrace c setup start n σ) (t : IsTrace c setup start n τ) (same : Same σ τ (places c setup start n)) where
  inputs_alike : (u k : ℕ) → u < n → k < length c.inputs → σ u (leaf_of c.inputs k) ≡ τ u (leaf_of c.inputs k)
  inputs_alike u k lt lk =
      input_same (fixed_at setup u (bit_of c.inputs k)) (σ u (leaf_of c.inputs k)) (τ u (leaf_of c.inputs k)) (λ b. s.fixed u k b lt lk) (λ b. t.fixed u k b lt lk)
      (λ e. inputs_at σ τ setup u c.inputs k lk e (inputs_same σ τ c setup start n u lt same))

  leaf_alike : (u : ℕ) → u < n → ((k : ℕ) → k < length c.states → σ u (leaf_of c.states k) ≡ τ u (leaf_of c.states k)) → (l : ℕ) → has_leaf c.net l ≡ true → σ u l ≡ τ u l
  leaf_alike u lt states l e =
      let one : times l c.inputs + times l c.states ≡ 1 = is.leaves l ∙ cond-true (has_leaf c.net l) 1 0 e in
      elim (cases_eq (times l c.inputs) 0) [
        | inl none ↦
            let r = found l c.states (omega arith) in
            ap (σ u) (sym r.2) ∙ states r.0 r.1 ∙ ap (τ u) r.2
        | inr some ↦
            let r = found l c.inputs (omega arith) in
            ap (σ u) (sym r.2) ∙ inputs_alike u r.0 lt r.1 ∙ ap (τ u) r.2
      ]

  states_alike : (u : ℕ) → u < n → (k : ℕ) → k < length c.states → σ u (leaf_of c.states k) ≡ τ u (leaf_of c.states k)
  states_alike zero lt k lk =
      start_same start (bit_of c.states k) (σ 0 (leaf_of c.states k)) (τ 0 (leaf_of c.states k)) (s.starts k lk) (t.starts k lk)
      (λ e. states_at σ τ c.states k lk (subst (λ (st : StartState). Same σ τ (state_places st c.states)) e (states_same σ τ c setup start n same)))
  states_alike (suc u) lt k lk =
      let b = next_of c.nexts (bit_of c.states k) in
      let more : u + 1 ≡ suc u = omega arith in
      ap (λ (m : ℕ). σ m (leaf_of c.states k)) (sym more) ∙ s.steps u k (omega arith) lk
      ∙ value_alike c.net (σ u) (τ u) b (leaf_alike u (omega arith) (states_alike u (omega arith)))
      ∙ sym (t.steps u k (omega arith) lk) ∙ ap (λ (m : ℕ). τ m (leaf_of c.states k)) more

  pub all_alike : (u m : ℕ) → u < n → value c.net (σ u) m ≡ value c.net (τ u) m
  all_alike u m lt = value_alike c.net (σ u) (τ u) m (leaf_alike u lt (states_alike u lt))

pub follows_all : (c : CycleNet) (setup : Fixed) (frames : ℕ) (start : StartState) (u : Unrolled) → IsCycleNet c → IsUnrolled c setup frames start u → FollowsAll c setup frames start u
follows_all c setup frames start u is h σ w s agree t k lt lk =
    let f = h.follows w in
    let τs : IsTrace c setup start frames f.trace = subst (λ (n : ℕ). IsTrace c setup start n f.trace) h.count f.is_trace in
    let τa : Agree 0 (places c setup start frames) w f.trace = subst (λ (n : ℕ). Agree 0 (places c setup start n) w f.trace) h.count f.agree in
    f.values t k (let e = h.count in omega arith) lk
    ∙ sym (all_alike c setup start frames is σ f.trace s τs (agree_both 0 (places c setup start frames) w σ f.trace agree τa) t (node_at c.bits k) lt)
