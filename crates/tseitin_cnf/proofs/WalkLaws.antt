-- The walk over the nodes gives a gate formula with the values of the net.
use Rattle.std.proofs.Common.{◌≡◌, ℕ, ◌+◌, ◌*◌, ◌<◌, ◌≤◌, ◌^◌, Bool, true, false, not, cond, eqb, ◌||◌, ◌&&◌, List, [], ◌∷◌, ◌++◌, length, get_or, set, take, arith, refl, sym, ap, ap₂, subst, ◌∙◌, inl, inr, append_assoc, get_or-set_same, get_or-set_other, length-append, length-take-le}
use Rattle.std.proofs.lemmas.Bool.{cond-true, cond-false, eq-eqb, ne_eqb, cases_eq}
use Rattle.std.proofs.lemmas.List.{append-nil, take_more}
use mathlib.Core.Bool.{beq}
use Rattle.cyc_net.specs.declared.node.Node.{Node}
use Rattle.cyc_net.specs.declared.node.Node.TheVariants as node
use Rattle.cyc_net.specs.Nets as nets
use Rattle.cyc_net.specs.Nets.{value, ReadsBelow, AllRead, LeafBelow, LeavesBelow}
use Rattle.cyc_net.proofs.NetLaws.{value_gate, leaf_at}
use Rattle.cnf_core.specs.declared.lit.Lit.{Lit}
use Rattle.cnf_core.specs.declared.gate.Gate.{Gate}
use Rattle.cnf_core.specs.declared.gate.Gate.TheVariants as gate
use Rattle.cnf_core.specs.Gates.{gate_clauses, gate_value, IsInput, InputsBelow, gates_clauses, AllInputsBelow, with_value, extended, IsGateFormula}
use Rattle.cnf_core.specs.Lit.{literal_of}
use Rattle.tseitin_cnf.proofs.ReadLaws.{goal_read}
use Rattle.tseitin_cnf.specs.Encoding.{Walk, begin, named, with_leaf, with_gate, with_node, walk, leaf_values, reads_node, IsReadClosed, IsReadSet, IsEncoded}
use Rattle.tseitin_cnf.specs.Tracks.{numbers, Tracks, Good, IsNamed, InputsNamed}

gates_clauses-snoc : (n : ℕ) (gs : List Gate) (g : Gate) → gates_clauses n (gs ++ g ∷ []) ≡ gates_clauses n gs ++ gate_clauses (n + length gs + 1) g
gates_clauses-snoc n [] g = append-nil (gate_clauses (n + 1) g) ∙ ap (λ (k : ℕ). gate_clauses k g) (omega arith)
gates_clauses-snoc n (h ∷ gs) g =
    ap (λ (cs : List (List Lit)). gate_clauses (n + 1) h ++ cs) (gates_clauses-snoc (n + 1) gs g ∙ ap (λ (k : ℕ). gates_clauses (n + 1) gs ++ gate_clauses k g) (omega arith))
    ∙ sym (append_assoc (gate_clauses (n + 1) h) (gates_clauses (n + 1) gs) (gate_clauses (n + length (h ∷ gs) + 1) g))

extended-snoc : (w : ℕ → Bool) (n : ℕ) (gs : List Gate) (g : Gate) → extended w n (gs ++ g ∷ []) ≡ with_value (extended w n gs) (n + length gs + 1) (gate_value (extended w n gs) g)
extended-snoc w n [] g = ap (λ (k : ℕ). with_value w k (gate_value w g)) (omega arith)
extended-snoc w n (h ∷ gs) g =
    let u = with_value w (n + 1) (gate_value w h) in
    extended-snoc u (n + 1) gs g ∙ ap (λ (k : ℕ). with_value (extended u (n + 1) gs) k (gate_value (extended u (n + 1) gs) g)) (omega arith)

inputs-snoc : (n : ℕ) (gs : List Gate) (g : Gate) → AllInputsBelow n gs → InputsBelow (n + length gs + 1) g → AllInputsBelow n (gs ++ g ∷ [])
inputs-snoc n [] g all i = (subst (λ (k : ℕ). InputsBelow k g) (omega arith) i, tt)
inputs-snoc n (h ∷ gs) g all i = (all.0, inputs-snoc (n + 1) gs g all.1 (subst (λ (k : ℕ). InputsBelow k g) (omega arith) i))

value_other : (w : ℕ → Bool) (v : ℕ) (b : Bool) (x : ℕ) → (x ≡ v → ⊥) → with_value w v b x ≡ w x
value_other w v b x ne = cond-false (eqb x v) b (w x) (ne_eqb x v ne)

value_same : (w : ℕ → Bool) (v : ℕ) (b : Bool) → with_value w v b v ≡ b
value_same w v b = cond-true (eqb v v) b (w v) (eq-eqb v v refl)

extended_leaf : (w : ℕ → Bool) (n : ℕ) (gs : List Gate) (x : ℕ) → x ≤ n → extended w n gs x ≡ w x
extended_leaf w n [] x le = refl
extended_leaf w n (g ∷ gs) x le = extended_leaf (with_value w (n + 1) (gate_value w g)) (n + 1) gs x (omega arith) ∙ value_other w (n + 1) (gate_value w g) x (λ e. omega arith)

pub walk-snoc : (read : ℕ → Bool) (n : ℕ) (s : Walk) (xs : List Node) (x : Node) → walk read n s (xs ++ x ∷ []) ≡ cond (read (n + length xs)) (with_node (walk read n s xs) (n + length xs) x) (walk read n s xs)
walk-snoc read n s [] x = ap (λ (k : ℕ). cond (read k) (with_node s k x) s) (omega arith)
walk-snoc read n s (y ∷ ys) x =
    let t = cond (read n) (with_node s n y) s in
    walk-snoc read (n + 1) t ys x ∙ ap (λ (k : ℕ). cond (read k) (with_node (walk read (n + 1) t ys) k x) (walk read (n + 1) t ys)) (omega arith)

numbers-set : (xs : List ℕ) (at x n : ℕ) → at < length xs → numbers (set xs at x) n ≡ cond (eqb n at) x (numbers xs n)
numbers-set xs at x n lt =
    elim (cases_eq n at) [
      | inl e ↦ ap (λ (k : ℕ). get_or (set xs at x) k 0) e ∙ get_or-set_same xs at x 0 lt ∙ sym (cond-true (eqb n at) x (numbers xs n) (eq-eqb n at e))
      | inr ne ↦ get_or-set_other xs at n x 0 ne ∙ sym (cond-false (eqb n at) x (numbers xs n) (ne_eqb n at ne))
    ]

named_by : (s : Walk) (xs : List ℕ) (at x : ℕ) → at < length xs → ((n : ℕ) → numbers xs n ≡ s.variable n) → (n : ℕ) → numbers (set xs at x) n ≡ named s at x n
named_by s xs at x lt h n = numbers-set xs at x n lt ∙ ap (cond (eqb n at) x) (h n)

pub tracks_leaf : (leaves : ℕ) (s : Walk) (xs : List ℕ) (last : ℕ) (clauses : List (List Lit)) (at i : ℕ) → at < length xs → Tracks leaves s xs last clauses → Tracks leaves (with_leaf s at i) (set xs at (i + 1)) last clauses
tracks_leaf leaves s xs last clauses at i lt t = record {
  variable = named_by s xs at (i + 1) lt t.variable;
  last_is = t.last_is;
  count = t.count;
  clauses_are = t.clauses_are;
}

pub tracks_gate : (leaves : ℕ) (s : Walk) (xs : List ℕ) (last : ℕ) (clauses new : List (List Lit)) (at : ℕ) (g h : Gate) → at < length xs → Tracks leaves s xs last clauses → g ≡ h → new ≡ clauses ++ gate_clauses (last + 1) g → Tracks leaves (with_gate s at h) (set xs at (last + 1)) (last + 1) new
tracks_gate leaves s xs last clauses new at g h lt t e is = record {
  variable = λ n. named_by s xs at (last + 1) lt t.variable n ∙ ap (λ (k : ℕ). named s at (k + 1) n) (sym t.last_is);
  last_is = ap (λ (k : ℕ). k + 1) t.last_is;
  count = omega (arith, t.count, length-append s.gates (h ∷ []));
  clauses_are = is ∙ ap₂ (λ (cs : List (List Lit)) (k : Gate). cs ++ gate_clauses (last + 1) k) t.clauses_are e
      ∙ ap (λ (k : ℕ). gates_clauses leaves s.gates ++ gate_clauses k h) (omega (arith, t.count, t.last_is)) ∙ sym (gates_clauses-snoc leaves s.gates h);
}

-- one more node keeps what is good
module _ (net : List Node) (read : ℕ → Bool) (leaves k : ℕ) (s : Walk) (all : AllRead 0 net) (g : Good net read leaves k s) (lt : k < length net) where
  below_or_here : {P : ℕ → Type 0} → ((m : ℕ) → m < k → P m) → P k → (m : ℕ) → m < k + 1 → P m
  below_or_here {P} f here m le =
      elim (cases_eq m k) [
        | inl e ↦ subst P (sym e) here
        | inr ne ↦ f m (omega arith)
      ]

  named_here : (x : ℕ) → named s k x k ≡ x
  named_here x = cond-true (eqb k k) x (s.variable k) (eq-eqb k k refl)

  named_other : (x m : ℕ) → m < k → named s k x m ≡ s.variable m
  named_other x m lt' = cond-false (eqb m k) x (s.variable m) (ne_eqb m k (λ e. omega arith))

  pub good_skip : read k ≡ false → Good net read leaves (k + 1) s
  good_skip off = record {
    count = g.count;
    few = let f = g.few in omega arith;
    inputs = g.inputs;
    given = λ m le r. below_or_here {P = λ m. read m ≡ true → (1 ≤ s.variable m) × (s.variable m ≤ s.last)} g.given (λ r'. absurd cc) m le r;
    values = λ w m le r. below_or_here {P = λ m. read m ≡ true → extended w leaves s.gates (s.variable m) ≡ value net (leaf_values w) m} (g.values w) (λ r'. absurd cc) m le r;
  }

  pub good_leaf : (i : ℕ) → get_or net k (node.Leaf i) ≡ node.Leaf i → i < leaves → Good net read leaves (k + 1) (with_leaf s k i)
  good_leaf i is lti = record {
    count = g.count;
    few = let f = g.few in omega arith;
    inputs = g.inputs;
    given = below_or_here {P = λ m. read m ≡ true → (1 ≤ named s k (i + 1) m) × (named s k (i + 1) m ≤ s.last)}
        (λ m lt' r. let o = named_other (i + 1) m lt' in let p = g.given m lt' r in (let a = p.0 in omega arith, let b = p.1 in omega arith))
        (λ r. let h = named_here (i + 1) in (omega arith, omega (arith, g.count)));
    values = λ w. below_or_here {P = λ m. read m ≡ true → extended w leaves s.gates (named s k (i + 1) m) ≡ value net (leaf_values w) m}
        (λ m lt' r. ap (extended w leaves s.gates) (named_other (i + 1) m lt') ∙ g.values w m lt' r)
        (λ r. ap (extended w leaves s.gates) (named_here (i + 1)) ∙ extended_leaf w leaves s.gates (i + 1) (omega arith)
        ∙ sym (value_gate net (leaf_values w) k (node.Leaf i) all lt ∙ ap (nets.gate_value (leaf_values w) (value net (leaf_values w))) is));
  }

  pub good_gate : (h : Gate) → InputsBelow (s.last + 1) h → ((w : ℕ → Bool) → gate_value (extended w leaves s.gates) h ≡ value net (leaf_values w) k) → Good net read leaves (k + 1) (with_gate s k h)
  good_gate h below is = record {
    count = omega (arith, g.count, length-append s.gates (h ∷ []));
    few = let f = g.few in omega (arith, length-append s.gates (h ∷ []));
    inputs = inputs-snoc leaves s.gates h g.inputs (subst (λ (n : ℕ). InputsBelow n h) (let c = g.count in omega arith) below);
    given = below_or_here {P = λ m. read m ≡ true → (1 ≤ named s k (s.last + 1) m) × (named s k (s.last + 1) m ≤ s.last + 1)}
        (λ m lt' r. let o = named_other (s.last + 1) m lt' in let p = g.given m lt' r in (let a = p.0 in omega arith, let b = p.1 in omega arith))
        (λ r. let e = named_here (s.last + 1) in (omega arith, omega arith));
    values = λ w.
        let snoc = extended-snoc w leaves s.gates h in
        let here : leaves + length s.gates + 1 ≡ s.last + 1 = let c = g.count in omega arith in
        below_or_here {P = λ m. read m ≡ true → extended w leaves (s.gates ++ h ∷ []) (named s k (s.last + 1) m) ≡ value net (leaf_values w) m}
        (λ m lt' r.
        let p = g.given m lt' r in
        ap (λ (u : ℕ → Bool). u (named s k (s.last + 1) m)) snoc
        ∙ ap (with_value (extended w leaves s.gates) (leaves + length s.gates + 1) (gate_value (extended w leaves s.gates) h)) (named_other (s.last + 1) m lt')
        ∙ value_other (extended w leaves s.gates) (leaves + length s.gates + 1) (gate_value (extended w leaves s.gates) h) (s.variable m) (λ e. let b = p.1 in omega arith)
        ∙ g.values w m lt' r)
        (λ r.
        ap (λ (u : ℕ → Bool). u (named s k (s.last + 1) k)) snoc
        ∙ ap (with_value (extended w leaves s.gates) (leaves + length s.gates + 1) (gate_value (extended w leaves s.gates) h)) (named_here (s.last + 1) ∙ sym here)
        ∙ value_same (extended w leaves s.gates) (leaves + length s.gates + 1) (gate_value (extended w leaves s.gates) h)
        ∙ is w);
  }

eqb_on : (a : ℕ) → eqb a a ≡ true
eqb_on a = eq-eqb a a refl

or_first : (x y : Bool) → x ≡ true → (x || y) ≡ true
or_first x y h = ap (λ (b : Bool). b || y) h

or_second : (x y : Bool) → y ≡ true → (x || y) ≡ true
or_second true y h = refl
or_second false y h = h

module _ (net : List Node) (read : ℕ → Bool) (leaves k : ℕ) (s : Walk) (all : AllRead 0 net) (closed : IsReadClosed net read) (g : Good net read leaves k s) (lt : k < length net) (on : read k ≡ true) where
  input_given : (x : Node) (a : ℕ) → get_or net k x ≡ x → a < k → reads_node x a ≡ true → read a ≡ true
  input_given x a is below t = closed k a x lt on (ap (λ (y : Node). reads_node y a) is ∙ t)

  is_variable : (a : ℕ) → a < k → read a ≡ true → IsInput (s.last + 1) (s.variable a)
  is_variable a below r = let p = g.given a below r in (p.0, let q = p.1 in omega arith)

  node_value : (w : ℕ → Bool) (x : Node) → get_or net k x ≡ x → value net (leaf_values w) k ≡ nets.gate_value (leaf_values w) (value net (leaf_values w)) x
  node_value w x is = value_gate net (leaf_values w) k x all lt ∙ ap (nets.gate_value (leaf_values w) (value net (leaf_values w))) is

  pub good_node : (x : Node) → get_or net k x ≡ x → ReadsBelow k x → LeafBelow leaves x → Good net read leaves (k + 1) (with_node s k x)
  good_node (node.Const b) is below leaf = good_gate net read leaves k s all g lt (gate.Const b) tt (λ w. sym (node_value w (node.Const b) is))
  good_node (node.Leaf i) is below leaf = good_leaf net read leaves k s all g lt i is leaf
  good_node (node.And a b) is below leaf =
      let ra = input_given (node.And a b) a is below.0 (or_first (eqb a a) (eqb a b) (eqb_on a)) in
      let rb = input_given (node.And a b) b is below.1 (or_second (eqb b a) (eqb b b) (eqb_on b)) in
      good_gate net read leaves k s all g lt (gate.And (s.variable a) (s.variable b)) (is_variable a below.0 ra, is_variable b below.1 rb)
      (λ w. ap₂ (λ (p q : Bool). p && q) (g.values w a below.0 ra) (g.values w b below.1 rb) ∙ sym (node_value w (node.And a b) is))
  good_node (node.Xor a b) is below leaf =
      let ra = input_given (node.Xor a b) a is below.0 (or_first (eqb a a) (eqb a b) (eqb_on a)) in
      let rb = input_given (node.Xor a b) b is below.1 (or_second (eqb b a) (eqb b b) (eqb_on b)) in
      good_gate net read leaves k s all g lt (gate.Xor (s.variable a) (s.variable b)) (is_variable a below.0 ra, is_variable b below.1 rb)
      (λ w. ap₂ (λ (p q : Bool). not (beq p q)) (g.values w a below.0 ra) (g.values w b below.1 rb) ∙ sym (node_value w (node.Xor a b) is))
  good_node (node.Mux c a b) is below leaf =
      let rc = input_given (node.Mux c a b) c is below.0 (or_first (eqb c c || eqb c a) (eqb c b) (or_first (eqb c c) (eqb c a) (eqb_on c))) in
      let ra = input_given (node.Mux c a b) a is below.1 (or_first (eqb a c || eqb a a) (eqb a b) (or_second (eqb a c) (eqb a a) (eqb_on a))) in
      let rb = input_given (node.Mux c a b) b is below.2 (or_second (eqb b c || eqb b a) (eqb b b) (eqb_on b)) in
      good_gate net read leaves k s all g lt (gate.Mux (s.variable c) (s.variable a) (s.variable b)) (is_variable c below.0 rc, is_variable a below.1 ra, is_variable b below.2 rb)
      (λ w. ap (λ (p : Bool). cond p (extended w leaves s.gates (s.variable a)) (extended w leaves s.gates (s.variable b))) (g.values w c below.0 rc)
      ∙ ap₂ (λ (p q : Bool). cond (value net (leaf_values w) c) p q) (g.values w a below.1 ra) (g.values w b below.2 rb) ∙ sym (node_value w (node.Mux c a b) is))

pub walk_more : (read : ℕ → Bool) (b : Walk) (net : List Node) (at : ℕ) (x : Node) → at < length net → x ≡ get_or net at x → walk read 0 b (take (at + 1) net) ≡ cond (read at) (with_node (walk read 0 b (take at net)) at x) (walk read 0 b (take at net))
walk_more read b net at x lt is =
    let long : 0 + length (take at net) ≡ at = omega (arith, length-take-le at net (omega arith)) in
    ap (walk read 0 b) (take_more net at x lt ∙ ap (λ (y : Node). take at net ++ y ∷ []) (sym is))
    ∙ walk-snoc read 0 b (take at net) x
    ∙ ap (λ (k : ℕ). cond (read k) (with_node (walk read 0 b (take at net)) k x) (walk read 0 b (take at net))) long

leaf_more : (n m : ℕ) (x : Node) → n ≤ m → LeafBelow n x → LeafBelow m x
leaf_more n m (node.Const b) le h = tt
leaf_more n m (node.Leaf i) le h = omega arith
leaf_more n m (node.And a b) le h = tt
leaf_more n m (node.Xor a b) le h = tt
leaf_more n m (node.Mux c a b) le h = tt

pub node_leaf : (n m : ℕ) (net : List Node) (k : ℕ) (x : Node) → n ≤ m → LeavesBelow n net → k < length net → x ≡ get_or net k x → LeafBelow m x
node_leaf n m net k x le all lt is = leaf_more n m x le (subst (LeafBelow n) (sym is) (leaf_at n net k x all lt))

module _ (net : List Node) (read : ℕ → Bool) (leaves k : ℕ) (s : Walk) (xs : List ℕ) (last : ℕ) (clauses : List (List Lit)) (closed : IsReadClosed net read) (g : Good net read leaves k s) (t : Tracks leaves s xs last clauses) (lt : k < length net) (long : length xs ≡ length net) (small : last < 2 ^ 30) (on : read k ≡ true) where
  one_named : (x : Node) (a : ℕ) → x ≡ get_or net k x → a < k → reads_node x a ≡ true → IsNamed xs a
  one_named x a is below r =
      let p = g.given a below (closed k a x lt on (ap (λ (y : Node). reads_node y a) (sym is) ∙ r)) in
      let low = p.0 in let high = p.1 in let v = t.variable a in let l = t.last_is in
      (omega arith, omega arith, omega arith)

  pub inputs_named : (x : Node) → x ≡ get_or net k x → ReadsBelow k x → InputsNamed xs x
  inputs_named (node.Const b) is below = tt
  inputs_named (node.Leaf i) is below = tt
  inputs_named (node.And a b) is below =
      (one_named (node.And a b) a is below.0 (or_first (eqb a a) (eqb a b) (eqb_on a)), one_named (node.And a b) b is below.1 (or_second (eqb b a) (eqb b b) (eqb_on b)))
  inputs_named (node.Xor a b) is below =
      (one_named (node.Xor a b) a is below.0 (or_first (eqb a a) (eqb a b) (eqb_on a)), one_named (node.Xor a b) b is below.1 (or_second (eqb b a) (eqb b b) (eqb_on b)))
  inputs_named (node.Mux c a b) is below = (
    one_named (node.Mux c a b) c is below.0 (or_first (eqb c c || eqb c a) (eqb c b) (or_first (eqb c c) (eqb c a) (eqb_on c))),
    one_named (node.Mux c a b) a is below.1 (or_first (eqb a c || eqb a a) (eqb a b) (or_second (eqb a c) (eqb a a) (eqb_on a))),
    one_named (node.Mux c a b) b is below.2 (or_second (eqb b c || eqb b a) (eqb b b) (eqb_on b)),
  )

good_by : (net : List Node) (read : ℕ → Bool) (leaves k : ℕ) (s : Walk) (x : Node) (b : Bool) → read k ≡ b → AllRead 0 net → IsReadClosed net read → Good net read leaves k s → k < length net → x ≡ get_or net k x → ReadsBelow k x → LeafBelow leaves x → Good net read leaves (k + 1) (cond b (with_node s k x) s)
good_by net read leaves k s x true e all closed g lt is below leaf = good_node net read leaves k s all closed g lt e x (sym is) below leaf
good_by net read leaves k s x false e all closed g lt is below leaf = good_skip net read leaves k s all g lt e

pub good_more : (net : List Node) (read : ℕ → Bool) (leaves k : ℕ) (x : Node) → AllRead 0 net → IsReadClosed net read → LeavesBelow leaves net → Good net read leaves k (walk read 0 (begin leaves) (take k net)) → k < length net → x ≡ get_or net k x → ReadsBelow k x → Good net read leaves (k + 1) (walk read 0 (begin leaves) (take (k + 1) net))
good_more net read leaves k x all closed leaf g lt is below =
    subst (Good net read leaves (k + 1)) (sym (walk_more read (begin leaves) net k x lt is))
    (good_by net read leaves k (walk read 0 (begin leaves) (take k net)) x (read k) refl all closed g lt is below (node_leaf leaves leaves net k x (omega arith) leaf lt is))

pub good_start : (net : List Node) (read : ℕ → Bool) (leaves : ℕ) → Good net read leaves 0 (begin leaves)
good_start net read leaves = record {
  count = omega arith;
  few = omega arith;
  inputs = tt;
  given = λ m lt r. absurd (omega arith);
  values = λ w m lt r. absurd (omega arith);
}

pub tracks_start : (xs : List ℕ) (leaves : ℕ) (clauses : List (List Lit)) → ((m : ℕ) → numbers xs m ≡ 0) → clauses ≡ [] → Tracks leaves (begin leaves) xs leaves clauses
tracks_start xs leaves clauses none empty = record { variable = none; last_is = refl; count = omega arith; clauses_are = empty }

four : (v : ℕ) (g : Gate) → length (gate_clauses v g) ≤ 4
four v (gate.Const true) = omega arith
four v (gate.Const false) = omega arith
four v (gate.And a b) = omega arith
four v (gate.Xor a b) = omega arith
four v (gate.Mux c a b) = omega arith

few_clauses : (n : ℕ) (gs : List Gate) → length (gates_clauses n gs) ≤ 4 * length gs
few_clauses n [] = omega arith
few_clauses n (g ∷ gs) = omega (arith, length-append (gate_clauses (n + 1) g) (gates_clauses (n + 1) gs), four (n + 1) g, few_clauses (n + 1) gs)

-- the formula after the last node
pub encoded : (net : List Node) (leaves goal : ℕ) (read : ℕ → Bool) (s : Walk) (xs : List ℕ) (last x : ℕ) (clauses new : List (List Lit)) → s ≡ walk read 0 (begin leaves) net → IsReadSet net goal read → Good net read leaves (length net) s → Tracks leaves s xs last clauses → goal < length net → leaves ≤ 2 ^ 27 → length net ≤ 2 ^ 27 → x ≡ numbers xs goal → new ≡ clauses ++ (literal_of x true ∷ []) ∷ [] → IsEncoded net leaves goal (record { formula = record { variables = last; clauses = new }; leaves = leaves })
encoded net leaves goal read s xs last x clauses new walked reads g t lt few long is e =
    let var : x ≡ s.variable goal = is ∙ t.variable goal in
    let all : new ≡ gates_clauses leaves s.gates ++ (literal_of (s.variable goal) true ∷ []) ∷ [] =
    e ∙ ap₂ (λ (cs : List (List Lit)) (y : ℕ). cs ++ (literal_of y true ∷ []) ∷ []) t.clauses_are var in
    let count : last ≡ leaves + length s.gates = sym t.last_is ∙ g.count in
    let p = g.given goal lt (goal_read net goal read reads) in
    let gf : IsGateFormula new last leaves = record {
      gates = s.gates;
      goal = s.variable goal;
      count = count;
      inputs = g.inputs;
      goal_above = p.0;
      goal_below = let q = p.1 in let l = t.last_is in omega arith;
      clauses = all;
    } in
    let f = g.few in
    record {
      read = read;
      is_read = reads;
      same_leaves = refl;
      clauses = all ∙ ap (λ (u : Walk). gates_clauses leaves u.gates ++ (literal_of (u.variable goal) true ∷ []) ∷ []) walked;
      variables = count ∙ ap (λ (u : Walk). leaves + length u.gates) walked;
      few_variables = omega arith;
      few_clauses = omega (arith, ap length all, length-append (gates_clauses leaves s.gates) ((literal_of (s.variable goal) true ∷ []) ∷ []), few_clauses leaves s.gates);
      gate_formula = gf;
      values = λ w n lt' r. subst (λ (u : Walk). extended w leaves u.gates (u.variable n) ≡ value net (leaf_values w) n) walked (g.values w n lt' r);
      meets = λ w. g.values w goal lt (goal_read net goal read reads);
    }
