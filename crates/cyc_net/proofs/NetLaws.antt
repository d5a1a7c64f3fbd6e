-- A net that has grown.
use Rattle.std.proofs.Common.{inl, inr, ◌⊎◌, eqb, true, take, drop, ◌≡◌, ℕ, suc, zero, ◌+◌, ◌<◌, ◌≤◌, Bool, false, ◌||◌, List, [], ◌∷◌, ◌++◌, length, get_or, set, refl, sym, ap, ◌∙◌, arith, length-append, subst, ap₂, cond}
use Rattle.std.proofs.lemmas.Bool.{cond-true, cond-false, eq-eqb, eqb-true, ne_eqb, cases_eq, false≢true, true≢false}
use Rattle.std.proofs.Math.ListN.{get_or-append}
use Rattle.std.proofs.Math.Seq.{get_or-append_seam}
use mathlib.Core.Bool.{◌&&◌, not, beq}
use Rattle.std.proofs.lemmas.List.{take_more, take_more_set, drop_more, drop_all}
use Rattle.std.proofs.Math.Seq.{get_or-take}
use Rattle.cyc_net.specs.declared.node.Node.{Node}
use Rattle.cyc_net.specs.declared.node.Node.TheVariants.{Const, Leaf, And, Xor, Mux}
use Rattle.cyc_net.specs.Nets.{gate_value, bit_at, run, value, ReadsBelow, AllRead, IsNet, is_leaf, has_leaf, LeafBelow, LeavesBelow, Extends, Gated, IsPushed}

run-append : (v : ℕ → Bool) (done : List Bool) (ns : List Node) (x : Node) → run v done (ns ++ x ∷ []) ≡ run v done ns ++ gate_value v (bit_at (run v done ns)) x ∷ []
run-append v done [] x = refl
run-append v done (n ∷ ns) x = run-append v (done ++ gate_value v (bit_at done) n ∷ []) ns x

pub length-run : (v : ℕ → Bool) (done : List Bool) (ns : List Node) → length (run v done ns) ≡ length done + length ns
length-run v done [] = omega arith
length-run v done (n ∷ ns) = let h = length-run v (done ++ gate_value v (bit_at done) n ∷ []) ns in omega (arith, h, length-append done (gate_value v (bit_at done) n ∷ []))

pub value_before : (net : List Node) (x : Node) (n : ℕ) (v : ℕ → Bool) → n < length net → value (net ++ x ∷ []) v n ≡ value net v n
unfolding value
value_before net x n v h =
    let long = length-run v [] net in
    ap (λ l. get_or l n false) (run-append v [] net x) ∙ get_or-append (run v [] net) (gate_value v (bit_at (run v [] net)) x ∷ []) false n (omega arith)

pub value_last : (net : List Node) (x : Node) (v : ℕ → Bool) → value (net ++ x ∷ []) v (length net) ≡ gate_value v (value net v) x
unfolding value
value_last net x v =
    let long : length (run v [] net) ≡ length net = omega (arith, length-run v [] net) in
    ap (λ l. get_or l (length net) false) (run-append v [] net x)
    ∙ ap (λ n. get_or (run v [] net ++ gate_value v (bit_at (run v [] net)) x ∷ []) n false) (sym long)
    ∙ get_or-append_seam (run v [] net) (gate_value v (bit_at (run v [] net)) x) [] false

pub Extends-refl : (net : List Node) → Extends net net
Extends-refl net = record { longer = omega arith; same = λ n v h. refl }

pub Extends-trans : (a b d : List Node) → Extends a b → Extends b d → Extends a d
Extends-trans a b d k l = record { longer = let x = k.longer in let y = l.longer in omega arith; same = λ n v h. l.same n v (let x = k.longer in omega arith) ∙ k.same n v h }

pub Extends-push : (net : List Node) (x : Node) → Extends net (net ++ x ∷ [])
Extends-push net x = record { longer = omega (arith, length-append net (x ∷ [])); same = λ n v h. value_before net x n v h }

pub Gated-refl : (net : List Node) → Gated net net
Gated-refl net = record { longer = omega arith; same = λ n v h. refl; leaves = λ i. refl }

pub Gated-trans : (a b d : List Node) → Gated a b → Gated b d → Gated a d
Gated-trans a b d k l = record {
  longer = (let x = k.longer in let y = l.longer in omega arith);
  same = λ n v h. l.same n v (let x = k.longer in omega arith) ∙ k.same n v h;
  leaves = λ i. l.leaves i ∙ k.leaves i;
}

pub Gated-extends : (a b : List Node) → Gated a b → Extends a b
Gated-extends a b k = record { longer = k.longer; same = k.same }

or_nil : (b : Bool) → (b || false) ≡ b
or_nil true = refl
or_nil false = refl

or_regroup : (x y z : Bool) → (x || (y || z)) ≡ ((x || y) || z)
or_regroup true y z = refl
or_regroup false y z = refl

has_leaf-snoc : (net : List Node) (x : Node) (i : ℕ) → has_leaf (net ++ x ∷ []) i ≡ (has_leaf net i || is_leaf i x)
has_leaf-snoc [] x i = or_nil (is_leaf i x)
has_leaf-snoc (y ∷ ys) x i = ap (λ (b : Bool). is_leaf i y || b) (has_leaf-snoc ys x i) ∙ or_regroup (is_leaf i y) (has_leaf ys i) (is_leaf i x)

pub pushed : (net : List Node) (x : Node) → IsPushed net x (net ++ x ∷ []) (length net)
pushed net x = record {
  within = omega (arith, length-append net (x ∷ []));
  worth = λ v. value_last net x v;
  leaves = λ i. has_leaf-snoc net x i;
}

pub Gated-push : (net : List Node) (x : Node) → ((i : ℕ) → is_leaf i x ≡ false) → Gated net (net ++ x ∷ [])
Gated-push net x gate = record {
  longer = (Extends-push net x).longer;
  same = (Extends-push net x).same;
  leaves = λ i. has_leaf-snoc net x i ∙ ap (λ (b : Bool). has_leaf net i || b) (gate i) ∙ or_nil (has_leaf net i);
}

pub AllRead-snoc : (n : ℕ) (xs : List Node) (x : Node) → AllRead n xs → ReadsBelow (n + length xs) x → AllRead n (xs ++ x ∷ [])
AllRead-snoc n [] x all r = (subst (λ (k : ℕ). ReadsBelow k x) (omega arith) r, tt)
AllRead-snoc n (y ∷ ys) x all r = (all.0, AllRead-snoc (n + 1) ys x all.1 (subst (λ (k : ℕ). ReadsBelow k x) (omega arith) r))

pub IsNet-push : (net : List Node) (x : Node) → IsNet net → ReadsBelow (length net) x → length net < 134217728 → IsNet (net ++ x ∷ [])
IsNet-push net x i r lt = record {
  rest = i.rest ++ x ∷ [];
  begins = ap (λ (ns : List Node). ns ++ x ∷ []) i.begins;
  reads = AllRead-snoc 0 net x i.reads (subst (λ (k : ℕ). ReadsBelow k x) (omega arith) r);
  room = omega (arith, length-append net (x ∷ []));
}

pub reads_at_from : (low : ℕ) (net : List Node) (n : ℕ) (d : Node) → AllRead low net → n < length net → ReadsBelow (low + n) (get_or net n d)
reads_at_from low [] n d all lt = absurd (omega arith)
reads_at_from low (x ∷ xs) zero d all lt = subst (λ (k : ℕ). ReadsBelow k x) (omega arith) all.0
reads_at_from low (x ∷ xs) (suc n) d all lt = subst (λ (k : ℕ). ReadsBelow k (get_or xs n d)) (omega arith) (reads_at_from (low + 1) xs n d all.1 (omega arith))

pub reads_at : (net : List Node) (n : ℕ) (d : Node) → IsNet net → n < length net → ReadsBelow n (get_or net n d)
reads_at net n d i lt = subst (λ (k : ℕ). ReadsBelow k (get_or net n d)) (omega arith) (reads_at_from 0 net n d i.reads lt)

value_kept : (v : ℕ → Bool) (done : List Bool) (ns : List Node) (k : ℕ) → k < length done → get_or (run v done ns) k false ≡ get_or done k false
value_kept v done [] k h = refl
value_kept v done (n ∷ ns) k h =
    value_kept v (done ++ gate_value v (bit_at done) n ∷ []) ns k (omega (arith, length-append done (gate_value v (bit_at done) n ∷ []))) ∙ get_or-append done (gate_value v (bit_at done) n ∷ []) false k h

pub value_zero : (net : List Node) (v : ℕ → Bool) → IsNet net → value net v 0 ≡ false
unfolding value
value_zero net v i = ap (λ m. get_or (run v [] m) 0 false) i.begins ∙ value_kept v (false ∷ (true ∷ [])) i.rest 0 (omega arith)

pub value_one : (net : List Node) (v : ℕ → Bool) → IsNet net → value net v 1 ≡ true
unfolding value
value_one net v i = ap (λ m. get_or (run v [] m) 1 false) i.begins ∙ value_kept v (false ∷ (true ∷ [])) i.rest 1 (omega arith)

pub longer_than_one : (net : List Node) → IsNet net → 2 ≤ length net
longer_than_one net i = omega (arith, ap length i.begins)

pub leaf_at : (n : ℕ) (net : List Node) (k : ℕ) (d : Node) → LeavesBelow n net → k < length net → LeafBelow n (get_or net k d)
leaf_at n [] k d h lt = absurd (omega arith)
leaf_at n (x ∷ xs) zero d h lt = h.0
leaf_at n (x ∷ xs) (suc k) d h lt = leaf_at n xs k d h.1 (omega arith)

-- a gate sees the nodes below it alone
pub gate_same : (v f g : ℕ → Bool) (n : ℕ) (x : Node) → ReadsBelow n x → ((k : ℕ) → k < n → f k ≡ g k) → gate_value v f x ≡ gate_value v g x
gate_same v f g n (Const b) r h = refl
gate_same v f g n (Leaf i) r h = refl
gate_same v f g n (And a b) r h = ap₂ (λ (p q : Bool). p && q) (h a r.0) (h b r.1)
gate_same v f g n (Xor a b) r h = ap₂ (λ (p q : Bool). not (beq p q)) (h a r.0) (h b r.1)
gate_same v f g n (Mux c a b) r h = ap (λ (p : Bool). cond p (f a) (f b)) (h c r.0) ∙ ap₂ (λ (p q : Bool). cond (g c) p q) (h a r.1) (h b r.2)

-- one more node is evaluated
pub run_more : (v : ℕ → Bool) (net : List Node) (out : List Bool) (at : ℕ) (x : Node) → at < length net → at < length out → x ≡ get_or net at x → ReadsBelow at x → take at out ≡ run v [] (take at net) → take (at + 1) (set out at (gate_value v (bit_at out) x)) ≡ run v [] (take (at + 1) net)
run_more v net out at x lt lt' is r h =
    let before : (k : ℕ) → k < at → bit_at out k ≡ bit_at (run v [] (take at net)) k = λ k b. sym (get_or-take at out k false b) ∙ ap (λ (bs : List Bool). bit_at bs k) h in
    take_more_set out at (gate_value v (bit_at out) x) lt'
    ∙ ap₂ (λ (bs : List Bool) (b : Bool). bs ++ b ∷ []) h (gate_same v (bit_at out) (bit_at (run v [] (take at net))) at x r before)
    ∙ sym (run-append v [] (take at net) x)
    ∙ ap (λ (y : Node). run v [] (take at net ++ y ∷ [])) is
    ∙ ap (run v []) (sym (take_more net at x lt))

pub reads_more : (n m : ℕ) (x : Node) → n ≤ m → ReadsBelow n x → ReadsBelow m x
reads_more n m (Const b) le r = tt
reads_more n m (Leaf i) le r = tt
reads_more n m (And a b) le r = (let h = r.0 in omega arith, let h = r.1 in omega arith)
reads_more n m (Xor a b) le r = (let h = r.0 in omega arith, let h = r.1 in omega arith)
reads_more n m (Mux c a b) le r = (let h = r.0 in omega arith, let h = r.1 in omega arith, let h = r.2 in omega arith)

run_at : (v : ℕ → Bool) (done : List Bool) (ns : List Node) (k : ℕ) (d : Node) → AllRead (length done) ns → k < length ns → get_or (run v done ns) (length done + k) false ≡ gate_value v (bit_at (run v done ns)) (get_or ns k d)
run_at v done [] k d all lt = absurd (omega arith)
run_at v done (n ∷ ns) zero d all lt =
    let g = gate_value v (bit_at done) n in
    let more = done ++ g ∷ [] in
    let long = length-append done (g ∷ []) in
    ap (λ (k : ℕ). get_or (run v more ns) k false) (omega arith)
    ∙ value_kept v more ns (length done) (omega arith)
    ∙ get_or-append_seam done g [] false
    ∙ gate_same v (bit_at done) (bit_at (run v more ns)) (length done) n all.0
    (λ j lt. sym (get_or-append done (g ∷ []) false j lt) ∙ sym (value_kept v more ns j (omega arith)))
run_at v done (n ∷ ns) (suc k) d all lt =
    let g = gate_value v (bit_at done) n in
    let more = done ++ g ∷ [] in
    let long : length more ≡ length done + 1 = omega (arith, length-append done (g ∷ [])) in
    ap (λ (j : ℕ). get_or (run v more ns) j false) (omega arith)
    ∙ run_at v more ns k d (subst (λ (j : ℕ). AllRead j ns) (sym long) all.1) (omega arith)

-- the value of a node is its gate's over the values of the net
pub value_gate : (net : List Node) (v : ℕ → Bool) (k : ℕ) (d : Node) → AllRead 0 net → k < length net → value net v k ≡ gate_value v (value net v) (get_or net k d)
unfolding value
value_gate net v k d all lt = ap (λ (j : ℕ). get_or (run v [] net) j false) (omega arith) ∙ run_at v [] net k d all lt

pub reads_all : (net : List Node) (n : ℕ) (d : Node) → AllRead 0 net → n < length net → ReadsBelow n (get_or net n d)
reads_all net n d all lt = subst (λ (k : ℕ). ReadsBelow k (get_or net n d)) (omega arith) (reads_at_from 0 net n d all lt)

below_here : (n : ℕ) (net : List Node) (i : ℕ) (d : Node) → i < length net → LeavesBelow n (drop i net) → LeafBelow n (get_or net i d) × LeavesBelow n (drop (i + 1) net)
below_here n net i d lt h = subst (LeavesBelow n) (drop_more net i d lt) h

pub below_on : (n : ℕ) (net : List Node) (i : ℕ) (d : Node) → i < length net → (LeavesBelow n (drop i net) → LeavesBelow n net) → LeafBelow n (get_or net i d) → LeavesBelow n (drop (i + 1) net) → LeavesBelow n net
below_on n net i d lt to here rest = to (subst (LeavesBelow n) (sym (drop_more net i d lt)) (here, rest))

pub below_rest : (n : ℕ) (net : List Node) (i : ℕ) (d : Node) → i < length net → (LeavesBelow n net → LeavesBelow n (drop i net)) → LeavesBelow n net → LeavesBelow n (drop (i + 1) net)
below_rest n net i d lt from all = (below_here n net i d lt (from all)).1

pub below_none : (n : ℕ) (net : List Node) (i : ℕ) (d : Node) → i < length net → (LeavesBelow n net → LeavesBelow n (drop i net)) → (LeafBelow n (get_or net i d) → ⊥) → LeavesBelow n net → ⊥
below_none n net i d lt from off all = off (below_here n net i d lt (from all)).0

pub below_end : (n : ℕ) (net : List Node) (i : ℕ) → length net ≤ i → LeavesBelow n (drop i net)
below_end n net i le = subst (LeavesBelow n) (sym (drop_all i net le)) tt

-- leaves below a number

true_or_false : (b : Bool) → (b ≡ true) ⊎ (b ≡ false)
true_or_false true = inl refl
true_or_false false = inr refl

or_true : (a b : Bool) → b ≡ true → (a || b) ≡ true
or_true true b e = refl
or_true false b e = e

below_node : (n : ℕ) (x : Node) → ((i : ℕ) → is_leaf i x ≡ true → i < n) → LeafBelow n x
below_node n (Const b) h = tt
below_node n (Leaf i) h = h i (eq-eqb i i refl)
below_node n (And a b) h = tt
below_node n (Xor a b) h = tt
below_node n (Mux c a b) h = tt

-- the numbers of all leaves of a net are below n
pub has_below : (n : ℕ) (net : List Node) → ((i : ℕ) → has_leaf net i ≡ true → i < n) → LeavesBelow n net
has_below n [] h = tt
has_below n (x ∷ xs) h = (
  below_node n x (λ i e. h i (ap (λ (b : Bool). b || has_leaf xs i) e)),
  has_below n xs (λ i e. h i (or_true (is_leaf i x) (has_leaf xs i) e)),
)

node_has : (n : ℕ) (x : Node) (i : ℕ) → LeafBelow n x → is_leaf i x ≡ true → i < n
node_has n (Const b) i h e = absurd (false≢true e)
node_has n (Leaf j) i h e = let same : i ≡ j = eqb-true i j e in omega (arith, h, same)
node_has n (And a b) i h e = absurd (false≢true e)
node_has n (Xor a b) i h e = absurd (false≢true e)
node_has n (Mux c a b) i h e = absurd (false≢true e)

pub below_has : (n : ℕ) (net : List Node) (i : ℕ) → LeavesBelow n net → has_leaf net i ≡ true → i < n
below_has n [] i h e = absurd (false≢true e)
below_has n (x ∷ xs) i h e = elim (true_or_false (is_leaf i x)) [
  | inl t ↦ node_has n x i h.0 t
  | inr f ↦ below_has n xs i h.1 (sym (ap (λ (b : Bool). b || has_leaf xs i) f) ∙ e)
]

-- gates more, as those of a goal, leave the leaves below n
pub gated_below : (n : ℕ) (old new : List Node) → Gated old new → LeavesBelow n old → LeavesBelow n new
gated_below n old new g h = has_below n new (λ i e. below_has n old i h (sym (g.leaves i) ∙ e))

-- valuations that agree on the leaves

gate_decided : (v w f : ℕ → Bool) (x : Node) → ((i : ℕ) → is_leaf i x ≡ true → v i ≡ w i) → gate_value v f x ≡ gate_value w f x
gate_decided v w f (Const b) h = refl
gate_decided v w f (Leaf i) h = h i (eq-eqb i i refl)
gate_decided v w f (And a b) h = refl
gate_decided v w f (Xor a b) h = refl
gate_decided v w f (Mux c a b) h = refl

run_decided : (v w : ℕ → Bool) (done : List Bool) (ns : List Node) → ((i : ℕ) → has_leaf ns i ≡ true → v i ≡ w i) → run v done ns ≡ run w done ns
run_decided v w done [] h = refl
run_decided v w done (n ∷ ns) h =
    ap (λ (b : Bool). run v (done ++ b ∷ []) ns) (gate_decided v w (bit_at done) n (λ i e. h i (ap (λ (b : Bool). b || has_leaf ns i) e)))
    ∙ run_decided v w (done ++ gate_value w (bit_at done) n ∷ []) ns (λ i e. h i (or_true (is_leaf i n) (has_leaf ns i) e))

pub value_decided : (net : List Node) (v w : ℕ → Bool) → ((i : ℕ) → has_leaf net i ≡ true → v i ≡ w i) → (k : ℕ) → value net v k ≡ value net w k
unfolding value
value_decided net v w h k = ap (λ (bs : List Bool). get_or bs k false) (run_decided v w [] net h)

pub worth_leaf : (net : List Node) (k i : ℕ) → ((v : ℕ → Bool) → value net v k ≡ v i) → has_leaf net i ≡ true
worth_leaf net k i h = elim (true_or_false (has_leaf net i)) [
  | inl t ↦ t
  | inr f ↦
      let on = λ (j : ℕ). cond (eqb j i) true false in
      let off = λ (j : ℕ). cond (eqb j i) false false in
      let same : (j : ℕ) → has_leaf net j ≡ true → on j ≡ off j =
      λ j e. elim (cases_eq j i) [
        | inl s ↦ absurd (false≢true (sym f ∙ ap (has_leaf net) (sym s) ∙ e))
        | inr ne ↦ cond-false (eqb j i) true false (ne_eqb j i ne) ∙ sym (cond-false (eqb j i) false false (ne_eqb j i ne))
      ] in
      absurd (true≢false (sym (cond-true (eqb i i) true false (eq-eqb i i refl)) ∙ sym (h on) ∙ value_decided net on off same k ∙ h off ∙ cond-true (eqb i i) false false (eq-eqb i i refl)))
]

-- a net has at least as many nodes as leaves

abbrev without : ℕ → List Node → List Node
without i [] = []
without i (x ∷ xs) = cond (is_leaf i x) (without i xs) (x ∷ without i xs)

shorter_by : (b : Bool) (ys xs : List Node) (x : Node) → length ys ≤ length xs → length (cond b ys (x ∷ ys)) ≤ length (x ∷ xs)
shorter_by true ys xs x h = omega arith
shorter_by false ys xs x h = omega arith

without_shorter : (i : ℕ) (net : List Node) → length (without i net) ≤ length net
without_shorter i [] = omega arith
without_shorter i (x ∷ xs) = shorter_by (is_leaf i x) (without i xs) xs x (without_shorter i xs)

one_by : (b r : Bool) (ys xs : List Node) (x : Node) → length ys ≤ length xs → (r ≡ true → length ys < length xs) → (b || r) ≡ true → length (cond b ys (x ∷ ys)) < length (x ∷ xs)
one_by true r ys xs x h k t = omega arith
one_by false r ys xs x h k t = let l = k t in omega arith

without_one : (i : ℕ) (net : List Node) → has_leaf net i ≡ true → length (without i net) < length net
without_one i [] e = absurd (false≢true e)
without_one i (x ∷ xs) e = one_by (is_leaf i x) (has_leaf xs i) (without i xs) xs x (without_shorter i xs) (without_one i xs) e

one_leaf : (x : Node) (i j : ℕ) → is_leaf i x ≡ true → (j ≡ i → ⊥) → is_leaf j x ≡ false
one_leaf (Const b) i j e ne = refl
one_leaf (Leaf l) i j e ne = ne_eqb j l (λ s. ne (s ∙ sym (eqb-true i l e)))
one_leaf (And a b) i j e ne = refl
one_leaf (Xor a b) i j e ne = refl
one_leaf (Mux c a b) i j e ne = refl

others_by : (b r : Bool) (j : ℕ) (ys : List Node) (x : Node) → has_leaf ys j ≡ r → (b ≡ true → is_leaf j x ≡ false) → has_leaf (cond b ys (x ∷ ys)) j ≡ (is_leaf j x || r)
others_by true r j ys x h k = h ∙ sym (ap (λ (b : Bool). b || r) (k refl))
others_by false r j ys x h k = ap (λ (b : Bool). is_leaf j x || b) h

without_others : (i j : ℕ) (net : List Node) → (j ≡ i → ⊥) → has_leaf (without i net) j ≡ has_leaf net j
without_others i j [] ne = refl
without_others i j (x ∷ xs) ne = others_by (is_leaf i x) (has_leaf xs j) j (without i xs) x (without_others i j xs ne) (λ e. one_leaf x i j e ne)

pub leaves_fit : (n : ℕ) (net : List Node) → ((i : ℕ) → i < n → has_leaf net i ≡ true) → n ≤ length net
leaves_fit zero net h = omega arith
leaves_fit (suc n) net h =
    let rest = leaves_fit n (without n net) (λ i lt. without_others n i net (λ e. omega arith) ∙ h i (omega arith)) in
    let less = without_one n net (h n (omega arith)) in
    omega arith
