use Rattle.std.proofs.Common.{◌≡◌, ℕ, ◌+◌, ◌<◌, ◌||◌, Bool, true, false, cond, eqb, List, [], ◌∷◌, length, arith, refl, sym, ap, subst, ◌∙◌, zero, suc}
use Rattle.std.proofs.lemmas.Bool.{ne_eqb}
use Rattle.cyc_net.specs.declared.node.Node.{Node}
use Rattle.cyc_net.specs.declared.node.Node.TheVariants.{Const, Leaf}
use Rattle.cyc_net.specs.declared.cycle.BitLeaf.{BitLeaf}
use Rattle.cyc_net.specs.declared.cycle.BitNode.{BitNode}
use Rattle.cyc_net.specs.Nets.{has_leaf, Extends, IsPushed}
use Rattle.cyc_net.specs.Cycles.{IsCycleNet}
use Rattle.domain_tests.proofs.frames.two_registers.Goals as goal

counted : (a b c x y z : Bool) → a ≡ x → b ≡ y → c ≡ z → cond {A = ℕ} a 1 0 + 0 + (cond c 1 0 + (cond b 1 0 + 0)) ≡ cond {A = ℕ} x 1 0 + 0 + (cond z 1 0 + (cond y 1 0 + 0))
counted a b c x y z e f g = ap (λ (p : Bool). cond {A = ℕ} p 1 0 + 0 + (cond c 1 0 + (cond b 1 0 + 0))) e ∙ ap (λ (p : Bool). cond {A = ℕ} x 1 0 + 0 + (cond c 1 0 + (cond p 1 0 + 0))) f ∙ ap (λ (p : Bool). cond {A = ℕ} x 1 0 + 0 + (cond p 1 0 + (cond y 1 0 + 0))) g

ored : (a b c : Bool) → a ≡ false → b ≡ false → c ≡ false → 0 ≡ cond {A = ℕ} (((false || a) || b) || c) 1 0
ored true b c e f g = absurd cc
ored false true c e f g = absurd cc
ored false false true e f g = absurd cc
ored false false false e f g = refl

once : (i : ℕ) → cond {A = ℕ} (eqb 0 i) 1 0 + 0 + (cond (eqb 2 i) 1 0 + (cond (eqb 1 i) 1 0 + 0)) ≡ cond {A = ℕ} (((false || eqb i 0) || eqb i 1) || eqb i 2) 1 0
once zero = refl
once (suc zero) = refl
once (suc (suc zero)) = refl
once (suc (suc (suc n))) =
    let i = suc (suc (suc n)) in
    counted (eqb 0 i) (eqb 1 i) (eqb 2 i) false false false (ne_eqb 0 i (λ e. omega arith)) (ne_eqb 1 i (λ e. omega arith)) (ne_eqb 2 i (λ e. omega arith))
    ∙ ored (eqb i 0) (eqb i 1) (eqb i 2) (ne_eqb i 0 (λ e. omega arith)) (ne_eqb i 1 (λ e. omega arith)) (ne_eqb i 2 (λ e. omega arith))

cycle_net : (net0 net1 net2 net : List Node) (d p q : ℕ) (inputs states : List BitLeaf) (bits nexts : List BitNode) → net0 ≡ Const false ∷ Const true ∷ []
    → IsPushed net0 (Leaf 0) net1 d → IsPushed net1 (Leaf 1) net2 p → IsPushed net2 (Leaf 2) net q → Extends net1 net2 → Extends net2 net
    → inputs ≡ record { bit = 1; leaf = 0 } ∷ [] → states ≡ record { bit = 2; leaf = 2 } ∷ record { bit = 3; leaf = 1 } ∷ []
    → bits ≡ record { bit = 1; node = d } ∷ record { bit = 2; node = q } ∷ [] → nexts ≡ record { bit = 2; node = p } ∷ record { bit = 3; node = d } ∷ []
    → IsCycleNet (record { net = net; inputs = inputs; states = states; bits = bits; nexts = nexts })
cycle_net net0 net1 net2 net d p q inputs states bits nexts e0 dp pp qp k1 k2 ei es eb en =
    let d_in : d < length net = let a = dp.within in let b = k1.longer in let c = k2.longer in omega arith in
    let p_in : p < length net = let a = pp.within in let c = k2.longer in omega arith in
    let has : (i : ℕ) → has_leaf net i ≡ (((false || eqb i 0) || eqb i 1) || eqb i 2) =
    λ i. qp.leaves i ∙ ap (λ (b : Bool). b || eqb i 2) (pp.leaves i ∙ ap (λ (b : Bool). b || eqb i 1) (dp.leaves i ∙ ap (λ (b : Bool). b || eqb i 0) (ap (λ (ns : List Node). has_leaf ns i) e0))) in
    let base : IsCycleNet (record { net = net; inputs = record { bit = 1; leaf = 0 } ∷ []; states = record { bit = 2; leaf = 2 } ∷ record { bit = 3; leaf = 1 } ∷ []; bits = record { bit = 1; node = d } ∷ record { bit = 2; node = q } ∷ []; nexts = record { bit = 2; node = p } ∷ record { bit = 3; node = d } ∷ [] }) = record {
      inputs = (omega arith, tt);
      states = (omega arith, (omega arith, tt));
      bits = (omega arith, (omega arith, tt));
      nexts = (omega arith, (omega arith, tt));
      bit_nodes = (d_in, (qp.within, tt));
      next_nodes = (p_in, (d_in, tt));
      leaves = λ i. once i ∙ ap (λ (b : Bool). cond {A = ℕ} b 1 0) (sym (has i));
      have = ((p, refl), ((d, refl), tt));
    } in
    subst (λ (x : List BitLeaf). IsCycleNet (record { net = net; inputs = x; states = states; bits = bits; nexts = nexts })) (sym ei)
    (subst (λ (x : List BitLeaf). IsCycleNet (record { net = net; inputs = record { bit = 1; leaf = 0 } ∷ []; states = x; bits = bits; nexts = nexts })) (sym es)
    (subst (λ (x : List BitNode). IsCycleNet (record { net = net; inputs = record { bit = 1; leaf = 0 } ∷ []; states = record { bit = 2; leaf = 2 } ∷ record { bit = 3; leaf = 1 } ∷ []; bits = x; nexts = nexts })) (sym eb)
    (subst (λ (x : List BitNode). IsCycleNet (record { net = net; inputs = record { bit = 1; leaf = 0 } ∷ []; states = record { bit = 2; leaf = 2 } ∷ record { bit = 3; leaf = 1 } ∷ []; bits = record { bit = 1; node = d } ∷ record { bit = 2; node = q } ∷ []; nexts = x })) (sym en) base)))

pub returns : goal.returns
returns c =
    cycle_net c.in_ok-net.net c.push.new.self c.push-2.new.self c.push-3.new.self c.in_ok-d.d c.in_ok-p.p c.in_ok-q.q c.in_ok-inputs.inputs c.in_ok-states.states c.in_ok-bits.bits c.in_ok-nexts.nexts
    c.in_ok-net.ensures c.in_ok-d.ensures.made c.in_ok-p.ensures.made c.in_ok-q.ensures.made c.push-2.ensures.kept c.push-3.ensures.kept
    c.in_ok-inputs.ensures c.in_ok-states.ensures c.in_ok-bits.ensures c.in_ok-nexts.ensures
