-- Gate formulas: each assignment of the leaves extends to exactly one that meets the gates, and propagation finds it.
use Rattle.std.proofs.Common.{◌≡◌, ℕ, ◌+◌, ◌≤◌, Bool, true, false, not, cond, eqb, ◌||◌, ◌&&◌, List, [], ◌∷◌, ◌++◌, length, arith, refl, sym, ap, ap₂, subst, ◌∙◌, Option, Some, None, inl, inr, zero, suc}
use Rattle.std.specs.List.{fold}
use Rattle.std.proofs.lemmas.Bool.{cond-true, cond-false, eq-eqb, ne_eqb, cases_eq, lt-ltb, false≢true, cases_lt}
use mathlib.Core.Bool.{beq}
use Rattle.cnf_core.specs.declared.lit.Lit.{Lit}
use Rattle.cnf_core.specs.declared.gate.Gate.{Gate}
use Rattle.cnf_core.specs.declared.gate.Gate.TheVariants.{Const, And, Xor, Mux}
use Rattle.cnf_core.specs.declared.standing.Standing.{Standing}
use Rattle.cnf_core.specs.declared.standing.Standing.TheVariants.{Falsified, Unit as UnitAt}
use Rattle.cnf_core.specs.Lit.{variable_of, is_positive, literal_of}
use Rattle.cnf_core.specs.Model.{lit_true, clause_true, IsModel}
use Rattle.cnf_core.specs.Values.{Values, denies, grants, is_false, joined, meet, standing_of}
use Rattle.cnf_core.specs.Closed.{is_quiet, IsClosed, AreDecided}
use Rattle.cnf_core.specs.Gates.{gate_clauses, gate_value, InputsBelow, gates_clauses, AllInputsBelow, with_value, extended, IsGateFormula, ExtendsOnce}

pub literal_variable : (x : ℕ) (p : Bool) → variable_of (literal_of x p) ≡ x
literal_variable x true = refl
literal_variable zero false = refl
literal_variable (suc x) false = refl

pub literal_sign : (x : ℕ) (p : Bool) → 1 ≤ x → is_positive (literal_of x p) ≡ p
literal_sign zero p h = absurd (omega arith)
literal_sign (suc x) true h = lt-ltb 0 (suc x) (omega arith)
literal_sign (suc x) false h = refl

-- a literal under an assignment
pub literal_true : (v : ℕ → Bool) (x : ℕ) (p : Bool) → 1 ≤ x → lit_true v (literal_of x p) ≡ beq (v x) p
literal_true v x p h = ap₂ (λ (y : ℕ) (q : Bool). beq (v y) q) (literal_variable x p) (literal_sign x p h)

literal_false : (a : Values) (x : ℕ) (p b : Bool) → 1 ≤ x → a x ≡ Some b → not (beq b p) ≡ true → is_false a (literal_of x p) ≡ true
literal_false a x p b h e t = ap₂ (λ (y : ℕ) (q : Bool). denies q (a y)) (literal_variable x p) (literal_sign x p h) ∙ ap (denies p) e ∙ t

-- literals that are all false
abbrev AllFalse : Values → List Lit → Type 0
AllFalse a [] = Unit {0}
AllFalse a (l ∷ ls) = (is_false a l ≡ true) × AllFalse a ls

rest_false : (a : Values) (l : Lit) (c : List Lit) → AllFalse a c → fold (meet a) (UnitAt l) c ≡ UnitAt l
rest_false a l [] h = refl
rest_false a l (k ∷ ks) h = ap (λ (s : Standing). fold (meet a) s ks) (cond-true (is_false a k) (UnitAt l) (joined (UnitAt l) k) h.0) ∙ rest_false a l ks h.1

-- a clause with an open literal before false ones is not quiet
open_first : (a : Values) (l : Lit) (c : List Lit) → a (variable_of l) ≡ None → AllFalse a c → is_quiet a (standing_of a (l ∷ c)) ≡ true → ⊥
open_first a l c none h q =
    let start : meet a Falsified l ≡ UnitAt l = cond-false (is_false a l) Falsified (UnitAt l) (ap (denies (is_positive l)) none) in
    let unit : standing_of a (l ∷ c) ≡ UnitAt l = ap (λ (s : Standing). fold (meet a) s c) start ∙ rest_false a l c h in
    false≢true (sym (ap (is_quiet a) unit ∙ ap (grants (is_positive l)) none) ∙ q)

open_literal : (a : Values) (x : ℕ) (p : Bool) (c : List Lit) → a x ≡ None → AllFalse a c → is_quiet a (standing_of a (literal_of x p ∷ c)) ≡ true → ⊥
open_literal a x p c none h q = open_first a (literal_of x p) c (ap a (literal_variable x p) ∙ none) h q

-- under closed values that give the inputs of a gate, the gate has a value
module _ (a : Values) (v : ℕ) (none : a v ≡ None) where
  const_given : (b : Bool) → IsClosed a (gate_clauses v (Const b)) → ⊥
  const_given true h = open_literal a v true [] none tt h.0
  const_given false h = open_literal a v false [] none tt h.0

  and_given : (x y : ℕ) (b d : Bool) → 1 ≤ x → 1 ≤ y → a x ≡ Some b → a y ≡ Some d → IsClosed a (gate_clauses v (And x y)) → ⊥
  and_given x y false d p q e f h = open_literal a v false (literal_of x true ∷ []) none (literal_false a x true false p e refl, tt) h.0
  and_given x y true false p q e f h = open_literal a v false (literal_of y true ∷ []) none (literal_false a y true false q f refl, tt) h.1.0
  and_given x y true true p q e f h = open_literal a v true (literal_of x false ∷ literal_of y false ∷ []) none (literal_false a x false true p e refl, (literal_false a y false true q f refl, tt)) h.1.1.0

  xor_given : (x y : ℕ) (b d : Bool) → 1 ≤ x → 1 ≤ y → a x ≡ Some b → a y ≡ Some d → IsClosed a (gate_clauses v (Xor x y)) → ⊥
  xor_given x y false false p q e f h = open_literal a v false (literal_of x true ∷ literal_of y true ∷ []) none (literal_false a x true false p e refl, (literal_false a y true false q f refl, tt)) h.0
  xor_given x y true true p q e f h = open_literal a v false (literal_of x false ∷ literal_of y false ∷ []) none (literal_false a x false true p e refl, (literal_false a y false true q f refl, tt)) h.1.0
  xor_given x y true false p q e f h = open_literal a v true (literal_of x false ∷ literal_of y true ∷ []) none (literal_false a x false true p e refl, (literal_false a y true false q f refl, tt)) h.1.1.0
  xor_given x y false true p q e f h = open_literal a v true (literal_of x true ∷ literal_of y false ∷ []) none (literal_false a x true false p e refl, (literal_false a y false true q f refl, tt)) h.1.1.1.0

  mux_given : (c x y : ℕ) (s b d : Bool) → 1 ≤ c → 1 ≤ x → 1 ≤ y → a c ≡ Some s → a x ≡ Some b → a y ≡ Some d → IsClosed a (gate_clauses v (Mux c x y)) → ⊥
  mux_given c x y true false d r p q g e f h = open_literal a v false (literal_of c false ∷ literal_of x true ∷ []) none (literal_false a c false true r g refl, (literal_false a x true false p e refl, tt)) h.0
  mux_given c x y true true d r p q g e f h = open_literal a v true (literal_of c false ∷ literal_of x false ∷ []) none (literal_false a c false true r g refl, (literal_false a x false true p e refl, tt)) h.1.0
  mux_given c x y false b false r p q g e f h = open_literal a v false (literal_of c true ∷ literal_of y true ∷ []) none (literal_false a c true false r g refl, (literal_false a y true false q f refl, tt)) h.1.1.0
  mux_given c x y false b true r p q g e f h = open_literal a v true (literal_of c true ∷ literal_of y false ∷ []) none (literal_false a c true false r g refl, (literal_false a y false true q f refl, tt)) h.1.1.1.0

some_value : (o : Option Bool) → (o ≡ None → ⊥) → (b : Bool) × (o ≡ Some b)
some_value None h = absurd (h refl)
some_value (Some b) h = (b, refl)

gate_given : (a : Values) (v : ℕ) (g : Gate) → a v ≡ None → InputsBelow v g → ((x : ℕ) → 1 ≤ x → x + 1 ≤ v → a x ≡ None → ⊥) → IsClosed a (gate_clauses v g) → ⊥
gate_given a v (Const b) none i given h = const_given a v none b h
gate_given a v (And x y) none i given h =
    let p = some_value (a x) (given x i.0.0 i.0.1) in let q = some_value (a y) (given y i.1.0 i.1.1) in
    and_given a v none x y p.0 q.0 i.0.0 i.1.0 p.1 q.1 h
gate_given a v (Xor x y) none i given h =
    let p = some_value (a x) (given x i.0.0 i.0.1) in let q = some_value (a y) (given y i.1.0 i.1.1) in
    xor_given a v none x y p.0 q.0 i.0.0 i.1.0 p.1 q.1 h
gate_given a v (Mux c x y) none i given h =
    let s = some_value (a c) (given c i.0.0 i.0.1) in let p = some_value (a x) (given x i.1.0 i.1.1) in let q = some_value (a y) (given y i.2.0 i.2.1) in
    mux_given a v none c x y s.0 p.0 q.0 i.0.0 i.1.0 i.2.0 s.1 p.1 q.1 h

closed_parts : (a : Values) (cs ds : List (List Lit)) → IsClosed a (cs ++ ds) → IsClosed a cs × IsClosed a ds
closed_parts a [] ds h = (tt, h)
closed_parts a (c ∷ cs) ds h = let p = closed_parts a cs ds h.1 in ((h.0, p.0), p.1)

gates_given : (a : Values) (n : ℕ) (gs : List Gate) → AllInputsBelow n gs → IsClosed a (gates_clauses n gs) → ((x : ℕ) → 1 ≤ x → x ≤ n → a x ≡ None → ⊥) → (x : ℕ) → 1 ≤ x → x ≤ n + length gs → a x ≡ None → ⊥
gates_given a n [] i h given x p q e = given x p (omega arith) e
gates_given a n (g ∷ gs) i h given x p q e =
    let parts = closed_parts a (gate_clauses (n + 1) g) (gates_clauses (n + 1) gs) h in
    let here : (y : ℕ) → 1 ≤ y → y ≤ n + 1 → a y ≡ None → ⊥ =
    λ y r s f. elim (cases_lt y (n + 1)) [
      | inl lt ↦ given y r (omega arith) f
      | inr le ↦
          let same : y ≡ n + 1 = omega arith in
          gate_given a (n + 1) g (ap a (sym same) ∙ f) i.0 (λ z t u. given z t (omega arith)) parts.0
    ] in
    gates_given a (n + 1) gs i.1 parts.1 here x p (omega arith) e

pub gate_formula_decided : (cs : List (List Lit)) (variables leaves : ℕ) → IsGateFormula cs variables leaves → AreDecided cs variables leaves
gate_formula_decided cs variables leaves f a closed given x p q e =
    gates_given a leaves f.gates f.inputs (closed_parts a (gates_clauses leaves f.gates) ((literal_of f.goal true ∷ []) ∷ []) (subst (IsClosed a) f.clauses closed)).0 given x p (let k = f.count in omega arith) e

beq_is : (p q : Bool) → beq p q ≡ true → p ≡ q
beq_is true true h = refl
beq_is true false h = absurd (false≢true h)
beq_is false true h = absurd (false≢true h)
beq_is false false h = refl

-- the clauses of a gate say that its variable has the gate's value
or_end : (b : Bool) → (b || false) ≡ b
or_end true = refl
or_end false = refl

clause_one : (u : ℕ → Bool) (x : ℕ) (p : Bool) → 1 ≤ x → clause_true u (literal_of x p ∷ []) ≡ beq (u x) p
clause_one u x p h = or_end (lit_true u (literal_of x p)) ∙ literal_true u x p h

clause_two : (u : ℕ → Bool) (x y : ℕ) (p q : Bool) → 1 ≤ x → 1 ≤ y → clause_true u (literal_of x p ∷ literal_of y q ∷ []) ≡ (beq (u x) p || beq (u y) q)
clause_two u x y p q h k = ap₂ (λ (a b : Bool). a || b) (literal_true u x p h) (clause_one u y q k)

clause_three : (u : ℕ → Bool) (x y z : ℕ) (p q r : Bool) → 1 ≤ x → 1 ≤ y → 1 ≤ z → clause_true u (literal_of x p ∷ literal_of y q ∷ literal_of z r ∷ []) ≡ (beq (u x) p || (beq (u y) q || beq (u z) r))
clause_three u x y z p q r h k l = ap₂ (λ (a b : Bool). a || b) (literal_true u x p h) (clause_two u y z q r k l)

and_true : (x y : Bool) → ((beq (x && y) false || beq x true) ≡ true) × ((beq (x && y) false || beq y true) ≡ true) × ((beq (x && y) true || (beq x false || beq y false)) ≡ true)
and_true true true = (refl, refl, refl)
and_true true false = (refl, refl, refl)
and_true false true = (refl, refl, refl)
and_true false false = (refl, refl, refl)

xor_true : (x y : Bool) → ((beq (not (beq x y)) false || (beq x true || beq y true)) ≡ true) × ((beq (not (beq x y)) false || (beq x false || beq y false)) ≡ true) × ((beq (not (beq x y)) true || (beq x false || beq y true)) ≡ true) × ((beq (not (beq x y)) true || (beq x true || beq y false)) ≡ true)
xor_true true true = (refl, refl, refl, refl)
xor_true true false = (refl, refl, refl, refl)
xor_true false true = (refl, refl, refl, refl)
xor_true false false = (refl, refl, refl, refl)

mux_true : (c x y : Bool) → ((beq (cond c x y) false || (beq c false || beq x true)) ≡ true) × ((beq (cond c x y) true || (beq c false || beq x false)) ≡ true) × ((beq (cond c x y) false || (beq c true || beq y true)) ≡ true) × ((beq (cond c x y) true || (beq c true || beq y false)) ≡ true)
mux_true true true y = (refl, refl, refl, refl)
mux_true true false y = (refl, refl, refl, refl)
mux_true false x true = (refl, refl, refl, refl)
mux_true false x false = (refl, refl, refl, refl)

beq_on : (b : Bool) → beq b b ≡ true
beq_on true = refl
beq_on false = refl

const_model : (u : ℕ → Bool) (v : ℕ) (b : Bool) → 1 ≤ v → u v ≡ b → IsModel u (gate_clauses v (Const b))
const_model u v true h e = (clause_one u v true h ∙ ap (λ (x : Bool). beq x true) e, tt)
const_model u v false h e = (clause_one u v false h ∙ ap (λ (x : Bool). beq x false) e, tt)

gate_model : (u : ℕ → Bool) (v : ℕ) (g : Gate) → 1 ≤ v → InputsBelow v g → u v ≡ gate_value u g → IsModel u (gate_clauses v g)
gate_model u v (Const b) h i e = const_model u v b h e
gate_model u v (And a b) h i e =
    let t = and_true (u a) (u b) in (
      clause_two u v a false true h i.0.0 ∙ ap (λ (x : Bool). beq x false || beq (u a) true) e ∙ t.0,
      (
        clause_two u v b false true h i.1.0 ∙ ap (λ (x : Bool). beq x false || beq (u b) true) e ∙ t.1,
        (
          clause_three u v a b true false false h i.0.0 i.1.0 ∙ ap (λ (x : Bool). beq x true || (beq (u a) false || beq (u b) false)) e ∙ t.2,
          tt,
        ),
      ),
    )
gate_model u v (Xor a b) h i e =
    let t = xor_true (u a) (u b) in (
      clause_three u v a b false true true h i.0.0 i.1.0 ∙ ap (λ (x : Bool). beq x false || (beq (u a) true || beq (u b) true)) e ∙ t.0,
      (
        clause_three u v a b false false false h i.0.0 i.1.0 ∙ ap (λ (x : Bool). beq x false || (beq (u a) false || beq (u b) false)) e ∙ t.1,
        (
          clause_three u v a b true false true h i.0.0 i.1.0 ∙ ap (λ (x : Bool). beq x true || (beq (u a) false || beq (u b) true)) e ∙ t.2,
          (
            clause_three u v a b true true false h i.0.0 i.1.0 ∙ ap (λ (x : Bool). beq x true || (beq (u a) true || beq (u b) false)) e ∙ t.3,
            tt,
          ),
        ),
      ),
    )
gate_model u v (Mux c a b) h i e =
    let t = mux_true (u c) (u a) (u b) in (
      clause_three u v c a false false true h i.0.0 i.1.0 ∙ ap (λ (x : Bool). beq x false || (beq (u c) false || beq (u a) true)) e ∙ t.0,
      (
        clause_three u v c a true false false h i.0.0 i.1.0 ∙ ap (λ (x : Bool). beq x true || (beq (u c) false || beq (u a) false)) e ∙ t.1,
        (
          clause_three u v c b false true true h i.0.0 i.2.0 ∙ ap (λ (x : Bool). beq x false || (beq (u c) true || beq (u b) true)) e ∙ t.2,
          (
            clause_three u v c b true true false h i.0.0 i.2.0 ∙ ap (λ (x : Bool). beq x true || (beq (u c) true || beq (u b) false)) e ∙ t.3,
            tt,
          ),
        ),
      ),
    )

and_only : (v x y : Bool) → (beq v false || beq x true) ≡ true → (beq v false || beq y true) ≡ true → (beq v true || (beq x false || beq y false)) ≡ true → v ≡ (x && y)
and_only true true true p q r = refl
and_only true true false p q r = absurd (false≢true q)
and_only true false y p q r = absurd (false≢true p)
and_only false true true p q r = absurd (false≢true r)
and_only false true false p q r = refl
and_only false false y p q r = refl

xor_only : (v x y : Bool) → (beq v false || (beq x true || beq y true)) ≡ true → (beq v false || (beq x false || beq y false)) ≡ true → (beq v true || (beq x false || beq y true)) ≡ true → (beq v true || (beq x true || beq y false)) ≡ true → v ≡ not (beq x y)
xor_only true true true p q r s = absurd (false≢true q)
xor_only true true false p q r s = refl
xor_only true false true p q r s = refl
xor_only true false false p q r s = absurd (false≢true p)
xor_only false true true p q r s = refl
xor_only false true false p q r s = absurd (false≢true r)
xor_only false false true p q r s = absurd (false≢true s)
xor_only false false false p q r s = refl

mux_only : (v c x y : Bool) → (beq v false || (beq c false || beq x true)) ≡ true → (beq v true || (beq c false || beq x false)) ≡ true → (beq v false || (beq c true || beq y true)) ≡ true → (beq v true || (beq c true || beq y false)) ≡ true → v ≡ cond c x y
mux_only true true true y p q r s = refl
mux_only true true false y p q r s = absurd (false≢true p)
mux_only false true true y p q r s = absurd (false≢true q)
mux_only false true false y p q r s = refl
mux_only true false x true p q r s = refl
mux_only true false x false p q r s = absurd (false≢true r)
mux_only false false x true p q r s = absurd (false≢true s)
mux_only false false x false p q r s = refl

const_only : (u : ℕ → Bool) (v : ℕ) (b : Bool) → 1 ≤ v → IsModel u (gate_clauses v (Const b)) → u v ≡ b
const_only u v true h m = beq_is (u v) true (sym (clause_one u v true h) ∙ m.0)
const_only u v false h m = beq_is (u v) false (sym (clause_one u v false h) ∙ m.0)

gate_only : (u : ℕ → Bool) (v : ℕ) (g : Gate) → 1 ≤ v → InputsBelow v g → IsModel u (gate_clauses v g) → u v ≡ gate_value u g
gate_only u v (Const b) h i m = const_only u v b h m
gate_only u v (And a b) h i m =
    and_only (u v) (u a) (u b) (sym (clause_two u v a false true h i.0.0) ∙ m.0) (sym (clause_two u v b false true h i.1.0) ∙ m.1.0) (sym (clause_three u v a b true false false h i.0.0 i.1.0) ∙ m.1.1.0)
gate_only u v (Xor a b) h i m =
    xor_only (u v) (u a) (u b) (sym (clause_three u v a b false true true h i.0.0 i.1.0) ∙ m.0) (sym (clause_three u v a b false false false h i.0.0 i.1.0) ∙ m.1.0)
    (sym (clause_three u v a b true false true h i.0.0 i.1.0) ∙ m.1.1.0) (sym (clause_three u v a b true true false h i.0.0 i.1.0) ∙ m.1.1.1.0)
gate_only u v (Mux c a b) h i m =
    mux_only (u v) (u c) (u a) (u b) (sym (clause_three u v c a false false true h i.0.0 i.1.0) ∙ m.0) (sym (clause_three u v c a true false false h i.0.0 i.1.0) ∙ m.1.0)
    (sym (clause_three u v c b false true true h i.0.0 i.2.0) ∙ m.1.1.0) (sym (clause_three u v c b true true false h i.0.0 i.2.0) ∙ m.1.1.1.0)

value_off : (w : ℕ → Bool) (v : ℕ) (b : Bool) (x : ℕ) → (x ≡ v → ⊥) → with_value w v b x ≡ w x
value_off w v b x ne = cond-false (eqb x v) b (w x) (ne_eqb x v ne)

value_on : (w : ℕ → Bool) (v : ℕ) (b : Bool) → with_value w v b v ≡ b
value_on w v b = cond-true (eqb v v) b (w v) (eq-eqb v v refl)

extended_low : (w : ℕ → Bool) (n : ℕ) (gs : List Gate) (x : ℕ) → x ≤ n → extended w n gs x ≡ w x
extended_low w n [] x le = refl
extended_low w n (g ∷ gs) x le = extended_low (with_value w (n + 1) (gate_value w g)) (n + 1) gs x (omega arith) ∙ value_off w (n + 1) (gate_value w g) x (λ e. omega arith)

value_by_inputs : (u w : ℕ → Bool) (v : ℕ) (g : Gate) → InputsBelow v g → ((x : ℕ) → 1 ≤ x → x + 1 ≤ v → u x ≡ w x) → gate_value u g ≡ gate_value w g
value_by_inputs u w v (Const b) i h = refl
value_by_inputs u w v (And a b) i h = ap₂ (λ (p q : Bool). p && q) (h a i.0.0 i.0.1) (h b i.1.0 i.1.1)
value_by_inputs u w v (Xor a b) i h = ap₂ (λ (p q : Bool). not (beq p q)) (h a i.0.0 i.0.1) (h b i.1.0 i.1.1)
value_by_inputs u w v (Mux c a b) i h =
    ap (λ (p : Bool). cond p (u a) (u b)) (h c i.0.0 i.0.1) ∙ ap₂ (λ (p q : Bool). cond (w c) p q) (h a i.1.0 i.1.1) (h b i.2.0 i.2.1)

models_append : (u : ℕ → Bool) (cs ds : List (List Lit)) → IsModel u cs → IsModel u ds → IsModel u (cs ++ ds)
models_append u [] ds m k = k
models_append u (c ∷ cs) ds m k = (m.0, models_append u cs ds m.1 k)

models_parts : (u : ℕ → Bool) (cs ds : List (List Lit)) → IsModel u (cs ++ ds) → IsModel u cs × IsModel u ds
models_parts u [] ds m = (tt, m)
models_parts u (c ∷ cs) ds m = let p = models_parts u cs ds m.1 in ((m.0, p.0), p.1)

extended_model : (w : ℕ → Bool) (n : ℕ) (gs : List Gate) → AllInputsBelow n gs → IsModel (extended w n gs) (gates_clauses n gs)
extended_model w n [] i = tt
extended_model w n (g ∷ gs) i =
    let w' = with_value w (n + 1) (gate_value w g) in
    let u = extended w' (n + 1) gs in
    let low : (x : ℕ) → 1 ≤ x → x + 1 ≤ n + 1 → u x ≡ w x = λ x p q. extended_low w' (n + 1) gs x (omega arith) ∙ value_off w (n + 1) (gate_value w g) x (λ e. omega arith) in
    let here : u (n + 1) ≡ gate_value u g =
    extended_low w' (n + 1) gs (n + 1) (omega arith) ∙ value_on w (n + 1) (gate_value w g) ∙ sym (value_by_inputs u w (n + 1) g i.0 low) in
    models_append u (gate_clauses (n + 1) g) (gates_clauses (n + 1) gs) (gate_model u (n + 1) g (omega arith) i.0 here) (extended_model w' (n + 1) gs i.1)

extended_only : (u w : ℕ → Bool) (n : ℕ) (gs : List Gate) → AllInputsBelow n gs → IsModel u (gates_clauses n gs) → ((x : ℕ) → 1 ≤ x → x ≤ n → u x ≡ w x) → (x : ℕ) → 1 ≤ x → x ≤ n + length gs → u x ≡ extended w n gs x
extended_only u w n [] i m h x p q = h x p (omega arith)
extended_only u w n (g ∷ gs) i m h x p q =
    let w' = with_value w (n + 1) (gate_value w g) in
    let parts = models_parts u (gate_clauses (n + 1) g) (gates_clauses (n + 1) gs) m in
    let here : u (n + 1) ≡ gate_value w g = gate_only u (n + 1) g (omega arith) i.0 parts.0 ∙ value_by_inputs u w (n + 1) g i.0 (λ y r s. h y r (omega arith)) in
    let low : (y : ℕ) → 1 ≤ y → y ≤ n + 1 → u y ≡ w' y =
    λ y r s. elim (cases_eq y (n + 1)) [
      | inl e ↦ ap u e ∙ here ∙ sym (value_on w (n + 1) (gate_value w g)) ∙ ap w' (sym e)
      | inr ne ↦ h y r (omega arith) ∙ sym (value_off w (n + 1) (gate_value w g) y ne)
    ] in
    extended_only u w' (n + 1) gs i.1 parts.1 low x p (omega arith)

pub extends_once : (cs : List (List Lit)) (variables leaves : ℕ) (f : IsGateFormula cs variables leaves) (w : ℕ → Bool) → ExtendsOnce variables leaves f.gates f.goal w
extends_once cs variables leaves f w =
    let u = extended w leaves f.gates in
    let base = gates_clauses leaves f.gates in
    record {
      leaf = extended_low w leaves f.gates;
      model = extended_model w leaves f.gates f.inputs;
      only = λ t m h x p q. extended_only t w leaves f.gates f.inputs m h x p (let c = f.count in omega arith);
      last = (
        λ m. beq_is (u f.goal) true (sym (clause_one u f.goal true f.goal_above) ∙ (models_parts u base ((literal_of f.goal true ∷ []) ∷ []) m).1.0),
        λ e. models_append u base ((literal_of f.goal true ∷ []) ∷ []) (extended_model w leaves f.gates f.inputs)
            (clause_one u f.goal true f.goal_above ∙ ap (λ (b : Bool). beq b true) e, tt),
      );
    }
