-- What a solver asks of a formula, for each that is encoded: literals of its variables, and leaves that decide the rest.
use Rattle.std.proofs.Common.{ℕ, ◌+◌, ◌<◌, ◌≤◌, Bool, true, false, List, [], ◌∷◌, length, arith, sym, subst, All}
use Rattle.std.specs.List.{AllByRecursion}
use Rattle.std.proofs.lemmas.List.Elements.{All-from_recursion, All-head, All-tail, All-nil, All-cons, All-append, All-weaker}
use Rattle.cyc_net.specs.declared.node.Node.{Node}
use Rattle.cnf_core.specs.declared.lit.Lit.{Lit}
use Rattle.cnf_core.specs.declared.gate.Gate.{Gate}
use Rattle.cnf_core.specs.declared.gate.Gate.TheVariants.{Const, And, Xor, Mux}
use Rattle.cnf_core.specs.Lit.{variable_of, literal_of}
use Rattle.cnf_core.specs.Numbers as text
use Rattle.cnf_core.specs.Closed.{AreDecided}
use Rattle.cnf_core.specs.DimacsText.{AllInText, IsInText}
use Rattle.cnf_core.specs.Gates.{gate_clauses, InputsBelow, gates_clauses, AllInputsBelow}
use Rattle.cnf_core.proofs.GateLaws.{literal_variable, gate_formula_decided}
use Rattle.tseitin_cnf.specs.declared.encoding.Encoded.{Encoded}
use Rattle.tseitin_cnf.specs.Encoding.{IsEncoded}

abbrev IsBelow : ℕ → Lit → Type 0
IsBelow n l = (1 ≤ variable_of l) × (variable_of l < n)

-- clauses of the variables from 1 to below n alone
abbrev AllFit : ℕ → List (List Lit) → Type 0
AllFit n cs = All (All (IsBelow n)) cs

literal_below : (n x : ℕ) (p : Bool) → 1 ≤ x → x < n → IsBelow n (literal_of x p)
literal_below n x p k h = let e = literal_variable x p in (omega (arith, e, k), omega (arith, e, h))

gate_below : (n v : ℕ) (g : Gate) → InputsBelow v g → 1 ≤ v → v < n → AllByRecursion (AllByRecursion (IsBelow n)) (gate_clauses v g)
gate_below n v (Const true) i o h = ((literal_below n v true o h, tt), tt)
gate_below n v (Const false) i o h = ((literal_below n v false o h, tt), tt)
gate_below n v (And a b) i o h =
    let v' = λ (p : Bool). literal_below n v p o h in
    let a' = λ (p : Bool). literal_below n a p i.0.0 (let k = i.0.1 in omega arith) in
    let b' = λ (p : Bool). literal_below n b p i.1.0 (let k = i.1.1 in omega arith) in
    ((v' false, (a' true, tt)), ((v' false, (b' true, tt)), ((v' true, (a' false, (b' false, tt))), tt)))
gate_below n v (Xor a b) i o h =
    let v' = λ (p : Bool). literal_below n v p o h in
    let a' = λ (p : Bool). literal_below n a p i.0.0 (let k = i.0.1 in omega arith) in
    let b' = λ (p : Bool). literal_below n b p i.1.0 (let k = i.1.1 in omega arith) in
    ((v' false, (a' true, (b' true, tt))), ((v' false, (a' false, (b' false, tt))), ((v' true, (a' false, (b' true, tt))), ((v' true, (a' true, (b' false, tt))), tt))))
gate_below n v (Mux c a b) i o h =
    let v' = λ (p : Bool). literal_below n v p o h in
    let c' = λ (p : Bool). literal_below n c p i.0.0 (let k = i.0.1 in omega arith) in
    let a' = λ (p : Bool). literal_below n a p i.1.0 (let k = i.1.1 in omega arith) in
    let b' = λ (p : Bool). literal_below n b p i.2.0 (let k = i.2.1 in omega arith) in
    ((v' false, (c' false, (a' true, tt))), ((v' true, (c' false, (a' false, tt))), ((v' false, (c' true, (b' true, tt))), ((v' true, (c' true, (b' false, tt))), tt))))

gate_fits : (n v : ℕ) (g : Gate) → InputsBelow v g → 1 ≤ v → v < n → AllFit n (gate_clauses v g)
gate_fits n v g i o h =
    All-weaker (AllByRecursion (IsBelow n)) (All (IsBelow n)) (All-from_recursion (IsBelow n)) (gate_clauses v g)
    (All-from_recursion (AllByRecursion (IsBelow n)) (gate_clauses v g) (gate_below n v g i o h))

gates_fit : (n m : ℕ) (gs : List Gate) → AllInputsBelow m gs → m + length gs < n → AllFit n (gates_clauses m gs)
gates_fit n m [] i h = All-nil (All (IsBelow n))
gates_fit n m (g ∷ gs) i h =
    All-append (All (IsBelow n)) (gate_clauses (m + 1) g) (gates_clauses (m + 1) gs) (gate_fits n (m + 1) g i.0 (omega arith) (omega arith)) (gates_fit n (m + 1) gs i.1 (omega arith))

goal_fits : (n goal : ℕ) → 1 ≤ goal → goal < n → AllFit n ((literal_of goal true ∷ []) ∷ [])
goal_fits n goal o h =
    All-cons (All (IsBelow n)) (literal_of goal true ∷ []) [] (All-cons (IsBelow n) (literal_of goal true) [] (literal_below n goal true o h) (All-nil (IsBelow n))) (All-nil (All (IsBelow n)))

clause_in_text : (n : ℕ) (c : List Lit) → All (IsBelow n) c → text.AllFit n c
clause_in_text n [] h = tt
clause_in_text n (l ∷ ls) h = let first = All-head (IsBelow n) l ls h in (first.0, first.1, clause_in_text n ls (All-tail (IsBelow n) l ls h))

clauses_in_text : (n : ℕ) (cs : List (List Lit)) → AllFit (n + 1) cs → AllInText n cs
clauses_in_text n [] h = tt
clauses_in_text n (c ∷ cs) h = (clause_in_text (n + 1) c (All-head (All (IsBelow (n + 1))) c cs h), clauses_in_text n cs (All-tail (All (IsBelow (n + 1))) c cs h))

module _ (net : List Node) (leaves goal : ℕ) (e : Encoded) (is : IsEncoded net leaves goal e) where
  all_fit : AllFit (e.formula.variables + 1) e.formula.clauses
  all_fit =
      let f = is.gate_formula in let count = f.count in let above = f.goal_above in let below = f.goal_below in
      subst (AllFit (e.formula.variables + 1)) (sym f.clauses)
      (All-append (All (IsBelow (e.formula.variables + 1))) (gates_clauses leaves f.gates) ((literal_of f.goal true ∷ []) ∷ [])
      (gates_fit (e.formula.variables + 1) leaves f.gates f.inputs (omega arith))
      (goal_fits (e.formula.variables + 1) f.goal above (omega arith)))

  pub encoded_fit : All (All (λ l. variable_of l < e.formula.variables + 1)) e.formula.clauses
  encoded_fit =
      All-weaker (All (IsBelow (e.formula.variables + 1))) (All (λ l. variable_of l < e.formula.variables + 1))
      (All-weaker (IsBelow (e.formula.variables + 1)) (λ l. variable_of l < e.formula.variables + 1) (λ l h. h.1)) e.formula.clauses all_fit

  pub encoded_decided : AreDecided e.formula.clauses e.formula.variables e.leaves
  encoded_decided = subst (AreDecided e.formula.clauses e.formula.variables) (sym is.same_leaves) (gate_formula_decided e.formula.clauses e.formula.variables leaves is.gate_formula)

  pub encoded_in_text : IsInText e.formula
  encoded_in_text = record { variables = is.few_variables; clauses = is.few_clauses; literals = clauses_in_text e.formula.variables e.formula.clauses all_fit }
