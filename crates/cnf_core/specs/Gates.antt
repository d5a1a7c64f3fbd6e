-- Gate formulas: one gate for each variable above the leaves, and a goal.
use Rattle.std.specs.Prelude.{◌≡◌, ◌↔◌, ℕ, ◌+◌, ◌≤◌, Bool, true, false, cond, eqb, List, [], ◌∷◌, ◌++◌, length}
use mathlib.Core.Bool.{not, beq, ◌&&◌}
use Rattle.cnf_core.specs.declared.lit.Lit.{Lit}
use Rattle.cnf_core.specs.declared.gate.Gate.{Gate}
use Rattle.cnf_core.specs.declared.gate.Gate.TheVariants.{Const, And, Xor, Mux}
use Rattle.cnf_core.specs.Lit.{literal_of}
use Rattle.cnf_core.specs.Model.{IsModel}

-- the clauses that say that v has the gate's value
abbrev pub gate_clauses : ℕ → Gate → List (List Lit)
gate_clauses v (Const false) = (literal_of v false ∷ []) ∷ []
gate_clauses v (Const true) = (literal_of v true ∷ []) ∷ []
gate_clauses v (And a b) =
    (literal_of v false ∷ literal_of a true ∷ [])
    ∷ (literal_of v false ∷ literal_of b true ∷ [])
    ∷ (literal_of v true ∷ literal_of a false ∷ literal_of b false ∷ [])
    ∷ []
gate_clauses v (Xor a b) =
    (literal_of v false ∷ literal_of a true ∷ literal_of b true ∷ [])
    ∷ (literal_of v false ∷ literal_of a false ∷ literal_of b false ∷ [])
    ∷ (literal_of v true ∷ literal_of a false ∷ literal_of b true ∷ [])
    ∷ (literal_of v true ∷ literal_of a true ∷ literal_of b false ∷ [])
    ∷ []
gate_clauses v (Mux c a b) =
    (literal_of v false ∷ literal_of c false ∷ literal_of a true ∷ [])
    ∷ (literal_of v true ∷ literal_of c false ∷ literal_of a false ∷ [])
    ∷ (literal_of v false ∷ literal_of c true ∷ literal_of b true ∷ [])
    ∷ (literal_of v true ∷ literal_of c true ∷ literal_of b false ∷ [])
    ∷ []

-- the gate's value over its inputs
abbrev pub gate_value : (ℕ → Bool) → Gate → Bool
gate_value w (Const b) = b
gate_value w (And a b) = w a && w b
gate_value w (Xor a b) = not (beq (w a) (w b))
gate_value w (Mux c a b) = cond (w c) (w a) (w b)

-- a variable below v
abbrev pub IsInput : ℕ → ℕ → Type 0
IsInput v x = (1 ≤ x) × (x + 1 ≤ v)

abbrev pub InputsBelow : ℕ → Gate → Type 0
InputsBelow v (Const b) = Unit {0}
InputsBelow v (And a b) = IsInput v a × IsInput v b
InputsBelow v (Xor a b) = IsInput v a × IsInput v b
InputsBelow v (Mux c a b) = IsInput v c × IsInput v a × IsInput v b

-- the gates of the variables after n, in order
abbrev pub gates_clauses : ℕ → List Gate → List (List Lit)
gates_clauses n [] = []
gates_clauses n (g ∷ gs) = gate_clauses (n + 1) g ++ gates_clauses (n + 1) gs

abbrev pub AllInputsBelow : ℕ → List Gate → Type 0
AllInputsBelow n [] = Unit {0}
AllInputsBelow n (g ∷ gs) = InputsBelow (n + 1) g × AllInputsBelow (n + 1) gs

-- the assignment of the leaves, and the gates' values for the variables after n
abbrev pub with_value : (ℕ → Bool) → ℕ → Bool → (ℕ → Bool)
with_value w v b = λ x. cond (eqb x v) b (w x)

abbrev pub extended : (ℕ → Bool) → ℕ → List Gate → (ℕ → Bool)
extended w n [] = w
extended w n (g ∷ gs) = extended (with_value w (n + 1) (gate_value w g)) (n + 1) gs

-- a formula of gates over the leaves 1 to m, and the goal at its end
pub record IsGateFormula (cs : List (List Lit)) (variables leaves : ℕ) : Type 0 where
  pub gates : List Gate
  pub goal : ℕ
  pub count : variables ≡ leaves + length gates
  pub inputs : AllInputsBelow leaves gates
  pub goal_above : 1 ≤ goal
  pub goal_below : goal ≤ variables
  pub clauses : cs ≡ gates_clauses leaves gates ++ (literal_of goal true ∷ []) ∷ []

-- each assignment of the leaves extends to exactly one that meets all clauses but the last, and that one meets the last exactly where
-- its goal is 1
pub record ExtendsOnce (variables leaves : ℕ) (gates : List Gate) (goal : ℕ) (w : ℕ → Bool) : Type 0 where
  pub leaf : (x : ℕ) → x ≤ leaves → extended w leaves gates x ≡ w x
  pub model : IsModel (extended w leaves gates) (gates_clauses leaves gates)
  pub only : (u : ℕ → Bool) → IsModel u (gates_clauses leaves gates) → ((x : ℕ) → 1 ≤ x → x ≤ leaves → u x ≡ w x) → (x : ℕ) → 1 ≤ x → x ≤ variables → u x ≡ extended w leaves gates x
  pub last : IsModel (extended w leaves gates) (gates_clauses leaves gates ++ (literal_of goal true ∷ []) ∷ []) ↔ (extended w leaves gates goal ≡ true)
