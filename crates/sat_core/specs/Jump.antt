-- The trail after a jump back.
use Rattle.std.specs.Prelude.{◌≡◌, ℕ, cond, eqb, List, [], ◌∷◌, ◌++◌, ◌⊎◌}
use Rattle.cnf_core.specs.declared.lit.Lit.{Lit}
use Rattle.cnf_core.specs.Lit.{variable_of}
use Rattle.sat_core.specs.declared.trail.Mark.{Mark}
use Rattle.sat_core.specs.declared.watching.Pair.{Pair}

-- the marks before the oldest decision above that of a variable, or before the oldest of all
abbrev pub jumped : ℕ → List Mark → List Mark → List Mark
jumped x [] best = best
jumped x (m ∷ ms) best = cond (eqb m.reason 0) (cond (eqb (variable_of m.lit) x) best (jumped x ms ms)) (jumped x ms best)

-- the last literal's variable; 0 where there is none
abbrev pub LastIs : List Lit → ℕ → Type 0
LastIs front x = ((front ≡ []) × (x ≡ 0)) ⊎ ((k : Lit) × (older : List Lit) × (front ≡ older ++ k ∷ []) × (x ≡ variable_of k))

-- the literal behind these and the last of these; it twice where there are none
abbrev pub AreLast : List Lit → Lit → Pair → Type 0
AreLast front l p = (p.first ≡ l) × (((front ≡ []) × (p.second ≡ l)) ⊎ ((older : List Lit) × (front ≡ older ++ p.second ∷ [])))
