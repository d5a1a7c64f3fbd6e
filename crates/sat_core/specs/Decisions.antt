-- Where the decisions of a trail stand.
use Rattle.std.specs.Prelude.{◌≡◌, ℕ, cond, eqb, List, [], ◌∷◌, length, reverse}
use Rattle.sat_core.specs.declared.trail.Mark.{Mark}

-- the places of the decisions, newest first
abbrev pub decision_places : List Mark → List ℕ
decision_places [] = []
decision_places (m ∷ ms) = cond (eqb m.reason 0) (length ms ∷ decision_places ms) (decision_places ms)

-- these are the places of all decisions, oldest first
abbrev pub AreDecisions : List ℕ → List Mark → Type 0
AreDecisions places marks = reverse places ≡ decision_places (reverse marks)
