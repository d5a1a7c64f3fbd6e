-- Clauses in one list of literals, cut at their ends.
use Rattle.std.specs.Prelude.{◌≡◌, ℕ, ◌+◌, ◌-◌, ◌≤◌, List, [], ◌∷◌, length, take, drop, zero, suc}
use Rattle.cnf_core.specs.declared.lit.Lit.{Lit}

-- the literals from the place `start` on, cut at each end
abbrev pub pieces : ℕ → List ℕ → List Lit → List (List Lit)
pieces start [] lits = []
pieces start (e ∷ es) lits = take (e - start) lits ∷ pieces e es (drop (e - start) lits)

-- the ends do not fall, and the last is the end of all
abbrev pub AreEnds : ℕ → List ℕ → List Lit → Type 0
AreEnds start [] lits = length lits ≡ 0
AreEnds start (e ∷ es) lits = (start ≤ e) × (e ≤ start + length lits) × AreEnds e es (drop (e - start) lits)

-- the end before a place
abbrev pub end_before : ℕ → List ℕ → ℕ → ℕ
end_before start ends zero = start
end_before start [] (suc k) = start
end_before start (e ∷ es) (suc k) = end_before e es k
