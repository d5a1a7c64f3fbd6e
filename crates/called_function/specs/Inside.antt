-- Trees of the function that is called.
use Rattle.std.specs.Prelude.{◌≡◌, ℕ, true, List, [], ◌∷◌}
use Rattle.design_core.specs.declared.tree.DExpr.{DExpr}
use Rattle.design_core.specs.declared.tree.DStmt.{DStmt}
use Rattle.design_core.specs.Formed.{of_kind}
use Rattle.formed_trees.specs.Trees.{is_body, is_formed}

-- the lengths of the result, the input and the local of the function that is called
abbrev pub bytes : List ℕ
bytes = 8 ∷ 8 ∷ 8 ∷ []

-- a statement of that function
abbrev pub IsInside : DStmt → Type 0
IsInside s = (vs : List ℕ) → is_body vs bytes true (of_kind true) s ≡ true

-- an expression of that function
abbrev pub IsWithin : DExpr → Type 0
IsWithin e = (vs : List ℕ) → is_formed vs bytes e ≡ true
