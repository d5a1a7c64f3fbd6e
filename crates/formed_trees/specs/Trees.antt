-- Trees that are formed, told by tests.
use Rattle.std.specs.Prelude.{◌≡◌, ℕ, Bool, true, ◌&&◌, ◌==◌, List}
use Rattle.std.specs.List.{list_all}
use Rattle.design_core.specs.declared.tree.DBase.{DBase}
use Rattle.design_core.specs.declared.tree.DExpr.{DExpr}
use Rattle.design_core.specs.declared.tree.DLeft.{DLeft}
use Rattle.design_core.specs.declared.tree.DStmt.{DStmt}
use Rattle.design_core.specs.declared.tree.DMatch.{DMatch, out-DMatch}
use Rattle.design_core.specs.declared.tree.DArm.{DArm, out-DArm}
use Rattle.design_core.specs.Formed.{base_fits, base_length, sized_expr, sized_left, sized_match, sized_stmt}

-- whether an expression is formed, where these are the lengths of the signals and of the locals
unfoldable pub is_formed : List ℕ → List ℕ → DExpr → Bool
is_formed vs ls e = (sized_expr vs e).formed ls

-- an expression that is formed
abbrev pub IsMade : List ℕ → List ℕ → DExpr → Type 0
IsMade vs ls e = is_formed vs ls e ≡ true

-- whether a vector is one that a left side may name, of this length
abbrev pub is_vector_of : List ℕ → List ℕ → Bool → DBase → ℕ → Bool
is_vector_of vs ls inside b n = base_fits vs ls inside b && (base_length vs ls b == n)

-- whether a left side is formed and has this length
unfoldable pub is_left : List ℕ → List ℕ → Bool → ℕ → DLeft → Bool
is_left vs ls inside n l = (sized_left vs l).formed ls inside && ((sized_left vs l).length == n)

-- whether a statement is formed, with writes of some kinds
unfoldable pub is_body : List ℕ → List ℕ → Bool → (Bool → Bool) → DStmt → Bool
is_body vs ls inside kinds s = (sized_stmt vs s).formed ls inside kinds

abbrev pub IsBody : List ℕ → List ℕ → Bool → (Bool → Bool) → DStmt → Type 0
IsBody vs ls inside kinds s = is_body vs ls inside kinds s ≡ true

-- whether an item of a case is formed, for a selector of its own length
unfoldable pub is_item : List ℕ → List ℕ → DMatch → Bool
is_item vs ls m = (sized_match vs m).formed (out-DMatch m).value.length ls

-- whether an arm of a case is formed, its items for selectors of their own lengths
unfoldable pub is_arm : List ℕ → List ℕ → Bool → (Bool → Bool) → DArm → Bool
is_arm vs ls inside kinds a = list_all (is_item vs ls) (out-DArm a).matches && is_body vs ls inside kinds (out-DArm a).body

-- whether an item has this length
abbrev pub has_size : ℕ → DMatch → Bool
has_size n m = (out-DMatch m).value.length == n

-- whether all items of an arm have this length
abbrev pub has_sizes : ℕ → DArm → Bool
has_sizes n a = list_all (has_size n) (out-DArm a).matches
