-- Trees that are formed over signals of some values.
use Rattle.std.specs.Prelude.{◌≡◌, Bool, true, false, List, [], length, map}
use Rattle.design_core.specs.declared.tree.DExpr.{DExpr}
use Rattle.design_core.specs.declared.tree.DStmt.{DStmt}
use Rattle.design_core.specs.declared.tree.DMatch.{DMatch}
use Rattle.design_core.specs.declared.tree.DArm.{DArm}
use Rattle.formed_trees.specs.declared.lefts.SizedLeft.{SizedLeft}
use Rattle.formed_trees.specs.Trees.{is_arm, is_body, is_formed, is_item, is_left}

-- an expression outside functions, over signals of these values
abbrev pub IsExpr : List (List Bool) → DExpr → Type 0
IsExpr signals e = is_formed (map length signals) [] e ≡ true

-- a left side outside functions, of the length that it carries
abbrev pub IsLeft : List (List Bool) → SizedLeft → Type 0
IsLeft signals l = is_left (map length signals) [] false l.length l.left ≡ true

abbrev pub any_kind : Bool → Bool
any_kind blocking = true

-- a statement outside functions
abbrev pub IsStmt : List (List Bool) → DStmt → Type 0
IsStmt signals s = is_body (map length signals) [] false any_kind s ≡ true

abbrev pub IsItem : List (List Bool) → DMatch → Type 0
IsItem signals m = is_item (map length signals) [] m ≡ true

abbrev pub IsArm : List (List Bool) → DArm → Type 0
IsArm signals a = is_arm (map length signals) [] false any_kind a ≡ true
