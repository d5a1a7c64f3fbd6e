-- Places of items and blocks among the items of a module: the number of an item, that of the block taken in it, and so on, from the outside in.
use Rattle.std.specs.Prelude.{◌≡◌, ℕ, zero, suc, List, [], ◌∷◌, ◌++◌, Option, Some, None}
use Rattle.vl_tree.specs.declared.expressions.Expr.{Expr}
use Rattle.vl_tree.specs.declared.modules.LoopHead.{LoopHead}
use Rattle.vl_items.specs.Parts.{Part, Parts, Body, Arm, Arms, none, more, region, loop, choice, cases, begun, single, hollow, absent, matched, otherwise, no_arm, arm}

-- the item of this number
abbrev pub item_at : Parts → ℕ → Option Part
item_at none n = None
item_at (more p ps) zero = Some p
item_at (more p ps) (suc n) = item_at ps n

-- the items of a block
abbrev pub block_parts : Body → Parts
block_parts (begun name ps) = ps
block_parts (single p) = more p none
block_parts hollow = none
block_parts absent = none

-- the block of an arm
abbrev pub arm_block : Arm → Body
arm_block (matched values b) = b
arm_block (otherwise b) = b

-- the block of the arm of this number
abbrev pub arm_at : Arms → ℕ → Body
arm_at no_arm n = absent
arm_at (arm a as') zero = arm_block a
arm_at (arm a as') (suc n) = arm_at as' n

mutual
  -- An item stands at a place among some items: its number, where it is one of them; behind the place of a region or of a block, its number there.
  pub data ItemAt : Parts → List ℕ → Part → Type 0 where
    among : {ps : Parts} {n : ℕ} {p : Part} → item_at ps n ≡ Some p → ItemAt ps (n ∷ []) p
    in_region : {ps qs : Parts} {at : List ℕ} {p : Part} (n : ℕ) → ItemAt ps at (region qs) → item_at qs n ≡ Some p → ItemAt ps (at ++ n ∷ []) p
    in_block : {ps : Parts} {at : List ℕ} {b : Body} {p : Part} (n : ℕ) → BlockAt ps at b → item_at (block_parts b) n ≡ Some p → ItemAt ps (at ++ n ∷ []) p

  -- A block stands at the place of its construct and the number of its branch: 0 for that of a loop and for the first of an `if`, 1 for that of an
  -- `else`, and in a `case` the number of its arm.
  pub data BlockAt : Parts → List ℕ → Body → Type 0 where
    of_loop : {ps : Parts} {at : List ℕ} {h : LoopHead} {b : Body} → ItemAt ps at (loop h b) → BlockAt ps (at ++ 0 ∷ []) b
    of_if : {ps : Parts} {at : List ℕ} {e : Expr} {b c : Body} → ItemAt ps at (choice e b c) → BlockAt ps (at ++ 0 ∷ []) b
    of_else : {ps : Parts} {at : List ℕ} {e : Expr} {b c : Body} → ItemAt ps at (choice e b c) → BlockAt ps (at ++ 1 ∷ []) c
    of_arm : {ps : Parts} {at : List ℕ} {e : Expr} {as' : Arms} (n : ℕ) → ItemAt ps at (cases e as') → BlockAt ps (at ++ n ∷ []) (arm_at as' n)
