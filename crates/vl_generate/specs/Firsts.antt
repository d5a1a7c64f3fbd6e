-- Which arm of a `case` is taken (IEEE 1364-2005, 12.4.2), by the arms themselves.
use Rattle.std.specs.Prelude.{◌≡◌, ℕ, suc, Bool, true, false, Option, Some, None, Ok}
use Rattle.vl_tree.specs.Outcomes.{Outcome}
use Rattle.vl_size.specs.declared.constant.Const.{Const}
use Rattle.vl_size.specs.declared.tree.Size.{Size}
use Rattle.vl_const.specs.Scopes.{Meaning}
use Rattle.vl_items.specs.Parts.{Arm, Arms, matched, otherwise, no_arm, arm}
use Rattle.vl_generate.specs.Branches.{Found, some_match, of_arms, no_match}

-- an item of the arm has the selector's value
abbrev pub matches : Meaning → Size → Const → Arm → Outcome Bool
matches m x c (matched es b) = some_match m x c false es
matches m x c (otherwise b) = Ok false

abbrev pub is_default : Arm → Outcome Bool
is_default (matched es b) = Ok false
is_default (otherwise b) = Ok true

-- the place of the first arm for which the test holds, if there is one
pub data First (test : Arm → Outcome Bool) : Arms → Option ℕ → Type 0 where
  nowhere : First test no_arm None
  here : (a : Arm) (as' : Arms) → test a ≡ Ok true → First test (arm a as') (Some 0)
  behind : (a : Arm) (as' : Arms) (n : ℕ) → test a ≡ Ok false → First test as' (Some n) → First test (arm a as') (Some (suc n))
  never : (a : Arm) (as' : Arms) → test a ≡ Ok false → First test as' None → First test (arm a as') None

-- the arm that matches is the first that does, and so is the `default`
abbrev pub FirstArmsCount : Type 0
FirstArmsCount = (m : Meaning) (x : Size) (c : Const) (as' : Arms) (f : Found) → of_arms m x c 0 no_match as' ≡ Ok f → First (matches m x c) as' f.match × First is_default as' f.default
