-- Which parts of a statement are run.
use Rattle.std.specs.Prelude.{◌≡◌, ℕ, Bool, false, not, ◌&&◌, ◌||◌, List, [], ◌∷◌, length, map, drop, replicate, All, Option, if◌then◌else◌}
use Rattle.bits_core.specs.Places.{is_set}
use Rattle.design_core.specs.declared.tree.DLeft.TheOpen.{DStmt-F}
use Rattle.design_core.specs.declared.tree.DStmt.{DStmt, out-DStmt}
use Rattle.design_core.specs.declared.tree.DArm.{DArm, out-DArm}
use Rattle.design_core.specs.declared.tree.DMatch.{DMatch, out-DMatch}
use Rattle.design_core.specs.Core.{St, Stmt, exec}
use Rattle.design_core.specs.Operators.{all_match}
use Rattle.design_core.specs.Terms.{free_bits}
use Rattle.tree_parts.specs.Parts.{StmtLayer}
use Rattle.value_domain.specs.Meaning.{Meaning}
use Rattle.value_domain.specs.Words.{FreeFits, IsGuard, allows}

-- some item matches the selector, where the items have these values (9.5.1)
abbrev pub some_hit : List DMatch → List Bool → List (List Bool) → Bool
some_hit [] selector values = false
some_hit (x ∷ xs) selector [] = false
some_hit (x ∷ xs) selector (v ∷ vs) = all_match selector v (free_bits (out-DMatch x).free) || some_hit xs selector vs

-- for each arm whether it matches; the values are those of all items in order
abbrev pub arm_hits : List DArm → List Bool → List (List Bool) → List Bool
arm_hits [] selector values = []
arm_hits (a ∷ as') selector values = some_hit (out-DArm a).matches selector values ∷ arm_hits as' selector (drop (length (out-DArm a).matches) values)

-- where each of some tests is the first that holds, and last where none holds; nowhere if `left` is false
abbrev pub firsts : Bool → List Bool → List Bool
firsts left [] = left ∷ []
firsts left (t ∷ ts) = (left && t) ∷ firsts (left && not t) ts

-- whether each part of a statement is run, where the statement is run or not and what it asks for has these values:
-- all parts of a block, one branch of an `if`, the body of the first arm that matches or else the default (9.4, 9.5)
abbrev pub allowed_in : StmtLayer → Bool → List (List Bool) → List Bool
allowed_in (DStmt-F.Block parts) runs values = replicate (length parts) runs
allowed_in (DStmt-F.Write left right blocking) runs values = []
allowed_in (DStmt-F.If test a b) runs [] = []
allowed_in (DStmt-F.If test a b) runs (v ∷ vs) = firsts runs (is_set v ∷ [])
allowed_in (DStmt-F.Case selector arms rest) runs [] = []
allowed_in (DStmt-F.Case selector arms rest) runs (v ∷ vs) = firsts runs (arm_hits arms v vs)
allowed_in (DStmt-F.Turns parts) runs values = replicate (length parts) runs

unfoldable pub allowed_of : DStmt → Bool → List (List Bool) → List Bool
allowed_of s = allowed_in (out-DStmt s)

-- each of some statements in turn, where it is allowed
abbrev pub run_each : List Bool → List Stmt → St → St
run_each [] ss t = t
run_each (b ∷ bs) [] t = t
run_each (b ∷ bs) (s ∷ ss) t = run_each bs ss (if b then exec s t else t)

-- an item has a selector's length, and so have its free bits
abbrev pub ItemFits : ℕ → DMatch → Type 0
ItemFits n x = ((out-DMatch x).value.length ≡ n) × FreeFits (out-DMatch x).free n

abbrev pub items_fit_in : StmtLayer → Type 0
items_fit_in (DStmt-F.Block parts) = Unit {0}
items_fit_in (DStmt-F.Write left right blocking) = Unit {0}
items_fit_in (DStmt-F.If test a b) = Unit {0}
items_fit_in (DStmt-F.Case selector arms rest) = All (λ (a : DArm). All (ItemFits selector.length) (out-DArm a).matches) arms
items_fit_in (DStmt-F.Turns parts) = Unit {0}

unfoldable pub ItemsFit : DStmt → Type 0
ItemsFit s = items_fit_in (out-DStmt s)

module _ {S V : Type 0} (m : Meaning S V) where
  -- guards that allow so under each valuation
  pub record AreGuards (d : S) (guards : List (Option V)) (allowed : (ℕ → Bool) → List Bool) : Type 0 where
    pub are : All (IsGuard m d) guards
    pub allow : (v : ℕ → Bool) → map (allows m d v) guards ≡ allowed v

  -- a value that tells a truth under each valuation
  pub record Tells (d : S) (x : V) (truth : (ℕ → Bool) → Bool) : Type 0 where
    pub is_one : m.is_value d x
    pub tells : (v : ℕ → Bool) → is_set (m.reads d v x) ≡ truth v

  -- values that tell truths
  pub record AllTell (d : S) (xs : List V) (truths : (ℕ → Bool) → List Bool) : Type 0 where
    pub are : All (m.is_value d) xs
    pub tell : (v : ℕ → Bool) → map (λ x. is_set (m.reads d v x)) xs ≡ truths v
