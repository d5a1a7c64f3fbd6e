-- When a case without default finds an item for every value of its selector: a test over all values.
use Rattle.std.specs.Prelude.{◌≡◌, ℕ, zero, suc, Bool, true, false, ◌||◌, List, [], ◌∷◌, ◌++◌, map, length}
use Rattle.std.specs.List.{list_all}
use Rattle.bits_core.specs.Places.{is_set}
use Rattle.design_core.specs.Core.{Assignment, Term, value}
use Rattle.design_core.specs.Operators.{all_match}
use Rattle.design_core.specs.Covers.{Arm, some_holds}

-- all lists of n bits
abbrev pub words : ℕ → List (List Bool)
words zero = [] ∷ []
words (suc n) = map (λ w. false ∷ w) (words n) ++ map (λ w. true ∷ w) (words n)

-- some item of an arm, a value with its free bits, matches
abbrev pub item_matches : List Bool → List (List Bool × List Bool) → Bool
item_matches v [] = false
item_matches v (i ∷ is) = all_match v i.0 i.1 || item_matches v is

-- some arm has such an item
abbrev pub arm_matches : List Bool → List (List (List Bool × List Bool)) → Bool
arm_matches v [] = false
arm_matches v (a ∷ as') = item_matches v a || arm_matches v as'

-- each value of m bits, brought to the common length, has an item
abbrev pub covers_values : ℕ → (List Bool → List Bool) → List (List (List Bool × List Bool)) → Bool
covers_values m widen arms = list_all (λ v. arm_matches (widen v) arms) (words m)

-- the tests of the arms are those of their items: constants, against the selector
abbrev pub TestItems : Term → List Arm → List (List (List Bool × List Bool)) → Type 0
TestItems selector [] [] = Unit {0}
TestItems selector [] (i ∷ is) = ⊥
TestItems selector (a ∷ as') [] = ⊥
TestItems selector (a ∷ as') (i ∷ is) = ((σ : Assignment) (λs : List (List Bool)) → is_set (value a.test σ λs) ≡ item_matches (value selector σ λs) i) × TestItems selector as' is

-- a case whose selector is an expression of m bits brought to the common length, and whose items are constants of which one matches each value, always finds its item
abbrev pub CoversAlways : Type 0
CoversAlways = (selector inner : Term) (m : ℕ) (widen : List Bool → List Bool) (arms : List Arm) (items : List (List (List Bool × List Bool)))
    → ((σ : Assignment) (λs : List (List Bool)) → length (value inner σ λs) ≡ m) → ((σ : Assignment) (λs : List (List Bool)) → value selector σ λs ≡ widen (value inner σ λs))
    → TestItems selector arms items → covers_values m widen items ≡ true
    → (σ : Assignment) (λs : List (List Bool)) → some_holds arms σ λs ≡ true
