-- The boxes of a design, and the scopes that are boxes or stand inside one.
use Rattle.std.specs.Prelude.{◌≡◌, ℕ, suc, ◌<◌, ◌==◌, Bool, false, if◌then◌else◌, List, [], ◌∷◌, length, slice_index_or}
use Rattle.std.specs.List.{list_any}
use Rattle.std.specs.Str.{bytes_eq}
use Rattle.design_core.specs.declared.signals.Scope.{Scope}
use Rattle.design_core.specs.Parts.{is_boxed}

-- a module is one of the names
abbrev pub is_named : List (List ℕ) → List ℕ → Bool
is_named names m = list_any (λ n. bytes_eq m n) names

-- the scopes of these modules, by their numbers, where the first has the number k
abbrev pub boxes_from : List (List ℕ) → ℕ → List Scope → List ℕ
boxes_from names k [] = []
boxes_from names k (x ∷ xs) = if is_named names x.module then k ∷ boxes_from names (suc k) xs else boxes_from names (suc k) xs

-- a scope is one of the numbers
abbrev pub is_among : List ℕ → ℕ → Bool
is_among numbers s = list_any (λ n. n == s) numbers

-- each mark says whether the scope is a box itself
abbrev pub AreHere : (ℕ → Bool) → List Bool → Type 0
AreHere boxes marks = (s : ℕ) → s < length marks → slice_index_or marks s false ≡ boxes s

-- one mark for each scope, which says whether it is one of the boxes or stands inside one
pub record AreBoxed (scopes : List Scope) (boxes : ℕ → Bool) (marks : List Bool) : Type 0 where
  pub count : length marks ≡ length scopes
  pub told : (s : ℕ) → s < length scopes → slice_index_or marks s false ≡ is_boxed scopes boxes s
