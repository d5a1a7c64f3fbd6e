-- Which functions of a scope reach which through any calls, and which reach themselves (IEEE 1364-2005, 10.4; one that calls itself is no circuit).
use Rattle.std.specs.Prelude.{◌≡◌, ◌↔◌, ℕ, zero, suc, ◌+◌, Bool, true, ◌&&◌, List, [], ◌∷◌, length, slice_get, position, Option, Some, None, if◌then◌else◌}
use Rattle.std.specs.Str.{bytes_eq}
use Rattle.vl_items.specs.Declarations.{is_among, added}

-- the functions of a scope, by name, and beside each the names that its text calls; of two of one name the first counts
pub record Callers : Type 0 where
  pub names : List (List ℕ)
  pub calls : List (List (List ℕ))

abbrev pub names_or_none : Option (List (List ℕ)) → List (List ℕ)
names_or_none None = []
names_or_none (Some xs) = xs

abbrev pub calls_at : List (List (List ℕ)) → Option ℕ → List (List ℕ)
calls_at all None = []
calls_at all (Some at) = names_or_none (slice_get all at)

-- the names that a function calls
abbrev pub calls_of : Callers → List ℕ → List (List ℕ)
calls_of t x = calls_at t.calls (position (bytes_eq x) t.names)

-- whether the function x calls the function y of the scope
abbrev pub calls_it : Callers → List ℕ → List ℕ → Bool
calls_it t x y = is_among y (calls_of t x) && is_among y t.names

-- x calls y, through any calls
pub data Reaches (t : Callers) : List ℕ → List ℕ → Type 0 where
  direct : {x y : List ℕ} → calls_it t x y ≡ true → Reaches t x y
  further : {x y z : List ℕ} → calls_it t x y ≡ true → Reaches t y z → Reaches t x z

-- those of some names that are functions here, each once, behind others
abbrev pub with_known : List (List ℕ) → List (List ℕ) → List (List ℕ) → List (List ℕ)
with_known names seen [] = seen
with_known names seen (y ∷ ys) = with_known names (if is_among y names then added seen y else seen) ys

abbrev pub spread_on : (List (List ℕ) → List (List ℕ)) → Callers → List (List ℕ) → Option (List ℕ) → List (List ℕ)
spread_on go_on t seen None = seen
spread_on go_on t seen (Some x) = go_on (with_known t.names seen (calls_of t x))

-- what is reached, by the calls of each name in turn from the one at a place on; the number bounds the turns
unfoldable pub spread : ℕ → Callers → ℕ → List (List ℕ) → List (List ℕ)
spread zero t at seen = seen
spread (suc n) t at seen = spread_on (spread n t (at + 1)) t seen (slice_get seen at)

-- there are no more names than functions, so as many turns are enough
abbrev pub reached : Callers → List ℕ → List (List ℕ)
reached t x = spread (length t.names) t 0 (with_known t.names [] (calls_of t x))

abbrev pub circular_from : Callers → List (List ℕ) → List (List ℕ) → List (List ℕ)
circular_from t found [] = found
circular_from t found (x ∷ xs) = circular_from t (if is_among x (reached t x) then added found x else found) xs

-- the names of the functions that call themselves
abbrev pub circular_of : Callers → List (List ℕ)
circular_of t = circular_from t [] t.names

-- these are exactly the functions that reach themselves
abbrev pub CircularReach : Type 0
CircularReach = (t : Callers) (x : List ℕ) → (is_among x (circular_of t) ≡ true) ↔ Reaches t x x
