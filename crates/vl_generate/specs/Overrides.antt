-- Overrides of a module's parameters, by position and by name (IEEE 1364-2005, 12.2.2).
use Rattle.std.specs.Prelude.{ℕ, ◌+◌, Bool, true, false, List, [], ◌∷◌, length, replicate, position, slice_get, slice_set, nat_lt, Option, Some, None, Ok, Err, if◌then◌else◌}
use Rattle.std.specs.Str.{bytes_eq}
use Rattle.vl_tree.specs.declared.expressions.Expr.{Expr}
use Rattle.vl_tree.specs.declared.faults.Code.TheVariants.{BadOverride}
use Rattle.vl_tree.specs.declared.modules.Binds.{Binds}
use Rattle.vl_tree.specs.declared.modules.Binds.TheVariants as binds
use Rattle.vl_tree.specs.declared.modules.NamedBind.{NamedBind}
use Rattle.vl_tree.specs.Outcomes.{Outcome, and_then}
use Rattle.vl_size.specs.declared.constant.Const.{Const}
use Rattle.vl_size.specs.Terms.{term, name_at}
use Rattle.vl_const.specs.Scopes.{Meaning}
use Rattle.vl_generate.specs.declared.binding.Override.{Override}
use Rattle.vl_generate.specs.Values.{alone}
use Rattle.vl_generate.specs.declared.binding.Override.TheVariants.{Open, Kept, Value}

abbrev pub nothing_bound : Override
nothing_bound = Open

-- what is bound: a value, or nothing where none stands there
abbrev pub bound_value : Meaning → Option Expr → Outcome Override
bound_value m None = Ok Kept
bound_value m (Some e) = and_then (alone m (term e)) (λ c. Ok (Value c))

-- by position: no more than there are parameters
abbrev pub ordered : Meaning → ℕ → List Override → List (Option Expr) → Outcome (List Override)
ordered m at all [] = Ok all
ordered m at all (b ∷ bs) = if nat_lt at (length all) then and_then (bound_value m b) (λ o. ordered m (at + 1) (slice_set all at o) bs) else Err BadOverride

abbrev pub is_open : Option Override → Bool
is_open None = false
is_open (Some Open) = true
is_open (Some Kept) = false
is_open (Some (Value c)) = false

abbrev pub override_at : List Override → Option ℕ → Option Override
override_at all None = None
override_at all (Some at) = slice_get all at

abbrev pub set_at : List Override → Option ℕ → Override → List Override
set_at all None o = all
set_at all (Some at) o = slice_set all at o

-- by name: a parameter of the module, and none twice
abbrev pub by_name : Meaning → List (List ℕ) → List Override → List NamedBind → Outcome (List Override)
by_name m names all [] = Ok all
by_name m names all (b ∷ bs) =
    if is_open (override_at all (position (bytes_eq (name_at b.name)) names))
    then and_then (bound_value m b.value) (λ o. by_name m names (set_at all (position (bytes_eq (name_at b.name)) names) o) bs)
    else Err BadOverride

-- the override of each parameter that may be overridden, whose names these are
abbrev pub overrides : Meaning → List (List ℕ) → Option Binds → Outcome (List Override)
overrides m names None = Ok (replicate (length names) nothing_bound)
overrides m names (Some (binds.Ordered bs)) = ordered m 0 (replicate (length names) nothing_bound) bs
overrides m names (Some (binds.Named bs)) = by_name m names (replicate (length names) nothing_bound) bs

abbrev pub or_value : Option Override → Const → Const
or_value None c = c
or_value (Some Open) c = c
or_value (Some Kept) c = c
or_value (Some (Value v)) c = v

-- the value of a parameter: its override's, else its default
abbrev pub overridden : List (List ℕ) → List Override → List ℕ → Const → Const
overridden names all x c = or_value (override_at all (position (bytes_eq x) names)) c
