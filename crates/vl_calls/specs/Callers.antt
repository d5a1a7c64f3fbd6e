-- The functions of a scope that call themselves through any calls, by their text: also where nothing calls the function.
use Rattle.std.specs.Prelude.{List, [], ◌∷◌, ◌++◌, ℕ, if◌then◌else◌}
use Rattle.vl_size.specs.Terms.{name_at}
use Rattle.vl_tree.specs.declared.statements.Function.{Function}
use Rattle.vl_items.specs.Declarations.{is_among, added}
use Rattle.vl_items.specs.Parts as part
use Rattle.vl_items.specs.Parts.{Part, Parts}
use Rattle.vl_acts.specs.Heads.{inner_names}
use Rattle.vl_calls.specs.Called.{called}
use Rattle.vl_calls.specs.Reaching.{Callers, circular_of}

abbrev pub no_callers : Callers
no_callers = record { names = []; calls = [] }

-- of some names those that are not among others, behind what was found
abbrev pub without : List (List ℕ) → List (List ℕ) → List (List ℕ) → List (List ℕ)
without own found [] = found
without own found (x ∷ xs) = without own (if is_among x own then found else added found x) xs

-- an input or a local hides a function of that name; the function's own name does not
abbrev pub calls_from : Function → List (List ℕ)
calls_from f = without (inner_names f) [] (called f)

abbrev pub with_function : Callers → Function → Callers
with_function t f = if is_among (name_at f.name) t.names then t else record { names = t.names ++ name_at f.name ∷ []; calls = t.calls ++ calls_from f ∷ [] }

abbrev mutual
  pub with_part : Callers → Part → Callers
  with_part t (part.function f) = with_function t f
  with_part t (part.region ps) = with_parts t ps
  with_part t (part.port p) = t
  with_part t (part.net n) = t
  with_part t (part.integer vs) = t
  with_part t (part.genvar ts) = t
  with_part t (part.parameter p) = t
  with_part t (part.assign xs) = t
  with_part t (part.always p) = t
  with_part t (part.initial s) = t
  with_part t (part.instances i) = t
  with_part t (part.gates g) = t
  with_part t (part.loop h b) = t
  with_part t (part.choice e y n) = t
  with_part t (part.cases s as') = t

  -- the functions among the items of a scope
  pub with_parts : Callers → Parts → Callers
  with_parts t part.none = t
  with_parts t (part.more p ps) = with_parts (with_part t p) ps

-- the names of the functions among the items of a scope that call themselves
abbrev pub circular : Parts → List (List ℕ)
circular ps = circular_of (with_parts no_callers ps)
