-- What is kept of the declarations of a scope, and what it tells of one more.
use Rattle.std.specs.Prelude.{ℕ, Bool, true, false, ◌||◌, List, [], ◌∷◌}
use Rattle.vl_items.specs.Declarations.{added, is_among}
use Rattle.vl_names.specs.Names.{listed}
use Rattle.declared_once.specs.Declarations.{Declaration}
use Rattle.declared_once.specs.declared.declared.Declared as code
use Rattle.declared_once.specs.declared.declared.Role.{Role}
use Rattle.declared_once.specs.declared.declared.Role.TheVariants.{Direction, Net, Whole}
use Rattle.declared_once.specs.declared.declared.Judgement.{Judgement}
use Rattle.declared_once.specs.declared.declared.Judgement.TheVariants.{First, Second, Clash}

-- the names of which a direction, a type, or all was declared
pub record Kept : Type 0 where
  pub directions : List (List ℕ)
  pub types : List (List ℕ)
  pub wholes : List (List ℕ)

abbrev pub kept : code.Declared → Kept
kept d = record { directions = listed d.directions; types = listed d.types; wholes = listed d.wholes }

abbrev pub nothing : Kept
nothing = record { directions = []; types = []; wholes = [] }

abbrev pub with_name : Kept → Role → List ℕ → Kept
with_name k Direction x = record { directions = added k.directions x; types = k.types; wholes = k.wholes }
with_name k Net x = record { directions = k.directions; types = added k.types x; wholes = k.wholes }
with_name k Whole x = record { directions = k.directions; types = k.types; wholes = added k.wholes x }

-- a part of a port, where the same part or all was declared, where the other part was, and whether the bounds are those of the first declaration
abbrev pub of_part : Bool → Bool → Bool → Judgement
of_part true other same = Clash
of_part false true true = Second
of_part false true false = Clash
of_part false false same = First

-- one more declaration of a name; `same` says whether it has the bounds of the name's first one
abbrev pub judge : Kept → Role → List ℕ → Bool → Judgement
judge k Direction x same = of_part (is_among x k.directions || is_among x k.wholes) (is_among x k.types) same
judge k Net x same = of_part (is_among x k.types || is_among x k.wholes) (is_among x k.directions) same
judge k Whole x same = of_part (is_among x k.directions || (is_among x k.types || is_among x k.wholes)) false same

-- what is kept of declarations, the last one in front
abbrev pub kept_of : List Declaration → Kept
kept_of [] = nothing
kept_of (d ∷ ds) = with_name (kept_of ds) d.role d.name
