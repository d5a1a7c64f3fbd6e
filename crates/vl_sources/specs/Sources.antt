-- The modules of a source by name.
use Rattle.std.specs.Prelude.{◌≡◌, ℕ, Bool, List, [], ◌∷◌, ◌++◌, map, not, Option, Some, None, if◌then◌else◌}
use Rattle.vl_tree.specs.declared.modules.Module.{Module}
use Rattle.vl_size.specs.Terms.{name_at}
use Rattle.vl_names.specs.Names.{listed}
use Rattle.vl_items.specs.Declarations.{is_among, added}
use Rattle.vl_modules.specs.Modules.{parameters_of}
use Rattle.vl_sources.specs.declared.sources.KnownModules as code

-- The names of modules, each once; those of the parameters of each module that may be overridden; and the name of the first module of which an
-- earlier one has the name.
pub record Known : Type 0 where
  pub names : List (List ℕ)
  pub parameters : List (List (List ℕ))
  pub duplicate : Option (List ℕ)

abbrev pub seen : code.KnownModules → Known
seen k = record { names = listed k.names; parameters = map listed k.parameters; duplicate = k.duplicate }

abbrev pub or_first : Option (List ℕ) → List ℕ → Option (List ℕ)
or_first (Some first) name = Some first
or_first None name = Some name

abbrev pub first_of : Bool → Option (List ℕ) → List ℕ → Option (List ℕ)
first_of is_new before name = if is_new then before else or_first before name

abbrev pub with_module : Known → Module → Known
with_module k m = record {
  names = added k.names (name_at m.name);
  parameters = k.parameters ++ parameters_of m ∷ [];
  duplicate = first_of (not (is_among (name_at m.name) k.names)) k.duplicate (name_at m.name);
}

abbrev pub modules_from : Known → List Module → Known
modules_from k [] = k
modules_from k (m ∷ ms) = modules_from (with_module k m) ms

abbrev pub no_modules : Known
no_modules = record { names = []; parameters = []; duplicate = None }

abbrev pub known_modules : List Module → Known
known_modules ms = modules_from no_modules ms

-- where no two modules have one name, the names are those of the modules in order, and so are the parameters
abbrev pub ModulesStandInPlace : Type 0
ModulesStandInPlace = (ms : List Module) → (known_modules ms).duplicate ≡ None
    → ((known_modules ms).names ≡ map (λ m. name_at m.name) ms) × ((known_modules ms).parameters ≡ map parameters_of ms)
