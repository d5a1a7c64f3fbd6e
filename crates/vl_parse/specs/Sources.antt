-- What the parser of sources answers.
use Rattle.std.specs.Prelude.{◌≡◌, List, [], ◌∷◌}
use Rattle.vl_tree.specs.declared.tokens.Token.{Token}
use Rattle.vl_tree.specs.declared.faults.Code.TheVariants as code
use Rattle.vl_tree.specs.declared.faults.Place.TheVariants as place
use Rattle.vl_tree.specs.declared.faults.Place.{Place}
use Rattle.vl_tree.specs.declared.faults.Stop.{Stop}
use Rattle.vl_tree.specs.declared.faults.Stop.TheVariants as stop
use Rattle.vl_tree.specs.declared.modules.Module.{Module}
use Rattle.vl_grammar.specs.Read.{Tokens}
use Rattle.vl_expr.specs.declared.errors.ReadError.{ReadError}
use Rattle.vl_expr.specs.declared.errors.ReadError.TheVariants as error
use Rattle.vl_rules.specs.Modules.{module_form, source, Stands}
use Rattle.vl_rules.specs.Files.{cut, Breaks}

-- the modules are a source of these tokens
abbrev pub IsSource : List Module → Tokens → Type 0
IsSource modules tokens = Stands source modules tokens []

-- no source spells the tokens
abbrev pub NoSource : Tokens → Type 0
NoSource tokens = (modules : List Module) → IsSource modules tokens → ⊥

-- why no source is given: there is none, and the fault stands at the first token of the first part that no module spells; or memory was wanting
abbrev pub Refuses : Tokens → Stop → Type 0
Refuses tokens (stop.Fault fault) =
    NoSource tokens × (fault.code ≡ code.Syntax) × ((t : Token) × Breaks (cut tokens) t × (fault.place ≡ place.Line t.span.file t.span.line))
Refuses tokens (stop.Limit limit) = ⊥
Refuses tokens stop.NoMemory = Unit {0}

-- Part by part

-- the module spells the first part, and what is behind that part is the rest
pub record IsFirst (m : Module) (tokens rest : Tokens) : Type 0 where
  pub part : Tokens
  pub is : cut tokens ≡ part ∷ cut rest
  pub stands : Stands module_form m part []

abbrev pub line_of : Token → Place
line_of t = place.Line t.span.file t.span.line

-- what is answered where a part that begins with this token is not read
abbrev pub refusal : ReadError → Token → Stop
refusal error.NoMemory t = stop.NoMemory
refusal error.Refused t = stop.Fault (record { code = code.Syntax; place = line_of t })

-- no module spells the first part
pub record Broken (tokens : Tokens) (t : Token) : Type 0 where
  pub rest : Tokens
  pub part : Tokens
  pub behind : Tokens
  pub begins : tokens ≡ t ∷ rest
  pub is : cut tokens ≡ part ∷ cut behind
  pub none : (m : Module) → Stands module_form m part [] → ⊥

abbrev pub FirstRefused : Tokens → Stop → Type 0
FirstRefused tokens (stop.Fault fault) = (t : Token) × (fault ≡ record { code = code.Syntax; place = line_of t }) × Broken tokens t
FirstRefused tokens (stop.Limit limit) = ⊥
FirstRefused tokens stop.NoMemory = Unit {0}
