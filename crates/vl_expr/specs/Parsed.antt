-- What a call that parses answers.
use Rattle.std.specs.Prelude.{◌≡◌, ℕ, ◌-◌, min, List, length, Option, None, Some, slice_get}
use Rattle.vl_tree.specs.declared.tokens.Token.{Token}
use Rattle.vl_tree.specs.declared.faults.Code.TheVariants as code
use Rattle.vl_tree.specs.declared.faults.Place.{Place}
use Rattle.vl_tree.specs.declared.faults.Place.TheVariants as place
use Rattle.vl_tree.specs.declared.faults.Stop.{Stop}
use Rattle.vl_tree.specs.declared.faults.Stop.TheVariants as stop
use Rattle.vl_grammar.specs.Longest.{NoneBegins}

-- where a token stands, and the first line of the first file where there is none
abbrev pub place_of : Option Token → Place
place_of (Some t) = place.Line t.span.file t.span.line
place_of None = place.Line 0 1

-- the place of the token at a place of the list, or of the last one where the list ends before it
abbrev pub place_at : List Token → ℕ → Place
place_at tokens at = place_of (slice_get tokens (min at (length tokens - 1)))

-- why no expression is given: none begins at the place, or memory was wanting
abbrev pub Refuses : List Token → ℕ → Stop → Type 0
Refuses tokens at (stop.Fault fault) = NoneBegins tokens at × (fault.code ≡ code.Syntax) × (fault.place ≡ place_at tokens at)
Refuses tokens at (stop.Limit limit) = ⊥
Refuses tokens at stop.NoMemory = Unit {0}
