-- Why tokens are refused.
use Rattle.std.specs.Prelude.{◌≡◌, List, ⊤}
use Rattle.vl_tree.specs.declared.faults.Code.TheVariants as code
use Rattle.vl_tree.specs.declared.faults.Fault.{Fault}
use Rattle.vl_tree.specs.declared.faults.Place.TheVariants as place
use Rattle.vl_tree.specs.declared.faults.Stop.{Stop}
use Rattle.vl_tree.specs.declared.faults.Stop.TheVariants as stop
use Rattle.vl_lex.specs.Lexed.{Seen}
use Rattle.grammar_views.specs.Views.{BreaksAt}

-- the fault of syntax at a token
abbrev pub syntax_at : Seen → Fault
syntax_at t = record { code = code.Syntax; place = place.Line t.span.file t.span.line }

-- the fault of syntax stands where the tokens break; or memory was wanting
abbrev pub IsRefused : List Seen → Stop → Type 0
IsRefused tokens (stop.Fault f) = (first : Seen) × BreaksAt tokens first × (f ≡ syntax_at first)
IsRefused tokens (stop.Limit l) = ⊥
IsRefused tokens stop.NoMemory = ⊤
