-- What is written, and what a process waits for.
use Rattle.std.specs.Prelude.{List, [], ◌∷◌}
use Rattle.vl_tree.specs.declared.tokens.Token.{Token}
use Rattle.vl_tree.specs.declared.words.Word.TheVariants as word
use Rattle.vl_tree.specs.declared.expressions.Select.{Select}
use Rattle.vl_tree.specs.declared.statements.Lval.{Lval}
use Rattle.vl_tree.specs.declared.statements.Lval.TheVariants as l
use Rattle.vl_tree.specs.declared.statements.EdgeWord.{EdgeWord}
use Rattle.vl_tree.specs.declared.statements.EdgeWord.TheVariants as side
use Rattle.vl_tree.specs.declared.statements.Edge.{Edge}
use Rattle.vl_tree.specs.declared.statements.Event.{Event}
use Rattle.vl_tree.specs.declared.statements.Event.TheVariants as event
use Rattle.vl_rules.specs.Form.{Form, empty, fixed, select_rest, made, one_and, rule, lval}
use Rattle.vl_rules.specs.Shapes.{◌∣◌, ◌▸◌, ◌◂◌, ◌⊗◌, maybe, means, list, in_parens, name}

unfoldable pub selects : Form (List Select)
selects = made (λ x. x ∷ []) (fixed word.LeftBracket ▸ select_rest) ∣ empty []

unfoldable pub left_side : Form Lval
left_side = made (λ x. l.Name x.0 x.1) (name ⊗ selects) ∣ made l.Concat (fixed word.LeftBrace ▸ list (rule lval) ◂ fixed word.RightBrace)

unfoldable pub edge_word : Form EdgeWord
edge_word = means word.Posedge side.Posedge ∣ means word.Negedge side.Negedge

unfoldable pub edge : Form Edge
edge = made (λ x. record { edge = x.0.0; name = x.0.1; selects = x.1 }) (maybe edge_word ⊗ name ⊗ selects)

unfoldable pub joint : Form Token
joint = fixed word.Or ∣ fixed word.Comma

unfoldable pub next_edge : Form Edge
next_edge = joint ▸ edge

unfoldable pub edges : Form (List Edge)
edges = one_and edge next_edge

unfoldable pub listed_events : Form Event
listed_events = means word.Star event.AnyInBrackets ∣ made event.Edges edges

unfoldable pub events : Form Event
events = means word.Star event.Any ∣ in_parens listed_events
