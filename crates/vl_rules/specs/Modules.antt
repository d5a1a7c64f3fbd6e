-- Modules, sources, and the rules that lead back to themselves.
use Rattle.std.specs.Prelude.{ℕ, zero, suc, List, Option}
use Rattle.vl_tree.specs.declared.tokens.Token.{Token}
use Rattle.vl_tree.specs.declared.words.Word.TheVariants as word
use Rattle.vl_tree.specs.declared.modules.Pdecl.{Pdecl}
use Rattle.vl_tree.specs.declared.modules.Ports.{Ports}
use Rattle.vl_tree.specs.declared.modules.Item.{Item}
use Rattle.vl_tree.specs.declared.modules.Module.{Module}
use Rattle.vl_grammar.specs.Read.{Tokens, Parser, refuse}
use Rattle.vl_rules.specs.Form.{Form, fixed, made, many, rule, Rule, lval, stmt, item, Tree, Spells, reads}
use Rattle.vl_rules.specs.Shapes.{◌▸◌, ◌◂◌, ◌⊗◌, name}
use Rattle.vl_rules.specs.Ports.{parameter_part, port_part}
use Rattle.vl_rules.specs.Events.{left_side}
use Rattle.vl_rules.specs.Statements.{statement}
use Rattle.vl_rules.specs.Items.{item_form}

-- a module up to its `endmodule`
unfoldable pub module_text : Form (((Token × Option (List Pdecl)) × Option (Option Ports)) × List Item)
module_text =
    fixed word.Module ▸ name ⊗ parameter_part ⊗ port_part ◂ fixed word.Semicolon ⊗ many (rule item)

unfoldable pub module_form : Form Module
module_form =
    made (λ x. record { name = x.0.0.0; parameters = x.0.0.1; ports = x.0.1; items = x.1 }) (module_text ◂ fixed word.EndModule)

unfoldable pub source : Form (List Module)
source = many module_form

unfoldable pub body : (r : Rule) → Form (Tree r)
body lval = left_side
body stmt = statement
body item = item_form

unfoldable pub spelled_to : ℕ → (r : Rule) → Tree r → Tokens → Tokens → Type 0
spelled_to zero r x ts rest = ⊥
spelled_to (suc n) r x ts rest = Spells (spelled_to n) (body r) x ts rest

unfoldable pub read_to : ℕ → (r : Rule) → Parser (Tree r)
read_to zero r = refuse
read_to (suc n) r = reads (read_to n) (body r)

-- a tree of a form spells the tokens up to the rest, with rules nested to some depth
abbrev pub Stands : {A : Type 0} → Form A → A → Tokens → Tokens → Type 0
Stands p x ts rest = (n : ℕ) × Spells (spelled_to n) p x ts rest
