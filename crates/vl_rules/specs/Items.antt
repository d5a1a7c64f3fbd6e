-- Items of a module.
use Rattle.std.specs.Prelude.{List}
use Rattle.vl_tree.specs.declared.tokens.Token.{Token}
use Rattle.vl_tree.specs.declared.words.Word.TheVariants as word
use Rattle.vl_tree.specs.declared.statements.Var.{Var}
use Rattle.vl_tree.specs.declared.statements.Stmt.{Stmt}
use Rattle.vl_tree.specs.declared.modules.Assignment.{Assignment}
use Rattle.vl_tree.specs.declared.modules.Process.{Process}
use Rattle.vl_tree.specs.declared.modules.Item.{Item}
use Rattle.vl_tree.specs.declared.modules.Item.TheVariants as i
use Rattle.vl_rules.specs.Form.{Form, fixed, made, many, rule, stmt, item}
use Rattle.vl_rules.specs.Shapes.{◌∣◌, ◌▸◌, ◌◂◌, ◌⊗◌, list, ended, name, after_equals}
use Rattle.vl_rules.specs.Declarations.{var, ports_item, nets_item, constants_item}
use Rattle.vl_rules.specs.Events.{left_side, events}
use Rattle.vl_rules.specs.Functions.{function}
use Rattle.vl_rules.specs.Instances.{instances_item, gates_item}
use Rattle.vl_rules.specs.Generate.{generated}

unfoldable pub assignment : Form Assignment
assignment = made (λ x. record { left = x.0; right = x.1 }) (left_side ⊗ after_equals)

unfoldable pub process : Form Process
process = made (λ x. record { event = x.0; body = x.1 }) (fixed word.Always ▸ fixed word.At ▸ events ⊗ rule stmt)

unfoldable pub integers_item : Form (List Var)
integers_item = fixed word.Integer ▸ ended (list var)

unfoldable pub loop_names_item : Form (List Token)
loop_names_item = fixed word.GenVar ▸ ended (list name)

unfoldable pub assigns_item : Form (List Assignment)
assigns_item = fixed word.Assign ▸ ended (list assignment)

unfoldable pub start_item : Form Stmt
start_item = fixed word.Initial ▸ rule stmt

unfoldable pub region : Form (List Item)
region = fixed word.Generate ▸ many (rule item) ◂ fixed word.EndGenerate

unfoldable pub declared_item : Form Item
declared_item =
    made i.Port ports_item
    ∣ made i.Net nets_item
    ∣ made i.Integer integers_item
    ∣ made i.GenVar loop_names_item
    ∣ made i.Parameter constants_item

unfoldable pub written_item : Form Item
written_item =
    made i.Assign assigns_item
    ∣ made i.Always process
    ∣ made i.Initial start_item
    ∣ made i.Function function

unfoldable pub placed_item : Form Item
placed_item = made i.Instances instances_item ∣ made i.Gates gates_item

unfoldable pub item_form : Form Item
item_form = declared_item ∣ written_item ∣ placed_item ∣ made i.Generate region ∣ made i.Gen generated
