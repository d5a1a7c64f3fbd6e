-- Ranges, types, parameters, nets and variables.
use Rattle.std.specs.Prelude.{Bool, true, false, Option, Some, None}
use Rattle.vl_tree.specs.declared.words.Word.TheVariants as word
use Rattle.vl_tree.specs.declared.statements.Range.{Range}
use Rattle.vl_tree.specs.declared.statements.Ptype.{Ptype}
use Rattle.vl_tree.specs.declared.statements.Ptype.TheVariants as ptype
use Rattle.vl_tree.specs.declared.statements.NetWord.{NetWord}
use Rattle.vl_tree.specs.declared.statements.NetWord.TheVariants as net
use Rattle.vl_tree.specs.declared.statements.ParameterWord.{ParameterWord}
use Rattle.vl_tree.specs.declared.statements.ParameterWord.TheVariants as constant
use Rattle.vl_tree.specs.declared.statements.Var.{Var}
use Rattle.vl_tree.specs.declared.modules.Dir.{Dir}
use Rattle.vl_tree.specs.declared.modules.Dir.TheVariants as dir
use Rattle.vl_tree.specs.declared.modules.ConstantValue.{ConstantValue}
use Rattle.vl_tree.specs.declared.modules.PortItem.{PortItem}
use Rattle.vl_tree.specs.declared.modules.NetItem.{NetItem}
use Rattle.vl_tree.specs.declared.modules.ParameterItem.{ParameterItem}
use Rattle.vl_rules.specs.Form.{Form, fixed, value, made}
use Rattle.vl_rules.specs.Shapes.{◌∣◌, ◌▸◌, ◌◂◌, ◌⊗◌, maybe, means, flag, list, ended, name, after_equals}

unfoldable pub range : Form Range
range = made (λ x. record { left = x.0; right = x.1 }) (fixed word.LeftBracket ▸ value ◂ fixed word.Colon ⊗ value ◂ fixed word.RightBracket)

-- a type is absent where neither a sign nor a range stands
abbrev pub vector_type : Bool × Option Range → Option Ptype
vector_type (false, None) = None
vector_type (false, Some r) = Some (ptype.Vector false (Some r))
vector_type (true, r) = Some (ptype.Vector true r)

unfoldable pub type_form : Form (Option Ptype)
type_form = means word.Integer (Some ptype.Integer) ∣ made vector_type (flag word.Signed ⊗ maybe range)

unfoldable pub direction : Form Dir
direction = means word.Input dir.Input ∣ means word.Output dir.Output

unfoldable pub net_word : Form NetWord
net_word = means word.Wire net.Wire ∣ means word.Reg net.Reg

unfoldable pub var : Form Var
var = made (λ x. record { name = x.0; value = x.1 }) (name ⊗ maybe after_equals)

unfoldable pub ports_item : Form PortItem
ports_item = made (λ x. record { dir = x.0.0.0.0; net = x.0.0.0.1; signed = x.0.0.1; range = x.0.1; names = x.1 })
    (ended (direction ⊗ maybe net_word ⊗ flag word.Signed ⊗ maybe range ⊗ list name))

unfoldable pub nets_item : Form NetItem
nets_item = made (λ x. record { net = x.0.0.0; signed = x.0.0.1; range = x.0.1; vars = x.1 }) (ended (net_word ⊗ flag word.Signed ⊗ maybe range ⊗ list var))

unfoldable pub constant_word : Form ParameterWord
constant_word = means word.Parameter constant.Parameter ∣ means word.LocalParam constant.LocalParam

unfoldable pub constant_value : Form ConstantValue
constant_value = made (λ x. record { name = x.0; value = x.1 }) (name ⊗ after_equals)

unfoldable pub constants_item : Form ParameterItem
constants_item = made (λ x. record { word = x.0.0; ptype = x.0.1; values = x.1 }) (ended (constant_word ⊗ type_form ⊗ list constant_value))
