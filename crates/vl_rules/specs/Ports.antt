-- The head of a module: its parameters, and its ports, declared there or named alone.
use Rattle.std.specs.Prelude.{List, Some, None, Option}
use Rattle.vl_tree.specs.declared.words.Word.TheVariants as word
use Rattle.vl_tree.specs.declared.modules.Pdecl.{Pdecl}
use Rattle.vl_tree.specs.declared.modules.AnsiHead.{AnsiHead}
use Rattle.vl_tree.specs.declared.modules.Ansi.{Ansi}
use Rattle.vl_tree.specs.declared.modules.Ports.{Ports}
use Rattle.vl_tree.specs.declared.modules.Ports.TheVariants as ports
use Rattle.vl_rules.specs.Form.{Form, fixed, made, one_and}
use Rattle.vl_rules.specs.Shapes.{◌∣◌, ◌▸◌, ◌⊗◌, maybe, flag, list, name, after_equals, in_parens}
use Rattle.vl_rules.specs.Declarations.{range, type_form, direction, net_word, var}

unfoldable pub first_parameter : Form Pdecl
first_parameter = made (λ x. record { word = Some x.0.0; name = x.0.1; value = x.1 }) (fixed word.Parameter ▸ type_form ⊗ name ⊗ after_equals)

unfoldable pub next_parameter : Form Pdecl
next_parameter = made (λ x. record { word = None; name = x.0; value = x.1 }) (name ⊗ after_equals)

unfoldable pub other_parameter : Form Pdecl
other_parameter = first_parameter ∣ next_parameter

-- the first parameter has the word `parameter`
unfoldable pub parameters : Form (List Pdecl)
parameters = one_and first_parameter (fixed word.Comma ▸ other_parameter)

unfoldable pub parameter_part : Form (Option (List Pdecl))
parameter_part = maybe (fixed word.Hash ▸ in_parens parameters)

unfoldable pub port_head : Form AnsiHead
port_head = made (λ x. record { dir = x.0.0.0; net = x.0.0.1; signed = x.0.1; range = x.1 }) (direction ⊗ maybe net_word ⊗ flag word.Signed ⊗ maybe range)

unfoldable pub first_port : Form Ansi
first_port = made (λ x. record { head = Some x.0; var = x.1 }) (port_head ⊗ var)

unfoldable pub next_port : Form Ansi
next_port = made (λ x. record { head = None; var = x }) var

unfoldable pub other_port : Form Ansi
other_port = first_port ∣ next_port

-- the first port has a direction
unfoldable pub declared_ports : Form (List Ansi)
declared_ports = one_and first_port (fixed word.Comma ▸ other_port)

unfoldable pub port_list : Form Ports
port_list = made ports.Declared declared_ports ∣ made ports.Names (list name)

unfoldable pub port_part : Form (Option (Option Ports))
port_part = maybe (in_parens (maybe port_list))
