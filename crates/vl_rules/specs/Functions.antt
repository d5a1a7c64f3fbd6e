-- Functions.
use Rattle.std.specs.Prelude.{List, Option}
use Rattle.vl_tree.specs.declared.words.Word.TheVariants as word
use Rattle.vl_tree.specs.declared.statements.FunctionInput.{FunctionInput}
use Rattle.vl_tree.specs.declared.statements.FunctionWord.{FunctionWord}
use Rattle.vl_tree.specs.declared.statements.FunctionWord.TheVariants as local
use Rattle.vl_tree.specs.declared.statements.Fdecl.{Fdecl}
use Rattle.vl_tree.specs.declared.statements.Fdecl.TheVariants as fdecl
use Rattle.vl_tree.specs.declared.statements.Function.{Function}
use Rattle.vl_rules.specs.Form.{Form, fixed, made, many, rule, stmt}
use Rattle.vl_rules.specs.Shapes.{◌∣◌, ◌▸◌, ◌◂◌, ◌⊗◌, maybe, means, flag, list, in_parens, ended, name}
use Rattle.vl_rules.specs.Declarations.{range, type_form}

unfoldable pub function_input : Form FunctionInput
function_input = made (λ x. record { signed = x.0.0; range = x.0.1; name = x.1 }) (fixed word.Input ▸ flag word.Signed ⊗ maybe range ⊗ name)

unfoldable pub inputs : Form (Option (List FunctionInput))
inputs = maybe (in_parens (list function_input))

unfoldable pub local_word : Form FunctionWord
local_word = means word.Input local.Input ∣ means word.Reg local.Reg

unfoldable pub vector : Form Fdecl
vector = made (λ x. fdecl.Vector x.0.0.0 x.0.0.1 x.0.1 x.1) (local_word ⊗ flag word.Signed ⊗ maybe range ⊗ ended (list name))

unfoldable pub declaration : Form Fdecl
declaration = made fdecl.Integer (fixed word.Integer ▸ ended (list name)) ∣ vector

unfoldable pub function : Form Function
function = made (λ x. record { automatic = x.0.0.0.0.0; result_type = x.0.0.0.0.1; name = x.0.0.0.1; inputs = x.0.0.1; declarations = x.0.1; body = x.1 })
    (fixed word.Function ▸ flag word.Automatic ⊗ type_form ⊗ name ⊗ inputs ◂ fixed word.Semicolon ⊗ many declaration ⊗ rule stmt ◂ fixed word.EndFunction)
