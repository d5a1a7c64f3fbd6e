-- Instances of modules, and gates.
use Rattle.std.specs.Prelude.{Bool, true, false, if◌then◌else◌, ◌==◌, List, [], ◌∷◌, length, Option, Some, None}
use Rattle.std.specs.List.{list_all}
use Rattle.vl_tree.specs.declared.words.Word.TheVariants as word
use Rattle.vl_tree.specs.declared.modules.NamedBind.{NamedBind}
use Rattle.vl_tree.specs.declared.modules.Binds.{Binds}
use Rattle.vl_tree.specs.declared.modules.Binds.TheVariants as binds
use Rattle.vl_tree.specs.declared.modules.Instance.{Instance}
use Rattle.vl_tree.specs.declared.modules.Gate.{Gate}
use Rattle.vl_tree.specs.declared.modules.Gate.TheVariants as gate
use Rattle.vl_tree.specs.declared.modules.GateInstance.{GateInstance}
use Rattle.vl_tree.specs.declared.modules.InstanceItem.{InstanceItem}
use Rattle.vl_tree.specs.declared.modules.GateItem.{GateItem}
use Rattle.vl_rules.specs.Form.{Form, fixed, value, made, such}
use Rattle.vl_rules.specs.Shapes.{◌∣◌, ◌▸◌, ◌◂◌, ◌⊗◌, maybe, means, list, in_parens, ended, name}
use Rattle.vl_rules.specs.Events.{left_side}

unfoldable pub named_bind : Form NamedBind
named_bind = made (λ x. record { name = x.0; value = x.1 }) (fixed word.Dot ▸ name ⊗ in_parens (maybe value))

unfoldable pub values : Form Binds
values = made binds.Named (list named_bind) ∣ made binds.Ordered (list (maybe value))

abbrev pub is_nothing : Binds → Bool
is_nothing (binds.Ordered (None ∷ [])) = true
is_nothing _ = false

-- values are absent where nothing stands
abbrev pub present : Binds → Option Binds
present b = if is_nothing b then None else Some b

unfoldable pub instance : Form Instance
instance = made (λ x. record { name = x.0; binds = present x.1 }) (name ⊗ in_parens values)

unfoldable pub overrides : Form (Option Binds)
overrides = maybe (fixed word.Hash ▸ in_parens values)

unfoldable pub instances_item : Form InstanceItem
instances_item = made (λ x. record { «module» = x.0.0; overrides = x.0.1; instances = x.1 }) (ended (name ⊗ overrides ⊗ list instance))

unfoldable pub gate_word : Form Gate
gate_word =
    means word.And gate.And ∣ means word.Nand gate.Nand ∣ means word.Or gate.Or ∣ means word.Nor gate.Nor
    ∣ means word.Xor gate.Xor ∣ means word.Xnor gate.Xnor ∣ means word.Buf gate.Buf ∣ means word.Not gate.Not

unfoldable pub gate_instance : Form GateInstance
gate_instance = made (λ x. record { name = x.0; output = x.1.0; inputs = x.1.1 }) (maybe name ⊗ in_parens (left_side ◂ fixed word.Comma ⊗ list value))

abbrev pub has_one_input : GateInstance → Bool
has_one_input g = length g.inputs == 1

-- `buf` and `not` have one input
abbrev pub right_inputs_of : Gate → List GateInstance → Bool
right_inputs_of gate.Buf gs = list_all has_one_input gs
right_inputs_of gate.Not gs = list_all has_one_input gs
right_inputs_of _ gs = true

abbrev pub right_inputs : GateItem → Bool
right_inputs g = right_inputs_of g.gate g.gates

unfoldable pub any_gates : Form GateItem
any_gates = made (λ x. record { gate = x.0; gates = x.1 }) (ended (gate_word ⊗ list gate_instance))

unfoldable pub gates_item : Form GateItem
gates_item = such right_inputs any_gates
