-- What the text of a module says of its ports and parameters.
use Rattle.std.specs.Prelude.{ℕ, Bool, true, false, List, [], ◌∷◌, map, Option, Some, None, if◌then◌else◌}
use Rattle.vl_size.specs.Terms.{name_at}
use Rattle.vl_tree.specs.declared.modules.ConstantValue.{ConstantValue}
use Rattle.vl_tree.specs.declared.modules.Module.{Module}
use Rattle.vl_tree.specs.declared.modules.Pdecl.{Pdecl}
use Rattle.vl_tree.specs.declared.statements.ParameterWord.{ParameterWord}
use Rattle.vl_tree.specs.declared.statements.ParameterWord.TheVariants as word
use Rattle.vl_tree.specs.declared.statements.Var.{Var}
use Rattle.vl_names.specs.declared.table.Kind.TheVariants as is
use Rattle.vl_names.specs.Tables.{Names}
use Rattle.vl_items.specs.Declarations.{no_names, is_among, added, declare, declare_tokens, declare_constants, declare_ports}
use Rattle.vl_items.specs.Parts.{Part, Parts, none, more, part, parts_of, port, net, integer, genvar, parameter, assign, always, initial, function, instances, gates, region, loop, choice, cases}

abbrev mutual
  pub declare_port_part : Names → Part → Names
  declare_port_part t (port p) = declare_tokens is.Signal p.signed t p.names
  declare_port_part t (net n) = t
  declare_port_part t (integer vs) = t
  declare_port_part t (genvar ts) = t
  declare_port_part t (parameter p) = t
  declare_port_part t (assign xs) = t
  declare_port_part t (always p) = t
  declare_port_part t (initial s) = t
  declare_port_part t (function f) = t
  declare_port_part t (instances i) = t
  declare_port_part t (gates g) = t
  declare_port_part t (region ps) = declare_port_parts t ps
  declare_port_part t (loop h b) = t
  declare_port_part t (choice c y n) = t
  declare_port_part t (cases s as') = t

  pub declare_port_parts : Names → Parts → Names
  declare_port_parts t none = t
  declare_port_parts t (more p ps) = declare_port_parts (declare_port_part t p) ps

abbrev pub items_of : Module → Parts
items_of m = parts_of (map part m.items)

-- the names of a module's ports: those of its head, and those to which its body gives a direction
abbrev pub ports_of : Module → List (List ℕ)
ports_of m = (declare_port_parts (declare_ports no_names m.ports) (items_of m)).names

-- of a declaration, the names that are among these
abbrev pub declare_among : List (List ℕ) → Bool → Names → List Var → Names
declare_among xs signed t [] = t
declare_among xs signed t (v ∷ vs) = declare_among xs signed (if is_among (name_at v.name) xs then declare is.Signal signed t (name_at v.name) else t) vs

-- the names that a stub declares: its ports and its parameters
abbrev mutual
  pub declare_stub_part : List (List ℕ) → Names → Part → Names
  declare_stub_part xs t (port p) = declare_tokens is.Signal p.signed t p.names
  declare_stub_part xs t (net n) = declare_among xs n.signed t n.vars
  declare_stub_part xs t (integer vs) = declare_among xs true t vs
  declare_stub_part xs t (genvar ts) = t
  declare_stub_part xs t (parameter p) = declare_constants t p.values
  declare_stub_part xs t (assign as') = t
  declare_stub_part xs t (always p) = t
  declare_stub_part xs t (initial s) = t
  declare_stub_part xs t (function f) = t
  declare_stub_part xs t (instances i) = t
  declare_stub_part xs t (gates g) = t
  declare_stub_part xs t (region ps) = declare_stub_parts xs t ps
  declare_stub_part xs t (loop h b) = t
  declare_stub_part xs t (choice c y n) = t
  declare_stub_part xs t (cases s as') = t

  pub declare_stub_parts : List (List ℕ) → Names → Parts → Names
  declare_stub_parts xs t none = t
  declare_stub_parts xs t (more p ps) = declare_stub_parts xs (declare_stub_part xs t p) ps

abbrev pub is_parameter : ParameterWord → Bool
is_parameter word.Parameter = true
is_parameter word.LocalParam = false

abbrev pub constant_names : List (List ℕ) → List ConstantValue → List (List ℕ)
constant_names t [] = t
constant_names t (c ∷ cs) = constant_names (added t (name_at c.name)) cs

abbrev mutual
  pub parameter_part : List (List ℕ) → Part → List (List ℕ)
  parameter_part t (port p) = t
  parameter_part t (net n) = t
  parameter_part t (integer vs) = t
  parameter_part t (genvar ts) = t
  parameter_part t (parameter p) = if is_parameter p.word then constant_names t p.values else t
  parameter_part t (assign xs) = t
  parameter_part t (always p) = t
  parameter_part t (initial s) = t
  parameter_part t (function f) = t
  parameter_part t (instances i) = t
  parameter_part t (gates g) = t
  parameter_part t (region ps) = parameter_parts t ps
  parameter_part t (loop h b) = t
  parameter_part t (choice c y n) = t
  parameter_part t (cases s as') = t

  pub parameter_parts : List (List ℕ) → Parts → List (List ℕ)
  parameter_parts t none = t
  parameter_parts t (more p ps) = parameter_parts (parameter_part t p) ps

abbrev pub pdecl_names : List (List ℕ) → List Pdecl → List (List ℕ)
pdecl_names t [] = t
pdecl_names t (p ∷ ps) = pdecl_names (added t (name_at p.name)) ps

abbrev pub parameters_by : Module → Option (List Pdecl) → List (List ℕ)
parameters_by m None = parameter_parts [] (items_of m)
parameters_by m (Some ps) = pdecl_names [] ps

-- the names of the parameters that may be overridden: those of the list in the head, else those of the body
abbrev pub parameters_of : Module → List (List ℕ)
parameters_of m = parameters_by m m.parameters
