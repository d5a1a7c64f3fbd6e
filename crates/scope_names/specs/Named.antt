-- The names of a scope in the order of its text, before its declarations are met: what it declares, and each net without a declaration at its first
-- use (IEEE 1364-2005, 4.5). This is the order of its signals.
use Rattle.std.specs.Prelude.{ℕ, Bool, true, false, List, [], ◌∷◌, Option, Some, None, if◌then◌else◌}
use Rattle.vl_tree.specs.declared.modules.Module.{Module}
use Rattle.vl_names.specs.declared.table.Kind.TheVariants as is
use Rattle.vl_names.specs.Outward.{Scope, is_known}
use Rattle.vl_names.specs.Tables.{Names}
use Rattle.vl_items.specs.Declarations.{no_names, declare, declare_parts, declare_part, declare_head}
use Rattle.vl_items.specs.Parts.{Part, Parts, none, more, port, net, integer, genvar, parameter, assign, always, initial, function, instances, gates, region, loop, choice, cases}
use Rattle.vl_modules.specs.Modules.{items_of, declare_stub_parts}
use Rattle.vl_nets.specs.Nets.{use_part}

-- an item: the names that it declares, then the nets among the names that it uses; `known` says which names are no nets
abbrev pub named_item : (List ℕ → Bool) → Names → Part → Names
named_item known t p = use_part known (declare_part t p) p

abbrev mutual
  pub named_part : (List ℕ → Bool) → Names → Part → Names
  named_part known t (port p) = named_item known t (port p)
  named_part known t (net n) = named_item known t (net n)
  named_part known t (integer vs) = named_item known t (integer vs)
  named_part known t (genvar ts) = named_item known t (genvar ts)
  named_part known t (parameter p) = named_item known t (parameter p)
  named_part known t (assign xs) = named_item known t (assign xs)
  named_part known t (always p) = named_item known t (always p)
  named_part known t (initial s) = named_item known t (initial s)
  named_part known t (function f) = named_item known t (function f)
  named_part known t (instances i) = named_item known t (instances i)
  named_part known t (gates g) = named_item known t (gates g)
  named_part known t (region ps) = named_parts known t ps
  named_part known t (loop h b) = named_item known t (loop h b)
  named_part known t (choice c y n) = named_item known t (choice c y n)
  named_part known t (cases s as') = named_item known t (cases s as')

  -- items from the first on
  pub named_parts : (List ℕ → Bool) → Names → Parts → Names
  named_parts known t none = t
  named_parts known t (more p ps) = named_parts known (named_part known t p) ps

-- these names besides
abbrev pub joined : Names → List (List ℕ) → Names
joined t [] = t
joined t (x ∷ xs) = joined (declare is.Constant false t x) xs

-- what is in reach of a scope beyond the names that it declares: the variable of its loop, and the scopes round a block from `outer` on
pub record Around : Type 0 where
  pub variable : Names
  pub scopes : List Scope
  pub outer : Option ℕ

-- no net is what the scope declares anywhere in its text, nor what is in its reach
abbrev pub no_net : Around → Names → List ℕ → Bool
no_net r declared = is_known (joined declared r.variable.names) r.scopes r.outer

-- the names of some items behind those of a head; nets without a declaration only where they are allowed
abbrev pub text_names : Bool → Around → Names → Parts → Names
text_names allowed r head ps = if allowed then named_parts (no_net r (declare_parts head ps)) head ps else declare_parts head ps

abbrev pub head_names : Module → Names
head_names m = declare_head no_names m

-- the scope of a module; whether such nets are allowed is told at its name
abbrev pub module_names : Around → Module → Names
module_names r m = text_names m.name.implicit r (head_names m) (items_of m)

-- the scope of a stub of a module: the names of its head and its ports
abbrev pub stub_names : List (List ℕ) → Module → Names
stub_names ports m = declare_stub_parts ports (head_names m) (items_of m)

-- the scope of a generate block
abbrev pub block_names : Bool → Around → Parts → Names
block_names allowed r ps = text_names allowed r no_names ps
