-- The names that a scope declares: what each is, by its first declaration, and whether some declaration of it is signed.
use Rattle.std.specs.Prelude.{ℕ, pos, Bool, true, false, List, [], ◌∷◌, ◌++◌, Option, Some, None, if◌then◌else◌}
use Rattle.std.specs.List.{list_any}
use Rattle.std.specs.Str.{bytes_eq}
use Rattle.vl_size.specs.declared.table.SizeEntry.{SizeEntry}
use Rattle.vl_size.specs.declared.table.NameKind.{NameKind}
use Rattle.vl_size.specs.declared.table.NameKind.TheVariants as kind
use Rattle.vl_size.specs.Terms.{name_at}
use Rattle.vl_tree.specs.declared.modules.Ansi.{Ansi}
use Rattle.vl_tree.specs.declared.modules.AnsiHead.{AnsiHead}
use Rattle.vl_tree.specs.declared.modules.ConstantValue.{ConstantValue}
use Rattle.vl_tree.specs.declared.modules.Module.{Module}
use Rattle.vl_tree.specs.declared.modules.Pdecl.{Pdecl}
use Rattle.vl_tree.specs.declared.modules.Ports.{Ports}
use Rattle.vl_tree.specs.declared.modules.Ports.TheVariants as ports
use Rattle.vl_tree.specs.declared.statements.Var.{Var}
use Rattle.vl_tree.specs.declared.tokens.Token.{Token}
use Rattle.vl_names.specs.declared.table.Slot.{Slot}
use Rattle.vl_names.specs.Tables.{Names}
use Rattle.vl_names.specs.declared.table.Kind.{Kind}
use Rattle.vl_names.specs.declared.table.Kind.TheVariants as is
use Rattle.vl_items.specs.Parts.{Part, Parts, none, more, port, net, integer, genvar, parameter, assign, always, initial, function, instances, gates, region, loop, choice, cases}

abbrev pub no_names : Names
no_names = record { names = []; slots = []; signed = [] }

-- one bit of this kind, until more is known
abbrev pub plain_entry : NameKind → List ℕ → SizeEntry
plain_entry k name = record { name = name; kind = k; length = 1; signed = false; ranged = false; high = pos 0; low = pos 0; inputs = [] }

abbrev pub plain : Kind → List ℕ → Option SizeEntry
plain is.Constant name = None
plain is.Signal name = Some (plain_entry kind.Signal name)
plain is.Function name = Some (plain_entry kind.Function name)
plain is.GenVar name = None

-- a name before its declaration is met
abbrev pub ahead : Kind → List ℕ → Slot
ahead k name = record { kind = k; entry = plain k name; value = None; met = false }

abbrev pub is_among : List ℕ → List (List ℕ) → Bool
is_among name names = list_any (bytes_eq name) names

-- each name once
abbrev pub added : List (List ℕ) → List ℕ → List (List ℕ)
added names name = if is_among name names then names else names ++ name ∷ []

-- a name with its slot, if it is new
abbrev pub put : Names → List ℕ → Slot → Names
put t name s = record { names = added t.names name; slots = if is_among name t.names then t.slots else t.slots ++ s ∷ []; signed = t.signed }

abbrev pub with_sign : Bool → Names → List ℕ → Names
with_sign signed t name = record { names = t.names; slots = t.slots; signed = if signed then added t.signed name else t.signed }

-- one declaration of a name
abbrev pub declare : Kind → Bool → Names → List ℕ → Names
declare k signed t name = with_sign signed (put t name (ahead k name)) name

abbrev pub declare_tokens : Kind → Bool → Names → List Token → Names
declare_tokens k signed t [] = t
declare_tokens k signed t (x ∷ xs) = declare_tokens k signed (declare k signed t (name_at x)) xs

abbrev pub declare_vars : Bool → Names → List Var → Names
declare_vars signed t [] = t
declare_vars signed t (x ∷ xs) = declare_vars signed (declare is.Signal signed t (name_at x.name)) xs

abbrev pub declare_constants : Names → List ConstantValue → Names
declare_constants t [] = t
declare_constants t (x ∷ xs) = declare_constants (declare is.Constant false t (name_at x.name)) xs

abbrev mutual
  pub declare_part : Names → Part → Names
  declare_part t (port p) = declare_tokens is.Signal p.signed t p.names
  declare_part t (net n) = declare_vars n.signed t n.vars
  declare_part t (integer vs) = declare_vars true t vs
  declare_part t (genvar ts) = declare_tokens is.GenVar false t ts
  declare_part t (parameter p) = declare_constants t p.values
  declare_part t (assign xs) = t
  declare_part t (always p) = t
  declare_part t (initial s) = t
  declare_part t (function f) = declare is.Function false t (name_at f.name)
  declare_part t (instances i) = t
  declare_part t (gates g) = t
  declare_part t (region ps) = declare_parts t ps
  declare_part t (loop h b) = t
  declare_part t (choice c y n) = t
  declare_part t (cases s as') = t

  pub declare_parts : Names → Parts → Names
  declare_parts t none = t
  declare_parts t (more p ps) = declare_parts (declare_part t p) ps

-- the parameters in a module's head
abbrev pub declare_pdecls : Names → List Pdecl → Names
declare_pdecls t [] = t
declare_pdecls t (p ∷ ps) = declare_pdecls (declare is.Constant false t (name_at p.name)) ps

abbrev pub sign_kept : Bool → Option AnsiHead → Bool
sign_kept before None = before
sign_kept before (Some h) = h.signed

-- the ports in a module's head; one without direction has the sign of the one before
abbrev pub declare_ansi : Bool → Names → List Ansi → Names
declare_ansi before t [] = t
declare_ansi before t (a ∷ as') = declare_ansi (sign_kept before a.head) (declare is.Signal (sign_kept before a.head) t (name_at a.var.name)) as'

abbrev pub declare_ports : Names → Option (Option Ports) → Names
declare_ports t None = t
declare_ports t (Some None) = t
declare_ports t (Some (Some (ports.Declared as'))) = declare_ansi false t as'
declare_ports t (Some (Some (ports.Names ts))) = declare_tokens is.Signal false t ts

abbrev pub declare_parameters : Names → Option (List Pdecl) → Names
declare_parameters t None = t
declare_parameters t (Some ps) = declare_pdecls t ps

-- a module's head
abbrev pub declare_head : Names → Module → Names
declare_head t m = declare_ports (declare_parameters t m.parameters) m.ports
