-- The names that a scope declares, and what each stands for.
use Rattle.std.specs.Prelude.{ℕ, List, Option, Some, None, position, slice_get}
use Rattle.std.specs.Str.{bytes_eq}
use Rattle.vl_size.specs.declared.constant.Const.{Const}
use Rattle.vl_size.specs.declared.table.SizeEntry.{SizeEntry}
use Rattle.vl_names.specs.declared.table.Slot.{Slot}
use Rattle.vl_names.specs.declared.table.Table as code
use Rattle.vl_names.specs.Names.{listed}

-- different names, and beside each what it stands for; and those of which some declaration has a sign
pub record Names : Type 0 where
  pub names : List (List ℕ)
  pub slots : List Slot
  pub signed : List (List ℕ)

-- what a table means, without where its names lie
abbrev pub table : code.Table → Names
table t = record { names = listed t.names; slots = t.slots; signed = listed t.signed }

abbrev pub slot_in : List Slot → Option ℕ → Option Slot
slot_in slots None = None
slot_in slots (Some at) = slice_get slots at

-- what the name stands for, if it is declared
abbrev pub found : Names → List ℕ → Option Slot
found t name = slot_in t.slots (position (bytes_eq name) t.names)

abbrev pub entry_of : Option Slot → Option SizeEntry
entry_of None = None
entry_of (Some s) = s.entry

abbrev pub value_of : Option Slot → Option Const
value_of None = None
value_of (Some s) = s.value
