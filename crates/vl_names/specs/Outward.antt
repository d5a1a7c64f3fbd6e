-- What a name stands for in a scope: it is sought in the scope, then outwards to the module and no further.
use Rattle.std.specs.Prelude.{ℕ, zero, suc, Bool, true, false, List, [], ◌∷◌, Option, Some, None, if◌then◌else◌, slice_get, length, map}
use Rattle.vl_names.specs.declared.outward.Scope as code
use Rattle.vl_names.specs.declared.table.Slot.{Slot}
use Rattle.vl_names.specs.Tables.{Names, table, found}

-- a scope: the top, an instance, or a generate block that is taken
pub record Scope : Type 0 where
  pub parent : Option ℕ
  pub name : List ℕ
  pub path : List ℕ
  pub home : ℕ
  pub place : List ℕ
  pub block : Bool
  pub stub : Bool
  pub table : Names
  -- the variable of the loop of which it is a turn
  pub variable : Names

abbrev pub scope : code.Scope → Scope
scope s = record { parent = s.parent; name = s.name; path = s.path; home = s.home; place = s.place; block = s.block; stub = s.stub; table = table s.table; variable = table s.variable }

abbrev pub all : List code.Scope → List Scope
all = map scope

abbrev pub scope_in : Option code.Scope → Option Scope
scope_in None = None
scope_in (Some s) = Some (scope s)

abbrev pub scope_at : List Scope → Option ℕ → Option Scope
scope_at scopes None = None
scope_at scopes (Some at) = slice_get scopes at

abbrev pub parent_of : Option Scope → Option (ℕ × Option ℕ)
parent_of None = None
parent_of (Some s) = Some (s.home, s.parent)

-- the module and the parent of a scope
abbrev pub parent_at : List Scope → Option ℕ → Option (ℕ × Option ℕ)
parent_at scopes at = parent_of (scope_at scopes at)

-- names of a block are sought in the scope round it, those of a module nowhere else
abbrev pub around : Scope → Option ℕ
around s = if s.block then s.parent else None

abbrev pub or_else : Option Slot → Option Slot → Option Slot
or_else (Some s) o = Some s
or_else None o = o

-- in a scope itself: a declared name hides the loop's variable
abbrev pub found_here : Names → Names → List ℕ → Option Slot
found_here own variable name = or_else (found own name) (found variable name)

abbrev pub sought : (List Scope → Option ℕ → Option Slot) → List ℕ → List Scope → Option Scope → Option Slot
sought further name scopes None = None
sought further name scopes (Some s) = or_else (found_here s.table s.variable name) (further scopes (around s))

-- from a scope outwards; the number bounds how far
unfoldable pub outward : ℕ → List ℕ → List Scope → Option ℕ → Option Slot
outward zero name scopes at = None
outward (suc n) name scopes at = sought (outward n name) name scopes (scope_at scopes at)

-- beyond the names that a scope declares: the variable of its loop, then from `outer` outwards
abbrev pub beyond : Names → List Scope → Option ℕ → List ℕ → Option Slot
beyond variable scopes outer name = or_else (found variable name) (outward (length scopes) name scopes outer)

-- in a scope whose names these are, and then beyond
abbrev pub inward : Names → Names → List Scope → Option ℕ → List ℕ → Option Slot
inward own variable scopes outer name = or_else (found own name) (beyond variable scopes outer name)

abbrev pub is_there : Option Slot → Bool
is_there None = false
is_there (Some s) = true

-- whether a name is declared beyond a scope
abbrev pub is_known : Names → List Scope → Option ℕ → List ℕ → Bool
is_known variable scopes outer name = is_there (beyond variable scopes outer name)
