-- The scopes and the signals of a design, from the scopes of its source: signals stand by scope, and in it as its text declares them.
use Rattle.std.specs.Prelude.{ℕ, zero, suc, ◌+◌, List, [], ◌∷◌, ◌++◌, map, length, slice_get, Option, Some, None, if◌then◌else◌}
use Rattle.design_core.specs.declared.signals.Scope as design
use Rattle.design_core.specs.declared.signals.Signal.{Signal}
use Rattle.vl_size.specs.declared.table.SizeEntry.{SizeEntry}
use Rattle.vl_names.specs.declared.table.Kind.{Kind}
use Rattle.vl_names.specs.declared.table.Kind.TheVariants as is
use Rattle.vl_names.specs.declared.table.Slot.{Slot}
use Rattle.vl_names.specs.Outward.{Scope}

abbrev pub name_or_none : Option (List ℕ) → List ℕ
name_or_none None = []
name_or_none (Some x) = x

-- a scope of the design, where the modules of the source have these names; a generate block is of no module
abbrev pub design_scope : List (List ℕ) → Scope → design.Scope
design_scope names s = record { parent = s.parent; name = s.name; path = s.path; «module» = if s.block then [] else name_or_none (slice_get names s.home) }

abbrev pub design_scopes : List (List ℕ) → List Scope → List design.Scope
design_scopes names ss = map (design_scope names) ss

-- what is known of the bits of a name, where it is a signal
abbrev pub bits_by : Kind → Option SizeEntry → Option SizeEntry
bits_by is.Signal e = e
bits_by is.Constant e = None
bits_by is.Function e = None
bits_by is.GenVar e = None

abbrev pub signal_entry : Slot → Option SizeEntry
signal_entry s = bits_by s.kind s.entry

-- a signal of scope n, with the path of the scope, a dot and its name as its path
abbrev pub signal : ℕ → List ℕ → SizeEntry → Signal
signal n path e = record {
  scope = n;
  name = e.name;
  path = path ++ 46 ∷ e.name;
  word = None;
  length = e.length;
  signed = e.signed;
  ranged = e.ranged;
  high = e.high;
  low = e.low;
}

abbrev pub entry_signals : ℕ → List ℕ → Option SizeEntry → List Signal
entry_signals n path None = []
entry_signals n path (Some e) = signal n path e ∷ []

-- the signals among the names of scope n
abbrev pub slot_signals : ℕ → List ℕ → List Slot → List Signal
slot_signals n path [] = []
slot_signals n path (s ∷ ss) = entry_signals n path (signal_entry s) ++ slot_signals n path ss

abbrev pub scope_signals : ℕ → Scope → List Signal
scope_signals n s = slot_signals n s.path s.table.slots

-- the signals of scopes, the first of which has the number n
abbrev pub signals_from : ℕ → List Scope → List Signal
signals_from n [] = []
signals_from n (s ∷ ss) = scope_signals n s ++ signals_from (suc n) ss

abbrev pub all_signals : List Scope → List Signal
all_signals ss = signals_from 0 ss

abbrev pub number_by : ℕ → Option SizeEntry → Option ℕ
number_by k None = None
number_by k (Some e) = Some k

abbrev pub number_behind : ℕ → Option SizeEntry → ℕ
number_behind k None = k
number_behind k (Some e) = suc k

-- beside each name of a scope its number, where it is a signal; the first signal has the number k
abbrev pub slot_numbers : ℕ → List Slot → List (Option ℕ)
slot_numbers k [] = []
slot_numbers k (s ∷ ss) = number_by k (signal_entry s) ∷ slot_numbers (number_behind k (signal_entry s)) ss

abbrev pub behind_slots : ℕ → List Slot → ℕ
behind_slots k [] = k
behind_slots k (s ∷ ss) = behind_slots (number_behind k (signal_entry s)) ss

-- the same of each scope
abbrev pub numbers_from : ℕ → List Scope → List (List (Option ℕ))
numbers_from k [] = []
numbers_from k (s ∷ ss) = slot_numbers k s.table.slots ∷ numbers_from (behind_slots k s.table.slots) ss

abbrev pub all_numbers : List Scope → List (List (Option ℕ))
all_numbers ss = numbers_from 0 ss

abbrev pub if_there : Option (Option ℕ) → Option ℕ
if_there None = None
if_there (Some k) = k

-- the number at a place, if one stands there
abbrev pub number_in : Option (List (Option ℕ)) → ℕ → Option ℕ
number_in None p = None
number_in (Some ns) p = if_there (slice_get ns p)
