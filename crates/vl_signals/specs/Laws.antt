-- What sites and numbers lead to.
use Rattle.std.specs.Prelude.{◌≡◌, ℕ, List, Option, Some, None, slice_get}
use Rattle.vl_size.specs.declared.table.SizeEntry.{SizeEntry}
use Rattle.vl_names.specs.declared.table.Slot.{Slot}
use Rattle.vl_names.specs.Outward.{Scope, outward}
use Rattle.vl_names.specs.Tables.{found}
use Rattle.vl_signals.specs.declared.sites.Site.{Site}
use Rattle.vl_signals.specs.Signals.{all_signals, all_numbers, number_in, signal, signal_entry}
use Rattle.vl_signals.specs.Sites.{site_from, slot_at}

-- what a name stands for is declared at its site, or is the variable of a loop, which has none
pub data Stands : List Scope → List ℕ → Slot → Option Site → Type 0 where
  declared : {scopes : List Scope} {name : List ℕ} {s : Slot} {p : Site} → slot_at scopes p ≡ Some s → Stands scopes name s (Some p)
  turned : {scopes : List Scope} {name : List ℕ} {s : Slot} {c : Scope} → (n : ℕ) → slice_get scopes n ≡ Some c → found c.variable name ≡ Some s → Stands scopes name s None

abbrev pub NamesHaveSites : Type 0
NamesHaveSites = (most : ℕ) (name : List ℕ) (scopes : List Scope) (at : Option ℕ) (s : Slot) → outward most name scopes at ≡ Some s → Stands scopes name s (site_from most name scopes at)

-- the signal with the number that stands beside a name
pub record IsNumber (scopes : List Scope) (n p : ℕ) (c : Scope) (e : SizeEntry) : Type 0 where
  pub number : ℕ
  pub there : number_in (slice_get (all_numbers scopes) n) p ≡ Some number
  pub names : slice_get (all_signals scopes) number ≡ Some (signal n c.path e)

abbrev pub SignalsHaveNumbers : Type 0
SignalsHaveNumbers = (scopes : List Scope) (n p : ℕ) (c : Scope) (s : Slot) (e : SizeEntry) → slice_get scopes n ≡ Some c → slice_get c.table.slots p ≡ Some s
    → signal_entry s ≡ Some e → IsNumber scopes n p c e
