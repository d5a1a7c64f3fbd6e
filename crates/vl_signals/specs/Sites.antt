-- Where a name in reach is declared: it is sought in a scope, then outwards to its module (IEEE 1364-2005, 12.7).
use Rattle.std.specs.Prelude.{ℕ, zero, suc, List, Option, Some, None, if◌then◌else◌, position, slice_get}
use Rattle.std.specs.Str.{bytes_eq}
use Rattle.vl_names.specs.declared.table.Slot.{Slot}
use Rattle.vl_names.specs.Outward.{Scope, around, is_there}
use Rattle.vl_names.specs.Tables.{found}
use Rattle.vl_signals.specs.declared.sites.Site.{Site}

abbrev pub site : ℕ → Option ℕ → Option Site
site n None = None
site n (Some p) = Some (record { scope = n; place = p })

-- in a scope, which has the number n: a name that it declares hides the variable of its loop, which has no site, and both hide what is further out
abbrev pub site_in : ℕ → List ℕ → Scope → Option Site → Option Site
site_in n name s further =
    if is_there (found s.table name) then site n (position (bytes_eq name) s.table.names)
    else (if is_there (found s.variable name) then None else further)

abbrev pub site_by : (Option ℕ → Option Site) → ℕ → List ℕ → Option Scope → Option Site
site_by further n name None = None
site_by further n name (Some s) = site_in n name s (further (around s))

-- in a scope, if there is one, and `further` out
abbrev pub site_here : (Option ℕ → Option Site) → List ℕ → List Scope → Option ℕ → Option Site
site_here further name scopes None = None
site_here further name scopes (Some n) = site_by further n name (slice_get scopes n)

-- from a scope outwards; the first number bounds how far
unfoldable pub site_from : ℕ → List ℕ → List Scope → Option ℕ → Option Site
site_from zero name scopes at = None
site_from (suc most) name scopes at = site_here (site_from most name scopes) name scopes at

abbrev pub slot_of : Option Scope → ℕ → Option Slot
slot_of None p = None
slot_of (Some s) p = slice_get s.table.slots p

-- what is declared at a site
abbrev pub slot_at : List Scope → Site → Option Slot
slot_at scopes s = slot_of (slice_get scopes s.scope) s.place
