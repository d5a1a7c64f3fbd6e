-- What a name stands for is declared at its site.
use Rattle.std.proofs.Common.{◌≡◌, ℕ, zero, suc, List, Option, Some, None, refl, ap, ◌∙◌, if◌then◌else◌}
use Rattle.std.specs.Prelude.{position, slice_get}
use Rattle.std.specs.Str.{bytes_eq}
use Rattle.vl_names.specs.declared.table.Slot.{Slot}
use Rattle.vl_names.specs.Outward.{Scope, outward, sought, or_else, around, is_there}
use Rattle.vl_names.specs.Tables.{found, slot_in}
use Rattle.vl_signals.specs.Laws.{Stands, declared, turned, NamesHaveSites}
use Rattle.vl_signals.specs.Sites.{site, site_by, site_from, slot_of}

placed : (name : List ℕ) (scopes : List Scope) (s : Slot) (k : ℕ) (c : Scope) → slice_get scopes k ≡ Some c → (p : Option ℕ) → slot_in c.table.slots p ≡ Some s
    → Stands scopes name s (site k p)
placed name scopes s k c is None h = absurd (cc)
placed name scopes s k c is (Some p) h = declared (ap (λ o. slot_of o p) is ∙ h)

in_scope : (n : ℕ) (name : List ℕ) (scopes : List Scope) (s : Slot) → ((at : Option ℕ) → outward n name scopes at ≡ Some s → Stands scopes name s (site_from n name scopes at))
    → (k : ℕ) (c : Scope) → slice_get scopes k ≡ Some c → (f v : Option Slot) → found c.table name ≡ f → found c.variable name ≡ v
    → or_else (or_else f v) (outward n name scopes (around c)) ≡ Some s
    → Stands scopes name s (if is_there f then site k (position (bytes_eq name) c.table.names) else (if is_there v then None else site_from n name scopes (around c)))
in_scope n name scopes s further k c is (Some t) v ef ev e = placed name scopes s k c is (position (bytes_eq name) c.table.names) (ef ∙ e)
in_scope n name scopes s further k c is None (Some t) ef ev e = turned k is (ev ∙ e)
in_scope n name scopes s further k c is None None ef ev e = further (around c) e

at_scope : (n : ℕ) (name : List ℕ) (scopes : List Scope) (s : Slot) → ((at : Option ℕ) → outward n name scopes at ≡ Some s → Stands scopes name s (site_from n name scopes at))
    → (k : ℕ) (o : Option Scope) → slice_get scopes k ≡ o → sought (outward n name) name scopes o ≡ Some s → Stands scopes name s (site_by (site_from n name scopes) k name o)
at_scope n name scopes s further k None is e = absurd (cc)
at_scope n name scopes s further k (Some c) is e = in_scope n name scopes s further k c is (found c.table name) (found c.variable name) refl refl e

pub names_have_sites : NamesHaveSites
unfolding outward site_from
names_have_sites zero name scopes at s e = absurd (cc)
names_have_sites (suc n) name scopes None s e = absurd (cc)
names_have_sites (suc n) name scopes (Some k) s e = at_scope n name scopes s (λ at h. names_have_sites n name scopes at s h) k (slice_get scopes k) refl e
