-- The signal with the number that stands beside a name.
use Rattle.std.proofs.Common.{◌≡◌, ℕ, zero, suc, ◌+◌, List, [], ◌∷◌, ◌++◌, length, Option, Some, None, refl, ap, sym, subst, ◌∙◌, arith}
use Rattle.std.specs.Prelude.{slice_get}
use Rattle.design_core.specs.declared.signals.Signal.{Signal}
use Rattle.vl_size.specs.declared.table.SizeEntry.{SizeEntry}
use Rattle.vl_names.specs.declared.table.Slot.{Slot}
use Rattle.vl_names.specs.Outward.{Scope}
use Rattle.vl_signals.specs.Laws.{SignalsHaveNumbers}
use Rattle.vl_signals.specs.Signals.{signal, signal_entry, entry_signals, slot_signals, scope_signals, signals_from, number_by, number_behind, slot_numbers, behind_slots, numbers_from, number_in, if_there}

front : {A : Type 0} (xs ys : List A) (i : ℕ) (v : A) → slice_get xs i ≡ Some v → slice_get (xs ++ ys) i ≡ Some v
front [] ys i v e = absurd (cc)
front (x ∷ xs) ys zero v e = e
front (x ∷ xs) ys (suc i) v e = front xs ys i v e

back : {A : Type 0} (xs ys : List A) (i : ℕ) → slice_get (xs ++ ys) (length xs + i) ≡ slice_get ys i
back [] ys i = let none : 0 + i ≡ i = omega arith in ap (slice_get ys) none
back (x ∷ xs) ys i = let more : suc (length xs) + i ≡ suc (length xs + i) = omega arith in ap (slice_get (x ∷ (xs ++ ys))) more ∙ back xs ys i

-- in the names of a scope
record InSlots (k n : ℕ) (path : List ℕ) (slots : List Slot) (p : ℕ) (e : SizeEntry) : Type 0 where
  place : ℕ
  number : slice_get (slot_numbers k slots) p ≡ Some (Some (k + place))
  names : slice_get (slot_signals n path slots) place ≡ Some (signal n path e)

past : (k n : ℕ) (path : List ℕ) (o : Option SizeEntry) (ts : List Slot) (p : ℕ) (e : SizeEntry) → InSlots (number_behind k o) n path ts p e
    → (place : ℕ) × (slice_get (slot_numbers (number_behind k o) ts) p ≡ Some (Some (k + place))) × (slice_get (entry_signals n path o ++ slot_signals n path ts) place ≡ Some (signal n path e))
past k n path None ts p e r = (r.place, r.number, r.names)
past k n path (Some d) ts p e r = let same : suc k + r.place ≡ k + suc r.place = omega arith in (suc r.place, r.number ∙ ap (λ i. Some (Some i)) same, r.names)

in_slots : (k n : ℕ) (path : List ℕ) (slots : List Slot) (p : ℕ) (s : Slot) (e : SizeEntry) → slice_get slots p ≡ Some s → signal_entry s ≡ Some e → InSlots k n path slots p e
in_slots k n path [] p s e is has = absurd (cc)
in_slots k n path (t ∷ ts) zero s e is has =
    let same : signal_entry t ≡ Some e = ap (λ o. signal_entry_of o) is ∙ has in
    let none : k ≡ k + 0 = omega arith in record {
      place = 0;
      number = ap (λ o. Some (number_by k o)) same ∙ ap (λ i. Some (Some i)) none;
      names = ap (λ o. slice_get (entry_signals n path o ++ slot_signals n path ts) 0) same;
    }
  where
    signal_entry_of : Option Slot → Option SizeEntry
    signal_entry_of None = None
    signal_entry_of (Some x) = signal_entry x
in_slots k n path (t ∷ ts) (suc p) s e is has =
    let r = past k n path (signal_entry t) ts p e (in_slots (number_behind k (signal_entry t)) n path ts p s e is has) in
    record { place = r.0; number = r.1; names = r.2 }

behind_entry : (k n : ℕ) (path : List ℕ) (o : Option SizeEntry) (ts : List Slot) → number_behind k o + length (slot_signals n path ts) ≡ k + length (entry_signals n path o ++ slot_signals n path ts)
behind_entry k n path None ts = refl
behind_entry k n path (Some e) ts = omega arith

behind : (k n : ℕ) (path : List ℕ) (slots : List Slot) → behind_slots k slots ≡ k + length (slot_signals n path slots)
behind k n path [] = omega arith
behind k n path (s ∷ ss) = behind (number_behind k (signal_entry s)) n path ss ∙ behind_entry k n path (signal_entry s) ss

-- in the scopes behind the first m, of which the first signal has the number k
record InScopes (k m : ℕ) (scopes : List Scope) (n p : ℕ) (c : Scope) (e : SizeEntry) : Type 0 where
  place : ℕ
  number : number_in (slice_get (numbers_from k scopes) n) p ≡ Some (k + place)
  names : slice_get (signals_from m scopes) place ≡ Some (signal (m + n) c.path e)

in_first : (k m : ℕ) (d : Scope) (ds : List Scope) (p : ℕ) (e : SizeEntry) → InSlots k m d.path d.table.slots p e → InScopes k m (d ∷ ds) 0 p d e
in_first k m d ds p e r =
    let none : m ≡ m + 0 = omega arith in record {
      place = r.place;
      number = ap if_there r.number;
      names = front (scope_signals m d) (signals_from (suc m) ds) r.place (signal m d.path e) r.names ∙ ap (λ i. Some (signal i d.path e)) none;
    }

in_later : (k m : ℕ) (d : Scope) (ds : List Scope) (n p : ℕ) (c : Scope) (e : SizeEntry) → InScopes (behind_slots k d.table.slots) (suc m) ds n p c e → InScopes k m (d ∷ ds) (suc n) p c e
in_later k m d ds n p c e r =
    let more = behind k m d.path d.table.slots in
    let further : behind_slots k d.table.slots + r.place ≡ k + (length (scope_signals m d) + r.place) = omega (arith, more) in
    let scope : suc m + n ≡ m + suc n = omega arith in record {
      place = length (scope_signals m d) + r.place;
      number = r.number ∙ ap Some further;
      names = back (scope_signals m d) (signals_from (suc m) ds) r.place ∙ r.names ∙ ap (λ i. Some (signal i c.path e)) scope;
    }

same_scope : (d c : Scope) (k m : ℕ) (ds : List Scope) (p : ℕ) (s : Slot) (e : SizeEntry) → ◌≡◌ {A = Option Scope} (Some d) (Some c) → slice_get c.table.slots p ≡ Some s
    → signal_entry s ≡ Some e → InScopes k m (d ∷ ds) 0 p c e
same_scope d c k m ds p s e is there has = subst (λ (o : Option Scope). InScopesOf o) is (in_first k m d ds p e (in_slots k m d.path d.table.slots p s e (ap (λ o. slots_of o) is ∙ there) has))
  where
    InScopesOf : Option Scope → Type 0
    InScopesOf None = InScopes k m (d ∷ ds) 0 p d e
    InScopesOf (Some x) = InScopes k m (d ∷ ds) 0 p x e

    slots_of : Option Scope → Option Slot
    slots_of None = None
    slots_of (Some x) = slice_get x.table.slots p

in_scopes : (k m : ℕ) (scopes : List Scope) (n p : ℕ) (c : Scope) (s : Slot) (e : SizeEntry) → slice_get scopes n ≡ Some c → slice_get c.table.slots p ≡ Some s → signal_entry s ≡ Some e
    → InScopes k m scopes n p c e
in_scopes k m [] n p c s e is there has = absurd (cc)
in_scopes k m (d ∷ ds) zero p c s e is there has = same_scope d c k m ds p s e is there has
in_scopes k m (d ∷ ds) (suc n) p c s e is there has = in_later k m d ds n p c e (in_scopes (behind_slots k d.table.slots) (suc m) ds n p c s e is there has)

pub signals_have_numbers : SignalsHaveNumbers
signals_have_numbers scopes n p c s e is there has = let r = in_scopes 0 0 scopes n p c s e is there has in
    let none : 0 + r.place ≡ r.place = omega arith in
    let first : 0 + n ≡ n = omega arith in record { number = r.place; there = r.number ∙ ap Some none; names = r.names ∙ ap (λ i. Some (signal i c.path e)) first }
