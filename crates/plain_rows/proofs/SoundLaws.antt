-- The wires of a plain module are sound: assigns read inputs, which no assign writes.
use Rattle.std.proofs.Common.{suc, zero, ◌≡◌, ◌∙◌, ◌+◌, ◌<◌, ℕ, Bool, true, false, not, ◌&&◌, ◌==◌, inl, inr, ◌⊎◌, if◌then◌else◌, List, [], ◌∷◌, ◌++◌, Option, Some, None, is_none, map, length, slice_get, slice_set, codes, nat_lt, refl, sym, ap, subst, length-append, length-set}
use Rattle.std.proofs.lemmas.Option.{slice_get_within}
use Rattle.std.proofs.lemmas.List.Quantifiers.{position-Some}
use Rattle.std.specs.List.{list_any}
use Rattle.std.specs.Str.{bytes_eq}
use Rattle.plain_form.specs.Modules.{Text, Port as ModulePort, Assign, Module, Right, wire, fixed, module_of}
use Rattle.plain_form.specs.Pieces.{pieces}
use Rattle.plain_form.specs.Table as table
use Rattle.design_core.specs.Cells.{In}
use Rattle.plain_form.specs.Wires.{Wires, all_driven, all_ports, driven, driven_by, driver_of, input_at, is_an_input, is_open_output, output_at, place, put, slot_of, source_of, then_all, wires_in, wires_of, with_port}
use Rattle.plain_form.specs.declared.wires.Driver.{Driver}
use Rattle.plain_form.specs.declared.wires.Driver.TheVariants.{Port}
use Rattle.plain_form.specs.declared.wires.Slot.{Slot}
use Rattle.plain_rows.specs.Plain.{IsSound, driver_at, driver_in}
use Rattle.plain_rows.proofs.CellLaws.{both_true, either, same, same_self}

get_kept : (xs ys : List Slot) (k : ℕ) (x : Slot) → slice_get xs k ≡ Some x → slice_get (xs ++ ys) k ≡ Some x
get_kept [] ys k x e = cc
get_kept (y ∷ xs) ys zero x e = e
get_kept (y ∷ xs) ys (suc k) x e = get_kept xs ys k x e

pub set_other : (xs : List Slot) (i k : ℕ) (v : Slot) → (i ≡ k → ⊥) → slice_get (slice_set xs i v) k ≡ slice_get xs k
set_other [] i k v ne = refl
set_other (x ∷ xs) zero zero v ne = absurd (ne refl)
set_other (x ∷ xs) zero (suc k) v ne = refl
set_other (x ∷ xs) (suc i) zero v ne = refl
set_other (x ∷ xs) (suc i) (suc k) v ne = set_other xs i k v (λ e. ne (ap suc e))

pub set_same : (xs : List Slot) (i : ℕ) (v y : Slot) → slice_get xs i ≡ Some y → slice_get (slice_set xs i v) i ≡ Some v
set_same [] i v y e = cc
set_same (x ∷ xs) zero v y e = refl
set_same (x ∷ xs) (suc i) v y e = set_same xs i v y e

-- what holds after each port and each assign
pub record IsGood (w : Wires) : Type 0 where
  pub inputs_free : (k : ℕ) (s : Slot) → slice_get w.slots k ≡ Some s → s.is_input ≡ true → s.driver ≡ None
  pub reads_inputs : (j k : ℕ) → driver_at w.slots j ≡ Some (Port k) → is_an_input (slice_get w.slots k) ≡ true
  pub even : length w.names ≡ length w.slots

empty_good : IsGood (record { names = []; slots = [] })
empty_good = record { inputs_free = λ k s e i. cc; reads_inputs = λ j k e. cc; even = refl }

-- a place of a list with one item more
pub one_more : (xs : List Slot) (x : Slot) (k : ℕ) (P : Option Slot → Type 0) → (slice_get xs k ≡ None → P (Some x)) → (slice_get xs k ≡ None → P None)
    → ((y : Slot) → slice_get xs k ≡ Some y → P (Some y)) → P (slice_get (xs ++ (x ∷ [])) k)
one_more [] x zero P new none old = new refl
one_more [] x (suc k) P new none old = none refl
one_more (y ∷ xs) x zero P new none old = old y refl
one_more (y ∷ xs) x (suc k) P new none old = one_more xs x k P new none old

input_kept : (xs ys : List Slot) (k : ℕ) (o : Option Slot) → slice_get xs k ≡ o → is_an_input o ≡ true → is_an_input (slice_get (xs ++ ys) k) ≡ true
input_kept xs ys k None e i = cc
input_kept xs ys k (Some s) e i = ap is_an_input (get_kept xs ys k s e) ∙ i

port_good : (w : Wires) (p : ModulePort) → IsGood w → IsGood (with_port w p)
port_good w p good = record {
  inputs_free = λ k s e i.
      let P : Option Slot → Type 0 = λ o. o ≡ Some s → s.driver ≡ None in
      one_more w.slots (slot_of p) k P (λ _ q. let z : slot_of p ≡ s = cc in ap (λ (y : Slot). y.driver) (sym z)) (λ _ q. cc) (λ y h q. good.inputs_free k s (h ∙ q) i) e;
  reads_inputs = λ j k e.
      let P : Option Slot → Type 0 = λ o. driver_in o ≡ Some (Port k) → is_an_input (slice_get (w.slots ++ (slot_of p ∷ [])) k) ≡ true in
      one_more w.slots (slot_of p) j P (λ _ q. cc) (λ _ q. cc)
      (λ y h q. input_kept w.slots (slot_of p ∷ []) k (slice_get w.slots k) refl (good.reads_inputs j k (ap driver_in h ∙ q))) e;
  even = length-append w.names (p.name ∷ []) ∙ ap (λ n. n + 1) good.even ∙ sym (length-append w.slots (slot_of p ∷ []));
}

ports_good : (w v : Wires) (ps : List ModulePort) → IsGood w → all_ports w ps ≡ Some v → IsGood v
ports_good w v [] good e = let z : w ≡ v = cc in subst IsGood z good
ports_good w v (p ∷ ps) good e = at (list_any (bytes_eq p.name) w.names) (ports_good (with_port w p) v ps (port_good w p good)) e
  where
    at : (b : Bool) → (all_ports (with_port w p) ps ≡ Some v → IsGood v) → (if b then None else all_ports (with_port w p) ps) ≡ Some v → IsGood v
    at true later q = cc
    at false later q = later q

open_is : (o : Option Slot) → is_open_output o ≡ true → (s : Slot) × (o ≡ Some s) × (s.is_input ≡ false)
open_is None e = cc
open_is (Some s) e = (s, refl, let h = both_true (not s.is_input) (is_none s.driver) e in was s.is_input h.0)
  where
    was : (b : Bool) → not b ≡ true → b ≡ false
    was true q = cc
    was false q = refl

-- one assign more, at an output
set_good : (w : Wires) (i : ℕ) (d : Driver) → IsGood w → is_open_output (slice_get w.slots i) ≡ true → ((k : ℕ) → d ≡ Port k → is_an_input (slice_get w.slots k) ≡ true)
    → IsGood (record { names = w.names; slots = slice_set w.slots i (driven_by d) })
set_good w i d good opens reads =
    let o = open_is (slice_get w.slots i) opens in
    let same : slice_get (slice_set w.slots i (driven_by d)) i ≡ Some (driven_by d) = set_same w.slots i (driven_by d) o.0 o.1 in
    let apart : (k : ℕ) → is_an_input (slice_get w.slots k) ≡ true → i ≡ k → ⊥ = λ k t q.
    let u : is_an_input (Some o.0) ≡ true = ap is_an_input (sym o.1) ∙ ap (λ n. is_an_input (slice_get w.slots n)) q ∙ t in
    let v : true ≡ false = sym u ∙ o.2 in cc in
    let input : (k : ℕ) → is_an_input (slice_get w.slots k) ≡ true → is_an_input (slice_get (slice_set w.slots i (driven_by d)) k) ≡ true = λ k t.
    ap is_an_input (set_other w.slots i k (driven_by d) (apart k t)) ∙ t in
    record {
      inputs_free = λ k s e t. at k s (i_is k) e t same;
      reads_inputs = λ j k e. from j k (i_is j) e same input;
      even = good.even ∙ sym (length-set w.slots i (driven_by d));
    }
  where
    i_is : (k : ℕ) → (i ≡ k) ⊎ (i ≡ k → ⊥)
    i_is k = elim (either (i == k)) [ inl t ↦ inl (same i k t) | inr f ↦ inr (λ q. let w : true ≡ false = sym (same_self i) ∙ ap (λ n. i == n) q ∙ f in cc) ]

    at : (k : ℕ) (s : Slot) → (i ≡ k) ⊎ (i ≡ k → ⊥) → slice_get (slice_set w.slots i (driven_by d)) k ≡ Some s → s.is_input ≡ true
        → slice_get (slice_set w.slots i (driven_by d)) i ≡ Some (driven_by d) → s.driver ≡ None
    at k s (inl q) e t same =
        let z : Some (driven_by d) ≡ Some s = sym same ∙ ap (λ n. slice_get (slice_set w.slots i (driven_by d)) n) q ∙ e in
        let y : driven_by d ≡ s = cc in
        let u : false ≡ true = ap (λ (x : Slot). x.is_input) y ∙ t in cc
    at k s (inr ne) e t same = good.inputs_free k s (sym (set_other w.slots i k (driven_by d) ne) ∙ e) t

    from : (j k : ℕ) → (i ≡ j) ⊎ (i ≡ j → ⊥) → driver_at (slice_set w.slots i (driven_by d)) j ≡ Some (Port k) → slice_get (slice_set w.slots i (driven_by d)) i ≡ Some (driven_by d)
        → ((n : ℕ) → is_an_input (slice_get w.slots n) ≡ true → is_an_input (slice_get (slice_set w.slots i (driven_by d)) n) ≡ true)
        → is_an_input (slice_get (slice_set w.slots i (driven_by d)) k) ≡ true
    from j k (inl q) e same input =
        let z : Some d ≡ Some (Port k) = ap driver_in (sym same) ∙ ap (driver_at (slice_set w.slots i (driven_by d))) q ∙ e in
        let y : d ≡ Port k = cc in
        input k (reads k y)
    from j k (inr ne) e same input = input k (good.reads_inputs j k (ap driver_in (sym (set_other w.slots i j (driven_by d) ne)) ∙ e))

-- the right side of an assign is an input or a constant
right_reads : (w : Wires) (x : Right) (d : Driver) → driver_of w x ≡ Some d → (k : ℕ) → d ≡ Port k → is_an_input (slice_get w.slots k) ≡ true
right_reads w (fixed v) d e k q = cc
right_reads w (wire name) d e k q = at (place w.names name) e
  where
    test : (i : ℕ) (b : Bool) → is_an_input (slice_get w.slots i) ≡ b → (if b then Some (Port i) else None) ≡ Some d → is_an_input (slice_get w.slots k) ≡ true
    test i true t h = let z : i ≡ k = cc in ap (λ n. is_an_input (slice_get w.slots n)) (sym z) ∙ t
    test i false t h = cc

    at : (o : Option ℕ) → input_at w.slots o ≡ Some d → is_an_input (slice_get w.slots k) ≡ true
    at None h = cc
    at (Some i) h = test i (is_an_input (slice_get w.slots i)) refl h

drive_good : (w v : Wires) (a : Assign) → IsGood w → driven w a ≡ Some v → IsGood v
drive_good w v a good e = at (output_at w.slots (place w.names a.left)) (driver_of w a.right) (found (place w.names a.left)) (right_reads w a.right) e
  where
    test : (i j : ℕ) (b : Bool) → is_open_output (slice_get w.slots i) ≡ b → (if b then Some i else None) ≡ Some j → is_open_output (slice_get w.slots j) ≡ true
    test i j true t h = let z : i ≡ j = cc in ap (λ n. is_open_output (slice_get w.slots n)) (sym z) ∙ t
    test i j false t h = cc

    found : (o : Option ℕ) (j : ℕ) → output_at w.slots o ≡ Some j → is_open_output (slice_get w.slots j) ≡ true
    found None j h = cc
    found (Some i) j h = test i j (is_open_output (slice_get w.slots i)) refl h

    at : (o : Option ℕ) (d : Option Driver) → ((j : ℕ) → o ≡ Some j → is_open_output (slice_get w.slots j) ≡ true)
        → ((x : Driver) → d ≡ Some x → (k : ℕ) → x ≡ Port k → is_an_input (slice_get w.slots k) ≡ true) → put w o d ≡ Some v → IsGood v
    at None d opens reads h = cc
    at (Some i) None opens reads h = cc
    at (Some i) (Some d) opens reads h =
        let z : record { names = w.names; slots = slice_set w.slots i (driven_by d) } ≡ v = cc in
        subst IsGood z (set_good w i d good (opens i refl) (reads d refl))

all_good : (w v : Wires) (as' : List Assign) → IsGood w → all_driven w as' ≡ Some v → IsGood v
all_good w v [] good e = let z : w ≡ v = cc in subst IsGood z good
all_good w v (a ∷ as') good e = at (driven w a) refl (λ u h q. all_good u v as' (drive_good w u a good h) q) e
  where
    at : (o : Option Wires) → driven w a ≡ o → ((u : Wires) → driven w a ≡ Some u → all_driven u as' ≡ Some v → IsGood v) → then_all o (λ more. all_driven more as') ≡ Some v → IsGood v
    at None h later q = cc
    at (Some u) h later q = later u h q

wires_good : (top : Text) (m : Module) (v : Wires) → wires_of top m ≡ Some v → IsGood v
wires_good top m v e = at (bytes_eq m.name top) e
  where
    ports : (o : Option Wires) → all_ports (record { names = []; slots = [] }) m.ports ≡ o → then_all o (λ w. all_driven w m.assigns) ≡ Some v → IsGood v
    ports None h q = cc
    ports (Some w) h q = all_good w v m.assigns (ports_good (record { names = []; slots = [] }) w m.ports empty_good h) q

    at : (b : Bool) → (if b then then_all (all_ports (record { names = []; slots = [] }) m.ports) (λ w. all_driven w m.assigns) else None) ≡ Some v → IsGood v
    at true q = ports (all_ports (record { names = []; slots = [] }) m.ports) refl q
    at false q = cc

input_there : (slots : List Slot) (k : ℕ) (o : Option Slot) → slice_get slots k ≡ o → is_an_input o ≡ true → (s : Slot) × (slice_get slots k ≡ Some s) × (s.is_input ≡ true)
input_there slots k None e i = cc
input_there slots k (Some s) e i = (s, e, i)

pub wires_sound : (top : Text) (m : Module) (v : Wires) → wires_of top m ≡ Some v → IsSound v.slots
wires_sound top m v e =
    let good = wires_good top m v e in
    record {
      reads_free = λ j k d.
          let i = input_there v.slots k (slice_get v.slots k) refl (good.reads_inputs j k d) in
          (ap driver_in i.1 ∙ good.inputs_free k i.0 i.1 i.2, slice_get_within v.slots k i.0 i.1);
    }

pub wires_even : (top : Text) (m : Module) (v : Wires) → wires_of top m ≡ Some v → length v.names ≡ length v.slots
wires_even top m v e = (wires_good top m v e).even

pub source_sound : (top : Text) (text : List Text) (v : Wires) → source_of top text ≡ Some v → IsSound v.slots
source_sound top text v e = at (module_of text) e
  where
    at : (o : Option Module) → wires_in top o ≡ Some v → IsSound v.slots
    at None q = cc
    at (Some m) q = wires_sound top m v q

pub source_even : (top : Text) (text : List Text) (v : Wires) → source_of top text ≡ Some v → length v.names ≡ length v.slots
source_even top text v e = at (module_of text) e
  where
    at : (o : Option Module) → wires_in top o ≡ Some v → length v.names ≡ length v.slots
    at None q = cc
    at (Some m) q = wires_even top m v q

-- the places of each row are those of ports
abbrev pub AreIn : ℕ → List table.Row → Type 0
AreIn n rows = (r : table.Row) → In r rows → (r.source < n) × (r.dest < n)

in_append : {A : Type 0} (xs : List A) (y x : A) → In x (xs ++ (y ∷ [])) → In x xs ⊎ (x ≡ y)
in_append [] y x (inl e) = inr e
in_append [] y x (inr h) = absurd h
in_append (z ∷ xs) y x (inl e) = inl (inl e)
in_append (z ∷ xs) y x (inr h) = elim (in_append xs y x h) [ inl k ↦ inl (inr k) | inr e ↦ inr e ]

place_in : (names : List Text) (name : Text) (i : ℕ) → place names name ≡ Some i → i < length names
place_in names name i e = (position-Some (bytes_eq name) names i [] e).0

row_in : (names : List Text) (top : Text) (fields : List Text) (r : table.Row) → table.row_of names top fields ≡ Some r → (r.source < length names) × (r.dest < length names)
row_in names top [] r e = cc
row_in names top (k ∷ []) r e = cc
row_in names top (k ∷ n ∷ []) r e = cc
row_in names top (k ∷ n ∷ b ∷ []) r e = cc
row_in names top (k ∷ n ∷ b ∷ s ∷ []) r e = cc
row_in names top (k ∷ n ∷ b ∷ s ∷ c ∷ []) r e = cc
row_in names top (k ∷ n ∷ b ∷ s ∷ c ∷ d ∷ x ∷ xs) r e = cc
row_in names top (k ∷ n ∷ b ∷ s ∷ c ∷ d ∷ []) r e =
    test (bytes_eq k (codes "CONNECTION") && (table.is_row_name n && (bytes_eq b top && bytes_eq c top))) e
  where
    at : (p q : Option ℕ) → place names s ≡ p → place names d ≡ q → table.row_at n p q ≡ Some r → (r.source < length names) × (r.dest < length names)
    at None q ep eq h = cc
    at (Some i) None ep eq h = cc
    at (Some i) (Some j) ep eq h =
        let z : record { name = n; source = i; dest = j } ≡ r = cc in
        let P : table.Row → Type 0 = λ x. (x.source < length names) × (x.dest < length names) in
        subst P z (place_in names s i ep, place_in names d j eq)

    test : (t : Bool) → (if t then table.row_at n (place names s) (place names d) else None) ≡ Some r → (r.source < length names) × (r.dest < length names)
    test true h = at (place names s) (place names d) refl refl h
    test false h = cc

after_in : (names : List Text) (top : Text) (held : List table.Row) (lines : List Text) (rows : List table.Row) → AreIn (length names) held
    → table.rows_after names top held lines ≡ Some rows → AreIn (length names) rows
after_in names top held [] rows h e = let z : held ≡ rows = cc in subst (AreIn (length names)) z h
after_in names top held (l ∷ ls) rows h e =
    at (table.is_skipped l) (after_in names top held ls rows h) (λ more. after_in names top more ls rows) e
  where
    taken : (r : table.Row) (b : Bool) → table.row_of names top (pieces 44 l) ≡ Some r → ((more : List table.Row) → AreIn (length names) more → table.rows_after names top more ls ≡ Some rows → AreIn (length names) rows)
        → (if b then None else table.rows_after names top (held ++ (r ∷ [])) ls) ≡ Some rows → AreIn (length names) rows
    taken r true is later q = cc
    taken r false is later q = later (held ++ (r ∷ [])) (λ x i. elim (in_append held r x i) [
      | inl k ↦ h x k
      | inr same ↦ let P : table.Row → Type 0 = λ y. (y.source < length names) × (y.dest < length names) in subst P (sym same) (row_in names top (pieces 44 l) r is)
    ]) q

    one : (o : Option table.Row) → table.row_of names top (pieces 44 l) ≡ o → ((more : List table.Row) → AreIn (length names) more → table.rows_after names top more ls ≡ Some rows → AreIn (length names) rows)
        → table.row_then held o (λ more. table.rows_after names top more ls) ≡ Some rows → AreIn (length names) rows
    one None is later q = cc
    one (Some r) is later q = taken r (list_any (bytes_eq r.name) (map (λ k. k.name) held)) is later q

    at : (b : Bool) → (table.rows_after names top held ls ≡ Some rows → AreIn (length names) rows)
        → ((more : List table.Row) → AreIn (length names) more → table.rows_after names top more ls ≡ Some rows → AreIn (length names) rows)
        → (if b then table.rows_after names top held ls else table.row_then held (table.row_of names top (pieces 44 l)) (λ more. table.rows_after names top more ls)) ≡ Some rows
        → AreIn (length names) rows
    at true skip later q = skip q
    at false skip later q = one (table.row_of names top (pieces 44 l)) refl later q

pub rows_in : (names : List Text) (top text : Text) (rows : List table.Row) → table.rows_of names top text ≡ Some rows → AreIn (length names) rows
rows_in names top text rows e = at (table.rows_after names top [] (pieces 10 text)) refl e
  where
    few : (all : List table.Row) (b : Bool) → table.rows_after names top [] (pieces 10 text) ≡ Some all → (if b then None else Some all) ≡ Some rows → AreIn (length names) rows
    few all true h q = cc
    few all false h q = let z : all ≡ rows = cc in after_in names top [] (pieces 10 text) rows (λ r i. absurd i) (h ∙ ap Some z)

    at : (o : Option (List table.Row)) → table.rows_after names top [] (pieces 10 text) ≡ o → table.few o ≡ Some rows → AreIn (length names) rows
    at None h q = cc
    at (Some all) h q = few all (nat_lt 10000 (length all)) h q
