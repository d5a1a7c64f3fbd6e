-- The drivers of a plain module are its assigns.
use Rattle.std.proofs.Common.{suc, zero, ◌≡◌, ◌∙◌, ◌++◌, ◌==◌, ℕ, Bool, true, false, not, if◌then◌else◌, List, [], ◌∷◌, Option, Some, None, is_none, map, slice_get, slice_set, refl, sym, ap, subst, inl, inr, ◌⊎◌, append_assoc}
use Rattle.std.proofs.lemmas.List.{append-nil, map-append}
use Rattle.std.specs.List.{list_any}
use Rattle.std.specs.Str.{bytes_eq}
use Rattle.design_core.specs.Cells.{In}
use Rattle.plain_form.specs.Modules.{Text, Port as ModulePort, Right, wire, fixed, Assign, Module}
use Rattle.plain_form.specs.Wires.{Wires, all_driven, all_ports, driven, driven_by, driver_of, input_at, is_an_input, is_open_output, output_at, place, put, slot_of, then_all, with_port}
use Rattle.plain_form.specs.declared.wires.Driver.{Driver}
use Rattle.plain_form.specs.declared.wires.Driver.TheVariants.{Port, Fixed}
use Rattle.plain_form.specs.declared.wires.Slot.{Slot}
use Rattle.plain_rows.specs.Laws.{Gives, IsAssignAt, ReadsAsAssigns, DriversAreAssigns}
use Rattle.plain_rows.specs.Plain.{driver_at, driver_in}
use Rattle.plain_rows.proofs.CellLaws.{both_true, either, same, same_self}
use Rattle.plain_rows.proofs.SoundLaws.{set_other, set_same, one_more}

abbrev pub flags : List Slot → List Bool
flags slots = map (λ (s : Slot). s.is_input) slots

-- what one assign more does
pub record IsStep (w u : Wires) (a : Assign) : Type 0 where
  pub at : ℕ
  pub driver : Driver
  pub is_assign : IsAssignAt w.names a at driver
  pub was : Slot
  pub was_at : slice_get w.slots at ≡ Some was
  pub was_output : was.is_input ≡ false
  pub was_free : was.driver ≡ None
  pub names_kept : u.names ≡ w.names
  pub slots_are : u.slots ≡ slice_set w.slots at (driven_by driver)

not_false : (b : Bool) → not b ≡ true → b ≡ false
not_false true e = cc
not_false false e = refl

none_is : (o : Option Driver) → is_none o ≡ true → o ≡ None
none_is None e = refl
none_is (Some d) e = cc

step_of : (w u : Wires) (a : Assign) (i : ℕ) (d : Driver) (o : Option Slot) → slice_get w.slots i ≡ o → is_open_output o ≡ true → IsAssignAt w.names a i d
    → record { names = w.names; slots = slice_set w.slots i (driven_by d) } ≡ u → IsStep w u a
step_of w u a i d None e opens is z = cc
step_of w u a i d (Some s) e opens is z =
    let h = both_true (not s.is_input) (is_none s.driver) opens in
    record {
      at = i;
      driver = d;
      is_assign = is;
      was = s;
      was_at = e;
      was_output = not_false s.is_input h.0;
      was_free = none_is s.driver h.1;
      names_kept = sym (ap (λ (x : Wires). x.names) z);
      slots_are = sym (ap (λ (x : Wires). x.slots) z);
    }

wire_gives : (w : Wires) (name : Text) (d : Driver) (o : Option ℕ) → place w.names name ≡ o → input_at w.slots o ≡ Some d → Gives w.names (wire name) d
wire_gives w name d None p e = cc
wire_gives w name d (Some k) p e = at (is_an_input (slice_get w.slots k)) e
  where
    at : (b : Bool) → (if b then Some (Port k) else None) ≡ Some d → Gives w.names (wire name) d
    at true q = let z : Port k ≡ d = cc in subst (Gives w.names (wire name)) z p
    at false q = cc

gives : (w : Wires) (x : Right) (d : Driver) → driver_of w x ≡ Some d → Gives w.names x d
gives w (fixed v) d e = let z : Fixed v ≡ d = cc in subst (Gives w.names (fixed v)) z refl
gives w (wire name) d e = wire_gives w name d (place w.names name) refl e

step : (w u : Wires) (a : Assign) → driven w a ≡ Some u → IsStep w u a
step w u a e = at (place w.names a.left) refl e
  where
    last : (i : ℕ) → place w.names a.left ≡ Some i → is_open_output (slice_get w.slots i) ≡ true → (d : Option Driver) → driver_of w a.right ≡ d → put w (Some i) d ≡ Some u → IsStep w u a
    last i p opens None q h = cc
    last i p opens (Some d) q h =
        let z : record { names = w.names; slots = slice_set w.slots i (driven_by d) } ≡ u = cc in
        step_of w u a i d (slice_get w.slots i) refl opens (record { left = p; right = gives w a.right d q }) z

    test : (i : ℕ) → place w.names a.left ≡ Some i → (b : Bool) → is_open_output (slice_get w.slots i) ≡ b → put w (if b then Some i else None) (driver_of w a.right) ≡ Some u → IsStep w u a
    test i p true t h = last i p t (driver_of w a.right) refl h
    test i p false t h = cc

    at : (o : Option ℕ) → place w.names a.left ≡ o → put w (output_at w.slots o) (driver_of w a.right) ≡ Some u → IsStep w u a
    at None p h = cc
    at (Some i) p h = test i p (is_open_output (slice_get w.slots i)) refl h

flags_kept : (xs : List Slot) (i : ℕ) (s v : Slot) → slice_get xs i ≡ Some s → v.is_input ≡ s.is_input → flags (slice_set xs i v) ≡ flags xs
flags_kept [] i s v e q = cc
flags_kept (x ∷ xs) zero s v e q = let z : x ≡ s = cc in ap (λ (b : Bool). b ∷ flags xs) (q ∙ ap (λ (y : Slot). y.is_input) (sym z))
flags_kept (x ∷ xs) (suc i) s v e q = ap (λ (bs : List Bool). x.is_input ∷ bs) (flags_kept xs i s v e q)

decide : (i k : ℕ) → (i ≡ k) ⊎ (i ≡ k → ⊥)
decide i k = elim (either (i == k)) [ inl t ↦ inl (same i k t) | inr f ↦ inr (λ q. let w : true ≡ false = sym (same_self i) ∙ ap (λ n. i == n) q ∙ f in cc) ]

-- the drivers after one assign more
new_driver : (w u : Wires) (a : Assign) (s : IsStep w u a) → driver_at u.slots s.at ≡ Some s.driver
new_driver w u a s = ap (λ (x : List Slot). driver_at x s.at) s.slots_are ∙ ap driver_in (set_same w.slots s.at (driven_by s.driver) s.was s.was_at)

other_driver : (w u : Wires) (a : Assign) (s : IsStep w u a) (i : ℕ) → (s.at ≡ i → ⊥) → driver_at u.slots i ≡ driver_at w.slots i
other_driver w u a s i ne = ap (λ (x : List Slot). driver_at x i) s.slots_are ∙ ap driver_in (set_other w.slots s.at i (driven_by s.driver) ne)

kept_driver : (w u : Wires) (a : Assign) (s : IsStep w u a) (i : ℕ) (d : Driver) → driver_at w.slots i ≡ Some d → driver_at u.slots i ≡ Some d
kept_driver w u a s i d e = elim (decide s.at i) [
  | inl q ↦ (let z : None ≡ Some d = sym (ap driver_in s.was_at ∙ s.was_free) ∙ ap (driver_at w.slots) q ∙ e in cc)
  | inr ne ↦ other_driver w u a s i ne ∙ e
]

pub record IsDriven (w v : Wires) (as' : List Assign) : Type 0 where
  pub names_kept : v.names ≡ w.names
  pub inputs_kept : flags v.slots ≡ flags w.slots
  pub drivers_kept : (i : ℕ) (d : Driver) → driver_at w.slots i ≡ Some d → driver_at v.slots i ≡ Some d
  pub each_assign : (a : Assign) → In a as' → (i : ℕ) × (d : Driver) × IsAssignAt w.names a i d × (driver_at v.slots i ≡ Some d)
  pub each_driver : (i : ℕ) (d : Driver) → driver_at v.slots i ≡ Some d → (driver_at w.slots i ≡ Some d) ⊎ ((a : Assign) × In a as' × IsAssignAt w.names a i d)

driven_none : (w : Wires) → IsDriven w w []
driven_none w = record { names_kept = refl; inputs_kept = refl; drivers_kept = λ i d e. e; each_assign = λ a h. absurd h; each_driver = λ i d e. inl e }

driven_more : (w u v : Wires) (a : Assign) (as' : List Assign) → IsStep w u a → IsDriven u v as' → IsDriven w v (a ∷ as')
driven_more w u v a as' s r =
    let at_names : (x : Assign) (i : ℕ) (d : Driver) → IsAssignAt u.names x i d → IsAssignAt w.names x i d =
    λ x i d h. let P : List Text → Type 0 = λ n. IsAssignAt n x i d in subst P s.names_kept h in
    record {
      names_kept = r.names_kept ∙ s.names_kept;
      inputs_kept = r.inputs_kept ∙ ap flags s.slots_are ∙ flags_kept w.slots s.at s.was (driven_by s.driver) s.was_at (sym s.was_output);
      drivers_kept = λ i d e. r.drivers_kept i d (kept_driver w u a s i d e);
      each_assign = λ x h. elim h [
        | inl e ↦ (s.at, s.driver, (let P : Assign → Type 0 = λ y. IsAssignAt w.names y s.at s.driver in subst P (sym e) s.is_assign), r.drivers_kept s.at s.driver (new_driver w u a s))
        | inr k ↦ (let q = r.each_assign x k in (q.0, q.1, at_names x q.0 q.1 q.2, q.3))
      ];
      each_driver = λ i d e. elim (r.each_driver i d e) [
        | inl f ↦ elim (decide s.at i) [
          | inl q ↦ (let z : Some s.driver ≡ Some d = sym (new_driver w u a s) ∙ ap (driver_at u.slots) q ∙ f in
              let y : s.driver ≡ d = cc in
              let P : ℕ → Type 0 = λ n. IsAssignAt w.names a n d in
              let Q : Driver → Type 0 = λ x. IsAssignAt w.names a s.at x in
              inr (a, inl refl, subst P q (subst Q y s.is_assign)))
          | inr ne ↦ inl (sym (other_driver w u a s i ne) ∙ f)
        ]
        | inr k ↦ inr (k.0, inr k.1, at_names k.0 i d k.2)
      ];
    }

all_assigns : (w v : Wires) (as' : List Assign) → all_driven w as' ≡ Some v → IsDriven w v as'
all_assigns w v [] e = let z : w ≡ v = cc in let P : Wires → Type 0 = λ x. IsDriven w x [] in subst P z (driven_none w)
all_assigns w v (a ∷ as') e = at (driven w a) refl (λ u q. all_assigns u v as' q) e
  where
    at : (o : Option Wires) → driven w a ≡ o → ((u : Wires) → all_driven u as' ≡ Some v → IsDriven u v as') → then_all o (λ more. all_driven more as') ≡ Some v → IsDriven w v (a ∷ as')
    at None h later q = cc
    at (Some u) h later q = driven_more w u v a as' (step w u a h) (later u q)

-- the ports before any assign
pub record ArePorts (w v : Wires) (ps : List ModulePort) : Type 0 where
  pub names_are : v.names ≡ w.names ++ map (λ (p : ModulePort). p.name) ps
  pub inputs_are : flags v.slots ≡ flags w.slots ++ map (λ (p : ModulePort). p.is_input) ps
  pub none_driven : ((i : ℕ) → driver_at w.slots i ≡ None) → (i : ℕ) → driver_at v.slots i ≡ None

ports : (w v : Wires) (ps : List ModulePort) → all_ports w ps ≡ Some v → ArePorts w v ps
ports w v [] e =
    let z : w ≡ v = cc in
    let P : Wires → Type 0 = λ x. ArePorts w x [] in
    subst P z (record { names_are = sym (append-nil w.names); inputs_are = sym (append-nil (flags w.slots)); none_driven = λ h. h })
ports w v (p ∷ ps) e = at (list_any (bytes_eq p.name) w.names) (ports (with_port w p) v ps) e
  where
    at : (b : Bool) → (all_ports (with_port w p) ps ≡ Some v → ArePorts (with_port w p) v ps) → (if b then None else all_ports (with_port w p) ps) ≡ Some v → ArePorts w v (p ∷ ps)
    at true later q = cc
    at false later q = let r = later q in record {
      names_are = r.names_are ∙ append_assoc w.names (p.name ∷ []) (map (λ (x : ModulePort). x.name) ps);
      inputs_are = r.inputs_are ∙ ap (λ (bs : List Bool). bs ++ map (λ (x : ModulePort). x.is_input) ps) (map-append (λ (s : Slot). s.is_input) w.slots (slot_of p ∷ []))
          ∙ append_assoc (flags w.slots) (p.is_input ∷ []) (map (λ (x : ModulePort). x.is_input) ps);
      none_driven = λ h. r.none_driven (λ i.
          let P : Option Slot → Type 0 = λ o. driver_in o ≡ None in
          one_more w.slots (slot_of p) i P (λ _. refl) (λ _. refl) (λ y q. sym (ap driver_in q) ∙ h i));
    }

abbrev none : Wires
none = record { names = []; slots = [] }

joined_law : (m : Module) (w v : Wires) → ArePorts none w m.ports → IsDriven w v m.assigns → ReadsAsAssigns m v
joined_law m w v p d =
    let at_names : (x : Assign) (i : ℕ) (y : Driver) → IsAssignAt w.names x i y → IsAssignAt v.names x i y =
    λ x i y h. let P : List Text → Type 0 = λ n. IsAssignAt n x i y in subst P (sym d.names_kept) h in
    record {
      names = d.names_kept ∙ p.names_are;
      inputs = d.inputs_kept ∙ p.inputs_are;
      each_assign = λ a h. let q = d.each_assign a h in (q.0, q.1, at_names a q.0 q.1 q.2, q.3);
      each_driver = λ i x e. elim (d.each_driver i x e) [
        | inl f ↦ absurd (let z : None ≡ Some x = sym (p.none_driven (λ k. refl) i) ∙ f in cc)
        | inr k ↦ (k.0, k.1, at_names k.0 i x k.2)
      ];
    }

pub drivers_are_assigns : DriversAreAssigns
drivers_are_assigns top m v e = at (bytes_eq m.name top) e
  where
    both : (o : Option Wires) → all_ports none m.ports ≡ o → then_all o (λ w. all_driven w m.assigns) ≡ Some v → ReadsAsAssigns m v
    both None h q = cc
    both (Some w) h q = joined_law m w v (ports none w m.ports h) (all_assigns w v m.assigns q)

    at : (b : Bool) → (if b then then_all (all_ports none m.ports) (λ w. all_driven w m.assigns) else None) ≡ Some v → ReadsAsAssigns m v
    at true q = both (all_ports none m.ports) refl q
    at false q = cc
