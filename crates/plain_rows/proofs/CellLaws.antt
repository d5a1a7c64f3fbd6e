-- The assigns of one bit as cells.
use Rattle.std.proofs.Common.{rules, ◌≡◌, ◌∙◌, ◌+◌, ℕ, zero, suc, Bool, true, false, not, ◌&&◌, ◌||◌, ◌==◌, List, [], ◌∷◌, cond, Option, Some, None, map, refl, sym, ap, ap₂, subst, arith, inl, inr, ◌⊎◌}
use Rattle.std.specs.List.{filter}
use Rattle.design_core.specs.declared.place.BitRef.{BitRef}
use Rattle.design_core.specs.Core.{bit}
use Rattle.design_core.specs.Cells.{Bitmap, Cell, In, driven, read_by}
use Rattle.design_core.specs.Items.{CoreItem, cell_of}
use Rattle.plain_form.specs.declared.wires.Driver.{Driver}
use Rattle.plain_form.specs.declared.wires.Driver.TheVariants.{Port, Fixed}
use Rattle.plain_form.specs.declared.wires.Slot.{Slot}
use Rattle.plain_rows.specs.Plain.{and_item, driver_at, item, items_from}

abbrev pub cell : ℕ → Driver → Cell BitRef
cell i d = cell_of (item i d)

-- what a driver gives in an assignment
abbrev pub given : Bitmap BitRef → Driver → Bool
given σ (Port k) = σ (bit k 0)
given σ (Fixed v) = v

pub either : (b : Bool) → (b ≡ true) ⊎ (b ≡ false)
either true = inl refl
either false = inr refl

pub both_true : (a b : Bool) → (a && b) ≡ true → (a ≡ true) × (b ≡ true)
both_true true true e = (refl, refl)
both_true true false e = cc
both_true false b e = cc

pub or_cases : (a b : Bool) → (a || b) ≡ true → (a ≡ true) ⊎ (b ≡ true)
or_cases true b e = inl refl
or_cases false b e = inr e

pub or_left : (a b : Bool) → a ≡ true → (a || b) ≡ true
or_left a b e = rw e refl

pub or_right : (a b : Bool) → b ≡ true → (a || b) ≡ true
or_right true b e = refl
or_right false b e = e

pub same : (a b : ℕ) → (a == b) ≡ true → a ≡ b
same a b e = search rules

pub same_self : (a : ℕ) → (a == a) ≡ true
same_self a = search rules

pub drives_own : (i : ℕ) (d : Driver) → (cell i d).drives (bit i 0) ≡ true
drives_own i d = rw (same_self i) refl

pub drives_is : (i : ℕ) (d : Driver) (b : BitRef) → (cell i d).drives b ≡ true → b ≡ bit i 0
drives_is i d b e =
    let h = both_true (b.signal == i) ((b.bit == 0) || false) e in
    let s : b.signal ≡ i = same b.signal i h.0 in
    let z : b.bit ≡ 0 = elim (or_cases (b.bit == 0) false h.1) [ inl t ↦ same b.bit 0 t | inr f ↦ cc ] in
    ap₂ (λ x y. bit x y) s z

pub within_own : (i : ℕ) (d : Driver) (s σ : Bitmap BitRef) → (cell i d).within s σ (bit i 0) ≡ given σ d
within_own i (Port k) s σ = rw (same_self i) refl
within_own i (Fixed v) s σ = rw (same_self i) refl

pub reads_own : (i k : ℕ) → (cell i (Port k)).reads (bit k 0) ≡ true
reads_own i k = rw (same_self k) refl

pub reads_is : (i : ℕ) (d : Driver) (b : BitRef) → ((cell i d).reads b || ((cell i d).uses b && not ((cell i d).drives b))) ≡ true → (d ≡ Port b.signal) × (b.bit ≡ 0)
reads_is i (Fixed v) b e = cc
reads_is i (Port k) b e =
    let r : ((b.signal == k) && ((b.bit == 0) || false)) ≡ true =
    elim (or_cases (((b.signal == k) && ((b.bit == 0) || false)) || false) false e) [ inl t ↦ elim (or_cases ((b.signal == k) && ((b.bit == 0) || false)) false t) [ inl u ↦ u | inr f ↦ cc ] | inr f ↦ cc ] in
    let h = both_true (b.signal == k) ((b.bit == 0) || false) r in
    let s : b.signal ≡ k = same b.signal k h.0 in
    let z : b.bit ≡ 0 = elim (or_cases (b.bit == 0) false h.1) [ inl t ↦ same b.bit 0 t | inr f ↦ cc ] in
    (ap Port (sym s), z)

-- a cell of a list of ports: port i + j has this assign
pub record IsAt (c : Cell BitRef) (i : ℕ) (slots : List Slot) : Type 0 where
  pub at : ℕ
  pub driver : Driver
  pub drives_it : driver_at slots at ≡ Some driver
  pub is_it : c ≡ cell (i + at) driver

in_and : (c : Cell BitRef) (i : ℕ) (o : Option Driver) (slots : List Slot) (s : Slot) → s.driver ≡ o
    → (In c (map cell_of (items_from (suc i) slots)) → IsAt c i (s ∷ slots)) → In c (map cell_of (and_item i o (items_from (suc i) slots))) → IsAt c i (s ∷ slots)
in_and c i None slots s is later h = later h
in_and c i (Some d) slots s is later (inl e) = record { at = 0; driver = d; drives_it = is; is_it = let z : i ≡ i + 0 = omega arith in e ∙ ap (λ n. cell n d) z }
in_and c i (Some d) slots s is later (inr h) = later h

pub in_items : (c : Cell BitRef) (i : ℕ) (slots : List Slot) → In c (map cell_of (items_from i slots)) → IsAt c i slots
in_items c i [] h = absurd h
in_items c i (s ∷ ss) h = in_and c i s.driver ss s refl (λ r.
    let a = in_items c (suc i) ss r in
    let z : suc i + a.at ≡ i + suc a.at = omega arith in
    record { at = suc a.at; driver = a.driver; drives_it = a.drives_it; is_it = a.is_it ∙ ap (λ n. cell n a.driver) z }) h

and_here : (c : Cell BitRef) (i : ℕ) (o : Option Driver) (d : Driver) (rest : List (Cell BitRef)) (items : List CoreItem) → o ≡ Some d → c ≡ cell i d
    → In c (map cell_of (and_item i o items))
and_here c i None d rest items e is = cc
and_here c i (Some x) d rest items e is = let y : d ≡ x = cc in inl (is ∙ ap (cell i) y)

and_there : (c : Cell BitRef) (i : ℕ) (o : Option Driver) (items : List CoreItem) → In c (map cell_of items) → In c (map cell_of (and_item i o items))
and_there c i None items h = h
and_there c i (Some x) items h = inr h

pub in_cells : (i : ℕ) (slots : List Slot) (j : ℕ) (d : Driver) → driver_at slots j ≡ Some d → In (cell (i + j) d) (map cell_of (items_from i slots))
in_cells i [] j d e = cc
in_cells i (s ∷ ss) zero d e = let z : i + 0 ≡ i = omega arith in and_here (cell (i + 0) d) i s.driver d [] (items_from (suc i) ss) e (ap (λ n. cell n d) z)
in_cells i (s ∷ ss) (suc j) d e =
    let z : suc i + j ≡ i + suc j = omega arith in
    let P : ℕ → Type 0 = λ n. In (cell n d) (map cell_of (and_item i s.driver (items_from (suc i) ss))) in
    subst P z (and_there (cell (suc i + j) d) i s.driver (items_from (suc i) ss) (in_cells (suc i) ss j d e))

pub none_drives : (E : List (Cell BitRef)) (b : BitRef) → ((c : Cell BitRef) → In c E → c.drives b ≡ true → ⊥) → driven E b ≡ false
none_drives [] b h = refl
none_drives (c ∷ cs) b h = elim (either (c.drives b)) [ inl t ↦ absurd (h c (inl refl) t) | inr f ↦ rw f (none_drives cs b (λ x i. h x (inr i))) ]

pub some_drives : (E : List (Cell BitRef)) (b : BitRef) (c : Cell BitRef) → In c E → c.drives b ≡ true → driven E b ≡ true
some_drives [] b c h e = absurd h
some_drives (x ∷ xs) b c (inl is) e = or_left (x.drives b) (driven xs b) (ap (λ (y : Cell BitRef). y.drives b) (sym is) ∙ e)
some_drives (x ∷ xs) b c (inr h) e = or_right (x.drives b) (driven xs b) (some_drives xs b c h e)

pub some_reads : (E : List (Cell BitRef)) (b : BitRef) (c : Cell BitRef) → In c E → c.reads b ≡ true → read_by E b ≡ true
some_reads [] b c h e = absurd h
some_reads (x ∷ xs) b c (inl is) e = or_left (x.reads b || x.uses b) (read_by xs b) (or_left (x.reads b) (x.uses b) (ap (λ (y : Cell BitRef). y.reads b) (sym is) ∙ e))
some_reads (x ∷ xs) b c (inr h) e = or_right (x.reads b || x.uses b) (read_by xs b) (some_reads xs b c h e)

filtered_at : {A : Type 0} (p : A → Bool) (y : A) (ys : List A) (x : A) (b : Bool) → p y ≡ b → (In x (filter p ys) → In x ys × (p x ≡ true))
    → In x (cond b (y ∷ filter p ys) (filter p ys)) → In x (y ∷ ys) × (p x ≡ true)
filtered_at p y ys x true e later (inl is) = (inl is, ap p is ∙ e)
filtered_at p y ys x true e later (inr r) = let k = later r in (inr k.0, k.1)
filtered_at p y ys x false e later r = let k = later r in (inr k.0, k.1)

pub filtered : {A : Type 0} (p : A → Bool) (xs : List A) (x : A) → In x (filter p xs) → In x xs × (p x ≡ true)
filtered p [] x h = absurd h
filtered p (y ∷ ys) x h = filtered_at p y ys x (p y) refl (filtered p ys x) h

kept_at : {A : Type 0} (p : A → Bool) (y : A) (ys : List A) (x : A) (b : Bool) → p y ≡ b → p x ≡ true → (In x ys → In x (filter p ys))
    → In x (y ∷ ys) → In x (cond b (y ∷ filter p ys) (filter p ys))
kept_at p y ys x true q e later (inl is) = inl is
kept_at p y ys x true q e later (inr r) = inr (later r)
kept_at p y ys x false q e later (inl is) = let w : true ≡ false = sym e ∙ ap p is ∙ q in cc
kept_at p y ys x false q e later (inr r) = later r

pub kept : {A : Type 0} (p : A → Bool) (xs : List A) (x : A) → In x xs → p x ≡ true → In x (filter p xs)
kept p [] x h e = absurd h
kept p (y ∷ ys) x h e = kept_at p y ys x (p y) refl e (λ r. kept p ys x r e) h
