-- In a settled cycle each port has the value that stands at its other end; and each choice of values for the free ports is settled.
use Rattle.std.proofs.Common.{◌≡◌, ◌∙◌, ◌+◌, ℕ, Bool, true, false, ◌==◌, if◌then◌else◌, List, Option, Some, None, refl, sym, ap, subst, arith}
use Rattle.design_core.specs.declared.place.BitRef.{BitRef}
use Rattle.design_core.specs.Core.{bit}
use Rattle.design_core.specs.Cells.{Bitmap, Cell, In, driven, Holds}
use Rattle.plain_form.specs.declared.wires.Driver.{Driver}
use Rattle.plain_form.specs.declared.wires.Driver.TheVariants.{Port, Fixed}
use Rattle.plain_form.specs.declared.wires.Slot.{Slot}
use Rattle.plain_rows.specs.Plain.{IsSound, cells, driver_at, end_of, or_itself}
use Rattle.plain_rows.proofs.CellLaws.{cell, given, drives_own, drives_is, within_own, in_items, in_cells, none_drives, some_drives}

-- what a driver gives where the free ports have these values
abbrev pub worth : (ℕ → Bool) → Driver → Bool
worth τ (Port k) = τ k
worth τ (Fixed v) = v

module _ (slots : List Slot) where
  at_zero : (j : ℕ) (d : Driver) → driver_at slots j ≡ Some d → In (cell j d) (cells slots)
  at_zero j d e = let z : 0 + j ≡ j = omega arith in let P : ℕ → Type 0 = λ n. In (cell n d) (cells slots) in subst P z (in_cells 0 slots j d e)

  pub driver_in_cells : (j : ℕ) (d : Driver) → driver_at slots j ≡ Some d → In (cell j d) (cells slots)
  driver_in_cells = at_zero

  end_at : (s σ : Bitmap BitRef) → ((c : Cell BitRef) → In c (cells slots) → Holds c s σ) → (i : ℕ) (o : Option Driver) → driver_at slots i ≡ o
      → σ (bit i 0) ≡ given σ (or_itself i o)
  end_at s σ holds i None e = refl
  end_at s σ holds i (Some d) e = (holds (cell i d) (at_zero i d e)).gives (bit i 0) (drives_own i d) ∙ within_own i d s σ

  -- a port has the value of its other end
  pub settled_end : (s σ : Bitmap BitRef) → ((c : Cell BitRef) → In c (cells slots) → Holds c s σ) → (i : ℕ) → σ (bit i 0) ≡ given σ (end_of slots i)
  settled_end s σ holds i = end_at s σ holds i (driver_at slots i) refl

  -- the assignment in which the free ports have these values
  abbrev pub made : (ℕ → Bool) → Bitmap BitRef
  made τ b = if b.bit == 0 then worth τ (end_of slots b.signal) else false

  pub made_end : (τ : ℕ → Bool) (i : ℕ) (o : Option Driver) → driver_at slots i ≡ o → made τ (bit i 0) ≡ worth τ (or_itself i o)
  made_end τ i o e = ap (λ x. worth τ (or_itself i x)) e

  module _ (sound : IsSound slots) where
    given_made : (τ : ℕ → Bool) (j : ℕ) (d : Driver) → driver_at slots j ≡ Some d → given (made τ) d ≡ worth τ d
    given_made τ j (Port k) e = made_end τ k None ((sound.reads_free j k e).0)
    given_made τ j (Fixed v) e = refl

    pub made_holds : (τ : ℕ → Bool) (s : Bitmap BitRef) (c : Cell BitRef) → In c (cells slots) → Holds c s (made τ)
    made_holds τ s c h =
        let a = in_items c 0 slots h in
        let z : 0 + a.at ≡ a.at = omega arith in
        let is : c ≡ cell a.at a.driver = a.is_it ∙ ap (λ n. cell n a.driver) z in
        let own : made τ (bit a.at 0) ≡ (cell a.at a.driver).within s (made τ) (bit a.at 0) =
        made_end τ a.at (Some a.driver) a.drives_it ∙ sym (given_made τ a.at a.driver a.drives_it) ∙ sym (within_own a.at a.driver s (made τ)) in
        let P : Cell BitRef → Type 0 = λ x. Holds x s (made τ) in
        subst P (sym is) (record {
          gives = λ b e.
              let Q : BitRef → Type 0 = λ y. made τ y ≡ (cell a.at a.driver).within s (made τ) y in
              subst Q (sym (drives_is a.at a.driver b e)) own;
        })

  pub free_undriven : (k : ℕ) → driver_at slots k ≡ None → driven (cells slots) (bit k 0) ≡ false
  free_undriven k e = none_drives (cells slots) (bit k 0) (λ c h t.
      let a = in_items c 0 slots h in
      let own : (cell (0 + a.at) a.driver).drives (bit k 0) ≡ true = ap (λ (x : Cell BitRef). x.drives (bit k 0)) (sym a.is_it) ∙ t in
      let same : bit k 0 ≡ bit (0 + a.at) 0 = drives_is (0 + a.at) a.driver (bit k 0) own in
      let n : k ≡ 0 + a.at = ap (λ (x : BitRef). x.signal) same in
      let z : k ≡ a.at = omega arith in
      let w : None ≡ Some a.driver = sym e ∙ ap (driver_at slots) z ∙ a.drives_it in cc)

  undriven_at : (k : ℕ) (o : Option Driver) → driver_at slots k ≡ o → driven (cells slots) (bit k 0) ≡ false → driver_at slots k ≡ None
  undriven_at k None e f = e
  undriven_at k (Some d) e f = let t : true ≡ false = sym (some_drives (cells slots) (bit k 0) (cell k d) (at_zero k d e) (drives_own k d)) ∙ f in cc

  pub undriven_free : (k : ℕ) → driven (cells slots) (bit k 0) ≡ false → driver_at slots k ≡ None
  undriven_free k f = undriven_at k (driver_at slots k) refl f
