-- A cut of an ordered list of cells is ordered, and the order of the items does not matter for traces.
use Rattle.std.proofs.Common.{◌≡◌, Bool, true, false, List, [], ◌∷◌, map, filter, inl, inr, refl, sym, ◌∙◌, ap, subst, ◌||◌, if◌then◌else◌}
use Rattle.design_core.specs.Cells.{Cell, In, driven, IsFirst, IsOrdered}
use Rattle.design_laws.proofs.OrderLaws.{or_false, false_or, not_both, either}
use Rattle.design_laws.proofs.TraceLaws.{in_driven}

module _ {A B : Type 0} (f : A → Cell B) (p : A → Bool) where
  fewer : (x : A) (xs : List A) (b : B) → (k : Bool) → p x ≡ k → (driven (map f xs) b ≡ false → driven (map f (filter p xs)) b ≡ false)
      → driven (map f (x ∷ xs)) b ≡ false → driven (map f (filter p (x ∷ xs))) b ≡ false
  fewer x xs b true e h d = let q = or_false ((f x).drives b) (driven (map f xs) b) d in
      let P : List A → Type 0 = λ ys. driven (map f ys) b ≡ false in
      subst P (sym (ap (λ c. if c then x ∷ filter p xs else filter p xs) e)) (false_or ((f x).drives b) (driven (map f (filter p xs)) b) q.0 (h q.1))
  fewer x xs b false e h d = let q = or_false ((f x).drives b) (driven (map f xs) b) d in
      let P : List A → Type 0 = λ ys. driven (map f ys) b ≡ false in
      subst P (sym (ap (λ c. if c then x ∷ filter p xs else filter p xs) e)) (h q.1)

  pub cut_drives : (xs : List A) (b : B) → driven (map f xs) b ≡ false → driven (map f (filter p xs)) b ≡ false
  cut_drives [] b d = d
  cut_drives (x ∷ xs) b d = fewer x xs b (p x) refl (cut_drives xs b) d

  ordered_step : (x : A) (xs : List A) (k : Bool) → p x ≡ k → IsFirst (f x) (map f xs) → IsOrdered (map f (filter p xs)) → IsOrdered (map f (filter p (x ∷ xs)))
  ordered_step x xs true e first rest =
      let P : List A → Type 0 = λ ys. IsOrdered (map f ys) in
      subst P (sym (ap (λ c. if c then x ∷ filter p xs else filter p xs) e)) (
        record {
          reads_before = λ b r. (let q = or_false ((f x).drives b) (driven (map f xs) b) (first.reads_before b r) in
              false_or ((f x).drives b) (driven (map f (filter p xs)) b) q.0 (cut_drives xs b q.1));
          alone = λ b h. cut_drives xs b (first.alone b h);
        },
        rest,
      )
  ordered_step x xs false e first rest =
      let P : List A → Type 0 = λ ys. IsOrdered (map f ys) in
      subst P (sym (ap (λ c. if c then x ∷ filter p xs else filter p xs) e)) rest

  -- an ordered design's cut is ordered
  pub cut_ordered : (xs : List A) → IsOrdered (map f xs) → IsOrdered (map f (filter p xs))
  cut_ordered [] o = o
  cut_ordered (x ∷ xs) o = ordered_step x xs (p x) refl o.0 (cut_ordered xs o.1)

module _ {B : Type 0} where
  pub in_some : (E : List (Cell B)) (b : B) → driven E b ≡ true → (c : Cell B) × In c E × (c.drives b ≡ true)
  in_some [] b d = cc
  in_some (x ∷ xs) b d = elim (either (x.drives b)) [
    | inl h ↦ (x, inl refl, h)
    | inr h ↦ (let r = in_some xs b (ap (λ v. v || driven xs b) (sym h) ∙ d) in (r.0, inr r.1, r.2))
  ]

  -- a list with the same members drives the same bits
  pub same_driven : (E F : List (Cell B)) → ((c : Cell B) → In c E → In c F) → (b : B) → driven F b ≡ false → driven E b ≡ false
  same_driven E F inside b h = elim (either (driven E b)) [
    | inl d ↦ (let r = in_some E b d in not_both (driven F b) (in_driven F r.0 b (inside r.0 r.1) r.2) h)
    | inr d ↦ d
  ]
