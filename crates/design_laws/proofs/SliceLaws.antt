-- The least closed part is a slice, and there is one such part.
use Rattle.std.proofs.Common.{◌≡◌, Bool, true, false, not, ◌&&◌, subst, List, [], ◌∷◌, inl, inr, refl, sym, ◌∙◌, ap, ◌||◌}
use Rattle.design_core.proofs.BoolLaws.{or_cases, or_left, or_right, either}
use Rattle.design_laws.proofs.TraceLaws.{sole}
use Rattle.design_core.specs.Cells.{Cell, In, IsOrdered, IsSlice, IsClosedFrom, IsSliceOf, read_by}

read_otherwise : (u d : Bool) → u ≡ true → d ≡ false → (u && not d) ≡ true
read_otherwise true true h k = cc
read_otherwise true false h k = refl
read_otherwise false d h k = cc

module _ {B : Type 0} where
  reader : (S : List (Cell B)) (b : B) → read_by S b ≡ true → (d : Cell B) × In d S × ((d.reads b || d.uses b) ≡ true)
  reader [] b h = cc
  reader (x ∷ xs) b h = elim (or_cases (x.reads b || x.uses b) (read_by xs b) h) [
    | inl r ↦ (x, inl refl, r)
    | inr r ↦ (let p = reader xs b r in (p.0, inr p.1, p.2))
  ]

  is_read : (S : List (Cell B)) (d : Cell B) (b : B) → In d S → (d.reads b || d.uses b) ≡ true → read_by S b ≡ true
  is_read [] d b m h = elim m [ ]
  is_read (x ∷ xs) d b (inl e) h = or_left (x.reads b || x.uses b) (read_by xs b) (ap (λ (c : Cell B). c.reads b || c.uses b) (sym e) ∙ h)
  is_read (x ∷ xs) d b (inr m) h = or_right (x.reads b || x.uses b) (read_by xs b) (is_read xs d b m h)

  is_grown : (E S : List (Cell B)) (bits : B → Bool) → IsOrdered E → IsClosedFrom E bits S → (c d : Cell B) → In c E → In d S → (b : B)
      → (d.reads b || d.uses b) ≡ true → c.drives b ≡ true → In c S
  is_grown E S bits o w c d m n b r h = elim (or_cases (d.reads b) (d.uses b) r) [
    | inl q ↦ w.grows c d m n b (or_left (d.reads b) (d.uses b && not (d.drives b)) q) h
    | inr q ↦ elim (either (d.drives b)) [
      | inl own ↦ (let P : Cell B → Type 0 = λ x. In x S in subst P (sym (sole E o c d b m (w.inside d n) h own)) n)
      | inr far ↦ w.grows c d m n b (or_right (d.reads b) (d.uses b && not (d.drives b)) (read_otherwise (d.uses b) (d.drives b) q far)) h
    ]
  ]

  -- a closed part of an ordered design is a slice of it, for the wanted bits and those that the members read
  pub closed_slice : (E S : List (Cell B)) (bits : B → Bool) → IsOrdered E → IsClosedFrom E bits S → IsSlice E S (λ b. bits b || read_by S b)
  closed_slice E S bits o w = record {
    inside = w.inside;
    closed = λ c m b r d. elim (or_cases (bits b) (read_by S b) r) [
      | inl h ↦ w.starts c m b h d
      | inr h ↦ (let p = reader S b h in is_grown E S bits o w c p.0 m p.1 b p.2 d)
    ];
    reads_in = λ c m b h. or_right (bits b) (read_by S b) (is_read S c b m (or_left (c.reads b) (c.uses b) h));
    uses_in = λ c m b h. or_right (bits b) (read_by S b) (is_read S c b m (or_right (c.reads b) (c.uses b) h));
  }

  pub slices_same : (E S P : List (Cell B)) (bits : B → Bool) → IsSliceOf E bits S → IsSliceOf E bits P → (c : Cell B) → In c S → In c P
  slices_same E S P bits w v = w.least P v.closed
