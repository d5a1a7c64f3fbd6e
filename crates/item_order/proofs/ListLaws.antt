-- Members of lists.
use Rattle.std.proofs.Common.{◌≡◌, ℕ, ◌⊎◌, inl, inr, List, [], ◌∷◌, ◌++◌, reverse, refl, sym, subst}
use Rattle.std.proofs.lemmas.List.{reverse-append, reverse-reverse}
use Rattle.design_core.specs.Cells.{In}
use Rattle.item_order.specs.Circles.{IsOnce}

pub in_left : (x : ℕ) (xs ys : List ℕ) → In x xs → In x (xs ++ ys)
in_left x [] ys h = elim h [ ]
in_left x (y ∷ xs) ys (inl e) = inl e
in_left x (y ∷ xs) ys (inr h) = inr (in_left x xs ys h)

pub in_right : (x : ℕ) (xs ys : List ℕ) → In x ys → In x (xs ++ ys)
in_right x [] ys h = h
in_right x (y ∷ xs) ys h = inr (in_right x xs ys h)

pub in_either : (x : ℕ) (xs ys : List ℕ) → In x (xs ++ ys) → (In x xs ⊎ In x ys)
in_either x [] ys h = inr h
in_either x (y ∷ xs) ys (inl e) = inl (inl e)
in_either x (y ∷ xs) ys (inr h) = elim (in_either x xs ys h) [ inl k ↦ inl (inr k) | inr k ↦ inr k ]

pub in_reverse : (x : ℕ) (xs : List ℕ) → In x xs → In x (reverse xs)
in_reverse x [] h = elim h [ ]
in_reverse x (y ∷ xs) (inl e) =
    let P : List ℕ → Type 0 = λ l. In x l in subst P (sym (reverse-append (y ∷ []) xs)) (in_right x (reverse xs) (y ∷ []) (inl e))
in_reverse x (y ∷ xs) (inr h) =
    let P : List ℕ → Type 0 = λ l. In x l in subst P (sym (reverse-append (y ∷ []) xs)) (in_left x (reverse xs) (y ∷ []) (in_reverse x xs h))

pub in_forward : (x : ℕ) (xs : List ℕ) → In x (reverse xs) → In x xs
in_forward x xs h = let P : List ℕ → Type 0 = λ l. In x l in subst P (reverse-reverse xs) (in_reverse x (reverse xs) h)

-- a number that is not in the list may be put behind it
pub once_push : (xs : List ℕ) (x : ℕ) → IsOnce xs → (In x xs → ⊥) → IsOnce (xs ++ x ∷ [])
once_push [] x o out = (λ m. elim m [ ], tt)
once_push (y ∷ ys) x o out = (
  λ m. elim (in_either y ys (x ∷ []) m) [ inl k ↦ o.0 k | inr k ↦ elim k [ inl e ↦ out (inl (sym e)) | inr w ↦ elim w [ ] ] ],
  once_push ys x o.1 (λ m. out (inr m)),
)
