-- An index of 128 bits, brought to 127 bits.
use Rattle.std.proofs.Common.{◌≡◌, ℕ, zero, suc, ◌+◌, ◌-◌, ◌*◌, ◌%◌, ◌^◌, ◌<◌, ◌≤◌, Bool, true, false, ◌||◌, ◌⊎◌, List, [], ◌∷◌, length, take, get_or, ap, ap₂, refl, sym, subst, ◌∙◌, arith, inl, inr, if◌then◌else◌}
use Rattle.std.specs.Prelude.{ℤ, pos, negsuc, ◌+ℤ◌, ◌-ℤ◌, ◌≤ℤ◌}
use lib.IntN.{nat_abs}
use Rattle.std.proofs.lemmas.Int.{ints}
use Rattle.std.proofs.lemmas.Nat.{mod-mul-add}
use Rattle.std.proofs.lemmas.Bool.{cases_Bool}
use Rattle.std.proofs.lemmas.List.{length-take-le, take_all, get_or-take}
use Rattle.bits_core.specs.Places.{bit_at, bit_at_int, sign_of, exclusive_or, zip_with, selected, is_set}
use Rattle.bits_core.specs.Numbers.{bit_value, number, signed_number, bits_of}
use Rattle.bits_core.proofs.NumberLaws.{number_below, number_of_bits, number_take_more, bits_of_length}
use Rattle.design_core.specs.Operators.{chosen, index_number, lowest}
use Rattle.value_domain.specs.declared.parts.Word.{Word}
use Rattle.value_domain.specs.declared.variable.Amounts.{Amounts}
use Rattle.value_domain.specs.Meaning.{Meaning, Stands, Keeps}
use Rattle.value_domain.specs.Words.{IsWord}
use Rattle.value_domain.specs.Moved.{Moves, AreAmounts, IsFar, IsNear, IsNearer, far_tell}
use Rattle.value_domain.proofs.PlaceLaws.{length_selected, selected_at, same_lists_bits}

-- an index that is far stays far of every vector, whatever the offset
module _ (r l : ℕ) (z y : ℤ) (far : ((pos 65536 ≤ℤ z) ⊎ (z ≤ℤ negsuc 65535))) where
  moves_up : pos 65536 ≤ℤ y → Moves r l y → Moves r l z
  moves_up h (inl (e, inl (a, b))) = absurd (omega (arith, ints, h, e, a))
  moves_up h (inl (e, inr b)) = inr (inr (far, omega (arith, ints, h, e), b))
  moves_up h (inr (inl (e, b))) = absurd (omega (arith, ints, h, e))
  moves_up h (inr (inr f)) = inr (inr (far, f.1, f.2))

  moves_down : y ≤ℤ negsuc 65535 → Moves r l y → Moves r l z
  moves_down h (inl (e, b)) = absurd (omega (arith, ints, h, e))
  moves_down h (inr (inl (e, b))) = inr (inr (far, b, omega (arith, ints, h, e)))
  moves_down h (inr (inr f)) = inr (inr (far, f.1, f.2))

  pub moves_far : ((pos 65536 ≤ℤ y) ⊎ (y ≤ℤ negsuc 65535)) → Moves r l y → Moves r l z
  moves_far (inl h) m = moves_up h m
  moves_far (inr h) m = moves_down h m

far_less : (i offset : ℤ) → IsFar i → nat_abs offset ≤ 2 ^ 63 → (pos 65536 ≤ℤ (i -ℤ offset)) ⊎ ((i -ℤ offset) ≤ℤ negsuc 65535)
far_less i (pos c) (inl f) s = inl (omega (arith, ints, f, s))
far_less i (pos c) (inr f) s = inr (omega (arith, ints, f, s))
far_less i (negsuc c) (inl f) s = inl (omega (arith, ints, f, s))
far_less i (negsuc c) (inr f) s = inr (omega (arith, ints, f, s))

far_from : (i offset : ℤ) → (pos 65536 ≤ℤ (i -ℤ offset)) ⊎ ((i -ℤ offset) ≤ℤ negsuc 65535) → (pos 65536 ≤ℤ (offset -ℤ i)) ⊎ ((offset -ℤ i) ≤ℤ negsuc 65535)
far_from i offset (inl h) = inr (omega (arith, ints, h))
far_from i offset (inr h) = inl (omega (arith, ints, h))

-- amounts for one index are amounts for the other
pub moves_near : (r l : ℕ) (offset : ℤ) (down signed : Bool) (xs ys : List Bool) → nat_abs offset ≤ 2 ^ 63 → IsNear (index_number signed xs) (index_number signed ys)
    → Moves r l (lowest offset down signed ys) → Moves r l (lowest offset down signed xs)
moves_near r l offset false signed xs ys s (inl e) m = subst (λ i. Moves r l (i -ℤ offset)) (sym e) m
moves_near r l offset true signed xs ys s (inl e) m = subst (λ i. Moves r l (offset -ℤ i)) (sym e) m
moves_near r l offset false signed xs ys s (inr f) m = moves_far r l (index_number signed xs -ℤ offset) (index_number signed ys -ℤ offset) (far_less (index_number signed xs) offset f.0 s) (far_less (index_number signed ys) offset f.1 s) m
moves_near r l offset true signed xs ys s (inr f) m = moves_far r l (offset -ℤ index_number signed xs) (offset -ℤ index_number signed ys)
    (far_from (index_number signed xs) offset (far_less (index_number signed xs) offset f.0 s)) (far_from (index_number signed ys) offset (far_less (index_number signed ys) offset f.1 s)) m

-- a signed number by its highest bit
sign_set : (xs : List Bool) → sign_of xs ≡ true → signed_number xs ≡ pos (number xs) -ℤ pos (2 ^ length xs)
unfolding signed_number
sign_set xs e = ap (λ t. pos (number xs) -ℤ pos (if t then 2 ^ length xs else 0)) e

sign_clear : (xs : List Bool) → sign_of xs ≡ false → signed_number xs ≡ pos (number xs)
unfolding signed_number
sign_clear xs e = ap (λ t. pos (number xs) -ℤ pos (if t then 2 ^ length xs else 0)) e ∙ (let z : pos (number xs) -ℤ pos 0 ≡ pos (number xs) = omega (arith, ints) in z)

module _ (xs : List Bool) (len : length xs ≡ 128) where
  abbrev low : List Bool
  low = selected (pos 0) 127 xs

  low_at : (k : ℕ) → k < 127 → bit_at low k ≡ bit_at xs k
  low_at k h = let y : pos 0 +ℤ pos k ≡ pos k = omega (arith, ints) in selected_at (pos 0) 127 xs k h ∙ ap (bit_at_int xs) y

  low_take : low ≡ take 127 xs
  low_take =
      let a = length_selected (pos 0) 127 xs in
      let b = length-take-le 127 xs (omega (arith, len)) in
      same_lists_bits low (take 127 xs) (a ∙ sym b) (λ k l. (let h : k < 127 = omega (arith, l, a) in low_at k h ∙ sym (get_or-take 127 xs k false h)))

  whole : number xs ≡ number low + bit_value (bit_at xs 127) * 2 ^ 127
  whole =
      ap number (sym (take_all 128 xs (omega (arith, len)))) ∙ number_take_more xs 127 (omega (arith, len)) ∙ ap (λ n. n + bit_value (bit_at xs 127) * 2 ^ 127) (ap number (sym low_take))

  low_length : length low ≡ 127
  low_length = length_selected (pos 0) 127 xs

  low_below : number low < 2 ^ 127
  low_below = let q = number_below low in let r = ap (λ k. 2 ^ k) low_length in omega (arith, q, r)

  under : (number low ≡ number (take 126 low) + bit_value (bit_at low 126) * 2 ^ 126) × (number (take 126 low) < 2 ^ 126)
  under = (
    ap number (sym (take_all 127 low (omega (arith, low_length)))) ∙ number_take_more low 126 (omega (arith, low_length)),
    (let q = number_below (take 126 low) in let r = ap (λ k. 2 ^ k) (length-take-le 126 low (omega (arith, low_length))) in omega (arith, q, r)),
  )

  sign_is : sign_of xs ≡ bit_at xs 127
  sign_is = ap (λ n. bit_at xs (n - 1)) len

  low_sign : sign_of low ≡ bit_at xs 126
  low_sign = ap (λ n. bit_at low (n - 1)) low_length ∙ low_at 126 (omega arith)

  top_bit : selected (pos 127) 1 xs ≡ bit_at xs 127 ∷ []
  unfolding selected
  top_bit = refl

  next_bit : selected (pos 126) 1 xs ≡ bit_at xs 126 ∷ []
  unfolding selected
  next_bit = refl

  pick : (t : Bool) (ds : List Bool) → chosen (t ∷ []) ds low ≡ (if t then ds else low)
  pick true ds = refl
  pick false ds = refl

  module _ (ds : List Bool) (many : length ds ≡ 127) (size : number ds ≡ 2 ^ 125) (plus : sign_of ds ≡ false) where
    distant : (signed : Bool) → index_number signed ds ≡ pos (2 ^ 125)
    distant false = ap pos size
    distant true = sign_clear ds plus ∙ ap pos size

    distant_far : (signed : Bool) → IsFar (index_number signed ds)
    distant_far signed = let e = distant signed in inl (omega (arith, ints, e))

    choose_far : (signed : Bool) (t : Bool) → far_tell signed xs ≡ t ∷ [] → t ≡ true → chosen (far_tell signed xs) ds low ≡ ds
    choose_far signed t e f = ap (λ c. chosen c ds low) e ∙ pick t ds ∙ ap (λ c. if c then ds else low) f

    choose_near : (signed : Bool) (t : Bool) → far_tell signed xs ≡ t ∷ [] → t ≡ false → chosen (far_tell signed xs) ds low ≡ low
    choose_near signed t e f = ap (λ c. chosen c ds low) e ∙ pick t ds ∙ ap (λ c. if c then ds else low) f

    to_far : (signed : Bool) (t : Bool) → far_tell signed xs ≡ t ∷ [] → t ≡ true → IsFar (index_number signed xs) → IsNear (index_number signed xs) (index_number signed (chosen (far_tell signed xs) ds low))
    to_far signed t e f h = subst (λ y. IsNear (index_number signed xs) (index_number signed y)) (sym (choose_far signed t e f)) (inr (h, distant_far signed))

    to_near : (signed : Bool) (t : Bool) → far_tell signed xs ≡ t ∷ [] → t ≡ false → index_number signed xs ≡ index_number signed low → IsNear (index_number signed xs) (index_number signed (chosen (far_tell signed xs) ds low))
    to_near signed t e f h = subst (λ y. IsNear (index_number signed xs) (index_number signed y)) (sym (choose_near signed t e f)) (inl h)

    tell_true : far_tell true xs ≡ exclusive_or (bit_at xs 127) (bit_at xs 126) ∷ []
    tell_true = ap₂ (zip_with exclusive_or) top_bit next_bit

    top_value : (b : Bool) → bit_at xs 127 ≡ b → number xs ≡ number low + bit_value b * 2 ^ 127
    top_value b e = whole ∙ ap (λ t. number low + bit_value t * 2 ^ 127) e

    next_value : (b : Bool) → bit_at xs 126 ≡ b → number low ≡ number (take 126 low) + bit_value b * 2 ^ 126
    next_value b e = under.0 ∙ ap (λ t. number (take 126 low) + bit_value t * 2 ^ 126) (low_at 126 (omega arith) ∙ e)

    pub near_is : (signed : Bool) → IsNear (index_number signed xs) (index_number signed (chosen (far_tell signed xs) ds low))
    near_is false = elim (cases_Bool (bit_at xs 127)) [
      | inl e ↦ to_far false (bit_at xs 127) top_bit e (let w = top_value true e in inl (omega (arith, ints, w)))
      | inr e ↦ to_near false (bit_at xs 127) top_bit e (let w = top_value false e in ap pos (omega (arith, w)))
    ]
    near_is true = elim (cases_Bool (bit_at xs 127)) [
      | inl e ↦ elim (cases_Bool (bit_at xs 126)) [
        | inl f ↦ to_near true (exclusive_or (bit_at xs 127) (bit_at xs 126)) tell_true (ap₂ exclusive_or e f)
            (let a = sign_set xs (sign_is ∙ e) in let b = sign_set low (low_sign ∙ f) in let w = top_value true e in let p = ap (λ k. 2 ^ k) len in let q = ap (λ k. 2 ^ k) low_length in omega (arith, ints, a, b, w, p, q))
        | inr f ↦ to_far true (exclusive_or (bit_at xs 127) (bit_at xs 126)) tell_true (ap₂ exclusive_or e f)
            (let a = sign_set xs (sign_is ∙ e) in let w = top_value true e in let u = next_value false f in let h = under.1 in let p = ap (λ k. 2 ^ k) len in inr (omega (arith, ints, a, w, u, h, p)))
      ]
      | inr e ↦ elim (cases_Bool (bit_at xs 126)) [
        | inl f ↦ to_far true (exclusive_or (bit_at xs 127) (bit_at xs 126)) tell_true (ap₂ exclusive_or e f)
            (let a = sign_clear xs (sign_is ∙ e) in let w = top_value false e in let u = next_value true f in inl (omega (arith, ints, a, w, u)))
        | inr f ↦ to_near true (exclusive_or (bit_at xs 127) (bit_at xs 126)) tell_true (ap₂ exclusive_or e f)
            (let a = sign_clear xs (sign_is ∙ e) in let b = sign_clear low (low_sign ∙ f) in let w = top_value false e in omega (arith, ints, a, b, w))
      ]
    ]

distant_number : number (bits_of 127 42535295865117307932921825928971026432) ≡ 2 ^ 125
distant_number = number_of_bits 127 42535295865117307932921825928971026432

distant_sign : sign_of (bits_of 127 42535295865117307932921825928971026432) ≡ false
unfolding bits_of
distant_sign = refl

module _ {S V : Type 0} (m : Meaning S V) (law : (d : S) (v : ℕ → Bool) (x : V) → m.is_value d x → length (m.reads d v x) ≡ m.width x) where
  pub nearer_made : (d0 d1 d2 d3 d4 : S) (signed : Bool) (index : Word V) (low far distant value : V) → IsWord m d0 index → index.length ≡ 128 → Keeps m d0 d1 → Keeps m d1 d2 → Keeps m d2 d3
      → (bits : List Bool) → bits ≡ bits_of 127 42535295865117307932921825928971026432
      → Stands m d1 low 127 (λ v. selected (pos 0) 127 (m.reads d0 v index.value))
      → Stands m d2 far 1 (λ v. far_tell signed (m.reads d1 v index.value))
      → Stands m d3 distant (length bits) (λ v. bits)
      → Stands m d4 value (m.width distant) (λ v. chosen (m.reads d3 v far) (m.reads d3 v distant) (m.reads d3 v low))
      → IsNearer m d0 d4 signed index (record { value = value; length = 127 })
  nearer_made d0 d1 d2 d3 d4 signed index low far distant value w n k1 k2 k3 bits e lo fa di s = record {
    is_word = record { is_one = s.is_one; wide = s.wide ∙ di.wide ∙ ap length e ∙ bits_of_length 127 42535295865117307932921825928971026432; some = omega arith };
    narrow = omega arith;
    near_by = λ v.
        let xs = m.reads d0 v index.value in
        let long : length xs ≡ 128 = law d0 v index.value w.is_one ∙ w.wide ∙ n in
        let f : m.reads d3 v far ≡ far_tell signed xs = k3.same far v fa.is_one ∙ fa.reads_as v ∙ ap (far_tell signed) (k1.same index.value v w.is_one) in
        let d : m.reads d3 v distant ≡ bits_of 127 42535295865117307932921825928971026432 = di.reads_as v ∙ e in
        let l : m.reads d3 v low ≡ selected (pos 0) 127 xs = k3.same low v (k2.still low lo.is_one) ∙ k2.same low v lo.is_one ∙ lo.reads_as v in
        subst (λ y. IsNear (index_number signed xs) (index_number signed y)) (sym (s.reads_as v ∙ ap₂ (λ p q. chosen p q (m.reads d3 v low)) f d ∙ ap (chosen (far_tell signed xs) (bits_of 127 42535295865117307932921825928971026432)) l))
        (near_is xs long (bits_of 127 42535295865117307932921825928971026432) (bits_of_length 127 42535295865117307932921825928971026432) distant_number distant_sign signed);
  }

  pub same_near : (d0 d1 : S) (signed : Bool) (index : Word V) (value : V) → IsWord m d0 index → index.length ≤ 127 → Stands m d1 value (m.width index.value) (λ v. m.reads d0 v index.value)
      → IsNearer m d0 d1 signed index (record { value = value; length = index.length })
  same_near d0 d1 signed index value w n s = record {
    is_word = record { is_one = s.is_one; wide = s.wide ∙ w.wide; some = w.some };
    narrow = n;
    near_by = λ v. inl (ap (index_number signed) (sym (s.reads_as v)));
  }

  -- amounts for the nearer index serve
  pub near_amounts : (d0 d1 d2 : S) (signed : Bool) (index near : Word V) (a : Amounts V) (offset : ℤ) (down : Bool) → nat_abs offset ≤ 2 ^ 63 → IsNearer m d0 d1 signed index near
      → AreAmounts m d2 a (λ v. lowest offset down signed (m.reads d1 v near.value)) → AreAmounts m d2 a (λ v. lowest offset down signed (m.reads d0 v index.value))
  near_amounts d0 d1 d2 signed index near a offset down s n h = record {
    narrow = h.narrow;
    moves = λ v. moves_near (number (m.reads d2 v a.right)) (number (m.reads d2 v a.left)) offset down signed (m.reads d0 v index.value) (m.reads d1 v near.value) s (n.near_by v) (h.moves v);
  }
