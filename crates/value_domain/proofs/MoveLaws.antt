-- Bits moved by amounts, and amounts as numbers modulo a power of 2.
use Rattle.std.proofs.Common.{◌≡◌, ℕ, zero, suc, ◌+◌, ◌-◌, ◌*◌, ◌%◌, ◌^◌, ◌<◌, ◌≤◌, Bool, true, false, not, ◌&&◌, ◌||◌, ◌⊎◌, List, [], ◌∷◌, ◌++◌, length, map, get_or, replicate, ap, ap₂, refl, sym, subst, ◌∙◌, arith, inl, inr, if◌then◌else◌}
use lib.IntN.{nat_abs}
use mir.Val.{SFits}
use mir.Syntax.{w64}
use Rattle.std.proofs.Math.Nat.{pow-le-pow_right}
use Rattle.design_core.specs.Formed.{is_narrow}
use Rattle.std.specs.Prelude.{nat_eq, nat_lt, ℤ, pos, negsuc, ◌+ℤ◌, ◌-ℤ◌, ◌≤ℤ◌}
use Rattle.std.proofs.lemmas.Int.{ints}
use Rattle.std.proofs.lemmas.Nat.{mod-mul-add}
use Rattle.std.proofs.lemmas.Bool.{cases_lt, cases_Bool, and_from, eq-eqb, le-leb}
use Rattle.std.proofs.lemmas.List.FromFn.{length-map-range_with_len}
use Rattle.std.proofs.lemmas.List.{length-append, length-replicate, get_or_append_left, get_or-append_right, get_or_past, get_or-replicate, length-map, get_or-map}
use Rattle.bits_core.specs.Places.{bit_at, bit_at_int, sign_of, exclusive_or, zip_with, written, extended, selected, placed, shifted_left, shifted_right}
use Rattle.bits_core.specs.Numbers.{bit_value, number, signed_number, bits_of, sum_bits, difference_bits}
use Rattle.bits_core.proofs.NumberLaws.{twice_pow, number_below, number_of_bits, bits_of_length}
use Rattle.bits_core.proofs.PlaceLaws.{zip_with_by, length-zip_with}
use Rattle.design_core.specs.Operators.{negated, index_number, lowest}
use Rattle.value_domain.specs.declared.variable.Amounts.{Amounts}
use Rattle.value_domain.specs.Meaning.{Meaning, Stands, Keeps}
use Rattle.value_domain.specs.Moved.{joined, Moves, less, AreNarrow, AreAmounts, blended}
use Rattle.value_domain.proofs.PlaceLaws.{length_extended, length_selected, length_placed, extended_at, selected_at, placed_at, shifted_left_at, shifted_right_at, if_lt, if_ge, same_lists_bits}

get_or-zip_with : (f : Bool → Bool → Bool) (a b : List Bool) (k : ℕ) → k < length a → k < length b → get_or (zip_with f a b) k false ≡ f (get_or a k false) (get_or b k false)
get_or-zip_with f [] b k l h = absurd (omega (arith, l))
get_or-zip_with f (x ∷ a) [] k l h = absurd (omega (arith, h))
get_or-zip_with f (x ∷ a) (y ∷ b) zero l h = refl
get_or-zip_with f (x ∷ a) (y ∷ b) (suc k) l h = get_or-zip_with f a b k (omega (arith, l)) (omega (arith, h))

pub zero_spread : (n : ℕ) (xs : List Bool) → placed (pos 0) xs (replicate n false) ≡ selected (pos 0) n xs
zero_spread n xs = same_lists_bits (placed (pos 0) xs (replicate n false)) (selected (pos 0) n xs)
    (length_placed (pos 0) xs (replicate n false) ∙ length-replicate n false ∙ sym (length_selected (pos 0) n xs)) (λ k l.
    (let m = length_placed (pos 0) xs (replicate n false) in let r = length-replicate n false in
    let h : k < n = omega (arith, l, m, r) in
    let z : pos k -ℤ pos 0 ≡ pos k = omega (arith, ints) in
    let y : pos 0 +ℤ pos k ≡ pos k = omega (arith, ints) in
    placed_at (pos 0) xs (replicate n false) k (omega (arith, h, r)) ∙ ap (λ d. written xs d (bit_at (replicate n false) k)) z
    ∙ elim (cases_lt k (length xs)) [
      | inl q ↦ if_lt k (length xs) (bit_at xs k) (bit_at (replicate n false) k) q
      | inr q ↦ if_ge k (length xs) (bit_at xs k) (bit_at (replicate n false) k) q ∙ get_or-replicate n k false false h ∙ sym (get_or_past xs k false q)
    ] ∙ sym (selected_at (pos 0) n xs k h ∙ ap (bit_at_int xs) y)))

right_length : (r : ℕ) (xs : List Bool) → length (shifted_right false r xs) ≡ length xs
unfolding shifted_right
right_length r xs = length-map-range_with_len _ 0 (length xs)

left_length : (r : ℕ) (xs : List Bool) → length (shifted_left r xs) ≡ length xs
unfolding shifted_left
left_length r xs = length-map-range_with_len _ 0 (length xs)

right_any : (r k : ℕ) (xs : List Bool) → bit_at (shifted_right false r xs) k ≡ bit_at xs (k + r)
right_any r k xs = elim (cases_lt k (length xs)) [
  | inl l ↦ shifted_right_at r xs k l
  | inr l ↦ get_or_past (shifted_right false r xs) k false (let e = right_length r xs in omega (arith, l, e)) ∙ sym (get_or_past xs (k + r) false (omega (arith, l)))
]

outside : (xs : List Bool) (y : ℤ) → ((p : ℕ) → y ≡ pos p → length xs ≤ p) → bit_at_int xs y ≡ false
outside xs (pos p) h = get_or_past xs p false (h p refl)
outside xs (negsuc p) h = refl

or_self : (b : Bool) → b ≡ (b || b)
or_self true = refl
or_self false = refl

or_none : (b : Bool) → b ≡ (b || false)
or_none true = refl
or_none false = refl

-- the bits that both amounts leave are those from the place on
module _ (n r l : ℕ) (z : ℤ) (xs : List Bool) (few : length xs ≤ 65536) (most : n ≤ 65536) where
  low_part : (k : ℕ) → k < n → bit_at (selected (pos 0) n (shifted_right false r xs)) k ≡ bit_at xs (k + r)
  low_part k h = (let y : pos 0 +ℤ pos k ≡ pos k = omega (arith, ints) in selected_at (pos 0) n (shifted_right false r xs) k h ∙ ap (bit_at_int (shifted_right false r xs)) y ∙ right_any r k xs)

  high_part : (k : ℕ) → k < n → bit_at (shifted_left l (selected (pos 0) n xs)) k ≡ (if nat_lt k l then false else bit_at (selected (pos 0) n xs) (k - l))
  high_part k h = shifted_left_at l (selected (pos 0) n xs) k (let m = length_selected (pos 0) n xs in omega (arith, h, m))

  high_none : (k : ℕ) → k < n → k < l → bit_at (shifted_left l (selected (pos 0) n xs)) k ≡ false
  high_none k h q = high_part k h ∙ if_lt k l false (bit_at (selected (pos 0) n xs) (k - l)) q

  high_some : (k : ℕ) → k < n → l ≤ k → bit_at (shifted_left l (selected (pos 0) n xs)) k ≡ bit_at xs (k - l)
  high_some k h q = high_part k h ∙ if_ge k l false (bit_at (selected (pos 0) n xs) (k - l)) q
      ∙ (let y : pos 0 +ℤ pos (k - l) ≡ pos (k - l) = omega (arith, ints) in selected_at (pos 0) n xs (k - l) (omega (arith, h)) ∙ ap (bit_at_int xs) y)

  joined_at : Moves r l z → (k : ℕ) → k < n → bit_at (selected z n xs) k
      ≡ (bit_at (selected (pos 0) n (shifted_right false r xs)) k || bit_at (shifted_left l (selected (pos 0) n xs)) k)
  joined_at (inl (e, inl (a, b))) k h =
      (let y : z +ℤ pos k ≡ pos (k + r) = omega (arith, ints, e) in
      let w : k + r ≡ k - l = omega (arith, a, b) in
      selected_at z n xs k h ∙ ap (bit_at_int xs) y ∙ or_self (bit_at xs (k + r))
      ∙ ap₂ (λ p q. p || q) (sym (low_part k h)) (ap (bit_at xs) w ∙ sym (high_some k h (omega (arith, b)))))
  joined_at (inl (e, inr b)) k h =
      (let y : z +ℤ pos k ≡ pos (k + r) = omega (arith, ints, e) in
      selected_at z n xs k h ∙ ap (bit_at_int xs) y ∙ or_none (bit_at xs (k + r))
      ∙ ap₂ (λ p q. p || q) (sym (low_part k h)) (sym (high_none k h (omega (arith, h, b, most)))))
  joined_at (inr (inl (e, b))) k h =
      selected_at z n xs k h
      ∙ elim (cases_lt k l) [
        | inl q ↦ outside xs (z +ℤ pos k) (λ p f. absurd (omega (arith, ints, e, f, q))) ∙ sym (high_none k h q)
        | inr q ↦ (let y : z +ℤ pos k ≡ pos (k - l) = omega (arith, ints, e, q) in ap (bit_at_int xs) y ∙ sym (high_some k h q))
      ]
      ∙ ap (λ p. p || bit_at (shifted_left l (selected (pos 0) n xs)) k) (sym (low_part k h ∙ get_or_past xs (k + r) false (omega (arith, few, b))))
  joined_at (inr (inr f)) k h =
      selected_at z n xs k h
      ∙ outside xs (z +ℤ pos k) (λ p g. elim f.0 [ inl a ↦ omega (arith, ints, a, g, few) | inr a ↦ absurd (omega (arith, ints, a, g, h, most)) ])
      ∙ sym (high_none k h (omega (arith, h, most, f.2)))
      ∙ ap (λ p. p || bit_at (shifted_left l (selected (pos 0) n xs)) k) (sym (low_part k h ∙ get_or_past xs (k + r) false (omega (arith, few, f.1))))

  pub joined_is : Moves r l z → joined r l n xs ≡ selected z n xs
  joined_is moves = sym (zip_with_by (λ x y. x || y) (selected (pos 0) n (shifted_right false r xs)) (shifted_left l (selected (pos 0) n xs)) (selected z n xs)
      (length_selected (pos 0) n (shifted_right false r xs) ∙ sym (length_selected z n xs)) (left_length l (selected (pos 0) n xs) ∙ length_selected (pos 0) n xs ∙ sym (length_selected z n xs))
      (λ k h. joined_at moves k (let m = length_selected z n xs in omega (arith, h, m))))

-- one subtraction brings a number below twice the power to its rest
mod_cases : (T P : ℕ) → T < 2 * P → ((T % P ≡ T) × (T < P)) ⊎ (T % P + P ≡ T)
mod_cases T P l = elim (cases_lt T P) [
  | inl h ↦ inl (ap (λ x. x % P) (let e : T ≡ 0 * P + T = omega arith in e) ∙ mod-mul-add 0 P T h, h)
  | inr h ↦ inr (let a = ap (λ x. x % P) (let e : T ≡ 1 * P + (T - P) = omega (arith, h) in e) ∙ mod-mul-add 1 P (T - P) (omega (arith, h, l)) in omega (arith, a, h))
]

-- amounts from a place modulo a power of 2
module _ (P S N : ℕ) (z : ℤ) (at : (z ≡ pos S) ⊎ (z +ℤ pos P ≡ pos S)) (below : S < P) (high : (z +ℤ pos 65536) ≤ℤ pos P) (low : pos 65536 ≤ℤ (z +ℤ pos P))
    (turned : ((S ≡ 0) × (N ≡ 0)) ⊎ ((0 < S) × (N + S ≡ P))) where
  pub moves_up : Moves S N z
  moves_up = elim at [
    | inl e ↦ inl (e, elim turned [ inl t ↦ inl t | inr t ↦ inr (omega (arith, ints, e, high, t.1)) ])
    | inr e ↦ elim turned [
      | inl t ↦ absurd (omega (arith, ints, e, low, t.0))
      | inr t ↦ inr (inl (omega (arith, ints, e, t.1), omega (arith, ints, e, low)))
    ]
  ]

  pub moves_down : (y : ℤ) → y +ℤ z ≡ pos 0 → Moves N S y
  moves_down y o = elim at [
    | inl e ↦ elim turned [
      | inl t ↦ inl (omega (arith, ints, e, o, t.0, t.1), inl (t.1, t.0))
      | inr t ↦ inr (inl (omega (arith, ints, e, o), omega (arith, ints, e, high, t.1)))
    ]
    | inr e ↦ elim turned [
      | inl t ↦ absurd (omega (arith, ints, e, low, t.0))
      | inr t ↦ inl (omega (arith, ints, e, o, t.1), inr (omega (arith, ints, e, low)))
    ]
  ]

-- a part spread over zeros
module _ {S V : Type 0} (m : Meaning S V) where
  pub spread_made : (d0 d1 d2 d3 d4 d5 : S) (zeros part right left lowered below cut above r : V) → m.is_value d0 zeros → ((v : ℕ → Bool) → m.reads d0 v zeros ≡ replicate (m.width zeros) false)
      → m.is_value d0 part → m.is_value d0 left → Keeps m d0 d1 → Keeps m d1 d2 → Keeps m d2 d3 → Keeps m d3 d4
      → Stands m d1 lowered (m.width part) (λ v. shifted_right false (number (m.reads d0 v right)) (m.reads d0 v part))
      → Stands m d2 below (m.width zeros) (λ v. placed (pos 0) (m.reads d1 v lowered) (m.reads d1 v zeros))
      → Stands m d3 cut (m.width zeros) (λ v. placed (pos 0) (m.reads d2 v part) (m.reads d2 v zeros))
      → Stands m d4 above (m.width cut) (λ v. shifted_left (number (m.reads d3 v left)) (m.reads d3 v cut))
      → Stands m d5 r (m.width below) (λ v. zip_with (λ x y. x || y) (m.reads d4 v below) (m.reads d4 v above))
      → Stands m d5 r (m.width zeros) (λ v. joined (number (m.reads d0 v right)) (number (m.reads d0 v left)) (m.width zeros) (m.reads d0 v part))
  spread_made d0 d1 d2 d3 d4 d5 zeros part right left lowered below cut above r zi blank pi li k1 k2 k3 k4 lo be cu ab s = record {
    is_one = s.is_one;
    wide = s.wide ∙ be.wide;
    reads_as = λ v.
        let z1 : m.reads d1 v zeros ≡ replicate (m.width zeros) false = k1.same zeros v zi ∙ blank v in
        let z2 : m.reads d2 v zeros ≡ replicate (m.width zeros) false = k2.same zeros v (k1.still zeros zi) ∙ z1 in
        let p2 : m.reads d2 v part ≡ m.reads d0 v part = k2.same part v (k1.still part pi) ∙ k1.same part v pi in
        let l3 : m.reads d3 v left ≡ m.reads d0 v left = k3.same left v (k2.still left (k1.still left li)) ∙ k2.same left v (k1.still left li) ∙ k1.same left v li in
        let b4 : m.reads d4 v below ≡ selected (pos 0) (m.width zeros) (shifted_right false (number (m.reads d0 v right)) (m.reads d0 v part)) =
        k4.same below v (k3.still below be.is_one) ∙ k3.same below v be.is_one ∙ be.reads_as v ∙ ap₂ (λ x y. placed (pos 0) x y) (lo.reads_as v) z1
        ∙ zero_spread (m.width zeros) (shifted_right false (number (m.reads d0 v right)) (m.reads d0 v part)) in
        let c3 : m.reads d3 v cut ≡ selected (pos 0) (m.width zeros) (m.reads d0 v part) = cu.reads_as v ∙ ap₂ (λ x y. placed (pos 0) x y) p2 z2 ∙ zero_spread (m.width zeros) (m.reads d0 v part) in
        let a4 : m.reads d4 v above ≡ shifted_left (number (m.reads d0 v left)) (selected (pos 0) (m.width zeros) (m.reads d0 v part)) = ab.reads_as v ∙ ap₂ (λ x y. shifted_left (number x) y) l3 c3 in
        s.reads_as v ∙ ap₂ (zip_with (λ x y. x || y)) b4 a4;
  }

  pub joined_made : (d0 d1 now : S) (base r : V) (a : Amounts V) (len : ℕ) (z : (ℕ → Bool) → ℤ) → ((v : ℕ → Bool) → length (m.reads d0 v base) ≡ m.width base) → m.width base ≤ 65536 → len ≤ 65536
      → m.is_value d0 base → Keeps m d0 d1 → AreAmounts m d1 a z
      → Stands m now r len (λ v. joined (number (m.reads d1 v a.right)) (number (m.reads d1 v a.left)) len (m.reads d1 v base))
      → Stands m now r len (λ v. selected (z v) len (m.reads d0 v base))
  joined_made d0 d1 now base r a len z law few most bi k am s = record {
    is_one = s.is_one;
    wide = s.wide;
    reads_as = λ v. s.reads_as v ∙ ap (joined (number (m.reads d1 v a.right)) (number (m.reads d1 v a.left)) len) (k.same base v bi)
        ∙ joined_is len (number (m.reads d1 v a.right)) (number (m.reads d1 v a.left)) (z v) (m.reads d0 v base) (let e = law v in omega arith) most (am.moves v);
  }

small_number : (w c : ℕ) → c < 2 ^ w → number (bits_of w c) ≡ c
small_number w c l = number_of_bits w c ∙ ap (λ x. x % 2 ^ w) (let e : c ≡ 0 * 2 ^ w + c = omega arith in e) ∙ mod-mul-add 0 (2 ^ w) c l

number_append : (xs ys : List Bool) → number (xs ++ ys) ≡ number xs + 2 ^ length xs * number ys
unfolding number
number_append [] ys = omega arith
number_append (x ∷ xs) ys =
    let e = number_append xs ys in
    let t = ap (λ p. p * number ys) (twice_pow (length xs)) in
    omega (arith, e, t)

number_none : (j : ℕ) → number (replicate j false) ≡ 0
unfolding number
number_none zero = refl
number_none (suc j) = let e = number_none j in omega (arith, e)

number_all : (j : ℕ) → number (replicate j true) + 1 ≡ 2 ^ j
unfolding number
number_all zero = omega arith
number_all (suc j) = let e = number_all j in let t = twice_pow j in omega (arith, e, t)

extended_append : (keeps : Bool) (w : ℕ) (xs : List Bool) → length xs ≤ w → extended keeps w xs ≡ xs ++ replicate (w - length xs) (keeps && sign_of xs)
extended_append keeps w xs le =
    let a = length-append xs (replicate (w - length xs) (keeps && sign_of xs)) in
    let b = length-replicate (w - length xs) (keeps && sign_of xs) in
    let c = length_extended keeps w xs in
    same_lists_bits (extended keeps w xs) (xs ++ replicate (w - length xs) (keeps && sign_of xs)) (omega (arith, a, b, c, le)) (λ k l.
    extended_at keeps w xs k (omega (arith, l, c)) ∙ elim (cases_lt k (length xs)) [
      | inl h ↦ if_lt k (length xs) (bit_at xs k) (keeps && sign_of xs) h ∙ sym (get_or_append_left xs (replicate (w - length xs) (keeps && sign_of xs)) false k h)
      | inr h ↦ if_ge k (length xs) (bit_at xs k) (keeps && sign_of xs) h ∙ sym (get_or-append_right xs (replicate (w - length xs) (keeps && sign_of xs)) (length xs) k false refl h
          ∙ get_or-replicate (w - length xs) (k - length xs) (keeps && sign_of xs) false (omega (arith, l, c, h)))
    ])

sum_power : (a b : ℕ) → 2 ^ a * 2 ^ b ≡ 2 ^ (a + b)
sum_power zero b = (let e : zero + b ≡ b = omega arith in omega (arith, ap (λ k. 2 ^ k) e))
sum_power (suc a) b =
    let e = sum_power a b in
    let t = ap (λ p. p * 2 ^ b) (twice_pow a) in
    let u = twice_pow (a + b) in
    let f : suc a + b ≡ suc (a + b) = omega arith in
    let g = ap (λ k. 2 ^ k) f in
    omega (arith, e, t, u, g)

-- an index extended to w bits is its number modulo 2 ^ w
module _ (w : ℕ) (xs : List Bool) (le : length xs ≤ w) where
  plain_number : (b : Bool) → (b && sign_of xs) ≡ false → number (extended b w xs) ≡ number xs
  plain_number b e =
      let n = number_append xs (replicate (w - length xs) (b && sign_of xs)) in
      let z = ap (λ t. number (replicate (w - length xs) t)) e ∙ number_none (w - length xs) in
      let p = ap (λ t. 2 ^ length xs * t) z in
      ap number (extended_append b w xs le) ∙ omega (arith, n, p)

  full_number : sign_of xs ≡ true → number (extended true w xs) + 2 ^ length xs ≡ number xs + 2 ^ w
  full_number e =
      let n = number_append xs (replicate (w - length xs) (true && sign_of xs)) in
      let z = ap (λ t. number (replicate (w - length xs) t) + 1) e ∙ number_all (w - length xs) in
      let p = ap (λ t. 2 ^ length xs * t) z in
      let f : length xs + (w - length xs) ≡ w = omega (arith, le) in
      let q = sum_power (length xs) (w - length xs) ∙ ap (λ k. 2 ^ k) f in
      let m = ap number (extended_append true w xs le) in
      omega (arith, n, p, q, m)

  signed_plain : sign_of xs ≡ false → signed_number xs ≡ pos (number xs)
  unfolding signed_number
  signed_plain e = ap (λ t. pos (number xs) -ℤ pos (if t then 2 ^ length xs else 0)) e ∙ (let z : pos (number xs) -ℤ pos 0 ≡ pos (number xs) = omega (arith, ints) in z)

  signed_full : sign_of xs ≡ true → signed_number xs ≡ pos (number xs) -ℤ pos (2 ^ length xs)
  unfolding signed_number
  signed_full e = ap (λ t. pos (number xs) -ℤ pos (if t then 2 ^ length xs else 0)) e

  pub index_at : (signed : Bool) → (index_number signed xs ≡ pos (number (extended signed w xs))) ⊎ ((index_number signed xs +ℤ pos (2 ^ w)) ≡ pos (number (extended signed w xs)))
  index_at false = inl (ap pos (sym (plain_number false refl)))
  index_at true = elim (cases_Bool (sign_of xs)) [
    | inl e ↦ inr (let a = signed_full e in let b = full_number e in omega (arith, ints, a, b))
    | inr e ↦ inl (signed_plain e ∙ ap pos (sym (plain_number true e)))
  ]

  pub index_bound : (signed : Bool) → (index_number signed xs ≤ℤ pos (2 ^ length xs)) × (pos 0 ≤ℤ (index_number signed xs +ℤ pos (2 ^ length xs)))
  index_bound false = let b = number_below xs in (omega (arith, ints, b), omega (arith, ints, b))
  index_bound true = let b = number_below xs in elim (cases_Bool (sign_of xs)) [
    | inl e ↦ (let a = signed_full e in (omega (arith, ints, a, b), omega (arith, ints, a, b)))
    | inr e ↦ (let a = signed_plain e in (omega (arith, ints, a, b), omega (arith, ints, a, b)))
  ]

less_pos : (w c : ℕ) (ys : List Bool) → length ys ≡ w → c < 2 ^ w → number (less (pos c) w ys) ≡ (number ys + (2 ^ w - c)) % 2 ^ w
less_pos w c ys e l = number_of_bits (length ys) (number ys + (2 ^ length ys - number (bits_of w c)))
    ∙ ap (λ n. (number ys + (2 ^ n - number (bits_of w c))) % 2 ^ n) e ∙ ap (λ n. (number ys + (2 ^ w - n)) % 2 ^ w) (small_number w c l)

less_neg : (w c : ℕ) (ys : List Bool) → length ys ≡ w → c + 1 < 2 ^ w → number (less (negsuc c) w ys) ≡ (number ys + (c + 1)) % 2 ^ w
less_neg w c ys e l = number_of_bits (length ys) (number ys + number (bits_of w (c + 1)))
    ∙ ap (λ n. (number ys + number (bits_of w (c + 1))) % 2 ^ n) e ∙ ap (λ n. (number ys + n) % 2 ^ w) (small_number w (c + 1) l)

-- what is left after the offset is taken off, modulo P
less_core : (P X T S : ℕ) (i z : ℤ) → (i ≡ pos X) ⊎ ((i +ℤ pos P) ≡ pos X) → X < P → T < 2 * P → S ≡ T % P
    → (z +ℤ pos 65536) ≤ℤ pos P → pos 65536 ≤ℤ (z +ℤ pos P) → (pos T ≡ (z -ℤ i) +ℤ pos (X + P)) ⊎ (pos T ≡ (z -ℤ i) +ℤ pos X)
    → (z ≡ pos S) ⊎ ((z +ℤ pos P) ≡ pos S)
less_core P X T S i z at below twice is high low (inl t) = elim (mod_cases T P twice) [
  | inl r ↦ elim at [ inl a ↦ inr (omega (arith, ints, a, t, r.0, is)) | inr a ↦ absurd (omega (arith, ints, a, t, r.1, low, below)) ]
  | inr r ↦ elim at [ inl a ↦ inl (omega (arith, ints, a, t, r, is)) | inr a ↦ inr (omega (arith, ints, a, t, r, is)) ]
]
less_core P X T S i z at below twice is high low (inr t) = elim (mod_cases T P twice) [
  | inl r ↦ elim at [ inl a ↦ inl (omega (arith, ints, a, t, r.0, is)) | inr a ↦ inr (omega (arith, ints, a, t, r.0, is)) ]
  | inr r ↦ elim at [ inl a ↦ absurd (omega (arith, ints, a, t, r, is, high)) | inr a ↦ inl (omega (arith, ints, a, t, r, is)) ]
]

-- the offset taken off an index
less_at : (w : ℕ) (ys : List Bool) (i : ℤ) (offset : ℤ) → length ys ≡ w → (i ≡ pos (number ys)) ⊎ ((i +ℤ pos (2 ^ w)) ≡ pos (number ys)) → nat_abs offset + 65536 ≤ 2 ^ w
    → ((i -ℤ offset) +ℤ pos 65536) ≤ℤ pos (2 ^ w) → pos 65536 ≤ℤ ((i -ℤ offset) +ℤ pos (2 ^ w))
    → ((i -ℤ offset) ≡ pos (number (less offset w ys))) ⊎ (((i -ℤ offset) +ℤ pos (2 ^ w)) ≡ pos (number (less offset w ys)))
less_at w ys i (pos c) e at few high low =
    let b : number ys < 2 ^ w = (let q = number_below ys in let r = ap (λ k. 2 ^ k) e in omega (arith, q, r)) in
    less_core (2 ^ w) (number ys) (number ys + (2 ^ w - c)) (number (less (pos c) w ys)) i (i -ℤ pos c) at b (omega (arith, b, few)) (less_pos w c ys e (omega (arith, few))) high low
    (inl (omega (arith, ints, few)))
less_at w ys i (negsuc c) e at few high low =
    let b : number ys < 2 ^ w = (let q = number_below ys in let r = ap (λ k. 2 ^ k) e in omega (arith, q, r)) in
    less_core (2 ^ w) (number ys) (number ys + (c + 1)) (number (less (negsuc c) w ys)) i (i -ℤ negsuc c) at b (omega (arith, b, few)) (less_neg w c ys e (omega (arith, few))) high low
    (inr (omega (arith, ints)))

less_length : (offset : ℤ) (w : ℕ) (ys : List Bool) → length (less offset w ys) ≡ length ys
less_length (pos c) w ys = bits_of_length (length ys) (number ys + (2 ^ length ys - number (bits_of w c)))
less_length (negsuc c) w ys = bits_of_length (length ys) (number ys + number (bits_of w (c + 1)))

turned_number : (P S T : ℕ) → S < P → T ≡ P - S → ((S ≡ 0) × ((T % P) ≡ 0)) ⊎ ((0 < S) × (((T % P) + S) ≡ P))
turned_number P zero T l e = elim (mod_cases T P (omega (arith, l, e))) [ inl r ↦ absurd (omega (arith, r.1, e)) | inr r ↦ inl (refl, omega (arith, r, e)) ]
turned_number P (suc S) T l e = elim (mod_cases T P (omega (arith, l, e))) [ inl r ↦ inr (omega arith, omega (arith, r.0, e, l)) | inr r ↦ absurd (omega (arith, r, e, l)) ]

-- both amounts of a variable select
module _ (signed : Bool) (w : ℕ) (offset : ℤ) (xs : List Bool) (le : length xs ≤ w) (enough : 2 ^ length xs + nat_abs offset + 65536 ≤ 2 ^ w) where
  abbrev sum : List Bool
  sum = less offset w (extended signed w xs)

  sum_length : length sum ≡ w
  sum_length = less_length offset w (extended signed w xs) ∙ length_extended signed w xs

  offset_abs : (pos 0 ≤ℤ (offset +ℤ pos (nat_abs offset))) × (offset ≤ℤ pos (nat_abs offset))
  offset_abs = bounds offset
    where
      bounds : (z : ℤ) → (pos 0 ≤ℤ (z +ℤ pos (nat_abs z))) × (z ≤ℤ pos (nat_abs z))
      bounds (pos c) = (omega (arith, ints), omega (arith, ints))
      bounds (negsuc c) = (omega (arith, ints), omega (arith, ints))

  high : ((index_number signed xs -ℤ offset) +ℤ pos 65536) ≤ℤ pos (2 ^ w)
  high = let b = index_bound w xs le signed in let a = offset_abs in omega (arith, ints, b.0, a.0, enough)

  low : pos 65536 ≤ℤ ((index_number signed xs -ℤ offset) +ℤ pos (2 ^ w))
  low = let b = index_bound w xs le signed in let a = offset_abs in omega (arith, ints, b.1, a.1, enough)

  at : ((index_number signed xs -ℤ offset) ≡ pos (number sum)) ⊎ (((index_number signed xs -ℤ offset) +ℤ pos (2 ^ w)) ≡ pos (number sum))
  at = less_at w (extended signed w xs) (index_number signed xs) offset (length_extended signed w xs) (index_at w xs le signed) (omega (arith, enough)) high low

  below : number sum < 2 ^ w
  below = let q = number_below sum in let r = ap (λ k. 2 ^ k) sum_length in omega (arith, q, r)

  turned : ((number sum ≡ 0) × (number (negated sum) ≡ 0)) ⊎ ((0 < number sum) × (number (negated sum) + number sum ≡ 2 ^ w))
  turned =
      let n : number (negated sum) ≡ (2 ^ w - number sum) % 2 ^ w = number_of_bits (length sum) (2 ^ length sum - number sum) ∙ ap (λ k. (2 ^ k - number sum) % 2 ^ k) sum_length in
      elim (turned_number (2 ^ w) (number sum) (2 ^ w - number sum) below refl) [
        | inl t ↦ inl (t.0, n ∙ t.1)
        | inr t ↦ inr (t.0, ap (λ k. k + number sum) n ∙ t.1)
      ]

  pub amounts_up : Moves (number sum) (number (negated sum)) (lowest offset false signed xs)
  amounts_up = moves_up (2 ^ w) (number sum) (number (negated sum)) (index_number signed xs -ℤ offset) at below high low turned

  pub amounts_down : Moves (number (negated sum)) (number sum) (lowest offset true signed xs)
  amounts_down = moves_down (2 ^ w) (number sum) (number (negated sum)) (index_number signed xs -ℤ offset) at below high low turned (offset -ℤ index_number signed xs) (omega (arith, ints))

module _ {S V : Type 0} (m : Meaning S V) (law : (d : S) (v : ℕ → Bool) (x : V) → m.is_value d x → length (m.reads d v x) ≡ m.width x) where
  module _ (d0 d1 d2 d3 : S) (index value moved turned : V) (n w : ℕ) (offset : ℤ) (signed : Bool) (ii : m.is_value d0 index) (long : m.width index ≡ n) (le : n ≤ w) (narrow : w ≤ 128)
      (enough : 2 ^ n + nat_abs offset + 65536 ≤ 2 ^ w) (k3 : Keeps m d2 d3)
      (va : Stands m d1 value w (λ v. extended signed w (m.reads d0 v index)))
      (mo : Stands m d2 moved w (λ v. less offset w (m.reads d1 v value)))
      (tu : Stands m d3 turned (m.width moved) (λ v. negated (m.reads d2 v moved))) where
    long_is : (v : ℕ → Bool) → length (m.reads d0 v index) ≡ n
    long_is v = law d0 v index ii ∙ long

    moved_is : (v : ℕ → Bool) → m.reads d3 v moved ≡ less offset w (extended signed w (m.reads d0 v index))
    moved_is v = k3.same moved v mo.is_one ∙ mo.reads_as v ∙ ap (less offset w) (va.reads_as v)

    turned_is : (v : ℕ → Bool) → m.reads d3 v turned ≡ negated (less offset w (extended signed w (m.reads d0 v index)))
    turned_is v = tu.reads_as v ∙ ap negated (mo.reads_as v ∙ ap (less offset w) (va.reads_as v))

    room_for : (v : ℕ → Bool) → 2 ^ length (m.reads d0 v index) + nat_abs offset + 65536 ≤ 2 ^ w
    room_for v = let e = ap (λ k. 2 ^ k) (long_is v) in omega (arith, e, enough)

    pub made_up : (down : Bool) → down ≡ false → AreAmounts m d3 (record { right = moved; left = turned }) (λ v. lowest offset down signed (m.reads d0 v index))
    made_up down is = record {
      narrow = record { right_is = k3.still moved mo.is_one; left_is = tu.is_one; right_narrow = (let a = mo.wide in omega (arith, a, narrow)); left_narrow = (let a = mo.wide in let b = tu.wide in omega (arith, a, b, narrow)) };
      moves = λ v. subst (λ z. Moves (number (m.reads d3 v moved)) (number (m.reads d3 v turned)) (lowest offset z signed (m.reads d0 v index))) (sym is)
          (subst (λ y. Moves (number (m.reads d3 v moved)) (number y) (lowest offset false signed (m.reads d0 v index))) (sym (turned_is v))
          (subst (λ y. Moves (number y) (number (negated (less offset w (extended signed w (m.reads d0 v index))))) (lowest offset false signed (m.reads d0 v index))) (sym (moved_is v))
          (amounts_up signed w offset (m.reads d0 v index) (let e = long_is v in omega (arith, e, le)) (room_for v))));
    }

    pub made_down : (down : Bool) → down ≡ true → AreAmounts m d3 (record { right = turned; left = moved }) (λ v. lowest offset down signed (m.reads d0 v index))
    made_down down is = record {
      narrow = record { left_is = k3.still moved mo.is_one; right_is = tu.is_one; left_narrow = (let a = mo.wide in omega (arith, a, narrow)); right_narrow = (let a = mo.wide in let b = tu.wide in omega (arith, a, b, narrow)) };
      moves = λ v. subst (λ z. Moves (number (m.reads d3 v turned)) (number (m.reads d3 v moved)) (lowest offset z signed (m.reads d0 v index))) (sym is)
          (subst (λ y. Moves (number y) (number (m.reads d3 v moved)) (lowest offset true signed (m.reads d0 v index))) (sym (turned_is v))
          (subst (λ y. Moves (number (negated (less offset w (extended signed w (m.reads d0 v index))))) (number y) (lowest offset true signed (m.reads d0 v index))) (sym (moved_is v))
          (amounts_down signed w offset (m.reads d0 v index) (let e = long_is v in omega (arith, e, le)) (room_for v))));
    }

-- two operands of one length of at most 128 bits
pub narrow_pair : (a b n : ℕ) → a ≡ n → b ≡ n → n ≤ 128 → ((nat_eq a a && nat_eq a b) && is_narrow a) ≡ true
narrow_pair a b n e f l = and_from (nat_eq a a && nat_eq a b) (is_narrow a) (and_from (nat_eq a a) (nat_eq a b) (eq-eqb a a refl) (eq-eqb a b (e ∙ sym f))) (le-leb a 128 (omega (arith, e, l)))

pub wide_room : (n c : ℕ) (offset : ℤ) → n ≤ 127 → nat_abs offset ≤ 2 ^ 63 → 2 ^ n + nat_abs offset + 65536 ≤ 2 ^ 128
wide_room n c offset l f = let two : 0 < 2 = omega arith in let p : 2 ^ n ≤ 2 ^ 127 = pow-le-pow_right two l in omega (arith, p, f)

pub fits_abs : (z : ℤ) → SFits w64 z → nat_abs z ≤ 2 ^ 63
fits_abs (pos n) f = let s = f.sfits in omega (arith, s)
fits_abs (negsuc n) f = let s = f.sfits in omega (arith, s)

xor_self : (xs : List Bool) → zip_with exclusive_or xs xs ≡ replicate (length xs) false
xor_self [] = refl
xor_self (false ∷ xs) = ap (λ r. false ∷ r) (xor_self xs)
xor_self (true ∷ xs) = ap (λ r. false ∷ r) (xor_self xs)

module _ {S V : Type 0} (m : Meaning S V) (law : (d : S) (v : ℕ → Bool) (x : V) → m.is_value d x → length (m.reads d v x) ≡ m.width x) where
  pub zeros_read : (d0 d1 d2 : S) (whole zeros : V) → m.is_value d0 whole → Keeps m d1 d2 → Stands m d1 zeros (m.width whole) (λ v. zip_with exclusive_or (m.reads d0 v whole) (m.reads d0 v whole))
      → (v : ℕ → Bool) → m.reads d2 v zeros ≡ replicate (m.width zeros) false
  zeros_read d0 d1 d2 whole zeros i k s v = k.same zeros v s.is_one ∙ s.reads_as v ∙ xor_self (m.reads d0 v whole) ∙ ap (λ n. replicate n false) (law d0 v whole i ∙ sym s.wide)

-- a part blended in where its bits are is the part written over
module _ (n : ℕ) (y z : ℤ) (part whole : List Bool) (long : length part ≡ n) (o : y +ℤ z ≡ pos 0) where
  blend_bit : (k : ℕ) (d : ℤ) → pos k -ℤ z ≡ d → ((bit_at whole k && not (bit_at_int (replicate n true) d)) || bit_at_int part d) ≡ written part d (bit_at whole k)
  blend_bit k (negsuc p) e = outside_kept (bit_at whole k)
    where
      outside_kept : (b : Bool) → ((b && not false) || false) ≡ b
      outside_kept true = refl
      outside_kept false = refl
  blend_bit k (pos p) e = elim (cases_lt p n) [
    | inl l ↦ ap (λ t. (bit_at whole k && not t) || bit_at part p) (get_or-replicate n p true false l) ∙ taken (bit_at whole k) (bit_at part p) ∙ sym (if_lt p (length part) (bit_at part p) (bit_at whole k) (omega (arith, l, long)))
    | inr l ↦ ap₂ (λ t u. (bit_at whole k && not t) || u) (get_or_past (replicate n true) p false (let r = length-replicate n true in omega (arith, l, r))) (get_or_past part p false (omega (arith, l, long)))
        ∙ left (bit_at whole k) ∙ sym (if_ge p (length part) (bit_at part p) (bit_at whole k) (omega (arith, l, long)))
  ]
    where
      taken : (b c : Bool) → ((b && not true) || c) ≡ c
      taken true c = refl
      taken false c = refl

      left : (b : Bool) → ((b && not false) || false) ≡ b
      left true = refl
      left false = refl

  pub blended_is : blended whole (selected y (length whole) (replicate n true)) (selected y (length whole) part) ≡ placed z part whole
  blended_is =
      let a = length_selected y (length whole) (replicate n true) in
      let b = length_selected y (length whole) part in
      let c = length-map (selected y (length whole) (replicate n true)) not in
      let e = length_placed z part whole in
      let f : length (zip_with (λ p q. p && q) whole (map not (selected y (length whole) (replicate n true)))) ≡ length whole = length-zip_with (λ p q. p && q) whole (map not (selected y (length whole) (replicate n true))) (sym (c ∙ a)) in
      sym (zip_with_by (λ p q. p || q) (zip_with (λ p q. p && q) whole (map not (selected y (length whole) (replicate n true)))) (selected y (length whole) part) (placed z part whole) (f ∙ sym e) (b ∙ sym e)
      (λ k l. (let h : k < length whole = omega (arith, l, e) in
      let w : y +ℤ pos k ≡ pos k -ℤ z = omega (arith, ints, o) in
      placed_at z part whole k h ∙ sym (blend_bit k (pos k -ℤ z) refl)
      ∙ sym (ap₂ (λ p q. p || q)
      (get_or-zip_with (λ p q. p && q) whole (map not (selected y (length whole) (replicate n true))) k h (omega (arith, h, c, a))
      ∙ ap (λ t. bit_at whole k && t) (get_or-map not (selected y (length whole) (replicate n true)) k false false (omega (arith, h, a)) ∙ ap not (selected_at y (length whole) (replicate n true) k h ∙ ap (bit_at_int (replicate n true)) w)))
      (selected_at y (length whole) part k h ∙ ap (bit_at_int part) w)))))

not_zeros : (n : ℕ) → map not (replicate n false) ≡ replicate n true
not_zeros zero = refl
not_zeros (suc n) = ap (λ r. true ∷ r) (not_zeros n)

module _ {S V : Type 0} (m : Meaning S V) where
  pub ones_made : (d1 now : S) (value r : V) (n : ℕ) (bits : List Bool) → bits ≡ replicate n false → Stands m d1 value (length bits) (λ v. bits) → Stands m now r (m.width value) (λ v. map not (m.reads d1 v value))
      → Stands m now r n (λ v. replicate n true)
  ones_made d1 now value r n bits e s t = record {
    is_one = t.is_one;
    wide = t.wide ∙ s.wide ∙ ap length e ∙ length-replicate n false;
    reads_as = λ v. t.reads_as v ∙ ap (map not) (s.reads_as v ∙ e) ∙ not_zeros n;
  }

  module _ (law : (d : S) (v : ℕ → Bool) (x : V) → m.is_value d x → length (m.reads d v x) ≡ m.width x) where
    pub placed_made : (d0 d1 d2 d3 d4 d5 d6 : S) (whole part zeros ones mask bits r : V) (a : Amounts V) (n : ℕ) (y z : (ℕ → Bool) → ℤ) → m.is_value d0 whole → m.is_value d0 part → m.width part ≡ n → m.width whole ≤ 65536
        → ((v : ℕ → Bool) → (y v +ℤ z v) ≡ pos 0) → Keeps m d0 d1 → Keeps m d1 d2 → Keeps m d2 d3 → Keeps m d3 d4 → Keeps m d4 d5
        → AreAmounts m d1 a y → m.width zeros ≡ m.width whole → Stands m d3 ones n (λ v. replicate n true)
        → Stands m d4 mask (m.width zeros) (λ v. joined (number (m.reads d3 v a.right)) (number (m.reads d3 v a.left)) (m.width zeros) (m.reads d3 v ones))
        → Stands m d5 bits (m.width zeros) (λ v. joined (number (m.reads d4 v a.right)) (number (m.reads d4 v a.left)) (m.width zeros) (m.reads d4 v part))
        → Stands m d6 r (m.width whole) (λ v. blended (m.reads d5 v whole) (m.reads d5 v mask) (m.reads d5 v bits))
        → n ≤ 65536
        → Stands m d6 r (m.width whole) (λ v. placed (z v) (m.reads d0 v part) (m.reads d0 v whole))
    placed_made d0 d1 d2 d3 d4 d5 d6 whole part zeros ones mask bits r a n y z wi pi pw few o k1 k2 k3 k4 k5 am zw on ma bi s most = record {
      is_one = s.is_one;
      wide = s.wide;
      reads_as = λ v.
          let r1 = am.narrow.right_is in let l1 = am.narrow.left_is in
          let ra : m.reads d3 v a.right ≡ m.reads d1 v a.right = k3.same a.right v (k2.still a.right r1) ∙ k2.same a.right v r1 in
          let la : m.reads d3 v a.left ≡ m.reads d1 v a.left = k3.same a.left v (k2.still a.left l1) ∙ k2.same a.left v l1 in
          let rb : m.reads d4 v a.right ≡ m.reads d1 v a.right = k4.same a.right v (k3.still a.right (k2.still a.right r1)) ∙ ra in
          let lb : m.reads d4 v a.left ≡ m.reads d1 v a.left = k4.same a.left v (k3.still a.left (k2.still a.left l1)) ∙ la in
          let w1 = k1.still whole wi in let w2 = k2.still whole w1 in let w3 = k3.still whole w2 in let w4 = k4.still whole w3 in
          let w5 : m.reads d5 v whole ≡ m.reads d0 v whole = k5.same whole v w4 ∙ k4.same whole v w3 ∙ k3.same whole v w2 ∙ k2.same whole v w1 ∙ k1.same whole v wi in
          let p1 = k1.still part pi in let p2 = k2.still part p1 in let p3 = k3.still part p2 in
          let p4 : m.reads d4 v part ≡ m.reads d0 v part = k4.same part v p3 ∙ k3.same part v p2 ∙ k2.same part v p1 ∙ k1.same part v pi in
          let lw : m.width zeros ≡ length (m.reads d0 v whole) = zw ∙ sym (law d0 v whole wi) in
          let lp : length (m.reads d0 v part) ≡ n = law d0 v part pi ∙ pw in
          let m5 : m.reads d5 v mask ≡ selected (y v) (length (m.reads d0 v whole)) (replicate n true) =
          k5.same mask v ma.is_one ∙ ma.reads_as v ∙ ap₂ (λ p q. joined (number p) (number q) (m.width zeros) (m.reads d3 v ones)) ra la ∙ ap₂ (λ p q. joined (number (m.reads d1 v a.right)) (number (m.reads d1 v a.left)) p q) lw (on.reads_as v)
          ∙ joined_is (length (m.reads d0 v whole)) (number (m.reads d1 v a.right)) (number (m.reads d1 v a.left)) (y v) (replicate n true) (let e = length-replicate n true in omega (arith, e, most)) (let e = law d0 v whole wi in omega (arith, e, few)) (am.moves v) in
          let b5 : m.reads d5 v bits ≡ selected (y v) (length (m.reads d0 v whole)) (m.reads d0 v part) =
          bi.reads_as v ∙ ap₂ (λ p q. joined (number p) (number q) (m.width zeros) (m.reads d4 v part)) rb lb ∙ ap₂ (λ p q. joined (number (m.reads d1 v a.right)) (number (m.reads d1 v a.left)) p q) lw p4
          ∙ joined_is (length (m.reads d0 v whole)) (number (m.reads d1 v a.right)) (number (m.reads d1 v a.left)) (y v) (m.reads d0 v part) (omega (arith, lp, most)) (let e = law d0 v whole wi in omega (arith, e, few)) (am.moves v) in
          s.reads_as v ∙ ap₂ (λ p q. blended p q (m.reads d5 v bits)) w5 m5 ∙ ap (blended (m.reads d0 v whole) (selected (y v) (length (m.reads d0 v whole)) (replicate n true))) b5
          ∙ blended_is n (y v) (z v) (m.reads d0 v part) (m.reads d0 v whole) lp (o v);
    }

-- back and forth
pub turned_place : (offset : ℤ) (down : Bool) (signed : Bool) (xs : List Bool) → lowest offset (not down) signed xs +ℤ lowest offset down signed xs ≡ pos 0
turned_place offset true signed xs = omega (arith, ints)
turned_place offset false signed xs = omega (arith, ints)
