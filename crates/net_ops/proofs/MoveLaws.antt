-- Words moved twice, and moved by a number bit after bit.
use Rattle.std.proofs.Common.{◌≡◌, ℕ, zero, suc, ◌+◌, ◌-◌, ◌*◌, ◌^◌, ◌<◌, ◌≤◌, Bool, true, false, List, [], ◌∷◌, length, drop, get_or, replicate, ap, refl, sym, ◌∙◌, arith, nat_lt, if◌then◌else◌, inl, inr}
use Rattle.std.proofs.lemmas.Bool.{lt-ltb, le-ltb, cases_lt}
use Rattle.std.proofs.lemmas.List.FromFn.{fill_by_all, length-map-range_with_len, get_or-map-range_with_len}
use Rattle.std.proofs.lemmas.List.{length-replicate, drop_more, drop_all}
use native.Mathlib.Numerals.{unary_clauses}
use Rattle.bits_core.specs.Places.{bit_at, by_place, is_set, shifted_left, shifted_right}
use Rattle.bits_core.specs.Numbers.{bit_value, number}
use Rattle.net_ops.specs.Moves.{come, moved}

pub moved_by_place : (left fill : Bool) (by : ℕ) (bits : List Bool) → moved left fill by bits ≡ by_place (length bits) (come left fill by bits)
unfolding moved shifted_left shifted_right
moved_by_place true fill by bits = refl
moved_by_place false fill by bits = refl

pub length-moved : (left fill : Bool) (by : ℕ) (bits : List Bool) → length (moved left fill by bits) ≡ length bits
length-moved left fill by bits = ap length (moved_by_place left fill by bits) ∙ length-map-range_with_len (come left fill by bits) 0 (length bits)

pub get-moved : (left fill : Bool) (by : ℕ) (bits : List Bool) (k : ℕ) → k < length bits → get_or (moved left fill by bits) k false ≡ come left fill by bits k
get-moved left fill by bits k l =
    ap (λ r. get_or r k false) (moved_by_place left fill by bits) ∙ get_or-map-range_with_len (come left fill by bits) 0 (length bits) k k false l (omega arith)

-- a word is a moved one where each place is
pub is_moved : (left fill : Bool) (by : ℕ) (bits out : List Bool) → length out ≡ length bits
    → ((k : ℕ) → k < length bits → get_or out k false ≡ come left fill by bits k) → out ≡ moved left fill by bits
is_moved left fill by bits out e h = fill_by_all (come left fill by bits) out (length bits) false e h ∙ sym (moved_by_place left fill by bits)

pick_true : (m n : ℕ) (x y : Bool) → m < n → (if nat_lt m n then x else y) ≡ x
pick_true m n x y l = ap (λ t. if t then x else y) (lt-ltb m n l)

pick_false : (m n : ℕ) (x y : Bool) → n ≤ m → (if nat_lt m n then x else y) ≡ y
pick_false m n x y l = ap (λ t. if t then x else y) (le-ltb m n l)

come_twice : (left fill : Bool) (m n : ℕ) (bits : List Bool) (k : ℕ) → k < length bits → come left fill n (moved left fill m bits) k ≡ come left fill (m + n) bits k
come_twice true fill m n bits k l = elim (cases_lt k n) [
  | inl p ↦ pick_true k n _ _ p ∙ sym (pick_true k (m + n) _ _ (omega arith))
  | inr p ↦ pick_false k n _ _ p ∙ get-moved true fill m bits (k - n) (omega arith) ∙ elim (cases_lt (k - n) m) [
    | inl q ↦ pick_true (k - n) m _ _ q ∙ sym (pick_true k (m + n) _ _ (omega arith))
    | inr q ↦ pick_false (k - n) m _ _ q ∙ ap (λ j. bit_at bits j) (let e : k - n - m ≡ k - (m + n) = omega arith in e) ∙ sym (pick_false k (m + n) _ _ (omega arith))
  ]
]
come_twice false fill m n bits k l =
    let long = length-moved false fill m bits in
    ap (λ j. if nat_lt (k + n) j then bit_at (moved false fill m bits) (k + n) else fill) long ∙ elim (cases_lt (k + n) (length bits)) [
      | inl p ↦ pick_true (k + n) (length bits) _ _ p ∙ get-moved false fill m bits (k + n) p
          ∙ ap (λ j. if nat_lt j (length bits) then bit_at bits j else fill) (let e : k + n + m ≡ k + (m + n) = omega arith in e)
      | inr p ↦ pick_false (k + n) (length bits) _ _ p ∙ sym (pick_false (k + (m + n)) (length bits) _ _ (omega arith))
    ]

pub moved_twice : (left fill : Bool) (m n : ℕ) (bits : List Bool) → moved left fill n (moved left fill m bits) ≡ moved left fill (m + n) bits
moved_twice left fill m n bits =
    let long = length-moved left fill m bits in
    is_moved left fill (m + n) bits _ (length-moved left fill n (moved left fill m bits) ∙ long)
    (λ k l. get-moved left fill n (moved left fill m bits) k (omega (arith, long)) ∙ come_twice left fill m n bits k l)

pub moved_none : (left fill : Bool) (bits : List Bool) → moved left fill 0 bits ≡ bits
moved_none left fill bits = sym (is_moved left fill 0 bits bits refl (λ k l. sym (stays left k l)))
  where
    stays : (left : Bool) (k : ℕ) → k < length bits → come left fill 0 bits k ≡ get_or bits k false
    stays true k l = pick_false k 0 _ _ (omega arith) ∙ ap (λ j. bit_at bits j) (let e : k - 0 ≡ k = omega arith in e)
    stays false k l = ap (λ j. if nat_lt j (length bits) then bit_at bits j else fill) (let e : k + 0 ≡ k = omega arith in e) ∙ pick_true k (length bits) _ _ l

-- moved past the end, only the fill is left
abbrev pub fill_of : Bool → Bool → Bool
fill_of left fill = if left then false else fill

get-replicate : (n : ℕ) (b : Bool) (k : ℕ) → k < n → get_or (replicate n b) k false ≡ b
get-replicate zero b k l = absurd (omega (arith, l))
get-replicate (suc n) b zero l = refl
get-replicate (suc n) b (suc k) l = get-replicate n b k (omega (arith, l))

pub moved_past : (left fill : Bool) (by : ℕ) (bits : List Bool) → length bits ≤ by → replicate (length bits) (fill_of left fill) ≡ moved left fill by bits
moved_past left fill by bits m = is_moved left fill by bits _ (length-replicate (length bits) (fill_of left fill)) (λ k l. get-replicate (length bits) (fill_of left fill) k l ∙ sym (out left k l))
  where
    out : (left : Bool) (k : ℕ) → k < length bits → come left fill by bits k ≡ fill_of left fill
    out true k l = pick_true k by _ _ (omega arith)
    out false k l = pick_false (k + by) (length bits) _ _ (omega arith)

-- the number of the bits from a place on
number_from : (by : List Bool) (j : ℕ) → j < length by → number (drop j by) ≡ bit_value (get_or by j false) + 2 * number (drop (j + 1) by)
unfolding number
number_from by j l = ap number (drop_more by j false l)

twice_pow : (n : ℕ) → 2 ^ (n + 1) ≡ 2 * 2 ^ n
twice_pow n = ap (λ k. 2 ^ k) (let e : n + 1 ≡ suc n = omega arith in e) ∙ simp unary_clauses (omega arith)

-- a stage moves by what its bit counts
pub staged : (left fill : Bool) (j step : ℕ) (t : Bool) (by now more whole : List Bool) → j < length by → step ≡ 2 ^ j → t ≡ get_or by j false
    → more ≡ (if t then moved left fill step now else now)
    → moved left fill (2 ^ j * number (drop j by)) now ≡ whole → moved left fill (2 ^ (j + 1) * number (drop (j + 1) by)) more ≡ whole
staged left fill j step t by now more whole l s e m before =
    ap (λ r. moved left fill (2 ^ (j + 1) * number (drop (j + 1) by)) r) (m ∙ picked t)
    ∙ moved_twice left fill (bit_value t * step) (2 ^ (j + 1) * number (drop (j + 1) by)) now
    ∙ ap (λ n. moved left fill n now) (counts (bit_value t) (number (drop (j + 1) by)) step (2 ^ j) (2 ^ (j + 1)) _ s (twice_pow j) (number_from by j l ∙ ap (λ b. bit_value b + 2 * number (drop (j + 1) by)) (sym e)))
    ∙ before
  where
    picked : (t : Bool) → (if t then moved left fill step now else now) ≡ moved left fill (bit_value t * step) now
    picked true = ap (λ n. moved left fill n now) (let e : step ≡ 1 * step = omega arith in e)
    picked false = sym (moved_none left fill now) ∙ ap (λ n. moved left fill n now) (let e : 0 ≡ 0 * step = omega arith in e)

    spread : (b p r : ℕ) → b * p + 2 * p * r ≡ p * (b + 2 * r)
    spread b p r = grind arith

    counts : (b r step p q n : ℕ) → step ≡ p → q ≡ 2 * p → n ≡ b + 2 * r → b * step + q * r ≡ p * n
    counts b r step p q n e f g = ap (λ m. b * m + q * r) e ∙ ap (λ m. b * p + m * r) f ∙ spread b p r ∙ ap (λ m. p * m) (sym g)

pub number_none : (bits : List Bool) → is_set bits ≡ false → number bits ≡ 0
unfolding number
number_none [] e = refl
number_none (false ∷ bits) e = let h = number_none bits e in omega (arith, h)
number_none (true ∷ bits) e = absurd (true_false e)
  where
    true_false : true ≡ false → ⊥
    true_false e = cc

pub number_some : (bits : List Bool) → is_set bits ≡ true → 1 ≤ number bits
unfolding number
number_some [] e = absurd (false_true e)
  where
    false_true : false ≡ true → ⊥
    false_true e = cc
number_some (false ∷ bits) e = let h = number_some bits e in omega (arith, h)
number_some (true ∷ bits) e = omega arith

-- after the stages the bits that are left move everything out, or nothing
pub staged_end : (left fill t : Bool) (j step n : ℕ) (by now more whole : List Bool) → step ≡ 2 ^ j → n ≤ step → length now ≡ n → t ≡ is_set (drop j by)
    → more ≡ (if t then moved left fill n now else now)
    → moved left fill (2 ^ j * number (drop j by)) now ≡ whole → more ≡ whole
staged_end left fill false j step n by now more whole s l w e m before =
    m ∙ sym (moved_none left fill now) ∙ ap (λ k. moved left fill k now) (none (2 ^ j) _ (number_none (drop j by) (sym e))) ∙ before
  where
    none : (p n : ℕ) → n ≡ 0 → 0 ≡ p * n
    none p n e = grind (arith, e)
staged_end left fill true j step n by now more whole s l w e m before =
    m ∙ sym (moved_past left fill n now (omega (arith, w)))
    ∙ moved_past left fill (2 ^ j * number (drop j by)) now (some (length now) step (2 ^ j) _ (omega (arith, l, w)) s (number_some (drop j by) (sym e))) ∙ before
  where
    some : (w step p n : ℕ) → w ≤ step → step ≡ p → 1 ≤ n → w ≤ p * n
    some w step p n l e f = grind (arith, l, e, f)

pub staged_out : (left fill : Bool) (j : ℕ) (by now whole : List Bool) → length by ≤ j
    → moved left fill (2 ^ j * number (drop j by)) now ≡ whole → now ≡ whole
unfolding number
staged_out left fill j by now whole l before =
    sym (moved_none left fill now) ∙ ap (λ n. moved left fill n now) (let e : 0 ≡ 2 ^ j * 0 = omega arith in e)
    ∙ ap (λ r. moved left fill (2 ^ j * number r) now) (sym (drop_all j by l)) ∙ before
