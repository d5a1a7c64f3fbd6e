-- Parts written over vectors.
use Rattle.std.proofs.Common.{◌≡◌, ℕ, ◌<◌, Bool, List, length, ap, refl, sym, ◌∙◌, arith, inl, inr}
use Rattle.std.specs.Prelude.{ℤ, pos, negsuc, ◌+ℤ◌, ◌-ℤ◌}
use Rattle.std.proofs.lemmas.Int.{ints}
use Rattle.std.proofs.lemmas.Bool.{cases_lt}
use Rattle.bits_core.specs.Places.{bit_at, bit_at_int, written, selected, placed}
use Rattle.value_domain.proofs.PlaceLaws.{length_placed, length_selected, placed_at, selected_at, if_lt, if_ge, same_lists_bits}

-- a part as long as the vector takes its place
pub whole_placed : (part old : List Bool) → length part ≡ length old → placed (pos 0) part old ≡ part
whole_placed part old e = same_lists_bits (placed (pos 0) part old) part (length_placed (pos 0) part old ∙ sym e) (λ k l.
    (let n = length_placed (pos 0) part old in
    let z : pos k -ℤ pos 0 ≡ pos k = omega (arith, ints) in
    let in_old : k < length old = omega (arith, n, l) in
    placed_at (pos 0) part old k in_old ∙ ap (λ d. written part d (bit_at old k)) z ∙ if_lt k (length part) (bit_at part k) (bit_at old k) (omega (arith, e, in_old))))

-- writing back what was read changes nothing
module _ (low : ℤ) (n : ℕ) (old : List Bool) where
  back_at : (k : ℕ) (z : ℤ) → pos k -ℤ low ≡ z → written (selected low n old) z (bit_at old k) ≡ bit_at old k
  back_at k (negsuc p) e = refl
  back_at k (pos p) e = elim (cases_lt p n) [
    | inl l ↦ (let i : low +ℤ pos p ≡ pos k = omega (arith, ints, e) in
        if_lt p (length (selected low n old)) (bit_at (selected low n old) p) (bit_at old k) (let m = length_selected low n old in omega (arith, l, m))
        ∙ selected_at low n old p l ∙ ap (bit_at_int old) i)
    | inr h ↦ if_ge p (length (selected low n old)) (bit_at (selected low n old) p) (bit_at old k) (let m = length_selected low n old in omega (arith, h, m))
  ]

  pub placed_back : placed low (selected low n old) old ≡ old
  placed_back = same_lists_bits (placed low (selected low n old) old) old (length_placed low (selected low n old) old) (λ k l.
      (let m = length_placed low (selected low n old) old in
      placed_at low (selected low n old) old k (omega (arith, m, l)) ∙ back_at k (pos k -ℤ low) refl))
