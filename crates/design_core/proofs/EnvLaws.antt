-- An environment of lists as an assignment: a whole signal is worth its list.
use Rattle.std.proofs.Common.{◌≡◌, ℕ, suc, ◌+◌, ◌<◌, Bool, true, List, [], ◌∷◌, map, length, refl, sym, ◌∙◌, ap, ap₂, arith, if◌then◌else◌, Some, None, pos, ◌+ℤ◌}
use Rattle.std.specs.Prelude.{nat_lt, slice_index_or}
use Rattle.std.proofs.lemmas.Bool.Decides.{nat_tests}
use Rattle.bits_core.specs.Places.{bit_at}
use Rattle.design_core.specs.Core.{Assignment, bit, spot, spots, bit_in, taken}

-- the bits of an environment that has a list for each signal
abbrev pub assigned_by : List (List Bool) → Assignment
assigned_by env b = bit_at (slice_index_or env b.signal []) b.bit

spot_in : (m k : ℕ) (f : ℕ → Bool) → k < m → bit_in f (spot m (pos k)) ≡ f k
spot_in m k f h = let t : nat_lt k m ≡ true = grind (arith, nat_tests) in ap (λ c. bit_in f (if c then Some k else None)) t

one_more : (k : ℕ) → pos k +ℤ pos 1 ≡ pos (suc k)
one_more k = ap pos (omega arith)

from_place : (m k : ℕ) (xs : List Bool) (f : ℕ → Bool) → k + length xs ≡ m → ((j : ℕ) → j < length xs → f (k + j) ≡ bit_at xs j)
    → map (bit_in f) (spots m (pos k) (length xs)) ≡ xs
from_place m k [] f e h = refl
from_place m k (x ∷ xs) f e h =
    let z : k ≡ k + 0 = omega arith in
    ap₂ (λ v vs. v ∷ vs) (spot_in m k f (omega arith) ∙ ap f z ∙ h 0 (omega arith))
    (ap (λ low. map (bit_in f) (spots m low (length xs))) (one_more k)
    ∙ from_place m (suc k) xs f (omega arith) (λ j lt. (let up : suc k + j ≡ k + suc j = omega arith in ap f up ∙ h (suc j) (omega arith))))

-- a whole signal is worth its list
pub whole_signal : (env : List (List Bool)) (s n : ℕ) → length (slice_index_or env s []) ≡ n → taken (assigned_by env) s (spots n (pos 0) n) ≡ slice_index_or env s []
whole_signal env s n e =
    ap (λ j. taken (assigned_by env) s (spots j (pos 0) j)) (sym e)
    ∙ from_place (length (slice_index_or env s [])) 0 (slice_index_or env s []) (λ k. assigned_by env (bit s k)) (omega arith) (λ j lt. (let z : 0 + j ≡ j = omega arith in ap (bit_at (slice_index_or env s [])) z))
