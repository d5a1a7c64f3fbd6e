-- Bits in their order.
use Rattle.std.proofs.Common.{◌≡◌, ℕ, zero, suc, ◌+◌, ◌<◌, true, List, [], ◌∷◌, ◌++◌, take, length, sym, ap, ◌∙◌, subst, inl, inr, arith, add-one, append_assoc, nat_lt}
use Rattle.std.specs.Prelude.{slice_index_or}
use Rattle.std.proofs.lemmas.Bool.Decides.{nat_tests}
use Rattle.std.proofs.lemmas.List.{append-nil, length-take}
use Rattle.design_core.specs.Numbers.{is_bit}
use Rattle.design_core.specs.declared.place.BitRef.{BitRef}
use Rattle.design_core.specs.declared.signals.Signal.{Signal}
use Rattle.design_core.specs.Core.{bit}
use Rattle.design_core.specs.Cells.{In}
use Rattle.design_core.specs.Parts.{bits_from, bits_of_signals}
use Rattle.design_core.specs.Wellformed.{signal_lengths}
use Rattle.design_names.specs.Alike.{Stands}
use Rattle.design_names.proofs.FirstLaws.{front_more}
use Rattle.design_names.proofs.DistinctLaws.{in_append}

from_more : (s k n : ℕ) → bits_from s k (suc n) ≡ bits_from s k n ++ bit s (k + n) ∷ []
from_more s k zero = ap (λ m. bit s m ∷ []) (omega arith)
from_more s k (suc n) = ap (λ r. bit s k ∷ r) (from_more s (suc k) n ∙ ap (λ m. bits_from s (suc k) n ++ bit s m ∷ []) (omega arith))

pub add_more : (old now : List BitRef) (all : List BitRef) (s n : ℕ) → all ≡ old ++ bits_from s 0 n → now ≡ all ++ bit s n ∷ [] → now ≡ old ++ bits_from s 0 (n + 1)
add_more old now all s n h e = e ∙ ap (λ r. r ++ bit s n ∷ []) h ∙ append_assoc old (bits_from s 0 n) (bit s n ∷ [])
    ∙ ap (λ r. old ++ r) (ap (λ m. bits_from s 0 n ++ bit s m ∷ []) (omega arith) ∙ sym (from_more s 0 n) ∙ ap (bits_from s 0) (sym (add-one n)))

signals_more : (s : ℕ) (xs : List Signal) (x : Signal) → bits_of_signals s (xs ++ x ∷ []) ≡ bits_of_signals s xs ++ bits_from (s + length xs) 0 x.length
signals_more s [] x = append-nil (bits_from s 0 x.length) ∙ ap (λ m. bits_from m 0 x.length) (omega arith)
signals_more s (y ∷ ys) x =
    ap (λ r. bits_from s 0 y.length ++ r) (signals_more (suc s) ys x ∙ ap (λ m. bits_of_signals (suc s) ys ++ bits_from m 0 x.length) (omega arith))
    ∙ sym (append_assoc (bits_from s 0 y.length) (bits_of_signals (suc s) ys) (bits_from (s + suc (length ys)) 0 x.length))

pub bits_more : (signals : List Signal) (all now : List BitRef) (n : ℕ) (x : Signal) → all ≡ bits_of_signals 0 (take n signals) → Stands signals n x → now ≡ all ++ bits_from n 0 x.length → now ≡ bits_of_signals 0 (take (n + 1) signals)
bits_more signals all now n x h s e =
    e ∙ ap (λ r. r ++ bits_from n 0 x.length) h ∙ ap (λ m. bits_of_signals 0 (take n signals) ++ bits_from m 0 x.length) (let l = length-take n signals in omega (arith, s.within))
    ∙ sym (signals_more 0 (take n signals) x) ∙ ap (bits_of_signals 0) (sym (front_more signals n x s) ∙ ap (λ k. take k signals) (sym (add-one n)))

in_from : (s k n : ℕ) (b : BitRef) → In b (bits_from s k n) → (b.signal ≡ s) × (b.bit < k + n)
in_from s k zero b m = elim m [ ]
in_from s k (suc n) b (inl e) = (ap (λ (x : BitRef). x.signal) e, (let f = ap (λ (x : BitRef). x.bit) e in omega arith))
in_from s k (suc n) b (inr m) = let r = in_from s (suc k) n b m in (r.0, omega (arith, r.1))

in_signals : (s : ℕ) (xs : List Signal) (b : BitRef) → In b (bits_of_signals s xs) → (k : ℕ) × (b.signal ≡ s + k) × (k < length xs) × (b.bit < slice_index_or (signal_lengths xs) k 0)
in_signals s [] b m = elim m [ ]
in_signals s (x ∷ xs) b m = elim (in_append b (bits_from s 0 x.length) (bits_of_signals (suc s) xs) m) [
  | inl l ↦ (let r = in_from s 0 x.length b l in (0, omega (arith, r.0), omega arith, omega (arith, r.1)))
  | inr o ↦ (let r = in_signals (suc s) xs b o in (suc r.0, omega (arith, r.1), omega (arith, r.2), r.3))
]

is_below : (a b : ℕ) → a < b → nat_lt a b ≡ true
is_below a b h = grind (arith, nat_tests)

-- each of all bits is one of its signal
pub all_fit : (signals : List Signal) (b : BitRef) → In b (bits_of_signals 0 signals) → is_bit (signal_lengths signals) b ≡ true
all_fit signals b m =
    let r = in_signals 0 signals b m in
    let e : b.signal ≡ r.0 = omega (arith, r.1) in
    is_below b.bit (slice_index_or (signal_lengths signals) b.signal 0) (subst (λ k. b.bit < slice_index_or (signal_lengths signals) k 0) (sym e) r.3)
