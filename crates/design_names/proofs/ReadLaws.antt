-- Texts read as indices.
use Rattle.std.proofs.Common.{◌≡◌, ◌≢◌, ℕ, suc, ◌+◌, ◌<◌, ◌≤◌, ◌^◌, ◌/◌, ◌%◌, true, List, [], ◌∷◌, ◌++◌, length, inl, inr, refl, sym, ap, ◌∙◌, arith, ℤ, pos, negsuc, nat_lt}
use Rattle.std.specs.Prelude.{MatchOption}
use Rattle.std.specs.declared.option.Option.{Option}
use Rattle.std.specs.declared.option.Option.TheVariants.{Some, None}
use Rattle.std.proofs.lemmas.Bool.Decides.{nat_tests}
use Rattle.design_core.specs.Wellformed.{decimal, digits, index_text, is_bound}
use Rattle.design_core.proofs.BoolLaws.{either, if_true, if_false}
use Rattle.design_names.proofs.DigitLaws.{digits_are, digits_one}
use Rattle.design_names.proofs.IndexLaws.{no_sign, small, tail_same}

abbrev pub IsRead : List ℕ → Option ℕ → Type 0
IsRead text size = MatchOption size ((n : ℕ) → n ≤ 2 ^ 31 → text ≢ decimal n) (λ n. (n ≤ 2 ^ 31) × (text ≡ decimal n))

abbrev pub IsIndex : List ℕ → Option ℤ → Type 0
IsIndex text r = MatchOption r ((z : ℤ) → is_bound z ≡ true → text ≢ index_text z) (λ z. (is_bound z ≡ true) × (text ≡ index_text z))

decimal_one : (n m : ℕ) → n ≤ 2 ^ 31 → m ≤ 2 ^ 31 → decimal n ≡ decimal m → n ≡ m
unfolding decimal
decimal_one n m h k e = digits_one 20 n m (omega arith) (omega arith) e

below_text : (m : ℕ) → index_text (negsuc m) ≡ 45 ∷ decimal (suc m)
unfolding decimal
below_text m = refl

from_text : (m : ℕ) → index_text (pos m) ≡ decimal m
unfolding decimal
from_text m = refl

unsigned : (m : ℕ) (rest : List ℕ) → decimal m ≡ 45 ∷ rest → ⊥
unfolding decimal
unsigned m rest e = no_sign (digits 20 m) rest (digits_are 20 m) e

snoc_some : (xs : List ℕ) (x : ℕ) → xs ++ x ∷ [] ≡ [] → ⊥
snoc_some [] x e = cc
snoc_some (y ∷ ys) x e = cc

digits_some : (k n : ℕ) → digits (suc k) n ≡ [] → ⊥
digits_some k n e = elim (either (nat_lt n 10)) [
  | inl hit ↦ (let f : (48 + n) ∷ [] ≡ [] = sym (if_true (nat_lt n 10) ((48 + n) ∷ []) (digits k (n / 10) ++ (48 + n % 10) ∷ []) hit) ∙ e in cc)
  | inr miss ↦ snoc_some (digits k (n / 10)) (48 + n % 10) (sym (if_false (nat_lt n 10) ((48 + n) ∷ []) (digits k (n / 10) ++ (48 + n % 10) ∷ []) miss) ∙ e)
]

pub no_text : (t : List ℕ) → length t ≡ 0 → t ≡ []
no_text [] h = refl
no_text (x ∷ xs) h = absurd (omega (arith, h))

-- no index is printed as nothing
pub index_some : (z : ℤ) → index_text z ≡ [] → ⊥
unfolding decimal
index_some (pos n) e = digits_some 19 n e
index_some (negsuc n) e = cc

is_small : (n : ℕ) → n < 2 ^ 31 → nat_lt n (2 ^ 31) ≡ true
is_small n h = grind (arith, nat_tests)

signed_none : (text rest : List ℕ) (size : Option ℕ) → text ≡ 45 ∷ rest → IsRead rest size → ((m : ℕ) → m < 2 ^ 31 → size ≢ Some (suc m)) → (z : ℤ) → is_bound z ≡ true → text ≡ index_text z → ⊥
signed_none text rest size e r h (pos n) b is = unsigned n rest (sym (from_text n) ∙ sym is ∙ e)
signed_none text rest None e r h (negsuc m) b is = r (suc m) (omega (arith, small m b)) (tail_same 45 45 rest (decimal (suc m)) (sym e ∙ is ∙ below_text m))
signed_none text rest (Some n) e r h (negsuc m) b is =
    h m (small m b) (ap Some (decimal_one n (suc m) r.0 (omega (arith, small m b)) (sym r.1 ∙ tail_same 45 45 rest (decimal (suc m)) (sym e ∙ is ∙ below_text m))))

signed_some : (text rest : List ℕ) (size : Option ℕ) (m : ℕ) → text ≡ 45 ∷ rest → IsRead rest size → m < 2 ^ 31 → size ≡ Some (suc m) → (is_bound (negsuc m) ≡ true) × (text ≡ index_text (negsuc m))
signed_some text rest None m e r l h = cc
signed_some text rest (Some n) m e r l h =
    let same : n ≡ suc m = cc in
    (is_small m l, e ∙ ap (λ t. 45 ∷ t) (r.1 ∙ ap decimal same) ∙ sym (below_text m))

pub signed : (text rest : List ℕ) (size : Option ℕ) (r : Option ℤ) → text ≡ 45 ∷ rest → IsRead rest size
    → MatchOption r ((m : ℕ) → m < 2 ^ 31 → size ≢ Some (suc m)) (λ z. (m : ℕ) × (z ≡ negsuc m) × (m < 2 ^ 31) × (size ≡ Some (suc m))) → IsIndex text r
signed text rest size None e w h = signed_none text rest size e w h
signed text rest size (Some z) e w h = let k = signed_some text rest size h.0 e w h.2 h.3 in (ap is_bound h.1 ∙ k.0, k.1 ∙ ap index_text (sym h.1))

plain_none : (text : List ℕ) (size : Option ℕ) → ((rest : List ℕ) → text ≡ 45 ∷ rest → ⊥) → IsRead text size → ((m : ℕ) → m < 2 ^ 31 → size ≢ Some m) → (z : ℤ) → is_bound z ≡ true → text ≡ index_text z → ⊥
plain_none text size e r h (negsuc n) b is = e (decimal (suc n)) (is ∙ below_text n)
plain_none text None e r h (pos m) b is = r m (omega (arith, small m b)) (is ∙ from_text m)
plain_none text (Some n) e r h (pos m) b is = h m (small m b) (ap Some (decimal_one n m r.0 (omega (arith, small m b)) (sym r.1 ∙ is ∙ from_text m)))

plain_some : (text : List ℕ) (size : Option ℕ) (m : ℕ) → IsRead text size → m < 2 ^ 31 → size ≡ Some m → (is_bound (pos m) ≡ true) × (text ≡ index_text (pos m))
plain_some text None m r l h = cc
plain_some text (Some n) m r l h = let same : n ≡ m = cc in (is_small m l, r.1 ∙ ap decimal same ∙ sym (from_text m))

pub plain_sign : (text : List ℕ) (size : Option ℕ) (r : Option ℤ) → ((rest : List ℕ) → text ≡ 45 ∷ rest → ⊥) → IsRead text size
    → MatchOption r ((m : ℕ) → m < 2 ^ 31 → size ≢ Some m) (λ z. (m : ℕ) × (z ≡ pos m) × (m < 2 ^ 31) × (size ≡ Some m)) → IsIndex text r
plain_sign text size None e w h = plain_none text size e w h
plain_sign text size (Some z) e w h = let k = plain_some text size h.0 w h.2 h.3 in (ap is_bound h.1 ∙ k.0, k.1 ∙ ap index_text (sym h.1))

pub other_head : (text rest : List ℕ) (first : ℕ) → text ≡ first ∷ rest → (first ≡ 45 → ⊥) → (more : List ℕ) → text ≡ 45 ∷ more → ⊥
other_head text rest first e h more is = h (let f : first ∷ rest ≡ 45 ∷ more = sym e ∙ is in cc)
