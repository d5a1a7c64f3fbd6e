-- Digits read one by one.
use Rattle.std.proofs.Common.{◌≡◌, ℕ, ◌+◌, ◌*◌, ◌-◌, ◌%◌, ◌^◌, ◌<◌, ◌≤◌, min, Bool, true, false, cond, ltb, List, [], ◌∷◌, length, get_or, take, drop, refl, sym, ap, ◌∙◌, arith, Some, None, inl, inr}
use Rattle.std.specs.Char.{is_ascii_digit, digit_value}
use Rattle.std.specs.Str.{all_ascii_digits}
use Rattle.std.specs.Str.Parse.{digits_value}
use Rattle.std.specs.Int.{IsInRange}
use mathlib.Core.Bool.{◌&&◌}
use Rattle.std.proofs.lemmas.Bool.{cases_lt, true≢false, cond-true, cond-false, lt-ltb, le-ltb}
use Rattle.std.proofs.lemmas.List.{at_drop_more, at_drop_all, take_all}
use Rattle.std.proofs.lemmas.Int.Digits.{digits_value_more}
use Rattle.std.specs.Fmt.{decimal}
use Rattle.std.proofs.lemmas.Fmt.{decimal_digit}
use Rattle.std.proofs.lemmas.Str.{digit_value_digit}
use Rattle.std.proofs.lemmas.Bool.Decides.{nat_tests}
use Rattle.cnf_core.specs.Numbers.{is_full, number_below}

-- the value so far, cut off above every bound
pub record Follows (value exact : ℕ) : Type 0 where
  pub small : exact < 10 * 2 ^ 60 → value ≡ exact
  pub large : 10 * 2 ^ 60 ≤ exact → 10 * 2 ^ 60 ≤ value

follows_by : (value exact next d : ℕ) → Follows value exact → next ≡ exact * 10 + d → Follows (min value (2 ^ 60) * 10 + d) next
follows_by value exact next d f e =
    elim (cases_lt exact (10 * 2 ^ 60)) [
      | inl lt ↦ let s = f.small lt in record { small = λ h. omega arith; large = λ h. omega arith }
      | inr le ↦ let s = f.large le in record { small = λ h. omega arith; large = λ h. omega arith }
    ]

pub follows_more : (value : ℕ) (w : List ℕ) (i b : ℕ) → i < length w → b ≡ get_or w i 0 → IsInRange 48 57 b → Follows value (digits_value 10 (take i w)) → Follows (min value (2 ^ 60) * 10 + (b - 48)) (digits_value 10 (take (i + 1) w))
follows_more value w i b lt e r f =
    let d = digit_value_digit b r in
    let m = digits_value_more 10 w i lt in
    follows_by value (digits_value 10 (take i w)) (digits_value 10 (take (i + 1) w)) (b - 48) f
    (m ∙ ap (λ (x : ℕ). digits_value 10 (take i w) * 10 + digit_value x) (sym e) ∙ ap (λ (x : ℕ). digits_value 10 (take i w) * 10 + x) (omega arith))

all_digits_more : (w : List ℕ) (i b : ℕ) → i < length w → b ≡ get_or w i 0 → all_ascii_digits (drop i w) ≡ (is_ascii_digit b && all_ascii_digits (drop (i + 1) w))
all_digits_more w i b lt e = at_drop_more all_ascii_digits w i 0 lt ∙ ap (λ (x : ℕ). is_ascii_digit x && all_ascii_digits (drop (i + 1) w)) (sym e)

pub digits_go_on : (w : List ℕ) (i b : ℕ) → i < length w → b ≡ get_or w i 0 → is_ascii_digit b ≡ true → all_ascii_digits (drop i w) ≡ all_ascii_digits w → all_ascii_digits (drop (i + 1) w) ≡ all_ascii_digits w
digits_go_on w i b lt e t h = sym (all_digits_more w i b lt e ∙ ap (λ (x : Bool). x && all_ascii_digits (drop (i + 1) w)) t) ∙ h

no_digits : (f a l : Bool) (v : ℕ) → a ≡ false → cond (f && a && l) (Some v) None ≡ None
no_digits true true l v h = absurd (true≢false h)
no_digits true false l v h = refl
no_digits false a l v h = refl

pub digits_stop : (bound : ℕ) (w : List ℕ) (i b : ℕ) → i < length w → b ≡ get_or w i 0 → is_ascii_digit b ≡ false → all_ascii_digits (drop i w) ≡ all_ascii_digits w → None ≡ number_below bound w
digits_stop bound w i b lt e t h =
    sym (no_digits (is_full w) (all_ascii_digits w) (ltb (digits_value 10 w) bound) (digits_value 10 w)
    (sym h ∙ all_digits_more w i b lt e ∙ ap (λ (x : Bool). x && all_ascii_digits (drop (i + 1) w)) t))

full_from : (w : List ℕ) → 0 < length w → is_full w ≡ true
full_from [] h = absurd (omega arith)
full_from (b ∷ bs) h = refl

all_full : (f a l : Bool) (v : ℕ) → f ≡ true → a ≡ true → cond (f && a && l) (Some v) None ≡ cond l (Some v) None
all_full f a l v e h = ap (λ (x : Bool). cond (x && a && l) (Some v) None) e ∙ ap (λ (x : Bool). cond (x && l) (Some v) None) h

pub number_said : (bound : ℕ) (w : List ℕ) → 0 < length w → all_ascii_digits w ≡ true → number_below bound w ≡ cond (ltb (digits_value 10 w) bound) (Some (digits_value 10 w)) None
number_said bound w full all = all_full (is_full w) (all_ascii_digits w) (ltb (digits_value 10 w) bound) (digits_value 10 w) (full_from w full) all

pub number_small : (bound value i : ℕ) (w : List ℕ) → bound ≤ 2 ^ 63 → 0 < length w → length w ≤ i → all_ascii_digits (drop i w) ≡ all_ascii_digits w → Follows value (digits_value 10 (take i w)) → value < bound → Some value ≡ number_below bound w
number_small bound value i w small full end all f lt =
    let whole = ap (digits_value 10) (take_all i w end) in
    let none = at_drop_all all_ascii_digits w i end in
    let exact : digits_value 10 w < 10 * 2 ^ 60 = elim (cases_lt (digits_value 10 w) (10 * 2 ^ 60)) [ inl h ↦ h | inr h ↦ let l = f.large (omega arith) in absurd (omega arith) ] in
    let same : value ≡ digits_value 10 w = f.small (omega arith) ∙ whole in
    ap Some same ∙ sym (cond-true (ltb (digits_value 10 w) bound) (Some (digits_value 10 w)) None (lt-ltb (digits_value 10 w) bound (omega arith)))
    ∙ sym (number_said bound w full (sym all ∙ none))

pub number_large : (bound value i : ℕ) (w : List ℕ) → bound ≤ 2 ^ 63 → 0 < length w → length w ≤ i → all_ascii_digits (drop i w) ≡ all_ascii_digits w → Follows value (digits_value 10 (take i w)) → bound ≤ value → None ≡ number_below bound w
number_large bound value i w small full end all f le =
    let whole = ap (digits_value 10) (take_all i w end) in
    let none = at_drop_all all_ascii_digits w i end in
    let above : bound ≤ digits_value 10 w = elim (cases_lt (digits_value 10 w) (10 * 2 ^ 60)) [ inl h ↦ let s = f.small (omega arith) in omega arith | inr h ↦ omega arith ] in
    sym (cond-false (ltb (digits_value 10 w) bound) (Some (digits_value 10 w)) None (le-ltb (digits_value 10 w) bound above))
    ∙ sym (number_said bound w full (sym all ∙ none))

pub digit_range : (b : ℕ) → is_ascii_digit b ≡ true → IsInRange 48 57 b
digit_range b h = grind (arith, nat_tests)

pub digit_of_small : (n : ℕ) → n < 10 → (48 + n % 10) ∷ [] ≡ decimal n
digit_of_small n lt = ap (λ (k : ℕ). (48 + k) ∷ []) (omega arith) ∙ sym (decimal_digit n lt)
