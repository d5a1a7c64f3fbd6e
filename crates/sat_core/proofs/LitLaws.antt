-- Literals as numbers, and the places of their lists.
use Rattle.std.proofs.Common.{◌≡◌, ℕ, ◌+◌, ◌*◌, ◌<◌, ◌≤◌, Option, None, Bool, true, false, cond, eqb, refl, sym, ap, ◌∙◌, Some, inl, inr, ◌⊎◌, ℤ, pos, negsuc, zero, suc, arith}
use Rattle.std.specs.Int.RustNames.{unsigned_abs}
use lib.IntN.{neg_ℤ}
use lib.Signed.{lt_z}
use mathlib.Core.Bool.{beq, not}
use Rattle.std.proofs.lemmas.Bool.{cases_eq, false≢true, eqb-true, and_parts, lt-ltb}
use Rattle.cnf_core.specs.declared.lit.Lit.{Lit}
use Rattle.cnf_core.specs.Lit.{variable_of, is_positive, opposite}
use Rattle.cnf_core.specs.Values.{Values, make_true, denies, grants, is_false, is_true, same_lit}
use Rattle.sat_core.specs.Watch.{code_of}
use Rattle.sat_core.proofs.StandingLaws.{give_same, give_other}
use Rattle.sat_core.proofs.RestLaws.{opposite_variable}

beq_true : (p q : Bool) → beq p q ≡ true → p ≡ q
beq_true true true h = refl
beq_true true false h = absurd cc
beq_true false true h = absurd cc
beq_true false false h = refl

positive_suc : (n : ℕ) → lt_z (pos 0) (pos (suc n)) ≡ true
positive_suc n = lt-ltb 0 (suc n) (omega arith)

not_positive : (m n : ℕ) → m ≡ suc n → lt_z (pos 0) (pos m) ≡ lt_z (pos 0) (negsuc n) → ⊥
not_positive zero n e h = absurd (omega arith)
not_positive (suc m) n e h = false≢true (sym h ∙ positive_suc m)

pub lit_same : (k l : ℤ) → unsigned_abs k ≡ unsigned_abs l → lt_z (pos 0) k ≡ lt_z (pos 0) l → k ≡ l
lit_same (pos m) (pos n) e h = ap pos e
lit_same (pos m) (negsuc n) e h = absurd (not_positive m n e h)
lit_same (negsuc m) (pos n) e h = absurd (not_positive n m (sym e) (sym h))
lit_same (negsuc m) (negsuc n) e h = let s : m ≡ n = omega arith in ap negsuc s

pub same_is : (k l : Lit) → same_lit k l ≡ true → k ≡ l
same_is k l h =
    let p = and_parts (eqb (variable_of k) (variable_of l)) (beq (is_positive k) (is_positive l)) h in
    lit_same k l (eqb-true _ _ p.0) (beq_true _ _ p.1)

same_self : (b : Bool) → beq b b ≡ true
same_self true = refl
same_self false = refl

differs : (b : Bool) (k l : Lit) → same_lit k l ≡ b → (k ≡ l → ⊥) → same_lit k l ≡ false
differs true k l e ne = absurd (ne (same_is k l e))
differs false k l e ne = e

pub not_same : (k l : Lit) → (k ≡ l → ⊥) → same_lit k l ≡ false
not_same k l ne = differs (same_lit k l) k l refl ne

sign_cases : (k l : Lit) (b : Bool) → variable_of k ≡ variable_of l → beq (is_positive k) (is_positive l) ≡ b → (k ≡ l) ⊎ (k ≡ l → ⊥)
sign_cases k l true e h = inl (lit_same k l e (beq_true _ _ h))
sign_cases k l false e h = inr (λ s. false≢true (sym h ∙ ap (λ (q : Bool). beq (is_positive k) q) (sym (ap is_positive s)) ∙ same_self (is_positive k)))

pub lit_cases : (k l : Lit) → (k ≡ l) ⊎ (k ≡ l → ⊥)
lit_cases k l = elim (cases_eq (variable_of k) (variable_of l)) [
  | inl e ↦ sign_cases k l (beq (is_positive k) (is_positive l)) e refl
  | inr ne ↦ inr (λ s. ne (ap variable_of s))
]

-- a literal of the same variable and another sign
opposite_is : (w l : ℤ) → unsigned_abs w ≡ unsigned_abs l → beq (lt_z (pos 0) l) (lt_z (pos 0) w) ≡ false → w ≡ neg_ℤ l
opposite_is (pos m) (pos n) e h =
    absurd (false≢true (sym h ∙ ap (λ (k : ℕ). beq (lt_z (pos 0) (pos n)) (lt_z (pos 0) (pos k))) e ∙ same_self (lt_z (pos 0) (pos n))))
opposite_is (pos m) (negsuc n) e h = ap pos e
opposite_is (negsuc m) (pos zero) e h = absurd (omega arith)
opposite_is (negsuc m) (pos (suc n)) e h = let s : m ≡ n = omega arith in ap negsuc s
opposite_is (negsuc m) (negsuc n) e h = absurd (false≢true (sym h))

not_true : (b : Bool) → not b ≡ true → b ≡ false
not_true true h = absurd (false≢true h)
not_true false h = refl

-- what one more true literal makes false
pub new_false : (b : Values) (l w : Lit) → is_false (make_true b l) w ≡ true → (w ≡ opposite l) ⊎ (is_false b w ≡ true)
new_false b l w h = elim (cases_eq (variable_of w) (variable_of l)) [
  | inl e ↦ inl (opposite_is w l e (not_true _ (sym (ap (denies (is_positive w)) (give_same b (variable_of w) (variable_of l) (is_positive l) e)) ∙ h)))
  | inr ne ↦ inr (sym (ap (denies (is_positive w)) (give_other b (variable_of w) (variable_of l) (is_positive l) ne)) ∙ h)
]

code_parts : (m n : ℕ) (p q : Bool) → cond p (2 * m + 1) (2 * m) ≡ cond q (2 * n + 1) (2 * n) → (m ≡ n) × (p ≡ q)
code_parts m n true true e = (omega arith, refl)
code_parts m n true false e = absurd (omega arith)
code_parts m n false true e = absurd (omega arith)
code_parts m n false false e = (omega arith, refl)

-- each literal has a place of its own
pub code_same : (k l : Lit) → code_of k ≡ code_of l → k ≡ l
code_same k l e =
    let p = code_parts (variable_of k) (variable_of l) (is_positive k) (is_positive l) e in
    lit_same k l p.0 p.1

code_room : (p : Bool) (m n : ℕ) → m < n → cond p (2 * m + 1) (2 * m) < 2 * n
code_room true m n h = omega arith
code_room false m n h = omega arith

pub code_within : (l : Lit) (n : ℕ) → variable_of l < n → code_of l < 2 * n
code_within l n h = code_room (is_positive l) (variable_of l) n h

not_sign : (l : ℤ) → 1 ≤ unsigned_abs l → lt_z (pos 0) (neg_ℤ l) ≡ not (lt_z (pos 0) l)
not_sign (pos zero) h = absurd (omega arith)
not_sign (pos (suc n)) h = ap not (sym (positive_suc n))
not_sign (negsuc n) h = positive_suc n

denied_by : (p q : Bool) (o : Option Bool) → q ≡ not p → grants p o ≡ true → denies q o ≡ true
denied_by p q None e g = absurd (false≢true g)
denied_by true q (Some true) e g = ap (λ (r : Bool). not (beq true r)) e
denied_by true q (Some false) e g = absurd (false≢true g)
denied_by false q (Some true) e g = absurd (false≢true g)
denied_by false q (Some false) e g = ap (λ (r : Bool). not (beq false r)) e

-- the complement of a true literal is false
pub opposite_false : (a : Values) (l : Lit) → 1 ≤ variable_of (opposite l) → is_true a l ≡ true → is_false a (opposite l) ≡ true
opposite_false a l h t =
    let v : variable_of (opposite l) ≡ variable_of l = opposite_variable l in
    denied_by (is_positive l) (is_positive (opposite l)) (a (variable_of (opposite l))) (not_sign l (omega (arith, v))) (ap (λ (x : ℕ). grants (is_positive l) (a x)) v ∙ t)
