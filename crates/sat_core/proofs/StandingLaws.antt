-- How a clause's standing depends on the values.
use Rattle.std.proofs.Common.{◌≡◌, ℕ, Bool, true, false, cond, eqb, List, [], ◌∷◌, refl, sym, ap, ◌∙◌, Some, inl, inr, ◌⊎◌}
use Rattle.std.specs.List.{fold}
use Rattle.std.proofs.lemmas.Bool.{eqb-true, and_parts, cond-true, cond-false, eq-eqb, ne_eqb}
use mathlib.Core.Bool.{beq}
use Rattle.cnf_core.specs.declared.lit.Lit.{Lit}
use Rattle.cnf_core.specs.declared.standing.Standing.{Standing}
use Rattle.cnf_core.specs.declared.standing.Standing.TheVariants.{Falsified, Unit as UnitAt, Neither}
use Rattle.cnf_core.specs.Learned.{Each}
use Rattle.cnf_core.specs.Lit.{variable_of, is_positive}
use Rattle.cnf_core.specs.Values.{Values, give, is_false, same_lit, joined, meet}

pub give_same : (a : Values) (x y : ℕ) (b : Bool) → x ≡ y → give a y b x ≡ Some b
give_same a x y b e = cond-true (eqb x y) (Some b) (a x) (eq-eqb x y e)

pub give_other : (a : Values) (x y : ℕ) (b : Bool) → (x ≡ y → ⊥) → give a y b x ≡ a x
give_other a x y b ne = cond-false (eqb x y) (Some b) (a x) (ne_eqb x y ne)

pub standing_same : (a b : Values) (s : Standing) (c : List Lit) → Each (λ k. is_false a k ≡ is_false b k) c → fold (meet a) s c ≡ fold (meet b) s c
standing_same a b s [] h = refl
standing_same a b s (l ∷ ls) h =
    ap (λ (t : Standing). fold (meet a) t ls) (ap (λ (q : Bool). cond q s (joined s l)) h.0) ∙ standing_same a b (meet b s l) ls h.1

same_both : (b : Bool) → cond b Neither Neither ≡ Neither
same_both true = refl
same_both false = refl

neither_stays : (a : Values) (c : List Lit) → fold (meet a) Neither c ≡ Neither
neither_stays a [] = refl
neither_stays a (l ∷ ls) = ap (λ (s : Standing). fold (meet a) s ls) (same_both (is_false a l)) ∙ neither_stays a ls

same_variable : (k l : Lit) → same_lit k l ≡ true → variable_of k ≡ variable_of l
same_variable k l h = eqb-true _ _ (and_parts (eqb (variable_of k) (variable_of l)) (beq (is_positive k) (is_positive l)) h).0

join_unit : (b : Bool) (i k l : Lit) → same_lit i k ≡ b → ((j : Lit) → cond b (UnitAt i) Neither ≡ UnitAt j → j ≡ l) → (cond b (UnitAt i) Neither ≡ Neither → ⊥) → (variable_of k ≡ variable_of l) × ((j : Lit) → UnitAt i ≡ UnitAt j → j ≡ l)
join_unit true i k l e f g = (sym (same_variable i k e) ∙ ap variable_of (f i refl), λ j h. f j h)
join_unit false i k l e f g = absurd (g refl)

falsified_unit : (b : Bool) (i : Lit) → cond b (UnitAt i) Neither ≡ Falsified → ⊥
falsified_unit true i h = cc
falsified_unit false i h = cc

-- what joining an open literal k to s says, if the result can only be Unit l
join_step : (s : Standing) (k l : Lit) → ((j : Lit) → joined s k ≡ UnitAt j → j ≡ l) → (joined s k ≡ Neither → ⊥) → (variable_of k ≡ variable_of l) × ((j : Lit) → s ≡ UnitAt j → j ≡ l)
join_step Falsified k l f g = (ap variable_of (f k refl), λ j e. absurd cc)
join_step (UnitAt i) k l f g = join_unit (same_lit i k) i k l refl f g
join_step Neither k l f g = absurd (g refl)

unit_step : (a : Values) (s : Standing) (k : Lit) (ks : List Lit) (l : Lit) (b : Bool) → is_false a k ≡ b → fold (meet a) (cond b s (joined s k)) ks ≡ UnitAt l → Each (λ i. (is_false a i ≡ true) ⊎ (variable_of i ≡ variable_of l)) ks × ((j : Lit) → cond b s (joined s k) ≡ UnitAt j → j ≡ l) → Each (λ i. (is_false a i ≡ true) ⊎ (variable_of i ≡ variable_of l)) (k ∷ ks) × ((j : Lit) → s ≡ UnitAt j → j ≡ l)
unit_step a s k ks l true e h r = ((inl e, r.0), r.1)
unit_step a s k ks l false e h r =
    let p = join_step s k l r.1 (λ n. let m : Neither ≡ UnitAt l = sym (ap (λ (t : Standing). fold (meet a) t ks) n ∙ neither_stays a ks) ∙ h in cc) in
    ((inr p.0, r.0), p.1)

falsified_join : (s : Standing) (k : Lit) → joined s k ≡ Falsified → ⊥
falsified_join Falsified k h = cc
falsified_join (UnitAt i) k h = falsified_unit (same_lit i k) i h
falsified_join Neither k h = cc

falsified_step : (a : Values) (s : Standing) (k : Lit) (ks : List Lit) (b : Bool) → is_false a k ≡ b → Each (λ i. is_false a i ≡ true) ks × (cond b s (joined s k) ≡ Falsified) → Each (λ i. is_false a i ≡ true) (k ∷ ks) × (s ≡ Falsified)
falsified_step a s k ks true e r = ((e, r.0), r.1)
falsified_step a s k ks false e r = absurd (falsified_join s k r.1)

-- the literals that are not false are of the variable of the unit literal
pub standing_unit : (a : Values) (s : Standing) (c : List Lit) (l : Lit) → fold (meet a) s c ≡ UnitAt l → Each (λ k. (is_false a k ≡ true) ⊎ (variable_of k ≡ variable_of l)) c × ((j : Lit) → s ≡ UnitAt j → j ≡ l)
standing_unit a s [] l h = (tt, λ j e. let same : UnitAt j ≡ UnitAt l = sym e ∙ h in cc)
standing_unit a s (k ∷ ks) l h = unit_step a s k ks l (is_false a k) refl h (standing_unit a (meet a s k) ks l h)

pub standing_falsified : (a : Values) (s : Standing) (c : List Lit) → fold (meet a) s c ≡ Falsified → Each (λ k. is_false a k ≡ true) c × (s ≡ Falsified)
standing_falsified a s [] h = (tt, h)
standing_falsified a s (k ∷ ks) h = falsified_step a s k ks (is_false a k) refl (standing_falsified a (meet a s k) ks h)
