-- No hints lead from within closed values to a falsified clause.
use Rattle.std.proofs.Common.{◌≡◌, ℕ, ◌-◌, Bool, true, false, cond, eqb, List, [], ◌∷◌, refl, sym, ap, subst, ◌∙◌, Option, Some, None, inl, inr, ◌⊎◌, slice_get, ℤ, pos, negsuc, zero, suc}
use Rattle.std.specs.List.{fold}
use Rattle.std.proofs.lemmas.Bool.{eqb-true, and_parts, false≢true, cond-true}
use mathlib.Core.Bool.{beq}
use Rattle.cnf_core.specs.declared.lit.Lit.{Lit}
use Rattle.cnf_core.specs.declared.standing.Standing.{Standing}
use Rattle.cnf_core.specs.declared.standing.Standing.TheVariants.{Falsified, Unit as UnitAt, Neither}
use Rattle.cnf_core.specs.Lit.{variable_of, is_positive}
use Rattle.cnf_core.specs.Values.{Values, make_true, denies, grants, is_false, is_true, same_lit, joined, meet, standing_of}
use Rattle.cnf_core.specs.Accepted.{numbered, named, Walk, after, hinted, hint, ends_falsified, closes}
use Rattle.cnf_core.specs.Closed.{is_quiet, IsClosed}

pub record Within (b a : Values) : Type 0 where
  pub at : (x : ℕ) (v : Bool) → b x ≡ Some v → a x ≡ Some v

denies_more : (p : Bool) (o q : Option Bool) → ((v : Bool) → o ≡ Some v → q ≡ Some v) → denies p o ≡ true → denies p q ≡ true
denies_more p None q h t = absurd (false≢true t)
denies_more p (Some v) q h t = ap (denies p) (h v refl) ∙ t

is_false_more : (b a : Values) (l : Lit) → Within b a → is_false b l ≡ true → is_false a l ≡ true
is_false_more b a l w t = denies_more (is_positive l) (b (variable_of l)) (a (variable_of l)) (w.at (variable_of l)) t

beq_true : (p q : Bool) → beq p q ≡ true → p ≡ q
beq_true true true h = refl
beq_true true false h = absurd cc
beq_true false true h = absurd cc
beq_true false false h = refl

same_false : (a : Values) (k l : Lit) → same_lit k l ≡ true → is_false a k ≡ true → is_false a l ≡ true
same_false a k l e t =
    let p = and_parts (eqb (variable_of k) (variable_of l)) (beq (is_positive k) (is_positive l)) e in
    ap (λ (x : ℕ). denies (is_positive l) (a x)) (sym (eqb-true _ _ p.0)) ∙ ap (λ (q : Bool). denies q (a (variable_of k))) (sym (beq_true _ _ p.1)) ∙ t

-- the standing under fewer values, and under more
abbrev Shrinks : Values → Standing → Standing → Type 0
Shrinks a Falsified t = t ≡ Falsified
Shrinks a (UnitAt l) t = ((t ≡ Falsified) × (is_false a l ≡ true)) ⊎ (t ≡ UnitAt l)
Shrinks a Neither t = Unit {0}

shrinks_first : (a : Values) (l : Lit) (t : Standing) (q : Bool) → is_false a l ≡ q → t ≡ Falsified → Shrinks a (UnitAt l) (cond q t (joined t l))
shrinks_first a l t true e h = inl (h, e)
shrinks_first a l t false e h = inr (ap (λ (s : Standing). joined s l) h)

shrinks_unit : (a : Values) (k l : Lit) (t : Standing) (q : Bool) → is_false a l ≡ q → same_lit k l ≡ true → Shrinks a (UnitAt k) t → Shrinks a (UnitAt k) (cond q t (joined t l))
shrinks_unit a k l t true e same h = h
shrinks_unit a k l t false e same (inl p) = absurd (false≢true (sym e ∙ same_false a k l same p.1))
shrinks_unit a k l t false e same (inr p) = inr (ap (λ (s : Standing). joined s l) p ∙ cond-true (same_lit k l) (UnitAt k) Neither same)

shrinks_same : (a : Values) (k l : Lit) (t : Standing) (r : Bool) → same_lit k l ≡ r → Shrinks a (UnitAt k) t → Shrinks a (cond r (UnitAt k) Neither) (cond (is_false a l) t (joined t l))
shrinks_same a k l t true e h = shrinks_unit a k l t (is_false a l) refl e h
shrinks_same a k l t false e h = tt

shrinks_joined : (a : Values) (s t : Standing) (l : Lit) → Shrinks a s t → Shrinks a (joined s l) (meet a t l)
shrinks_joined a Falsified t l h = shrinks_first a l t (is_false a l) refl h
shrinks_joined a (UnitAt k) t l h = shrinks_same a k l t (same_lit k l) refl h
shrinks_joined a Neither t l h = tt

shrinks_by : (a : Values) (s t : Standing) (l : Lit) (q : Bool) → (q ≡ true → is_false a l ≡ true) → Shrinks a s t → Shrinks a (cond q s (joined s l)) (meet a t l)
shrinks_by a s t l true f h = subst (Shrinks a s) (sym (cond-true (is_false a l) t (joined t l) (f refl))) h
shrinks_by a s t l false f h = shrinks_joined a s t l h

shrinks_fold : (b a : Values) (s t : Standing) (c : List Lit) → Within b a → Shrinks a s t → Shrinks a (fold (meet b) s c) (fold (meet a) t c)
shrinks_fold b a s t [] w h = h
shrinks_fold b a s t (l ∷ ls) w h = shrinks_fold b a (meet b s l) (meet a t l) ls w (shrinks_by a s t l (is_false b l) (is_false_more b a l w) h)

grants_some : (p : Bool) (o : Option Bool) → grants p o ≡ true → o ≡ Some p
grants_some p None h = absurd (false≢true h)
grants_some p (Some v) h = ap Some (beq_true v p h)

make_true_at : (a : Values) (e : Bool) (v p : Bool) (o q : Option Bool) → (e ≡ true → q ≡ Some p) → (o ≡ Some v → q ≡ Some v) → cond e (Some p) o ≡ Some v → q ≡ Some v
make_true_at a true v p o q here rest is = here refl ∙ is
make_true_at a false v p o q here rest is = rest is

within_true : (b a : Values) (l : Lit) → Within b a → is_true a l ≡ true → Within (make_true b l) a
within_true b a l w t = record {
  at = λ x v is.
      make_true_at a (eqb x (variable_of l)) v (is_positive l) (b x) (a x) (λ e. ap a (eqb-true _ _ e) ∙ grants_some (is_positive l) (a (variable_of l)) t) (w.at x v) is;
}

-- a walk that stays within a, and is not at a falsified clause
abbrev Stays : Values → Option Walk → Type 0
Stays a None = Unit {0}
Stays a (Some w) = Within w.0 a × (w.1 ≡ false)

quiet_at : (a : Values) (t : Standing) (l : Lit) → is_quiet a t ≡ true → ((t ≡ Falsified) × (is_false a l ≡ true)) ⊎ (t ≡ UnitAt l) → is_true a l ≡ true
quiet_at a t l q (inl p) = absurd (false≢true (sym (ap (is_quiet a) p.0) ∙ q))
quiet_at a t l q (inr p) = sym (ap (is_quiet a) p) ∙ q

stays_after : (b a : Values) (s t : Standing) → Within b a → Shrinks a s t → is_quiet a t ≡ true → Stays a (after b s)
stays_after b a Falsified t w h q = absurd (false≢true (sym (ap (is_quiet a) h) ∙ q))
stays_after b a (UnitAt l) t w h q = (within_true b a l w (quiet_at a t l q h), refl)
stays_after b a Neither t w h q = tt

closed_at : (a : Values) (cs : List (List Lit)) (k : ℕ) (c : List Lit) → IsClosed a cs → slice_get cs k ≡ Some c → is_quiet a (standing_of a c) ≡ true
closed_at a [] k c h e = absurd cc
closed_at a (d ∷ ds) zero c h e = let same : d ≡ c = cc in ap (λ (x : List Lit). is_quiet a (standing_of a x)) (sym same) ∙ h.0
closed_at a (d ∷ ds) (suc k) c h e = closed_at a ds k c h.1 e

stays_hinted : (b a : Values) (o : Option (List Lit)) → ((c : List Lit) → o ≡ Some c → is_quiet a (standing_of a c) ≡ true) → Within b a → Stays a (hinted b o)
stays_hinted b a None f w = tt
stays_hinted b a (Some c) f w = stays_after b a (standing_of b c) (standing_of a c) w (shrinks_fold b a Falsified Falsified c w refl) (f c refl)

some_of : (b : Bool) (o : Option (List Lit)) (c : List Lit) → cond b None o ≡ Some c → o ≡ Some c
some_of true o c e = absurd cc
some_of false o c e = e

named_quiet : (a : Values) (cs : List (List Lit)) (h : ℤ) (c : List Lit) → IsClosed a cs → named (numbered cs) h ≡ Some c → is_quiet a (standing_of a c) ≡ true
named_quiet a cs (pos n) c closed e = closed_at a cs (n - 1) c closed (some_of (eqb n 0) (slice_get cs (n - 1)) c e)
named_quiet a cs (negsuc n) c closed e = absurd cc

stays_fold : (a : Values) (cs : List (List Lit)) (o : Option Walk) (hs : List ℤ) → IsClosed a cs → Stays a o → Stays a (fold (hint (numbered cs)) o hs)
stays_fold a cs o [] closed h = h
stays_fold a cs None (k ∷ hs) closed h = stays_fold a cs None hs closed tt
stays_fold a cs (Some w) (k ∷ hs) closed h =
    stays_fold a cs (hinted w.0 (named (numbered cs) k)) hs closed (stays_hinted w.0 a (named (numbered cs) k) (λ c. named_quiet a cs k c closed) h.0)

stays_open : (a : Values) (o : Option Walk) → Stays a o → ends_falsified o ≡ true → ⊥
stays_open a None h t = false≢true t
stays_open a (Some w) h t = false≢true (sym h.1 ∙ t)

-- a clause that hints refute is not false under closed values
pub closed_not_refuted : (a s : Values) (cs : List (List Lit)) (hs : List ℤ) → IsClosed a cs → Within s a → closes (numbered cs) s hs ≡ true → ⊥
closed_not_refuted a s cs hs closed w t = stays_open a _ (stays_fold a cs (Some (s, false)) hs closed (w, refl)) t
