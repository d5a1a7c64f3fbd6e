-- The words of a line say the step that is read of them.
use Rattle.std.proofs.Common.{◌≡◌, ◌<◌, ◌≤◌, ◌^◌, ℕ, zero, suc, ℤ, pos, negsuc, Bool, true, false, cond, eqb, List, [], ◌∷◌, ◌++◌, Option, Some, None, arith, refl, sym, ap, ◌∙◌, subst}
use Rattle.std.specs.Prelude.{codes}
use Rattle.std.specs.Str.{bytes_eq}
use Rattle.std.specs.Int.RustNames.{unsigned_abs}
use Rattle.std.proofs.lemmas.Bool.{cond-true, cond-false, ne_eqb}
use Rattle.cnf_core.specs.declared.formula.Step.{Step}
use Rattle.cnf_core.specs.declared.formula.Step.TheVariants.{Add, Delete}
use Rattle.cnf_core.specs.Numbers.{number_below, integer_below}
use Rattle.cnf_core.specs.Dimacs.{if_some}
use Rattle.lrat_checker.specs.Lrat.{Found, onto_found, go_on, until_zero, nothing_behind, ended, all_positive, deletion, with_hints, addition, after_id, id_of, step_of}
use Rattle.text_laws.specs.Numerals.{IsDecimal, SaysInteger, SaysNonzero, SayAll, EndAtZero}
use Rattle.text_laws.proofs.NumeralLaws.{decimal_from, decimal_to, integer_from, integer_to, not_d, same_bytes}
use Rattle.log_laws.specs.Spelled.{IsId, SayStep}

-- numbers up to a 0

abbrev found : List ℤ → List (List ℕ) → Found
found zs ws = record { numbers = zs; behind = ws }

goes_on : (z : ℤ) (ws : List (List ℕ)) (zs : List ℤ) (behind : List (List ℕ)) (o : Option Found) → 1 ≤ unsigned_abs z → o ≡ Some (found zs behind) → go_on z ws o ≡ Some (found (z ∷ zs) behind)
goes_on (pos zero) ws zs behind o h e = absurd (omega arith)
goes_on (pos (suc n)) ws zs behind o h e = ap (onto_found (pos (suc n))) e
goes_on (negsuc n) ws zs behind o h e = ap (onto_found (negsuc n)) e

numbers_to : (bound : ℕ) (front : List (List ℕ)) (zs : List ℤ) (last : List ℕ) (behind : List (List ℕ)) → 0 < bound → SayAll bound front zs → IsDecimal last 0 → until_zero bound (front ++ last ∷ behind) ≡ Some (found zs behind)
numbers_to bound [] [] last behind full h d = ap (λ (o : Option ℤ). if_some o None (λ z. go_on z behind (until_zero bound behind))) (integer_to bound last (pos 0) d full)
numbers_to bound [] (z ∷ zs) last behind full h d = absurd h
numbers_to bound (w ∷ front) [] last behind full h d = absurd h
numbers_to bound (w ∷ front) (z ∷ zs) last behind full h d =
    let s = h.0 in
    let rest = front ++ last ∷ behind in
    ap (λ (o : Option ℤ). if_some o None (λ y. go_on y rest (until_zero bound rest))) (integer_to bound w z s.says s.small)
    ∙ goes_on z rest zs behind (until_zero bound rest) s.nonzero (numbers_to bound front zs last behind full h.1 d)

zero_to : (bound : ℕ) (ws : List (List ℕ)) (zs : List ℤ) (behind : List (List ℕ)) → 0 < bound → EndAtZero bound ws zs behind → until_zero bound ws ≡ Some (found zs behind)
zero_to bound ws zs behind full h = ap (until_zero bound) h.are ∙ numbers_to bound h.front zs h.zero behind full h.say h.ends

one_more : (bound : ℕ) (z : ℤ) (w : List ℕ) (ws : List (List ℕ)) (o : Option Found) (f : Found) → SaysNonzero bound w z → ((g : Found) → o ≡ Some g → EndAtZero bound ws g.numbers g.behind) → onto_found z o ≡ Some f → EndAtZero bound (w ∷ ws) f.numbers f.behind
one_more bound z w ws None f s rest e = absurd cc
one_more bound z w ws (Some g) f s rest e =
    let same : found (z ∷ g.numbers) g.behind ≡ f = cc in
    let t = rest g refl in
    subst (λ (x : Found). EndAtZero bound (w ∷ ws) x.numbers x.behind) same
    (record { front = w ∷ t.front; zero = t.zero; are = ap (λ (xs : List (List ℕ)). w ∷ xs) t.are; say = (s, t.say); ends = t.ends })

zero_by : (bound : ℕ) (w : List ℕ) (ws : List (List ℕ)) (z : ℤ) (f : Found) → SaysInteger w z → unsigned_abs z < bound → ((g : Found) → until_zero bound ws ≡ Some g → EndAtZero bound ws g.numbers g.behind) → go_on z ws (until_zero bound ws) ≡ Some f → EndAtZero bound (w ∷ ws) f.numbers f.behind
zero_by bound w ws (pos zero) f s small rest e =
    let same : found [] ws ≡ f = cc in
    subst (λ (x : Found). EndAtZero bound (w ∷ ws) x.numbers x.behind) same (record { front = []; zero = w; are = refl; say = tt; ends = s })
zero_by bound w ws (pos (suc n)) f s small rest e = one_more bound (pos (suc n)) w ws (until_zero bound ws) f (record { says = s; nonzero = omega arith; small = small }) rest e
zero_by bound w ws (negsuc n) f s small rest e = one_more bound (negsuc n) w ws (until_zero bound ws) f (record { says = s; nonzero = omega arith; small = small }) rest e

zero_at : (bound : ℕ) (w : List ℕ) (ws : List (List ℕ)) (o : Option ℤ) (f : Found) → integer_below bound w ≡ o → ((g : Found) → until_zero bound ws ≡ Some g → EndAtZero bound ws g.numbers g.behind) → if_some o None (λ z. go_on z ws (until_zero bound ws)) ≡ Some f → EndAtZero bound (w ∷ ws) f.numbers f.behind
zero_at bound w ws None f h rest e = absurd cc
zero_at bound w ws (Some z) f h rest e = let s = integer_from bound w z h in zero_by bound w ws z f s.0 s.1 rest e

zero_from : (bound : ℕ) (ws : List (List ℕ)) (f : Found) → until_zero bound ws ≡ Some f → EndAtZero bound ws f.numbers f.behind
zero_from bound [] f e = absurd cc
zero_from bound (w ∷ ws) f e = zero_at bound w ws (integer_below bound w) f refl (λ g h. zero_from bound ws g h) e

nothing_from : (zs ys : List ℤ) (ws : List (List ℕ)) → nothing_behind zs ws ≡ Some ys → (zs ≡ ys) × (ws ≡ [])
nothing_from zs ys [] e = (cc, refl)
nothing_from zs ys (w ∷ ws) e = absurd cc

last_by : (bound : ℕ) (ws : List (List ℕ)) (o : Option Found) (ys : List ℤ) → until_zero bound ws ≡ o → ended o ≡ Some ys → EndAtZero bound ws ys []
last_by bound ws None ys h e = absurd cc
last_by bound ws (Some f) ys h e =
    let n = nothing_from f.numbers ys f.behind e in
    subst (λ (zs : List ℤ). EndAtZero bound ws zs []) n.0 (subst (λ (b : List (List ℕ)). EndAtZero bound ws f.numbers b) n.1 (zero_from bound ws f h))

last_from : (bound : ℕ) (ws : List (List ℕ)) (ys : List ℤ) → ended (until_zero bound ws) ≡ Some ys → EndAtZero bound ws ys []
last_from bound ws ys e = last_by bound ws (until_zero bound ws) ys refl e

last_to : (bound : ℕ) (ws : List (List ℕ)) (ys : List ℤ) → 0 < bound → EndAtZero bound ws ys [] → ended (until_zero bound ws) ≡ Some ys
last_to bound ws ys full h = ap ended (zero_to bound ws ys [] full h)

-- ids

not_none : (n : ℕ) → eqb n 0 ≡ false → 1 ≤ n
not_none zero t = absurd cc
not_none (suc n) t = omega arith

by_zero : (w : List ℕ) (n id : ℕ) (b : Bool) → eqb n 0 ≡ b → number_below (2 ^ 63) w ≡ Some n → cond b None (Some n) ≡ Some id → IsId w id
by_zero w n id true t h e = absurd cc
by_zero w n id false t h e =
    let same : n ≡ id = cc in
    let d = decimal_from (2 ^ 63) w n h in
    let small = d.1 in
    subst (IsId w) same (record { says = d.0; above = not_none n t; small = small })

id_by : (w : List ℕ) (o : Option ℕ) (id : ℕ) → number_below (2 ^ 63) w ≡ o → if_some o None (λ n. cond (eqb n 0) None (Some n)) ≡ Some id → IsId w id
id_by w None id h e = absurd cc
id_by w (Some n) id h e = by_zero w n id (eqb n 0) refl h e

id_from : (w : List ℕ) (id : ℕ) → id_of w ≡ Some id → IsId w id
id_from w id e = id_by w (number_below (2 ^ 63) w) id refl e

id_to : (w : List ℕ) (id : ℕ) → IsId w id → id_of w ≡ Some id
id_to w id h =
    let above = h.above in
    ap (λ (o : Option ℕ). if_some o None (λ n. cond (eqb n 0) None (Some n))) (decimal_to (2 ^ 63) w id h.says h.small)
    ∙ cond-false (eqb id 0) None (Some id) (ne_eqb id 0 (λ e. omega (arith, above, e)))

-- steps

by_sign : (w : List ℕ) (id : ℕ) (ws : List (List ℕ)) (ids : List ℤ) (s : Step) (b : Bool) → IsId w id → all_positive ids ≡ b → ended (until_zero (2 ^ 63) ws) ≡ Some ids → cond b (Some (Delete ids)) None ≡ Some s → SayStep (w ∷ codes "d" ∷ ws) s
by_sign w id ws ids s false i p h e = absurd cc
by_sign w id ws ids s true i p h e =
    let same : Delete ids ≡ s = cc in
    subst (SayStep (w ∷ codes "d" ∷ ws)) same (record { first = w; id = id; rest = ws; are = refl; id_said = i; ids_said = last_from (2 ^ 63) ws ids h; positive = p })

deletion_by : (w : List ℕ) (id : ℕ) (ws : List (List ℕ)) (o : Option (List ℤ)) (s : Step) → IsId w id → ended (until_zero (2 ^ 63) ws) ≡ o → deletion o ≡ Some s → SayStep (w ∷ codes "d" ∷ ws) s
deletion_by w id ws None s i h e = absurd cc
deletion_by w id ws (Some ids) s i h e = by_sign w id ws ids s (all_positive ids) i refl h e

hints_by : (w : List ℕ) (id : ℕ) (ws : List (List ℕ)) (f : Found) (o : Option (List ℤ)) (s : Step) → IsId w id → EndAtZero (2 ^ 30) ws f.numbers f.behind → ended (until_zero (2 ^ 63) f.behind) ≡ o → with_hints id f.numbers o ≡ Some s → SayStep (w ∷ ws) s
hints_by w id ws f None s i l h e = absurd cc
hints_by w id ws f (Some hints) s i l h e =
    let same : Add id f.numbers hints ≡ s = cc in
    subst (SayStep (w ∷ ws)) same (record { first = w; rest = ws; behind = f.behind; are = refl; id_said = i; lits_said = l; hints_said = last_from (2 ^ 63) f.behind hints h })

addition_by : (w : List ℕ) (id : ℕ) (ws : List (List ℕ)) (o : Option Found) (s : Step) → IsId w id → until_zero (2 ^ 30) ws ≡ o → addition id o ≡ Some s → SayStep (w ∷ ws) s
addition_by w id ws None s i h e = absurd cc
addition_by w id ws (Some f) s i h e = hints_by w id ws f (ended (until_zero (2 ^ 63) f.behind)) s i (zero_from (2 ^ 30) ws f h) refl e

kind_by : (w : List ℕ) (id : ℕ) (v : List ℕ) (ws : List (List ℕ)) (t : Bool) (s : Step) → IsId w id → bytes_eq v (codes "d") ≡ t → cond t (deletion (ended (until_zero (2 ^ 63) ws))) (addition id (until_zero (2 ^ 30) (v ∷ ws))) ≡ Some s → SayStep (w ∷ v ∷ ws) s
kind_by w id v ws true s i h e =
    subst (λ (x : List ℕ). SayStep (w ∷ x ∷ ws) s) (sym (same_bytes v (codes "d") h)) (deletion_by w id ws (ended (until_zero (2 ^ 63) ws)) s i refl e)
kind_by w id v ws false s i h e = addition_by w id (v ∷ ws) (until_zero (2 ^ 30) (v ∷ ws)) s i refl e

rest_by : (w : List ℕ) (id : ℕ) (ws : List (List ℕ)) (s : Step) → IsId w id → after_id id ws ≡ Some s → SayStep (w ∷ ws) s
rest_by w id [] s i e = absurd cc
rest_by w id (v ∷ ws) s i e = kind_by w id v ws (bytes_eq v (codes "d")) s i refl e

first_by : (w : List ℕ) (ws : List (List ℕ)) (o : Option ℕ) (s : Step) → id_of w ≡ o → if_some o None (λ id. after_id id ws) ≡ Some s → SayStep (w ∷ ws) s
first_by w ws None s h e = absurd cc
first_by w ws (Some id) s h e = rest_by w id ws s (id_from w id h) e

pub step_from : (ws : List (List ℕ)) (s : Step) → step_of ws ≡ Some s → SayStep ws s
step_from [] s e = absurd cc
step_from (w ∷ ws) s e = first_by w ws (id_of w) s refl e

-- numbers up to a 0 do not begin with the word `d`
number_first : (front : List (List ℕ)) (bound : ℕ) (zs : List ℤ) (last : List ℕ) (behind : List (List ℕ)) (id : ℕ) → SayAll bound front zs → IsDecimal last 0 → after_id id (front ++ last ∷ behind) ≡ addition id (until_zero (2 ^ 30) (front ++ last ∷ behind))
number_first [] bound zs last behind id h d =
    cond-false (bytes_eq last (codes "d")) (deletion (ended (until_zero (2 ^ 63) behind))) (addition id (until_zero (2 ^ 30) (last ∷ behind))) (not_d last (pos 0) d)
number_first (w ∷ front) bound [] last behind id h d = absurd h
number_first (w ∷ front) bound (z ∷ zs) last behind id h d =
    let s = h.0 in
    cond-false (bytes_eq w (codes "d")) (deletion (ended (until_zero (2 ^ 63) (front ++ last ∷ behind)))) (addition id (until_zero (2 ^ 30) (w ∷ (front ++ last ∷ behind)))) (not_d w z s.says)

pub step_to : (ws : List (List ℕ)) (s : Step) → SayStep ws s → step_of ws ≡ Some s
step_to ws (Add id lits hints) h =
    let l = h.lits_said in
    ap step_of h.are
    ∙ ap (λ (o : Option ℕ). if_some o None (λ i. after_id i h.rest)) (id_to h.first id h.id_said)
    ∙ ap (after_id id) l.are ∙ number_first l.front (2 ^ 30) lits l.zero h.behind id l.say l.ends ∙ ap (λ (xs : List (List ℕ)). addition id (until_zero (2 ^ 30) xs)) (sym l.are)
    ∙ ap (addition id) (zero_to (2 ^ 30) h.rest lits h.behind (omega arith) l)
    ∙ ap (with_hints id lits) (last_to (2 ^ 63) h.behind hints (omega arith) h.hints_said)
step_to ws (Delete ids) h =
    ap step_of h.are
    ∙ ap (λ (o : Option ℕ). if_some o None (λ i. after_id i (codes "d" ∷ h.rest))) (id_to h.first h.id h.id_said)
    ∙ ap deletion (last_to (2 ^ 63) h.rest ids (omega arith) h.ids_said)
    ∙ cond-true (all_positive ids) (Some (Delete ids)) None h.positive
