-- Where marks stand on a trail.
use Rattle.std.proofs.Common.{◌≡◌, ℕ, ◌+◌, ◌<◌, ◌≤◌, Bool, true, eqb, ◌||◌, List, [], ◌∷◌, ◌++◌, refl, sym, ap, subst, ◌∙◌, Option, Some, None, inl, inr, ◌⊎◌, get_or, set, take, drop, length, reverse, pos, zero, suc, arith, All, length-append, get_or-set_other}
use Rattle.std.specs.Option.{option_to_list}
use Rattle.std.proofs.lemmas.Bool.{cases_eq, cases_lt, false≢true, ne_eqb, eq-eqb, or_left, or_right}
use Rattle.std.proofs.lemmas.Grind.{get_or-set_at, take_at_read}
use Rattle.std.proofs.lemmas.List.{get_or_append_left, get_or_push, length-set, length-take-le, reverse-append, reverse-reverse, take-append-drop}
use Rattle.std.proofs.lemmas.Option.{get_or_from_slice_get}
use Rattle.cnf_core.specs.declared.lit.Lit.{Lit}
use Rattle.cnf_core.specs.declared.standing.Standing.TheVariants.{Falsified}
use Rattle.cnf_core.specs.Learned.{Each}
use Rattle.cnf_core.specs.Lit.{variable_of, is_positive}
use Rattle.cnf_core.specs.Values.{denies, is_false, standing_of}
use Rattle.sat_core.specs.declared.trail.Mark.{Mark}
use Rattle.sat_core.specs.Places.{StandsAt, HasMark, Placed, ArePlaces, RestBelow}
use Rattle.sat_core.specs.Rests.{has_variable}
use Rattle.sat_core.specs.Trail.{assigned, AreFresh, IsForced, Reason, IsTrail}
use Rattle.sat_core.proofs.CutLaws.{back_split}
use Rattle.sat_core.proofs.HeldLaws.{newest}
use Rattle.sat_core.proofs.RestLaws.{none_before, some_none}
use Rattle.sat_core.proofs.StandingLaws.{give_other, standing_unit, standing_falsified}

pub no_mark : Mark
no_mark = record { lit = pos 1; reason = 0 }

pub any_default : {A : Type 0} (xs : List A) (k : ℕ) (d e : A) → k < length xs → get_or xs k d ≡ get_or xs k e
any_default [] k d e h = absurd (omega arith)
any_default (x ∷ xs) zero d e h = refl
any_default (x ∷ xs) (suc k) d e h = any_default xs k d e (omega arith)

pub stands_by : (marks : List Mark) (k x : ℕ) (d : Mark) → k < length marks → variable_of (get_or marks k d).lit ≡ x → StandsAt marks k x
stands_by marks k x d lt e = record { within = lt; of = λ c. ap (λ (m : Mark). variable_of m.lit) (any_default marks k c d lt) ∙ e }

pub stands_here : (marks : List Mark) (k : ℕ) (d : Mark) → k < length marks → StandsAt marks k (variable_of (get_or marks k d).lit)
stands_here marks k d lt = stands_by marks k (variable_of (get_or marks k d).lit) d lt refl

pub stands_front : (xs ys : List Mark) (k x : ℕ) → StandsAt xs k x → StandsAt (xs ++ ys) k x
stands_front xs ys k x s = record {
  within = let lt = s.within in omega (arith, length-append xs ys);
  of = λ d. ap (λ (m : Mark). variable_of m.lit) (get_or_append_left xs ys d k s.within) ∙ s.of d;
}

pub stands_last : (xs : List Mark) (m : Mark) → StandsAt (xs ++ m ∷ []) (length xs) (variable_of m.lit)
stands_last xs m = record {
  within = omega (arith, length-append xs (m ∷ []));
  of = λ d. ap (λ (n : Mark). variable_of n.lit) (get_or_push xs m d (length xs) refl);
}

pub stands_snoc : (xs : List Mark) (m : Mark) (k x : ℕ) → StandsAt (xs ++ m ∷ []) k x → ((k < length xs) × StandsAt xs k x) ⊎ ((k ≡ length xs) × (x ≡ variable_of m.lit))
stands_snoc xs m k x s = elim (cases_lt k (length xs)) [
  | inl lt ↦ inl (lt, record { within = lt; of = λ d. ap (λ (n : Mark). variable_of n.lit) (sym (get_or_append_left xs (m ∷ []) d k lt)) ∙ s.of d })
  | inr ge ↦
      let e : k ≡ length xs = let lt = s.within in omega (arith, length-append xs (m ∷ [])) in
      inr (e, sym (s.of m) ∙ ap (λ (n : Mark). variable_of n.lit) (get_or_push xs m m k (sym e)))
]

pub stands_take : (xs : List Mark) (q k x : ℕ) → k < q → q ≤ length xs → StandsAt xs k x → StandsAt (take q xs) k x
stands_take xs q k x lt le s =
    let room : k < length (take q xs) = omega (arith, length-take-le q xs le) in
    record {
      within = room;
      of = λ d.
          ap (λ (n : Mark). variable_of n.lit) (sym (get_or_append_left (take q xs) (drop q xs) d k room) ∙ ap (λ (ys : List Mark). get_or ys k d) (take-append-drop q xs))
          ∙ s.of d;
    }

newest_last : (m : Mark) (ms : List Mark) → reverse (m ∷ ms) ≡ reverse ms ++ m ∷ []
newest_last m ms = reverse-append (m ∷ []) ms

pub stands_given : (tr : List Mark) (j x : ℕ) → StandsAt (reverse tr) j x → assigned tr x ≡ None → ⊥
stands_given [] j x s e = let lt = s.within in omega arith
stands_given (m ∷ ms) j x s e =
    let p = none_before (assigned ms) m.lit x e in
    elim (stands_snoc (reverse ms) m j x (subst (λ (l : List Mark). StandsAt l j x) (newest_last m ms) s)) [
      | inl h ↦ stands_given ms j x h.1 p.1
      | inr h ↦ p.0 h.1
    ]

has_snoc : (m : Mark) (ms : List Mark) (x : ℕ) → (x ≡ variable_of m.lit) ⊎ HasMark (reverse ms) x → HasMark (reverse ms ++ m ∷ []) x
has_snoc m ms x (inl e) = record { place = length (reverse ms); there = subst (StandsAt (reverse ms ++ m ∷ []) (length (reverse ms))) (sym e) (stands_last (reverse ms) m) }
has_snoc m ms x (inr r) = record { place = r.place; there = stands_front (reverse ms) (m ∷ []) r.place x r.there }

pub assigned_stands : (tr : List Mark) (x : ℕ) → (assigned tr x ≡ None → ⊥) → HasMark (reverse tr) x
assigned_stands [] x h = absurd (h refl)
assigned_stands (m ∷ ms) x h =
    subst (λ (l : List Mark). HasMark l x) (sym (newest_last m ms))
    (has_snoc m ms x (elim (cases_eq x (variable_of m.lit)) [
      | inl e ↦ inl e
      | inr ne ↦ inr (assigned_stands ms x (λ g. h (give_other (assigned ms) x (variable_of m.lit) (is_positive m.lit) ne ∙ g)))
    ]))

pub given_first : (marks : List Mark) (q x : ℕ) → q ≤ length marks → (assigned (reverse (take q marks)) x ≡ None → ⊥) → (j : ℕ) × (j < q) × StandsAt marks j x
given_first marks q x le h =
    let r = assigned_stands (reverse (take q marks)) x h in
    let s : StandsAt (take q marks) r.place x = subst (λ (l : List Mark). StandsAt l r.place x) (reverse-reverse (take q marks)) r.there in
    let lt = s.within in (
      r.place,
      omega (arith, length-take-le q marks le),
      subst (λ (l : List Mark). StandsAt l r.place x) (take-append-drop q marks) (stands_front (take q marks) (drop q marks) r.place x s),
    )

pub marked : (marks : List Mark) (x : ℕ) → (assigned (reverse marks) x ≡ None → ⊥) → HasMark marks x
marked marks x h = subst (λ (l : List Mark). HasMark l x) (reverse-reverse marks) (assigned_stands (reverse marks) x h)

none_by : (o : Option Bool) → ((o ≡ None → ⊥) → ⊥) → o ≡ None
none_by None h = refl
none_by (Some b) h = absurd (h (λ e. some_none b e))

-- a mark's variable had no value before
pub fresh_before : (marks : List Mark) (q x : ℕ) → ((j k y : ℕ) → StandsAt marks j y → StandsAt marks k y → j ≡ k) → StandsAt marks q x → assigned (reverse (take q marks)) x ≡ None
fresh_before marks q x apart s =
    none_by (assigned (reverse (take q marks)) x) (λ h.
    let lt = s.within in
    let g = given_first marks q x (omega arith) h in
    let same = apart g.0 q x g.2 s in
    let less = g.1 in
    omega arith)

each_has : (c : List Lit) (x : ℕ) (P : Lit → Type 0) → Each P c → has_variable c x ≡ true → (l : Lit) × (variable_of l ≡ x) × P l
each_has [] x P h t = absurd (false≢true t)
each_has (l ∷ ls) x P h t = elim (cases_eq (variable_of l) x) [
  | inl e ↦ (l, e, h.0)
  | inr ne ↦ each_has ls x P h.1 (sym (ap (λ (b : Bool). b || has_variable ls x) (ne_eqb (variable_of l) x ne)) ∙ t)
]

trail_part : (cs : List (List Lit)) (leaves : ℕ) (xs ys : List Mark) → IsTrail cs leaves (xs ++ ys) → IsTrail cs leaves ys
trail_part cs leaves [] ys ok = ok
trail_part cs leaves (x ∷ xs) ys ok = trail_part cs leaves xs ys ok.2

-- the mark at a place, when it was put there
module _ (cs : List (List Lit)) (leaves : ℕ) (marks : List Mark) (ok : IsTrail cs leaves (reverse marks)) where
  at_mark : (k : ℕ) (d : Mark) → k < length marks → (assigned (reverse (take k marks)) (variable_of (get_or marks k d).lit) ≡ None) × Reason cs leaves (assigned (reverse (take k marks))) (get_or marks k d).lit (get_or marks k d).reason
  at_mark k d lt =
      let part = trail_part cs leaves (reverse (drop (k + 1) marks)) (reverse (take (k + 1) marks)) (subst (IsTrail cs leaves) (back_split (k + 1) marks) ok) in
      let here = subst (IsTrail cs leaves) (ap reverse (take_at_read marks k d lt).1 ∙ newest (take k marks) (get_or marks k d)) part in
      (here.0, here.1)

  apart_by : (j k x : ℕ) → j < k → StandsAt marks j x → StandsAt marks k x → ⊥
  apart_by j k x lt s t =
      let within = t.within in
      let none : assigned (reverse (take k marks)) x ≡ None = ap (assigned (reverse (take k marks))) (sym (t.of no_mark)) ∙ (at_mark k no_mark within).0 in
      stands_given (reverse (take k marks)) j x
      (subst (λ (l : List Mark). StandsAt l j x) (sym (reverse-reverse (take k marks))) (stands_take marks k j x lt (omega arith) s)) none

  -- a variable has one mark at most
  pub apart_marks : (j k x : ℕ) → StandsAt marks j x → StandsAt marks k x → j ≡ k
  apart_marks j k x s t = elim (cases_lt j k) [
    | inl lt ↦ absurd (apart_by j k x lt s t)
    | inr ge ↦ elim (cases_lt k j) [
      | inl lt ↦ absurd (apart_by k j x lt t s)
      | inr le ↦ omega arith
    ]
  ]

  rest_by : (k r x : ℕ) (l : Lit) → k < length marks → IsForced cs (assigned (reverse (take k marks))) l r → has_variable (get_or cs r []) x ≡ true → (x ≡ variable_of l) ⊎ ((j : ℕ) × (j < k) × StandsAt marks j x)
  rest_by k r x l lt f has =
      let a = assigned (reverse (take k marks)) in
      let read : get_or cs r [] ≡ f.clause = get_or_from_slice_get cs r f.clause [] f.there in
      let e = each_has f.clause x (λ i. (is_false a i ≡ true) ⊎ (variable_of i ≡ variable_of l)) (standing_unit a Falsified f.clause l f.unit).0
      (sym (ap (λ (c : List Lit). has_variable c x) read) ∙ has) in
      elim e.2 [
        | inl t ↦ inr (given_first marks k x (omega arith) (λ h. false≢true (sym (ap (denies (is_positive e.0)) (ap a e.1 ∙ h)) ∙ t)))
        | inr s ↦ inl (sym e.1 ∙ s)
      ]

  pub rest_below : RestBelow cs marks
  rest_below k r d lt reason x has =
      rest_by k r x (get_or marks k d).lit lt (subst (Reason cs leaves (assigned (reverse (take k marks))) (get_or marks k d).lit) reason (at_mark k d lt).1) has

pub has_at : (c : List Lit) (k : ℕ) (d : Lit) → k < length c → has_variable c (variable_of (get_or c k d)) ≡ true
has_at [] k d h = absurd (omega arith)
has_at (l ∷ ls) zero d h = or_left (eqb (variable_of l) (variable_of l)) (has_variable ls (variable_of l)) (eq-eqb (variable_of l) (variable_of l) refl)
has_at (l ∷ ls) (suc k) d h = or_right (eqb (variable_of l) (variable_of (get_or ls k d))) (has_variable ls (variable_of (get_or ls k d))) (has_at ls k d (omega arith))

each_all : (P : Lit → Type 0) (c : List Lit) → Each P c → All P c
each_all P [] h k d lt = absurd (omega arith)
each_all P (l ∷ ls) h zero d lt = h.0
each_all P (l ∷ ls) h (suc k) d lt = each_all P ls h.1 k d (omega arith)

-- the literals of a falsified clause have marks
pub falsified_marked : (marks : List Mark) (c : List Lit) → standing_of (assigned (reverse marks)) c ≡ Falsified → All (λ l. HasMark marks (variable_of l)) c
falsified_marked marks c e k d lt =
    let a = assigned (reverse marks) in
    let t = each_all (λ l. is_false a l ≡ true) c (standing_falsified a Falsified c e).0 k d lt in
    marked marks (variable_of (get_or c k d)) (λ h. false≢true (sym (ap (denies (is_positive (get_or c k d))) h) ∙ t))

rest_marked_by : (marks : List Mark) (k x v : ℕ) → StandsAt marks k v → (x ≡ v) ⊎ ((j : ℕ) × (j < k) × StandsAt marks j x) → HasMark marks x
rest_marked_by marks k x v s (inl e) = record { place = k; there = subst (StandsAt marks k) (sym e) s }
rest_marked_by marks k x v s (inr g) = record { place = g.0; there = g.2 }

-- so do those of a mark's reason
pub rest_marked : (cs : List (List Lit)) (marks : List Mark) (k r : ℕ) (m : Mark) → RestBelow cs marks → k < length marks → m ≡ get_or marks k m → m.reason ≡ suc r → All (λ l. HasMark marks (variable_of l)) (get_or cs r [])
rest_marked cs marks k r m below lt is reason i d within =
    let c : List Lit = get_or cs r [] in
    let x : ℕ = variable_of (get_or c i d) in
    rest_marked_by marks k x (variable_of (get_or marks k m).lit) (stands_here marks k m lt)
    (below k r m lt (ap (λ (n : Mark). n.reason) (sym is) ∙ reason) x (has_at c i d within))

placed_at : (places : List ℕ) (marks : List Mark) (k x : ℕ) (d : Mark) → ArePlaces places marks → StandsAt marks k x → Placed places marks x d
placed_at places marks k x d h s = subst (λ (y : ℕ). Placed places marks y d) (s.of d) (h k d s.within)

-- the place of a variable is that of its mark
pub place_stands : (places : List ℕ) (marks : List Mark) (x : ℕ) → ArePlaces places marks → HasMark marks x → (x < length places) × StandsAt marks (get_or places x 0) x
place_stands places marks x h g =
    let p = placed_at places marks g.place x no_mark h g.there in
    (p.0, stands_by marks (get_or places x 0) x no_mark p.1 p.2)

placed_new : (places : List ℕ) (xs : List Mark) (m : Mark) (x : ℕ) (d : Mark) → variable_of m.lit < length places → x ≡ variable_of m.lit → Placed (set places (variable_of m.lit) (length xs)) (xs ++ m ∷ []) x d
placed_new places xs m x d room e =
    let v = variable_of m.lit in
    let read : get_or (set places v (length xs)) x 0 ≡ length xs = get_or-set_at places v x (length xs) 0 e room in
    let last = stands_last xs m in
    let lt = last.within in (
      omega (arith, length-set places v (length xs)),
      omega (arith, read),
      ap (λ (k : ℕ). variable_of (get_or (xs ++ m ∷ []) k d).lit) read ∙ last.of d ∙ sym e,
    )

placed_old : (old places : List ℕ) (xs : List Mark) (m : Mark) (x : ℕ) (d : Mark) → length old ≤ length places → ((y : ℕ) → y < length old → get_or places y 0 ≡ get_or old y 0) → (x ≡ variable_of m.lit → ⊥) → Placed old xs x d → Placed (set places (variable_of m.lit) (length xs)) (xs ++ m ∷ []) x d
placed_old old places xs m x d more same ne p =
    let v = variable_of m.lit in
    let at : ℕ = get_or old x 0 in
    let lt : x < length old = p.0 in
    let within : at < length xs = p.1 in
    let read : get_or (set places v (length xs)) x 0 ≡ at = get_or-set_other places v x (length xs) 0 ne ∙ same x lt in (
      omega (arith, length-set places v (length xs)),
      omega (arith, read, length-append xs (m ∷ [])),
      ap (λ (k : ℕ). variable_of (get_or (xs ++ m ∷ []) k d).lit) read ∙ ap (λ (n : Mark). variable_of n.lit) (get_or_append_left xs (m ∷ []) d at within) ∙ p.2,
    )

pub places_push : (old places : List ℕ) (xs : List Mark) (m : Mark) → length old ≤ length places → ((y : ℕ) → y < length old → get_or places y 0 ≡ get_or old y 0) → variable_of m.lit < length places → ArePlaces old xs → ArePlaces (set places (variable_of m.lit) (length xs)) (xs ++ m ∷ [])
places_push old places xs m more same room h k d lt =
    let x : ℕ = variable_of (get_or (xs ++ m ∷ []) k d).lit in
    elim (cases_eq x (variable_of m.lit)) [
      | inl e ↦ placed_new places xs m x d room e
      | inr ne ↦ elim (stands_snoc xs m k x (stands_here (xs ++ m ∷ []) k d lt)) [
        | inl s ↦ placed_old old places xs m x d more same ne (placed_at old xs k x d h s.1)
        | inr s ↦ absurd (ne s.1)
      ]
    ]

pub places_pushed : (old places : List ℕ) (xs ys : List Mark) (m : Mark) (v n : ℕ) → v ≡ variable_of m.lit → n ≡ length xs → ys ≡ xs ++ m ∷ [] → length old ≤ length places → ((y : ℕ) → y < length old → get_or places y 0 ≡ get_or old y 0) → variable_of m.lit < length places → ArePlaces old xs → ArePlaces (set places v n) ys
places_pushed old places xs ys m v n ve ne ye more same room h =
    subst (ArePlaces (set places v n)) (sym ye)
    (subst (λ (k : ℕ). ArePlaces (set places v k) (xs ++ m ∷ [])) (sym ne)
    (subst (λ (x : ℕ). ArePlaces (set places x (length xs)) (xs ++ m ∷ [])) (sym ve) (places_push old places xs m more same room h)))

pub places_more : (old places : List ℕ) (xs : List Mark) → length old ≤ length places → ((y : ℕ) → y < length old → get_or places y 0 ≡ get_or old y 0) → ArePlaces old xs → ArePlaces places xs
places_more old places xs more same h k d lt =
    let x : ℕ = variable_of (get_or xs k d).lit in
    let p = h k d lt in
    let within : x < length old = p.0 in
    let at : get_or places x 0 ≡ get_or old x 0 = same x within in
    let lower : get_or old x 0 < length xs = p.1 in (
      omega arith,
      omega arith,
      ap (λ (j : ℕ). variable_of (get_or xs j d).lit) at ∙ p.2,
    )

nil_last : (xs : List Mark) → xs ++ [] ≡ xs
nil_last [] = refl
nil_last (x ∷ xs) = ap (λ (ys : List Mark). x ∷ ys) (nil_last xs)

pub places_pop : (places : List ℕ) (xs : List Mark) (m : Mark) → AreFresh (reverse (xs ++ m ∷ [])) → ArePlaces places (xs ++ m ∷ []) → ArePlaces places xs
places_pop places xs m fresh h k d lt =
    let ys : List Mark = xs ++ m ∷ [] in
    let x : ℕ = variable_of (get_or xs k d).lit in
    let s : StandsAt xs k x = stands_here xs k d lt in
    let p = placed_at places ys k x d h (stands_front xs (m ∷ []) k x s) in
    let f : AreFresh (m ∷ reverse xs) = subst AreFresh (newest xs m) fresh in
    elim (stands_snoc xs m (get_or places x 0) x (stands_by ys (get_or places x 0) x d p.1 p.2)) [
      | inl g ↦ (p.0, g.0, g.1.of d)
      | inr g ↦ absurd (stands_given (reverse xs) k x (subst (λ (l : List Mark). StandsAt l k x) (sym (reverse-reverse xs)) s) (ap (assigned (reverse xs)) g.1 ∙ f.0))
    ]

pub places_popped : (places : List ℕ) (xs ys : List Mark) (o : Option Mark) → xs ≡ ys ++ option_to_list o → AreFresh (reverse xs) → ArePlaces places xs → ArePlaces places ys
places_popped places xs ys None e fresh h = subst (ArePlaces places) (e ∙ nil_last ys) h
places_popped places xs ys (Some m) e fresh h = places_pop places ys m (subst (λ (zs : List Mark). AreFresh (reverse zs)) e fresh) (subst (ArePlaces places) e h)
