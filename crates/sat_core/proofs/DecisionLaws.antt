-- The places of the decisions of a trail.
use Rattle.std.proofs.Common.{◌≡◌, ℕ, ◌+◌, ◌-◌, ◌<◌, ◌≤◌, cond, eqb, List, [], ◌∷◌, ◌++◌, refl, sym, ap, subst, ◌∙◌, inl, inr, get_or, take, drop, length, reverse, arith, length-append, append_assoc}
use Rattle.std.proofs.lemmas.Bool.{cases_eq, eq-eqb, ne_eqb, cond-true, cond-false}
use Rattle.std.proofs.lemmas.Grind.{take_at_read}
use Rattle.std.proofs.lemmas.List.{get_or_at, length-take-le, length-reverse, reverse-append, reverse-reverse, take-append-drop}
use Rattle.cnf_core.specs.Lit.{variable_of}
use Rattle.sat_core.specs.declared.trail.Mark.{Mark}
use Rattle.sat_core.specs.Jump.{jumped}
use Rattle.sat_core.specs.Decisions.{decision_places, AreDecisions}
use Rattle.sat_core.proofs.HeldLaws.{newest}

-- the newest decision of a trail
record Top (x : ℕ) (tr best : List Mark) (p : ℕ) (rest : List ℕ) : Type 0 where
  mark : Mark
  newer : List Mark
  older : List Mark
  is : tr ≡ newer ++ mark ∷ older
  place : length older ≡ p
  decided : mark.reason ≡ 0
  others : decision_places older ≡ rest
  jump : jumped x tr best ≡ cond (eqb (variable_of mark.lit) x) best (jumped x older older)

not_nil : (a : ℕ) (xs : List ℕ) → a ∷ xs ≡ [] → ⊥
not_nil a xs e = absurd cc

first_same : (a b : ℕ) (xs ys : List ℕ) → a ∷ xs ≡ b ∷ ys → (a ≡ b) × (xs ≡ ys)
first_same a b xs ys e = (cc, cc)

pub places_decided : (m : Mark) (ms : List Mark) → m.reason ≡ 0 → decision_places (m ∷ ms) ≡ length ms ∷ decision_places ms
places_decided m ms z = cond-true (eqb m.reason 0) (length ms ∷ decision_places ms) (decision_places ms) (eq-eqb m.reason 0 z)

pub places_forced : (m : Mark) (ms : List Mark) → (m.reason ≡ 0 → ⊥) → decision_places (m ∷ ms) ≡ decision_places ms
places_forced m ms nz = cond-false (eqb m.reason 0) (length ms ∷ decision_places ms) (decision_places ms) (ne_eqb m.reason 0 nz)

top : (x : ℕ) (tr best : List Mark) (p : ℕ) (rest : List ℕ) → decision_places tr ≡ p ∷ rest → Top x tr best p rest
top x [] best p rest e = absurd cc
top x (m ∷ ms) best p rest e = elim (cases_eq m.reason 0) [
  | inl z ↦
      let s = first_same (length ms) p (decision_places ms) rest (sym (places_decided m ms z) ∙ e) in
      record {
        mark = m;
        newer = [];
        older = ms;
        is = refl;
        place = s.0;
        decided = z;
        others = s.1;
        jump = cond-true (eqb m.reason 0) (cond (eqb (variable_of m.lit) x) best (jumped x ms ms)) (jumped x ms best) (eq-eqb m.reason 0 z);
      }
  | inr nz ↦
      let t = top x ms best p rest (sym (places_forced m ms nz) ∙ e) in
      record {
        mark = t.mark;
        newer = m ∷ t.newer;
        older = t.older;
        is = ap (λ (ys : List Mark). m ∷ ys) t.is;
        place = t.place;
        decided = t.decided;
        others = t.others;
        jump = cond-false (eqb m.reason 0) (cond (eqb (variable_of m.lit) x) best (jumped x ms ms)) (jumped x ms best) (ne_eqb m.reason 0 nz) ∙ t.jump;
      }
]

none_step : (x : ℕ) (m : Mark) (ms best : List Mark) → decision_places (m ∷ ms) ≡ [] → (decision_places ms ≡ [] → jumped x ms best ≡ best) → jumped x (m ∷ ms) best ≡ best
none_step x m ms best e rec = elim (cases_eq m.reason 0) [
  | inl z ↦ absurd (not_nil (length ms) (decision_places ms) (sym (places_decided m ms z) ∙ e))
  | inr nz ↦ cond-false (eqb m.reason 0) (cond (eqb (variable_of m.lit) x) best (jumped x ms ms)) (jumped x ms best) (ne_eqb m.reason 0 nz) ∙ rec (sym (places_forced m ms nz) ∙ e)
]

-- with no decision a jump goes nowhere
pub jumped_none : (x : ℕ) (tr best : List Mark) → decision_places tr ≡ [] → jumped x tr best ≡ best
jumped_none x [] best e = refl
jumped_none x (m ∷ ms) best e = none_step x m ms best e (jumped_none x ms best)

-- the newest decision before a place
pub record Cut (x : ℕ) (marks : List Mark) (cut p : ℕ) (rest : List ℕ) : Type 0 where
  pub below : p < cut
  pub within : p < length marks
  pub decided : (d : Mark) → (get_or marks p d).reason ≡ 0
  pub others : decision_places (reverse (take p marks)) ≡ rest
  pub jump : (d : Mark) → jumped x (reverse (take cut marks)) (reverse (take cut marks)) ≡ cond (eqb (variable_of (get_or marks p d).lit) x) (reverse (take cut marks)) (jumped x (reverse (take p marks)) (reverse (take p marks)))

take_front : (xs ys : List Mark) → take (length xs) (xs ++ ys) ≡ xs
take_front [] ys = refl
take_front (x ∷ xs) ys = ap (λ (zs : List Mark). x ∷ zs) (take_front xs ys)

module _ (x : ℕ) (marks : List Mark) (cut p : ℕ) (rest : List ℕ) (le : cut ≤ length marks) (e : decision_places (reverse (take cut marks)) ≡ p ∷ rest) where
  abbrev found : Top x (reverse (take cut marks)) (reverse (take cut marks)) p rest
  found = top x (reverse (take cut marks)) (reverse (take cut marks)) p rest e

  whole : marks ≡ reverse found.older ++ found.mark ∷ (reverse found.newer ++ drop cut marks)
  whole =
      sym (take-append-drop cut marks)
      ∙ ap (λ (ys : List Mark). ys ++ drop cut marks)
      (sym (reverse-reverse (take cut marks)) ∙ ap reverse found.is ∙ reverse-append found.newer (found.mark ∷ found.older)
      ∙ ap (λ (ys : List Mark). ys ++ reverse found.newer) (reverse-append (found.mark ∷ []) found.older))
      ∙ append_assoc (reverse found.older ++ found.mark ∷ []) (reverse found.newer) (drop cut marks)
      ∙ append_assoc (reverse found.older) (found.mark ∷ []) (reverse found.newer ++ drop cut marks)

  place : length (reverse found.older) ≡ p
  place = length-reverse found.older ∙ found.place

  front : take p marks ≡ reverse found.older
  front = ap (take p) whole ∙ ap (λ (n : ℕ). take n (reverse found.older ++ found.mark ∷ (reverse found.newer ++ drop cut marks))) (sym place) ∙ take_front (reverse found.older) (found.mark ∷ (reverse found.newer ++ drop cut marks))

  back : reverse (take p marks) ≡ found.older
  back = ap reverse front ∙ reverse-reverse found.older

  read : (d : Mark) → get_or marks p d ≡ found.mark
  read d = ap (λ (ys : List Mark). get_or ys p d) whole ∙ get_or_at (reverse found.older) found.mark (reverse found.newer ++ drop cut marks) d p place

  size : length (reverse (take cut marks)) ≡ length found.newer + (length found.older + 1)
  size = omega (arith, ap length found.is, length-append found.newer (found.mark ∷ found.older))

  pub cut_at : Cut x marks cut p rest
  cut_at =
      let n : length (take cut marks) ≡ cut = length-take-le cut marks le in
      let s = size in
      let r = length-reverse (take cut marks) in
      let o = found.place in
      record {
        below = omega arith;
        within = omega arith;
        decided = λ d. ap (λ (m : Mark). m.reason) (read d) ∙ found.decided;
        others = ap decision_places back ∙ found.others;
        jump = λ d.
            found.jump
            ∙ ap (λ (m : Mark). cond (eqb (variable_of m.lit) x) (reverse (take cut marks)) (jumped x found.older found.older)) (sym (read d))
            ∙ ap (λ (ys : List Mark). cond (eqb (variable_of (get_or marks p d).lit) x) (reverse (take cut marks)) (jumped x ys ys)) (sym back);
      }

newest_place : (ds : List ℕ) (y : ℕ) → reverse (ds ++ y ∷ []) ≡ y ∷ reverse ds
newest_place ds y = reverse-append ds (y ∷ [])

-- one more mark
pub decisions_push : (ds ds' : List ℕ) (xs : List Mark) (m : Mark) → ds' ≡ cond (eqb m.reason 0) (ds ++ length xs ∷ []) ds → AreDecisions ds xs → AreDecisions ds' (xs ++ m ∷ [])
decisions_push ds ds' xs m e h = elim (cases_eq m.reason 0) [
  | inl z ↦
      ap reverse (e ∙ cond-true (eqb m.reason 0) (ds ++ length xs ∷ []) ds (eq-eqb m.reason 0 z))
      ∙ newest_place ds (length xs)
      ∙ ap (λ (ps : List ℕ). length xs ∷ ps) h
      ∙ ap (λ (n : ℕ). n ∷ decision_places (reverse xs)) (sym (length-reverse xs))
      ∙ sym (places_decided m (reverse xs) z)
      ∙ ap decision_places (sym (newest xs m))
  | inr nz ↦
      ap reverse (e ∙ cond-false (eqb m.reason 0) (ds ++ length xs ∷ []) ds (ne_eqb m.reason 0 nz))
      ∙ h
      ∙ sym (places_forced m (reverse xs) nz)
      ∙ ap decision_places (sym (newest xs m))
]

take_all_front : (xs ys : List ℕ) → take (length xs) (xs ++ ys) ≡ xs
take_all_front [] ys = refl
take_all_front (x ∷ xs) ys = ap (λ (zs : List ℕ). x ∷ zs) (take_all_front xs ys)

last_less : (ds ys : List ℕ) (y : ℕ) → reverse ds ≡ y ∷ ys → reverse (take (length ds - 1) ds) ≡ ys
last_less ds ys y e =
    let whole : ds ≡ reverse ys ++ y ∷ [] = sym (reverse-reverse ds) ∙ ap reverse e ∙ reverse-append (y ∷ []) ys in
    let n : length ds - 1 ≡ length (reverse ys) = omega (arith, ap length whole, length-append (reverse ys) (y ∷ [])) in
    ap reverse (ap (λ (k : ℕ). take k ds) n ∙ ap (take (length (reverse ys))) whole ∙ take_all_front (reverse ys) (y ∷ [])) ∙ reverse-reverse ys

-- the newest mark less
pub decisions_pop : (ds ds' : List ℕ) (xs : List Mark) (m : Mark) → ds' ≡ cond (eqb m.reason 0) (take (length ds - 1) ds) ds → AreDecisions ds (xs ++ m ∷ []) → AreDecisions ds' xs
decisions_pop ds ds' xs m e h =
    let all : reverse ds ≡ decision_places (m ∷ reverse xs) = h ∙ ap decision_places (newest xs m) in
    elim (cases_eq m.reason 0) [
      | inl z ↦
          ap reverse (e ∙ cond-true (eqb m.reason 0) (take (length ds - 1) ds) ds (eq-eqb m.reason 0 z))
          ∙ last_less ds (decision_places (reverse xs)) (length (reverse xs)) (all ∙ places_decided m (reverse xs) z)
      | inr nz ↦
          ap reverse (e ∙ cond-false (eqb m.reason 0) (take (length ds - 1) ds) ds (ne_eqb m.reason 0 nz))
          ∙ all
          ∙ places_forced m (reverse xs) nz
    ]

pub decisions_pushed : (ds ds' : List ℕ) (xs ys : List Mark) (m : Mark) (n : ℕ) → n ≡ length xs → ys ≡ xs ++ m ∷ [] → ds' ≡ cond (eqb m.reason 0) (ds ++ n ∷ []) ds → AreDecisions ds xs → AreDecisions ds' ys
decisions_pushed ds ds' xs ys m n ne ye e h =
    subst (AreDecisions ds') (sym ye) (decisions_push ds ds' xs m (e ∙ ap (λ (k : ℕ). cond (eqb m.reason 0) (ds ++ k ∷ []) ds) ne) h)

-- one decision more is passed, from the last on
pub level_less : (ds rest : List ℕ) (level p : ℕ) → level < length ds → p ≡ get_or ds level p → rest ≡ reverse (take (level + 1) ds) → rest ≡ p ∷ reverse (take level ds)
level_less ds rest level p lt is e =
    e ∙ ap reverse (take_at_read ds level p lt).1 ∙ newest_place (take level ds) (get_or ds level p) ∙ ap (λ (n : ℕ). n ∷ reverse (take level ds)) (sym is)

pub level_cut : (x : ℕ) (marks : List Mark) (cut level p : ℕ) → cut ≤ length marks → level ≤ length (decision_places (reverse marks)) → 0 < level → decision_places (reverse (take cut marks)) ≡ reverse (take level (reverse (decision_places (reverse marks)))) → p ≡ get_or (reverse (decision_places (reverse marks))) (level - 1) p → Cut x marks cut p (reverse (take (level - 1) (reverse (decision_places (reverse marks)))))
level_cut x marks cut level p le within above places is =
    let ds : List ℕ = reverse (decision_places (reverse marks)) in
    let n : length ds ≡ length (decision_places (reverse marks)) = length-reverse (decision_places (reverse marks)) in
    let s : level ≡ (level - 1) + 1 = omega arith in
    cut_at x marks cut p (reverse (take (level - 1) ds)) le
    (level_less ds (decision_places (reverse (take cut marks))) (level - 1) p (omega arith) is (places ∙ ap (λ (k : ℕ). reverse (take k ds)) s))

pub cut_found : (x : ℕ) (marks : List Mark) (cut p : ℕ) (rest : List ℕ) (m : Mark) (total : List Mark) → Cut x marks cut p rest → variable_of (get_or marks p m).lit ≡ x → jumped x (reverse (take cut marks)) (reverse (take cut marks)) ≡ total → reverse (take cut marks) ≡ total
cut_found x marks cut p rest m total k e h =
    sym (k.jump m ∙ cond-true (eqb (variable_of (get_or marks p m).lit) x) (reverse (take cut marks)) (jumped x (reverse (take p marks)) (reverse (take p marks))) (eq-eqb (variable_of (get_or marks p m).lit) x e))
    ∙ h

pub cut_passed : (x : ℕ) (marks : List Mark) (cut p : ℕ) (rest : List ℕ) (m : Mark) (total : List Mark) → Cut x marks cut p rest → (variable_of (get_or marks p m).lit ≡ x → ⊥) → jumped x (reverse (take cut marks)) (reverse (take cut marks)) ≡ total → jumped x (reverse (take p marks)) (reverse (take p marks)) ≡ total
cut_passed x marks cut p rest m total k ne h =
    sym (k.jump m ∙ cond-false (eqb (variable_of (get_or marks p m).lit) x) (reverse (take cut marks)) (jumped x (reverse (take p marks)) (reverse (take p marks))) (ne_eqb (variable_of (get_or marks p m).lit) x ne))
    ∙ h
