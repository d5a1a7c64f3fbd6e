-- What is reached by calls, through any calls.
use Rattle.std.proofs.Common.{◌≡◌, ℕ, zero, suc, ◌+◌, ◌≤◌, Bool, true, false, if◌then◌else◌, Option, Some, None, List, [], ◌∷◌, ◌++◌, length, refl, ap, sym, ◌∙◌, subst, append_assoc, append-nil, arith}
use Rattle.std.specs.Prelude.{◌&&◌, ◌||◌, slice_get}
use Rattle.std.specs.Str.{bytes_eq}
use Rattle.std.proofs.lemmas.List.Folds.{list_any-append}
use Rattle.std.proofs.lemmas.Slice.Eq.{bytes_eq-Decides}
use Rattle.vl_items.specs.Declarations.{is_among, added}
use Rattle.vl_calls.specs.Reaching.{Callers, Reaches, direct, further, calls_of, calls_it, with_known, spread, spread_on, reached, circular_from, CircularReach}

Name : Type 0
Name = List ℕ

same : (x : List ℕ) → bytes_eq x x ≡ true
same x = (bytes_eq-Decides x x).1 refl

or_left : (a b : Bool) → a ≡ true → (a || b) ≡ true
or_left true b e = refl
or_left false b e = absurd (cc)

or_right : (a b : Bool) → b ≡ true → (a || b) ≡ true
or_right true b e = refl
or_right false b e = e

and_first : (a b : Bool) → (a && b) ≡ true → a ≡ true
and_first true b e = refl
and_first false b e = absurd (cc)

and_last : (a b : Bool) → (a && b) ≡ true → b ≡ true
and_last true b e = e
and_last false b e = absurd (cc)

and_both : (a b : Bool) → a ≡ true → b ≡ true → (a && b) ≡ true
and_both true b e f = f
and_both false b e f = absurd (cc)

-- each of some names has a property
abbrev AllHave : (List ℕ → Type 0) → List (List ℕ) → Type 0
AllHave P xs = (x : List ℕ) → is_among x xs ≡ true → P x

behind : (x : List ℕ) (xs ys : List (List ℕ)) → is_among x xs ≡ true → is_among x (xs ++ ys) ≡ true
behind x xs ys e = list_any-append (bytes_eq x) xs ys ∙ or_left (is_among x xs) (is_among x ys) e

last : (x : List ℕ) (xs : List (List ℕ)) → is_among x (xs ++ x ∷ []) ≡ true
last x xs = list_any-append (bytes_eq x) xs (x ∷ []) ∙ or_right (is_among x xs) (bytes_eq x x || false) (or_left (bytes_eq x x) false (same x))

either_of : (P : List ℕ → Type 0) (x y : List ℕ) (xs : List (List ℕ)) → (is_among x xs ≡ true → P x) → P y → is_among x (xs ++ y ∷ []) ≡ true → P x
either_of P x y xs old new e = go (is_among x xs) refl (bytes_eq x y) refl (sym (list_any-append (bytes_eq x) xs (y ∷ [])) ∙ e)
  where
    go : (a : Bool) → is_among x xs ≡ a → (b : Bool) → bytes_eq x y ≡ b → (is_among x xs || (bytes_eq x y || false)) ≡ true → P x
    go true f b g h = old f
    go false f true g h = subst P (sym ((bytes_eq-Decides x y).0 g)) new
    go false f false g h = absurd (cc)

-- one more name, if it is new

added_keeps : (x y : List ℕ) (xs : List (List ℕ)) → is_among x xs ≡ true → is_among x (added xs y) ≡ true
added_keeps x y xs e = go (is_among y xs)
  where
    go : (t : Bool) → is_among x (if t then xs else xs ++ y ∷ []) ≡ true
    go true = e
    go false = behind x xs (y ∷ []) e

added_has : (y : List ℕ) (xs : List (List ℕ)) → is_among y (added xs y) ≡ true
added_has y xs = go (is_among y xs) refl
  where
    go : (t : Bool) → is_among y xs ≡ t → is_among y (if t then xs else xs ++ y ∷ []) ≡ true
    go true e = e
    go false e = last y xs

added_only : (P : List ℕ → Type 0) (y : List ℕ) (xs : List (List ℕ)) → AllHave P xs → P y → AllHave P (added xs y)
added_only P y xs all one x = go (is_among y xs)
  where
    go : (t : Bool) → is_among x (if t then xs else xs ++ y ∷ []) ≡ true → P x
    go true e = all x e
    go false e = either_of P x y xs (all x) one e

added_more : (y : List ℕ) (xs : List (List ℕ)) → (m : List (List ℕ)) × (added xs y ≡ xs ++ m)
added_more y xs = go (is_among y xs)
  where
    go : (t : Bool) → (m : List (List ℕ)) × ((if t then xs else xs ++ y ∷ []) ≡ xs ++ m)
    go true = ([], sym (append-nil xs))
    go false = (y ∷ [], refl)

-- how many of some names are not among others
abbrev open_in : List (List ℕ) → List (List ℕ) → ℕ
open_in [] xs = 0
open_in (n ∷ ns) xs = (if is_among n xs then 0 else 1) + open_in ns xs

one_if : Bool → ℕ
one_if t = if t then 0 else 1

open_less : (ns xs ys : List (List ℕ)) → ((x : List ℕ) → is_among x xs ≡ true → is_among x ys ≡ true) → open_in ns ys ≤ open_in ns xs
open_less [] xs ys h = omega arith
open_less (n ∷ ns) xs ys h = go (open_less ns xs ys h) (is_among n xs) refl (is_among n ys) refl
  where
    go : open_in ns ys ≤ open_in ns xs → (a : Bool) → is_among n xs ≡ a → (b : Bool) → is_among n ys ≡ b → (if b then 0 else 1) + open_in ns ys ≤ (if a then 0 else 1) + open_in ns xs
    go r true e true f = omega (arith, r)
    go r true e false f = absurd (let g = h n e in cc)
    go r false e true f = omega (arith, r)
    go r false e false f = omega (arith, r)

-- a new one of these names is one less
open_one_less : (ns xs : List (List ℕ)) (y : List ℕ) → is_among y ns ≡ true → is_among y xs ≡ false → suc (open_in ns (xs ++ y ∷ [])) ≤ open_in ns xs
open_one_less [] xs y e f = absurd (cc)
open_one_less (n ∷ ns) xs y e f = go (λ m. open_one_less ns xs y m f) (bytes_eq y n) refl
  where
    keeps : (x : List ℕ) → is_among x xs ≡ true → is_among x (xs ++ y ∷ []) ≡ true
    keeps x h = behind x xs (y ∷ []) h

    here : (a b : Bool) → is_among n xs ≡ a → a ≡ false → is_among n (xs ++ y ∷ []) ≡ b → b ≡ true → suc ((if b then 0 else 1) + open_in ns (xs ++ y ∷ [])) ≤ (if a then 0 else 1) + open_in ns xs
    here false true p q r s = let l = open_less ns xs (xs ++ y ∷ []) keeps in omega (arith, l)
    here true b p q r s = absurd (cc)
    here false false p q r s = absurd (cc)

    there : (is_among y ns ≡ true → suc (open_in ns (xs ++ y ∷ [])) ≤ open_in ns xs) → (a b : Bool) → is_among n xs ≡ a → is_among n (xs ++ y ∷ []) ≡ b → is_among y ns ≡ true → suc ((if b then 0 else 1) + open_in ns (xs ++ y ∷ [])) ≤ (if a then 0 else 1) + open_in ns xs
    there less true true p q m = let l = less m in omega (arith, l)
    there less true false p q m = absurd (let g = keeps n p in cc)
    there less false true p q m = let l = less m in omega (arith, l)
    there less false false p q m = let l = less m in omega (arith, l)

    go : (is_among y ns ≡ true → suc (open_in ns (xs ++ y ∷ [])) ≤ open_in ns xs) → (t : Bool) → bytes_eq y n ≡ t → suc (open_in (n ∷ ns) (xs ++ y ∷ [])) ≤ open_in (n ∷ ns) xs
    go less true g =
        let is : y ≡ n = (bytes_eq-Decides y n).0 g in
        here (is_among n xs) (is_among n (xs ++ y ∷ [])) refl (ap (λ z. is_among z xs) (sym is) ∙ f) refl (ap (λ z. is_among z (xs ++ y ∷ [])) (sym is) ∙ last y xs)
    go less false g = there less (is_among n xs) (is_among n (xs ++ y ∷ [])) refl refl (ap (λ t. t || is_among y ns) (sym g) ∙ e)

-- the names that are seen, and those that are not yet, are no more than all names
abbrev Room : List (List ℕ) → List (List ℕ) → Type 0
Room ns xs = length xs + open_in ns xs ≤ length ns

room_none : (ns : List (List ℕ)) → Room ns []
room_none [] = omega arith
room_none (n ∷ ns) = let r = room_none ns in omega (arith, r)

room_added : (ns xs : List (List ℕ)) (y : List ℕ) → is_among y ns ≡ true → Room ns xs → Room ns (added xs y)
room_added ns xs y m r = go (is_among y xs) refl
  where
    go : (t : Bool) → is_among y xs ≡ t → Room ns (if t then xs else xs ++ y ∷ [])
    go true e = r
    go false e = let l = open_one_less ns xs y m e in let k : length (xs ++ y ∷ []) ≡ suc (length xs) = one_longer xs y in omega (arith, l, k, r)
      where
        one_longer : (zs : List (List ℕ)) (z : List ℕ) → length (zs ++ z ∷ []) ≡ suc (length zs)
        one_longer [] z = refl
        one_longer (w ∷ zs) z = ap suc (one_longer zs z)

-- those of some names that are functions

known_keeps : (ns seen ys : List (List ℕ)) (x : List ℕ) → is_among x seen ≡ true → is_among x (with_known ns seen ys) ≡ true
known_keeps ns seen [] x e = e
known_keeps ns seen (y ∷ ys) x e = known_keeps ns (if is_among y ns then added seen y else seen) ys x (go (is_among y ns))
  where
    go : (t : Bool) → is_among x (if t then added seen y else seen) ≡ true
    go true = added_keeps x y seen e
    go false = e

known_has : (ns seen ys : List (List ℕ)) (x : List ℕ) → is_among x ys ≡ true → is_among x ns ≡ true → is_among x (with_known ns seen ys) ≡ true
known_has ns seen [] x e f = absurd (cc)
known_has ns seen (y ∷ ys) x e f = go (λ m. known_has ns (if is_among y ns then added seen y else seen) ys x m f) (bytes_eq x y) refl
  where
    next : List (List ℕ)
    next = if is_among y ns then added seen y else seen

    here : (t : Bool) → is_among y ns ≡ t → t ≡ true → is_among y (if t then added seen y else seen) ≡ true
    here true p q = added_has y seen
    here false p q = absurd (cc)

    go : (is_among x ys ≡ true → is_among x (with_known ns next ys) ≡ true) → (t : Bool) → bytes_eq x y ≡ t → is_among x (with_known ns next ys) ≡ true
    go rest true g =
        let is : x ≡ y = (bytes_eq-Decides x y).0 g in
        known_keeps ns next ys x (subst (λ z. is_among z next ≡ true) (sym is) (here (is_among y ns) refl (ap (λ z. is_among z ns) (sym is) ∙ f)))
    go rest false g = rest (ap (λ t. t || is_among x ys) (sym g) ∙ e)

known_only : (P : List ℕ → Type 0) (ns seen ys : List (List ℕ)) → AllHave P seen → ((y : List ℕ) → is_among y ys ≡ true → is_among y ns ≡ true → P y) → AllHave P (with_known ns seen ys)
known_only P ns seen [] all new = all
known_only P ns seen (y ∷ ys) all new = known_only P ns (if is_among y ns then added seen y else seen) ys (go (is_among y ns) refl) (λ z e f. new z (or_right (bytes_eq z y) (is_among z ys) e) f)
  where
    go : (t : Bool) → is_among y ns ≡ t → AllHave P (if t then added seen y else seen)
    go true e = added_only P y seen all (new y (or_left (bytes_eq y y) (is_among y ys) (same y)) e)
    go false e = all

known_more : (ns seen ys : List (List ℕ)) → (m : List (List ℕ)) × (with_known ns seen ys ≡ seen ++ m)
known_more ns seen [] = ([], sym (append-nil seen))
known_more ns seen (y ∷ ys) =
    let one = step (is_among y ns) in
    let all = known_more ns (if is_among y ns then added seen y else seen) ys in
    (one.0 ++ all.0, all.1 ∙ ap (λ xs. xs ++ all.0) one.1 ∙ append_assoc seen one.0 all.0)
  where
    step : (t : Bool) → (m : List (List ℕ)) × ((if t then added seen y else seen) ≡ seen ++ m)
    step true = added_more y seen
    step false = ([], sym (append-nil seen))

known_room : (ns seen ys : List (List ℕ)) → Room ns seen → Room ns (with_known ns seen ys)
known_room ns seen [] r = r
known_room ns seen (y ∷ ys) r = known_room ns (if is_among y ns then added seen y else seen) ys (go (is_among y ns) refl)
  where
    go : (t : Bool) → is_among y ns ≡ t → Room ns (if t then added seen y else seen)
    go true e = room_added ns seen y e r
    go false e = r

-- what the first names call is among all of them
abbrev Served : Callers → List (List ℕ) → List (List ℕ) → Type 0
Served t done all = (y z : List ℕ) → is_among y done ≡ true → calls_it t y z ≡ true → is_among z all ≡ true

abbrev Kept : List (List ℕ) → List (List ℕ) → Type 0
Kept xs ys = (x : List ℕ) → is_among x xs ≡ true → is_among x ys ≡ true

at_seam : (xs : List (List ℕ)) (y : List ℕ) (ys : List (List ℕ)) → slice_get (xs ++ y ∷ ys) (length xs) ≡ Some y
at_seam [] y ys = refl
at_seam (x ∷ xs) y ys = at_seam xs y ys

past_end : (xs : List (List ℕ)) → slice_get xs (length xs) ≡ None
past_end [] = refl
past_end (x ∷ xs) = past_end xs

-- what stands at a place is among the list
found_at : (xs : List (List ℕ)) (k : ℕ) (v : List ℕ) → slice_get xs k ≡ Some v → is_among v xs ≡ true
found_at [] k v e = absurd (cc)
found_at (u ∷ xs) zero v e = let is : u ≡ v = cc in or_left (bytes_eq v u) (is_among v xs) (ap (bytes_eq v) is ∙ same v)
found_at (u ∷ xs) (suc k) v e = or_right (bytes_eq v u) (is_among v xs) (found_at xs k v e)

longer : (xs ys : List (List ℕ)) → length (xs ++ ys) ≡ length xs + length ys
longer [] ys = omega arith
longer (x ∷ xs) ys = let l = longer xs ys in omega (arith, l)

module _ (t : Callers) where
  served_more : (done ws m : List (List ℕ)) (w : List ℕ) → with_known t.names (done ++ w ∷ ws) (calls_of t w) ≡ (done ++ w ∷ ws) ++ m → Served t done (done ++ w ∷ ws)
      → Served t (done ++ w ∷ []) ((done ++ w ∷ ws) ++ m)
  served_more done ws m w e s y z among calls = either_of (λ x. calls_it t x z ≡ true → is_among z ((done ++ w ∷ ws) ++ m) ≡ true) y w done
      (λ h c. behind z (done ++ w ∷ ws) m (s y z h c))
      (λ c. ap (is_among z) (sym e) ∙ known_has t.names (done ++ w ∷ ws) (calls_of t w) z (and_first (is_among z (calls_of t w)) (is_among z t.names) c) (and_last (is_among z (calls_of t w)) (is_among z t.names) c)) among calls

  abbrev Ends : ℕ → ℕ → List (List ℕ) → Type 0
  Ends n k xs = Served t (spread n t k xs) (spread n t k xs) × Kept xs (spread n t k xs)

  abbrev Spreads : ℕ → List (List ℕ) → List (List ℕ) → Type 0
  Spreads n done waiting = length t.names ≤ n + length done → Room t.names (done ++ waiting) → Served t done (done ++ waiting) → Ends n (length done) (done ++ waiting)

  -- nothing waits
  spread_ends : (n : ℕ) (done : List (List ℕ)) → Served t done (done ++ []) → Ends (suc n) (length done) (done ++ [])
  unfolding spread
  spread_ends n done s = ends (slice_get (done ++ []) (length done)) (ap (λ xs. slice_get xs (length done)) (append-nil done) ∙ past_end done)
    where
      ends : (o : Option (List ℕ)) → o ≡ None → Served t (spread_on (spread n t (length done + 1)) t (done ++ []) o) (spread_on (spread n t (length done + 1)) t (done ++ []) o) × Kept (done ++ []) (spread_on (spread n t (length done + 1)) t (done ++ []) o)
      ends None e = (subst (λ xs. Served t xs (done ++ [])) (sym (append-nil done)) s, λ x f. f)
      ends (Some x) e = absurd (cc)

  -- one more name is served
  spread_step : (n : ℕ) (done ws : List (List ℕ)) (w : List ℕ) → ((rest : List (List ℕ)) → Spreads n (done ++ w ∷ []) rest) → Spreads (suc n) done (w ∷ ws)
  unfolding spread
  spread_step n done ws w next enough room s = goes (slice_get (done ++ w ∷ ws) (length done)) (at_seam done w ws)
    where
      after : List (List ℕ)
      after = with_known t.names (done ++ w ∷ ws) (calls_of t w)

      more : (m : List (List ℕ)) × (after ≡ (done ++ w ∷ ws) ++ m)
      more = known_more t.names (done ++ w ∷ ws) (calls_of t w)

      split : after ≡ (done ++ w ∷ []) ++ (ws ++ more.0)
      split = more.1 ∙ append_assoc done (w ∷ ws) more.0 ∙ sym (append_assoc done (w ∷ []) (ws ++ more.0))

      place : length (done ++ w ∷ []) ≡ length done + 1
      place = longer done (w ∷ [])

      inner : Ends n (length (done ++ w ∷ [])) ((done ++ w ∷ []) ++ (ws ++ more.0))
      inner = next (ws ++ more.0) (let p = place in omega (arith, p, enough)) (subst (Room t.names) split (known_room t.names (done ++ w ∷ ws) (calls_of t w) room))
          (subst (Served t (done ++ w ∷ [])) (sym more.1 ∙ split) (served_more done ws more.0 w more.1 s))

      moved : Ends n (length done + 1) after
      moved = subst (λ xs. Ends n (length done + 1) xs) (sym split) (subst (λ k. Ends n k ((done ++ w ∷ []) ++ (ws ++ more.0))) place inner)

      goes : (o : Option (List ℕ)) → o ≡ Some w → Served t (spread_on (spread n t (length done + 1)) t (done ++ w ∷ ws) o) (spread_on (spread n t (length done + 1)) t (done ++ w ∷ ws) o) × Kept (done ++ w ∷ ws) (spread_on (spread n t (length done + 1)) t (done ++ w ∷ ws) o)
      goes None e = absurd (cc)
      goes (Some x) e =
          let is : x ≡ w = cc in
          subst (λ v. Served t (spread n t (length done + 1) (with_known t.names (done ++ w ∷ ws) (calls_of t v))) (spread n t (length done + 1) (with_known t.names (done ++ w ∷ ws) (calls_of t v))) × Kept (done ++ w ∷ ws) (spread n t (length done + 1) (with_known t.names (done ++ w ∷ ws) (calls_of t v)))) (sym is)
          (moved.0, λ y f. moved.1 y (known_keeps t.names (done ++ w ∷ ws) (calls_of t w) y f))

  spreads : (n : ℕ) (done waiting : List (List ℕ)) → Spreads n done waiting
  unfolding spread
  spreads zero done [] enough room s = (subst (λ xs. Served t xs (done ++ [])) (sym (append-nil done)) s, λ x e. e)
  spreads zero done (w ∷ ws) enough room s = let l = longer done (w ∷ ws) in absurd (omega (arith, l, room, enough))
  spreads (suc n) done [] enough room s = spread_ends n done s
  spreads (suc n) done (w ∷ ws) enough room s = spread_step n done ws w (λ rest. spreads n (done ++ w ∷ []) rest) enough room s

  -- what is reached holds what each of it calls
  all_served : (x : List ℕ) → Served t (reached t x) (reached t x) × Kept (with_known t.names [] (calls_of t x)) (reached t x)
  all_served x = spreads (length t.names) [] (with_known t.names [] (calls_of t x)) (omega arith) (known_room t.names [] (calls_of t x) (room_none t.names)) (λ y z e c. absurd (cc))

  reaches_on : (x y z : List ℕ) → is_among y (reached t x) ≡ true → Reaches t y z → is_among z (reached t x) ≡ true
  reaches_on x y z e (direct c) = (all_served x).0 y z e c
  reaches_on x y z e (further {y = w} c r) = reaches_on x w z ((all_served x).0 y w e c) r

  called_first : (x y : List ℕ) → calls_it t x y ≡ true → is_among y (reached t x) ≡ true
  called_first x y c = (all_served x).1 y (known_has t.names [] (calls_of t x) y (and_first (is_among y (calls_of t x)) (is_among y t.names) c) (and_last (is_among y (calls_of t x)) (is_among y t.names) c))

  complete : (x z : List ℕ) → Reaches t x z → is_among z (reached t x) ≡ true
  complete x z (direct c) = called_first x z c
  complete x z (further {y = w} c r) = reaches_on x w z (called_first x w c) r

  then_calls : (x y z : List ℕ) → Reaches t x y → calls_it t y z ≡ true → Reaches t x z
  then_calls x y z (direct c) d = further c (direct d)
  then_calls x y z (further {y = w} c r) d = further c (then_calls w y z r d)

  spread_only : (x : List ℕ) (n at : ℕ) (seen : List (List ℕ)) → AllHave (Reaches t x) seen → AllHave (Reaches t x) (spread n t at seen)
  unfolding spread
  spread_only x zero at seen all = all
  spread_only x (suc n) at seen all = go (λ xs. spread_only x n (at + 1) xs) (slice_get seen at) refl
    where
      go : ((xs : List (List ℕ)) → AllHave (Reaches t x) xs → AllHave (Reaches t x) (spread n t (at + 1) xs)) → (o : Option (List ℕ)) → slice_get seen at ≡ o → AllHave (Reaches t x) (spread_on (spread n t (at + 1)) t seen o)
      go next None e = all
      go next (Some w) e = next (with_known t.names seen (calls_of t w))
          (known_only (Reaches t x) t.names seen (calls_of t w) all (λ y f g. then_calls x w y (all w (found_at seen at w e)) (and_both (is_among y (calls_of t w)) (is_among y t.names) f g)))

  sound : (x : List ℕ) → AllHave (Reaches t x) (reached t x)
  sound x = spread_only x (length t.names) 0 (with_known t.names [] (calls_of t x))
      (known_only (Reaches t x) t.names [] (calls_of t x) (λ y e. absurd (cc)) (λ y f g. direct (and_both (is_among y (calls_of t x)) (is_among y t.names) f g)))

  -- the last function that is reached is one of the scope
  is_function : (x z : List ℕ) → Reaches t x z → is_among z t.names ≡ true
  is_function x z (direct c) = and_last (is_among z (calls_of t x)) (is_among z t.names) c
  is_function x z (further {y = w} c r) = is_function w z r

  abbrev Loops : List ℕ → Type 0
  Loops x = Reaches t x x

  listed_only : (xs found : List (List ℕ)) → AllHave Loops found → AllHave Loops (circular_from t found xs)
  listed_only [] found all = all
  listed_only (x ∷ xs) found all = listed_only xs (if is_among x (reached t x) then added found x else found) (go (is_among x (reached t x)) refl)
    where
      go : (b : Bool) → is_among x (reached t x) ≡ b → AllHave Loops (if b then added found x else found)
      go true e = added_only Loops x found all (sound x x e)
      go false e = all

  listed_keeps : (xs found : List (List ℕ)) (y : List ℕ) → is_among y found ≡ true → is_among y (circular_from t found xs) ≡ true
  listed_keeps [] found y e = e
  listed_keeps (x ∷ xs) found y e = listed_keeps xs (if is_among x (reached t x) then added found x else found) y (go (is_among x (reached t x)))
    where
      go : (b : Bool) → is_among y (if b then added found x else found) ≡ true
      go true = added_keeps y x found e
      go false = e

  listed_has : (xs found : List (List ℕ)) (y : List ℕ) → is_among y xs ≡ true → is_among y (reached t y) ≡ true → is_among y (circular_from t found xs) ≡ true
  listed_has [] found y e r = absurd (cc)
  listed_has (x ∷ xs) found y e r = go (λ m. listed_has xs (if is_among x (reached t x) then added found x else found) y m r) (bytes_eq y x) refl
    where
      next : List (List ℕ)
      next = if is_among x (reached t x) then added found x else found

      here : (b : Bool) → b ≡ true → is_among x (if b then added found x else found) ≡ true
      here true q = added_has x found
      here false q = absurd (cc)

      go : (is_among y xs ≡ true → is_among y (circular_from t next xs) ≡ true) → (b : Bool) → bytes_eq y x ≡ b → is_among y (circular_from t next xs) ≡ true
      go rest true g =
          let is : y ≡ x = (bytes_eq-Decides y x).0 g in
          listed_keeps xs next y (subst (λ z. is_among z next ≡ true) (sym is) (here (is_among x (reached t x)) (subst (λ z. is_among z (reached t z) ≡ true) is r)))
      go rest false g = rest (ap (λ b. b || is_among y xs) (sym g) ∙ e)

pub circular_reach : CircularReach
circular_reach t x = (listed_only t t.names [] (λ y e. absurd (cc)) x, λ r. listed_has t t.names [] x (is_function t x x r) (complete t x x r))
