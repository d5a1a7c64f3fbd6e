-- One clause of the list of a false literal.
use Rattle.std.proofs.Common.{◌≡◌, ℕ, ◌+◌, ◌<◌, ◌≤◌, Bool, true, List, [], ◌∷◌, ◌++◌, refl, sym, ap, subst, ◌∙◌, Option, Some, inl, inr, ◌⊎◌, slice_get, get_or, set, take, length, reverse, suc, arith, All}
use Rattle.std.proofs.lemmas.Bool.{cases_eq, false≢true as false_true}
use Rattle.std.proofs.lemmas.List.{length-set}
use Rattle.std.proofs.lemmas.Option.{get_or_from_slice_get, slice_get_within}
use Rattle.std.proofs.lemmas.Grind.{take_at_read}
use Rattle.cnf_core.specs.declared.lit.Lit.{Lit}
use Rattle.cnf_core.specs.declared.standing.Standing.TheVariants.{Unit as UnitAt}
use Rattle.cnf_core.specs.Learned.{Each, Among}
use Rattle.cnf_core.specs.Lit.{variable_of, is_positive, opposite}
use Rattle.cnf_core.specs.Values.{Values, make_true, is_false, is_true, standing_of}
use Rattle.sat_core.specs.declared.trail.Mark.{Mark}
use Rattle.sat_core.specs.declared.trail.Trail.{Trail}
use Rattle.sat_core.specs.declared.watching.Pair.{Pair}
use Rattle.sat_core.specs.declared.watching.Watches.{Watches}
use Rattle.sat_core.specs.Trail.{assigned}
use Rattle.sat_core.specs.Sync.{reads, open_count, Fits, IsConflict, IsSynced}
use Rattle.sat_core.proofs.RestLaws.{opposite_variable}
use Rattle.sat_core.specs.Watch.{AtCuts, IsWatched, AreWatched, AreListed, IsOn, first_values, IsHeld, IsVisiting, IsFrom, list_at, code_of, listed_more, listed_less, taken_out}
use Rattle.sat_core.specs.Looks.{ArePair, IsMove, IsForce}
use Rattle.sat_core.proofs.ClosedLaws.{Within}
use Rattle.sat_core.proofs.CutLaws.{within_first, within_same, cuts_map, true_more}
use Rattle.sat_core.proofs.FirstLaws.{all_false}
use Rattle.sat_core.proofs.LitLaws.{new_false, opposite_false, code_same, code_within, lit_cases}
use Rattle.sat_core.proofs.ListLaws.{same_some, get_front, get_set, from_more, from_less, from_less_other, on_here, less_here, more_other, taken_length}
use Rattle.sat_core.proofs.HeldLaws.{newest, held_forced, forced_values, forced_more, forced_first, watched_at}
use Rattle.sat_core.proofs.WatchLaws.{watched_more, watched_stays, watched_forced, watched_moves, apart_from, there_of, open_at, true_here, unit_at}

pub all_each : (n : ℕ) (c : List Lit) → Fits n c → (l : Lit) → Among l c → variable_of l < n
all_each n [] h l there = absurd there
all_each n (k ∷ ks) h l (inl e) = omega (arith, ap variable_of e, h 0 k (omega arith))
all_each n (k ∷ ks) h l (inr there) = all_each n ks (λ i d lt. h (suc i) d (omega arith)) l there

pub read_clause : (cs : List (List Lit)) (n k : ℕ) (c : List Lit) → All (Fits n) cs → slice_get cs k ≡ Some c → Fits n c
read_clause cs n k c h e = subst (Fits n) (get_or_from_slice_get cs k c [] e) (h k [] (slice_get_within cs k c e))

pub fits_of : (cs : List (List Lit)) (n k : ℕ) (c : List Lit) (l : Lit) → All (Fits n) cs → slice_get cs k ≡ Some c → Among l c → variable_of l < n
fits_of cs n k c l h e there = all_each n c (read_clause cs n k c h e) l there

module _ (cs : List (List Lit)) (leaves size count : ℕ) (t : Trail) (w : Watches) (h : IsHeld cs leaves size count t w) where
  pub within_held : (n : ℕ) → Within (first_values n t.marks) (reads t.values.items)
  within_held n = subst (Within (first_values n t.marks)) (sym h.synced.values_are) (within_first cs leaves n t.marks h.synced.trail)

  pub held_next : (m : Mark) → slice_get t.marks t.done ≡ Some m → first_values (t.done + 1) t.marks ≡ make_true (first_values t.done t.marks) m.lit
  held_next m e =
      let lt = slice_get_within t.marks t.done m e in
      ap (λ (ms : List Mark). assigned (reverse ms))
      ((take_at_read t.marks t.done m lt).1 ∙ ap (λ (k : Mark). take t.done t.marks ++ k ∷ []) (get_or_from_slice_get t.marks t.done m m e))
      ∙ ap assigned (newest (take t.done t.marks) m)

  pub false_next : (m : Mark) (f : Lit) → slice_get t.marks t.done ≡ Some m → f ≡ opposite m.lit → (l : Lit) → is_false (first_values (t.done + 1) t.marks) l ≡ true → (l ≡ f) ⊎ (is_false (first_values t.done t.marks) l ≡ true)
  false_next m f e d l o = elim (new_false (first_values t.done t.marks) m.lit l (sym (ap (λ (b : Values). is_false b l) (held_next m e)) ∙ o)) [
    | inl s ↦ inl (s ∙ sym d)
    | inr g ↦ inr g
  ]

  -- the literal that is propagated is false
  pub denied_now : (m : Mark) (f : Lit) → slice_get t.marks t.done ≡ Some m → f ≡ opposite m.lit → 1 ≤ variable_of f → is_false (reads t.values.items) f ≡ true
  denied_now m f e d above =
      let a = reads t.values.items in
      let now : is_true (first_values (t.done + 1) t.marks) m.lit ≡ true = ap (λ (b : Values). is_true b m.lit) (held_next m e) ∙ true_here (first_values t.done t.marks) m.lit in
      ap (is_false a) d ∙ opposite_false a m.lit (omega (arith, ap variable_of d)) (true_more (first_values (t.done + 1) t.marks) a m.lit (within_held (t.done + 1)) now)

  from_parts : (ps : List Pair) (m : Mark) (f : Lit) → slice_get t.marks t.done ≡ Some m → f ≡ opposite m.lit → (k : ℕ) (c : List Lit) (p : Pair) → slice_get cs k ≡ Some c → slice_get w.pairs.items k ≡ Some p → (p.first ≡ f) ⊎ (p.first ≡ f → ⊥) → (p.second ≡ f) ⊎ (p.second ≡ f → ⊥) → IsWatched (first_values (t.done + 1) t.marks) (reads t.values.items) c p ⊎ IsFrom (list_at w.lists.items (code_of f)) 0 k
  from_parts ps m f e d k c p x y (inl s) o = inr (subst (λ (l : Lit). IsOn w.lists.items l k) s (h.listed k p y).0)
  from_parts ps m f e d k c p x y (inr n) (inl s) = inr (subst (λ (l : Lit). IsOn w.lists.items l k) s (h.listed k p y).1)
  from_parts ps m f e d k c p x y (inr n) (inr o) =
      inl (watched_stays (first_values t.done t.marks) (first_values (t.done + 1) t.marks) (reads t.values.items) c p f (false_next m f e d) (λ s. absurd (n s)) (λ s. absurd (o s)) (h.watched k c p x y))

  -- all clauses on the literal's list may not be as they should
  pub visit_starts : (m : Mark) (f : Lit) → slice_get t.marks t.done ≡ Some m → f ≡ opposite m.lit → IsVisiting cs leaves size count t w f 0
  visit_starts m f e d = record {
    held = h;
    mark = m;
    there = e;
    denied = d;
    waits = λ k c p x y. from_parts w.pairs.items m f e d k c p x y (lit_cases p.first f) (lit_cases p.second f);
  }

module _ (cs : List (List Lit)) (leaves size count : ℕ) (t : Trail) (w : Watches) (f : Lit) (at place : ℕ) (v : IsVisiting cs leaves size count t w f at) (on : slice_get (list_at w.lists.items (code_of f)) at ≡ Some place) where
  now_first : Values
  now_first = first_values (t.done + 1) t.marks

  next_from : (k : ℕ) → IsFrom (list_at w.lists.items (code_of f)) at k → (k ≡ place) ⊎ IsFrom (list_at w.lists.items (code_of f)) (at + 1) k
  next_from k g = elim (cases_eq g.place at) [
    | inl e ↦ inl (same_some k place (sym g.there ∙ ap (slice_get (list_at w.lists.items (code_of f))) e ∙ on))
    | inr ne ↦ inr (let later = g.later in record { place = g.place; later = omega arith; there = g.there })
  ]

  -- the clause is as it should be, and stays on the list
  pub turn_next : ((c : List Lit) (p : Pair) → slice_get cs place ≡ Some c → slice_get w.pairs.items place ≡ Some p → IsWatched (first_values (t.done + 1) t.marks) (reads t.values.items) c p) → IsVisiting cs leaves size count t w f (at + 1)
  turn_next here = record {
    held = v.held;
    mark = v.mark;
    there = v.there;
    denied = v.denied;
    waits = λ k c p x y. elim (v.waits k c p x y) [
      | inl ok ↦ inl ok
      | inr g ↦ elim (next_from k g) [
        | inl e ↦ inl (here c p (ap (slice_get cs) (sym e) ∙ x) (ap (slice_get w.pairs.items) (sym e) ∙ y))
        | inr later ↦ inr later
      ]
    ];
  }

  -- no clause stands there
  pub turn_past : length w.pairs.items ≤ place → IsVisiting cs leaves size count t w f (at + 1)
  turn_past le = turn_next (λ c p x y. absurd (let lt = slice_get_within w.pairs.items place p y in omega arith))

  module _ (c : List Lit) (p : Pair) (there : slice_get cs place ≡ Some c) (pair : slice_get w.pairs.items place ≡ Some p) where
    was : IsWatched (first_values t.done t.marks) (reads t.values.items) c p
    was = v.held.watched place c p there pair

    newly : (l : Lit) → is_false (first_values (t.done + 1) t.marks) l ≡ true → (l ≡ f) ⊎ (is_false (first_values t.done t.marks) l ≡ true)
    newly = false_next cs leaves size count t w v.held v.mark f v.there v.denied

    pub turn_stays : (p.first ≡ f → is_true (reads t.values.items) p.second ≡ true) → (p.second ≡ f → is_true (reads t.values.items) p.first ≡ true) → IsVisiting cs leaves size count t w f (at + 1)
    turn_stays one other = turn_next (λ d q x y.
        subst (λ (e : List Lit). IsWatched (first_values (t.done + 1) t.marks) (reads t.values.items) e q) (same_some c d (sym there ∙ x))
        (subst (IsWatched (first_values (t.done + 1) t.marks) (reads t.values.items) c) (same_some p q (sym pair ∙ y))
        (watched_stays (first_values t.done t.marks) (first_values (t.done + 1) t.marks) (reads t.values.items) c p f newly one other was)))

    pub turn_conflict : Each (λ l. is_false (reads t.values.items) l ≡ true) c → IsConflict cs (reads t.values.items) place
    turn_conflict all = record { clause = c; there = there; falsified = all_false (reads t.values.items) c all }

    -- the other literal is forced
    module _ (o : Lit) (force : IsForce (reads t.values.items) c p f o) where
      pub force_there : Among o c
      force_there = there_of (first_values t.done t.marks) (reads t.values.items) c p f o was force.pair

      pub force_unit : standing_of (reads t.values.items) c ≡ UnitAt o
      force_unit = unit_at (reads t.values.items) c o force.only force_there force.not_false

      pub force_room : variable_of o < length t.values.items
      force_room = let lt = fits_of cs size place c o v.held.fit there force_there in omega (arith, v.held.size_is)

      module _ (t' : Trail) (me : t'.marks ≡ t.marks ++ record { lit = o; reason = place + 1 } ∷ []) (ve : t'.values.items ≡ set t.values.items (variable_of o) (Some (is_positive o))) (de : t'.done ≡ t.done) (ne : t'.next ≡ t.next) where
        force_more : Within (reads t.values.items) (reads t'.values.items)
        force_more = forced_more cs leaves size count t t' w v.held place c o there force_unit force.not_true force_room me ve de ne

        lt_done : t.done < length t.marks
        lt_done = slice_get_within t.marks t.done v.mark v.there

        force_first : first_values (t.done + 1) t.marks ≡ first_values (t'.done + 1) t'.marks
        force_first =
            forced_first cs leaves size count t t' w v.held place c o there force_unit force.not_true force_room me ve de ne (t.done + 1) (omega (arith, lt_done))
            ∙ ap (λ (n : ℕ). first_values (n + 1) t'.marks) (sym de)

        force_waits : (k : ℕ) (d : List Lit) (q : Pair) → slice_get cs k ≡ Some d → slice_get w.pairs.items k ≡ Some q → IsWatched (first_values (t.done + 1) t.marks) (reads t'.values.items) d q ⊎ IsFrom (list_at w.lists.items (code_of f)) (at + 1) k
        force_waits k d q x y = elim (v.waits k d q x y) [
          | inl ok ↦ inl (watched_more (first_values (t.done + 1) t.marks) (reads t.values.items) (reads t'.values.items) d q force_more ok)
          | inr g ↦ elim (next_from k g) [
            | inl e ↦
                let x' : slice_get cs place ≡ Some d = ap (slice_get cs) (sym e) ∙ x in
                let y' : slice_get w.pairs.items place ≡ Some q = ap (slice_get w.pairs.items) (sym e) ∙ y in
                inl (subst (λ (i : List Lit). IsWatched (first_values (t.done + 1) t.marks) (reads t'.values.items) i q) (same_some c d (sym there ∙ x'))
                (subst (IsWatched (first_values (t.done + 1) t.marks) (reads t'.values.items) c) (same_some p q (sym pair ∙ y'))
                (subst (λ (a : Values). IsWatched (first_values (t.done + 1) t.marks) a c p)
                (forced_values cs leaves size count t t' w v.held place c o there force_unit force.not_true force_room me ve de ne)
                (watched_forced (first_values t.done t.marks) (first_values (t.done + 1) t.marks) (reads t.values.items) c p f o was
                (open_at (reads t.values.items) o force.not_false force.not_true)
                (within_held cs leaves size count t w v.held (t.done + 1)) force.pair))))
            | inr later ↦ inr later
          ]
        ]

        pub turn_forces : IsVisiting cs leaves size count t' w f (at + 1)
        turn_forces = record {
          held = held_forced cs leaves size count t t' w v.held place c o there force_unit force.not_true force_room me ve de ne;
          mark = v.mark;
          there = subst (λ (n : ℕ). slice_get t'.marks n ≡ Some v.mark) (sym de)
              (subst (λ (ms : List Mark). slice_get ms t.done ≡ Some v.mark) (sym me) (get_front t.marks (record { lit = o; reason = place + 1 } ∷ []) t.done v.mark v.there));
          denied = v.denied;
          waits = λ k d q x y. subst (λ (b : Values). IsWatched b (reads t'.values.items) d q ⊎ IsFrom (list_at w.lists.items (code_of f)) (at + 1) k) force_first (force_waits k d q x y);
        }

    -- the watch at f moves
    module _ (o n : Lit) (move : IsMove (reads t.values.items) c p f o n) (above : 1 ≤ variable_of f) where
      off : is_false (reads t.values.items) f ≡ true
      off = denied_now cs leaves size count t w v.held v.mark f v.there v.denied above

      not_back : o ≡ f → ⊥
      not_back = apart_from (first_values t.done t.marks) (reads t.values.items) c p f o was (within_same (reads t.values.items)) off move.not_true move.pair

      off_not : n ≡ f → ⊥
      off_not e = false_true (sym move.free.not_false ∙ ap (is_false (reads t.values.items)) e ∙ off)

      pub move_other : code_of n ≡ code_of f → ⊥
      move_other e = off_not (code_same n f e)

      pub move_room : code_of n < length w.lists.items
      move_room = omega (arith, code_within n size (fits_of cs size place c n v.held.fit there move.free.there), v.held.room)

      new_pair : Pair
      new_pair = record { first = o; second = n }

      moved_to : (u b b' : Values) → IsWatched b u c p → Within u (reads t.values.items) → Within b' (reads t.values.items) → ((l : Lit) → is_false b' l ≡ true → (l ≡ f) ⊎ (is_false b l ≡ true)) → IsWatched b' u c (record { first = o; second = n })
      moved_to u b b' w' more less new = watched_moves b u (reads t.values.items) c p f o w' more off move.not_true b' n move.pair move.free less new

      -- each clause is watched as before but for this one
      all_moved : (u b b' : Values) → Within u (reads t.values.items) → Within b' (reads t.values.items) → ((l : Lit) → is_false b' l ≡ true → (l ≡ f) ⊎ (is_false b l ≡ true)) → IsWatched b u c p → (k : ℕ) (d : List Lit) (q : Pair) → slice_get cs k ≡ Some d → k ≡ place → record { first = o; second = n } ≡ q → IsWatched b' u d q
      all_moved u b b' more less new w' k d q x e s =
          subst (IsWatched b' u d) s
          (subst (λ (i : List Lit). IsWatched b' u i (record { first = o; second = n })) (same_some c d (sym there ∙ ap (slice_get cs) (sym e) ∙ x)) (moved_to u b b' w' more less new))

      pub are_moved : (u b : Values) (ps' : List Pair) → ps' ≡ set w.pairs.items place (record { first = o; second = n }) → Within u (reads t.values.items) → Within b (reads t.values.items) → AreWatched b u cs w.pairs.items → AreWatched b u cs ps'
      are_moved u b ps' e more less all k d q x y =
          elim (get_set w.pairs.items place k (record { first = o; second = n }) q (ap (λ (ps : List Pair). slice_get ps k) (sym e) ∙ y)) [
            | inl s ↦ all_moved u b b more less (λ l h. inr h) (all place c p there pair) k d q x s.0 s.1
            | inr s ↦ all k d q x s.1
          ]

      module _ (w' : Watches) (le : w'.lists.items ≡ listed_less (listed_more w.lists.items (code_of n) place) (code_of f) at) (pe : w'.pairs.items ≡ set w.pairs.items place (record { first = o; second = n })) (room_f : code_of f < length w.lists.items) where
        mid : List (List ℕ)
        mid = listed_more w.lists.items (code_of n) place

        mid_length : length (listed_more w.lists.items (code_of n) place) ≡ length w.lists.items
        mid_length = length-set w.lists.items (code_of n) (list_at w.lists.items (code_of n) ++ place ∷ [])

        mid_same : list_at (listed_more w.lists.items (code_of n) place) (code_of f) ≡ list_at w.lists.items (code_of f)
        mid_same = more_other w.lists.items (code_of n) place (code_of f) (λ e. move_other (sym e))

        kept_on : (i from k : ℕ) → from ≤ at → (k ≡ place → ⊥) → IsFrom (list_at w.lists.items i) from k → IsFrom (list_at w'.lists.items i) from k
        kept_on i from k later ne g =
            subst (λ (ls : List (List ℕ)). IsFrom (list_at ls i) from k) (sym le)
            (from_less (listed_more w.lists.items (code_of n) place) (code_of f) at place i from k (omega (arith, mid_length)) (ap (λ (ks : List ℕ). slice_get ks at) mid_same ∙ on) later ne
            (from_more w.lists.items (code_of n) place i from k move_room g))

        other_on : (i k : ℕ) → (i ≡ code_of f → ⊥) → IsFrom (list_at w.lists.items i) 0 k → IsFrom (list_at w'.lists.items i) 0 k
        other_on i k ne g =
            subst (λ (ls : List (List ℕ)). IsFrom (list_at ls i) 0 k) (sym le)
            (from_less_other (listed_more w.lists.items (code_of n) place) (code_of f) at i 0 k ne (from_more w.lists.items (code_of n) place i 0 k move_room g))

        new_on : IsFrom (list_at w'.lists.items (code_of n)) 0 place
        new_on =
            subst (λ (ls : List (List ℕ)). IsFrom (list_at ls (code_of n)) 0 place) (sym le)
            (from_less_other (listed_more w.lists.items (code_of n) place) (code_of f) at (code_of n) 0 place move_other (on_here w.lists.items (code_of n) place move_room))

        other_listed : ArePair p f o → IsFrom (list_at w.lists.items (code_of o)) 0 place
        other_listed (inl h) = subst (λ (l : Lit). IsOn w.lists.items l place) h.1 (v.held.listed place p pair).1
        other_listed (inr h) = subst (λ (l : Lit). IsOn w.lists.items l place) h.1 (v.held.listed place p pair).0

        moved_on : (k : ℕ) (q : Pair) → k ≡ place → record { first = o; second = n } ≡ q → IsOn w'.lists.items q.first k × IsOn w'.lists.items q.second k
        moved_on k q e s =
            subst (λ (r : Pair). IsOn w'.lists.items r.first k × IsOn w'.lists.items r.second k) s
            (subst (λ (j : ℕ). IsOn w'.lists.items o j × IsOn w'.lists.items n j) (sym e)
            (other_on (code_of o) place (λ h. not_back (code_same o f h)) (other_listed move.pair), new_on))

        move_listed : AreListed w'.lists.items w'.pairs.items
        move_listed k q y =
            elim (get_set w.pairs.items place k (record { first = o; second = n }) q (ap (λ (ps : List Pair). slice_get ps k) (sym pe) ∙ y)) [
              | inl s ↦ moved_on k q s.0 s.1
              | inr s ↦ (kept_on (code_of q.first) 0 k (omega arith) s.0 (v.held.listed k q s.1).0, kept_on (code_of q.second) 0 k (omega arith) s.0 (v.held.listed k q s.1).1)
            ]

        held_moves : IsHeld cs leaves size count t w'
        held_moves =
            let h = v.held in
            let a = reads t.values.items in
            record {
              synced = h.synced;
              fit = h.fit;
              size_is = h.size_is;
              marks_open = h.marks_open;
              done = h.done;
              count_is = ap length pe ∙ length-set w.pairs.items place (record { first = o; second = n }) ∙ h.count_is;
              few = h.few;
              room = ap length le ∙ length-set (listed_more w.lists.items (code_of n) place) (code_of f) (taken_out (list_at (listed_more w.lists.items (code_of n) place) (code_of f)) at) ∙ mid_length ∙ h.room;
              listed = move_listed;
              watched = are_moved a (first_values t.done t.marks) w'.pairs.items pe (within_same a) (within_held cs leaves size count t w h t.done) h.watched;
              cuts = cuts_map (λ u. AreWatched u u cs w.pairs.items) (λ u. AreWatched u u cs w'.pairs.items) cs leaves (reverse t.marks) a h.synced.trail
                  (subst (Within (assigned (reverse t.marks))) (sym h.synced.values_are) (within_same (assigned (reverse t.marks))))
                  (λ u more all. are_moved u u w'.pairs.items pe more more all) h.cuts;
              from = h.from;
              upto = h.upto;
              given = h.given;
            }

        move_waits : (k : ℕ) (d : List Lit) (q : Pair) → slice_get cs k ≡ Some d → slice_get w'.pairs.items k ≡ Some q → IsWatched (first_values (t.done + 1) t.marks) (reads t.values.items) d q ⊎ IsFrom (list_at w'.lists.items (code_of f)) at k
        move_waits k d q x y =
            elim (get_set w.pairs.items place k (record { first = o; second = n }) q (ap (λ (ps : List Pair). slice_get ps k) (sym pe) ∙ y)) [
              | inl s ↦ inl (all_moved (reads t.values.items) (first_values t.done t.marks) (first_values (t.done + 1) t.marks) (within_same (reads t.values.items)) (within_held cs leaves size count t w v.held (t.done + 1)) newly was k d q x s.0 s.1)
              | inr s ↦ elim (v.waits k d q x s.1) [
                | inl ok ↦ inl ok
                | inr g ↦ inr (kept_on (code_of f) at k (omega arith) s.0 g)
              ]
            ]

        pub turn_moves : IsVisiting cs leaves size count t w' f at
        turn_moves = record { held = held_moves; mark = v.mark; there = v.there; denied = v.denied; waits = move_waits }

        pub move_shorter : length (list_at w'.lists.items (code_of f)) < length (list_at w.lists.items (code_of f))
        move_shorter =
            let e : list_at w'.lists.items (code_of f) ≡ taken_out (list_at (listed_more w.lists.items (code_of n) place) (code_of f)) at =
            ap (λ (ls : List (List ℕ)). list_at ls (code_of f)) le ∙ less_here (listed_more w.lists.items (code_of n) place) (code_of f) at (code_of f) (omega (arith, mid_length)) refl in
            let lt = slice_get_within (list_at w.lists.items (code_of f)) at place on in
            omega (arith, ap length e, taken_length (list_at (listed_more w.lists.items (code_of n) place) (code_of f)) at, ap length mid_same)

-- the list of the false literal is there
pub visit_room : (cs : List (List Lit)) (leaves size count : ℕ) (t : Trail) (w : Watches) (f : Lit) (at : ℕ) → IsVisiting cs leaves size count t w f at → code_of f < length w.lists.items
visit_room cs leaves size count t w f at v =
    let lt = slice_get_within t.marks t.done v.mark v.there in
    let e : get_or t.marks t.done v.mark ≡ v.mark = get_or_from_slice_get t.marks t.done v.mark v.mark v.there in
    let fit : variable_of v.mark.lit < length t.values.items = subst (λ (m : Mark). variable_of m.lit < length t.values.items) e (v.held.synced.marks_fit t.done v.mark lt) in
    let small : variable_of f < size = omega (arith, fit, ap variable_of v.denied, opposite_variable v.mark.lit, v.held.size_is) in
    omega (arith, code_within f size small, v.held.room)

-- at the end of the list each clause is as it should be
pub visit_ends : (cs : List (List Lit)) (leaves size count : ℕ) (t : Trail) (w : Watches) (f : Lit) (at : ℕ) → IsVisiting cs leaves size count t w f at → length (list_at w.lists.items (code_of f)) ≤ at → AreWatched (first_values (t.done + 1) t.marks) (reads t.values.items) cs w.pairs.items
visit_ends cs leaves size count t w f at v le k c p x y = elim (v.waits k c p x y) [
  | inl ok ↦ ok
  | inr g ↦ absurd (let lt = slice_get_within (list_at w.lists.items (code_of f)) g.place k g.there in let later = g.later in omega arith)
]

-- one more literal is propagated
pub held_done : (cs : List (List Lit)) (leaves size count : ℕ) (t t' : Trail) (w : Watches) → IsHeld cs leaves size count t w → t.done < length t.marks → AreWatched (first_values (t.done + 1) t.marks) (reads t.values.items) cs w.pairs.items → t'.marks ≡ t.marks → t'.values.items ≡ t.values.items → t'.done ≡ t.done + 1 → t'.next ≡ t.next → IsHeld cs leaves size count t' w
held_done cs leaves size count t t' w h lt all me ve de ne =
    let P : Values → Type 0 = λ v. AreWatched v v cs w.pairs.items in
    record {
      synced = subst (λ (ms : List Mark). IsSynced cs leaves ms t'.values.items) (sym me) (subst (IsSynced cs leaves t.marks) (sym ve) h.synced);
      fit = h.fit;
      size_is = ap length ve ∙ h.size_is;
      marks_open = omega (arith, ap length me, ap open_count ve, h.marks_open);
      done = omega (arith, ap length me, lt, de);
      count_is = h.count_is;
      few = h.few;
      room = h.room;
      listed = h.listed;
      watched = watched_at (first_values (t.done + 1) t.marks) (first_values t'.done t'.marks) (reads t.values.items) (reads t'.values.items) cs w.pairs.items
          (ap (first_values (t.done + 1)) (sym me) ∙ ap (λ (n : ℕ). first_values n t'.marks) (sym de)) (ap reads (sym ve)) all;
      cuts = subst (λ (ms : List Mark). AtCuts P (reverse ms)) (sym me) h.cuts;
      from = omega (arith, ne, h.from);
      upto = omega (arith, ne, h.upto);
      given = λ y p q e. h.given y p (omega (arith, ne)) (ap (λ (vs : List (Option Bool)). reads vs y) (sym ve) ∙ e);
    }
