-- Learning a clause after a jump back.
use Rattle.std.proofs.Common.{◌≡◌, ℕ, ◌+◌, ◌<◌, ◌≤◌, true, false, List, [], ◌∷◌, ◌++◌, refl, sym, ap, subst, ◌∙◌, Option, Some, None, inl, inr, ◌⊎◌, slice_get, set, take, length, reverse, zero, suc, arith, add-one, length-append, All}
use Rattle.std.proofs.lemmas.Bool.{cases_eq, false≢true}
use Rattle.std.proofs.lemmas.List.{take_all, length-set}
use Rattle.std.proofs.lemmas.List.Elements.{All-take}
use Rattle.std.proofs.lemmas.Option.{slice_get_within}
use Rattle.cnf_core.specs.declared.lit.Lit.{Lit}
use Rattle.cnf_core.specs.declared.standing.Standing.TheVariants.{Unit as UnitAt}
use Rattle.cnf_core.specs.Closed.{IsClosed}
use Rattle.cnf_core.specs.Learned.{Each, Among, IsLeafLit}
use Rattle.cnf_core.specs.Lit.{variable_of, is_positive, opposite}
use Rattle.cnf_core.specs.Values.{Values, make_true, denies, grants, is_false, is_true, standing_of}
use Rattle.sat_core.specs.declared.trail.Mark.{Mark}
use Rattle.sat_core.specs.declared.trail.Trail.{Trail}
use Rattle.sat_core.specs.declared.watching.Pair.{Pair}
use Rattle.sat_core.specs.declared.watching.Watches.{Watches}
use Rattle.sat_core.specs.Jump.{jumped, LastIs, AreLast}
use Rattle.sat_core.specs.Rests.{Needs, rests}
use Rattle.sat_core.specs.Solved.{IsTraced}
use Rattle.sat_core.specs.Sync.{reads, open_count, Fits}
use Rattle.sat_core.specs.Trail.{assigned, IsDecision, Reason, IsTrail, before_at, before_decision}
use Rattle.sat_core.specs.Watch.{AtCuts, CutAt, IsWatched, AreWatched, IsOn, IsHeld, first_values, code_of, listed_more}
use Rattle.sat_core.proofs.BackLaws.{Greatest, greatest, Back, back, jump_top, jumped_has, jumped_cut, cuts_before, other_last, no_last, last_same}
use Rattle.sat_core.proofs.CutLaws.{cuts_map, cuts_rest, cuts_none, within_same}
use Rattle.sat_core.proofs.HeldLaws.{held_forced, forced_values, forced_first, watched_at, newest}
use Rattle.sat_core.proofs.LearnedLaws.{IsDecided, clause_decided, decided_false, no_decision, trail_before, Each-weaker, Each-snoc, among_last, some_pair}
use Rattle.sat_core.proofs.ListLaws.{get_front, get_last, get_snoc, from_more, on_here, same_some}
use Rattle.sat_core.proofs.LitLaws.{code_within}
use Rattle.sat_core.proofs.RestLaws.{none_before, opposite_variable}
use Rattle.sat_core.proofs.SolveLaws.{leaves_fit, fits_more}
use Rattle.sat_core.proofs.TurnLaws.{all_each}
use Rattle.sat_core.proofs.WatchLaws.{watched_closed, unit_at, true_here}

-- the first clauses stay, and one comes behind them
reason_more : (cs : List (List Lit)) (c : List Lit) (leaves : ℕ) (a : Values) (l : Lit) (r : ℕ) → Reason cs leaves a l r → Reason (cs ++ c ∷ []) leaves a l r
reason_more cs c leaves a l zero h = h
reason_more cs c leaves a l (suc r) h = record { clause = h.clause; there = get_front cs (c ∷ []) r h.clause h.there; unit = h.unit }

trail_more : (cs : List (List Lit)) (c : List Lit) (leaves : ℕ) (tr : List Mark) → IsTrail cs leaves tr → IsTrail (cs ++ c ∷ []) leaves tr
trail_more cs c leaves [] ok = tt
trail_more cs c leaves (m ∷ ms) ok = (ok.0, reason_more cs c leaves (assigned ms) m.lit m.reason ok.1, trail_more cs c leaves ms ok.2)

watched_clause : (b a : Values) (cs : List (List Lit)) (c : List Lit) (ps : List Pair) → length ps ≤ length cs → AreWatched b a cs ps → AreWatched b a (cs ++ c ∷ []) ps
watched_clause b a cs c ps le all k d p x y = elim (get_snoc cs k c d x) [
  | inl s ↦ absurd (let lt = slice_get_within ps k p y in omega (arith, s.0))
  | inr e ↦ all k d p e y
]

pub held_clause : (cs : List (List Lit)) (leaves size count : ℕ) (t : Trail) (w : Watches) (c : List Lit) → IsHeld cs leaves size count t w → Fits size c → IsHeld (cs ++ c ∷ []) leaves size count t w
held_clause cs leaves size count t w c h fit =
    let more : length (cs ++ c ∷ []) ≡ length cs + 1 = length-append cs (c ∷ []) in
    let few = h.few in
    let a = reads t.values.items in
    record {
      synced = record {
        values_are = h.synced.values_are;
        trail = trail_more cs c leaves (reverse t.marks) h.synced.trail;
        marks_fit = h.synced.marks_fit;
        reasons = λ k d lt. omega (arith, more, h.synced.reasons k d lt);
      };
      fit = fits_more size cs (cs ++ c ∷ []) c refl h.fit fit;
      size_is = h.size_is;
      marks_open = h.marks_open;
      done = h.done;
      count_is = h.count_is;
      few = omega (arith, more, few);
      room = h.room;
      listed = h.listed;
      watched = watched_clause (first_values t.done t.marks) a cs c w.pairs.items (omega (arith, h.count_is, few)) h.watched;
      cuts = cuts_map (λ v. AreWatched v v cs w.pairs.items) (λ v. AreWatched v v (cs ++ c ∷ []) w.pairs.items) cs leaves (reverse t.marks) (assigned (reverse t.marks)) h.synced.trail
          (within_same (assigned (reverse t.marks))) (λ v in' all. watched_clause v v cs c w.pairs.items (omega (arith, h.count_is, few)) all) h.cuts;
      from = h.from;
      upto = h.upto;
      given = h.given;
    }

watched_add : (b a : Values) (cs : List (List Lit)) (c : List Lit) (ps ps' : List Pair) (p : Pair) → ps' ≡ ps ++ p ∷ [] → slice_get cs (length ps) ≡ Some c → IsWatched b a c p → AreWatched b a cs ps → AreWatched b a cs ps'
watched_add b a cs c ps ps' p e there here all k d q x y = elim (get_snoc ps k p q (ap (λ (rs : List Pair). slice_get rs k) (sym e) ∙ y)) [
  | inl s ↦ subst (IsWatched b a d) s.1 (subst (λ (i : List Lit). IsWatched b a i p) (same_some c d (sym there ∙ ap (slice_get cs) (sym s.0) ∙ x)) here)
  | inr old ↦ all k d q x old
]

cut_both : (P Q R : Values → Type 0) (r : ℕ) (a : Values) (S T U : Type 0) → ((v : Values) → P v → Q v → R v) → (S → T → U) → CutAt P r a S → CutAt Q r a T → CutAt R r a U
cut_both P Q R zero a S T U f g h k = (f a h.0 k.0, g h.1 k.1)
cut_both P Q R (suc r) a S T U f g h k = g h k

pub cuts_both : (P Q R : Values → Type 0) (tr : List Mark) → ((v : Values) → P v → Q v → R v) → AtCuts P tr → AtCuts Q tr → AtCuts R tr
cuts_both P Q R [] f h k = tt
cuts_both P Q R (m ∷ ms) f h k = cut_both P Q R m.reason (assigned ms) (AtCuts P ms) (AtCuts Q ms) (AtCuts R ms) f (cuts_both P Q R ms f) h k

-- one more clause is watched
pub held_add : (cs : List (List Lit)) (leaves size count : ℕ) (t : Trail) (w w' : Watches) (c : List Lit) (p : Pair) → IsHeld cs leaves size count t w → slice_get cs count ≡ Some c → code_of p.first < length w.lists.items → code_of p.second < length w.lists.items → IsWatched (first_values t.done t.marks) (reads t.values.items) c p → AtCuts (λ v. IsWatched v v c p) (reverse t.marks) → w'.lists.items ≡ listed_more (listed_more w.lists.items (code_of p.first) (length w.pairs.items)) (code_of p.second) (length w.pairs.items) → w'.pairs.items ≡ w.pairs.items ++ p ∷ [] → IsHeld cs leaves size (count + 1) t w'
held_add cs leaves size count t w w' c p h there room1 room2 here cuts le pe =
    let n = length w.pairs.items in
    let there' : slice_get cs n ≡ Some c = ap (slice_get cs) h.count_is ∙ there in
    let mid : List (List ℕ) = listed_more w.lists.items (code_of p.first) n in
    let mid_is : length mid ≡ length w.lists.items = length-set w.lists.items (code_of p.first) _ in
    let lt = slice_get_within cs count c there in
    let kept : (l : Lit) (k : ℕ) → IsOn w.lists.items l k → IsOn w'.lists.items l k =
    λ l k g. subst (λ (ls : List (List ℕ)). IsOn ls l k) (sym le) (from_more mid (code_of p.second) n (code_of l) 0 k (omega arith) (from_more w.lists.items (code_of p.first) n (code_of l) 0 k room1 g)) in
    let on1 : IsOn w'.lists.items p.first n = subst (λ (ls : List (List ℕ)). IsOn ls p.first n) (sym le) (from_more mid (code_of p.second) n (code_of p.first) 0 n (omega arith) (on_here w.lists.items (code_of p.first) n room1)) in
    let on2 : IsOn w'.lists.items p.second n = subst (λ (ls : List (List ℕ)). IsOn ls p.second n) (sym le) (on_here mid (code_of p.second) n (omega arith)) in
    record {
      synced = h.synced;
      fit = h.fit;
      size_is = h.size_is;
      marks_open = h.marks_open;
      done = h.done;
      count_is = omega (arith, ap length pe, length-append w.pairs.items (p ∷ []), h.count_is);
      few = omega (arith, lt);
      room = ap length le ∙ length-set mid (code_of p.second) _ ∙ mid_is ∙ h.room;
      listed = λ k q y. elim (get_snoc w.pairs.items k p q (ap (λ (rs : List Pair). slice_get rs k) (sym pe) ∙ y)) [
        | inl s ↦ subst (λ (r : Pair). IsOn w'.lists.items r.first k × IsOn w'.lists.items r.second k) s.1 (subst (λ (j : ℕ). IsOn w'.lists.items p.first j × IsOn w'.lists.items p.second j) (sym s.0) (on1, on2))
        | inr old ↦ (kept q.first k (h.listed k q old).0, kept q.second k (h.listed k q old).1)
      ];
      watched = watched_add (first_values t.done t.marks) (reads t.values.items) cs c w.pairs.items w'.pairs.items p pe there' here h.watched;
      cuts = cuts_both (λ v. AreWatched v v cs w.pairs.items) (λ v. IsWatched v v c p) (λ v. AreWatched v v cs w'.pairs.items) (reverse t.marks)
          (λ v all one. watched_add v v cs c w.pairs.items w'.pairs.items p pe there' one all) h.cuts cuts;
      from = h.from;
      upto = h.upto;
      given = h.given;
    }

pub among_get : (c : List Lit) (k : ℕ) (l : Lit) → slice_get c k ≡ Some l → Among l c
among_get [] k l e = absurd cc
among_get (m ∷ ms) zero l e = inl (same_some l m (sym e))
among_get (m ∷ ms) (suc k) l e = inr (among_get ms k l e)

among_front : (c : List Lit) (k l : Lit) → Among k c → Among k (c ++ l ∷ [])
among_front [] k l h = absurd h
among_front (m ∷ ms) k l (inl e) = inl e
among_front (m ∷ ms) k l (inr h) = inr (among_front ms k l h)

among_before : (front older : List Lit) (k l : Lit) → front ≡ older ++ k ∷ [] → Among k (front ++ l ∷ [])
among_before front older k l e = subst (λ (f : List Lit). Among k (f ++ l ∷ [])) (sym e) (among_front (older ++ k ∷ []) k l (among_last older k))

pub nil_not_full : (c : List Lit) → 1 ≤ length c → c ≡ [] → ⊥
nil_not_full c h e = let z = ap length e in omega (arith, z)

record Newest (tr : List Mark) : Type 0 where
  decision : Lit
  older : List Mark
  is : before_decision tr ≡ Some (decision, older)

newest_by : (cs : List (List Lit)) (need : Needs) (tr : List Mark) (c : List Lit) (o : Option (Lit × List Mark)) → before_decision tr ≡ o → c ≡ (rests cs need tr).clause → 1 ≤ length c → Newest tr
newest_by cs need tr c None e is full = absurd (nil_not_full c full (is ∙ no_decision cs need tr e))
newest_by cs need tr c (Some p) e is full = record { decision = p.0; older = p.1; is = e }

decision_step : (y : ℕ) (l : Lit) (r : ℕ) (xs : List Mark) (d : Lit) (ms : List Mark) → before_at r l xs (before_decision xs) ≡ Some (d, ms) → make_true (assigned xs) l y ≡ None → (before_decision xs ≡ Some (d, ms) → assigned xs y ≡ None → (y ≡ variable_of d → ⊥) × (assigned ms y ≡ None)) → (y ≡ variable_of d → ⊥) × (assigned ms y ≡ None)
decision_step y l zero xs d ms e h rec =
    let p = some_pair l d xs ms e in
    let n = none_before (assigned xs) l y h in
    (λ s. n.0 (s ∙ ap variable_of (sym p.0)), ap (λ (ys : List Mark). assigned ys y) (sym p.1) ∙ n.1)
decision_step y l (suc r) xs d ms e h rec = rec e (none_before (assigned xs) l y h).1

-- what is open was open at the newest decision, and is another variable
decision_none : (y : ℕ) (tr : List Mark) (d : Lit) (ms : List Mark) → before_decision tr ≡ Some (d, ms) → assigned tr y ≡ None → (y ≡ variable_of d → ⊥) × (assigned ms y ≡ None)
decision_none y [] d ms e h = absurd cc
decision_none y (m ∷ xs) d ms e h = decision_step y m.lit m.reason xs d ms e h (decision_none y xs d ms)

abbrev Open : ℕ → Values → Type 0
Open y = λ v. v y ≡ None

open_step : (y r : ℕ) (a : Values) (R : Type 0) → a y ≡ None → R → CutAt (Open y) r a R
open_step y zero a R h g = (h, g)
open_step y (suc r) a R h g = g

-- what is open is open at each cut
open_cuts : (y : ℕ) (tr : List Mark) → assigned tr y ≡ None → AtCuts (Open y) tr
open_cuts y [] h = tt
open_cuts y (m ∷ ms) h =
    let n = (none_before (assigned ms) m.lit y h).1 in
    open_step y m.reason (assigned ms) (AtCuts (Open y) ms) n (open_cuts y ms n)

newest_step : (cs : List (List Lit)) (leaves : ℕ) (l : Lit) (r : ℕ) (xs : List Mark) (d : Lit) (ms : List Mark) → assigned xs (variable_of l) ≡ None → before_at r l xs (before_decision xs) ≡ Some (d, ms) → (before_decision xs ≡ Some (d, ms) → AtCuts (Open (variable_of d)) xs) → CutAt (Open (variable_of d)) r (assigned xs) (AtCuts (Open (variable_of d)) xs)
newest_step cs leaves l zero xs d ms fresh e rec =
    let p = some_pair l d xs ms e in
    let h : assigned xs (variable_of d) ≡ None = ap (λ (k : Lit). assigned xs (variable_of k)) (sym p.0) ∙ fresh in
    (h, open_cuts (variable_of d) xs h)
newest_step cs leaves l (suc r) xs d ms fresh e rec = rec e

-- the newest decision's variable is open at each cut
newest_cuts : (cs : List (List Lit)) (leaves : ℕ) (tr : List Mark) (d : Lit) (ms : List Mark) → IsTrail cs leaves tr → before_decision tr ≡ Some (d, ms) → AtCuts (Open (variable_of d)) tr
newest_cuts cs leaves [] d ms ok e = absurd cc
newest_cuts cs leaves (m ∷ xs) d ms ok e = newest_step cs leaves m.lit m.reason xs d ms ok.0 e (newest_cuts cs leaves xs d ms ok.2)

module _ (cs : List (List Lit)) (leaves size : ℕ) (t : Trail) (w : Watches) (h : IsHeld cs leaves size (length cs) t w) (c : List Lit) (tc : IsTraced cs t.marks c) (full : 1 ≤ length c) where
  trail : List Mark
  trail = reverse t.marks

  Cut : Values → Type 0
  Cut v = AreWatched v v cs w.pairs.items

  record Learning : Type 0 where
    d : Lit
    ms : List Mark
    need : Needs
    is : c ≡ (rests cs need ms).clause ++ opposite d ∷ []
    fresh : assigned ms (variable_of d) ≡ None
    decision : IsDecision leaves (assigned ms) d
    ok : IsTrail cs leaves ms
    newest : before_decision (reverse t.marks) ≡ Some (d, ms)
    cut : AreWatched (assigned ms) (assigned ms) cs w.pairs.items
    cuts : AtCuts (λ v. AreWatched v v cs w.pairs.items) ms

  learning : Learning
  learning =
      let n : Newest (reverse t.marks) = newest_by cs tc.need (reverse t.marks) c (before_decision (reverse t.marks)) refl tc.is full in
      let at = cuts_before (λ v. AreWatched v v cs w.pairs.items) (reverse t.marks) n.decision n.older n.is h.cuts in
      let closed : IsClosed (assigned n.older) cs = watched_closed (assigned n.older) cs w.pairs.items h.count_is at.0 in
      let g : Greatest cs leaves c n.decision n.older = greatest cs leaves tc.need (reverse t.marks) n.decision n.older c tc.hints tc.is h.synced.trail n.is closed tc.closes_it in
      let b = trail_before cs leaves (reverse t.marks) n.decision n.older h.synced.trail n.is in
      record { d = n.decision; ms = n.older; need = g.need; is = g.is; fresh = b.0; decision = b.1; ok = b.2; newest = n.is; cut = at.0; cuts = at.1 }

  module _ (x : ℕ) (second : (front : List Lit) (l : Lit) → c ≡ front ++ l ∷ [] → LastIs front x) (leaf_lits : Each (IsLeafLit leaves) c) (leaves_in : leaves < size) where
    front : List Lit
    front = (rests cs learning.need learning.ms).clause

    jumped_to : List Mark
    jumped_to = jumped x (reverse t.marks) (reverse t.marks)

    last : LastIs ((rests cs learning.need learning.ms).clause) x
    last = second ((rests cs learning.need learning.ms).clause) (opposite learning.d) learning.is

    front_decided : Each (IsDecided leaves (assigned learning.ms)) ((rests cs learning.need learning.ms).clause)
    front_decided = clause_decided cs leaves learning.need learning.ms learning.ok

    jump_is : jumped x (reverse t.marks) (reverse t.marks) ≡ jumped x learning.ms learning.ms
    jump_is =
        jump_top x (reverse t.marks) (reverse t.marks) learning.d learning.ms learning.newest
        (other_last leaves (assigned learning.ms) ((rests cs learning.need learning.ms).clause) x (variable_of learning.d) front_decided last learning.decision.above learning.fresh)

    inherits : (I : List Mark → Type 0) → ((m : Mark) (ms : List Mark) → I (m ∷ ms) → I ms) → I learning.ms → I (jumped x (reverse t.marks) (reverse t.marks))
    inherits I f i = subst I (sym jump_is) (jumped_has I f x learning.ms learning.ms i i)

    jump_back : Back leaves ((rests cs learning.need learning.ms).clause) x (jumped x (reverse t.marks) (reverse t.marks))
    jump_back =
        subst (Back leaves ((rests cs learning.need learning.ms).clause) x) (sym jump_is)
        (back cs leaves ((rests cs learning.need learning.ms).clause) x last learning.need learning.ms learning.ms learning.ok refl refl front_decided)

    jump_trail : IsTrail cs leaves (jumped x (reverse t.marks) (reverse t.marks))
    jump_trail = inherits (IsTrail cs leaves) (λ m ms ok. ok.2) learning.ok

    jump_cuts : AtCuts (λ v. AreWatched v v cs w.pairs.items) (jumped x (reverse t.marks) (reverse t.marks))
    jump_cuts = inherits (AtCuts (λ v. AreWatched v v cs w.pairs.items)) (cuts_rest (λ v. AreWatched v v cs w.pairs.items)) learning.cuts

    jump_cut : AreWatched (assigned (jumped x (reverse t.marks) (reverse t.marks))) (assigned (jumped x (reverse t.marks) (reverse t.marks))) cs w.pairs.items
    jump_cut = subst (λ (tr : List Mark). AreWatched (assigned tr) (assigned tr) cs w.pairs.items) (sym jump_is) (jumped_cut (λ v. AreWatched v v cs w.pairs.items) x learning.ms learning.ms learning.cuts learning.cut)

    jump_open : assigned (jumped x (reverse t.marks) (reverse t.marks)) (variable_of learning.d) ≡ None
    jump_open = inherits (λ tr. assigned tr (variable_of learning.d) ≡ None) (λ m ms e. (none_before (assigned ms) m.lit (variable_of learning.d) e).1) learning.fresh

    module _ (t1 : Trail) (n : ℕ) (je : reverse t1.marks ≡ jumped x (reverse t.marks) (reverse t.marks)) (fe : t1.marks ≡ take n t.marks) (ve : reads t1.values.items ≡ assigned (reverse t1.marks)) (se : length t1.values.items ≡ length t.values.items) (oe : length t1.marks + open_count t1.values.items ≡ length t.marks + open_count t.values.items) (de : t1.done ≡ length t1.marks) (ne : t1.next ≡ x + 1) where
      trail1 : IsTrail cs leaves (reverse t1.marks)
      trail1 = subst (IsTrail cs leaves) (sym je) jump_trail

      back1 : Back leaves ((rests cs learning.need learning.ms).clause) x (reverse t1.marks)
      back1 = subst (Back leaves ((rests cs learning.need learning.ms).clause) x) (sym je) jump_back

      open1 : assigned (reverse t1.marks) (variable_of learning.d) ≡ None
      open1 = subst (λ (tr : List Mark). assigned tr (variable_of learning.d) ≡ None) (sym je) jump_open

      first1 : first_values t1.done t1.marks ≡ reads t1.values.items
      first1 = ap (λ (ms : List Mark). assigned (reverse ms)) (take_all t1.done t1.marks (omega arith)) ∙ sym ve

      upto1 : x ≤ leaves
      upto1 = elim back1.decision [
        | inl p ↦ let z = p.1 in omega arith
        | inr p ↦ let b = (trail_before cs leaves (reverse t1.marks) p.0 p.1 trail1 p.2).1 in omega (arith, b.leaf, p.3)
      ]

      given1 : (y : ℕ) → 1 ≤ y → y < x + 1 → assigned (reverse t1.marks) y ≡ None → ⊥
      given1 y above below e = elim back1.decision [
        | inl p ↦ let z = p.1 in omega arith
        | inr p ↦
            let b = (trail_before cs leaves (reverse t1.marks) p.0 p.1 trail1 p.2).1 in
            let f = decision_none y (reverse t1.marks) p.0 p.1 p.2 e in
            elim (cases_eq y (variable_of p.0)) [
              | inl s ↦ f.0 s
              | inr other ↦ b.least y above (let v = p.3 in omega arith) f.1
            ]
      ]

      pub held_jumped : IsHeld cs leaves size (length cs) t1 w
      held_jumped = record {
        synced = record {
          values_are = ve;
          trail = trail1;
          marks_fit = subst (λ (k : ℕ). All (λ m. variable_of m.lit < k) t1.marks) (sym se)
              (subst (All (λ m. variable_of m.lit < length t.values.items)) (sym fe) (All-take (λ m. variable_of m.lit < length t.values.items) n t.marks h.synced.marks_fit));
          reasons = subst (All (λ m. m.reason ≤ length cs)) (sym fe) (All-take (λ m. m.reason ≤ length cs) n t.marks h.synced.reasons);
        };
        fit = h.fit;
        size_is = se ∙ h.size_is;
        marks_open = oe ∙ h.marks_open;
        done = omega arith;
        count_is = h.count_is;
        few = h.few;
        room = h.room;
        listed = h.listed;
        watched = watched_at (assigned (jumped x (reverse t.marks) (reverse t.marks))) (first_values t1.done t1.marks) (assigned (jumped x (reverse t.marks) (reverse t.marks))) (reads t1.values.items) cs w.pairs.items
            (ap assigned (sym je) ∙ sym ve ∙ sym first1) (ap assigned (sym je) ∙ sym ve) jump_cut;
        cuts = subst (AtCuts (λ v. AreWatched v v cs w.pairs.items)) (sym je) jump_cuts;
        from = omega arith;
        upto = omega (arith, upto1);
        given = λ y p q e. given1 y p (omega arith) (ap (λ (a : Values). a y) (sym ve) ∙ e);
      }

      held1 : IsHeld (cs ++ c ∷ []) leaves size (length cs) t1 w
      held1 = held_clause cs leaves size (length cs) t1 w c held_jumped (leaves_fit leaves size c leaves_in leaf_lits)

      module _ (p : Pair) (pair : (front : List Lit) (l : Lit) → c ≡ front ++ l ∷ [] → AreLast front l p) where
        pair_is : AreLast ((rests cs learning.need learning.ms).clause) (opposite learning.d) p
        pair_is = pair ((rests cs learning.need learning.ms).clause) (opposite learning.d) learning.is

        open_first : reads t1.values.items (variable_of p.first) ≡ None
        open_first = ap (λ (a : Values). a (variable_of p.first)) ve ∙ ap (assigned (reverse t1.marks)) (ap variable_of pair_is.0 ∙ opposite_variable learning.d) ∙ open1

        pub pair_not_false : is_false (reads t1.values.items) p.first ≡ false
        pair_not_false = ap (denies (is_positive p.first)) open_first

        pub pair_not_true : is_true (reads t1.values.items) p.first ≡ false
        pair_not_true = ap (grants (is_positive p.first)) open_first

        Only : Lit → Type 0
        Only l = (l ≡ p.first) ⊎ (is_false (reads t1.values.items) l ≡ true)

        only_first : Each (λ l. (l ≡ p.first) ⊎ (is_false (reads t1.values.items) l ≡ true)) c
        only_first =
            subst (Each (λ l. (l ≡ p.first) ⊎ (is_false (reads t1.values.items) l ≡ true))) (sym learning.is)
            (Each-snoc (λ l. (l ≡ p.first) ⊎ (is_false (reads t1.values.items) l ≡ true)) ((rests cs learning.need learning.ms).clause) (opposite learning.d)
            (Each-weaker (IsDecided leaves (assigned (reverse t1.marks))) (λ l. (l ≡ p.first) ⊎ (is_false (reads t1.values.items) l ≡ true))
            (λ l i. inr (ap (λ (a : Values). is_false a l) ve ∙ decided_false leaves (assigned (reverse t1.marks)) l i)) ((rests cs learning.need learning.ms).clause) back1.decided)
            (inl (sym pair_is.0)))

        first_there : Among p.first c
        first_there = subst (λ (l : Lit). Among l c) (sym pair_is.0) (subst (Among (opposite learning.d)) (sym learning.is) (among_last ((rests cs learning.need learning.ms).clause) (opposite learning.d)))

        unit1 : standing_of (reads t1.values.items) c ≡ UnitAt p.first
        unit1 = unit_at (reads t1.values.items) c p.first only_first first_there pair_not_false

        pub pair_room : variable_of p.first < length t1.values.items
        pair_room = let b = learning.decision.leaf in omega (arith, ap variable_of pair_is.0, opposite_variable learning.d, se, h.size_is)

        second_there : Among p.second c
        second_there = elim pair_is.1 [
          | inl s ↦ subst (λ (l : Lit). Among l c) (pair_is.0 ∙ sym s.1) first_there
          | inr s ↦ subst (Among p.second) (sym learning.is) (among_before ((rests cs learning.need learning.ms).clause) s.0 p.second (opposite learning.d) s.1)
        ]

        second_given : (d' : Lit) (ms' : List Mark) → before_decision (reverse t1.marks) ≡ Some (d', ms') → variable_of p.second ≡ variable_of d' → assigned (reverse t1.marks) (variable_of p.second) ≡ None → ⊥
        second_given d' ms' e s o = (decision_none (variable_of p.second) (reverse t1.marks) d' ms' e o).0 s

        -- the newest decision that is left is that of the second literal
        second_same : (d' : Lit) → 1 ≤ variable_of d' → x ≡ variable_of d' → variable_of p.second ≡ variable_of d'
        second_same d' above e = elim last [
          | inl z ↦ absurd (let zero_is = z.1 in omega arith)
          | inr k ↦ elim pair_is.1 [
            | inl s ↦ absurd (no_last k.1 k.0 (sym k.2 ∙ s.0))
            | inr s ↦ ap variable_of (last_same s.0 k.1 p.second k.0 (sym s.1 ∙ k.2)) ∙ sym k.3 ∙ e
          ]
        ]

        -- at each cut of the trail that is left both literals of the pair are open, and differ
        two_open_by : (d' : Lit) (ms' : List Mark) → before_decision (reverse t1.marks) ≡ Some (d', ms') → variable_of p.second ≡ variable_of d' → (v : Values) → v (variable_of p.first) ≡ None → v (variable_of p.second) ≡ None → IsWatched v v c p
        two_open_by d' ms' e s v o1 o2 = record {
          first_there = first_there;
          second_there = second_there;
          two = inl (λ same. second_given d' ms' e s (ap (assigned (reverse t1.marks)) (sym (ap variable_of same)) ∙ ap (assigned (reverse t1.marks)) (ap variable_of pair_is.0 ∙ opposite_variable learning.d) ∙ open1));
          first = λ f. absurd (false≢true (ap (denies (is_positive p.first)) (sym o1) ∙ f));
          second = λ f. absurd (false≢true (ap (denies (is_positive p.second)) (sym o2) ∙ f));
        }

        pair_cuts : AtCuts (λ v. IsWatched v v c p) (reverse t1.marks)
        pair_cuts = elim back1.decision [
          | inl s ↦ cuts_none (λ v. IsWatched v v c p) (reverse t1.marks) s.2
          | inr s ↦
              let same : variable_of p.second ≡ variable_of s.0 = second_same s.0 (trail_before cs leaves (reverse t1.marks) s.0 s.1 trail1 s.2).1.above s.3 in
              cuts_both (Open (variable_of p.first)) (Open (variable_of s.0)) (λ v. IsWatched v v c p) (reverse t1.marks)
              (λ v o1 o2. two_open_by s.0 s.1 s.2 same v o1 (ap v same ∙ o2))
              (open_cuts (variable_of p.first) (reverse t1.marks) (ap (assigned (reverse t1.marks)) (ap variable_of pair_is.0 ∙ opposite_variable learning.d) ∙ open1))
              (newest_cuts cs leaves (reverse t1.marks) s.0 s.1 trail1 s.2)
        ]

        module _ (t2 : Trail) (w' : Watches) (me : t2.marks ≡ t1.marks ++ record { lit = p.first; reason = length cs + 1 } ∷ []) (ve2 : t2.values.items ≡ set t1.values.items (variable_of p.first) (Some (is_positive p.first))) (de2 : t2.done ≡ t1.done) (ne2 : t2.next ≡ t1.next) where
          held2 : IsHeld (cs ++ c ∷ []) leaves size (length cs) t2 w
          held2 = held_forced (cs ++ c ∷ []) leaves size (length cs) t1 t2 w held1 (length cs) c p.first (get_last cs c) unit1 pair_not_true pair_room me ve2 de2 ne2

          true2 : is_true (reads t2.values.items) p.first ≡ true
          true2 = ap (λ (a : Values). is_true a p.first) (sym (forced_values (cs ++ c ∷ []) leaves size (length cs) t1 t2 w held1 (length cs) c p.first (get_last cs c) unit1 pair_not_true pair_room me ve2 de2 ne2)) ∙ true_here (reads t1.values.items) p.first

          first2 : first_values t2.done t2.marks ≡ reads t1.values.items
          first2 =
              sym (forced_first (cs ++ c ∷ []) leaves size (length cs) t1 t2 w held1 (length cs) c p.first (get_last cs c) unit1 pair_not_true pair_room me ve2 de2 ne2 t2.done (omega (arith, de, de2)))
              ∙ ap (λ (k : ℕ). first_values k t1.marks) de2 ∙ first1

          watched2 : IsWatched (first_values t2.done t2.marks) (reads t2.values.items) c p
          watched2 = record {
            first_there = first_there;
            second_there = second_there;
            two = inr true2;
            first = λ f. absurd (false≢true (sym pair_not_false ∙ ap (λ (a : Values). is_false a p.first) (sym first2) ∙ f));
            second = λ f. true2;
          }

          cuts2 : AtCuts (λ v. IsWatched v v c p) (reverse t2.marks)
          cuts2 =
              subst (AtCuts (λ v. IsWatched v v c p)) (sym (ap reverse me ∙ newest t1.marks (record { lit = p.first; reason = length cs + 1 })))
              (subst (λ (r : ℕ). AtCuts (λ v. IsWatched v v c p) (record { lit = p.first; reason = r } ∷ reverse t1.marks)) (sym (add-one (length cs))) pair_cuts)

          pub held_learned : code_of p.first < length w.lists.items → code_of p.second < length w.lists.items → w'.lists.items ≡ listed_more (listed_more w.lists.items (code_of p.first) (length w.pairs.items)) (code_of p.second) (length w.pairs.items) → w'.pairs.items ≡ w.pairs.items ++ p ∷ [] → IsHeld (cs ++ c ∷ []) leaves size (length cs + 1) t2 w'
          held_learned room1 room2 le pe = held_add (cs ++ c ∷ []) leaves size (length cs) t2 w w' c p held2 (get_last cs c) room1 room2 watched2 cuts2 le pe

        pub pair_first_code : code_of p.first < length w.lists.items
        pair_first_code = omega (arith, code_within p.first size (omega (arith, pair_room, se, h.size_is)), h.room)

        pub pair_second_code : code_of p.second < length w.lists.items
        pair_second_code = omega (arith, code_within p.second size (all_each size c (leaves_fit leaves size c leaves_in leaf_lits) p.second second_there), h.room)
