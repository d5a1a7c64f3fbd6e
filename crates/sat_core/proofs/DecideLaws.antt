-- The next decision.
use Rattle.std.proofs.Common.{◌≡◌, ℕ, ◌+◌, ◌<◌, ◌≤◌, Bool, false, List, [], ◌∷◌, ◌++◌, refl, sym, ap, subst, ◌∙◌, Option, Some, None, inl, inr, set, length, reverse, arith, length-append}
use Rattle.std.proofs.lemmas.Bool.{cases_lt}
use Rattle.std.proofs.lemmas.List.{take_all, length-set}
use Rattle.cnf_core.specs.declared.lit.Lit.{Lit}
use Rattle.cnf_core.specs.Closed.{IsClosed}
use Rattle.cnf_core.specs.Lit.{variable_of, is_positive}
use Rattle.cnf_core.specs.Values.{Values}
use Rattle.sat_core.specs.declared.trail.Mark.{Mark}
use Rattle.sat_core.specs.declared.trail.Trail.{Trail}
use Rattle.sat_core.specs.declared.watching.Watches.{Watches}
use Rattle.sat_core.specs.Round.{IsLeastOpen, IsFull, ClosedIf, BeforeClosed}
use Rattle.sat_core.specs.Sync.{reads, open_count, IsSynced}
use Rattle.sat_core.specs.Trail.{assigned, before_decision}
use Rattle.sat_core.specs.Watch.{AtCuts, AreWatched, IsHeld, first_values}
use Rattle.sat_core.proofs.BackLaws.{cuts_before}
use Rattle.sat_core.proofs.ClosedLaws.{Within}
use Rattle.sat_core.proofs.CutLaws.{within_more, none_less}
use Rattle.sat_core.proofs.HeldLaws.{open_less, newest, first_push, watched_at}
use Rattle.sat_core.proofs.PassLaws.{decided_synced, reads-set}
use Rattle.sat_core.proofs.WatchLaws.{watched_closed, watched_more}

module _ (cs : List (List Lit)) (leaves size : ℕ) (t : Trail) (w : Watches) (h : IsHeld cs leaves size (length cs) t w) where
  closed_by : (o : Option (Lit × List Mark)) → before_decision (reverse t.marks) ≡ o → ClosedIf cs o
  closed_by None e = tt
  closed_by (Some p) e = watched_closed (assigned p.1) cs w.pairs.items h.count_is (cuts_before (λ v. AreWatched v v cs w.pairs.items) (reverse t.marks) p.0 p.1 e h.cuts).0

  -- nothing was left to do before the newest decision
  pub held_before_closed : BeforeClosed cs t.marks
  held_before_closed = closed_by (before_decision (reverse t.marks)) refl

  module _ (all : t.done ≡ length t.marks) where
    first_all : first_values t.done t.marks ≡ assigned (reverse t.marks)
    first_all = ap (λ (ms : List Mark). assigned (reverse ms)) (take_all t.done t.marks (omega arith))

    cut_all : AreWatched (assigned (reverse t.marks)) (assigned (reverse t.marks)) cs w.pairs.items
    cut_all = watched_at (first_values t.done t.marks) (assigned (reverse t.marks)) (reads t.values.items) (assigned (reverse t.marks)) cs w.pairs.items first_all h.synced.values_are h.watched

    -- at the end of the queue nothing is left to do
    pub held_closed : IsClosed (reads t.values.items) cs
    held_closed = subst (λ (a : Values). IsClosed a cs) (sym h.synced.values_are) (watched_closed (assigned (reverse t.marks)) cs w.pairs.items h.count_is cut_all)

    module _ (x : ℕ) (from : t.next ≤ x) (below : (y : ℕ) → t.next ≤ y → y < x → reads t.values.items y ≡ None → ⊥) where
      given_below : (y : ℕ) → 1 ≤ y → y < x → reads t.values.items y ≡ None → ⊥
      given_below y p q e = elim (cases_lt y t.next) [
        | inl lt ↦ h.given y p lt e
        | inr ge ↦ below y ge q e
      ]

      pub held_full : leaves < x → IsFull cs leaves (reads t.values.items)
      held_full lt = record { closed = held_closed; given = λ y p q e. given_below y p (omega arith) e }

      pub held_looked : (t' : Trail) → x ≤ leaves + 1 → t'.marks ≡ t.marks → t'.values.items ≡ t.values.items → t'.done ≡ t.done → t'.next ≡ x → IsHeld cs leaves size (length cs) t' w
      held_looked t' upto me ve de ne = record {
        synced = subst (λ (ms : List Mark). IsSynced cs leaves ms t'.values.items) (sym me) (subst (IsSynced cs leaves t.marks) (sym ve) h.synced);
        fit = h.fit;
        size_is = ap length ve ∙ h.size_is;
        marks_open = omega (arith, ap length me, ap open_count ve, h.marks_open);
        done = omega (arith, ap length me, h.done, de);
        count_is = h.count_is;
        few = h.few;
        room = h.room;
        listed = h.listed;
        watched = watched_at (first_values t.done t.marks) (first_values t'.done t'.marks) (reads t.values.items) (reads t'.values.items) cs w.pairs.items
            (ap (first_values t.done) (sym me) ∙ ap (λ (n : ℕ). first_values n t'.marks) (sym de)) (ap reads (sym ve)) h.watched;
        cuts = subst (λ (ms : List Mark). AtCuts (λ v. AreWatched v v cs w.pairs.items) (reverse ms)) (sym me) h.cuts;
        from = let f = h.from in omega arith;
        upto = omega arith;
        given = λ y p q e. given_below y p (omega arith) (ap (λ (vs : List (Option Bool)). reads vs y) (sym ve) ∙ e);
      }

      -- the least open leaf is made false
      module _ (leaf : x ≤ leaves) (open_x : reads t.values.items x ≡ None) (l : Lit) (variable : variable_of l ≡ x) (sign : is_positive l ≡ false) (t' : Trail) (room : variable_of l < length t.values.items) (me : t'.marks ≡ t.marks ++ record { lit = l; reason = 0 } ∷ []) (ve : t'.values.items ≡ set t.values.items (variable_of l) (Some (is_positive l))) (de : t'.done ≡ t.done) (ne : t'.next ≡ x) where
        open_l : reads t.values.items (variable_of l) ≡ None
        open_l = ap (reads t.values.items) variable ∙ open_x

        least : IsLeastOpen leaves (reads t.values.items) (variable_of l)
        least = record { above = let f = h.from in omega arith; leaf = omega arith; none = open_l; least = λ y p q e. given_below y p (omega arith) e }

        more : Within (reads t.values.items) (reads t'.values.items)
        more = subst (Within (reads t.values.items)) (sym (ap reads ve ∙ reads-set t.values.items (variable_of l) (is_positive l) room)) (within_more (reads t.values.items) l open_l)

        pub held_decided : IsHeld cs leaves size (length cs) t' w
        held_decided = record {
          synced = decided_synced cs leaves l t.marks t'.marks t.values.items t'.values.items h.synced held_closed least sign room me ve;
          fit = h.fit;
          size_is = ap length ve ∙ length-set t.values.items (variable_of l) (Some (is_positive l)) ∙ h.size_is;
          marks_open = omega (arith, ap length me, length-append t.marks (record { lit = l; reason = 0 } ∷ []), open_less t.values.items (variable_of l) (is_positive l) room open_l, ap open_count ve, h.marks_open);
          done = omega (arith, ap length me, length-append t.marks (record { lit = l; reason = 0 } ∷ []), h.done, de);
          count_is = h.count_is;
          few = h.few;
          room = h.room;
          listed = h.listed;
          watched = watched_at (first_values t.done t.marks) (first_values t'.done t'.marks) (reads t'.values.items) (reads t'.values.items) cs w.pairs.items
              (first_push t.done t.marks t'.marks (record { lit = l; reason = 0 }) h.done me ∙ ap (λ (n : ℕ). first_values n t'.marks) (sym de)) refl
              (λ k c p i j. watched_more (first_values t.done t.marks) (reads t.values.items) (reads t'.values.items) c p more (h.watched k c p i j));
          cuts = subst (AtCuts (λ v. AreWatched v v cs w.pairs.items)) (sym (ap reverse me ∙ newest t.marks (record { lit = l; reason = 0 }))) (cut_all, h.cuts);
          from = let f = h.from in omega arith;
          upto = omega arith;
          given = λ y p q e. given_below y p (omega arith) (none_less (reads t.values.items) (reads t'.values.items) y more e);
        }

        pub fewer_decided : open_count t'.values.items < open_count t.values.items
        fewer_decided = omega (arith, open_less t.values.items (variable_of l) (is_positive l) room open_l, ap open_count ve)
