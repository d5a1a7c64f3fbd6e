-- How a push keeps the solver's state.
use Rattle.std.proofs.Common.{◌≡◌, ℕ, ◌+◌, ◌<◌, ◌≤◌, Bool, false, cond, List, [], ◌∷◌, ◌++◌, refl, sym, ap, subst, ◌∙◌, Option, Some, None, slice_get, get_or, set, take, length, reverse, arith, add-one, length-append}
use Rattle.std.specs.Option.{is_none}
use Rattle.std.proofs.lemmas.List.Sums.{sum_by-set}
use Rattle.std.proofs.lemmas.List.{length-set, reverse-append, take-append-le}
use Rattle.cnf_core.specs.declared.lit.Lit.{Lit}
use Rattle.cnf_core.specs.declared.standing.Standing.TheVariants.{Unit as UnitAt}
use Rattle.cnf_core.specs.Lit.{variable_of, is_positive}
use Rattle.cnf_core.specs.Values.{Values, make_true, is_true, standing_of}
use Rattle.sat_core.specs.declared.trail.Mark.{Mark}
use Rattle.sat_core.specs.declared.trail.Trail.{Trail}
use Rattle.sat_core.specs.declared.watching.Pair.{Pair}
use Rattle.sat_core.specs.declared.watching.Watches.{Watches}
use Rattle.sat_core.specs.Trail.{assigned}
use Rattle.sat_core.specs.Sync.{reads, open_count}
use Rattle.sat_core.specs.Watch.{AtCuts, IsWatched, AreWatched, first_values, IsHeld, Went}
use Rattle.sat_core.proofs.ClosedLaws.{Within}
use Rattle.sat_core.proofs.CutLaws.{within_more, none_less}
use Rattle.sat_core.proofs.PassLaws.{forced, reads-set, unit_not_false}
use Rattle.sat_core.proofs.WatchLaws.{watched_more, open_at}

pub watched_at : (b b' a a' : Values) (cs : List (List Lit)) (ps : List Pair) → b ≡ b' → a ≡ a' → AreWatched b a cs ps → AreWatched b' a' cs ps
watched_at b b' a a' cs ps e h f =
    λ k c p x y. subst (λ (u : Values). IsWatched u a' c p) e (subst (λ (u : Values). IsWatched b u c p) h (f k c p x y))

-- a variable gets a value
pub open_less : (vs : List (Option Bool)) (x : ℕ) (b : Bool) → x < length vs → reads vs x ≡ None → open_count (set vs x (Some b)) + 1 ≡ open_count vs
open_less vs x b lt e =
    let f : Option Bool → ℕ = λ o. cond (is_none o) 1 0 in
    let was : f (get_or vs x None) ≡ 1 = ap f e in
    let now : open_count (set vs x (Some b)) + f (get_or vs x None) ≡ open_count vs + 0 = sum_by-set f vs x (Some b) None lt in
    omega (arith, was, now)

pub newest : (marks : List Mark) (m : Mark) → reverse (marks ++ m ∷ []) ≡ m ∷ reverse marks
newest marks m = reverse-append marks (m ∷ [])

pub first_push : (n : ℕ) (marks marks' : List Mark) (m : Mark) → n ≤ length marks → marks' ≡ marks ++ m ∷ [] → first_values n marks ≡ first_values n marks'
first_push n marks marks' m le e =
    ap (λ (ms : List Mark). assigned (reverse ms)) (sym (ap (take n) e ∙ take-append-le n marks (m ∷ []) le))

-- a forced literal is made true
module _ (cs : List (List Lit)) (leaves size count : ℕ) (t t' : Trail) (w : Watches) (h : IsHeld cs leaves size count t w) (k : ℕ) (c : List Lit) (l : Lit) (there : slice_get cs k ≡ Some c) (unit : standing_of (reads t.values.items) c ≡ UnitAt l) (off : is_true (reads t.values.items) l ≡ false) (room : variable_of l < length t.values.items) (me : t'.marks ≡ t.marks ++ record { lit = l; reason = k + 1 } ∷ []) (ve : t'.values.items ≡ set t.values.items (variable_of l) (Some (is_positive l))) (de : t'.done ≡ t.done) (ne : t'.next ≡ t.next) where
  forced_open : reads t.values.items (variable_of l) ≡ None
  forced_open = open_at (reads t.values.items) l (unit_not_false (reads t.values.items) c l unit) off

  pub forced_values : make_true (reads t.values.items) l ≡ reads t'.values.items
  forced_values = sym (ap reads ve ∙ reads-set t.values.items (variable_of l) (is_positive l) room)

  pub forced_more : Within (reads t.values.items) (reads t'.values.items)
  forced_more = subst (Within (reads t.values.items)) forced_values (within_more (reads t.values.items) l forced_open)

  pub forced_first : (n : ℕ) → n ≤ length t.marks → first_values n t.marks ≡ first_values n t'.marks
  forced_first n le = first_push n t.marks t'.marks _ le me

  forced_length : length t'.marks ≡ length t.marks + 1
  forced_length = ap length me ∙ length-append t.marks (record { lit = l; reason = k + 1 } ∷ [])

  pub held_forced : IsHeld cs leaves size count t' w
  held_forced =
      let g = forced cs leaves k c l t.marks t'.marks t.values.items t'.values.items h.synced there unit off room me ve in
      let less = open_less t.values.items (variable_of l) (is_positive l) room forced_open in
      let P : Values → Type 0 = λ v. AreWatched v v cs w.pairs.items in
      record {
        synced = g.synced;
        fit = h.fit;
        size_is = ap length ve ∙ length-set t.values.items (variable_of l) (Some (is_positive l)) ∙ h.size_is;
        marks_open = omega (arith, forced_length, less, ap open_count ve, h.marks_open);
        done = omega (arith, forced_length, h.done, de);
        count_is = h.count_is;
        few = h.few;
        room = h.room;
        listed = h.listed;
        watched = watched_at (first_values t.done t.marks) (first_values t'.done t'.marks) (reads t'.values.items) (reads t'.values.items) cs w.pairs.items
            (forced_first t.done h.done ∙ ap (λ (n : ℕ). first_values n t'.marks) (sym de)) refl
            (λ j d p x y. watched_more (first_values t.done t.marks) (reads t.values.items) (reads t'.values.items) d p forced_more (h.watched j d p x y));
        cuts = subst (AtCuts P) (sym (ap reverse me ∙ newest t.marks (record { lit = l; reason = k + 1 })))
            (subst (λ (r : ℕ). AtCuts P (record { lit = l; reason = r } ∷ reverse t.marks)) (sym (add-one k)) h.cuts);
        from = omega (arith, ne, h.from);
        upto = omega (arith, ne, h.upto);
        given = λ y p q e. h.given y p (omega (arith, ne)) (none_less (reads t.values.items) (reads t'.values.items) y forced_more e);
      }

  pub went_forced : Went t t'
  went_forced = record {
    done = de;
    fewer = omega (arith, open_less t.values.items (variable_of l) (is_positive l) room forced_open, ap open_count ve);
  }
