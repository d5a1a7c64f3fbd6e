-- How the clauses of a formula come to be watched.
use Rattle.std.proofs.Common.{◌≡◌, ℕ, ◌+◌, ◌<◌, true, false, List, [], ◌∷◌, ◌++◌, sym, ap, ◌∙◌, Some, inl, ◌⊎◌, slice_get, set, length, reverse, arith}
use Rattle.cnf_core.specs.declared.lit.Lit.{Lit}
use Rattle.cnf_core.specs.declared.standing.Standing.TheVariants.{Unit as UnitAt}
use Rattle.cnf_core.specs.Learned.{Each}
use Rattle.cnf_core.specs.Lit.{variable_of, is_positive}
use Rattle.cnf_core.specs.Values.{Values, no_values, is_false, is_true, standing_of}
use Rattle.std.proofs.lemmas.Bool.{false≢true}
use Rattle.sat_core.specs.declared.trail.Trail.{Trail}
use Rattle.sat_core.specs.declared.watching.Pair.{Pair}
use Rattle.sat_core.specs.declared.watching.Watches.{Watches}
use Rattle.sat_core.specs.Learn.{IsPairAt, IsBegun, IsRefuted}
use Rattle.sat_core.specs.Sync.{reads}
use Rattle.sat_core.specs.Watch.{IsWatched, first_values, code_of, listed_more}
use Rattle.sat_core.proofs.CutLaws.{cuts_none}
use Rattle.sat_core.proofs.FirstLaws.{all_false}
use Rattle.sat_core.proofs.HeldLaws.{held_forced, forced_values}
use Rattle.sat_core.proofs.LearnedLaws.{Each-weaker}
use Rattle.sat_core.proofs.LearnLaws.{held_add}
use Rattle.sat_core.proofs.LitLaws.{code_within}
use Rattle.sat_core.proofs.PassLaws.{forced}
use Rattle.sat_core.proofs.TurnLaws.{fits_of}
use Rattle.sat_core.proofs.WatchLaws.{unit_at, true_here}

module _ (cs : List (List Lit)) (leaves size k : ℕ) (t : Trail) (w : Watches) (b : IsBegun cs leaves size k t w) where
  pub refuted_by : (c : List Lit) → slice_get cs k ≡ Some c → Each (λ l. is_false (reads t.values.items) l ≡ true) c → IsRefuted cs leaves size t k
  refuted_by c there all = record {
    synced = b.held.synced;
    undecided = b.undecided;
    conflict = record { clause = c; there = there; falsified = all_false (reads t.values.items) c all };
  }

  module _ (p : Pair) (at : IsPairAt cs k p) where
    pub settle_room : variable_of p.first < length t.values.items
    settle_room = let lt = fits_of cs size k at.clause p.first b.held.fit at.there at.pair.first in omega (arith, b.held.size_is)

    pub begin_first : code_of p.first < length w.lists.items
    begin_first = omega (arith, code_within p.first size (fits_of cs size k at.clause p.first b.held.fit at.there at.pair.first), b.held.room)

    pub begin_second : code_of p.second < length w.lists.items
    begin_second = omega (arith, code_within p.second size (fits_of cs size k at.clause p.second b.held.fit at.there at.pair.second), b.held.room)

    pub settle_refuted : p.first ≡ p.second → is_false (reads t.values.items) p.first ≡ true → IsRefuted cs leaves size t k
    settle_refuted same off =
        refuted_by at.clause at.there
        (Each-weaker (λ l. l ≡ p.first) (λ l. is_false (reads t.values.items) l ≡ true) (λ l e. ap (is_false (reads t.values.items)) e ∙ off) at.clause (at.pair.alone same))

    module _ (same : p.first ≡ p.second) (not_false : is_false (reads t.values.items) p.first ≡ false) (not_true : is_true (reads t.values.items) p.first ≡ false) (t' : Trail) (me : t'.marks ≡ t.marks ++ record { lit = p.first; reason = k + 1 } ∷ []) (ve : t'.values.items ≡ set t.values.items (variable_of p.first) (Some (is_positive p.first))) (de : t'.done ≡ t.done) (ne : t'.next ≡ t.next) where
      settle_unit : standing_of (reads t.values.items) at.clause ≡ UnitAt p.first
      settle_unit =
          unit_at (reads t.values.items) at.clause p.first
          (Each-weaker (λ l. l ≡ p.first) (λ l. (l ≡ p.first) ⊎ (is_false (reads t.values.items) l ≡ true)) (λ l e. inl e) at.clause (at.pair.alone same)) at.pair.first not_false

      pub begun_settled : IsBegun cs leaves size k t' w
      begun_settled = record {
        held = held_forced cs leaves size k t t' w b.held k at.clause p.first at.there settle_unit not_true settle_room me ve de ne;
        undecided = (forced cs leaves k at.clause p.first t.marks t'.marks t.values.items t'.values.items b.held.synced at.there settle_unit not_true settle_room me ve).decision ∙ b.undecided;
        first = de ∙ b.first;
      }

      pub settled_true : is_true (reads t'.values.items) p.first ≡ true
      settled_true =
          ap (λ (a : Values). is_true a p.first) (sym (forced_values cs leaves size k t t' w b.held k at.clause p.first at.there settle_unit not_true settle_room me ve de ne)) ∙ true_here (reads t.values.items) p.first

    none_first : first_values t.done t.marks ≡ no_values
    none_first = ap (λ (n : ℕ). first_values n t.marks) b.first

    begin_watched : (p.first ≡ p.second → ⊥) ⊎ (is_true (reads t.values.items) p.first ≡ true) → IsWatched (first_values t.done t.marks) (reads t.values.items) at.clause p
    begin_watched two = record {
      first_there = at.pair.first;
      second_there = at.pair.second;
      two = two;
      first = λ f. absurd (false≢true (ap (λ (a : Values). is_false a p.first) (sym none_first) ∙ f));
      second = λ f. absurd (false≢true (ap (λ (a : Values). is_false a p.second) (sym none_first) ∙ f));
    }

    pub begun_more : (p.first ≡ p.second → ⊥) ⊎ (is_true (reads t.values.items) p.first ≡ true) → (w' : Watches) → w'.lists.items ≡ listed_more (listed_more w.lists.items (code_of p.first) (length w.pairs.items)) (code_of p.second) (length w.pairs.items) → w'.pairs.items ≡ w.pairs.items ++ p ∷ [] → IsBegun cs leaves size (k + 1) t w'
    begun_more two w' le pe = record {
      held = held_add cs leaves size k t w w' at.clause p b.held at.there begin_first begin_second (begin_watched two) (cuts_none (λ v. IsWatched v v at.clause p) (reverse t.marks) b.undecided) le pe;
      undecided = b.undecided;
      first = b.first;
    }
