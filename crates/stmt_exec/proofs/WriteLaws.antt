-- The three kinds of assignments.
use Rattle.std.proofs.Common.{◌≡◌, ℕ, ◌≤◌, Bool, true, false, List, [], ◌∷◌, length, map, ap, ap₂, refl, sym, subst, ◌∙◌, arith, All, Option, if◌then◌else◌}
use Rattle.std.specs.Prelude.{slice_index_or}
use Rattle.std.proofs.lemmas.List.Elements.{All-head, All-tail}
use Rattle.value_domain.specs.Meaning.{Meaning, Keeps}
use Rattle.value_domain.specs.Words.{allows}
use Rattle.stmt_exec.specs.declared.aims.Target.{Target}
use Rattle.stmt_exec.specs.declared.aims.Spot.{Spot}
use Rattle.stmt_exec.specs.declared.aims.Spot.TheVariants as spot
use Rattle.stmt_exec.proofs.DomainLaws.{kept_all, kept_reads}
use Rattle.design_core.specs.Core.{St, puts}
use Rattle.stmt_exec.specs.State.{IsFrame, IsLike, assignment, ran, state_in}
use Rattle.stmt_exec.specs.Aims.{IsTarget, SpotTakes, aim_of, all_places, all_written, hit_of, spot_most}
use Rattle.stmt_exec.specs.Writes.{AllFit, BlockingWrites, FitsAim, LocalWrites, StoredWrites, hits}
use Rattle.stmt_exec.proofs.StateLaws.{set_assignment, puts_all}

pub blocking_writes : BlockingWrites
blocking_writes later locals as' vs rows fit =
    puts_all true false (λ rs. record { now = assignment rs; later = later; locals = locals })
    (λ rs s k v l h. ap (λ σ. let x : St = record { now = σ; later = later; locals = locals } in x) (set_assignment rs s k v l (h refl)))
    (map length rows) as' vs rows refl fit

pub stored_writes : StoredWrites
stored_writes now locals as' vs rows fit =
    puts_all false false (λ rs. record { now = now; later = assignment rs; locals = locals })
    (λ rs s k v l h. ap (λ σ. let x : St = record { now = now; later = σ; locals = locals } in x) (set_assignment rs s k v l (h refl)))
    (map length rows) as' vs rows refl fit

pub local_writes : LocalWrites
local_writes now later as' vs rows fit =
    puts_all true true (λ rs. record { now = now; later = later; locals = rs }) (λ rs s k v l h. refl) (map length rows) as' vs rows refl fit

-- values that read as rows of their widths
module _ {S V : Type 0} (m : Meaning S V) (law : (d : S) (v : ℕ → Bool) (x : V) → m.is_value d x → length (m.reads d v x) ≡ m.width x) where
  row_widths : (d : S) (v : ℕ → Bool) (xs : List V) → All (m.is_value d) xs → map length (map (m.reads d v) xs) ≡ map m.width xs
  row_widths d v [] h = refl
  row_widths d v (x ∷ xs) h = ap₂ (λ a b. a ∷ b) (law d v x (All-head (m.is_value d) x xs h)) (row_widths d v xs (All-tail (m.is_value d) x xs h))

  hits_are : (inside : Bool) (widths : List ℕ) (d : S) (v : ℕ → Bool) (ts : List (Target V)) → hits (map (aim_of m inside widths d v) ts) ≡ map (hit_of m d v) ts
  hits_are inside widths d v [] = refl
  hits_are inside widths d v (t ∷ ts) = ap (λ r. hit_of m d v t ∷ r) (hits_are inside widths d v ts)

  aim_fits : (inside : Bool) (widths : List ℕ) (d : S) (v : ℕ → Bool) (t : Target V) → All (λ n. n ≤ 65536) widths → IsTarget m widths d t → FitsAim inside widths (aim_of m inside widths d v t)
  aim_fits inside widths d v t most h = record { there = h.there; most = at_most inside t.spot h.takes; least = λ i. at_least inside i t.spot h.takes }
    where
      at_most : (inside : Bool) (s : Spot V) → SpotTakes m d (slice_index_or widths t.vector 0) t.length s → slice_index_or widths t.vector 0 ≤ spot_most inside widths t.vector t.length s
      at_most b spot.Whole e = omega (arith, e)
      at_most true (spot.At low) e = most t.vector 0 h.there
      at_most false (spot.At low) e = omega arith
      at_most true (spot.Variable index start) e = most t.vector 0 h.there
      at_most false (spot.Variable index start) e = omega arith

      at_least : (inside : Bool) → inside ≡ false → (s : Spot V) → SpotTakes m d (slice_index_or widths t.vector 0) t.length s → spot_most inside widths t.vector t.length s ≤ slice_index_or widths t.vector 0
      at_least b i spot.Whole e = omega (arith, e)
      at_least true i s e = cc
      at_least false i (spot.At low) e = omega arith
      at_least false i (spot.Variable index start) e = omega arith

  all_fit : (inside : Bool) (widths : List ℕ) (d : S) (v : ℕ → Bool) (ts : List (Target V)) → All (λ n. n ≤ 65536) widths → All (IsTarget m widths d) ts → AllFit inside widths (map (aim_of m inside widths d v) ts)
  all_fit inside widths d v [] most h = tt
  all_fit inside widths d v (t ∷ ts) most h = (aim_fits inside widths d v t most (All-head (IsTarget m widths d) t ts h), all_fit inside widths d v ts most (All-tail (IsTarget m widths d) t ts h))

  ran_now : (a : Bool) (E : List (List Bool) → St) (rows after : List (List Bool)) (t : St) → E after ≡ t → E (if a then after else rows) ≡ ran a t (E rows)
  ran_now true E rows after t e = e
  ran_now false E rows after t e = refl

  -- the writes of targets are the assignment of a statement, where a guard allows them
  module _ (d0 d1 : S) (guard : Option V) (value : V) (ts : List (Target V)) (outer now next : List V) (k : Keeps m d0 d1) where
    abbrev rows_of : S → (ℕ → Bool) → List V → List (List Bool)
    rows_of d v xs = map (m.reads d v) xs

    pub assigned_now : (after : List V) → IsFrame m d0 false outer now next → All (IsTarget m (map m.width now) d0) ts → (v : ℕ → Bool)
        → rows_of d1 v after ≡ (if allows m d0 v guard then all_written (map (hit_of m d0 v) ts) (m.reads d0 v value) (rows_of d0 v now) else rows_of d0 v now)
        → state_in m d1 v false outer after next ≡ ran (allows m d0 v guard) (puts true (all_places false (map (aim_of m false (map m.width now) d0 v) ts)) (m.reads d0 v value) (state_in m d0 v false outer now next)) (state_in m d0 v false outer now next)
    assigned_now after f ti v e =
        let w = row_widths d0 v now f.now_are in
        ap₂ (λ r q. let x : St = record { now = assignment r; later = assignment q; locals = rows_of d1 v outer } in x) e (kept_reads m d0 d1 v next k f.next_are)
        ∙ ap (λ r. let x : St = record { now = assignment (if allows m d0 v guard then all_written (map (hit_of m d0 v) ts) (m.reads d0 v value) (rows_of d0 v now) else rows_of d0 v now); later = assignment (rows_of d0 v next); locals = r } in x) (kept_reads m d0 d1 v outer k f.outer_are)
        ∙ ran_now (allows m d0 v guard) (λ r. record { now = assignment r; later = assignment (rows_of d0 v next); locals = rows_of d0 v outer }) (rows_of d0 v now) (all_written (map (hit_of m d0 v) ts) (m.reads d0 v value) (rows_of d0 v now))
        (puts true (all_places false (map (aim_of m false (map m.width now) d0 v) ts)) (m.reads d0 v value) (state_in m d0 v false outer now next))
        (sym (blocking_writes (assignment (rows_of d0 v next)) (rows_of d0 v outer) (map (aim_of m false (map m.width now) d0 v) ts) (m.reads d0 v value) (rows_of d0 v now)
        (subst (λ ws. AllFit false ws (map (aim_of m false (map m.width now) d0 v) ts)) (sym w) (all_fit false (map m.width now) d0 v ts f.most ti))
        ∙ ap (λ hs. let x : St = record { now = assignment (all_written hs (m.reads d0 v value) (rows_of d0 v now)); later = assignment (rows_of d0 v next); locals = rows_of d0 v outer } in x) (hits_are false (map m.width now) d0 v ts)))

    pub assigned_next : (after : List V) → IsFrame m d0 false outer now next → All (IsTarget m (map m.width now) d0) ts → (v : ℕ → Bool)
        → rows_of d1 v after ≡ (if allows m d0 v guard then all_written (map (hit_of m d0 v) ts) (m.reads d0 v value) (rows_of d0 v next) else rows_of d0 v next)
        → state_in m d1 v false outer now after ≡ ran (allows m d0 v guard) (puts false (all_places false (map (aim_of m false (map m.width now) d0 v) ts)) (m.reads d0 v value) (state_in m d0 v false outer now next)) (state_in m d0 v false outer now next)
    assigned_next after f ti v e =
        let w = row_widths d0 v next f.next_are ∙ f.alike refl in
        ap₂ (λ r q. let x : St = record { now = assignment q; later = assignment r; locals = rows_of d1 v outer } in x) e (kept_reads m d0 d1 v now k f.now_are)
        ∙ ap (λ r. let x : St = record { now = assignment (rows_of d0 v now); later = assignment (if allows m d0 v guard then all_written (map (hit_of m d0 v) ts) (m.reads d0 v value) (rows_of d0 v next) else rows_of d0 v next); locals = r } in x) (kept_reads m d0 d1 v outer k f.outer_are)
        ∙ ran_now (allows m d0 v guard) (λ r. record { now = assignment (rows_of d0 v now); later = assignment r; locals = rows_of d0 v outer }) (rows_of d0 v next) (all_written (map (hit_of m d0 v) ts) (m.reads d0 v value) (rows_of d0 v next))
        (puts false (all_places false (map (aim_of m false (map m.width now) d0 v) ts)) (m.reads d0 v value) (state_in m d0 v false outer now next))
        (sym (stored_writes (assignment (rows_of d0 v now)) (rows_of d0 v outer) (map (aim_of m false (map m.width now) d0 v) ts) (m.reads d0 v value) (rows_of d0 v next)
        (subst (λ ws. AllFit false ws (map (aim_of m false (map m.width now) d0 v) ts)) (sym w) (all_fit false (map m.width now) d0 v ts f.most ti))
        ∙ ap (λ hs. let x : St = record { now = assignment (rows_of d0 v now); later = assignment (all_written hs (m.reads d0 v value) (rows_of d0 v next)); locals = rows_of d0 v outer } in x) (hits_are false (map m.width now) d0 v ts)))

    pub assigned_local : (after : List V) → IsFrame m d0 true outer now next → All (IsTarget m (map m.width now) d0) ts → (v : ℕ → Bool)
        → rows_of d1 v after ≡ (if allows m d0 v guard then all_written (map (hit_of m d0 v) ts) (m.reads d0 v value) (rows_of d0 v now) else rows_of d0 v now)
        → state_in m d1 v true outer after next ≡ ran (allows m d0 v guard) (puts true (all_places true (map (aim_of m true (map m.width now) d0 v) ts)) (m.reads d0 v value) (state_in m d0 v true outer now next)) (state_in m d0 v true outer now next)
    assigned_local after f ti v e =
        let w = row_widths d0 v now f.now_are in
        ap₂ (λ r q. let x : St = record { now = assignment q; later = assignment q; locals = r } in x) e (kept_reads m d0 d1 v outer k f.outer_are)
        ∙ ran_now (allows m d0 v guard) (λ r. record { now = assignment (rows_of d0 v outer); later = assignment (rows_of d0 v outer); locals = r }) (rows_of d0 v now) (all_written (map (hit_of m d0 v) ts) (m.reads d0 v value) (rows_of d0 v now))
        (puts true (all_places true (map (aim_of m true (map m.width now) d0 v) ts)) (m.reads d0 v value) (state_in m d0 v true outer now next))
        (sym (local_writes (assignment (rows_of d0 v outer)) (assignment (rows_of d0 v outer)) (map (aim_of m true (map m.width now) d0 v) ts) (m.reads d0 v value) (rows_of d0 v now)
        (subst (λ ws. AllFit true ws (map (aim_of m true (map m.width now) d0 v) ts)) (sym w) (all_fit true (map m.width now) d0 v ts f.most ti))
        ∙ ap (λ hs. let x : St = record { now = assignment (rows_of d0 v outer); later = assignment (rows_of d0 v outer); locals = all_written hs (m.reads d0 v value) (rows_of d0 v now) } in x) (hits_are true (map m.width now) d0 v ts)))

    pub assigned_blocking : (inside blocking : Bool) → blocking ≡ true → (after : List V) → IsFrame m d0 inside outer now next → All (IsTarget m (map m.width now) d0) ts → (v : ℕ → Bool)
        → rows_of d1 v after ≡ (if allows m d0 v guard then all_written (map (hit_of m d0 v) ts) (m.reads d0 v value) (rows_of d0 v now) else rows_of d0 v now)
        → state_in m d1 v inside outer after next ≡ ran (allows m d0 v guard) (puts blocking (all_places inside (map (aim_of m inside (map m.width now) d0 v) ts)) (m.reads d0 v value) (state_in m d0 v inside outer now next)) (state_in m d0 v inside outer now next)
    assigned_blocking true true b after f ti v e = assigned_local after f ti v e
    assigned_blocking false true b after f ti v e = assigned_now after f ti v e
    assigned_blocking true false b after f ti v e = cc
    assigned_blocking false false b after f ti v e = cc

    pub assigned_stored : (inside blocking : Bool) → blocking ≡ false → (inside ≡ true → blocking ≡ true) → (after : List V) → IsFrame m d0 inside outer now next → All (IsTarget m (map m.width now) d0) ts → (v : ℕ → Bool)
        → rows_of d1 v after ≡ (if allows m d0 v guard then all_written (map (hit_of m d0 v) ts) (m.reads d0 v value) (rows_of d0 v next) else rows_of d0 v next)
        → state_in m d1 v inside outer now after ≡ ran (allows m d0 v guard) (puts blocking (all_places inside (map (aim_of m inside (map m.width now) d0 v) ts)) (m.reads d0 v value) (state_in m d0 v inside outer now next)) (state_in m d0 v inside outer now next)
    assigned_stored false false b kind after f ti v e = assigned_next after f ti v e
    assigned_stored true false b kind after f ti v e = (let x : false ≡ true = kind refl in cc)
    assigned_stored true true b kind after f ti v e = cc
    assigned_stored false true b kind after f ti v e = cc

    pub stored_like : (inside blocking : Bool) → blocking ≡ false → (inside ≡ true → blocking ≡ true) → (after : List V) → IsFrame m d0 inside outer now next → All (m.is_value d1) after → map m.width after ≡ map m.width next → IsLike m d1 inside outer now after now
    stored_like inside blocking b kind after f are wide = record {
      frame = record {
        outer_are = kept_all m d0 d1 outer k f.outer_are;
        now_are = kept_all m d0 d1 now k f.now_are;
        next_are = are;
        most = f.most;
        alike = λ i. wide ∙ f.alike i;
      };
      now_wide = refl;
    }
