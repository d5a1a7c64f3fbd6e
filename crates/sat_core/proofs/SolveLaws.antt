-- One conflict adds one step to the learned log.
use Rattle.std.proofs.Common.{◌≡◌, ℕ, ◌+◌, ◌-◌, ◌<◌, ◌≤◌, Bool, true, false, cond, eqb, ltb, ◌||◌, List, [], ◌∷◌, ◌++◌, refl, sym, ap, subst, ◌∙◌, Option, Some, None, inl, inr, slice_get, length, ℤ, pos, zero, suc, arith, reverse, length-append, append_assoc, get_or, map, drop}
use Rattle.std.proofs.lemmas.List.{append-nil}
use Rattle.std.proofs.Math.Path.{fun_ext}
use Rattle.std.proofs.lemmas.Bool.{and_from, lt-ltb, cases_eq, eq-eqb, ne_eqb, cond-true, cond-false, eqb-true}
use Rattle.cnf_core.specs.declared.lit.Lit.{Lit}
use Rattle.cnf_core.specs.declared.formula.Step.{Step}
use Rattle.cnf_core.specs.declared.formula.Step.TheVariants.{Add, Delete}
use Rattle.cnf_core.specs.declared.standing.Standing.TheVariants.{Falsified}
use Rattle.cnf_core.specs.Values.{Values, standing_of}
use Rattle.cnf_core.specs.Accepted.{Clauses, numbered, with_clause, is_implied, is_accepted, has_complements, all_accepted}
use Rattle.sat_core.specs.declared.trail.Mark.{Mark}
use Rattle.cnf_core.specs.Closed.{IsClosed}
use Rattle.sat_core.specs.Trail.{assigned, IsTrail, before_decision}
use Rattle.cnf_core.specs.Learned.{Each, IsLeafLit, HasClosed, HoldsNone, IsLearned, RefutesWithin}
use Rattle.sat_core.specs.Rests.{has_variable, rests}
use Rattle.sat_core.specs.Round.{ClosedIf}
use Rattle.sat_core.specs.Solved.{learned_clauses, StepOk, IsAnalysed, IsTraced, InOrder, Ready, InRange, as_true, value_at}
use Rattle.cnf_core.specs.Lit.{variable_of, is_positive}
use mathlib.Core.Bool.{beq}
use Rattle.cnf_core.specs.Model.{IsModel, clause_true}
use Rattle.cnf_core.proofs.Sound.{Agrees, implied_true, AllTrue-numbered}
use Rattle.cnf_core.specs.Closed.{AreDecided, IsFirstModel}
use Rattle.sat_core.specs.Sync.{reads, Fits}
use Rattle.std.proofs.Common.{All}
use Rattle.std.proofs.lemmas.List.Elements.{All-nil, All-cons, All-push, All-same, All-tail}
use Rattle.sat_core.specs.Round.{FullTrail}
use Rattle.sat_core.proofs.FirstLaws.{AllGiven, model_of, first_model}
use Rattle.sat_core.proofs.RestLaws.{rests_close}
use Rattle.sat_core.proofs.LearnedLaws.{split, Split, trail_before, leaves_of, not_empty, has_closed, holds_none, no_decision}

or_true : (a b : Bool) → b ≡ true → (a || b) ≡ true
or_true true b h = refl
or_true false b h = h

pub step_ok : (clauses : List (List Lit)) (leaves k : ℕ) (c : List Lit) (tr : List Mark) (d : Lit) (ms : List Mark) → IsTrail clauses leaves tr → slice_get clauses k ≡ Some c → standing_of (assigned tr) c ≡ Falsified → before_decision tr ≡ Some (d, ms) → IsClosed (assigned ms) clauses → StepOk leaves clauses (rests clauses (has_variable c) tr).clause ((rests clauses (has_variable c) tr).hints ++ pos (suc k) ∷ [])
step_ok clauses leaves k c tr d ms ok there falsified e closed =
    let need = has_variable c in
    let r = rests clauses need tr in
    let close = rests_close clauses leaves k c tr ok there falsified in
    let s : Split clauses leaves r.clause d ms = split clauses leaves need tr d ms (r.hints ++ pos (suc k) ∷ []) ok e closed close in
    let b = trail_before clauses leaves tr d ms ok e in
    let h : HasClosed clauses r.clause = has_closed clauses leaves r.clause d ms s b.0 b.1 closed in
    record {
      implied = or_true (has_complements r.clause) _ close;
      full = not_empty clauses leaves r.clause d ms s b.0 b.1;
      leaf_lits = leaves_of clauses leaves r.clause d ms s b.0 b.1;
      none = holds_none clauses clauses r.clause h h.closed;
      closed = h;
    }

same_cond : (a b : Bool) (x y : Option (List Lit)) → a ≡ b → cond a x y ≡ cond b x y
same_cond a b x y e = ap (λ (q : Bool). cond q x y) e

suc_eqb : (m n : ℕ) → eqb m n ≡ eqb (suc m) (suc n)
suc_eqb m n =
    elim (cases_eq m n) [
      | inl e ↦ eq-eqb m n e ∙ sym (eq-eqb (suc m) (suc n) (ap suc e))
      | inr ne ↦ ne_eqb m n ne ∙ sym (ne_eqb (suc m) (suc n) (λ h. ne (omega arith)))
    ]

learns_by : (clauses : List (List Lit)) (leaves k : ℕ) (c : List Lit) (trail : List Mark) (o : Option (Lit × List Mark)) → before_decision trail ≡ o → IsTrail clauses leaves trail → slice_get clauses k ≡ Some c → standing_of (assigned trail) c ≡ Falsified → ClosedIf clauses o → ((rests clauses (has_variable c) trail).clause ≡ [] → ⊥) → StepOk leaves clauses (rests clauses (has_variable c) trail).clause ((rests clauses (has_variable c) trail).hints ++ pos (suc k) ∷ [])
learns_by clauses leaves k c trail None e ok there falsified closed full = absurd (full (no_decision clauses (has_variable c) trail e))
learns_by clauses leaves k c trail (Some p) e ok there falsified closed full = step_ok clauses leaves k c trail p.0 p.1 ok there falsified e closed

-- what the trace of a conflict gives
pub analysed : (clauses : List (List Lit)) (leaves k : ℕ) (c : List Lit) (trail : List Mark) → IsTrail clauses leaves trail → slice_get clauses k ≡ Some c → standing_of (assigned trail) c ≡ Falsified → ClosedIf clauses (before_decision trail) → IsAnalysed clauses leaves (rests clauses (has_variable c) trail).clause ((rests clauses (has_variable c) trail).hints ++ pos (suc k) ∷ [])
analysed clauses leaves k c trail ok there falsified closed = record {
  implied = or_true (has_complements (rests clauses (has_variable c) trail).clause) _ (rests_close clauses leaves k c trail ok there falsified);
  learns = λ full. learns_by clauses leaves k c trail (before_decision trail) refl ok there falsified closed full;
}

numbered_snoc_at : (cs : List (List Lit)) (c : List Lit) (n : ℕ) → slice_get (cs ++ c ∷ []) n ≡ cond (eqb n (length cs)) (Some c) (slice_get cs n)
numbered_snoc_at [] c zero = refl
numbered_snoc_at [] c (suc n) = sym (cond-false (eqb (suc n) 0) (Some c) None (ne_eqb (suc n) 0 (λ e. omega arith)))
numbered_snoc_at (d ∷ ds) c zero = sym (cond-false (eqb zero (suc (length ds))) (Some c) (Some d) (ne_eqb zero (suc (length ds)) (λ e. omega arith)))
numbered_snoc_at (d ∷ ds) c (suc n) =
    numbered_snoc_at ds c n ∙ same_cond (eqb n (length ds)) (eqb (suc n) (suc (length ds))) (Some c) (slice_get ds n) (suc_eqb n (length ds))

numbered_snoc_by : (cs : List (List Lit)) (c : List Lit) (n : ℕ) → with_clause (numbered cs) (length cs + 1) c n ≡ numbered (cs ++ c ∷ []) n
numbered_snoc_by cs c zero =
    cond-false (eqb zero (length cs + 1)) (Some c) (numbered cs zero) (ne_eqb zero (length cs + 1) (λ e. omega arith))
    ∙ cond-true (eqb zero 0) None (slice_get cs (zero - 1)) (eq-eqb zero 0 refl)
    ∙ sym (cond-true (eqb zero 0) None (slice_get (cs ++ c ∷ []) (zero - 1)) (eq-eqb zero 0 refl))
numbered_snoc_by cs c (suc n) =
    let less : suc n - 1 ≡ n = omega arith in
    let more : length cs + 1 ≡ suc (length cs) = omega arith in
    ap (λ (k : ℕ). cond (eqb (suc n) k) (Some c) (numbered cs (suc n))) more
    ∙ same_cond (eqb (suc n) (suc (length cs))) (eqb n (length cs)) (Some c) (numbered cs (suc n)) (sym (suc_eqb n (length cs)))
    ∙ ap (cond (eqb n (length cs)) (Some c)) (cond-false (eqb (suc n) 0) None (slice_get cs (suc n - 1)) (ne_eqb (suc n) 0 (λ e. omega arith)) ∙ ap (slice_get cs) less)
    ∙ sym (numbered_snoc_at cs c n)
    ∙ sym (cond-false (eqb (suc n) 0) None (slice_get (cs ++ c ∷ []) (suc n - 1)) (ne_eqb (suc n) 0 (λ e. omega arith)) ∙ ap (slice_get (cs ++ c ∷ [])) less)

-- the next id names the clause at the end
pub numbered_snoc : (cs : List (List Lit)) (c : List Lit) → with_clause (numbered cs) (length cs + 1) c ≡ numbered (cs ++ c ∷ [])
numbered_snoc cs c = fun_ext (λ n. numbered_snoc_by cs c n)

holds_none_tail : (c : List Lit) (ds es : List (List Lit)) → HoldsNone c (ds ++ es) → HoldsNone c es
holds_none_tail c [] es h = h
holds_none_tail c (d ∷ ds) es h = holds_none_tail c ds es h.1

pub learned_more : (base clauses earlier : List (List Lit)) (leaves : ℕ) (log : List Step) (c : List Lit) (hints : List ℤ) (id : ℕ) → clauses ≡ base ++ earlier → IsLearned (numbered clauses) (length clauses) clauses earlier leaves log → InOrder (length clauses) log → StepOk leaves (clauses ++ learned_clauses log) c hints → id ≡ length (clauses ++ learned_clauses log) + 1 → IsLearned (numbered clauses) (length clauses) clauses earlier leaves (log ++ Add id c hints ∷ []) × InOrder (length clauses) (log ++ Add id c hints ∷ [])
learned_more base clauses earlier leaves [] c hints id e h o ok is =
    let here : StepOk leaves clauses c hints = subst (λ (ds : List (List Lit)). StepOk leaves ds c hints) (append-nil clauses) ok in
    let next : id ≡ length clauses + 1 = is ∙ ap (λ (ds : List (List Lit)). length ds + 1) (append-nil clauses) in (
      (
        and_from (ltb (length clauses) id) (is_implied (numbered clauses) c hints) (lt-ltb (length clauses) id (omega arith)) here.implied,
        here.full,
        here.leaf_lits,
        holds_none_tail c base earlier (subst (HoldsNone c) e here.none),
        here.closed,
        tt,
      ),
      (next, tt),
    )
learned_more base clauses earlier leaves (Delete ids ∷ steps) c hints id e h o ok is = absurd h
learned_more base clauses earlier leaves (Add i d hs ∷ steps) c hints id e h o ok is =
    let more = clauses ++ d ∷ [] in
    let db : with_clause (numbered clauses) i d ≡ numbered more = ap (λ (n : ℕ). with_clause (numbered clauses) n d) o.0 ∙ numbered_snoc clauses d in
    let count : length clauses + 1 ≡ length more = omega (arith, length-append clauses (d ∷ [])) in
    let last : i ≡ length more = o.0 ∙ count in
    let rest_is : more ++ learned_clauses steps ≡ clauses ++ d ∷ learned_clauses steps = append_assoc clauses (d ∷ []) (learned_clauses steps) in
    let r = learned_more base more (earlier ++ d ∷ []) leaves steps c hints id
    (ap (λ (ds : List (List Lit)). ds ++ d ∷ []) e ∙ append_assoc base earlier (d ∷ []))
    (subst (λ (n : ℕ). IsLearned (numbered more) n more (earlier ++ d ∷ []) leaves steps) last
    (subst (λ (q : Clauses). IsLearned q i more (earlier ++ d ∷ []) leaves steps) db h.5))
    (subst (λ (n : ℕ). InOrder n steps) count o.1)
    (subst (λ (ds : List (List Lit)). StepOk leaves ds c hints) (sym rest_is) ok)
    (is ∙ ap (λ (ds : List (List Lit)). length ds + 1) (sym rest_is)) in (
      (
        h.0,
        h.1,
        h.2,
        h.3,
        h.4,
        subst (λ (q : Clauses). IsLearned q i more (earlier ++ d ∷ []) leaves (steps ++ Add id c hints ∷ [])) (sym db)
            (subst (λ (n : ℕ). IsLearned (numbered more) n more (earlier ++ d ∷ []) leaves (steps ++ Add id c hints ∷ [])) (sym last) r.0),
      ),
      (o.0, subst (λ (n : ℕ). InOrder n (steps ++ Add id c hints ∷ [])) (sym count) r.1),
    )

learned_clauses-snoc : (log : List Step) (id : ℕ) (c : List Lit) (hints : List ℤ) → learned_clauses (log ++ Add id c hints ∷ []) ≡ learned_clauses log ++ c ∷ []
learned_clauses-snoc [] id c hints = refl
learned_clauses-snoc (Add i d hs ∷ steps) id c hints = ap (λ (ds : List (List Lit)). d ∷ ds) (learned_clauses-snoc steps id c hints)
learned_clauses-snoc (Delete ids ∷ steps) id c hints = learned_clauses-snoc steps id c hints

IsModel-snoc : (w : ℕ → Bool) (cs : List (List Lit)) (c : List Lit) → IsModel w cs → clause_true w c ≡ true → IsModel w (cs ++ c ∷ [])
IsModel-snoc w [] c m t = (t, tt)
IsModel-snoc w (d ∷ ds) c m t = (m.0, IsModel-snoc w ds c m.1 t)

pub Ready-more : (cs clauses : List (List Lit)) (leaves : ℕ) (log : List Step) (c : List Lit) (hints : List ℤ) → Ready cs clauses leaves log → StepOk leaves clauses c hints → Ready cs (clauses ++ c ∷ []) leaves (log ++ Add (length clauses + 1) c hints ∷ [])
Ready-more cs clauses leaves log c hints r ok =
    let more = learned_more cs cs [] leaves log c hints (length clauses + 1) (sym (append-nil cs)) r.learned r.order
    (subst (λ (ds : List (List Lit)). StepOk leaves ds c hints) r.are ok) (ap (λ (ds : List (List Lit)). length ds + 1) r.are) in
    record {
      are = ap (λ (ds : List (List Lit)). ds ++ c ∷ []) r.are ∙ append_assoc cs (learned_clauses log) (c ∷ [])
          ∙ ap (λ (ds : List (List Lit)). cs ++ ds) (sym (learned_clauses-snoc log (length clauses + 1) c hints));
      learned = more.0;
      order = more.1;
      implied = λ w m. IsModel-snoc w clauses c (r.implied w m) (implied_true w (numbered clauses) c hints (AllTrue-numbered w clauses (r.implied w m)) ok.implied);
    }

pub Ready-start : (cs clauses : List (List Lit)) (leaves : ℕ) (log : List Step) → clauses ≡ cs → log ≡ [] → Ready cs clauses leaves log
Ready-start cs clauses leaves log e l =
    let start : Ready cs cs leaves [] = record { are = sym (append-nil cs); learned = tt; order = tt; implied = λ w m. m } in
    subst (λ (ds : List (List Lit)). Ready cs ds leaves log) (sym e) (subst (λ (ss : List Step). Ready cs cs leaves ss) (sym l) start)

nonempty_step : (db : Clauses) (last id : ℕ) (c : List Lit) (hints : List ℤ) (steps : List Step) → (c ≡ [] → ⊥) → is_accepted db last id c hints ≡ true → all_accepted (with_clause db id c) id steps ≡ true → all_accepted db last (Add id c hints ∷ steps) ≡ true
nonempty_step db last id [] hints steps full a t = absurd (full refl)
nonempty_step db last id (l ∷ ls) hints steps full a t = and_from _ _ a t

accepted_to_end : (clauses earlier : List (List Lit)) (leaves : ℕ) (log : List Step) (hints : List ℤ) (id : ℕ) → IsLearned (numbered clauses) (length clauses) clauses earlier leaves log → InOrder (length clauses) log → is_implied (numbered (clauses ++ learned_clauses log)) [] hints ≡ true → id ≡ length (clauses ++ learned_clauses log) + 1 → all_accepted (numbered clauses) (length clauses) (log ++ Add id [] hints ∷ []) ≡ true
accepted_to_end clauses earlier leaves [] hints id h o t is =
    let next : id ≡ length clauses + 1 = is ∙ ap (λ (ds : List (List Lit)). length ds + 1) (append-nil clauses) in
    and_from (ltb (length clauses) id) (is_implied (numbered clauses) [] hints) (lt-ltb (length clauses) id (omega arith))
    (ap (λ (ds : List (List Lit)). is_implied (numbered ds) [] hints) (sym (append-nil clauses)) ∙ t)
accepted_to_end clauses earlier leaves (Delete ids ∷ steps) hints id h o t is = absurd h
accepted_to_end clauses earlier leaves (Add i d hs ∷ steps) hints id h o t is =
    let more = clauses ++ d ∷ [] in
    let db : with_clause (numbered clauses) i d ≡ numbered more = ap (λ (n : ℕ). with_clause (numbered clauses) n d) o.0 ∙ numbered_snoc clauses d in
    let count : length clauses + 1 ≡ length more = omega (arith, length-append clauses (d ∷ [])) in
    let last : i ≡ length more = o.0 ∙ count in
    let rest_is : more ++ learned_clauses steps ≡ clauses ++ d ∷ learned_clauses steps = append_assoc clauses (d ∷ []) (learned_clauses steps) in
    let r = accepted_to_end more (earlier ++ d ∷ []) leaves steps hints id
    (subst (λ (n : ℕ). IsLearned (numbered more) n more (earlier ++ d ∷ []) leaves steps) last
    (subst (λ (q : Clauses). IsLearned q i more (earlier ++ d ∷ []) leaves steps) db h.5))
    (subst (λ (n : ℕ). InOrder n steps) count o.1)
    (ap (λ (ds : List (List Lit)). is_implied (numbered ds) [] hints) rest_is ∙ t)
    (is ∙ ap (λ (ds : List (List Lit)). length ds + 1) (sym rest_is)) in
    nonempty_step (numbered clauses) (length clauses) i d hs (steps ++ Add id [] hints ∷ []) h.1 h.0
    (ap (λ (q : Clauses). all_accepted q i (steps ++ Add id [] hints ∷ [])) db
    ∙ ap (λ (n : ℕ). all_accepted (numbered more) n (steps ++ Add id [] hints ∷ [])) last ∙ r)

pub refuted_within : (cs clauses : List (List Lit)) (leaves budget : ℕ) (log log' : List Step) (c : List Lit) (hints : List ℤ) → Ready cs clauses leaves log → is_implied (numbered clauses) c hints ≡ true → c ≡ [] → length log ≤ budget → log' ≡ log ++ Add (length clauses + 1) c hints ∷ [] → RefutesWithin cs leaves budget log'
refuted_within cs clauses leaves budget log log' c hints r t empty few e =
    let e' : log' ≡ log ++ Add (length clauses + 1) [] hints ∷ [] = e ∙ ap (λ (d : List Lit). log ++ Add (length clauses + 1) d hints ∷ []) empty in
    let t' : is_implied (numbered (cs ++ learned_clauses log)) [] hints ≡ true =
    ap (λ (ds : List (List Lit)). is_implied (numbered ds) [] hints) (sym r.are) ∙ ap (λ (d : List Lit). is_implied (numbered clauses) d hints) (sym empty) ∙ t in
    record {
      steps = log;
      learned = r.learned;
      few = few;
      ends = (length clauses + 1, hints, e');
      accepted = ap (all_accepted (numbered cs) (length cs)) e' ∙ accepted_to_end cs [] leaves log hints (length clauses + 1) r.learned r.order t' (ap (λ (ds : List (List Lit)). length ds + 1) r.are);
    }

closed_front : (a : Values) (cs ds : List (List Lit)) → IsClosed a (cs ++ ds) → IsClosed a cs
closed_front a [] ds h = tt
closed_front a (c ∷ cs) ds h = (h.0, closed_front a cs ds h.1)

given_each : (a : Values) (n : ℕ) (c : List Lit) → ((x : ℕ) → 1 ≤ x → x ≤ n → a x ≡ None → ⊥) → Each (λ l. (1 ≤ variable_of l) × (variable_of l ≤ n)) c → Each (λ l. a (variable_of l) ≡ None → ⊥) c
given_each a n [] f h = tt
given_each a n (l ∷ ls) f h = (f (variable_of l) h.0.0 h.0.1, given_each a n ls f h.1)

all_given : (a : Values) (n : ℕ) (cs : List (List Lit)) → ((x : ℕ) → 1 ≤ x → x ≤ n → a x ≡ None → ⊥) → InRange n cs → AllGiven a cs
all_given a n [] f h = tt
all_given a n (c ∷ cs) f h = (given_each a n c f h.0, all_given a n cs f h.1)

pub sat_says : (cs clauses : List (List Lit)) (leaves n : ℕ) (log : List Step) (marks : List Mark) (values : List (Option Bool)) → Ready cs clauses leaves log → FullTrail clauses leaves marks values → AreDecided cs n leaves → InRange n cs → IsFirstModel cs leaves (λ x. as_true (reads values x))
sat_says cs clauses leaves n log marks values r f decided range =
    let a = reads values in
    let trail = reverse marks in
    let v : ℕ → Bool = λ x. as_true (reads values x) in
    let closed : IsClosed a cs = closed_front a cs (learned_clauses log) (subst (IsClosed a) r.are f.full.closed) in
    let given = decided a closed f.full.given in
    let agrees : Agrees v a = record { at = λ x b e. ap as_true e } in
    let m = model_of v a cs agrees (all_given a n cs given range) closed in
    first_model cs clauses leaves v trail f.synced.trail (subst (Agrees v) f.synced.values_are agrees) m r.implied
    (λ x p q h. f.full.given x p q (ap (λ (b : Values). b x) f.synced.values_are ∙ h))

pub nil_from_length : (c : List Lit) → length c ≡ 0 → c ≡ []
nil_from_length [] h = refl
nil_from_length (l ∷ ls) h = absurd (omega arith)

pub leaves_fit : (leaves n : ℕ) (c : List Lit) → leaves < n → Each (IsLeafLit leaves) c → Fits n c
leaves_fit leaves n [] lt h = All-nil (λ (l : Lit). variable_of l < n)
leaves_fit leaves n (l ∷ ls) lt h = All-cons (λ (k : Lit). variable_of k < n) l ls (let leaf = h.0.leaf in omega arith) (leaves_fit leaves n ls lt h.1)

pub fits_more : (n : ℕ) (cs cs' : List (List Lit)) (c : List Lit) → cs' ≡ cs ++ c ∷ [] → All (Fits n) cs → Fits n c → All (Fits n) cs'
fits_more n cs cs' c e h p = All-same (Fits n) cs' (cs ++ c ∷ []) e (All-push (Fits n) cs c h p)

-- a first model stays one where variable 0, which no literal has, gets another value
clause_same : (v w : ℕ → Bool) (n : ℕ) (c : List Lit) → ((x : ℕ) → 1 ≤ x → v x ≡ w x) → Each (λ l. (1 ≤ variable_of l) × (variable_of l ≤ n)) c → clause_true v c ≡ clause_true w c
clause_same v w n [] e h = refl
clause_same v w n (l ∷ ls) e h =
    ap (λ (b : Bool). beq b (is_positive l) || clause_true v ls) (e (variable_of l) h.0.0)
    ∙ ap (λ (b : Bool). beq (w (variable_of l)) (is_positive l) || b) (clause_same v w n ls e h.1)

model_same : (v w : ℕ → Bool) (n : ℕ) (cs : List (List Lit)) → ((x : ℕ) → 1 ≤ x → v x ≡ w x) → InRange n cs → IsModel v cs → IsModel w cs
model_same v w n [] e h m = tt
model_same v w n (c ∷ cs) e h m = (sym (clause_same v w n c e h.0) ∙ m.0, model_same v w n cs e h.1 m.1)

pub first_same : (v w : ℕ → Bool) (leaves n : ℕ) (cs : List (List Lit)) → ((x : ℕ) → 1 ≤ x → v x ≡ w x) → InRange n cs → IsFirstModel cs leaves v → IsFirstModel cs leaves w
first_same v w leaves n cs e h f = record {
  model = model_same v w n cs e h f.model;
  first = λ u m x p q below t. f.first u m x p q (λ y a b. below y a b ∙ sym (e y a)) (e x p ∙ t);
}

read_from : (vs : List (Option Bool)) (x : ℕ) → as_true (get_or vs x None) ≡ get_or (map as_true vs) x false
read_from [] x = refl
read_from (o ∷ os) zero = refl
read_from (o ∷ os) (suc x) = read_from os x

values_at : (values : List (Option Bool)) (x : ℕ) → 1 ≤ x → as_true (reads values x) ≡ value_at (map as_true (drop 1 values)) x
values_at [] x p = refl
values_at (o ∷ os) zero p = absurd (omega arith)
values_at (o ∷ os) (suc x) p = let e : suc x - 1 ≡ x = omega arith in read_from os x ∙ ap (λ (k : ℕ). get_or (map as_true os) k false) (sym e)

-- the assignment that the values make is a first model where the values are
pub assignment_says : (cs : List (List Lit)) (leaves n : ℕ) (values : List (Option Bool)) (bits : List Bool) → bits ≡ map as_true (drop 1 values) → InRange n cs → IsFirstModel cs leaves (λ x. as_true (reads values x)) → IsFirstModel cs leaves (value_at bits)
assignment_says cs leaves n values bits e h f =
    first_same (λ x. as_true (reads values x)) (value_at bits) leaves n cs (λ x p. values_at values x p ∙ ap (λ (bs : List Bool). value_at bs x) (sym e)) h f

each_in_range : (n : ℕ) (c : List Lit) → All (λ l. 1 ≤ variable_of l) c → Fits (n + 1) c → Each (λ l. (1 ≤ variable_of l) × (variable_of l ≤ n)) c
each_in_range n [] above fit = tt
each_in_range n (l ∷ ls) above fit =
    let a = above 0 l (omega arith) in
    let b = fit 0 l (omega arith) in
    ((a, omega arith), each_in_range n ls (All-tail (λ (k : Lit). 1 ≤ variable_of k) l ls above) (All-tail (λ (k : Lit). variable_of k < n + 1) l ls fit))

-- clauses without variable 0 and above n have their variables in range
pub in_range : (n : ℕ) (cs : List (List Lit)) → All (All (λ l. 1 ≤ variable_of l)) cs → All (Fits (n + 1)) cs → InRange n cs
in_range n [] above fit = tt
in_range n (c ∷ cs) above fit = (
  each_in_range n c (above 0 c (omega arith)) (fit 0 c (omega arith)),
  in_range n cs (All-tail (All (λ (k : Lit). 1 ≤ variable_of k)) c cs above) (All-tail (Fits (n + 1)) c cs fit),
)

-- one more step keeps the ids in order
pub in_order_more : (last : ℕ) (log : List Step) (id : ℕ) (c : List Lit) (hints : List ℤ) → InOrder last log → id ≡ last + length log + 1 → InOrder last (log ++ Add id c hints ∷ [])
in_order_more last [] id c hints o e = (omega arith, tt)
in_order_more last (Delete ids ∷ steps) id c hints o e = absurd o
in_order_more last (Add i d hs ∷ steps) id c hints o e = (o.0, in_order_more (last + 1) steps id c hints o.1 (omega arith))

-- the empty clause ends a log
pub refuted_in_order : (cs clauses : List (List Lit)) (leaves budget : ℕ) (log log' : List Step) (c : List Lit) (hints : List ℤ) (n : ℕ) → Ready cs clauses leaves log → is_implied (numbered clauses) c hints ≡ true → c ≡ [] → length log ≤ budget → length clauses ≡ length cs + length log → n ≡ length clauses → log' ≡ log ++ Add (n + 1) c hints ∷ [] → RefutesWithin cs leaves budget log' × InOrder (length cs) log'
refuted_in_order cs clauses leaves budget log log' c hints n r t empty few count is e = (
  refuted_within cs clauses leaves budget log log' c hints r t empty few (e ∙ ap (λ (k : ℕ). log ++ Add (k + 1) c hints ∷ []) is),
  subst (InOrder (length cs)) (sym e) (in_order_more (length cs) log (n + 1) c hints r.order (omega arith)),
)

pub ready_start : (cs clauses : List (List Lit)) (leaves : ℕ) → clauses ≡ cs → Ready cs clauses leaves []
ready_start cs clauses leaves e = record { are = e ∙ sym (append-nil cs); learned = tt; order = tt; implied = λ w m. subst (IsModel w) (sym e) m }

-- a clause falsified before any decision refutes
pub refuted_at_start : (cs clauses : List (List Lit)) (leaves budget : ℕ) (log log' : List Step) (c : List Lit) (hints : List ℤ) (n : ℕ) → clauses ≡ cs → log ≡ [] → is_implied (numbered clauses) c hints ≡ true → c ≡ [] → n ≡ length clauses → log' ≡ log ++ Add (n + 1) c hints ∷ [] → RefutesWithin cs leaves budget log' × InOrder (length cs) log'
refuted_at_start cs clauses leaves budget log log' c hints n ce le t empty is e =
    refuted_in_order cs clauses leaves budget [] log' c hints n (ready_start cs clauses leaves ce) t empty (omega arith) (omega (arith, ap length ce)) is
    (e ∙ ap (λ (l : List Step). l ++ Add (n + 1) c hints ∷ []) le)

pub traced_nil : (cs : List (List Lit)) (marks : List Mark) (c : List Lit) → IsTraced cs marks c → before_decision (reverse marks) ≡ None → c ≡ []
traced_nil cs marks c t e = t.is ∙ no_decision cs t.need (reverse marks) e

pub empty_by : (b : Bool) (n : ℕ) (c : List Lit) → b ≡ eqb n 0 → b ≡ true → n ≡ length c → length c ≡ 0
empty_by b n c e t is = sym is ∙ eqb-true n 0 (sym e ∙ t)
