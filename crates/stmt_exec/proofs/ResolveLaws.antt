-- The places that a left side names, with its indices read.
use Rattle.std.proofs.Common.{◌≡◌, ℕ, suc, ◌+◌, ◌<◌, ◌≤◌, Bool, true, false, List, [], ◌∷◌, ◌++◌, length, map, get_or, take, sum_by, ap, ap₂, refl, sym, subst, ◌∙◌, arith, All, ℤ}
use Rattle.std.specs.Prelude.{slice_index_or}
use Rattle.std.proofs.lemmas.Bool.{ltb-true}
use Rattle.std.proofs.lemmas.List.{map-append, take_more, take_all}
use Rattle.std.proofs.lemmas.List.Elements.{All-nil, All-cons, All-append}
use Rattle.std.proofs.lemmas.List.Sums.{sum_by-cons, sum_by-append}
use Rattle.design_core.specs.declared.tree.DBase.{DBase}
use Rattle.design_core.specs.declared.tree.DBase.TheVariants as base
use Rattle.design_core.specs.declared.tree.DExpr.{DExpr}
use Rattle.design_core.specs.declared.tree.DLeft.{DLeft}
use Rattle.design_core.specs.declared.tree.DLeft.TheVariants as lefts
use Rattle.design_core.specs.Core.{Assignment, Left, Place, joined, placed_at, places, spots, value}
use Rattle.design_core.specs.Operators.{lowest}
use Rattle.design_core.specs.Formed.{IsFormed, IsFormedLeft, base_fits, base_length, is_vector, left_length}
use Rattle.design_core.specs.Terms.{all_left, base_of, left as core_left, size_of, term}
use Rattle.design_core.proofs.TermLaws.{left_at, left_concat, left_part, left_whole}
use Rattle.tree_parts.proofs.PartLaws.{formed_at, formed_left_parts, formed_part, formed_whole}
use Rattle.value_domain.specs.declared.variable.Start.{Start}
use Rattle.value_domain.specs.Meaning.{Meaning, Keeps}
use Rattle.stmt_exec.specs.declared.aims.Target.{Target}
use Rattle.stmt_exec.specs.declared.aims.Spot.{Spot}
use Rattle.stmt_exec.specs.declared.aims.Spot.TheVariants as spot
use Rattle.stmt_exec.specs.Aims.{Aim, IsTarget, SpotTakes, aim_of, aim_places, all_places, base_in, base_number, most_in, spot_low, spot_most}
use Rattle.stmt_exec.specs.State.{assignment, local_widths, locals_in, signal_widths, signals_in, size_for}
use Rattle.stmt_exec.specs.Runs.{AreResolved, AreValues, IsRead, IsResolved}
use Rattle.stmt_exec.proofs.AimLaws as a
use Rattle.stmt_exec.proofs.DomainLaws as d
use Rattle.stmt_exec.proofs.StandingLaws as s

joined_none : (ps : List Place) → joined ps [] ≡ ps
joined_none [] = refl
joined_none (p ∷ ps) = ap (λ q. p ∷ q) (joined_none ps)

joined_twice : (ps qs rs : List Place) → joined (joined ps qs) rs ≡ joined ps (joined qs rs)
joined_twice [] qs rs = refl
joined_twice (p ∷ ps) qs rs = ap (λ q. p ∷ q) (joined_twice ps qs rs)

places_more : (inside : Bool) (xs ys : List Aim) → all_places inside (xs ++ ys) ≡ joined (all_places inside ys) (all_places inside xs)
places_more inside [] ys = sym (joined_none (all_places inside ys))
places_more inside (x ∷ xs) ys = ap (λ q. joined q (aim_places inside x)) (places_more inside xs ys) ∙ joined_twice (all_places inside ys) (all_places inside xs) (aim_places inside x)

lefts_more : (xs : List Left) (l : Left) (σ : Assignment) (λs : List (List Bool)) → places (all_left (xs ++ l ∷ [])) σ λs ≡ joined (places l σ λs) (places (all_left xs) σ λs)
lefts_more [] l σ λs = sym (joined_none (places l σ λs))
lefts_more (x ∷ xs) l σ λs = ap (λ q. joined q (places x σ λs)) (lefts_more xs l σ λs) ∙ joined_twice (places l σ λs) (places (all_left xs) σ λs) (places x σ λs)

module _ {S V : Type 0} (m : Meaning S V) where
  base_there : (inside : Bool) (outer now : List V) (b : DBase) → base_fits (signal_widths m inside outer now) (local_widths m inside outer now) inside b ≡ true → base_number b < length (map m.width now)
  base_there true outer now (base.Signal k) h = cc
  base_there false outer now (base.Signal k) h = ltb-true k (length (map m.width now)) h
  base_there true outer now (base.Local k) h = ltb-true k (length (map m.width now)) h
  base_there false outer now (base.Local k) h = cc

  base_same : (inside : Bool) (outer now : List V) (b : DBase) → base_fits (signal_widths m inside outer now) (local_widths m inside outer now) inside b ≡ true → base_in inside (base_number b) ≡ base_of b
  base_same true outer now (base.Signal k) h = cc
  base_same false outer now (base.Signal k) h = refl
  base_same true outer now (base.Local k) h = refl
  base_same false outer now (base.Local k) h = cc

  base_most : (inside : Bool) (outer now : List V) (b : DBase) → base_fits (signal_widths m inside outer now) (local_widths m inside outer now) inside b ≡ true
      → most_in inside (map m.width now) (base_number b) ≡ size_of (size_for m inside outer now) b
  base_most true outer now (base.Signal k) h = cc
  base_most false outer now (base.Signal k) h = refl
  base_most true outer now (base.Local k) h = refl
  base_most false outer now (base.Local k) h = cc

  base_long : (inside : Bool) (outer now : List V) (b : DBase) → base_fits (signal_widths m inside outer now) (local_widths m inside outer now) inside b ≡ true
      → slice_index_or (map m.width now) (base_number b) 0 ≡ base_length (signal_widths m inside outer now) (local_widths m inside outer now) b
  base_long true outer now (base.Signal k) h = cc
  base_long false outer now (base.Signal k) h = refl
  base_long true outer now (base.Local k) h = refl
  base_long false outer now (base.Local k) h = cc

  one_sum : (t : Target V) → sum_by (λ (t : Target V). t.length) (t ∷ []) ≡ t.length
  one_sum t = let e = sum_by-cons (λ (t : Target V). t.length) t [] in omega (arith, e)

  -- a left side of one part
  one_resolved : (d0 d1 : S) (inside : Bool) (outer now : List V) (l : DLeft) (b : DBase) (n : ℕ) (sp : Spot V) (ts : List (Target V)) → ts ≡ (record { vector = base_number b; length = n; spot = sp }) ∷ []
      → base_fits (signal_widths m inside outer now) (local_widths m inside outer now) inside b ≡ true → is_vector n ≡ true → left_length (signal_widths m inside outer now) l ≡ n
      → SpotTakes m d1 (slice_index_or (map m.width now) (base_number b) 0) n sp
      → ((v : ℕ → Bool) → placed_at (base_of b) (spots (spot_most inside (map m.width now) (base_number b) n sp) (spot_low m d1 v sp) n)
      ≡ places (core_left (size_for m inside outer now) l) (assignment (map (m.reads d0 v) (signals_in inside outer now))) (map (m.reads d0 v) (locals_in inside outer now)))
      → IsResolved m d0 d1 inside outer now l ts
  one_resolved d0 d1 inside outer now l b n sp ts is fits vec long takes same =
      let t : Target V = record { vector = base_number b; length = n; spot = sp } in
      subst (IsResolved m d0 d1 inside outer now l) (sym is) (record {
        are = All-cons (IsTarget m (map m.width now) d1) t [] (record { there = base_there inside outer now b fits; some = s.vector_some n vec; most = s.vector_most n vec; takes = takes }) (All-nil (IsTarget m (map m.width now) d1));
        bits = one_sum t ∙ sym long;
        names = λ v. ap (λ x. placed_at x (spots (spot_most inside (map m.width now) (base_number b) n sp) (spot_low m d1 v sp) n)) (base_same inside outer now b fits) ∙ same v;
      })

  pub whole_resolved : (d0 d1 : S) (inside : Bool) (outer now : List V) (l : DLeft) (b : DBase) (n : ℕ) (ts : List (Target V)) → l ≡ lefts.Whole b n
      → IsFormedLeft (signal_widths m inside outer now) (local_widths m inside outer now) inside l → ts ≡ (record { vector = base_number b; length = n; spot = spot.Whole }) ∷ []
      → IsResolved m d0 d1 inside outer now l ts
  whole_resolved d0 d1 inside outer now l b n ts is h e =
      let f = formed_whole (signal_widths m inside outer now) (local_widths m inside outer now) inside l b n is h in
      one_resolved d0 d1 inside outer now l b n spot.Whole ts e f.0 f.1.1.0 f.1.1.1 (base_long inside outer now b f.0 ∙ f.1.0)
      (λ v. sym (ap (λ (x : Left). places x (assignment (map (m.reads d0 v) (signals_in inside outer now))) (map (m.reads d0 v) (locals_in inside outer now))) (left_whole (size_for m inside outer now) l b n is)))

  pub part_resolved : (d0 d1 : S) (inside : Bool) (outer now : List V) (l : DLeft) (b : DBase) (low z : ℤ) (n : ℕ) (ts : List (Target V)) → l ≡ lefts.Part b low n → z ≡ low
      → IsFormedLeft (signal_widths m inside outer now) (local_widths m inside outer now) inside l → ts ≡ (record { vector = base_number b; length = n; spot = spot.At z }) ∷ []
      → IsResolved m d0 d1 inside outer now l ts
  part_resolved d0 d1 inside outer now l b low z n ts is q h e =
      let f = formed_part (signal_widths m inside outer now) (local_widths m inside outer now) inside l b low n is h in
      one_resolved d0 d1 inside outer now l b n (spot.At z) ts e f.0 f.1.0 f.1.1 tt
      (λ v. ap₂ (λ k y. placed_at (base_of b) (spots k y n)) (base_most inside outer now b f.0) q
      ∙ sym (ap (λ (x : Left). places x (assignment (map (m.reads d0 v) (signals_in inside outer now))) (map (m.reads d0 v) (locals_in inside outer now))) (left_part (size_for m inside outer now) l b low n is)))

  pub at_resolved : (d0 d1 : S) (inside : Bool) (outer now : List V) (l : DLeft) (b : DBase) (index : DExpr) (offset : ℤ) (down : Bool) (n : ℕ) (sp : Spot V) (ts : List (Target V)) → l ≡ lefts.At b index offset down n
      → IsFormedLeft (signal_widths m inside outer now) (local_widths m inside outer now) inside l
      → IsRead m d0 d1 (signals_in inside outer now) (locals_in inside outer now) index (record { offset = offset; down = down; signed = index.signed }) sp
      → ts ≡ (record { vector = base_number b; length = n; spot = sp }) ∷ []
      → IsResolved m d0 d1 inside outer now l ts
  at_resolved d0 d1 inside outer now l b index offset down n sp ts is h r e =
      let f = formed_at (signal_widths m inside outer now) (local_widths m inside outer now) inside l b index offset down n is h in
      let start : Start = record { offset = offset; down = down; signed = index.signed } in
      one_resolved d0 d1 inside outer now l b n (spot.Variable r.index start) ts (e ∙ ap (λ (x : Spot V). (let t : Target V = record { vector = base_number b; length = n; spot = x } in t) ∷ []) r.is) f.0 f.1.1.1.0 f.1.1.1.1
      (r.is_word, (let q = r.long in let w = f.1.1.0 in omega (arith, q, w)))
      (λ v. ap₂ (λ k (x : List Bool). placed_at (base_of b) (spots k (lowest offset down index.signed x) n)) (base_most inside outer now b f.0) (r.reads_as v)
      ∙ sym (ap (λ (x : Left). places x (assignment (map (m.reads d0 v) (signals_in inside outer now))) (map (m.reads d0 v) (locals_in inside outer now))) (left_at (size_for m inside outer now) l b index offset down n is)))

  target_later : (ws : List ℕ) (d0 d1 : S) (t : Target V) → Keeps m d0 d1 → IsTarget m ws d0 t → IsTarget m ws d1 t
  target_later ws d0 d1 t k h = record { there = h.there; some = h.some; most = h.most; takes = takes_later t.spot h.takes }
    where
      takes_later : (sp : Spot V) → SpotTakes m d0 (slice_index_or ws t.vector 0) t.length sp → SpotTakes m d1 (slice_index_or ws t.vector 0) t.length sp
      takes_later spot.Whole x = x
      takes_later (spot.At low) x = x
      takes_later (spot.Variable index start) x = (s.word_later m d0 d1 index k x.0, x.1)

  aims_later : (inside : Bool) (ws : List ℕ) (d0 d1 : S) (v : ℕ → Bool) (ts : List (Target V)) → Keeps m d0 d1 → All (IsTarget m ws d0) ts → map (aim_of m inside ws d1 v) ts ≡ map (aim_of m inside ws d0 v) ts
  aims_later inside ws d0 d1 v [] k h = refl
  aims_later inside ws d0 d1 v (t ∷ ts) k h =
      ap₂ (λ x xs. (let y : Aim = record { hit = x; most = spot_most inside ws t.vector t.length t.spot } in y) ∷ xs) (a.kept_hit m d0 d1 v ws t k (h 0 t (omega arith)))
      (aims_later inside ws d0 d1 v ts k (λ i e l. h (suc i) e (omega (arith, l))))

  pub parts_none : (d0 d1 : S) (inside : Bool) (outer now : List V) (parts : List DLeft) → AreResolved m d0 d1 inside outer now (take 0 parts) []
  parts_none d0 d1 inside outer now parts = record { are = All-nil (IsTarget m (map m.width now) d1); bits = refl; names = λ v. refl }

  -- the targets of one more part
  pub parts_push : (d0 dn d1 : S) (inside : Bool) (outer now : List V) (parts : List DLeft) (at : ℕ) (l : DLeft) (ts more all : List (Target V)) → at < length parts → get_or parts at l ≡ l
      → AreValues m d0 (signals_in inside outer now) (locals_in inside outer now) → Keeps m d0 dn → Keeps m dn d1
      → AreResolved m d0 dn inside outer now (take at parts) ts → IsResolved m dn d1 inside outer now l more → all ≡ ts ++ more
      → AreResolved m d0 d1 inside outer now (take (at + 1) parts) all
  parts_push d0 dn d1 inside outer now parts at l ts more all lt is vs k j r q e =
      let ws = map m.width now in
      let size = size_for m inside outer now in
      let t : take (at + 1) parts ≡ take at parts ++ l ∷ [] = take_more parts at l lt ∙ ap (λ y. take at parts ++ y ∷ []) is in
      subst (AreResolved m d0 d1 inside outer now (take (at + 1) parts)) (sym e) (record {
        are = All-append (IsTarget m ws d1) ts more (λ i x w. target_later ws dn d1 (get_or ts i x) j (r.are i x w)) q.are;
        bits =
            (let u = sum_by-append (λ (t : Target V). t.length) ts more in
            let w = ap (sum_by (left_length (signal_widths m inside outer now))) t in
            let x = sum_by-append (left_length (signal_widths m inside outer now)) (take at parts) (l ∷ []) in
            let y = sum_by-cons (left_length (signal_widths m inside outer now)) l [] in
            let b1 = r.bits in let b2 = q.bits in omega (arith, u, w, x, y, b1, b2));
        names = λ v.
            let σ0 = assignment (map (m.reads d0 v) (signals_in inside outer now)) in
            let λ0 = map (m.reads d0 v) (locals_in inside outer now) in
            ap (all_places inside) (map-append (aim_of m inside ws d1 v) ts more)
            ∙ places_more inside (map (aim_of m inside ws d1 v) ts) (map (aim_of m inside ws d1 v) more)
            ∙ ap₂ (λ x y. joined x y)
            (q.names v ∙ ap₂ (λ (x y : List (List Bool)). places (core_left size l) (assignment x) y) (d.kept_reads m d0 dn v (signals_in inside outer now) k vs.signals_are) (d.kept_reads m d0 dn v (locals_in inside outer now) k vs.locals_are))
            (ap (all_places inside) (aims_later inside ws dn d1 v ts j r.are) ∙ r.names v)
            ∙ sym (lefts_more (map (core_left size) (take at parts)) (core_left size l) σ0 λ0)
            ∙ sym (ap (λ ls. places (all_left ls) σ0 λ0) (ap (map (core_left size)) t ∙ map-append (core_left size) (take at parts) (l ∷ [])));
      })

  pub parts_end : (d0 d1 : S) (inside : Bool) (outer now : List V) (l : DLeft) (parts : List DLeft) (at : ℕ) (ts : List (Target V)) → l ≡ lefts.Concat parts → length parts ≤ at
      → IsFormedLeft (signal_widths m inside outer now) (local_widths m inside outer now) inside l
      → AreResolved m d0 d1 inside outer now (take at parts) ts → IsResolved m d0 d1 inside outer now l ts
  parts_end d0 d1 inside outer now l parts at ts is le h r =
      let t : take at parts ≡ parts = take_all at parts le in
      let size = size_for m inside outer now in
      record {
        are = r.are;
        bits = r.bits ∙ ap (sum_by (left_length (signal_widths m inside outer now))) t ∙ sym (formed_left_parts (signal_widths m inside outer now) (local_widths m inside outer now) inside l parts is h).1.0;
        names = λ v. r.names v ∙ ap (λ ps. places (all_left (map (core_left size) ps)) (assignment (map (m.reads d0 v) (signals_in inside outer now))) (map (m.reads d0 v) (locals_in inside outer now))) t
            ∙ sym (ap (λ (x : Left). places x (assignment (map (m.reads d0 v) (signals_in inside outer now))) (map (m.reads d0 v) (locals_in inside outer now))) (left_concat size l parts is));
      }

  pub values_in : (d0 : S) (inside : Bool) (outer now : List V) → All (m.is_value d0) outer → All (m.is_value d0) now → AreValues m d0 (signals_in inside outer now) (locals_in inside outer now)
  values_in d0 true outer now o n = record { signals_are = o; locals_are = n }
  values_in d0 false outer now o n = record { signals_are = n; locals_are = o }

  pub values_here : (d0 : S) (inside : Bool) (outer now ss ls : List V) → ss ≡ signals_in inside outer now → ls ≡ locals_in inside outer now → All (m.is_value d0) outer → All (m.is_value d0) now → AreValues m d0 ss ls
  values_here d0 inside outer now ss ls s l o n =
      let h = values_in d0 inside outer now o n in
      record { signals_are = subst (All (m.is_value d0)) (sym s) h.signals_are; locals_are = subst (All (m.is_value d0)) (sym l) h.locals_are }

  pub formed_here : (inside : Bool) (outer now ss ls : List V) → ss ≡ signals_in inside outer now → ls ≡ locals_in inside outer now → (e f : DExpr) → e ≡ f
      → IsFormed (signal_widths m inside outer now) (local_widths m inside outer now) f → IsFormed (map m.width ss) (map m.width ls) e
  formed_here inside outer now ss ls s l e f is h =
      subst (IsFormed (map m.width ss) (map m.width ls)) (sym is)
      (subst (λ (x : List V). IsFormed (map m.width x) (map m.width ls) f) (sym s) (subst (λ (x : List V). IsFormed (signal_widths m inside outer now) (map m.width x) f) (sym l) h))

  pub read_here : (d0 d1 : S) (inside : Bool) (outer now ss ls : List V) → ss ≡ signals_in inside outer now → ls ≡ locals_in inside outer now
      → (index e f : DExpr) → e ≡ index → f ≡ index → (z offset : ℤ) → z ≡ offset → (down : Bool) (sp : Spot V)
      → IsRead m d0 d1 ss ls f (record { offset = z; down = down; signed = e.signed }) sp
      → IsRead m d0 d1 (signals_in inside outer now) (locals_in inside outer now) index (record { offset = offset; down = down; signed = index.signed }) sp
  read_here d0 d1 inside outer now ss ls s l index e f i j z offset o down sp r = record {
    index = r.index;
    is = r.is ∙ ap₂ (λ (y : ℤ) (q : Bool). spot.Variable r.index (record { offset = y; down = down; signed = q })) o (ap (λ (y : DExpr). y.signed) i);
    is_word = r.is_word;
    long = r.long ∙ ap (λ (y : DExpr). y.length) j;
    reads_as = λ v. r.reads_as v
        ∙ ap₂ (λ (x y : List V). value (term (λ k. slice_index_or (map m.width x) k 0) f) (assignment (map (m.reads d0 v) x)) (map (m.reads d0 v) y)) s l
        ∙ ap (λ (y : DExpr). value (term (size_for m inside outer now) y) (assignment (map (m.reads d0 v) (signals_in inside outer now))) (map (m.reads d0 v) (locals_in inside outer now))) j;
  }
