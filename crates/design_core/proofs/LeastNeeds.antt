-- What a body leaves at the bits of a set depends on the bits of that set alone, where the set has all that is read for its members.
use Rattle.std.proofs.Common.{◌≡◌, ℕ, Bool, true, false, not, List, [], ◌∷◌, inl, inr, refl, sym, ◌∙◌, ap, ap₂, subst, if◌then◌else◌, ◌&&◌, ◌||◌, arith}
use Rattle.std.specs.Prelude.{◌==◌}
use Rattle.std.proofs.lemmas.Bool.Decides.{nat_tests}
use Rattle.bits_core.specs.Places.{is_set}
use Rattle.design_core.specs.declared.place.BitRef.{BitRef}
use Rattle.design_core.specs.Core.{bit, same_bit, Left, Term, Stmt, skip, seq, write, choose, Place, St, puts, value, places, exec, reads, left_reads, left_drives, drives, surely_names, known, Within, ReadsKnown}
use Rattle.design_core.specs.Covers.{Arm, first_arm, last_untested, Completes, as_is, in_seq, in_choose, covering}
use Rattle.design_core.specs.Needs.{writes_local, targets, known_later, needed_for}
use Rattle.design_core.proofs.BoolLaws.{or_cases, or_left, or_right, or_false, both_true, true_both, not_both, either}
use Rattle.design_core.proofs.FrameLaws.{Alike, placed, named_placed, value_frame, places_frame, exec_keeps}
use Rattle.design_core.proofs.NeedLaws.{locals_kept, now_kept, puts_grow, known_written, later_written}
use Rattle.design_core.proofs.CompletedLaws.{untested_drives, completed_drives}

-- a set of bits that has all that is read for its members
abbrev pub IsClosedOn : Stmt → (BitRef → Type 0) → (BitRef → Type 0) → Type 0
IsClosedOn s T K = (b : BitRef) → T b → (a : BitRef) → needed_for s b a ≡ true → K a

target_drives : (s : Stmt) (k : Bool) (b : BitRef) → targets k s b ≡ true → drives s b ≡ true
target_drives skip true b h = h
target_drives skip false b h = h
target_drives (seq x y) true b h = elim (or_cases (targets true x b) (targets true y b) h) [
  | inl r ↦ or_left (drives x b) (drives y b) (target_drives x true b r)
  | inr r ↦ or_right (drives x b) (drives y b) (target_drives y true b r)
]
target_drives (seq x y) false b h = elim (or_cases (targets false x b) (targets false y b) h) [
  | inl r ↦ or_left (drives x b) (drives y b) (target_drives x false b r)
  | inr r ↦ or_right (drives x b) (drives y b) (target_drives y false b r)
]
target_drives (write l e true) true b h = h
target_drives (write l e false) true b h = cc
target_drives (write l e true) false b h = cc
target_drives (write l e false) false b h = h
target_drives (choose c x y) true b h = elim (or_cases (targets true x b) (targets true y b) h) [
  | inl r ↦ or_left (drives x b) (drives y b) (target_drives x true b r)
  | inr r ↦ or_right (drives x b) (drives y b) (target_drives y true b r)
]
target_drives (choose c x y) false b h = elim (or_cases (targets false x b) (targets false y b) h) [
  | inl r ↦ or_left (drives x b) (drives y b) (target_drives x false b r)
  | inr r ↦ or_right (drives x b) (drives y b) (target_drives y false b r)
]

no_target : (s : Stmt) (k : Bool) (b : BitRef) → drives s b ≡ false → targets k s b ≡ false
no_target s k b h = elim (either (targets k s b)) [ inl r ↦ not_both (drives s b) (target_drives s k b r) h | inr r ↦ r ]

-- what is read for a bit is read for a bit that is driven
pub needed_drives : (s : Stmt) (b a : BitRef) → needed_for s b a ≡ true → drives s b ≡ true
needed_drives skip b a h = cc
needed_drives (seq x y) b a h = elim (or_cases (needed_for x b a) (needed_for y b a) h) [
  | inl r ↦ or_left (drives x b) (drives y b) (needed_drives x b a r)
  | inr r ↦ or_right (drives x b) (drives y b) (needed_drives y b a r)
]
needed_drives (write l e blocking) b a h = (both_true (left_drives l b) (reads e a || left_reads l a) h).0
needed_drives (choose c x y) b a h = elim (or_cases ((drives x b || drives y b) && reads c a) (needed_for x b a || needed_for y b a) h) [
  | inl r ↦ (both_true (drives x b || drives y b) (reads c a) r).0
  | inr r ↦ elim (or_cases (needed_for x b a) (needed_for y b a) r) [
    | inl q ↦ or_left (drives x b) (drives y b) (needed_drives x b a q)
    | inr q ↦ or_right (drives x b) (drives y b) (needed_drives y b a q)
  ]
]

same_number : (k : ℕ) → (k == k) ≡ true
same_number k = grind (arith, nat_tests)

number_is : (a b : ℕ) → (a == b) ≡ true → a ≡ b
number_is a b h = grind (arith, nat_tests)

bit_self : (a : BitRef) → same_bit a a ≡ true
bit_self a = true_both (a.signal == a.signal) (a.bit == a.bit) (same_number a.signal) (same_number a.bit)

bit_is : (a b : BitRef) → same_bit a b ≡ true → a ≡ b
bit_is a b h = let p = both_true (a.signal == b.signal) (a.bit == b.bit) h in ap₂ bit (number_is a.signal b.signal p.0) (number_is a.bit b.bit p.1)

-- one bit of two states
one_alike : (A C : BitRef → Bool) (t u : St) (b : BitRef) → t.locals ≡ u.locals → (A b ≡ true → t.now b ≡ u.now b) → (C b ≡ true → t.later b ≡ u.later b)
    → Alike (λ a. A a && same_bit a b) (λ a. C a && same_bit a b) t u
one_alike A C t u b same now later = record {
  now_same = λ a q. (let p = both_true (A a) (same_bit a b) q in let e = bit_is a b p.1 in ap t.now e ∙ now (sym (ap A e) ∙ p.0) ∙ sym (ap u.now e));
  later_same = λ a q. (let p = both_true (C a) (same_bit a b) q in let e = bit_is a b p.1 in ap t.later e ∙ later (sym (ap C e) ∙ p.0) ∙ sym (ap u.later e));
  locals_same = same;
}

-- an assignment that may write a bit whose needs are among K leaves equal values there
module _ (l : Left) (e : Term) (A : BitRef → Bool) (K : BitRef → Type 0) (t u : St) (same : t.locals ≡ u.locals)
    (now : (b : BitRef) → A b ≡ true → K b → t.now b ≡ u.now b) (reads_known : Within (reads e) A) (left_known : Within (left_reads l) A) (b : BitRef)
    (needs : (a : BitRef) → (reads e a || left_reads l a) ≡ true → K a) where
  same_value : value e t.now t.locals ≡ value e u.now u.locals
  same_value = value_frame e t.now u.now t.locals (λ a r. now a (reads_known a r) (needs a (or_left (reads e a) (left_reads l a) r))) ∙ ap (λ f. value e u.now f) same

  same_places : places l t.now t.locals ≡ places l u.now u.locals
  same_places = places_frame l t.now u.now t.locals (λ a r. now a (left_known a r) (needs a (or_right (reads e a) (left_reads l a) r))) ∙ ap (λ f. places l u.now f) same

  module _ (blocking : Bool) (D C : BitRef → Bool) (now_b : D b ≡ true → t.now b ≡ u.now b) (later_b : C b ≡ true → t.later b ≡ u.later b) where
    written_alike : Alike (λ a. (D a && same_bit a b) || (blocking && placed a (places l t.now t.locals)))
        (λ a. (C a && same_bit a b) || (not blocking && placed a (places l t.now t.locals))) (exec (write l e blocking) t) (exec (write l e blocking) u)
    written_alike =
        let ps = places l t.now t.locals in
        let vs = value e t.now t.locals in
        let P : List Place → List Bool → Type 0 = λ qs ws. Alike (λ a. (D a && same_bit a b) || (blocking && placed a ps)) (λ a. (C a && same_bit a b) || (not blocking && placed a ps))
        (puts blocking ps vs t) (puts blocking qs ws u) in
        subst (λ qs. P qs (value e u.now u.locals)) same_places (subst (λ ws. P ps ws) same_value
        (puts_grow blocking (λ a. D a && same_bit a b) (λ a. C a && same_bit a b) ps vs t u (one_alike D C t u b same now_b later_b)))

    written_now : (D b || (blocking && surely_names l b)) ≡ true → (exec (write l e blocking) t).now b ≡ (exec (write l e blocking) u).now b
    written_now h = written_alike.now_same b (elim (or_cases (D b) (blocking && surely_names l b) h) [
      | inl r ↦ or_left (D b && same_bit b b) (blocking && placed b (places l t.now t.locals)) (true_both (D b) (same_bit b b) r (bit_self b))
      | inr r ↦ (let p = both_true blocking (surely_names l b) r in
          or_right (D b && same_bit b b) (blocking && placed b (places l t.now t.locals)) (true_both blocking (placed b (places l t.now t.locals)) p.0 (named_placed l t.now t.locals b p.1)))
    ])

    written_later : (C b || (not blocking && surely_names l b)) ≡ true → (exec (write l e blocking) t).later b ≡ (exec (write l e blocking) u).later b
    written_later h = written_alike.later_same b (elim (or_cases (C b) (not blocking && surely_names l b) h) [
      | inl r ↦ or_left (C b && same_bit b b) (not blocking && placed b (places l t.now t.locals)) (true_both (C b) (same_bit b b) r (bit_self b))
      | inr r ↦ (let p = both_true (not blocking) (surely_names l b) r in
          or_right (C b && same_bit b b) (not blocking && placed b (places l t.now t.locals)) (true_both (not blocking) (placed b (places l t.now t.locals)) p.0 (named_placed l t.now t.locals b p.1)))
    ])

kept_now : (s : Stmt) (A : BitRef → Bool) (t u : St) (b : BitRef) → drives s b ≡ false → known s A b ≡ true → (A b ≡ true → t.now b ≡ u.now b) → (exec s t).now b ≡ (exec s u).now b
kept_now s A t u b h k same = (exec_keeps s t b h).now_kept ∙ same (known_written s A b k (no_target s true b h)) ∙ sym (exec_keeps s u b h).now_kept

kept_later : (s : Stmt) (C : BitRef → Bool) (t u : St) (b : BitRef) → drives s b ≡ false → known_later s C b ≡ true → (C b ≡ true → t.later b ≡ u.later b) → (exec s t).later b ≡ (exec s u).later b
kept_later s C t u b h k same = (exec_keeps s t b h).later_kept ∙ same (later_written s C b k (no_target s false b h)) ∙ sym (exec_keeps s u b h).later_kept

chosen_now : (p q : Bool) (b : BitRef) (t u t' u' : St) → p ≡ q → t.now b ≡ u.now b → t'.now b ≡ u'.now b → (if p then t else t').now b ≡ (if q then u else u').now b
chosen_now true true b t u t' u' e h k = h
chosen_now false false b t u t' u' e h k = k
chosen_now true false b t u t' u' e h k = cc
chosen_now false true b t u t' u' e h k = cc

chosen_later : (p q : Bool) (b : BitRef) (t u t' u' : St) → p ≡ q → t.later b ≡ u.later b → t'.later b ≡ u'.later b → (if p then t else t').later b ≡ (if q then u else u').later b
chosen_later true true b t u t' u' e h k = h
chosen_later false false b t u t' u' e h k = k
chosen_later true false b t u t' u' e h k = cc
chosen_later false true b t u t' u' e h k = cc

-- the values after a body, at the known bits of a closed set
pub now_on : (s : Stmt) (A : BitRef → Bool) (K : BitRef → Type 0) (t u : St) → ReadsKnown s A → writes_local s ≡ false → IsClosedOn s K K
    → ((b : BitRef) → A b ≡ true → K b → t.now b ≡ u.now b) → t.locals ≡ u.locals
    → (b : BitRef) → known s A b ≡ true → K b → (exec s t).now b ≡ (exec s u).now b
now_on skip A K t u fine none closed now same b k m = now b k m
now_on (seq x y) A K t u fine none closed now same b k m =
    let f = or_false (writes_local x) (writes_local y) none in
    now_on y (known x A) K (exec x t) (exec x u) fine.1 f.1 (λ c n a h. closed c n a (or_right (needed_for x c a) (needed_for y c a) h))
    (now_on x A K t u fine.0 f.0 (λ c n a h. closed c n a (or_left (needed_for x c a) (needed_for y c a) h)) now same)
    (locals_kept x t f.0 ∙ same ∙ sym (locals_kept x u f.0)) b k m
now_on (write l e blocking) A K t u fine none closed now same b k m = elim (either (left_drives l b)) [
  | inl d ↦ written_now l e A K t u same now fine.0 fine.1 b (λ a r. closed b m a (true_both (left_drives l b) (reads e a || left_reads l a) d r))
      blocking A (λ a. false) (λ q. now b q m) (λ q. cc) k
  | inr d ↦ kept_now (write l e blocking) A t u b d k (λ q. now b q m)
]
now_on (choose c x y) A K t u fine none closed now same b k m = elim (either (drives x b || drives y b)) [
  | inr d ↦ kept_now (choose c x y) A t u b d k (λ q. now b q m)
  | inl d ↦ (let f = or_false (writes_local x) (writes_local y) none in
      let p = both_true (known x A b) (known y A b) k in
      let tested : value c t.now t.locals ≡ value c u.now u.locals =
      value_frame c t.now u.now t.locals (λ a r. now a (fine.0 a r) (closed b m a (or_left ((drives x b || drives y b) && reads c a) (needed_for x b a || needed_for y b a) (true_both (drives x b || drives y b) (reads c a) d r))))
      ∙ ap (λ g. value c u.now g) same in
      chosen_now (is_set (value c t.now t.locals)) (is_set (value c u.now u.locals)) b (exec x t) (exec x u) (exec y t) (exec y u) (ap is_set tested)
      (now_on x A K t u fine.1 f.0 (λ v n a h. closed v n a (or_right ((drives x v || drives y v) && reads c a) (needed_for x v a || needed_for y v a) (or_left (needed_for x v a) (needed_for y v a) h))) now same b p.0 m)
      (now_on y A K t u fine.2 f.1 (λ v n a h. closed v n a (or_right ((drives x v || drives y v) && reads c a) (needed_for x v a || needed_for y v a) (or_right (needed_for x v a) (needed_for y v a) h))) now same b p.1 m))
]

-- what is to be stored at one bit, where no blocking write changes what is read: K has what is read for the bit
pub later_on : (s : Stmt) (C : BitRef → Bool) (K : BitRef → Type 0) (t u : St) (b : BitRef) → writes_local s ≡ false → ((a : BitRef) → targets true s a ≡ false)
    → ((a : BitRef) → needed_for s b a ≡ true → K a) → ((a : BitRef) → K a → t.now a ≡ u.now a) → t.locals ≡ u.locals
    → (C b ≡ true → t.later b ≡ u.later b) → known_later s C b ≡ true → (exec s t).later b ≡ (exec s u).later b
later_on skip C K t u b none calm closed now same stored k = stored k
later_on (seq x y) C K t u b none calm closed now same stored k =
    let f = or_false (writes_local x) (writes_local y) none in
    let calm_x : (a : BitRef) → targets true x a ≡ false = λ a. (or_false (targets true x a) (targets true y a) (calm a)).0 in
    later_on y (known_later x C) K (exec x t) (exec x u) b f.1 (λ a. (or_false (targets true x a) (targets true y a) (calm a)).1)
    (λ a h. closed a (or_right (needed_for x b a) (needed_for y b a) h))
    (λ a m. now_kept x t a (calm_x a) ∙ now a m ∙ sym (now_kept x u a (calm_x a)))
    (locals_kept x t f.0 ∙ same ∙ sym (locals_kept x u f.0))
    (λ q. later_on x C K t u b f.0 calm_x (λ a h. closed a (or_left (needed_for x b a) (needed_for y b a) h)) now same stored q) k
later_on (write l e blocking) C K t u b none calm closed now same stored k = elim (either (left_drives l b)) [
  | inl d ↦ written_later l e (λ a. true) K t u same (λ a q m. now a m) (λ a r. refl) (λ a r. refl) b (λ a r. closed a (true_both (left_drives l b) (reads e a || left_reads l a) d r))
      blocking (λ a. false) C (λ q. cc) stored k
  | inr d ↦ kept_later (write l e blocking) C t u b d k stored
]
later_on (choose c x y) C K t u b none calm closed now same stored k = elim (either (drives x b || drives y b)) [
  | inr d ↦ kept_later (choose c x y) C t u b d k stored
  | inl d ↦ (let f = or_false (writes_local x) (writes_local y) none in
      let p = both_true (known_later x C b) (known_later y C b) k in
      let tested : value c t.now t.locals ≡ value c u.now u.locals =
      value_frame c t.now u.now t.locals (λ a r. now a (closed a (or_left ((drives x b || drives y b) && reads c a) (needed_for x b a || needed_for y b a) (true_both (drives x b || drives y b) (reads c a) d r))))
      ∙ ap (λ g. value c u.now g) same in
      chosen_later (is_set (value c t.now t.locals)) (is_set (value c u.now u.locals)) b (exec x t) (exec x u) (exec y t) (exec y u) (ap is_set tested)
      (later_on x C K t u b f.0 (λ a. (or_false (targets true x a) (targets true y a) (calm a)).0) (λ a h. closed a (or_right ((drives x b || drives y b) && reads c a) (needed_for x b a || needed_for y b a) (or_left (needed_for x b a) (needed_for y b a) h))) now same stored p.0)
      (later_on y C K t u b f.1 (λ a. (or_false (targets true x a) (targets true y a) (calm a)).1) (λ a h. closed a (or_right ((drives x b || drives y b) && reads c a) (needed_for x b a || needed_for y b a) (or_right (needed_for x b a) (needed_for y b a) h))) now same stored p.1))
]

-- a completed body reads for a bit what the body reads
untested_needed : (a : Arm) (as' : List Arm) (b c : BitRef) → needed_for (last_untested a as') b c ≡ true → needed_for (first_arm (a ∷ as')) b c ≡ true
untested_needed a [] b c h = or_right ((drives a.body b || false) && reads a.test c) (needed_for a.body b c || false) (or_left (needed_for a.body b c) false h)
untested_needed a (x ∷ xs) b c h = elim (or_cases ((drives a.body b || drives (last_untested x xs) b) && reads a.test c) (needed_for a.body b c || needed_for (last_untested x xs) b c) h) [
  | inl r ↦ or_left ((drives a.body b || drives (first_arm (x ∷ xs)) b) && reads a.test c) (needed_for a.body b c || needed_for (first_arm (x ∷ xs)) b c)
      (ap (λ v. (drives a.body b || v) && reads a.test c) (sym (untested_drives b x xs)) ∙ r)
  | inr r ↦ or_right ((drives a.body b || drives (first_arm (x ∷ xs)) b) && reads a.test c) (needed_for a.body b c || needed_for (first_arm (x ∷ xs)) b c)
      (elim (or_cases (needed_for a.body b c) (needed_for (last_untested x xs) b c) r) [
        | inl q ↦ or_left (needed_for a.body b c) (needed_for (first_arm (x ∷ xs)) b c) q
        | inr q ↦ or_right (needed_for a.body b c) (needed_for (first_arm (x ∷ xs)) b c) (untested_needed x xs b c q)
      ])
]

pub completed_needed : {s f : Stmt} → Completes s f → (d e : BitRef) → needed_for f d e ≡ true → needed_for s d e ≡ true
completed_needed as_is d e h = h
completed_needed (in_seq {a} {b} {x} {y} p q) d e h = elim (or_cases (needed_for x d e) (needed_for y d e) h) [
  | inl r ↦ or_left (needed_for a d e) (needed_for b d e) (completed_needed p d e r)
  | inr r ↦ or_right (needed_for a d e) (needed_for b d e) (completed_needed q d e r)
]
completed_needed (in_choose {c} {a} {b} {x} {y} p q) d e h = elim (or_cases ((drives x d || drives y d) && reads c e) (needed_for x d e || needed_for y d e) h) [
  | inl r ↦ or_left ((drives a d || drives b d) && reads c e) (needed_for a d e || needed_for b d e)
      (ap₂ (λ v w. (v || w) && reads c e) (sym (completed_drives p d)) (sym (completed_drives q d)) ∙ r)
  | inr r ↦ or_right ((drives a d || drives b d) && reads c e) (needed_for a d e || needed_for b d e)
      (elim (or_cases (needed_for x d e) (needed_for y d e) r) [
        | inl v ↦ or_left (needed_for a d e) (needed_for b d e) (completed_needed p d e v)
        | inr v ↦ or_right (needed_for a d e) (needed_for b d e) (completed_needed q d e v)
      ])
]
completed_needed (covering a as' always h) d e r = untested_needed a as' d e (completed_needed h d e r)
