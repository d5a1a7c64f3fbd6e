-- What bodies keep, and what of a body is surely written.
use Rattle.std.proofs.Common.{◌≡◌, ℕ, Bool, true, false, not, List, [], ◌∷◌, inl, inr, refl, ◌∙◌, ap, if◌then◌else◌, ◌&&◌, ◌||◌, Option, Some, None}
use Rattle.bits_core.specs.Places.{is_set}
use Rattle.design_core.specs.declared.place.BitRef.{BitRef}
use Rattle.design_core.specs.Core.{Assignment, set_local, spots, signal, local, Left, nowhere, both, slice, slice_at, Stmt, skip, seq, write, choose, Place, lost, in_signal, in_local, St, put, first_bit, rest_bits, puts, joined, placed_at, value, places, exec, left_drives, surely_names, known, Within}
use Rattle.design_core.specs.Needs.{names_local, writes_local, targets, known_later}
use Rattle.design_core.proofs.BoolLaws.{or_cases, or_left, or_right, or_false, false_or, both_true, true_both, not_both, either}
use Rattle.design_core.proofs.FrameLaws.{Alike, is_place, placed, set_same, or_nothing, regroup, puts_keep, placed_drives}

weaker : (A B C D : BitRef → Bool) (t u : St) → Within B A → Within D C → Alike A C t u → Alike B D t u
weaker A B C D t u h k w = record { now_same = λ b q. w.now_same b (h b q); later_same = λ b q. w.later_same b (k b q); locals_same = w.locals_same }

put_grows : (blocking : Bool) (A C : BitRef → Bool) (p : Place) (v : Bool) (t u : St) → Alike A C t u
    → Alike (λ b. A b || (blocking && is_place b p)) (λ b. C b || (not blocking && is_place b p)) (put blocking p v t) (put blocking p v u)
put_grows true A C lost v t u w = record { now_same = λ b q. w.now_same b (or_nothing (A b) q); later_same = λ b q. w.later_same b (or_nothing (C b) q); locals_same = w.locals_same }
put_grows false A C lost v t u w = record { now_same = λ b q. w.now_same b (or_nothing (A b) q); later_same = λ b q. w.later_same b (or_nothing (C b) q); locals_same = w.locals_same }
put_grows true A C (in_signal a) v t u w = record { now_same = set_same A t.now u.now a v w.now_same; later_same = λ b q. w.later_same b (or_nothing (C b) q); locals_same = w.locals_same }
put_grows false A C (in_signal a) v t u w = record { now_same = λ b q. w.now_same b (or_nothing (A b) q); later_same = set_same C t.later u.later a v w.later_same; locals_same = w.locals_same }
put_grows true A C (in_local j k) v t u w = record { now_same = λ b q. w.now_same b (or_nothing (A b) q); later_same = λ b q. w.later_same b (or_nothing (C b) q); locals_same = ap (λ f. set_local f j k v) w.locals_same }
put_grows false A C (in_local j k) v t u w = record { now_same = λ b q. w.now_same b (or_nothing (A b) q); later_same = λ b q. w.later_same b (or_nothing (C b) q); locals_same = ap (λ f. set_local f j k v) w.locals_same }

nothing_or : (a k : Bool) → (a || (k && false)) ≡ true → a ≡ true
nothing_or true k h = refl
nothing_or false true h = h
nothing_or false false h = h

pub puts_grow : (blocking : Bool) (A C : BitRef → Bool) (ps : List Place) (vs : List Bool) (t u : St) → Alike A C t u
    → Alike (λ b. A b || (blocking && placed b ps)) (λ b. C b || (not blocking && placed b ps)) (puts blocking ps vs t) (puts blocking ps vs u)
puts_grow blocking A C [] vs t u w = weaker A (λ b. A b || (blocking && false)) C (λ b. C b || (not blocking && false)) t u
    (λ b. nothing_or (A b) blocking) (λ b. nothing_or (C b) (not blocking)) w
puts_grow blocking A C (p ∷ ps) vs t u w =
    let t' = puts blocking ps (rest_bits vs) t in
    let u' = puts blocking ps (rest_bits vs) u in
    weaker (λ b. (A b || (blocking && placed b ps)) || (blocking && is_place b p)) (λ b. A b || (blocking && (is_place b p || placed b ps)))
    (λ b. (C b || (not blocking && placed b ps)) || (not blocking && is_place b p)) (λ b. C b || (not blocking && (is_place b p || placed b ps)))
    (put blocking p (first_bit vs) t') (put blocking p (first_bit vs) u')
    (λ b. regroup (A b) blocking (is_place b p) (placed b ps)) (λ b. regroup (C b) (not blocking) (is_place b p) (placed b ps))
    (put_grows blocking (λ b. A b || (blocking && placed b ps)) (λ b. C b || (not blocking && placed b ps)) p (first_bit vs) t' u'
    (puts_grow blocking A C ps (rest_bits vs) t u w))

-- no local is written
abbrev pub is_local : Place → Bool
is_local lost = false
is_local (in_signal b) = false
is_local (in_local j k) = true

abbrev pub some_local : List Place → Bool
some_local [] = false
some_local (p ∷ ps) = is_local p || some_local ps

put_locals : (blocking : Bool) (p : Place) (v : Bool) (t : St) → is_local p ≡ false → (put blocking p v t).locals ≡ t.locals
put_locals true lost v t h = refl
put_locals false lost v t h = refl
put_locals true (in_signal b) v t h = refl
put_locals false (in_signal b) v t h = refl
put_locals true (in_local j k) v t h = cc
put_locals false (in_local j k) v t h = cc

puts_locals : (blocking : Bool) (ps : List Place) (vs : List Bool) (t : St) → some_local ps ≡ false → (puts blocking ps vs t).locals ≡ t.locals
puts_locals blocking [] vs t h = refl
puts_locals blocking (p ∷ ps) vs t h = let f = or_false (is_local p) (some_local ps) h in
    put_locals blocking p (first_bit vs) (puts blocking ps (rest_bits vs) t) f.0 ∙ puts_locals blocking ps (rest_bits vs) t f.1

some_local_joined : (ps qs : List Place) → some_local ps ≡ false → some_local qs ≡ false → some_local (joined ps qs) ≡ false
some_local_joined [] qs h k = k
some_local_joined (p ∷ ps) qs h k = let f = or_false (is_local p) (some_local ps) h in
    false_or (is_local p) (some_local (joined ps qs)) f.0 (some_local_joined ps qs f.1 k)

signal_places : (s : ℕ) (os : List (Option ℕ)) → some_local (placed_at (signal s) os) ≡ false
signal_places s [] = refl
signal_places s (None ∷ os) = signal_places s os
signal_places s (Some k ∷ os) = signal_places s os

left_locals : (l : Left) (σ : Assignment) (λs : List (List Bool)) → names_local l ≡ false → some_local (places l σ λs) ≡ false
left_locals nowhere σ λs h = refl
left_locals (both x y) σ λs h = let f = or_false (names_local x) (names_local y) h in
    some_local_joined (places y σ λs) (places x σ λs) (left_locals y σ λs f.1) (left_locals x σ λs f.0)
left_locals (slice (signal s) m low n) σ λs h = signal_places s (spots m low n)
left_locals (slice (local s) m low n) σ λs h = cc
left_locals (slice_at (signal s) m f e n) σ λs h = signal_places s (spots m (f (value e σ λs)) n)
left_locals (slice_at (local s) m f e n) σ λs h = cc

pub locals_kept : (s : Stmt) (t : St) → writes_local s ≡ false → (exec s t).locals ≡ t.locals
locals_kept skip t h = refl
locals_kept (seq x y) t h = let f = or_false (writes_local x) (writes_local y) h in locals_kept y (exec x t) f.1 ∙ locals_kept x t f.0
locals_kept (write l e blocking) t h = puts_locals blocking (places l t.now t.locals) (value e t.now t.locals) t (left_locals l t.now t.locals h)
locals_kept (choose c x y) t h = let f = or_false (writes_local x) (writes_local y) h in
    elim (is_set (value c t.now t.locals)) as (λ k. (if k then exec x t else exec y t).locals ≡ t.locals) [ true ↦ locals_kept x t f.0 | false ↦ locals_kept y t f.1 ]

-- a bit is kept that no blocking write, or no other, may write
put_other_now : (p : Place) (v : Bool) (t : St) → (put false p v t).now ≡ t.now
put_other_now lost v t = refl
put_other_now (in_signal b) v t = refl
put_other_now (in_local j k) v t = refl

pub puts_other_now : (ps : List Place) (vs : List Bool) (t : St) → (puts false ps vs t).now ≡ t.now
puts_other_now [] vs t = refl
puts_other_now (p ∷ ps) vs t = put_other_now p (first_bit vs) (puts false ps (rest_bits vs) t) ∙ puts_other_now ps (rest_bits vs) t

put_other_later : (p : Place) (v : Bool) (t : St) → (put true p v t).later ≡ t.later
put_other_later lost v t = refl
put_other_later (in_signal b) v t = refl
put_other_later (in_local j k) v t = refl

pub puts_other_later : (ps : List Place) (vs : List Bool) (t : St) → (puts true ps vs t).later ≡ t.later
puts_other_later [] vs t = refl
puts_other_later (p ∷ ps) vs t = put_other_later p (first_bit vs) (puts true ps (rest_bits vs) t) ∙ puts_other_later ps (rest_bits vs) t

not_placed : (l : Left) (σ : Assignment) (λs : List (List Bool)) (b : BitRef) → left_drives l b ≡ false → placed b (places l σ λs) ≡ false
not_placed l σ λs b h = elim (either (placed b (places l σ λs))) [ inl r ↦ not_both (left_drives l b) (placed_drives l σ λs b r) h | inr r ↦ r ]

pub now_kept : (s : Stmt) (t : St) (b : BitRef) → targets true s b ≡ false → (exec s t).now b ≡ t.now b
now_kept skip t b h = refl
now_kept (seq x y) t b h = let f = or_false (targets true x b) (targets true y b) h in now_kept y (exec x t) b f.1 ∙ now_kept x t b f.0
now_kept (write l e true) t b h = (puts_keep true (places l t.now t.locals) (value e t.now t.locals) t b (not_placed l t.now t.locals b h)).now_kept
now_kept (write l e false) t b h = ap (λ (f : Assignment). f b) (puts_other_now (places l t.now t.locals) (value e t.now t.locals) t)
now_kept (choose c x y) t b h = let f = or_false (targets true x b) (targets true y b) h in
    elim (is_set (value c t.now t.locals)) as (λ k. (if k then exec x t else exec y t).now b ≡ t.now b) [ true ↦ now_kept x t b f.0 | false ↦ now_kept y t b f.1 ]

pub later_kept : (s : Stmt) (t : St) (b : BitRef) → targets false s b ≡ false → (exec s t).later b ≡ t.later b
later_kept skip t b h = refl
later_kept (seq x y) t b h = let f = or_false (targets false x b) (targets false y b) h in later_kept y (exec x t) b f.1 ∙ later_kept x t b f.0
later_kept (write l e false) t b h = (puts_keep false (places l t.now t.locals) (value e t.now t.locals) t b (not_placed l t.now t.locals b h)).later_kept
later_kept (write l e true) t b h = ap (λ (f : Assignment). f b) (puts_other_later (places l t.now t.locals) (value e t.now t.locals) t)
later_kept (choose c x y) t b h = let f = or_false (targets false x b) (targets false y b) h in
    elim (is_set (value c t.now t.locals)) as (λ k. (if k then exec x t else exec y t).later b ≡ t.later b) [ true ↦ later_kept x t b f.0 | false ↦ later_kept y t b f.1 ]

-- what is known of written bits is written
pub sure_drives : (l : Left) (b : BitRef) → surely_names l b ≡ true → left_drives l b ≡ true
sure_drives nowhere b h = h
sure_drives (both x y) b h = elim (or_cases (surely_names x b) (surely_names y b) h) [
  | inl r ↦ or_left (left_drives x b) (left_drives y b) (sure_drives x b r)
  | inr r ↦ or_right (left_drives x b) (left_drives y b) (sure_drives y b r)
]
sure_drives (slice (signal s) m low n) b h = h
sure_drives (slice (local s) m low n) b h = h
sure_drives (slice_at base m f e n) b h = cc

pub known_written : (s : Stmt) (A : BitRef → Bool) (b : BitRef) → known s A b ≡ true → targets true s b ≡ false → A b ≡ true
known_written skip A b h k = h
known_written (seq x y) A b h k = let f = or_false (targets true x b) (targets true y b) k in
    known_written x A b (known_written y (known x A) b h f.1) f.0
known_written (write l e true) A b h k = elim (or_cases (A b) (surely_names l b) h) [ inl r ↦ r | inr r ↦ not_both (left_drives l b) (sure_drives l b r) k ]
known_written (write l e false) A b h k = or_nothing (A b) h
known_written (choose c x y) A b h k = let f = or_false (targets true x b) (targets true y b) k in
    known_written x A b (both_true (known x A b) (known y A b) h).0 f.0

pub later_written : (s : Stmt) (C : BitRef → Bool) (b : BitRef) → known_later s C b ≡ true → targets false s b ≡ false → C b ≡ true
later_written skip C b h k = h
later_written (seq x y) C b h k = let f = or_false (targets false x b) (targets false y b) k in
    later_written x C b (later_written y (known_later x C) b h f.1) f.0
later_written (write l e false) C b h k = elim (or_cases (C b) (surely_names l b) h) [ inl r ↦ r | inr r ↦ not_both (left_drives l b) (sure_drives l b r) k ]
later_written (write l e true) C b h k = or_nothing (C b) h
later_written (choose c x y) C b h k = let f = or_false (targets false x b) (targets false y b) k in
    later_written x C b (both_true (known_later x C b) (known_later y C b) h).0 f.0

pub later_more : (s : Stmt) (C : BitRef → Bool) → Within C (known_later s C)
later_more skip C b h = h
later_more (seq x y) C b h = later_more y (known_later x C) b (later_more x C b h)
later_more (write l e blocking) C b h = or_left (C b) (not blocking && surely_names l b) h
later_more (choose c x y) C b h = true_both (known_later x C b) (known_later y C b) (later_more x C b h) (later_more y C b h)
