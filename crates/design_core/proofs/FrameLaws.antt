-- A value depends on the bits that are read, and a statement changes the bits that it drives.
use Rattle.std.proofs.Common.{◌≡◌, ℕ, zero, suc, Bool, true, false, List, [], ◌∷◌, map, inl, inr, refl, sym, ◌∙◌, ap, ap₂, subst, if◌then◌else◌, ◌&&◌, ◌||◌, Option, Some, None, ℤ, pos, negsuc, ◌+ℤ◌, arith}
use Rattle.std.specs.Prelude.{nat_lt, ◌==◌, slice_index_or}
use Rattle.std.proofs.lemmas.Bool.Decides.{nat_tests}
use Rattle.bits_core.specs.Places.{is_set}
use Rattle.design_core.specs.declared.place.BitRef.{BitRef}
use Rattle.design_core.specs.Core.{Assignment, bit, same_bit, set_bit, set_local, spot, spots, bit_in, covers, signal, local, Term, constant, span, own, app1, app2, app3, call, Args, stop, pass, Left, nowhere, both, slice, slice_at, Stmt, skip, seq, write, choose, Place, lost, in_signal, in_local, St, put, first_bit, rest_bits, puts, joined, placed_at, entered, value, values, places, exec, reads, args_read, left_reads, stmt_reads, left_drives, drives, surely_names, known, Within, ReadsKnown}
use Rattle.design_core.proofs.BoolLaws.{or_cases, or_left, or_right, or_false, both_true, true_both, not_both, either, if_true, if_false}

same_number : (k : ℕ) → (k == k) ≡ true
same_number k = grind (arith, nat_tests)

pub taken_same : (ps : List (Option ℕ)) (f g : ℕ → Bool) → ((k : ℕ) → covers k ps ≡ true → f k ≡ g k) → map (bit_in f) ps ≡ map (bit_in g) ps
taken_same [] f g h = refl
taken_same (None ∷ ps) f g h = ap (λ vs. false ∷ vs) (taken_same ps f g h)
taken_same (Some j ∷ ps) f g h =
    ap₂ (λ v vs. v ∷ vs) (h j (or_left (j == j) (covers j ps) (same_number j)))
    (taken_same ps f g (λ k c. h k (or_right (k == j) (covers k ps) c)))

-- σ and τ agree on A
abbrev pub Same : (BitRef → Bool) → Assignment → Assignment → Type 0
Same A σ τ = (b : BitRef) → A b ≡ true → σ b ≡ τ b

-- two states of a body agree on A now, on C in what is to be stored, and in their locals
pub record Alike (A C : BitRef → Bool) (t u : St) : Type 0 where
  pub now_same : Same A t.now u.now
  pub later_same : Same C t.later u.later
  pub locals_same : t.locals ≡ u.locals

pub alike_weaker : (A B C : BitRef → Bool) (t u : St) → Within B A → Alike A C t u → Alike B C t u
alike_weaker A B C t u h w = record { now_same = λ b q. w.now_same b (h b q); later_same = w.later_same; locals_same = w.locals_same }

abbrev pub is_place : BitRef → Place → Bool
is_place b lost = false
is_place b (in_signal a) = same_bit b a
is_place b (in_local j k) = false

abbrev pub placed : BitRef → List Place → Bool
placed b [] = false
placed b (p ∷ ps) = is_place b p || placed b ps

pub set_same : (A : BitRef → Bool) (σ τ : Assignment) (a : BitRef) (v : Bool) → Same A σ τ → Same (λ b. A b || same_bit b a) (set_bit σ a v) (set_bit τ a v)
set_same A σ τ a v h b q = elim (either (same_bit b a)) [
  | inl s ↦ if_true (same_bit b a) v (σ b) s ∙ sym (if_true (same_bit b a) v (τ b) s)
  | inr s ↦ if_false (same_bit b a) v (σ b) s
      ∙ elim (or_cases (A b) (same_bit b a) q) [ inl r ↦ h b r | inr r ↦ not_both (same_bit b a) r s ]
      ∙ sym (if_false (same_bit b a) v (τ b) s)
]

pub or_nothing : (a : Bool) → (a || false) ≡ true → a ≡ true
or_nothing true h = refl
or_nothing false h = h

put_alike : (blocking : Bool) (A C : BitRef → Bool) (p : Place) (v : Bool) (t u : St) → Alike A C t u
    → Alike (λ b. A b || (blocking && is_place b p)) C (put blocking p v t) (put blocking p v u)
put_alike true A C lost v t u w = alike_weaker A (λ b. A b || false) C t u (λ b. or_nothing (A b)) w
put_alike false A C lost v t u w = alike_weaker A (λ b. A b || false) C t u (λ b. or_nothing (A b)) w
put_alike true A C (in_signal a) v t u w = record { now_same = set_same A t.now u.now a v w.now_same; later_same = w.later_same; locals_same = w.locals_same }
put_alike false A C (in_signal a) v t u w = record {
  now_same = λ b q. w.now_same b (or_nothing (A b) q);
  later_same = λ b q. set_same C t.later u.later a v w.later_same b (or_left (C b) (same_bit b a) q);
  locals_same = w.locals_same;
}
put_alike true A C (in_local j k) v t u w = record { now_same = λ b q. w.now_same b (or_nothing (A b) q); later_same = w.later_same; locals_same = ap (λ f. set_local f j k v) w.locals_same }
put_alike false A C (in_local j k) v t u w = record { now_same = λ b q. w.now_same b (or_nothing (A b) q); later_same = w.later_same; locals_same = ap (λ f. set_local f j k v) w.locals_same }

pub regroup : (a k p q : Bool) → (a || (k && (p || q))) ≡ true → ((a || (k && q)) || (k && p)) ≡ true
regroup true k p q h = refl
regroup false true true q h = or_right q true refl
regroup false true false q h = or_left q false h
regroup false false p q h = h

puts_alike : (blocking : Bool) (A C : BitRef → Bool) (ps : List Place) (vs : List Bool) (t u : St) → Alike A C t u
    → Alike (λ b. A b || (blocking && placed b ps)) C (puts blocking ps vs t) (puts blocking ps vs u)
puts_alike true A C [] vs t u w = alike_weaker A (λ b. A b || false) C t u (λ b. or_nothing (A b)) w
puts_alike false A C [] vs t u w = alike_weaker A (λ b. A b || false) C t u (λ b. or_nothing (A b)) w
puts_alike blocking A C (p ∷ ps) vs t u w =
    alike_weaker (λ b. (A b || (blocking && placed b ps)) || (blocking && is_place b p)) (λ b. A b || (blocking && (is_place b p || placed b ps))) C
    (put blocking p (first_bit vs) (puts blocking ps (rest_bits vs) t)) (put blocking p (first_bit vs) (puts blocking ps (rest_bits vs) u))
    (λ b. regroup (A b) blocking (is_place b p) (placed b ps))
    (put_alike blocking (λ b. A b || (blocking && placed b ps)) C p (first_bit vs)
    (puts blocking ps (rest_bits vs) t) (puts blocking ps (rest_bits vs) u)
    (puts_alike blocking A C ps (rest_bits vs) t u w))

-- the places of a left side
placed_joined : (b : BitRef) (ps qs : List Place) → placed b (joined ps qs) ≡ (placed b ps || placed b qs)
placed_joined b [] qs = refl
placed_joined b (p ∷ ps) qs = elim (is_place b p) as (λ x. (x || placed b (joined ps qs)) ≡ ((x || placed b ps) || placed b qs)) [ true ↦ refl | false ↦ placed_joined b ps qs ]

placed_span : (b : BitRef) (s : ℕ) (os : List (Option ℕ)) → placed b (placed_at (signal s) os) ≡ ((b.signal == s) && covers b.bit os)
placed_span b s [] = elim (b.signal == s) as (λ x. false ≡ (x && false)) [ true ↦ refl | false ↦ refl ]
placed_span b s (None ∷ os) = placed_span b s os
placed_span b s (Some k ∷ os) =
    ap (λ x. ((b.signal == s) && (b.bit == k)) || x) (placed_span b s os)
    ∙ elim (b.signal == s) as (λ x. ((x && (b.bit == k)) || (x && covers b.bit os)) ≡ (x && ((b.bit == k) || covers b.bit os))) [ true ↦ refl | false ↦ refl ]

placed_local : (b : BitRef) (s : ℕ) (os : List (Option ℕ)) → placed b (placed_at (local s) os) ≡ false
placed_local b s [] = refl
placed_local b s (None ∷ os) = placed_local b s os
placed_local b s (Some k ∷ os) = placed_local b s os

some_below : (c : Bool) (k j m : ℕ) (ps : List (Option ℕ)) → nat_lt j m ≡ c → (covers k ps ≡ true → nat_lt k m ≡ true)
    → covers k ((if c then Some j else None) ∷ ps) ≡ true → nat_lt k m ≡ true
some_below false k j m ps e rest h = rest h
some_below true k j m ps e rest h = elim (or_cases (k == j) (covers k ps) h) [
  | inl r ↦ (let s : k ≡ j = grind (arith, nat_tests) in ap (λ x. nat_lt x m) s ∙ e)
  | inr r ↦ rest r
]

spot_below : (k m : ℕ) (z : ℤ) (ps : List (Option ℕ)) → (covers k ps ≡ true → nat_lt k m ≡ true) → covers k (spot m z ∷ ps) ≡ true → nat_lt k m ≡ true
spot_below k m (pos j) ps rest h = some_below (nat_lt j m) k j m ps refl rest h
spot_below k m (negsuc j) ps rest h = rest h

covers_below : (k m : ℕ) (z : ℤ) (n : ℕ) → covers k (spots m z n) ≡ true → nat_lt k m ≡ true
covers_below k m z zero h = cc
covers_below k m z (suc n) h = spot_below k m z (spots m (z +ℤ pos 1) n) (covers_below k m (z +ℤ pos 1) n) h

-- what is written is driven
pub placed_drives : (l : Left) (σ : Assignment) (λs : List (List Bool)) (b : BitRef) → placed b (places l σ λs) ≡ true → left_drives l b ≡ true
placed_drives nowhere σ λs b h = h
placed_drives (both x y) σ λs b h =
    elim (or_cases (placed b (places y σ λs)) (placed b (places x σ λs)) (sym (placed_joined b (places y σ λs) (places x σ λs)) ∙ h)) [
      | inl r ↦ or_right (left_drives x b) (left_drives y b) (placed_drives y σ λs b r)
      | inr r ↦ or_left (left_drives x b) (left_drives y b) (placed_drives x σ λs b r)
    ]
placed_drives (slice (signal s) m low n) σ λs b h = sym (placed_span b s (spots m low n)) ∙ h
placed_drives (slice (local s) m low n) σ λs b h = sym (placed_local b s (spots m low n)) ∙ h
placed_drives (slice_at (signal s) m f e n) σ λs b h =
    let p = both_true (b.signal == s) (covers b.bit (spots m (f (value e σ λs)) n)) (sym (placed_span b s (spots m (f (value e σ λs)) n)) ∙ h) in
    true_both (b.signal == s) (nat_lt b.bit m) p.0 (covers_below b.bit m (f (value e σ λs)) n p.1)
placed_drives (slice_at (local s) m f e n) σ λs b h = sym (placed_local b s (spots m (f (value e σ λs)) n)) ∙ h

-- what is surely named is written
pub named_placed : (l : Left) (σ : Assignment) (λs : List (List Bool)) (b : BitRef) → surely_names l b ≡ true → placed b (places l σ λs) ≡ true
named_placed nowhere σ λs b h = h
named_placed (both x y) σ λs b h = placed_joined b (places y σ λs) (places x σ λs) ∙
    elim (or_cases (surely_names x b) (surely_names y b) h) [
      | inl r ↦ or_right (placed b (places y σ λs)) (placed b (places x σ λs)) (named_placed x σ λs b r)
      | inr r ↦ or_left (placed b (places y σ λs)) (placed b (places x σ λs)) (named_placed y σ λs b r)
    ]
named_placed (slice (signal s) m low n) σ λs b h = placed_span b s (spots m low n) ∙ h
named_placed (slice (local s) m low n) σ λs b h = cc
named_placed (slice_at base m f e n) σ λs b h = cc

-- a statement changes the bits that it drives alone
pub record Kept (b : BitRef) (t u : St) : Type 0 where
  pub now_kept : u.now b ≡ t.now b
  pub later_kept : u.later b ≡ t.later b

pub put_keeps : (blocking : Bool) (p : Place) (v : Bool) (t : St) (b : BitRef) → is_place b p ≡ false → Kept b t (put blocking p v t)
put_keeps true lost v t b h = record { now_kept = refl; later_kept = refl }
put_keeps false lost v t b h = record { now_kept = refl; later_kept = refl }
put_keeps true (in_signal a) v t b h = record { now_kept = if_false (same_bit b a) v (t.now b) h; later_kept = refl }
put_keeps false (in_signal a) v t b h = record { now_kept = refl; later_kept = if_false (same_bit b a) v (t.later b) h }
put_keeps true (in_local j k) v t b h = record { now_kept = refl; later_kept = refl }
put_keeps false (in_local j k) v t b h = record { now_kept = refl; later_kept = refl }

kept_through : (b : BitRef) (t u v : St) → Kept b t u → Kept b u v → Kept b t v
kept_through b t u v h k = record { now_kept = k.now_kept ∙ h.now_kept; later_kept = k.later_kept ∙ h.later_kept }

pub puts_keep : (blocking : Bool) (ps : List Place) (vs : List Bool) (t : St) (b : BitRef) → placed b ps ≡ false → Kept b t (puts blocking ps vs t)
puts_keep blocking [] vs t b h = record { now_kept = refl; later_kept = refl }
puts_keep blocking (p ∷ ps) vs t b h =
    let f = or_false (is_place b p) (placed b ps) h in
    kept_through b t (puts blocking ps (rest_bits vs) t) (put blocking p (first_bit vs) (puts blocking ps (rest_bits vs) t))
    (puts_keep blocking ps (rest_bits vs) t b f.1) (put_keeps blocking p (first_bit vs) (puts blocking ps (rest_bits vs) t) b f.0)

choose_kept : (x : Bool) (b : BitRef) (t u v : St) → Kept b t u → Kept b t v → Kept b t (if x then u else v)
choose_kept true b t u v h k = h
choose_kept false b t u v h k = k

pub exec_keeps : (s : Stmt) (t : St) (b : BitRef) → drives s b ≡ false → Kept b t (exec s t)
exec_keeps skip t b h = record { now_kept = refl; later_kept = refl }
exec_keeps (seq x y) t b h =
    let f = or_false (drives x b) (drives y b) h in
    kept_through b t (exec x t) (exec y (exec x t)) (exec_keeps x t b f.0) (exec_keeps y (exec x t) b f.1)
exec_keeps (write l e blocking) t b h =
    puts_keep blocking (places l t.now t.locals) (value e t.now t.locals) t b
    (elim (either (placed b (places l t.now t.locals))) [ inl r ↦ not_both (left_drives l b) (placed_drives l t.now t.locals b r) h | inr r ↦ r ])
exec_keeps (choose c x y) t b h =
    let f = or_false (drives x b) (drives y b) h in
    choose_kept (is_set (value c t.now t.locals)) b t (exec x t) (exec y t) (exec_keeps x t b f.0) (exec_keeps y t b f.1)

-- what is known stays known
pub known_more : (s : Stmt) (A : BitRef → Bool) → Within A (known s A)
known_more skip A b h = h
known_more (seq x y) A b h = known_more y (known x A) b (known_more x A b h)
known_more (write l e blocking) A b h = or_left (A b) (blocking && surely_names l b) h
known_more (choose c x y) A b h = true_both (known x A b) (known y A b) (known_more x A b h) (known_more y A b h)

-- where all that is read is known, it is known at each place
pub reads_known : (s : Stmt) (A : BitRef → Bool) → Within (stmt_reads s) A → ReadsKnown s A
reads_known skip A h = tt
reads_known (seq x y) A h = (
  reads_known x A (λ b r. h b (or_left (stmt_reads x b) (stmt_reads y b) r)),
  reads_known y (known x A) (λ b r. known_more x A b (h b (or_right (stmt_reads x b) (stmt_reads y b) r))),
)
reads_known (write l e blocking) A h = (λ b r. h b (or_left (reads e b) (left_reads l b) r), λ b r. h b (or_right (reads e b) (left_reads l b) r))
reads_known (choose c x y) A h = (
  λ b r. h b (or_left (reads c b) (stmt_reads x b || stmt_reads y b) r),
  reads_known x A (λ b r. h b (or_right (reads c b) (stmt_reads x b || stmt_reads y b) (or_left (stmt_reads x b) (stmt_reads y b) r))),
  reads_known y A (λ b r. h b (or_right (reads c b) (stmt_reads x b || stmt_reads y b) (or_right (stmt_reads x b) (stmt_reads y b) r))),
)

choose_alike : (p q : Bool) (A B K C : BitRef → Bool) (t u t' u' : St) → p ≡ q → Within K A → Within K B
    → Alike A C t u → Alike B C t' u' → Alike K C (if p then t else t') (if q then u else u')
choose_alike true true A B K C t u t' u' e h k w v = alike_weaker A K C t u h w
choose_alike false false A B K C t u t' u' e h k w v = alike_weaker B K C t' u' k v
choose_alike true false A B K C t u t' u' e h k w v = cc
choose_alike false true A B K C t u t' u' e h k w v = cc

named_known : (a k s p : Bool) → (s ≡ true → p ≡ true) → (a || (k && s)) ≡ true → (a || (k && p)) ≡ true
named_known true k s p h q = refl
named_known false true s p h q = h q
named_known false false s p h q = q

mutual
  -- a value depends on the bits that are read
  pub value_frame : (e : Term) (σ τ : Assignment) (λs : List (List Bool)) → Same (reads e) σ τ → value e σ λs ≡ value e τ λs
  value_frame (constant v) σ τ λs h = refl
  value_frame (span s m low n) σ τ λs h = taken_same (spots m low n) (λ k. σ (bit s k)) (λ k. τ (bit s k))
      (λ k c. h (bit s k) (true_both (s == s) (covers k (spots m low n)) (same_number s) c))
  value_frame (own k) σ τ λs h = refl
  value_frame (app1 f x) σ τ λs h = ap f (value_frame x σ τ λs h)
  value_frame (app2 f x y) σ τ λs h = ap₂ f
      (value_frame x σ τ λs (λ b r. h b (or_left (reads x b) (reads y b) r)))
      (value_frame y σ τ λs (λ b r. h b (or_right (reads x b) (reads y b) r)))
  value_frame (app3 f x y z) σ τ λs h =
      ap (λ v. f v (value y σ λs) (value z σ λs)) (value_frame x σ τ λs (λ b r. h b (or_left (reads x b) (reads y b || reads z b) r)))
      ∙ ap₂ (f (value x τ λs))
      (value_frame y σ τ λs (λ b r. h b (or_right (reads x b) (reads y b || reads z b) (or_left (reads y b) (reads z b) r))))
      (value_frame z σ τ λs (λ b r. h b (or_right (reads x b) (reads y b || reads z b) (or_right (reads y b) (reads z b) r))))
  value_frame (call as' body n inputs locals) σ τ λs h =
      let A : BitRef → Bool = stmt_reads body in
      let t : St = record { now = σ; later = σ; locals = entered n inputs locals (values as' σ λs) } in
      let u : St = record { now = τ; later = τ; locals = entered n inputs locals (values as' τ λs) } in
      let begin : Alike A (λ b. false) t u = record {
        now_same = λ b r. h b (or_right (args_read as' b) (stmt_reads body b) r);
        later_same = λ b r. cc;
        locals_same = ap (entered n inputs locals) (values_frame as' σ τ λs (λ b r. h b (or_left (args_read as' b) (stmt_reads body b) r)));
      } in
      ap (λ f. slice_index_or f 0 []) (exec_frame body A (λ b. false) t u (reads_known body A (λ b r. r)) begin).locals_same

  pub values_frame : (as' : Args) (σ τ : Assignment) (λs : List (List Bool)) → Same (args_read as') σ τ → values as' σ λs ≡ values as' τ λs
  values_frame stop σ τ λs h = refl
  values_frame (pass e as') σ τ λs h = ap₂ (λ v vs. v ∷ vs)
      (value_frame e σ τ λs (λ b r. h b (or_left (reads e b) (args_read as' b) r)))
      (values_frame as' σ τ λs (λ b r. h b (or_right (reads e b) (args_read as' b) r)))

  pub places_frame : (l : Left) (σ τ : Assignment) (λs : List (List Bool)) → Same (left_reads l) σ τ → places l σ λs ≡ places l τ λs
  places_frame nowhere σ τ λs h = refl
  places_frame (both x y) σ τ λs h = ap₂ joined
      (places_frame y σ τ λs (λ b r. h b (or_right (left_reads x b) (left_reads y b) r)))
      (places_frame x σ τ λs (λ b r. h b (or_left (left_reads x b) (left_reads y b) r)))
  places_frame (slice base m low n) σ τ λs h = refl
  places_frame (slice_at base m f e n) σ τ λs h = ap (λ v. placed_at base (spots m (f v) n)) (value_frame e σ τ λs h)

  -- a body that reads known bits alone makes states that agree on what is known
  pub exec_frame : (s : Stmt) (A C : BitRef → Bool) (t u : St) → ReadsKnown s A → Alike A C t u → Alike (known s A) C (exec s t) (exec s u)
  exec_frame skip A C t u fine w = w
  exec_frame (seq x y) A C t u fine w = exec_frame y (known x A) C (exec x t) (exec x u) fine.1 (exec_frame x A C t u fine.0 w)
  exec_frame (write l e blocking) A C t u fine w =
      let v : value e t.now t.locals ≡ value e u.now u.locals =
      value_frame e t.now u.now t.locals (λ b r. w.now_same b (fine.0 b r)) ∙ ap (λ f. value e u.now f) w.locals_same in
      let p : places l t.now t.locals ≡ places l u.now u.locals =
      places_frame l t.now u.now t.locals (λ b r. w.now_same b (fine.1 b r)) ∙ ap (λ f. places l u.now f) w.locals_same in
      let K : BitRef → Bool = λ b. A b || (blocking && placed b (places l t.now t.locals)) in
      let P : List Place → Type 0 = λ ps. Alike (known (write l e blocking) A) C
      (puts blocking (places l t.now t.locals) (value e t.now t.locals) t) (puts blocking ps (value e u.now u.locals) u) in
      let Q : List Bool → Type 0 = λ vs. Alike (known (write l e blocking) A) C
      (puts blocking (places l t.now t.locals) (value e t.now t.locals) t) (puts blocking (places l t.now t.locals) vs u) in
      subst P p (subst Q v
      (alike_weaker K (known (write l e blocking) A) C
      (puts blocking (places l t.now t.locals) (value e t.now t.locals) t) (puts blocking (places l t.now t.locals) (value e t.now t.locals) u)
      (λ b q. named_known (A b) blocking (surely_names l b) (placed b (places l t.now t.locals)) (named_placed l t.now t.locals b) q)
      (puts_alike blocking A C (places l t.now t.locals) (value e t.now t.locals) t u w)))
  exec_frame (choose c x y) A C t u fine w =
      let v : value c t.now t.locals ≡ value c u.now u.locals =
      value_frame c t.now u.now t.locals (λ b r. w.now_same b (fine.0 b r)) ∙ ap (λ f. value c u.now f) w.locals_same in
      choose_alike (is_set (value c t.now t.locals)) (is_set (value c u.now u.locals)) (known x A) (known y A) (known (choose c x y) A) C
      (exec x t) (exec x u) (exec y t) (exec y u) (ap is_set v)
      (λ b q. (both_true (known x A b) (known y A b) q).0) (λ b q. (both_true (known x A b) (known y A b) q).1)
      (exec_frame x A C t u fine.1 w) (exec_frame y A C t u fine.2 w)
