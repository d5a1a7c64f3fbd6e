-- Under other numbers of signals a tree means the same.
use Rattle.std.proofs.Common.{◌≡◌, ℕ, Bool, true, false, List, [], ◌∷◌, map, inl, inr, refl, sym, ◌∙◌, ap, ap₂, if◌then◌else◌, ◌&&◌, ◌||◌, Option, Some, None, arith}
use Rattle.std.specs.Prelude.{◌==◌, nat_lt, slice_index_or}
use Rattle.design_core.proofs.BoolLaws.{or_cases, both_true}
use Rattle.std.proofs.lemmas.Bool.Decides.{nat_tests}
use Rattle.std.proofs.Math.Path.{fun_ext}
use Rattle.bits_core.specs.Places.{is_set}
use Rattle.design_core.specs.declared.place.BitRef.{BitRef}
use Rattle.design_core.specs.Core.{Assignment, bit, same_bit, set_bit, spots, Base, signal, local, Term, constant, span, own, app1, app2, app3, call, Args, stop, pass, Left, nowhere, both, slice, slice_at, Stmt, skip, seq, write, choose, Place, lost, in_signal, in_local, place_of, St, put, first_bit, rest_bits, puts, joined, placed_at, entered, value, values, places, exec, covers, left_drives, drives}
use Rattle.design_core.specs.Renamed.{moved, pulled, pulled_state, moved_base, renamed, renamed_args, renamed_left, renamed_stmt}

decide_same : (a b : Bool) → (a ≡ true → b ≡ true) → (b ≡ true → a ≡ true) → a ≡ b
decide_same true b h g = sym (h refl)
decide_same false true h g = cc (g refl)
decide_same false false h g = refl

same_tests : (x y j k : ℕ) → (x ≡ y → j ≡ k) → (j ≡ k → x ≡ y) → (x == y) ≡ (j == k)
same_tests x y j k h g = decide_same (x == y) (j == k) (λ e. (let r : x ≡ y = grind (arith, nat_tests) in let q = h r in grind (arith, nat_tests))) (λ e. (let r : j ≡ k = grind (arith, nat_tests) in let q = g r in grind (arith, nat_tests)))

number_is : (a b : ℕ) → (a == b) ≡ true → a ≡ b
number_is a b h = grind (arith, nat_tests)

module _ (ρ : ℕ → ℕ) (injective : (j k : ℕ) → ρ j ≡ ρ k → j ≡ k) where
  abbrev moved_place : Place → Place
  moved_place lost = lost
  moved_place (in_signal b) = in_signal (moved ρ b)
  moved_place (in_local j k) = in_local j k

  same_number : (j k : ℕ) → (ρ j == ρ k) ≡ (j == k)
  same_number j k = same_tests (ρ j) (ρ k) j k (injective j k) (λ e. ap ρ e)

  same_moved : (a b : BitRef) → same_bit (moved ρ a) (moved ρ b) ≡ same_bit a b
  same_moved a b = ap (λ x. x && (a.bit == b.bit)) (same_number a.signal b.signal)

  set_pulled : (σ : Assignment) (a : BitRef) (v : Bool) → pulled ρ (set_bit σ (moved ρ a) v) ≡ set_bit (pulled ρ σ) a v
  set_pulled σ a v = fun_ext (λ b. ap (λ x. if x then v else σ (moved ρ b)) (same_moved b a))

  put_moved : (blocking : Bool) (p : Place) (v : Bool) (t : St) → pulled_state ρ (put blocking (moved_place p) v t) ≡ put blocking p v (pulled_state ρ t)
  put_moved true lost v t = refl
  put_moved false lost v t = refl
  put_moved true (in_signal a) v t = ap (λ σ. let x : St = record { now = σ; later = pulled ρ t.later; locals = t.locals } in x) (set_pulled t.now a v)
  put_moved false (in_signal a) v t = ap (λ σ. let x : St = record { now = pulled ρ t.now; later = σ; locals = t.locals } in x) (set_pulled t.later a v)
  put_moved true (in_local j k) v t = refl
  put_moved false (in_local j k) v t = refl

  puts_moved : (blocking : Bool) (ps : List Place) (vs : List Bool) (t : St) → pulled_state ρ (puts blocking (map moved_place ps) vs t) ≡ puts blocking ps vs (pulled_state ρ t)
  puts_moved blocking [] vs t = refl
  puts_moved blocking (p ∷ ps) vs t = put_moved blocking p (first_bit vs) (puts blocking (map moved_place ps) (rest_bits vs) t)
      ∙ ap (put blocking p (first_bit vs)) (puts_moved blocking ps (rest_bits vs) t)

  joined_moved : (ps qs : List Place) → map moved_place (joined ps qs) ≡ joined (map moved_place ps) (map moved_place qs)
  joined_moved [] qs = refl
  joined_moved (p ∷ ps) qs = ap (λ xs. moved_place p ∷ xs) (joined_moved ps qs)

  place_moved : (b : Base) (o : Option ℕ) → place_of (moved_base ρ b) o ≡ moved_place (place_of b o)
  place_moved (signal s) None = refl
  place_moved (signal s) (Some k) = refl
  place_moved (local s) None = refl
  place_moved (local s) (Some k) = refl

  placed_moved : (b : Base) (os : List (Option ℕ)) → placed_at (moved_base ρ b) os ≡ map moved_place (placed_at b os)
  placed_moved b [] = refl
  placed_moved b (o ∷ os) = ap₂ (λ x xs. x ∷ xs) (place_moved b o) (placed_moved b os)

  choose_moved : (p q : Bool) (t u t' u' : St) → p ≡ q → pulled_state ρ t ≡ t' → pulled_state ρ u ≡ u' → pulled_state ρ (if p then t else u) ≡ (if q then t' else u')
  choose_moved true true t u t' u' e h k = h
  choose_moved false false t u t' u' e h k = k
  choose_moved true false t u t' u' e h k = cc
  choose_moved false true t u t' u' e h k = cc

  mutual
    pub value_renamed : (e : Term) (σ : Assignment) (λs : List (List Bool)) → value (renamed ρ e) σ λs ≡ value e (pulled ρ σ) λs
    value_renamed (constant v) σ λs = refl
    value_renamed (span s m low n) σ λs = refl
    value_renamed (own k) σ λs = refl
    value_renamed (app1 f x) σ λs = ap f (value_renamed x σ λs)
    value_renamed (app2 f x y) σ λs = ap₂ f (value_renamed x σ λs) (value_renamed y σ λs)
    value_renamed (app3 f x y z) σ λs = ap (λ v. f v (value (renamed ρ y) σ λs) (value (renamed ρ z) σ λs)) (value_renamed x σ λs)
        ∙ ap₂ (f (value x (pulled ρ σ) λs)) (value_renamed y σ λs) (value_renamed z σ λs)
    value_renamed (call as' body n inputs locals) σ λs =
        ap (λ vs. slice_index_or (exec (renamed_stmt ρ body) (record { now = σ; later = σ; locals = entered n inputs locals vs })).locals 0 []) (values_renamed as' σ λs)
        ∙ ap (λ (t : St). slice_index_or t.locals 0 []) (exec_renamed body (record { now = σ; later = σ; locals = entered n inputs locals (values as' (pulled ρ σ) λs) }))

    pub values_renamed : (as' : Args) (σ : Assignment) (λs : List (List Bool)) → values (renamed_args ρ as') σ λs ≡ values as' (pulled ρ σ) λs
    values_renamed stop σ λs = refl
    values_renamed (pass e as') σ λs = ap₂ (λ v vs. v ∷ vs) (value_renamed e σ λs) (values_renamed as' σ λs)

    pub places_renamed : (l : Left) (σ : Assignment) (λs : List (List Bool)) → places (renamed_left ρ l) σ λs ≡ map moved_place (places l (pulled ρ σ) λs)
    places_renamed nowhere σ λs = refl
    places_renamed (both x y) σ λs = ap₂ joined (places_renamed y σ λs) (places_renamed x σ λs) ∙ sym (joined_moved (places y (pulled ρ σ) λs) (places x (pulled ρ σ) λs))
    places_renamed (slice b m low n) σ λs = placed_moved b (spots m low n)
    places_renamed (slice_at b m f e n) σ λs = ap (λ v. placed_at (moved_base ρ b) (spots m (f v) n)) (value_renamed e σ λs)
        ∙ placed_moved b (spots m (f (value e (pulled ρ σ) λs)) n)

    pub exec_renamed : (s : Stmt) (t : St) → pulled_state ρ (exec (renamed_stmt ρ s) t) ≡ exec s (pulled_state ρ t)
    exec_renamed skip t = refl
    exec_renamed (seq x y) t = exec_renamed y (exec (renamed_stmt ρ x) t) ∙ ap (exec y) (exec_renamed x t)
    exec_renamed (write l e blocking) t =
        ap₂ (λ ps vs. pulled_state ρ (puts blocking ps vs t)) (places_renamed l t.now t.locals) (value_renamed e t.now t.locals)
        ∙ puts_moved blocking (places l (pulled ρ t.now) t.locals) (value e (pulled ρ t.now) t.locals) t
    exec_renamed (choose c x y) t = choose_moved (is_set (value (renamed ρ c) t.now t.locals)) (is_set (value c (pulled ρ t.now) t.locals))
        (exec (renamed_stmt ρ x) t) (exec (renamed_stmt ρ y) t) (exec x (pulled_state ρ t)) (exec y (pulled_state ρ t))
        (ap is_set (value_renamed c t.now t.locals)) (exec_renamed x t) (exec_renamed y t)

  pub left_drives_renamed : (l : Left) (b : BitRef) → left_drives (renamed_left ρ l) (moved ρ b) ≡ left_drives l b
  left_drives_renamed nowhere b = refl
  left_drives_renamed (both x y) b = ap₂ (λ p q. p || q) (left_drives_renamed x b) (left_drives_renamed y b)
  left_drives_renamed (slice (signal s) m low n) b = ap (λ x. x && covers b.bit (spots m low n)) (same_number b.signal s)
  left_drives_renamed (slice (local s) m low n) b = refl
  left_drives_renamed (slice_at (signal s) m f e n) b = ap (λ x. x && nat_lt b.bit m) (same_number b.signal s)
  left_drives_renamed (slice_at (local s) m f e n) b = refl

  pub drives_renamed : (s : Stmt) (b : BitRef) → drives (renamed_stmt ρ s) (moved ρ b) ≡ drives s b
  drives_renamed skip b = refl
  drives_renamed (seq x y) b = ap₂ (λ p q. p || q) (drives_renamed x b) (drives_renamed y b)
  drives_renamed (write l e blocking) b = left_drives_renamed l b
  drives_renamed (choose c x y) b = ap₂ (λ p q. p || q) (drives_renamed x b) (drives_renamed y b)

  module _ (β : ℕ → ℕ) (returns : (k : ℕ) → β (ρ k) ≡ k) where
    same_signal : (b : BitRef) (s : ℕ) (q : Bool) → ((b.signal == ρ s) && q) ≡ true → moved ρ (moved β b) ≡ b
    same_signal b s q h =
        let e : b.signal ≡ ρ s = number_is b.signal (ρ s) (both_true (b.signal == ρ s) q h).0 in
        ap (λ x. bit x b.bit) (ap (λ x. ρ (β x)) e ∙ ap ρ (returns s) ∙ sym e)

    pub left_drives_image : (l : Left) (b : BitRef) → left_drives (renamed_left ρ l) b ≡ true → moved ρ (moved β b) ≡ b
    left_drives_image nowhere b h = cc
    left_drives_image (both x y) b h = elim (or_cases (left_drives (renamed_left ρ x) b) (left_drives (renamed_left ρ y) b) h) [
      | inl r ↦ left_drives_image x b r
      | inr r ↦ left_drives_image y b r
    ]
    left_drives_image (slice (signal s) m low n) b h = same_signal b s (covers b.bit (spots m low n)) h
    left_drives_image (slice (local s) m low n) b h = cc
    left_drives_image (slice_at (signal s) m f e n) b h = same_signal b s (nat_lt b.bit m) h
    left_drives_image (slice_at (local s) m f e n) b h = cc

    pub drives_image : (s : Stmt) (b : BitRef) → drives (renamed_stmt ρ s) b ≡ true → moved ρ (moved β b) ≡ b
    drives_image skip b h = cc
    drives_image (seq x y) b h = elim (or_cases (drives (renamed_stmt ρ x) b) (drives (renamed_stmt ρ y) b) h) [
      | inl r ↦ drives_image x b r
      | inr r ↦ drives_image y b r
    ]
    drives_image (write l e blocking) b h = left_drives_image l b h
    drives_image (choose c x y) b h = elim (or_cases (drives (renamed_stmt ρ x) b) (drives (renamed_stmt ρ y) b) h) [
      | inl r ↦ drives_image x b r
      | inr r ↦ drives_image y b r
    ]
