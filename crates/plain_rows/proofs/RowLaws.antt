-- The verdicts on plain rows are right.
use Rattle.std.proofs.Common.{◌≡◌, ◌∙◌, ◌+◌, ◌<◌, ◌≤◌, ℕ, Bool, true, false, not, ◌&&◌, ◌||◌, ◌==◌, if◌then◌else◌, nat_lt, List, [], Option, Some, None, map, length, refl, sym, ap, ap₂, subst, arith, rules, inl, inr, ◌⊎◌}
use Rattle.std.specs.List.{filter}
use Rattle.design_core.specs.declared.place.BitRef.{BitRef}
use Rattle.design_core.specs.Core.{bit, same_bit}
use Rattle.design_core.specs.Cells.{Bitmap, Cell, In, driven, read_by, cell_reads, Holds, IsTrace, IsSliceOf}
use Rattle.design_core.specs.Rows.{Breaks, CanBreak}
use Rattle.design_core.specs.Leaves.{Leaf, leaf_value, leaves_in_order, IsFirstBreak, IsFirstBreaking, IsNoLater, input}
use Rattle.design_core.specs.Setups.{held_in_window, held_in_run, powered}
use Rattle.plain_form.specs.Table as table
use Rattle.plain_form.specs.declared.wires.Driver.{Driver}
use Rattle.plain_form.specs.declared.wires.Driver.TheVariants.{Port, Fixed}
use Rattle.plain_form.specs.declared.wires.Slot.{Slot}
use Rattle.plain_rows.specs.Plain.{IsRightHere, IsSound, bits, cells, driver_at, end_of, is_same, one_of, ones, or_itself, row_of, verdict_of}
use Rattle.plain_rows.specs.Verdicts.{IsFirstRun, is_leaf, named, ones_of, proved, refuted}
use Rattle.plain_rows.proofs.CellLaws.{cell, given, both_true, drives_own, drives_is, either, filtered, in_items, kept, or_cases, or_left, or_right, reads_is, reads_own, same, same_self, some_reads}
use Rattle.plain_rows.proofs.EndLaws.{driver_in_cells, free_undriven, made, made_end, made_holds, settled_end, undriven_free, worth}
use Rattle.plain_rows.proofs.LeafLaws.{before, chosen, in_leaves, leaf, leaves_are, no_later, no_ones, one_one, values_are}

not_self : (x : Bool) → x ≡ not x → ⊥
not_self true e = cc
not_self false e = cc

not_twice : (x : Bool) → not (not x) ≡ x
not_twice true = refl
not_twice false = refl

same_bit_self : (k : ℕ) → same_bit (bit k 0) (bit k 0) ≡ true
same_bit_self k = rw (same_self k) refl

-- the values of the free ports in the first breaking run
abbrev pub chosen_one : Option ℕ → ℕ → Bool
chosen_one None k = false
chosen_one (Some m) k = k == m

-- with different ends the chosen values differ at them
other_false : (a b : ℕ) → (a ≡ b → ⊥) → (a == b) ≡ false
other_false a b ne = elim (either (a == b)) [ inl t ↦ absurd (ne (same a b t)) | inr f ↦ f ]

pub ends_differ : (x y : Driver) → is_same x y ≡ false → worth (chosen_one (one_of x y)) y ≡ not (worth (chosen_one (one_of x y)) x)
ends_differ (Fixed true) (Fixed true) e = cc
ends_differ (Fixed true) (Fixed false) e = refl
ends_differ (Fixed false) (Fixed true) e = refl
ends_differ (Fixed false) (Fixed false) e = cc
ends_differ (Fixed true) (Port k) e = refl
ends_differ (Fixed false) (Port k) e = same_self k
ends_differ (Port k) (Fixed true) e = refl
ends_differ (Port k) (Fixed false) e = ap not (sym (same_self k))
ends_differ (Port a) (Port b) e = at (nat_lt a b)
  where
    flipped : (b == a) ≡ false
    flipped = other_false b a (λ q. let w : true ≡ false = sym (same_self a) ∙ ap (λ z. a == z) (sym q) ∙ e in cc)

    at : (t : Bool) → (b == (if t then b else a)) ≡ not (a == (if t then b else a))
    at true = rw (same_self b, e) refl
    at false = rw (same_self a, flipped) refl

pub ends_same : (x y : Driver) → is_same x y ≡ true → x ≡ y
ends_same (Fixed true) (Fixed true) e = refl
ends_same (Fixed true) (Fixed false) e = cc
ends_same (Fixed false) (Fixed true) e = cc
ends_same (Fixed false) (Fixed false) e = refl
ends_same (Fixed true) (Port k) e = cc
ends_same (Fixed false) (Port k) e = cc
ends_same (Port k) (Fixed true) e = cc
ends_same (Port k) (Fixed false) e = cc
ends_same (Port a) (Port b) e = ap Port (same a b e)

module _ (slots : List Slot) (r : table.Row) where
  -- what a breaking window or run of the row says of the two ends
  pub broken : (held : ℕ → BitRef → Option Bool) (p : Option (Bitmap BitRef)) (can : CanBreak (cells slots) held p (row_of r) 0)
      → given (can.σ 0) (end_of slots r.dest) ≡ not (given (can.σ 0) (end_of slots r.source))
  broken held p can =
      let holds : (c : Cell BitRef) → In c (cells slots) → Holds c (can.s 0) (can.σ 0) = can.trace.settled 0 (omega arith) in
      let pair : can.hits.pair ≡ (bit r.source 0, bit r.dest 0) = elim can.hits.is_one [ inl e ↦ e | inr h ↦ absurd h ] in
      let d : can.σ 0 (bit r.dest 0) ≡ not (can.σ 0 (bit r.source 0)) =
      sym (ap (λ (q : BitRef × BitRef). can.σ 0 q.1) pair) ∙ can.hits.differs ∙ ap (λ (q : BitRef × BitRef). not (can.σ 0 q.0)) pair in
      sym (settled_end slots (can.s 0) (can.σ 0) holds r.dest) ∙ d ∙ ap not (settled_end slots (can.s 0) (can.σ 0) holds r.source)

  -- one and the same value stands at both ends
  pub row_proved : end_of slots r.source ≡ end_of slots r.dest → IsRightHere slots r proved
  row_proved e = record { right = λ can. not_self (given (can.σ 0) (end_of slots r.dest)) (broken (held_in_window [] None) None can ∙ ap (λ d. not (given (can.σ 0) d)) e) }

  -- the cells that drive an end of the row
  abbrev pub wanted : Cell BitRef → Bool
  wanted c = c.drives (bit r.source 0) || c.drives (bit r.dest 0)

  abbrev pub row_slice : List (Cell BitRef)
  row_slice = filter wanted (cells slots)

  named_is : (b : BitRef) → named (row_of r) b ≡ true → (same_bit b (bit r.source 0) ≡ true) ⊎ (same_bit b (bit r.dest 0) ≡ true)
  named_is b e =
      elim (or_cases ((same_bit b (bit r.source 0) || same_bit b (bit r.dest 0)) || false) false e) [
        | inl t ↦ elim (or_cases (same_bit b (bit r.source 0) || same_bit b (bit r.dest 0)) false t) [
          | inl u ↦ or_cases (same_bit b (bit r.source 0)) (same_bit b (bit r.dest 0)) u
          | inr f ↦ cc
        ]
        | inr f ↦ cc
      ]

  same_bits : (a b : BitRef) → same_bit a b ≡ true → a ≡ b
  same_bits a b e = let h = both_true (a.signal == b.signal) (a.bit == b.bit) e in ap₂ (λ s k. bit s k) (same a.signal b.signal h.0) (same a.bit b.bit h.1)

  drives_wanted : (c : Cell BitRef) (b : BitRef) → named (row_of r) b ≡ true → c.drives b ≡ true → wanted c ≡ true
  drives_wanted c b e t = elim (named_is b e) [
    | inl s ↦ or_left (c.drives (bit r.source 0)) (c.drives (bit r.dest 0)) (ap (λ (q : BitRef). c.drives q) (sym (same_bits b (bit r.source 0) s)) ∙ t)
    | inr d ↦ or_right (c.drives (bit r.source 0)) (c.drives (bit r.dest 0)) (ap (λ (q : BitRef). c.drives q) (sym (same_bits b (bit r.dest 0) d)) ∙ t)
  ]

  source_named : named (row_of r) (bit r.source 0) ≡ true
  source_named = rw (same_bit_self r.source) refl

  dest_named : named (row_of r) (bit r.dest 0) ≡ true
  dest_named = or_left ((same_bit (bit r.dest 0) (bit r.source 0) || same_bit (bit r.dest 0) (bit r.dest 0)) || false) false
      (or_left (same_bit (bit r.dest 0) (bit r.source 0) || same_bit (bit r.dest 0) (bit r.dest 0)) false
      (or_right (same_bit (bit r.dest 0) (bit r.source 0)) (same_bit (bit r.dest 0) (bit r.dest 0)) (same_bit_self r.dest)))

  module _ (sound : IsSound slots) where
    -- nothing drives what a cell reads
    reads_undriven : (c d : Cell BitRef) (b : BitRef) → In c (cells slots) → In d (cells slots) → cell_reads d b ≡ true → c.drives b ≡ true → ⊥
    reads_undriven c d b hc hd reads drives =
        let a = in_items d 0 slots hd in
        let q = in_items c 0 slots hc in
        let own : cell_reads (cell (0 + a.at) a.driver) b ≡ true = ap (λ (y : Cell BitRef). cell_reads y b) (sym a.is_it) ∙ reads in
        let k = reads_is (0 + a.at) a.driver b own in
        let free = sound.reads_free a.at b.signal (a.drives_it ∙ ap Some k.0) in
        let own2 : (cell (0 + q.at) q.driver).drives b ≡ true = ap (λ (y : Cell BitRef). y.drives b) (sym q.is_it) ∙ drives in
        let at : b ≡ bit (0 + q.at) 0 = drives_is (0 + q.at) q.driver b own2 in
        let n : b.signal ≡ 0 + q.at = ap (λ (y : BitRef). y.signal) at in
        let z : b.signal ≡ q.at = omega arith in
        let w : None ≡ Some q.driver = sym (free.0) ∙ ap (driver_at slots) z ∙ q.drives_it in cc

    pub slice_is : IsSliceOf (cells slots) (named (row_of r)) row_slice
    slice_is = record {
      closed = record {
        inside = λ c h. (filtered wanted (cells slots) c h).0;
        starts = λ c h b e t. kept wanted (cells slots) c h (drives_wanted c b e t);
        grows = λ c d hc hd b reads drives. absurd (reads_undriven c d b hc ((filtered wanted (cells slots) d hd).0) reads drives);
      };
      least = λ P closed c h.
          let f = filtered wanted (cells slots) c h in
          elim (or_cases (c.drives (bit r.source 0)) (c.drives (bit r.dest 0)) f.1) [
            | inl s ↦ closed.starts c f.0 (bit r.source 0) source_named s
            | inr d ↦ closed.starts c f.0 (bit r.dest 0) dest_named d
          ];
    }

    -- the leaves as places
    abbrev pub leaf_at : ℕ → Bool
    leaf_at k = is_leaf (cells slots) (held_in_run [] None 0) (row_of r) row_slice (bit k 0)

    free_of_leaf : (k : ℕ) → leaf_at k ≡ true → driver_at slots k ≡ None
    free_of_leaf k e =
        let h = both_true (not (driven (cells slots) (bit k 0)) && true) (named (row_of r) (bit k 0) || read_by row_slice (bit k 0)) e in
        let n = both_true (not (driven (cells slots) (bit k 0))) true h.0 in
        undriven_free slots k (sym (not_twice (driven (cells slots) (bit k 0))) ∙ ap not n.0)

    leaf_named : (k : ℕ) → driver_at slots k ≡ None → (named (row_of r) (bit k 0) || read_by row_slice (bit k 0)) ≡ true → leaf_at k ≡ true
    leaf_named k free e = rw (free_undriven slots k free, e) refl

    -- a free port at the other end of an end of the row is a leaf
    leaf_end : (i k : ℕ) (o : Option Driver) → driver_at slots i ≡ o → named (row_of r) (bit i 0) ≡ true → or_itself i o ≡ Port k → i < length slots
        → (leaf_at k ≡ true) × (k < length slots)
    leaf_end i k None e n is lt =
        let z : i ≡ k = cc in
        (leaf_named k (ap (driver_at slots) (sym z) ∙ e) (or_left (named (row_of r) (bit k 0)) (read_by row_slice (bit k 0)) (ap (λ m. named (row_of r) (bit m 0)) (sym z) ∙ n)), omega arith)
    leaf_end i k (Some d) e n is lt =
        let at : driver_at slots i ≡ Some (Port k) = e ∙ ap Some is in
        let free = sound.reads_free i k at in
        let c = cell i (Port k) in
        let inside : In c row_slice = kept wanted (cells slots) c (driver_in_cells slots i (Port k) at) (drives_wanted c (bit i 0) n (drives_own i (Port k))) in
        (leaf_named k free.0 (or_right (named (row_of r) (bit k 0)) (read_by row_slice (bit k 0)) (some_reads row_slice (bit k 0) c inside (reads_own i k))), free.1)

    module _ (source_in : r.source < length slots) (dest_in : r.dest < length slots) where
      source_leaf : (k : ℕ) → end_of slots r.source ≡ Port k → (leaf_at k ≡ true) × (k < length slots)
      source_leaf k e = leaf_end r.source k (driver_at slots r.source) refl source_named e source_in

      dest_leaf : (k : ℕ) → end_of slots r.dest ≡ Port k → (leaf_at k ≡ true) × (k < length slots)
      dest_leaf k e = leaf_end r.dest k (driver_at slots r.dest) refl dest_named e dest_in

      -- the port that is 1 is a leaf
      one_leaf : (x y : Driver) (m : ℕ) → end_of slots r.source ≡ x → end_of slots r.dest ≡ y → one_of x y ≡ Some m → (leaf_at m ≡ true) × (m < length slots)
      one_leaf (Fixed true) (Fixed w) m ex ey e = cc
      one_leaf (Fixed false) (Fixed w) m ex ey e = cc
      one_leaf (Fixed true) (Port k) m ex ey e = cc
      one_leaf (Fixed false) (Port k) m ex ey e = let z : k ≡ m = cc in dest_leaf m (ey ∙ ap Port z)
      one_leaf (Port k) (Fixed true) m ex ey e = cc
      one_leaf (Port k) (Fixed false) m ex ey e = let z : k ≡ m = cc in source_leaf m (ex ∙ ap Port z)
      one_leaf (Port a) (Port b) m ex ey e = at (nat_lt a b) e
        where
          at : (t : Bool) → Some (if t then b else a) ≡ Some m → (leaf_at m ≡ true) × (m < length slots)
          at true q = let z : b ≡ m = cc in dest_leaf m (ey ∙ ap Port z)
          at false q = let z : a ≡ m = cc in source_leaf m (ex ∙ ap Port z)

      less : (a b : ℕ) → nat_lt a b ≡ true → a < b
      less a b e = search rules

      not_less : (a b : ℕ) → nat_lt a b ≡ false → b ≤ a
      not_less a b e = search rules

      -- no other breaking values come before
      module _ (τ : ℕ → Bool) (g : Bitmap BitRef) where
        abbrev value : ℕ → Bool
        value k = made slots τ (bit k 0)

        abbrev other : ℕ → Bool
        other k = g (bit k 0)

        no_one : ((k : ℕ) → leaf_at k ≡ true → value k ≡ false) → IsNoLater (map value (chosen leaf_at 0 (length slots))) (map other (chosen leaf_at 0 (length slots)))
        no_one is = no_later leaf_at value other 0 (length slots) (λ k p t. let w : true ≡ false = sym t ∙ is k p in cc)

        with_one : (m : ℕ) → ((k : ℕ) → leaf_at k ≡ true → value k ≡ (k == m)) → other m ≡ true
            → IsNoLater (map value (chosen leaf_at 0 (length slots))) (map other (chosen leaf_at 0 (length slots)))
        with_one m is e = no_later leaf_at value other 0 (length slots) (λ k p t. ap other (same k m (sym (is k p) ∙ t)) ∙ e)

        with_two : (low high : ℕ) → low < high → leaf_at low ≡ true → low < length slots → ((k : ℕ) → leaf_at k ≡ true → value k ≡ (k == high))
            → (other low ≡ true) ⊎ (other high ≡ true) → IsNoLater (map value (chosen leaf_at 0 (length slots))) (map other (chosen leaf_at 0 (length slots)))
        with_two low high lt p inside is (inr e) = with_one high is e
        with_two low high lt p inside is (inl e) =
            before leaf_at value other low 0 (length slots) (omega arith) (omega arith) p (is low p ∙ other_false low high (λ q. omega arith)) e
            (λ k pk t. let z : k ≡ high = same k high (sym (is k pk) ∙ t) in omega arith)

        some_one : (a b : Bool) → b ≡ not a → (a ≡ true) ⊎ (b ≡ true)
        some_one true b e = inl refl
        some_one false b e = inr e

        swapped : {A B : Type 0} → A ⊎ B → B ⊎ A
        swapped (inl a) = inr a
        swapped (inr b) = inl b

        first_of : (x y : Driver) → end_of slots r.source ≡ x → end_of slots r.dest ≡ y → is_same x y ≡ false
            → ((k : ℕ) → leaf_at k ≡ true → value k ≡ chosen_one (one_of x y) k) → given g y ≡ not (given g x)
            → IsNoLater (map value (chosen leaf_at 0 (length slots))) (map other (chosen leaf_at 0 (length slots)))
        first_of (Fixed true) (Fixed w) ex ey d is broke = no_one is
        first_of (Fixed false) (Fixed w) ex ey d is broke = no_one is
        first_of (Fixed true) (Port k) ex ey d is broke = no_one is
        first_of (Port k) (Fixed true) ex ey d is broke = no_one is
        first_of (Fixed false) (Port m) ex ey d is broke = with_one m is broke
        first_of (Port m) (Fixed false) ex ey d is broke = with_one m is (sym (not_twice (g (bit m 0))) ∙ ap not (sym broke))
        first_of (Port a) (Port b) ex ey d is broke = at (nat_lt a b) refl is
          where
            apart : a ≡ b → ⊥
            apart q = let w : true ≡ false = sym (same_self a) ∙ ap (λ z. a == z) q ∙ d in cc

            at : (t : Bool) → nat_lt a b ≡ t → ((k : ℕ) → leaf_at k ≡ true → value k ≡ (k == (if t then b else a)))
                → IsNoLater (map value (chosen leaf_at 0 (length slots))) (map other (chosen leaf_at 0 (length slots)))
            at true e h = let l = source_leaf a ex in with_two a b (less a b e) l.0 l.1 h (some_one (g (bit a 0)) (g (bit b 0)) broke)
            at false e h =
                let l = dest_leaf b ey in
                let le : b ≤ a = not_less a b e in
                let ne : a ≡ b → ⊥ = apart in
                let lt : b < a = omega arith in
                with_two b a lt l.0 l.1 h (swapped (some_one (g (bit a 0)) (g (bit b 0)) broke))

      module _ (differ : is_same (end_of slots r.source) (end_of slots r.dest) ≡ false) where
        abbrev one : Option ℕ
        one = one_of (end_of slots r.source) (end_of slots r.dest)

        abbrev σ : Bitmap BitRef
        σ = made slots (chosen_one one)

        abbrev off : Bitmap BitRef
        off b = false

        trace : (held : ℕ → BitRef → Option Bool) → ((k : ℕ) (b : BitRef) → held k b ≡ None) → IsTrace (cells slots) held 0 (λ k. off) (λ k. σ)
        trace held free = record {
          settled = λ k le c h. made_holds slots sound (chosen_one one) off c h;
          steps = λ k lt. absurd (omega arith);
          holding = λ k le b v e. let w : None ≡ Some v = sym (free k b) ∙ e in cc;
        }

        broken_here : Breaks (row_of r) 0 (λ k. σ)
        broken_here = record {
          met = λ k le c h. absurd h;
          pair = (bit r.source 0, bit r.dest 0);
          is_one = inl refl;
          differs = made_end slots (chosen_one one) r.dest (driver_at slots r.dest) refl ∙ ends_differ (end_of slots r.source) (end_of slots r.dest) differ
              ∙ ap not (sym (made_end slots (chosen_one one) r.source (driver_at slots r.source) refl));
        }

        abbrev can_run : CanBreak (cells slots) (held_in_run [] None 0) (Some (powered [])) (row_of r) 0
        can_run = record { s = λ k. off; σ = λ k. σ; trace = trace (held_in_run [] None 0) (λ k b. refl); begins = λ c h b d t. refl; hits = broken_here }

        can_window : CanBreak (cells slots) (held_in_window [] None) None (row_of r) 0
        can_window = record { s = λ k. off; σ = λ k. σ; trace = trace (held_in_window [] None) (λ k b. refl); begins = tt; hits = broken_here }

        abbrev leaves : List (Leaf BitRef)
        leaves = leaves_in_order (bits slots) (λ b. false) (is_leaf (cells slots) (held_in_run [] None 0) (row_of r) row_slice) 0

        leaves_here : leaves ≡ map leaf (chosen leaf_at 0 (length slots))
        leaves_here = leaves_are (is_leaf (cells slots) (held_in_run [] None 0) (row_of r) row_slice) (length slots)

        leaf_is : (k : ℕ) → leaf_at k ≡ true → σ (bit k 0) ≡ chosen_one one k
        leaf_is k p = made_end slots (chosen_one one) k None (free_of_leaf k p)

        none_before : (g t : ℕ → Bitmap BitRef) → given (g 0) (end_of slots r.dest) ≡ not (given (g 0) (end_of slots r.source))
            → IsNoLater (map (leaf_value (λ k. off) (λ k. σ)) leaves) (map (leaf_value t g) leaves)
        none_before g t broke =
            let ks = chosen leaf_at 0 (length slots) in
            let Q : List (Leaf BitRef) → Type 0 = λ ls. IsNoLater (map (leaf_value (λ k. off) (λ k. σ)) ls) (map (leaf_value t g) ls) in
            let R : List Bool → Type 0 = λ vs. IsNoLater vs (map (leaf_value t g) (map leaf ks)) in
            let S : List Bool → Type 0 = λ vs. IsNoLater (map (λ k. σ (bit k 0)) ks) vs in
            let base = first_of (chosen_one one) (g 0) (end_of slots r.source) (end_of slots r.dest) refl refl differ leaf_is broke in
            subst Q (sym leaves_here) (subst R (sym (values_are (λ k. off) (λ k. σ) ks)) (subst S (sym (values_are t g ks)) base))

        first_break : IsFirstBreak (cells slots) (held_in_run [] None 0) (Some (powered [])) (row_of r) 0 leaves (map (leaf_value (λ k. off) (λ k. σ)) leaves)
        first_break = record {
          hits = record { can = can_run; has = refl };
          none_before = λ other bw.
              let P : List Bool → Type 0 = λ vs. IsNoLater (map (leaf_value (λ k. off) (λ k. σ)) leaves) vs in
              subst P bw.has (none_before bw.can.σ bw.can.s (broken (held_in_run [] None 0) (Some (powered [])) bw.can));
        }

        -- a free port that is no leaf is 0
        other_zero : (k : ℕ) (o : Option ℕ) → one ≡ o → ¬ In (input 0 (bit k 0)) leaves → chosen_one o k ≡ false
        other_zero k None e notin = refl
        other_zero k (Some m) e notin = elim (either (k == m)) [
          | inl t ↦ absurd (
              let z : k ≡ m = same k m t in
              let l = one_leaf (end_of slots r.source) (end_of slots r.dest) m refl refl e in
              let Q : List (Leaf BitRef) → Type 0 = λ ls. In (leaf m) ls in
              let there : In (leaf m) leaves = subst Q (sym leaves_here) (in_leaves leaf_at m 0 (length slots) (omega arith) (omega arith) l.0) in
              let P : ℕ → Type 0 = λ n. In (leaf n) leaves in
              notin (subst P (sym z) there))
          | inr f ↦ f
        ]

        zero_at : (b : BitRef) (t : Bool) → (b.bit == 0) ≡ t → driven (cells slots) b ≡ false → ¬ In (input 0 b) leaves → (if t then worth (chosen_one one) (end_of slots b.signal) else false) ≡ false
        zero_at b false e free notin = refl
        zero_at b true e free notin =
            let z : b ≡ bit b.signal 0 = ap (λ n. bit b.signal n) (same b.bit 0 e) in
            let undriven : driver_at slots b.signal ≡ None = undriven_free slots b.signal (ap (driven (cells slots)) (sym z) ∙ free) in
            let P : BitRef → Type 0 = λ a. ¬ In (input 0 a) leaves in
            ap (λ o. worth (chosen_one one) (or_itself b.signal o)) undriven ∙ other_zero b.signal one refl (subst P z notin)

        first_trace : IsFirstBreaking (cells slots) (held_in_run [] None 0) (Some (powered [])) (row_of r) 0 leaves (λ k. off) (λ k. σ)
        first_trace = record {
          trace = trace (held_in_run [] None 0) (λ k b. refl);
          begins = λ c h b d t. refl;
          hits = broken_here;
          first = first_break;
          other_inputs = λ k le b free no notin.
              let z : k ≡ 0 = omega arith in
              let P : ℕ → Type 0 = λ n. ¬ In (input n b) leaves in
              zero_at b (b.bit == 0) refl free (subst P z notin);
          other_registers = λ e. let w : Some (powered []) ≡ None = e in cc;
        }

        printed_at : (o : Option ℕ) → one ≡ o → ones o ≡ ones_of (λ k. σ) (map leaf (chosen leaf_at 0 (length slots)))
        printed_at None e = sym (no_ones leaf_at (λ k. σ) 0 (length slots) (λ k le p. leaf_is k p ∙ ap (λ o. chosen_one o k) e))
        printed_at (Some m) e =
            let l = one_leaf (end_of slots r.source) (end_of slots r.dest) m refl refl e in
            sym (one_one leaf_at (λ k. σ) m 0 (length slots) (omega arith) (omega arith) l.0 (λ k p. leaf_is k p ∙ ap (λ o. chosen_one o k) e))

        first_run : IsFirstRun (cells slots) (bits slots) (held_in_run [] None 0) (powered []) (row_of r) 0 (ones one)
        first_run = record {
          lowest = 0;
          none_lower = λ j lt. absurd (omega arith);
          slice = row_slice;
          is_slice = slice_is;
          s = λ k. off;
          σ = λ k. σ;
          first = first_trace;
          printed = printed_at one refl ∙ ap (ones_of (λ k. σ)) (sym leaves_here);
        }

        -- two different values stand at the ends
        pub row_refuted : IsRightHere slots r (refuted 0 (ones one))
        row_refuted = record { right = (λ valid. valid can_window, (omega arith, omega arith, can_run, λ u le lt. absurd (omega arith)), first_run) }

verdict_at : (slots : List Slot) (r : table.Row) → IsSound slots → r.source < length slots → r.dest < length slots → (b : Bool) → is_same (end_of slots r.source) (end_of slots r.dest) ≡ b
    → IsRightHere slots r (if b then proved else refuted 0 (ones (one_of (end_of slots r.source) (end_of slots r.dest))))
verdict_at slots r sound s d true e = row_proved slots r (ends_same (end_of slots r.source) (end_of slots r.dest) e)
verdict_at slots r sound s d false e = row_refuted slots r sound s d e

-- the verdict by the ends is right
pub verdict_right : (slots : List Slot) (r : table.Row) → IsSound slots → r.source < length slots → r.dest < length slots → IsRightHere slots r (verdict_of slots r)
verdict_right slots r sound s d = verdict_at slots r sound s d (is_same (end_of slots r.source) (end_of slots r.dest)) refl
