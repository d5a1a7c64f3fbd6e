-- The worked rows.
use Rattle.std.proofs.Common.{◌≡◌, ℕ, zero, suc, ◌+◌, ◌<◌, Bool, true, false, not, ◌&&◌, ◌||◌, [], ◌∷◌, map, inl, refl, sym, ◌∙◌, ap, ap₂, subst, Some, None, arith, if◌then◌else◌, List}
use Rattle.std.specs.Prelude.{◌==◌}
use Rattle.std.proofs.lemmas.Bool.Decides.{nat_tests}
use Rattle.bits_core.specs.Numbers.{number, bits_of, sum_bits}
use Rattle.bits_core.specs.Places.{is_set, extended}
use Rattle.design_core.specs.declared.place.BitRef.{BitRef}
use Rattle.design_core.specs.Core.{Assignment, same_bit, constant, app1, app2, stmt_reads, drives, Stmt, St, nowhere, both, write, value, exec, first_bit, rest_bits}
use Rattle.design_core.specs.declared.operators.Binary.TheVariants as binary
use Rattle.design_core.specs.declared.tree.DLeft.TheVariants as lefts
use Rattle.design_core.specs.declared.tree.DBase.TheVariants as base
use Rattle.design_core.specs.Operators.{binary_value, one_bit, all_match}
use Rattle.design_core.specs.Covers.{first_arm, last_untested, covering, as_is}
use Rattle.design_core.specs.Terms.{term, left}
use Rattle.design_core.proofs.TermLaws.{term_signal, term_extend, term_binary, left_whole, left_concat}
use Rattle.design_core.specs.Cells.{settle, states, assigned, Bitmap, In, driven, IsOrdered}
use Rattle.design_core.specs.Items.{CoreItem, assign, comb, clocked, reset_by, cell_of, IsGood, start}
use Rattle.design_core.specs.Rows.{CanBreak}
use Rattle.design_core.specs.Leaves.{IsNoLater}
use Rattle.design_core.specs.Setups.{held_in_window, held_in_run}
use Rattle.design_core.proofs.BoolLaws.{if_true}
use Rattle.design_laws.proofs.ComputedLaws.{computed}
use Rattle.design_cases.specs.WorkedRows.{read, wire, of, row, anded, sum_of, load, clear, no_power, through, ThroughIsProved, grounded, GroundedIsRefuted, GroundedFirst, gated, GatedByCondition, piped, PipedByTwo, enabled, EnabledByCondition, kept, g_is_set, KeptStaysOpen, cleared, ClearedAtLaunchOne, carried, CarriedByCondition, reset_low, ResetIsReleased, one_of, longer, sum_tree, TreeIsRead, item_test, arm_low, arm_high, switched, SwitchedByCondition}
use Rattle.design_cases.proofs.RowTools.{no_fixed, good_assign, only_one, both_good, checked_window, checked_run, no_reset, pair_is, valid_when, breaks_so, window_so, none_between}

-- y = a
through_ordered : IsOrdered (map cell_of through)
through_ordered = (record { reads_before = λ b h. grind (arith, nat_tests); alone = λ b h. refl }, tt)

through_good : (x : CoreItem) → In x through → IsGood x
through_good = only_one _ (good_assign (wire 1) (read 0) (λ b h. h))

pub through_is_proved : ThroughIsProved
through_is_proved = record {
  ordered = through_ordered;
  good = through_good;
  is_kind = valid_when (map cell_of through) (held_in_window [] None) 0 1 0 [] (checked_window through None through_ordered through_good (no_reset (map cell_of through)))
      (λ s i met held. refl);
}

-- y = 0: the run with a at 1
grounded_ordered : IsOrdered (map cell_of grounded)
grounded_ordered = (record { reads_before = λ b h. cc; alone = λ b h. refl }, tt)

grounded_good : (x : CoreItem) → In x grounded → IsGood x
grounded_good = only_one _ (good_assign (wire 1) (constant (false ∷ [])) (λ b h. h))

pub grounded_is_refuted : GroundedIsRefuted
grounded_is_refuted = record {
  ordered = grounded_ordered;
  good = grounded_good;
  is_kind = (
    omega arith,
    omega arith,
    breaks_so (map cell_of grounded) (held_in_run [] None 0) no_power (λ k b. same_bit b (of 0)) (row 0 1 0 [])
        0 (checked_run grounded None 0 grounded_ordered grounded_good (no_reset (map cell_of grounded)))
        (record { met = λ k l c m. elim m [ ]; pair = (of 0, of 1); is_one = inl refl; differs = refl }),
    λ u h g w. none_between 0 u h g,
  );
}

-- y = s & a
gated_ordered : IsOrdered (map cell_of gated)
gated_ordered = (record { reads_before = λ b h. grind (arith, nat_tests); alone = λ b h. refl }, tt)

gated_good : (x : CoreItem) → In x gated → IsGood x
gated_good = only_one (assign (wire 1) (anded 2 0)) (good_assign (wire 1) (anded 2 0) (λ b h. h))

pub gated_by_condition : GatedByCondition
gated_by_condition = (
  record {
    ordered = gated_ordered;
    good = gated_good;
    is_kind = valid_when (map cell_of gated) (held_in_window [] None) 0 1 0 ((of 2, true) ∷ []) (checked_window gated None gated_ordered gated_good (no_reset (map cell_of gated)))
        (λ s i met held. ap (λ v. v && i 0 (of 0)) (met 0 (omega arith) (of 2, true) (inl refl)));
  },
  record {
    ordered = gated_ordered;
    good = gated_good;
    is_kind = (
      omega arith,
      omega arith,
      breaks_so (map cell_of gated) (held_in_run [] None 0) no_power (λ k b. same_bit b (of 0)) (row 0 1 0 [])
          0 (checked_run gated None 0 gated_ordered gated_good (no_reset (map cell_of gated)))
          (record { met = λ k l c m. elim m [ ]; pair = (of 0, of 1); is_one = inl refl; differs = refl }),
      λ u h g w. none_between 0 u h g,
    );
  },
)

-- p <= d; q <= p
piped_ordered : IsOrdered (map cell_of piped)
piped_ordered = (record { reads_before = λ b h. cc; alone = λ b h. refl }, tt)

piped_good : (x : CoreItem) → In x piped → IsGood x
piped_good = only_one _ tt

pub piped_by_two : PipedByTwo
piped_by_two = (
  record {
    ordered = piped_ordered;
    good = piped_good;
    is_kind = valid_when (map cell_of piped) (held_in_window [] None) 0 1 2 [] (checked_window piped None piped_ordered piped_good (no_reset (map cell_of piped)))
        (λ s i met held. refl);
  },
  record {
    ordered = piped_ordered;
    good = piped_good;
    is_kind = (
      omega arith,
      omega arith,
      breaks_so (map cell_of piped) (held_in_run [] None 0) no_power (λ k b. same_bit b (of 0) && (k == 0)) (row 0 1 1 [])
          0 (checked_run piped None 0 piped_ordered piped_good (no_reset (map cell_of piped)))
          (record { met = λ k l c m. elim m [ ]; pair = (of 0, of 1); is_one = inl refl; differs = refl }),
      λ u h g w. none_between 0 u h g,
    );
  },
)

-- if (en) q <= d
enabled_ordered : IsOrdered (map cell_of enabled)
enabled_ordered = (record { reads_before = λ b h. cc; alone = λ b h. refl }, tt)

enabled_good : (x : CoreItem) → In x enabled → IsGood x
enabled_good = only_one _ tt

taken_branch : (s σ : Assignment) → σ (of 2) ≡ true → (cell_of (clocked load)).after s σ (of 1) ≡ σ (of 0)
taken_branch s σ h = ap (λ (t : St). t.later (of 1)) (if_true (is_set (value (read 2) σ [])) (exec (write (wire 1) (read 0) false) (start s σ)) (start s σ) (ap (λ v. is_set (v ∷ [])) h))

pub enabled_by_condition : EnabledByCondition
enabled_by_condition = record {
  ordered = enabled_ordered;
  good = enabled_good;
  is_kind = valid_when (map cell_of enabled) (held_in_window [] None) 0 1 1 ((of 2, true) ∷ []) (checked_window enabled None enabled_ordered enabled_good (no_reset (map cell_of enabled)))
      (λ s i met held. taken_branch s (assigned (map cell_of enabled) s i 0) (met 0 (omega arith) (of 2, true) (inl refl)));
}

-- y = a & g, where nothing writes g
kept_ordered : IsOrdered (map cell_of kept)
kept_ordered = (record { reads_before = λ b h. cc; alone = λ b h. grind (arith, nat_tests) }, (record { reads_before = λ b h. grind (arith, nat_tests); alone = λ b h. refl }, tt))

kept_good : (x : CoreItem) → In x kept → IsGood x
kept_good = both_good (clocked (write (wire 2) (read 2) false)) (assign (wire 1) (anded 0 2)) tt (good_assign (wire 1) (anded 0 2) (λ b h. h))

stays : (s : Bitmap BitRef) (i : ℕ → Bitmap BitRef) (k : ℕ) → states (map cell_of kept) s i k (of 2) ≡ s (of 2)
stays s i zero = refl
stays s i (suc k) = stays s i k

pub and_true : (a g : Bool) → g ≡ true → (a && g) ≡ a
and_true true g h = h
and_true false g h = refl

plus_zero : (k : ℕ) → k + 0 ≡ k
plus_zero k = omega arith

kept_holds : (u : ℕ) → CanBreak (map cell_of kept) (held_in_run [] None 0) (Some g_is_set) (row 0 1 0 []) u → ⊥
kept_holds u w =
    let E = map cell_of kept in
    let c = checked_run kept None 0 kept_ordered kept_good (no_reset E) in
    let same = computed E (held_in_run [] None 0) c (u + 0) w.s w.σ w.trace in
    let p = pair_is w.hits.pair (of 0, of 1) w.hits.is_one in
    let g : w.s 0 (of 2) ≡ true = w.begins (cell_of (clocked (write (wire 2) (read 2) false))) (inl refl) (of 2) refl refl in
    no_fixed (w.σ u (of 0)) (
    sym (and_true (w.σ u (of 0)) (states E (w.s 0) w.σ u (of 2)) (stays (w.s 0) w.σ u ∙ g))
    ∙ sym (same u (omega arith) (of 1))
    ∙ sym (ap (λ j. w.σ j (of 1)) (plus_zero u))
    ∙ sym (ap (λ (q : BitRef × BitRef). w.σ (u + 0) q.1) p) ∙ w.hits.differs ∙ ap (λ (q : BitRef × BitRef). not (w.σ u q.0)) p)

pub kept_stays_open : KeptStaysOpen
kept_stays_open = record {
  ordered = kept_ordered;
  good = kept_good;
  is_kind = (
    window_so (map cell_of kept) (held_in_window [] None) no_power (λ k b. same_bit b (of 0)) (row 0 1 0 []) (checked_window kept None kept_ordered kept_good (no_reset (map cell_of kept)))
        (record { met = λ k l c m. elim m [ ]; pair = (of 0, of 1); is_one = inl refl; differs = refl }),
    λ u h g w. kept_holds u w,
  );
}

-- if (clr) g <= 0; y = a & g
pub cleared_ordered : IsOrdered (map cell_of cleared)
cleared_ordered = (record { reads_before = λ b h. cc; alone = λ b h. grind (arith, nat_tests) }, (record { reads_before = λ b h. grind (arith, nat_tests); alone = λ b h. refl }, tt))

pub cleared_good : (x : CoreItem) → In x cleared → IsGood x
cleared_good = both_good (clocked clear) (assign (wire 1) (anded 0 2)) tt (good_assign (wire 1) (anded 0 2) (λ b h. h))

pub cleared_first : (u : ℕ) → u ≡ 0 → CanBreak (map cell_of cleared) (held_in_run [] None 0) (Some g_is_set) (row 0 1 0 []) u → ⊥
cleared_first u z v =
    let P : ℕ → Type 0 = λ j. CanBreak (map cell_of cleared) (held_in_run [] None 0) (Some g_is_set) (row 0 1 0 []) j in
    let w = subst P z v in
    let E = map cell_of cleared in
    let c = checked_run cleared None 0 cleared_ordered cleared_good (no_reset E) in
    let same = computed E (held_in_run [] None 0) c 0 w.s w.σ w.trace in
    let p = pair_is w.hits.pair (of 0, of 1) w.hits.is_one in
    let g : w.s 0 (of 2) ≡ true = w.begins (cell_of (clocked clear)) (inl refl) (of 2) refl refl in
    no_fixed (w.σ 0 (of 0)) (
    sym (and_true (w.σ 0 (of 0)) (w.s 0 (of 2)) g)
    ∙ sym (same 0 (omega arith) (of 1))
    ∙ sym (ap (λ (q : BitRef × BitRef). w.σ 0 q.1) p) ∙ w.hits.differs ∙ ap (λ (q : BitRef × BitRef). not (w.σ 0 q.0)) p)

pub below_one : (u : ℕ) → u < 1 → u ≡ 0
below_one u h = omega arith

pub cleared_at_launch_one : ClearedAtLaunchOne
cleared_at_launch_one = record {
  ordered = cleared_ordered;
  good = cleared_good;
  is_kind = (
    omega arith,
    omega arith,
    breaks_so (map cell_of cleared) (held_in_run [] None 0) g_is_set (λ k b. (same_bit b (of 3) && (k == 0)) || (same_bit b (of 0) && (k == 1))) (row 0 1 0 [])
        1 (checked_run cleared None 0 cleared_ordered cleared_good (no_reset (map cell_of cleared)))
        (record { met = λ k l c m. elim m [ ]; pair = (of 0, of 1); is_one = inl refl; differs = refl }),
    λ u h g w. cleared_first u (below_one u g) w,
  );
}

-- {c, y} = a + b
carried_ordered : IsOrdered (map cell_of carried)
carried_ordered = (record { reads_before = λ b h. grind (arith, nat_tests); alone = λ b h. refl }, tt)

carried_good : (x : CoreItem) → In x carried → IsGood x
carried_good = only_one (assign (both (wire 1) (both (wire 2) nowhere)) (sum_of 3 0)) (good_assign (both (wire 1) (both (wire 2) nowhere)) (sum_of 3 0) (λ b h. h))

carry : (u v : Bool) → u ≡ true → first_bit (rest_bits (sum_bits (extended false 2 (u ∷ [])) (extended false 2 (v ∷ [])))) ≡ v
unfolding extended number bits_of
carry true true h = refl
carry true false h = refl
carry false v h = cc

pub carried_by_condition : CarriedByCondition
carried_by_condition = record {
  ordered = carried_ordered;
  good = carried_good;
  is_kind = valid_when (map cell_of carried) (held_in_window [] None) 0 1 0 ((of 3, true) ∷ []) (checked_window carried None carried_ordered carried_good (no_reset (map cell_of carried)))
      (λ s i met held. carry (i 0 (of 3)) (i 0 (of 0)) (met 0 (omega arith) (of 3, true) (inl refl)));
}

-- if (!rst_n) q <= 0; else q <= d
low_ordered : IsOrdered (map cell_of reset_low)
low_ordered = (record { reads_before = λ b h. grind (arith, nat_tests); alone = λ b h. refl }, tt)

low_good : (x : CoreItem) → In x reset_low → IsGood x
low_good = only_one _ (λ b. refl)

pub some_is : (p q : BitRef × Bool) → Some p ≡ Some q → p ≡ q
some_is p q h = cc h

low_free : (q : BitRef × Bool) → Some (of 2, false) ≡ Some q → driven (map cell_of reset_low) q.0 ≡ false
low_free q h = let e : (of 2, false) ≡ q = some_is (of 2, false) q h in ap (λ (x : BitRef × Bool). driven (map cell_of reset_low) x.0) (sym e)

released : (u v x y z : Bool) → u ≡ true → v ≡ true → (if not u then x else (if not v then y else z)) ≡ z
released true true x y z h k = refl
released true false x y z h k = cc
released false v x y z h k = cc

pub reset_is_released : ResetIsReleased
reset_is_released = (
  record {
    ordered = low_ordered;
    good = low_good;
    is_kind = valid_when (map cell_of reset_low) (held_in_window [] (Some (of 2, false))) 0 1 1 [] (checked_window reset_low (Some (of 2, false)) low_ordered low_good low_free)
        (λ s i met held. released (i 1 (of 2)) (i 0 (of 2)) false false (i 0 (of 0)) (held 1 (omega arith) (of 2) true refl) (held 0 (omega arith) (of 2) true refl));
  },
  record {
    ordered = low_ordered;
    good = low_good;
    is_kind = (
      omega arith,
      omega arith,
      breaks_so (map cell_of reset_low) (held_in_run [] (Some (of 2, false)) 2) no_power (λ k b. same_bit b (of 0) && (k == 2)) (row 0 1 0 [])
          2 (checked_run reset_low (Some (of 2, false)) 2 low_ordered low_good low_free)
          (record { met = λ k l c m. elim m [ ]; pair = (of 0, of 1); is_one = inl refl; differs = refl }),
      λ u h g w. none_between 2 u h g,
    );
  },
)

-- the tree of the sum
longer_is : (size : ℕ → ℕ) (s : ℕ) → term size (longer (one_of s)) ≡ app1 (extended false 2) (read s)
longer_is size s = term_extend size (longer (one_of s)) (one_of s) false refl ∙ ap (app1 (extended false 2)) (term_signal size (one_of s) s refl)

sum_is : (size : ℕ → ℕ) → term size sum_tree ≡ sum_of 3 0
sum_is size = term_binary size sum_tree binary.Add (longer (one_of 3)) (longer (one_of 0)) refl
    ∙ ap₂ (app2 (binary_value binary.Add false)) (longer_is size 3) (longer_is size 0)

wire_is : (size : ℕ → ℕ) (s : ℕ) → left size (lefts.Whole (base.Signal s) 1) ≡ wire s
wire_is size s = left_whole size (lefts.Whole (base.Signal s) 1) (base.Signal s) 1 refl

pub tree_is_read : TreeIsRead
tree_is_read size = ap₂ (λ l e. assign l e ∷ [])
    (left_concat size (lefts.Concat (lefts.Whole (base.Signal 1) 1 ∷ lefts.Whole (base.Signal 2) 1 ∷ [])) (lefts.Whole (base.Signal 1) 1 ∷ lefts.Whole (base.Signal 2) 1 ∷ []) refl
    ∙ ap₂ (λ x y. both x (both y nowhere)) (wire_is size 1) (wire_is size 2))
    (sum_is size)

-- case (s) without default
always_one : (v : Bool) → (is_set (one_bit (is_set (one_bit (all_match (v ∷ []) (false ∷ []) [])) || is_set (false ∷ [])))
    || (is_set (one_bit (is_set (one_bit (all_match (v ∷ []) (true ∷ []) [])) || is_set (false ∷ []))) || false)) ≡ true
always_one true = refl
always_one false = refl

switched_ordered : IsOrdered (map cell_of switched)
switched_ordered = (record { reads_before = λ b h. grind (arith, nat_tests); alone = λ b h. grind (arith, nat_tests) }, (record { reads_before = λ b h. grind (arith, nat_tests); alone = λ b h. refl }, tt))

abbrev case_body : Stmt
case_body = first_arm (arm_low ∷ arm_high ∷ [])

case_reads : BitRef → Bool
case_reads b = stmt_reads case_body b && not (drives case_body b)

switched_good : (x : CoreItem) → In x switched → IsGood x
switched_good = both_good (reset_by (of 2) false (write (wire 1) (constant (false ∷ [])) false) (write (wire 1) (read 0) false)) (comb case_body) (λ b. refl)
    (record {
      full = last_untested arm_low (arm_high ∷ []);
      completes = covering arm_low (arm_high ∷ []) (λ σ λs. always_one (σ (of 3))) as_is;
      reads_known = (λ b h. grind (arith, nat_tests), (λ b h. grind (arith, nat_tests), λ b h. cc), (λ b h. grind (arith, nat_tests), λ b h. cc));
      all_written = λ b h. grind (arith, nat_tests);
    })

switched_free : (q : BitRef × Bool) → Some (of 2, false) ≡ Some q → driven (map cell_of switched) q.0 ≡ false
switched_free q h = let e : (of 2, false) ≡ q = some_is (of 2, false) q h in ap (λ (x : BitRef × Bool). driven (map cell_of switched) x.0) (sym e)

first_taken : (s σ : Assignment) → σ (of 3) ≡ false → (exec case_body (start s σ)).now (of 4) ≡ σ (of 0)
first_taken s σ h = ap (λ (t : St). t.now (of 4)) (if_true (is_set (value (item_test false) σ [])) (exec (write (wire 4) (read 0) true) (start s σ)) (exec (first_arm (arm_high ∷ [])) (start s σ))
    (ap (λ v. is_set (one_bit (is_set (one_bit (all_match (v ∷ []) (false ∷ []) [])) || is_set (false ∷ [])))) h))

pub switched_by_condition : SwitchedByCondition
switched_by_condition = record {
  ordered = switched_ordered;
  good = switched_good;
  is_kind = valid_when (map cell_of switched) (held_in_window [] (Some (of 2, false))) 0 4 0 ((of 3, false) ∷ []) (checked_window switched (Some (of 2, false)) switched_ordered switched_good switched_free)
      (λ s i met held. first_taken s (settle (map cell_of (reset_by (of 2) false (write (wire 1) (constant (false ∷ [])) false) (write (wire 1) (read 0) false) ∷ [])) s (i 0)) (met 0 (omega arith) (of 3, false) (inl refl)));
}

-- the first breaking run of y = 0
abbrev grounded_breaks : CanBreak (map cell_of grounded) (held_in_run [] None 0) (Some no_power) (row 0 1 0 []) 0
grounded_breaks = breaks_so (map cell_of grounded) (held_in_run [] None 0) no_power (λ k b. same_bit b (of 0)) (row 0 1 0 [])
    0 (checked_run grounded None 0 grounded_ordered grounded_good (no_reset (map cell_of grounded)))
    (record { met = λ k l c m. elim m [ ]; pair = (of 0, of 1); is_one = inl refl; differs = refl })

turned_once : (a : Bool) → not a ≡ false → a ≡ true
turned_once true h = refl
turned_once false h = cc

only_high : (w : CanBreak (map cell_of grounded) (held_in_run [] None 0) (Some no_power) (row 0 1 0 []) 0) → w.σ 0 (of 0) ≡ true
only_high w =
    let E = map cell_of grounded in
    let c = checked_run grounded None 0 grounded_ordered grounded_good (no_reset E) in
    let same = computed E (held_in_run [] None 0) c 0 w.s w.σ w.trace in
    let p = pair_is w.hits.pair (of 0, of 1) w.hits.is_one in
    turned_once (w.σ 0 (of 0)) (
    sym (ap (λ (q : BitRef × BitRef). not (w.σ 0 q.0)) p) ∙ sym w.hits.differs ∙ ap (λ (q : BitRef × BitRef). w.σ 0 q.1) p ∙ same 0 (omega arith) (of 1))

no_later : (a : Bool) (other : List Bool) → a ≡ true → a ∷ [] ≡ other → IsNoLater (true ∷ []) other
no_later a other h e = let P : List Bool → Type 0 = λ v. IsNoLater (true ∷ []) v in subst P (sym (ap (λ x. x ∷ []) h) ∙ e) tt

pub grounded_first : GroundedFirst
unfolding breaks_so
grounded_first = record {
  hits = record { can = grounded_breaks; has = refl };
  none_before = λ other w. no_later (w.can.σ 0 (of 0)) other (only_high w.can) w.has;
}
