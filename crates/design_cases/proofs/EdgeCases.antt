-- The edges of the definitions.
use Rattle.std.proofs.Common.{◌≡◌, ℕ, zero, suc, ◌+◌, ◌<◌, ◌≤◌, Bool, true, false, not, ◌&&◌, ◌||◌, [], ◌∷◌, map, inl, inr, refl, sym, ◌∙◌, ap, ap₂, subst, Some, None, arith, if◌then◌else◌}
use Rattle.std.specs.Prelude.{◌==◌}
use Rattle.std.proofs.lemmas.Bool.Decides.{nat_tests}
use Rattle.bits_core.specs.Numbers.{number, signed_number, bits_of}
use Rattle.bits_core.specs.Places.{is_set, extended, selected, shifted_left, shifted_right}
use Rattle.design_core.specs.declared.place.BitRef.{BitRef}
use Rattle.design_core.specs.declared.operators.Binary.TheVariants as binary
use Rattle.design_core.specs.Core.{Assignment, bit, same_bit, constant, app1, app2, reads, drives, Stmt, St, skip, write, choose, value, exec}
use Rattle.design_core.specs.Cells.{states, assigned, Cell, In, driven, IsOrdered}
use Rattle.design_core.specs.Items.{CoreItem, assign, clocked, reset_by, cell_of, IsGood, start}
use Rattle.design_core.specs.Operators.{binary_value}
use Rattle.design_core.specs.Reach.{process_cells, needs_in, item_needs, IsLaunchFree, dest, before}
use Rattle.design_core.specs.Rows.{CanBreak}
use Rattle.design_core.specs.Setups.{held_in_window, held_in_run}
use Rattle.design_core.specs.Wellformed.{decimal}
use Rattle.design_core.proofs.BoolLaws.{if_true}
use Rattle.design_core.proofs.TermLaws.{term_extend, term_binary}
use Rattle.design_laws.proofs.ComputedLaws.{computed}
use Rattle.design_laws.proofs.ReachLaws.{free_by_set}
use Rattle.design_cases.specs.WorkedRows.{read, wire, of, row, anded, no_power, cleared, g_is_set}
use Rattle.design_cases.specs.TreeRows.{literal}
use Rattle.design_cases.specs.EdgeRows.{moves, paced, EnabledInEachCycle, gated_late, GatedInLastCycle, set_by_reset, ResetEndsInTime, HeldByCycle, LastLaunchCounts, BoxesInBoxes, two_stages, LaunchFreeByTwo, BitsAsPrinted, LeavesInOrder, SignChangesOutside}
use Rattle.design_cases.proofs.RowTools.{no_fixed, good_assign, only_one, both_good, checked_window, checked_run, no_reset, pair_is, valid_when, breaks_so, window_so, none_between}
use Rattle.design_cases.proofs.RowCases.{cleared_ordered, cleared_good, cleared_first, and_true, some_is, below_one}
use Rattle.design_cases.proofs.TreeCases.{four, literal_is, seen}

-- if (en) begin p <= d; q <= p; end
abbrev paced_body : Stmt
paced_body = choose (read 3) moves skip

paced_ordered : IsOrdered (map cell_of paced)
paced_ordered = (record { reads_before = λ b h. cc; alone = λ b h. refl }, tt)

paced_good : (x : CoreItem) → In x paced → IsGood x
paced_good = only_one _ tt

stepped : (s σ : Assignment) (b : BitRef) → σ (of 3) ≡ true → (cell_of (clocked paced_body)).after s σ b ≡ (exec moves (start s σ)).later b
stepped s σ b h = ap (λ (t : St). t.later b) (if_true (is_set (value (read 3) σ [])) (exec moves (start s σ)) (start s σ) (ap (λ v. is_set (v ∷ [])) h))

pub enabled_in_each_cycle : EnabledInEachCycle
enabled_in_each_cycle = (
  record {
    ordered = paced_ordered;
    good = paced_good;
    is_kind = valid_when (map cell_of paced) (held_in_window [] None) 0 1 2 ((of 3, true) ∷ []) (checked_window paced None paced_ordered paced_good (no_reset (map cell_of paced)))
        (λ s i met held. stepped (states (map cell_of paced) s i 1) (assigned (map cell_of paced) s i 1) (of 1) (met 1 (omega arith) (of 3, true) (inl refl))
        ∙ stepped s (assigned (map cell_of paced) s i 0) (of 2) (met 0 (omega arith) (of 3, true) (inl refl)));
  },
  record {
    ordered = paced_ordered;
    good = paced_good;
    is_kind = (
      omega arith,
      omega arith,
      breaks_so (map cell_of paced) (held_in_run [] None 0) no_power (λ k b. same_bit b (of 0) && (k == 0)) (row 0 1 2 [])
          0 (checked_run paced None 0 paced_ordered paced_good (no_reset (map cell_of paced)))
          (record { met = λ k l c m. elim m [ ]; pair = (of 0, of 1); is_one = inl refl; differs = refl }),
      λ u h g w. none_between 0 u h g,
    );
  },
)

-- q <= d; y = q & g
late_ordered : IsOrdered (map cell_of gated_late)
late_ordered = (record { reads_before = λ b h. cc; alone = λ b h. grind (arith, nat_tests) }, (record { reads_before = λ b h. grind (arith, nat_tests); alone = λ b h. refl }, tt))

late_good : (x : CoreItem) → In x gated_late → IsGood x
late_good = both_good (clocked (write (wire 2) (read 0) false)) (assign (wire 1) (anded 2 3)) tt (good_assign (wire 1) (anded 2 3) (λ b h. h))

pub gated_in_last_cycle : GatedInLastCycle
gated_in_last_cycle = record {
  ordered = late_ordered;
  good = late_good;
  is_kind = valid_when (map cell_of gated_late) (held_in_window [] None) 0 1 1 ((of 3, true) ∷ []) (checked_window gated_late None late_ordered late_good (no_reset (map cell_of gated_late)))
      (λ s i met held. and_true (i 0 (of 0)) (i 1 (of 3)) (met 1 (omega arith) (of 3, true) (inl refl)));
}

-- if (!rst_n) q <= 1; else q <= 0; y = d & q
set_ordered : IsOrdered (map cell_of set_by_reset)
set_ordered = (record { reads_before = λ b h. grind (arith, nat_tests); alone = λ b h. grind (arith, nat_tests) }, (record { reads_before = λ b h. grind (arith, nat_tests); alone = λ b h. refl }, tt))

abbrev set_item : CoreItem
set_item = reset_by (of 2) false (write (wire 3) (constant (true ∷ [])) false) (write (wire 3) (constant (false ∷ [])) false)

set_good : (x : CoreItem) → In x set_by_reset → IsGood x
set_good = both_good set_item (assign (wire 1) (anded 0 3)) (λ b. refl) (good_assign (wire 1) (anded 0 3) (λ b h. h))

set_free : (q : BitRef × Bool) → Some (of 2, false) ≡ Some q → driven (map cell_of set_by_reset) q.0 ≡ false
set_free q h = let e : (of 2, false) ≡ q = some_is (of 2, false) q h in ap (λ (x : BitRef × Bool). driven (map cell_of set_by_reset) x.0) (sym e)

still_set : (d u v : Bool) → u ≡ false → (d && (if not v then true else (if not u then true else false))) ≡ d
still_set true true v h = cc
still_set false true v h = refl
still_set true false true h = refl
still_set true false false h = refl
still_set false false v h = refl

set_holds : (u : ℕ) → u ≡ 2 → CanBreak (map cell_of set_by_reset) (held_in_run [] (Some (of 2, false)) 2) (Some no_power) (row 0 1 0 []) u → ⊥
set_holds u z v =
    let P : ℕ → Type 0 = λ j. CanBreak (map cell_of set_by_reset) (held_in_run [] (Some (of 2, false)) 2) (Some no_power) (row 0 1 0 []) j in
    let w = subst P z v in
    let E = map cell_of set_by_reset in
    let c = checked_run set_by_reset (Some (of 2, false)) 2 set_ordered set_good set_free in
    let same = computed E (held_in_run [] (Some (of 2, false)) 2) c 2 w.s w.σ w.trace in
    let p = pair_is w.hits.pair (of 0, of 1) w.hits.is_one in
    no_fixed (w.σ 2 (of 0)) (
    sym (still_set (w.σ 2 (of 0)) (w.σ 1 (of 2)) (w.σ 2 (of 2)) (w.trace.holding 1 (omega arith) (of 2) false refl))
    ∙ sym (same 2 (omega arith) (of 1))
    ∙ sym (ap (λ (q : BitRef × BitRef). w.σ 2 q.1) p) ∙ w.hits.differs ∙ ap (λ (q : BitRef × BitRef). not (w.σ 2 q.0)) p)

at_two : (u : ℕ) → 2 ≤ u → u < 3 → u ≡ 2
at_two u h g = omega (arith, h, g)

pub reset_ends_in_time : ResetEndsInTime
reset_ends_in_time = record {
  ordered = set_ordered;
  good = set_good;
  is_kind = (
    omega arith,
    omega arith,
    breaks_so (map cell_of set_by_reset) (held_in_run [] (Some (of 2, false)) 2) no_power (λ k b. same_bit b (of 0) && (k == 3)) (row 0 1 0 [])
        3 (checked_run set_by_reset (Some (of 2, false)) 2 set_ordered set_good set_free)
        (record { met = λ k l c m. elim m [ ]; pair = (of 0, of 1); is_one = inl refl; differs = refl }),
    λ u h g w. set_holds u (at_two u h g) w,
  );
}

pub held_by_cycle : HeldByCycle
held_by_cycle = (refl, refl, refl, refl, refl, refl, refl)

-- if (clr) g <= 0; y = a & g
none_yet : (u : ℕ) → u ≤ 0 + 0 → u ≡ 0
none_yet u h = omega (arith, h)

pub last_launch_counts : LastLaunchCounts
last_launch_counts = (
  (
    omega arith,
    omega arith,
    breaks_so (map cell_of cleared) (held_in_run [] None 0) g_is_set (λ k b. (same_bit b (of 3) && (k == 0)) || (same_bit b (of 0) && (k == 1))) (row 0 1 0 [])
        1 (checked_run cleared None 0 cleared_ordered cleared_good (no_reset (map cell_of cleared)))
        (record { met = λ k l c m. elim m [ ]; pair = (of 0, of 1); is_one = inl refl; differs = refl }),
    λ u h g w. cleared_first u (below_one u g) w,
  ),
  (
    window_so (map cell_of cleared) (held_in_window [] None) no_power (λ k b. same_bit b (of 0)) (row 0 1 0 []) (checked_window cleared None cleared_ordered cleared_good (no_reset (map cell_of cleared)))
        (record { met = λ k l c m. elim m [ ]; pair = (of 0, of 1); is_one = inl refl; differs = refl }),
    λ u h g w. cleared_first u (none_yet u g) w,
  ),
)

pub boxes_in_boxes : BoxesInBoxes
boxes_in_boxes = (refl, refl, refl)

-- p <= d; q <= p
abbrev stage_cell : Cell BitRef
stage_cell = cell_of (clocked moves)

-- what the row from d to q in two cycles reaches
abbrev Reached : ℕ → BitRef → Type 0
Reached zero b = b ≡ of 0
Reached (suc zero) b = b ≡ of 2
Reached (suc (suc zero)) b = b ≡ of 1
Reached (suc (suc (suc k))) b = ⊥

read_is : (s : ℕ) (a : BitRef) → (reads (read s) a || false) ≡ true → a ≡ of s
read_is s a h =
    let i : a.signal ≡ s = grind (arith, nat_tests) in
    let j : a.bit ≡ 0 = grind (arith, nat_tests) in
    ap₂ bit i j

before_two : (a : BitRef) → item_needs (clocked moves) moves skip (of 2) a → a ≡ of 0
before_two a (inl h) = let g : ((reads (read 0) a || false) || false) ≡ true = h in read_is 0 a (grind (arith, nat_tests))
before_two a (inr p) = let q : true ≡ false = p.1 in cc

before_one : (a : BitRef) → item_needs (clocked moves) moves skip (of 1) a → a ≡ of 2
before_one a (inl h) = read_is 2 a h
before_one a (inr p) = let q : true ≡ false = p.1 in cc

is_stage : (c : Cell BitRef) → In c (process_cells two_stages) → c ≡ stage_cell
is_stage c (inl e) = e
is_stage c (inr m) = elim m [ ]

needs_item : (c : Cell BitRef) (b a : BitRef) → needs_in two_stages c b a → item_needs (clocked moves) moves skip b a
needs_item c b a (inl p) = p.1
needs_item c b a (inr n) = elim n [ ]

steps_back : (k : ℕ) (b a : BitRef) → Reached (suc k) b → item_needs (clocked moves) moves skip b a → Reached k a
steps_back zero b a q n = before_two a (subst (λ x. item_needs (clocked moves) moves skip x a) q n)
steps_back (suc zero) b a q n = before_one a (subst (λ x. item_needs (clocked moves) moves skip x a) q n)
steps_back (suc (suc k)) b a q n = elim q [ ]

two_free : IsLaunchFree (process_cells two_stages) (needs_in two_stages) (row 0 1 2 [])
two_free = free_by_set (process_cells two_stages) (needs_in two_stages) (row 0 1 2 []) Reached
    (record {
      wires = λ k c m h b a d q n. (let e : true ≡ false = sym (ap (λ (x : Cell BitRef). x.clocked) (is_stage c m)) ∙ h in cc);
      resets = λ k c m h b a d q r. (let e : false ≡ true = sym (ap (λ (x : Cell BitRef). x.reads a) (is_stage c m)) ∙ r in cc);
      befores = λ k c m h b a d q n. steps_back k b a q (needs_item c b a n);
      launch_free = λ c m h b d q. (let e : false ≡ true = sym (ap (drives moves) q) ∙ sym (ap (λ (x : Cell BitRef). x.drives b) (is_stage c m)) ∙ d in cc);
    })
    (record {
      sources_in = λ p m. ap (λ (x : BitRef × BitRef). x.0) (pair_is p (of 0, of 1) m);
      dests_in = λ p m. ap (λ (x : BitRef × BitRef). x.1) (pair_is p (of 0, of 1) m);
      conditions_in = λ k l c m. elim m [ ];
    })

pub launch_free_by_two : LaunchFreeByTwo
launch_free_by_two = (
  two_free,
  λ free. free stage_cell (inl refl) refl (of 2) refl (before {k = 0} {b = of 1} stage_cell (inl refl) refl refl (dest (of 0, of 1) (inl refl)) (of 2) (inl (refl, inl refl))),
)

pub bits_as_printed : BitsAsPrinted
unfolding decimal
bits_as_printed = (refl, refl, refl, refl, refl, refl, refl)

pub leaves_are_in_order : LeavesInOrder
leaves_are_in_order = refl

-- a change of sign round a shift
pub sign_changes_outside : SignChangesOutside
unfolding number signed_number bits_of extended selected shifted_left shifted_right
sign_changes_outside = (
  seen _ (app1 (extended false 4) (app2 (binary_value binary.ShiftRightSigned false) (constant (bits_of 4 12)) (constant (bits_of 1 1))))
      (term_extend four _ _ false refl ∙ ap (app1 (extended false 4)) (term_binary four _ binary.ShiftRightSigned (literal false 4 12) (literal false 1 1) refl ∙ ap₂ (app2 (binary_value binary.ShiftRightSigned false)) (literal_is false 4 12) (literal_is false 1 1))),
  seen _ (app1 (extended true 4) (app2 (binary_value binary.ShiftRightSigned true) (constant (bits_of 4 12)) (constant (bits_of 1 1))))
      (term_extend four _ _ true refl ∙ ap (app1 (extended true 4)) (term_binary four _ binary.ShiftRightSigned (literal true 4 12) (literal false 1 1) refl ∙ ap₂ (app2 (binary_value binary.ShiftRightSigned true)) (literal_is true 4 12) (literal_is false 1 1))),
)
