-- The edges of the definitions, one case each: conditions and resets cycle by cycle, the last launch that counts, boxes in boxes, launch-free rows, the texts of bits, the order of leaves, changes of sign.
use Rattle.std.specs.Prelude.{◌≡◌, ℕ, true, false, ◌||◌, ◌==◌, List, [], ◌∷◌, Option, Some, None, ℤ, pos, negsuc, map}
use Rattle.bits_core.specs.Numbers.{bits_of}
use Rattle.design_core.specs.declared.operators.Binary.TheVariants as binary
use Rattle.design_core.specs.declared.signals.Scope.{Scope}
use Rattle.design_core.specs.declared.signals.Signal.{Signal}
use Rattle.design_core.specs.declared.tree.DNode.TheVariants as node
use Rattle.design_core.specs.Core.{Stmt, constant, skip, seq, write, choose}
use Rattle.design_core.specs.Items.{CoreItem, assign, clocked, reset_by, cell_of}
use Rattle.design_core.specs.Parts.{is_boxed}
use Rattle.design_core.specs.Rows.{proved, refuted, «open», IsKind}
use Rattle.design_core.specs.Reach.{Process, process_cells, needs_in, IsLaunchFree}
use Rattle.design_core.specs.Leaves.{stored, input, leaves_in_order}
use Rattle.design_core.specs.Setups.{held_in_window, held_in_run}
use Rattle.design_core.specs.Wellformed.{bit_text}
use Rattle.design_cases.specs.WorkedRows.{read, wire, of, row, anded, no_power, Comes, cleared, g_is_set}
use Rattle.design_cases.specs.TreeRows.{worth, literal}

-- d (0), q (1), p (2), en (3): if (en) begin p <= d; q <= p; end, on the clock
abbrev pub moves : Stmt
moves = seq (write (wire 2) (read 0) false) (write (wire 1) (read 2) false)

abbrev pub paced : List CoreItem
paced = clocked (choose (read 3) moves skip) ∷ []

-- the enable is asked for in each cycle of the window, so it is 1 as d is taken and as p is
abbrev pub EnabledInEachCycle : Type 0
EnabledInEachCycle = Comes paced None 0 no_power (row 0 1 2 ((of 3, true) ∷ [])) proved × Comes paced None 0 no_power (row 0 1 2 []) (refuted 0)

-- d (0), y (1), q (2), g (3): q <= d on the clock; y = q & g
abbrev pub gated_late : List CoreItem
gated_late = clocked (write (wire 2) (read 0) false) ∷ assign (wire 1) (anded 2 3) ∷ []

-- the condition holds in the last cycle too, where y is looked at
abbrev pub GatedInLastCycle : Type 0
GatedInLastCycle = Comes gated_late None 0 no_power (row 0 1 1 ((of 3, true) ∷ [])) proved

-- d (0), y (1), rst_n (2), q (3): if (!rst_n) q <= 1'b1; else q <= 1'b0; y = d & q
abbrev pub set_by_reset : List CoreItem
set_by_reset = reset_by (of 2) false (write (wire 3) (constant (true ∷ [])) false) (write (wire 3) (constant (false ∷ [])) false) ∷ assign (wire 1) (anded 0 3) ∷ []

-- the reset is 0 in the cycles 0 and 1 alone: in cycle 2 q still reads as 1, and in cycle 3 it is 0
abbrev pub ResetEndsInTime : Type 0
ResetEndsInTime = Comes set_by_reset (Some (of 2, false)) 2 no_power (row 0 1 0 []) (refuted 3)

-- what is held in the cycles of a run with two reset cycles, and in a window; pins hold throughout
abbrev pub HeldByCycle : Type 0
HeldByCycle = (held_in_run ((of 5, true) ∷ []) (Some (of 2, false)) 2 0 (of 2) ≡ Some false)
    × (held_in_run ((of 5, true) ∷ []) (Some (of 2, false)) 2 1 (of 2) ≡ Some false)
    × (held_in_run ((of 5, true) ∷ []) (Some (of 2, false)) 2 2 (of 2) ≡ Some true)
    × (held_in_run ((of 5, true) ∷ []) (Some (of 2, false)) 2 0 (of 5) ≡ Some true)
    × (held_in_run ((of 5, true) ∷ []) (Some (of 2, false)) 2 2 (of 5) ≡ Some true)
    × (held_in_run ((of 5, true) ∷ []) (Some (of 2, false)) 2 1 (of 3) ≡ None)
    × (held_in_window ((of 5, true) ∷ []) (Some (of 2, false)) 0 (of 2) ≡ Some true)

-- a register that is cleared at launch 1 at the soonest: with depth 1 that launch counts, with depth 0 it does not
abbrev pub LastLaunchCounts : Type 0
LastLaunchCounts = IsKind (map cell_of cleared) (held_in_window [] None) (held_in_run [] None 0) g_is_set (row 0 1 0 []) 0 1 (refuted 1)
    × IsKind (map cell_of cleared) (held_in_window [] None) (held_in_run [] None 0) g_is_set (row 0 1 0 []) 0 0 «open»

-- scopes top (0), top.u (1), top.u.v (2), top.w (3)
abbrev pub scope_in : Option ℕ → Scope
scope_in round = record { parent = round; name = []; path = []; «module» = [] }

abbrev pub four_scopes : List Scope
four_scopes = scope_in None ∷ scope_in (Some 0) ∷ scope_in (Some 1) ∷ scope_in (Some 0) ∷ []

-- with top.u a box, and with top.u.v one too, what stands in top.u.v is cut, and top and top.w are not; with top.u.v alone a box top.u is not
abbrev pub BoxesInBoxes : Type 0
BoxesInBoxes = (map (is_boxed four_scopes (λ s. s == 1)) (0 ∷ 1 ∷ 2 ∷ 3 ∷ []) ≡ false ∷ true ∷ true ∷ false ∷ [])
    × (map (is_boxed four_scopes (λ s. (s == 1) || (s == 2))) (0 ∷ 1 ∷ 2 ∷ 3 ∷ []) ≡ false ∷ true ∷ true ∷ false ∷ [])
    × (map (is_boxed four_scopes (λ s. s == 2)) (0 ∷ 1 ∷ 2 ∷ 3 ∷ []) ≡ false ∷ false ∷ true ∷ false ∷ [])

-- d (0), q (1), p (2): p <= d; q <= p, as a process
abbrev pub two_stages : List Process
two_stages = record { item = clocked moves; full = moves; branch_full = skip } ∷ []

-- from d to q in two cycles no register of cycle 0 is reached; in one cycle p is
abbrev pub LaunchFreeByTwo : Type 0
LaunchFreeByTwo = IsLaunchFree (process_cells two_stages) (needs_in two_stages) (row 0 1 2 [])
    × ¬ IsLaunchFree (process_cells two_stages) (needs_in two_stages) (row 0 1 1 [])

-- a signal v with these bounds
abbrev pub ranged_as : ℤ → ℤ → ℕ → Signal
ranged_as high low n = record { scope = 0; name = 118 ∷ []; path = 118 ∷ []; word = None; length = n; signed = false; ranged = true; high = high; low = low }

-- bits of v[0:7]: the lowest is v[7]; of v[-1:-4]: the lowest is v[-4]; of v[-2:1]: the lowest is v[1]; of v[12:9]: bit 1 is v[10]
abbrev pub BitsAsPrinted : Type 0
BitsAsPrinted = (bit_text (ranged_as (pos 0) (pos 7) 8) 0 ≡ 118 ∷ 91 ∷ 55 ∷ 93 ∷ [])
    × (bit_text (ranged_as (pos 0) (pos 7) 8) 7 ≡ 118 ∷ 91 ∷ 48 ∷ 93 ∷ [])
    × (bit_text (ranged_as (negsuc 0) (negsuc 3) 4) 0 ≡ 118 ∷ 91 ∷ 45 ∷ 52 ∷ 93 ∷ [])
    × (bit_text (ranged_as (negsuc 0) (negsuc 3) 4) 3 ≡ 118 ∷ 91 ∷ 45 ∷ 49 ∷ 93 ∷ [])
    × (bit_text (ranged_as (negsuc 1) (pos 1) 4) 0 ≡ 118 ∷ 91 ∷ 49 ∷ 93 ∷ [])
    × (bit_text (ranged_as (negsuc 1) (pos 1) 4) 3 ≡ 118 ∷ 91 ∷ 45 ∷ 50 ∷ 93 ∷ [])
    × (bit_text (ranged_as (pos 12) (pos 9) 4) 1 ≡ 118 ∷ 91 ∷ 49 ∷ 48 ∷ 93 ∷ [])

-- of signals 0 to 3, where 1 and 3 are registers and 0 and 2 inputs, over two cycles: registers first, then the inputs of cycle 0, then those of cycle 1
abbrev pub LeavesInOrder : Type 0
LeavesInOrder = leaves_in_order (of 0 ∷ of 1 ∷ of 2 ∷ of 3 ∷ []) (λ b. (b.signal == 1) || (b.signal == 3)) (λ b. (b.signal == 0) || (b.signal == 2)) 1
    ≡ stored (of 1) ∷ stored (of 3) ∷ input 0 (of 0) ∷ input 0 (of 2) ∷ input 1 (of 0) ∷ input 1 (of 2) ∷ []

-- $signed(4'b1100 >>> 1) fills with 0 and $unsigned(4'sb1100 >>> 1) with the sign: the change is an extension to the same length round the operator, whose own sign stays
abbrev pub SignChangesOutside : Type 0
SignChangesOutside = (worth (record { length = 4; signed = true; node = node.Extend (record { length = 4; signed = false; node = node.Binary binary.ShiftRightSigned (literal false 4 12) (literal false 1 1) }) false }) ≡ bits_of 4 6)
    × (worth (record { length = 4; signed = false; node = node.Extend (record { length = 4; signed = true; node = node.Binary binary.ShiftRightSigned (literal true 4 12) (literal false 1 1) }) true }) ≡ bits_of 4 14)
