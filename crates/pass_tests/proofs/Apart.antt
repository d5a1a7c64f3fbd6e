-- Neither item reads within the cycle what the other drives, so the register may be run first.
use Rattle.std.proofs.Common.{◌≡◌, ℕ, ◌==◌, Bool, true, false, ◌&&◌, ◌||◌, List, [], ◌∷◌, map, refl, sym, ◌∙◌, ap, ap₂, subst, inl, inr, pos, arith}
use Rattle.std.proofs.lemmas.Bool.{cases_eq, false≢true, ne_eqb}
use Rattle.bits_core.specs.Numbers.{bits_of}
use Rattle.design_core.specs.declared.place.BitRef.{BitRef}
use Rattle.design_core.specs.declared.tree.DBase.TheVariants as base
use Rattle.design_core.specs.Core.{Term, Left, Stmt, bit, constant, slice, signal, covers, spots}
use Rattle.design_core.specs.Cells.{Cell, IsFirst, IsOrdered}
use Rattle.design_core.specs.Items.{assign, reset_by, cell_of}
use Rattle.design_core.specs.Numbers.{chosen_cells}
use Rattle.design_core.specs.Terms.{left, term, stmt}
use Rattle.design_core.proofs.BoolLaws.{both_true, false_or}
use Rattle.design_core.proofs.TermLaws.{left_whole}
use Rattle.item_exec.specs.Passes.{cell_in}
use Rattle.pass_tests.specs.Design.{lengths, seen, whole, one, stored, items}
use Rattle.pass_tests.proofs.Formed.{size, seen_term, seen_reads, stored_term, stored_runs, one_reads}

-- a test of a signal's number and more, where the number is another
off : (n m : ℕ) (x : Bool) → (n ≡ m → ⊥) → ((n == m) && x) ≡ false
off n m x ne = ap (λ t. t && x) (ne_eqb n m ne)

-- and what it says where it is true
on : (n m : ℕ) (x : Bool) → ((n == m) && x) ≡ true → n ≡ m
on n m x h = elim (cases_eq n m) [
  | inl e ↦ e
  | inr ne ↦ absurd (false≢true (sym (off n m x ne) ∙ h))
]

abbrev whole_left : ℕ → Left
whole_left s = slice (signal s) 1 (pos 0) 1

abbrev kept : Cell BitRef
kept = cell_of (reset_by (bit 0 0) true (stored_term (constant (bits_of 1 1))) (stored_term (seen_term 2)))

abbrev given : Cell BitRef
given = cell_of (assign (whole_left 2) (seen_term 1))

cells_are : chosen_cells (map (cell_in lengths) items) (1 ∷ 0 ∷ []) ≡ kept ∷ given ∷ []
cells_are =
    ap₂ (λ (b s : Stmt). cell_of (reset_by (bit 0 0) true b s) ∷ cell_of (assign (left size (whole 2)) (term size (seen 1))) ∷ [])
    (stored_runs one (constant (bits_of 1 1)) one_reads) (stored_runs (seen 2) (seen_term 2) (seen_reads 2))
    ∙ ap₂ (λ (l : Left) (t : Term). kept ∷ cell_of (assign l t) ∷ []) (left_whole size (whole 2) (base.Signal 2) 1 refl) (seen_reads 1)

kept_off : (b : BitRef) → (b.signal ≡ 3 → ⊥) → kept.drives b ≡ false
kept_off b ne = false_or _ _ (off b.signal 3 (covers b.bit (spots 1 (pos 0) 1)) ne) (off b.signal 3 (covers b.bit (spots 1 (pos 0) 1)) ne)

given_off : (b : BitRef) → (b.signal ≡ 2 → ⊥) → (given.drives b || false) ≡ false
given_off b ne = false_or _ _ (off b.signal 2 (covers b.bit (spots 1 (pos 0) 1)) ne) refl

kept_first : IsFirst kept (given ∷ [])
kept_first = record {
  reads_before = λ b r. let s : b.signal ≡ 0 = on b.signal 0 (b.bit == 0) r in false_or _ _ (kept_off b (λ e. omega (arith, e, s))) (given_off b (λ e. omega (arith, e, s)));
  alone = λ b d. elim (cases_eq b.signal 3) [
    | inl s ↦ given_off b (λ e. omega (arith, e, s))
    | inr ne ↦ absurd (false≢true (sym (kept_off b ne) ∙ d))
  ];
}

given_reads : (b : BitRef) → given.reads b ≡ true → b.signal ≡ 1
given_reads b r = elim (cases_eq b.signal 1) [
  | inl e ↦ e
  | inr ne ↦ absurd (false≢true (sym (false_or _ _ (off b.signal 1 (covers b.bit (spots 1 (pos 0) 1)) ne) refl) ∙ r))
]

given_first : IsFirst given []
given_first = record {
  reads_before = λ b r. let s = given_reads b r in given_off b (λ e. omega (arith, e, s));
  alone = λ b d. refl;
}

pub ordered : IsOrdered (chosen_cells (map (cell_in lengths) items) (1 ∷ 0 ∷ []))
ordered = subst IsOrdered (sym cells_are) (kept_first, (given_first, tt))
