-- The trees, by the equation of each constructor and computation.
use Rattle.std.proofs.Common.{◌≡◌, ℕ, Bool, true, false, List, [], ◌∷◌, refl, ◌∙◌, ap, ap₂, pos}
use Rattle.bits_core.specs.Numbers.{number, signed_number, bits_of}
use Rattle.bits_core.specs.Places.{extended, selected, shifted_left, shifted_right}
use Rattle.design_core.specs.declared.operators.Unary.TheVariants as unary
use Rattle.design_core.specs.declared.operators.Binary.TheVariants as binary
use Rattle.design_core.specs.declared.tree.DExpr.{DExpr}
use Rattle.design_core.specs.declared.tree.DNode.TheVariants as node
use Rattle.design_core.specs.declared.tree.DLeft.TheVariants as lefts
use Rattle.design_core.specs.declared.tree.DBase.TheVariants as base
use Rattle.design_core.specs.Core.{Term, constant, own, span, app1, app2, call, write, slice, local, value}
use Rattle.design_core.specs.Operators.{unary_value, binary_value, lowest, one_bit, all_match}
use Rattle.design_core.specs.Terms.{term, stmt, matching, chained, passed, select_of}
use Rattle.design_core.proofs.TermLaws.{term_constant, term_signal, term_local, term_extend, term_binary, term_unary, term_select, term_select_at, term_concat, term_call, stmt_write, left_whole, matching_is}
use Rattle.design_cases.specs.OperatorRows.{ones}
use Rattle.design_cases.specs.TreeRows.{worth, literal, ExtendRows, CompareRows, FillRows, IndexRows, PartRows, some_bit, CallRows, free_item, FreeRows, ResetRows}

abbrev pub four : ℕ → ℕ
four s = 4

pub literal_is : (sign : Bool) (n v : ℕ) → term four (literal sign n v) ≡ constant (bits_of n v)
literal_is sign n v = term_constant four (literal sign n v) (bits_of n v) refl

pub seen : (e : DExpr) (t : Term) → term four e ≡ t → worth e ≡ value t ones []
seen e t is = ap (λ x. value x ones []) is

pub extend_rows : ExtendRows
unfolding number signed_number bits_of extended selected shifted_left shifted_right
extend_rows = (
  seen _ (app1 (extended true 6) (constant (bits_of 4 9))) (term_extend four _ (literal true 4 9) true refl ∙ ap (app1 (extended true 6)) (literal_is true 4 9)),
  seen _ (app1 (extended false 6) (constant (bits_of 4 9))) (term_extend four _ (literal false 4 9) false refl ∙ ap (app1 (extended false 6)) (literal_is false 4 9)),
)

pub compare_rows : CompareRows
unfolding number signed_number bits_of extended selected shifted_left shifted_right
compare_rows = (
  seen _ (app2 (binary_value binary.Less true) (constant (bits_of 4 15)) (constant (bits_of 4 1))) (term_binary four _ binary.Less (literal true 4 15) (literal true 4 1) refl ∙ ap₂ (app2 (binary_value binary.Less true)) (literal_is true 4 15) (literal_is true 4 1)),
  seen _ (app2 (binary_value binary.Less false) (constant (bits_of 4 15)) (constant (bits_of 4 1))) (term_binary four _ binary.Less (literal true 4 15) (literal false 4 1) refl ∙ ap₂ (app2 (binary_value binary.Less false)) (literal_is true 4 15) (literal_is false 4 1)),
)

pub fill_rows : FillRows
unfolding number signed_number bits_of extended selected shifted_left shifted_right
fill_rows = (
  seen _ (app2 (binary_value binary.ShiftRightSigned true) (constant (bits_of 4 12)) (constant (bits_of 1 1))) (term_binary four _ binary.ShiftRightSigned (literal true 4 12) (literal false 1 1) refl ∙ ap₂ (app2 (binary_value binary.ShiftRightSigned true)) (literal_is true 4 12) (literal_is false 1 1)),
  seen _ (app2 (binary_value binary.ShiftRightSigned false) (constant (bits_of 4 12)) (constant (bits_of 1 1))) (term_binary four _ binary.ShiftRightSigned (literal false 4 12) (literal false 1 1) refl ∙ ap₂ (app2 (binary_value binary.ShiftRightSigned false)) (literal_is false 4 12) (literal_is false 1 1)),
)

pub index_rows : IndexRows
unfolding number signed_number bits_of extended selected shifted_left shifted_right
index_rows = (
  seen _ (app2 (λ v i. selected (lowest (pos 0) false true i) 2 v) (constant (bits_of 3 7)) (constant (bits_of 2 3))) (term_select_at four _ (literal false 3 7) (literal true 2 3) (pos 0) false refl ∙ ap₂ (app2 (λ v i. selected (lowest (pos 0) false true i) 2 v)) (literal_is false 3 7) (literal_is true 2 3)),
  seen _ (app2 (λ v i. selected (lowest (pos 0) false false i) 2 v) (constant (bits_of 3 7)) (constant (bits_of 2 3))) (term_select_at four _ (literal false 3 7) (literal false 2 3) (pos 0) false refl ∙ ap₂ (app2 (λ v i. selected (lowest (pos 0) false false i) 2 v)) (literal_is false 3 7) (literal_is false 2 3)),
)

pub part_rows : PartRows
unfolding number signed_number bits_of extended selected shifted_left shifted_right
part_rows = (
  seen _ (chained (constant (bits_of 4 10) ∷ constant (bits_of 2 1) ∷ [])) (term_concat four _ (literal false 4 10 ∷ literal false 2 1 ∷ []) refl ∙ ap₂ (λ x y. chained (x ∷ y ∷ [])) (literal_is false 4 10) (literal_is false 2 1)),
  seen _ (select_of (pos 3) 2 (span 0 4 (pos 0) 4)) (term_select four _ (record { length = 4; signed = false; node = node.Signal 0 }) (pos 3) refl ∙ ap (select_of (pos 3) 2) (term_signal four (record { length = 4; signed = false; node = node.Signal 0 }) 0 refl)),
)

body_is : stmt four some_bit.body ≡ write (slice (local 0) 1 (pos 0) 1) (app1 (unary_value unary.Or) (own 1)) true
body_is =
    let inner : DExpr = record { length = 2; signed = false; node = node.Local 1 } in
    let outer : DExpr = record { length = 1; signed = false; node = node.Unary unary.Or inner } in
    stmt_write four some_bit.body (lefts.Whole (base.Local 0) 1) outer true refl
    ∙ ap₂ (λ l e. write l e true) (left_whole four (lefts.Whole (base.Local 0) 1) (base.Local 0) 1 refl)
    (term_unary four outer unary.Or inner refl ∙ ap (app1 (unary_value unary.Or)) (term_local four inner 1 refl))

called : (v : ℕ) → worth (record { length = 1; signed = false; node = node.Call some_bit (literal false 4 v ∷ []) })
    ≡ value (call (passed (constant (bits_of 4 v) ∷ [])) (write (slice (local 0) 1 (pos 0) 1) (app1 (unary_value unary.Or) (own 1)) true) 1 (2 ∷ []) []) ones []
called v = seen (record { length = 1; signed = false; node = node.Call some_bit (literal false 4 v ∷ []) })
    (call (passed (constant (bits_of 4 v) ∷ [])) (write (slice (local 0) 1 (pos 0) 1) (app1 (unary_value unary.Or) (own 1)) true) 1 (2 ∷ []) [])
    (term_call four (record { length = 1; signed = false; node = node.Call some_bit (literal false 4 v ∷ []) }) some_bit (literal false 4 v ∷ []) refl
    ∙ ap₂ (λ x s. call (passed (x ∷ [])) s 1 (2 ∷ []) []) (literal_is false 4 v) body_is)

pub call_rows : CallRows
unfolding number signed_number bits_of extended selected shifted_left shifted_right
call_rows = (called 4, called 2)

free_is : (v : List Bool) → value (matching four free_item (constant v)) ones [] ≡ value (app2 (λ a b. one_bit (all_match a b (bits_of 3 2))) (constant v) (constant (bits_of 3 4))) ones []
free_is v = ap (λ t. value t ones []) (matching_is four free_item (constant v) ∙ ap (app2 (λ a b. one_bit (all_match a b (bits_of 3 2))) (constant v)) (literal_is false 3 4))

pub free_rows : FreeRows
unfolding number signed_number bits_of extended selected shifted_left shifted_right
free_rows = (free_is (bits_of 3 6), free_is (bits_of 3 4), free_is (bits_of 3 5))

pub reset_rows : ResetRows
reset_rows = (refl, refl, refl, refl)
