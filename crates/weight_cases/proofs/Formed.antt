-- The design, by the equation of each constructor and computation.
use Rattle.std.proofs.Common.{◌≡◌, ℕ, ◌+◌, ◌==◌, ◌^◌, nat_lt, nat_le, Bool, true, false, not, ◌&&◌, List, [], ◌∷◌, map, refl, ◌∙◌, ap, ap₂, Some, None, pos}
use Rattle.std.specs.List.{list_all, list_any, filter}
use Rattle.bits_core.specs.Numbers.{bits_of}
use Rattle.bits_core.specs.Places.{is_set}
use Rattle.design_core.specs.declared.place.BitRef.{BitRef}
use Rattle.design_core.specs.declared.operators.Unary.TheVariants as unary
use Rattle.design_core.specs.declared.operators.Binary.TheVariants as binary
use Rattle.design_core.specs.declared.tree.DBase.TheVariants as base
use Rattle.design_core.specs.declared.tree.DExpr.{DExpr}
use Rattle.design_core.specs.declared.tree.DLeft.{DLeft}
use Rattle.design_core.specs.declared.tree.DLeft.TheVariants as lefts
use Rattle.design_core.specs.declared.tree.DLeft.TheOpen.{DLeft-F, DNode-F, DStmt-F, DArm-F}
use Rattle.design_core.specs.declared.tree.DNode.{DNode}
use Rattle.design_core.specs.declared.tree.DStmt.{DStmt}
use Rattle.design_core.specs.declared.tree.DStmt.TheVariants as stmts
use Rattle.design_core.specs.declared.tree.DArm.{DArm, roll-DArm, out-roll-DArm}
use Rattle.design_core.specs.declared.tree.DMatch.{DMatch}
use Rattle.design_core.specs.declared.tree.DFunction.{DFunction}
use Rattle.design_core.specs.declared.items.Item.{Item}
use Rattle.design_core.specs.declared.items.Item.TheVariants as item
use Rattle.design_core.specs.declared.items.PowerUp.{PowerUp}
use Rattle.design_core.specs.Core.{Term, Stmt, bit, same_bit, constant, span, app1, write, slice, signal, value}
use Rattle.design_core.specs.Operators.{unary_value}
use Rattle.design_core.specs.Terms.{term, stmt}
use Rattle.design_core.specs.Cells.{Cell}
use Rattle.design_core.specs.Items.{reset_by, cell_of}
use Rattle.design_core.specs.Parts.{length_at, item_cell, bits_of_signals}
use Rattle.design_core.specs.Formed.{Sized, Place, Body, Branch, Routine, Choice, of_kind, left_size, node_size, stmt_size, arm_size, function_size, match_size, sized_expr, sized_left, sized_stmt, sized_arm, sized_function, sized_match}
use Rattle.design_core.specs.Wellformed.{is_design, are_formed, scopes_apart, print_apart, decimal, item_fits, same_bits, register_bits, reads_only, silent_stmt, scopes_fit, signal_fits, total_weight}
use Rattle.design_core.proofs.FormedLaws.{at_length, sized_constant, sized_signal, sized_local, sized_select_at, sized_unary, sized_binary, sized_call, sized_whole, sized_write, sized_case_else, sized_arm_is, sized_match_is, sized_function_is}
use Rattle.design_core.proofs.TermLaws.{term_constant, term_signal, term_unary, stmt_write, left_whole}
use Rattle.design_core.proofs.BoolLaws.{true_both}
use Rattle.weight_cases.specs.Design.{root, signals, lengths, seen, local, literal, whole, product, product_of_weight, picked, select_item, more, plus_body, plus_one, called, call_item, write_r, match_of, first_arm, second_arm, chosen, case_item, write_q, inverted, register, others, items, power_up, zero_at, DesignIsFormed, DesignWeighs, WrongWeight, WrongTest, NoPowerUp}

-- the parts of trees with their lengths, tests and weights
abbrev seen_size : ℕ → ℕ → Sized
seen_size s n = at_length n (node_size lengths (DNode-F.Signal s) n)

seen_is : (s n : ℕ) → sized_expr lengths (seen s n) ≡ seen_size s n
seen_is s n = sized_signal lengths (seen s n) s refl

abbrev literal_size : ℕ → ℕ → Sized
literal_size n v = at_length n (node_size lengths (DNode-F.Const (bits_of n v)) n)

literal_is : (n v : ℕ) → sized_expr lengths (literal n v) ≡ literal_size n v
literal_is n v = sized_constant lengths (literal n v) (bits_of n v) refl

abbrev whole_size : ℕ → ℕ → Place
whole_size s n = left_size lengths (DLeft-F.Whole (base.Signal s) n)

whole_is : (s n : ℕ) → sized_left lengths (whole s n) ≡ whole_size s n
whole_is s n = sized_whole lengths (whole s n) (base.Signal s) n refl

-- an assign
abbrev assign_fits : ℕ → Place → Sized → Bool
assign_fits w p x = nat_lt 0 1 && (p.formed [] false && p.fixed && x.formed [] && nat_le p.length x.length) && (w == p.length + p.weight [] + x.weight [])

assign_is : (w : ℕ) (l : DLeft) (e : DExpr) (p : Place) (x : Sized) → sized_left lengths l ≡ p → sized_expr lengths e ≡ x
    → item_fits lengths (length_at signals) 1 (item.Assign 0 w l e) ≡ assign_fits w p x
assign_is w l e p x h k = ap₂ (assign_fits w) h k

-- y = d * q
abbrev product_size : Sized
product_size = at_length 4 (node_size lengths (DNode-F.Binary binary.Mul (seen_size 1 4) (seen_size 3 4)) 4)

product_is : sized_expr lengths product ≡ product_size
product_is = sized_binary lengths product binary.Mul (seen 1 4) (seen 3 4) refl ∙ ap₂ (λ x y. at_length 4 (node_size lengths (DNode-F.Binary binary.Mul x y) 4)) (seen_is 1 4) (seen_is 3 4)

product_fits : (w : ℕ) → item_fits lengths (length_at signals) 1 (product_of_weight w) ≡ assign_fits w (whole_size 4 4) product_size
product_fits w = assign_is w (whole 4 4) product (whole_size 4 4) product_size (whole_is 4 4) product_is

-- z = d[i]
abbrev picked_size : Sized
picked_size = at_length 1 (node_size lengths (DNode-F.SelectAt (seen_size 1 4) (seen_size 2 2) (pos 0) false) 1)

picked_is : sized_expr lengths picked ≡ picked_size
picked_is = sized_select_at lengths picked (seen 1 4) (seen 2 2) (pos 0) false refl ∙ ap₂ (λ x y. at_length 1 (node_size lengths (DNode-F.SelectAt x y (pos 0) false) 1)) (seen_is 1 4) (seen_is 2 2)

select_fits : item_fits lengths (length_at signals) 1 select_item ≡ true
select_fits = assign_is 71 (whole 5 1) picked (whole_size 5 1) picked_size (whole_is 5 1) picked_is

-- w = plus_one(d)
abbrev more_size : Sized
more_size = at_length 4 (node_size lengths (DNode-F.Binary binary.Add (at_length 4 (node_size lengths (DNode-F.Local 1) 4)) (literal_size 4 1)) 4)

more_is : sized_expr lengths more ≡ more_size
more_is = sized_binary lengths more binary.Add (local 1 4) (literal 4 1) refl
    ∙ ap₂ (λ x y. at_length 4 (node_size lengths (DNode-F.Binary binary.Add x y) 4)) (sized_local lengths (local 1 4) 1 refl) (literal_is 4 1)

abbrev plus_size : Body
plus_size = stmt_size (DStmt-F.Write (left_size lengths (DLeft-F.Whole (base.Local 0) 4)) more_size true)

plus_is : sized_stmt lengths plus_body ≡ plus_size
plus_is = sized_write lengths plus_body (lefts.Whole (base.Local 0) 4) more true refl
    ∙ ap₂ (λ l e. stmt_size (DStmt-F.Write l e true)) (sized_whole lengths (lefts.Whole (base.Local 0) 4) (base.Local 0) 4 refl) more_is

abbrev function_of : Body → Routine
function_of b = function_size (record { length = plus_one.length; signed = plus_one.signed; inputs = plus_one.inputs; locals = plus_one.locals; body = b })

function_is : sized_function lengths plus_one ≡ function_of plus_size
function_is = sized_function_is lengths plus_one ∙ ap function_of plus_is

abbrev called_size : Sized
called_size = at_length 4 (node_size lengths (DNode-F.Call (function_of plus_size) (seen_size 1 4 ∷ [])) 4)

called_is : sized_expr lengths called ≡ called_size
called_is = sized_call lengths called plus_one (seen 1 4 ∷ []) refl ∙ ap₂ (λ f x. at_length 4 (node_size lengths (DNode-F.Call f (x ∷ [])) 4)) function_is (seen_is 1 4)

call_fits : item_fits lengths (length_at signals) 1 call_item ≡ true
unfolding bits_of
call_fits = assign_is 40 (whole 6 4) called (whole_size 6 4) called_size (whole_is 6 4) called_is

-- the case
abbrev write_size : ℕ → Sized → Bool → Body
write_size s x blocking = stmt_size (DStmt-F.Write (whole_size s 4) x blocking)

write_is : (s : ℕ) (e : DExpr) (x : Sized) (blocking : Bool) → sized_expr lengths e ≡ x → sized_stmt lengths (stmts.Write (whole s 4) e blocking) ≡ write_size s x blocking
write_is s e x blocking h = sized_write lengths (stmts.Write (whole s 4) e blocking) (whole s 4) e blocking refl ∙ ap₂ (λ l y. stmt_size (DStmt-F.Write l y blocking)) (whole_is s 4) h

abbrev match_size_of : ℕ → Choice
match_size_of v = match_size (record { value = literal_size 2 v; free = None })

match_is : (v : ℕ) → sized_match lengths (match_of v) ≡ match_size_of v
match_is v = sized_match_is lengths (match_of v) ∙ ap (λ x. match_size (record { value = x; free = None })) (literal_is 2 v)

abbrev ArmLayer : Type 0
ArmLayer = DArm-F DLeft DNode DStmt DArm DExpr DFunction DMatch

arm_is : (x : ArmLayer) → sized_arm lengths (roll-DArm x) ≡ arm_size (record { matches = map (sized_match lengths) x.matches; body = sized_stmt lengths x.body })
arm_is x = sized_arm_is lengths (roll-DArm x) ∙ ap (λ (y : ArmLayer). arm_size (record { matches = map (sized_match lengths) y.matches; body = sized_stmt lengths y.body })) (out-roll-DArm x)

abbrev first_size : Branch
first_size = arm_size (record { matches = match_size_of 0 ∷ []; body = write_size 7 (seen_size 1 4) true })

first_is : sized_arm lengths first_arm ≡ first_size
first_is = arm_is (record { matches = match_of 0 ∷ []; body = write_r (seen 1 4) })
    ∙ ap₂ (λ m b. arm_size (record { matches = m ∷ []; body = b })) (match_is 0) (write_is 7 (seen 1 4) (seen_size 1 4) true (seen_is 1 4))

abbrev second_size : Branch
second_size = arm_size (record { matches = match_size_of 1 ∷ match_size_of 2 ∷ []; body = write_size 7 (seen_size 3 4) true })

second_is : sized_arm lengths second_arm ≡ second_size
second_is = arm_is (record { matches = match_of 1 ∷ match_of 2 ∷ []; body = write_r (seen 3 4) })
    ∙ ap₂ (λ m k. arm_size (record { matches = m ∷ k ∷ []; body = sized_stmt lengths (write_r (seen 3 4)) })) (match_is 1) (match_is 2)
    ∙ ap (λ b. arm_size (record { matches = match_size_of 1 ∷ match_size_of 2 ∷ []; body = b })) (write_is 7 (seen 3 4) (seen_size 3 4) true (seen_is 3 4))

abbrev chosen_size : Body
chosen_size = stmt_size (DStmt-F.Case (seen_size 2 2) (first_size ∷ second_size ∷ []) (Some (write_size 7 (literal_size 4 0) true)))

chosen_is : sized_stmt lengths chosen ≡ chosen_size
chosen_is = sized_case_else lengths chosen (seen 2 2) (first_arm ∷ second_arm ∷ []) (write_r (literal 4 0)) refl
    ∙ ap₂ (λ x y. stmt_size (DStmt-F.Case x (sized_arm lengths first_arm ∷ sized_arm lengths second_arm ∷ []) (Some y))) (seen_is 2 2) (write_is 7 (literal 4 0) (literal_size 4 0) true (literal_is 4 0))
    ∙ ap₂ (λ a b. stmt_size (DStmt-F.Case (seen_size 2 2) (a ∷ b ∷ []) (Some (write_size 7 (literal_size 4 0) true)))) first_is second_is

abbrev body_fits : ℕ → Body → Bool
body_fits w b = nat_lt 0 1 && b.formed [] false (of_kind true) && (w == b.weight [])

case_fits : item_fits lengths (length_at signals) 1 case_item ≡ true
unfolding bits_of
case_fits = ap (body_fits 18) chosen_is

-- the register
abbrev zero_term : Stmt
zero_term = write (slice (signal 3) 4 (pos 0) 4) (constant (bits_of 4 0)) false

zero_is : stmt (length_at signals) (write_q (literal 4 0)) ≡ zero_term
zero_is = stmt_write (length_at signals) (write_q (literal 4 0)) (whole 3 4) (literal 4 0) false refl
    ∙ ap₂ (λ l e. write l e false) (left_whole (length_at signals) (whole 3 4) (base.Signal 3) 4 refl) (term_constant (length_at signals) (literal 4 0) (bits_of 4 0) refl)

abbrev next_term : Stmt
next_term = write (slice (signal 3) 4 (pos 0) 4) (span 1 4 (pos 0) 4) false

next_is : stmt (length_at signals) (write_q (seen 1 4)) ≡ next_term
next_is = stmt_write (length_at signals) (write_q (seen 1 4)) (whole 3 4) (seen 1 4) false refl
    ∙ ap₂ (λ l e. write l e false) (left_whole (length_at signals) (whole 3 4) (base.Signal 3) 4 refl) (term_signal (length_at signals) (seen 1 4) 1 refl)

abbrev tells : Term → Bool
tells t = reads_only (bit 0 0) t && is_set (value t (λ b. same_bit b (bit 0 0) && false) []) && not (is_set (value t (λ b. same_bit b (bit 0 0) && not false) []))

abbrev reset_fits_of : ℕ → Sized → Term → Body → Stmt → Body → Bool
reset_fits_of w x t r s b = nat_lt 0 1
    && (b.formed [] false (of_kind false) && ((true && x.formed [] && tells t) && r.formed [] false (of_kind false) && silent_stmt s))
    && (w == x.weight [] + 1 + r.weight [] + b.weight [])

abbrev zero_size : Body
zero_size = write_size 3 (literal_size 4 0) false

abbrev next_size : Body
next_size = write_size 3 (seen_size 1 4) false

register_is : (w : ℕ) (e : DExpr) (x : Sized) (t : Term) → sized_expr lengths e ≡ x → term (length_at signals) e ≡ t
    → item_fits lengths (length_at signals) 1 (register w e) ≡ reset_fits_of w x t zero_size zero_term next_size
register_is w e x t h k =
    ap₂ (λ y u. reset_fits_of w y u (sized_stmt lengths (write_q (literal 4 0))) (stmt (length_at signals) (write_q (literal 4 0))) (sized_stmt lengths (write_q (seen 1 4)))) h k
    ∙ ap₂ (λ r s. reset_fits_of w x t r s (sized_stmt lengths (write_q (seen 1 4)))) (write_is 3 (literal 4 0) (literal_size 4 0) false (literal_is 4 0)) zero_is
    ∙ ap (reset_fits_of w x t zero_size zero_term) (write_is 3 (seen 1 4) (seen_size 1 4) false (seen_is 1 4))

abbrev inverted_size : Sized
inverted_size = at_length 1 (node_size lengths (DNode-F.Unary unary.Not (seen_size 0 1)) 1)

inverted_is : sized_expr lengths inverted ≡ inverted_size
inverted_is = sized_unary lengths inverted unary.Not (seen 0 1) refl ∙ ap (λ x. at_length 1 (node_size lengths (DNode-F.Unary unary.Not x) 1)) (seen_is 0 1)

inverted_term : term (length_at signals) inverted ≡ app1 (unary_value unary.Not) (span 0 1 (pos 0) 1)
inverted_term = term_unary (length_at signals) inverted unary.Not (seen 0 1) refl ∙ ap (app1 (unary_value unary.Not)) (term_signal (length_at signals) (seen 0 1) 0 refl)

register_fits : item_fits lengths (length_at signals) 1 (register 10 inverted) ≡ true
unfolding bits_of
register_fits = register_is 10 inverted inverted_size (app1 (unary_value unary.Not) (span 0 1 (pos 0) 1)) inverted_is inverted_term

wrong_test_fits : item_fits lengths (length_at signals) 1 (register 9 (seen 0 1)) ≡ false
unfolding bits_of
wrong_test_fits = register_is 9 (seen 0 1) (seen_size 0 1) (span 0 1 (pos 0) 1) (seen_is 0 1) (term_signal (length_at signals) (seen 0 1) 0 refl)

-- the design
abbrev fits : Item → Bool
fits i = item_fits lengths (length_at signals) 1 i

abbrev tail_fits : Bool
tail_fits = fits select_item && (fits call_item && (fits case_item && true))

tail_is : tail_fits ≡ true
tail_is = true_both _ _ select_fits (true_both _ _ call_fits (true_both _ _ case_fits refl))

-- the bits that the register drives have their values at power-up
abbrev powered : List PowerUp → ℕ → Stmt → Stmt → Bool
powered p w s t = same_bits (map (λ (x : PowerUp). x.bit) p)
    (filter (λ b. list_any (λ (c : Cell BitRef). c.clocked && c.drives b) (item_cell signals (product_of_weight w) ∷ cell_of (reset_by (bit 0 0) false s t) ∷ map (item_cell signals) others)) (bits_of_signals 0 signals))

powered_is : (p : List PowerUp) (w k : ℕ) (e : DExpr)
    → same_bits (map (λ (x : PowerUp). x.bit) p) (register_bits signals (product_of_weight w ∷ register k e ∷ others)) ≡ powered p w zero_term next_term
powered_is p w k e = ap₂ (powered p w) zero_is next_is

abbrev design_by : List Item → Bool → Bool → Bool
design_by is x y = ((((nat_lt 0 1 && scopes_fit (root ∷ []) 0 (root ∷ [])) && list_all (signal_fits (root ∷ [])) signals) && x) && scopes_apart (root ∷ []) && print_apart signals && y) && nat_le (total_weight signals is) (2 ^ 22)

design_is : (is : List Item) (p : List PowerUp) (x y : Bool) → list_all fits is ≡ x → same_bits (map (λ (b : PowerUp). b.bit) p) (register_bits signals is) ≡ y → is_design (root ∷ []) signals is p ≡ design_by is x y
unfolding is_design are_formed
design_is is p x y h k = ap₂ (design_by is) h k

pub design_is_formed : DesignIsFormed
unfolding scopes_apart print_apart decimal bits_of
design_is_formed = design_is items power_up true true (ap₂ (λ x y. x && (y && tail_fits)) (product_fits 132) register_fits ∙ tail_is) (powered_is power_up 132 10 inverted)

pub design_weighs : DesignWeighs
design_weighs = refl

pub wrong_weight : WrongWeight
unfolding scopes_apart print_apart decimal bits_of
wrong_weight = design_is (product_of_weight 131 ∷ register 10 inverted ∷ others) power_up false true (ap (λ x. x && (fits (register 10 inverted) && tail_fits)) (product_fits 131)) (powered_is power_up 131 10 inverted)

pub wrong_test : WrongTest
unfolding scopes_apart print_apart decimal bits_of
wrong_test = design_is (product_of_weight 132 ∷ register 9 (seen 0 1) ∷ others) power_up false true (ap₂ (λ x y. x && (y && tail_fits)) (product_fits 132) wrong_test_fits) (powered_is power_up 132 9 (seen 0 1))

pub no_power_up : NoPowerUp
unfolding scopes_apart print_apart decimal bits_of
no_power_up = design_is items (zero_at 0 ∷ zero_at 1 ∷ zero_at 2 ∷ []) true false (ap₂ (λ x y. x && (y && tail_fits)) (product_fits 132) register_fits ∙ tail_is) (powered_is (zero_at 0 ∷ zero_at 1 ∷ zero_at 2 ∷ []) 132 10 inverted)
