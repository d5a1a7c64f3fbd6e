-- The items are formed, by the equation of each constructor and computation.
use Rattle.std.proofs.Common.{◌≡◌, ℕ, nat_le, Bool, true, false, not, ◌&&◌, List, [], ◌∷◌, length, get_or, All, refl, ◌∙◌, ap, ap₂, pos, arith}
use Rattle.std.proofs.lemmas.List.Elements.{All-nil, All-cons}
use Rattle.bits_core.specs.Numbers.{bits_of}
use Rattle.bits_core.specs.Places.{is_set}
use Rattle.design_core.specs.declared.tree.DBase.TheVariants as base
use Rattle.design_core.specs.declared.tree.DExpr.{DExpr}
use Rattle.design_core.specs.declared.tree.DLeft.TheOpen.{DLeft-F, DNode-F, DStmt-F}
use Rattle.design_core.specs.declared.items.Item.{Item}
use Rattle.design_core.specs.Core.{Term, Stmt, bit, same_bit, constant, span, write, slice, signal, value}
use Rattle.design_core.specs.Formed.{Sized, Place, Body, of_kind, left_size, node_size, stmt_size, sized_expr, sized_left, sized_stmt}
use Rattle.design_core.specs.Terms.{term, stmt}
use Rattle.design_core.specs.Wellformed.{reads_only, silent_stmt, tree_fits}
use Rattle.design_core.proofs.FormedLaws.{at_length, sized_constant, sized_signal, sized_whole, sized_write}
use Rattle.design_core.proofs.TermLaws.{term_constant, term_signal, stmt_write, left_whole}
use Rattle.stmt_exec.specs.State.{size_in}
use Rattle.item_exec.specs.Passes.{CanRun, Fits}
use Rattle.item_exec.proofs.KindLaws.{fits_of}
use Rattle.pass_tests.specs.Design.{lengths, seen, whole, one, assigned, stored, register, items}

abbrev pub size : ℕ → ℕ
size = size_in lengths

-- the parts with their lengths and tests
abbrev seen_size : ℕ → Sized
seen_size s = at_length 1 (node_size lengths (DNode-F.Signal s) 1)

seen_is : (s : ℕ) → sized_expr lengths (seen s) ≡ seen_size s
seen_is s = sized_signal lengths (seen s) s refl

abbrev one_size : Sized
one_size = at_length 1 (node_size lengths (DNode-F.Const (bits_of 1 1)) 1)

one_is : sized_expr lengths one ≡ one_size
one_is = sized_constant lengths one (bits_of 1 1) refl

abbrev whole_size : ℕ → Place
whole_size s = left_size lengths (DLeft-F.Whole (base.Signal s) 1)

whole_is : (s : ℕ) → sized_left lengths (whole s) ≡ whole_size s
whole_is s = sized_whole lengths (whole s) (base.Signal s) 1 refl

abbrev stored_size : Sized → Body
stored_size x = stmt_size (DStmt-F.Write (whole_size 3) x false)

stored_is : (e : DExpr) (x : Sized) → sized_expr lengths e ≡ x → sized_stmt lengths (stored e) ≡ stored_size x
stored_is e x h = sized_write lengths (stored e) (whole 3) e false refl ∙ ap₂ (λ l y. stmt_size (DStmt-F.Write l y false)) (whole_is 3) h

-- the parts as terms
abbrev pub seen_term : ℕ → Term
seen_term s = span s 1 (pos 0) 1

pub seen_reads : (s : ℕ) → term size (seen s) ≡ seen_term s
seen_reads s = term_signal size (seen s) s refl

abbrev pub stored_term : Term → Stmt
stored_term t = write (slice (signal 3) 1 (pos 0) 1) t false

pub stored_runs : (e : DExpr) (t : Term) → term size e ≡ t → stmt size (stored e) ≡ stored_term t
stored_runs e t h = stmt_write size (stored e) (whole 3) e false refl ∙ ap₂ (λ l x. write l x false) (left_whole size (whole 3) (base.Signal 3) 1 refl) h

pub one_reads : term size one ≡ constant (bits_of 1 1)
one_reads = term_constant size one (bits_of 1 1) refl

-- assign y = d
abbrev assign_fits : Place → Sized → Bool
assign_fits p x = p.formed [] false && p.fixed && x.formed [] && nat_le p.length x.length

assigned_fits : tree_fits lengths size assigned ≡ true
assigned_fits = ap₂ assign_fits (whole_is 2) (seen_is 1)

-- the register
abbrev tells : Term → Bool
tells t = reads_only (bit 0 0) t && is_set (value t (λ b. same_bit b (bit 0 0) && true) []) && not (is_set (value t (λ b. same_bit b (bit 0 0) && not true) []))

abbrev reset_fits_of : Sized → Term → Body → Stmt → Body → Bool
reset_fits_of x t r s b = b.formed [] false (of_kind false) && ((true && x.formed [] && tells t) && r.formed [] false (of_kind false) && silent_stmt s)

register_fits : tree_fits lengths size register ≡ true
unfolding bits_of
register_fits =
    ap₂ (λ x t. reset_fits_of x t (sized_stmt lengths (stored one)) (stmt size (stored one)) (sized_stmt lengths (stored (seen 2)))) (seen_is 0) (seen_reads 0)
    ∙ ap₂ (λ r s. reset_fits_of (seen_size 0) (seen_term 0) r s (sized_stmt lengths (stored (seen 2)))) (stored_is one one_size one_is) (stored_runs one (constant (bits_of 1 1)) one_reads)
    ∙ ap (reset_fits_of (seen_size 0) (seen_term 0) (stored_size one_size) (stored_term (constant (bits_of 1 1)))) (stored_is (seen 2) (seen_size 2) (seen_is 2))

-- each item may be run
pub can_run : All (CanRun lengths items) (1 ∷ 0 ∷ [])
can_run =
    All-cons (CanRun lengths items) 1 (0 ∷ []) (omega arith, λ d. fits_of lengths register register_fits)
    (All-cons (CanRun lengths items) 0 [] (omega arith, λ d. fits_of lengths assigned assigned_fits) (All-nil (CanRun lengths items)))
