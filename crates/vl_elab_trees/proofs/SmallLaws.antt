-- An expression before it has a context has at most 65,536 bits.
use Rattle.std.proofs.Common.{◌≡◌, ℕ, ◌≤◌, max, Bool, List, [], ap, ◌∙◌, refl, Option, Some, None, arith}
use Rattle.std.proofs.lemmas.Bool.Decides.{nat_tests}
use Rattle.vl_size.specs.declared.constant.Const.{Const}
use Rattle.vl_size.specs.declared.operators.UnaryOperator.{UnaryOperator}
use Rattle.vl_size.specs.declared.operators.UnaryOperator.TheVariants as u
use Rattle.vl_size.specs.declared.operators.BinaryOperator.{BinaryOperator}
use Rattle.vl_size.specs.declared.operators.BinaryOperator.TheVariants as b
use Rattle.vl_size.specs.declared.operators.SystemFunction.{SystemFunction}
use Rattle.vl_size.specs.declared.operators.SystemFunction.TheVariants as s
use Rattle.vl_size.specs.declared.table.SizeEntry.{SizeEntry}
use Rattle.vl_size.specs.declared.tree.Node.{Node}
use Rattle.vl_size.specs.declared.tree.Sizing.{Sizing, Sizing-F}
use Rattle.vl_size.specs.Nodes.{cut, total, times, unary_node, binary_node, system_node, name_node, call_node, select_node}
use Rattle.vl_size.specs.Owns.{own, owns, own_picks, own_pick}
use Rattle.vl_size.specs.Constants.{next_value, behind_next}
use Rattle.vl_size.specs.Sizings.{sizing_of, length_of}
use Rattle.vl_size.specs.Tables.{Look}
use Rattle.vl_size.specs.Texts.{number_size}
use Rattle.vl_size.specs.Terms.{Term, Pick, Picks, number, name, call, system, concat, repeat, group, unary, binary, choice, index, range, up, down, whole, pick}
use Rattle.vl_elab_trees.proofs.KnownLaws.{IsSmall, out_of}

cut_short : (n : ℕ) → cut n ≤ 65536
cut_short n = grind (arith, nat_tests)

small_by : (n : Node) (ps : List Sizing) → n.least ≡ 0 → n.size.length ≤ 65536 → IsSmall (sizing_of n ps)
small_by n ps e l =
    let out = out_of n ps in
    record { short = omega (arith, ap (λ (s : Sizing-F Sizing). s.node.size.length) out, l); least = ap (λ (s : Sizing-F Sizing). s.node.least) out ∙ e }

unary_small : (op : UnaryOperator) (a : Sizing) → IsSmall (unary_node op a)
unary_small u.Plus a = small_by _ _ refl (cut_short (length_of a))
unary_small u.Minus a = small_by _ _ refl (cut_short (length_of a))
unary_small u.Invert a = small_by _ _ refl (cut_short (length_of a))
unary_small u.Not a = small_by _ _ refl (cut_short 1)
unary_small u.And a = small_by _ _ refl (cut_short 1)
unary_small u.Nand a = small_by _ _ refl (cut_short 1)
unary_small u.Or a = small_by _ _ refl (cut_short 1)
unary_small u.Nor a = small_by _ _ refl (cut_short 1)
unary_small u.Xor a = small_by _ _ refl (cut_short 1)
unary_small u.Xnor a = small_by _ _ refl (cut_short 1)

pub binary_small : (op : BinaryOperator) (a c : Sizing) → IsSmall (binary_node op a c)
binary_small b.Add a c = small_by _ _ refl (cut_short (max (length_of a) (length_of c)))
binary_small b.Subtract a c = small_by _ _ refl (cut_short (max (length_of a) (length_of c)))
binary_small b.Multiply a c = small_by _ _ refl (cut_short (max (length_of a) (length_of c)))
binary_small b.Divide a c = small_by _ _ refl (cut_short (max (length_of a) (length_of c)))
binary_small b.Remainder a c = small_by _ _ refl (cut_short (max (length_of a) (length_of c)))
binary_small b.Power a c = small_by _ _ refl (cut_short (length_of a))
binary_small b.And a c = small_by _ _ refl (cut_short (max (length_of a) (length_of c)))
binary_small b.Or a c = small_by _ _ refl (cut_short (max (length_of a) (length_of c)))
binary_small b.Xor a c = small_by _ _ refl (cut_short (max (length_of a) (length_of c)))
binary_small b.Xnor a c = small_by _ _ refl (cut_short (max (length_of a) (length_of c)))
binary_small b.Less a c = small_by _ _ refl (cut_short 1)
binary_small b.LessEqual a c = small_by _ _ refl (cut_short 1)
binary_small b.Greater a c = small_by _ _ refl (cut_short 1)
binary_small b.GreaterEqual a c = small_by _ _ refl (cut_short 1)
binary_small b.Equal a c = small_by _ _ refl (cut_short 1)
binary_small b.NotEqual a c = small_by _ _ refl (cut_short 1)
binary_small b.LogicAnd a c = small_by _ _ refl (cut_short 1)
binary_small b.LogicOr a c = small_by _ _ refl (cut_short 1)
binary_small b.ShiftLeft a c = small_by _ _ refl (cut_short (length_of a))
binary_small b.ShiftRight a c = small_by _ _ refl (cut_short (length_of a))
binary_small b.ShiftLeftSigned a c = small_by _ _ refl (cut_short (length_of a))
binary_small b.ShiftRightSigned a c = small_by _ _ refl (cut_short (length_of a))

system_small : (f : SystemFunction) (a : Sizing) → IsSmall (system_node f a)
system_small s.Signed a = small_by _ _ refl (cut_short (length_of a))
system_small s.Unsigned a = small_by _ _ refl (cut_short (length_of a))
system_small s.CeilingLog a = small_by _ _ refl (cut_short 32)

name_small : (e : Option SizeEntry) → IsSmall (name_node e)
name_small None = small_by _ _ refl (cut_short 1)
name_small (Some e) = small_by _ _ refl (cut_short e.length)

call_small : (e : Option SizeEntry) (ps : List Sizing) → IsSmall (call_node e ps)
call_small None ps = small_by _ _ refl (cut_short 1)
call_small (Some e) ps = small_by _ _ refl (cut_short e.length)

select_small : (e : Option SizeEntry) (n : ℕ) (bad : Bool) (ps : List Sizing) → IsSmall (select_node e n bad ps)
select_small None n bad ps = small_by _ _ refl (cut_short n)
select_small (Some e) n bad ps = small_by _ _ refl (cut_short n)

pick_small : (look : Look) (e : Option SizeEntry) (p : Pick) (cs : List Const) → IsSmall (own_pick look e p cs).0
pick_small look e (index a) cs = select_small e _ _ _
pick_small look e (range h l) cs = select_small e _ _ _
pick_small look e (up a w) cs = select_small e _ _ _
pick_small look e (down a w) cs = select_small e _ _ _

picks_small : (look : Look) (e : Option SizeEntry) (ps : Picks) (cs : List Const) → IsSmall (own_picks look e ps cs).0
picks_small look e whole cs = name_small e
picks_small look e (pick p ps) cs = pick_small look e p cs

pub own_small : (look : Look) (t : Term) (cs : List Const) → IsSmall (own look t cs).0
own_small look (number text) cs = small_by _ _ refl (cut_short (number_size text).length)
own_small look (name x ps) cs = picks_small look (look x) ps cs
own_small look (call x ts) cs = call_small (look x) _
own_small look (system f a) cs = system_small f _
own_small look (concat ts) cs = small_by _ _ refl (cut_short (total (owns look ts [] cs).0))
own_small look (repeat c ts) cs = small_by _ _ refl (cut_short (times (next_value cs) (total (owns look ts [] (behind_next cs)).0)))
own_small look (group a) cs = small_by _ _ refl (cut_short (length_of (own look a cs).0))
own_small look (unary op a) cs = unary_small op _
own_small look (binary op a c) cs = binary_small op _ _
own_small look (choice t a c) cs =
    let ds = (own look t cs).1 in
    small_by _ _ refl (cut_short (max (length_of (own look a ds).0) (length_of (own look c (own look a ds).1).0)))
