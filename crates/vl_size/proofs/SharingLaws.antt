-- An expression has the size that the operands which share its context give.
use Rattle.std.proofs.Common.{◌≡◌, ℕ, ◌≤◌, max, Bool, true, false, ◌&&◌, List, [], ◌∷◌, ◌++◌, map, refl, sym, ap, ◌∙◌, Option, Some, None, arith}
use Rattle.std.proofs.lemmas.Bool.Decides.{nat_tests}
use Rattle.std.proofs.lemmas.List.{append-nil}
use Rattle.vl_size.specs.declared.constant.Const.{Const}
use Rattle.vl_size.specs.declared.operators.UnaryOperator.{UnaryOperator}
use Rattle.vl_size.specs.declared.operators.UnaryOperator.TheVariants as u
use Rattle.vl_size.specs.declared.operators.BinaryOperator.{BinaryOperator}
use Rattle.vl_size.specs.declared.operators.BinaryOperator.TheVariants as b
use Rattle.vl_size.specs.declared.operators.SystemFunction.{SystemFunction}
use Rattle.vl_size.specs.declared.operators.SystemFunction.TheVariants as f
use Rattle.vl_size.specs.declared.table.SizeEntry.{SizeEntry}
use Rattle.vl_size.specs.declared.tree.Size.{Size}
use Rattle.vl_size.specs.declared.tree.Node.{Node}
use Rattle.vl_size.specs.declared.tree.Sizing.{Sizing, Sizing-F}
use Rattle.vl_size.specs.declared.tree.Sizing.TheFolds.{fold-roll-Sizing}
use Rattle.vl_size.specs.declared.tree.Sizing.TheViews.{out-roll-Sizing}
use Rattle.vl_size.specs.Terms.{Term, Pick, Picks, number, name, call, system, concat, repeat, group, unary, binary, choice, index, range, up, down, whole, pick}
use Rattle.vl_size.specs.Tables.{Look}
use Rattle.vl_size.specs.Sizings.{sizing_of, node_of, length_of, signed_of}
use Rattle.vl_size.specs.Nodes.{cut, sizes, unary_node, binary_node, system_node, name_node, call_node, select_node, total, times}
use Rattle.vl_size.specs.Texts.{number_size}
use Rattle.vl_size.specs.Constants.{next_value, behind_next}
use Rattle.vl_size.specs.Owns.{own, own_picks, own_pick, owns, inputs_of}
use Rattle.vl_size.specs.Sharing.{sharing, shared_by, largest, are_signed, IsShared}

pub record Fits (s : Sizing) : Type 0 where
  pub shared : IsShared s
  pub short : length_of s ≤ 65536

cut_short : (n : ℕ) → cut n ≤ 65536
cut_short n = grind (arith, nat_tests)

cut_same : (n : ℕ) → n ≤ 65536 → cut n ≡ n
cut_same n l = grind (arith, nat_tests, l)

max_zero : (n : ℕ) → n ≡ max n 0
max_zero n = omega arith

and_true : (t : Bool) → t ≡ (t && true)
and_true true = refl
and_true false = refl

largest_append : (xs ys : List Size) → largest (xs ++ ys) ≡ max (largest xs) (largest ys)
largest_append [] ys = omega arith
largest_append (x ∷ xs) ys = let h = largest_append xs ys in omega (arith, h)

signed_append : (xs ys : List Size) → are_signed (xs ++ ys) ≡ (are_signed xs && are_signed ys)
signed_append [] ys = refl
signed_append (x ∷ xs) ys = by x.signed (signed_append xs ys)
  where
    by : (t : Bool) → are_signed (xs ++ ys) ≡ (are_signed xs && are_signed ys) → (t && are_signed (xs ++ ys)) ≡ ((t && are_signed xs) && are_signed ys)
    by true e = e
    by false e = refl

-- an expression, by what is known of it
fits_by : (n : Node) (ps : List Sizing) → n.size.length ≡ largest (shared_by n.operands n.size (map sharing ps)) → n.size.signed ≡ are_signed (shared_by n.operands n.size (map sharing ps))
    → n.size.length ≤ 65536 → Fits (sizing_of n ps)
unfolding sharing
fits_by n ps l g m =
    let out = out-roll-Sizing (record { node = n; parts = ps }) in
    let node : node_of (sizing_of n ps) ≡ n = ap (λ (s : Sizing-F Sizing). s.node) out in
    let shares : sharing (sizing_of n ps) ≡ shared_by n.operands n.size (map sharing ps) =
    fold-roll-Sizing (List Size) (λ s. shared_by s.node.operands s.node.size s.parts) (record { node = n; parts = ps }) in
    record {
      shared = record {
        lengths = ap (λ (x : Node). x.size.length) node ∙ l ∙ ap largest (sym shares);
        signs = ap (λ (x : Node). x.size.signed) node ∙ g ∙ ap are_signed (sym shares);
      };
      short = omega (arith, ap (λ (x : Node). x.size.length) node, m);
    }

-- its operands are by themselves, or compared
apart_fits : (n : Node) (ps : List Sizing) → shared_by n.operands n.size (map sharing ps) ≡ n.size ∷ [] → n.size.length ≤ 65536 → Fits (sizing_of n ps)
apart_fits n ps e m = fits_by n ps (max_zero _ ∙ ap largest (sym e)) (and_true _ ∙ ap are_signed (sym e)) m

-- one operand is in its context
one_fits : (a : Sizing) (n : Node) (ps : List Sizing) → shared_by n.operands n.size (map sharing ps) ≡ sharing a → n.size ≡ sizes (cut (length_of a)) (signed_of a) → Fits a → Fits (sizing_of n ps)
one_fits a n ps e f h =
    fits_by n ps
    (ap (λ (x : Size). x.length) f ∙ cut_same (length_of a) h.short ∙ h.shared.lengths ∙ ap largest (sym e))
    (ap (λ (x : Size). x.signed) f ∙ h.shared.signs ∙ ap are_signed (sym e))
    (omega (arith, ap (λ (x : Size). x.length) f, cut_short (length_of a)))

-- two operands are in its context
two_fits : (a d : Sizing) (n : Node) (ps : List Sizing) → shared_by n.operands n.size (map sharing ps) ≡ sharing a ++ (sharing d ++ [])
    → n.size ≡ sizes (cut (max (length_of a) (length_of d))) (signed_of a && signed_of d) → Fits a → Fits d → Fits (sizing_of n ps)
two_fits a d n ps e f h g =
    let m = h.short in
    let k = g.short in
    let both : max (length_of a) (length_of d) ≤ 65536 = omega (arith, m, k) in
    let last : sharing d ++ [] ≡ sharing d = append-nil (sharing d) in
    fits_by n ps
    (ap (λ (x : Size). x.length) f ∙ cut_same _ both ∙ ap (λ l. max l (length_of d)) h.shared.lengths ∙ ap (max (largest (sharing a))) g.shared.lengths
    ∙ sym (largest_append (sharing a) (sharing d)) ∙ ap (λ xs. largest (sharing a ++ xs)) (sym last) ∙ ap largest (sym e))
    (ap (λ (x : Size). x.signed) f ∙ ap (λ t. t && signed_of d) h.shared.signs ∙ ap (λ t. are_signed (sharing a) && t) g.shared.signs
    ∙ sym (signed_append (sharing a) (sharing d)) ∙ ap (λ xs. are_signed (sharing a ++ xs)) (sym last) ∙ ap are_signed (sym e))
    (omega (arith, ap (λ (x : Size). x.length) f, cut_short (max (length_of a) (length_of d))))

unary_fits : (op : UnaryOperator) (a : Sizing) → Fits a → Fits (unary_node op a)
unary_fits u.Plus a h = one_fits a _ _ (append-nil (sharing a)) refl h
unary_fits u.Minus a h = one_fits a _ _ (append-nil (sharing a)) refl h
unary_fits u.Invert a h = one_fits a _ _ (append-nil (sharing a)) refl h
unary_fits u.Not a h = apart_fits _ _ refl (cut_short 1)
unary_fits u.And a h = apart_fits _ _ refl (cut_short 1)
unary_fits u.Nand a h = apart_fits _ _ refl (cut_short 1)
unary_fits u.Or a h = apart_fits _ _ refl (cut_short 1)
unary_fits u.Nor a h = apart_fits _ _ refl (cut_short 1)
unary_fits u.Xor a h = apart_fits _ _ refl (cut_short 1)
unary_fits u.Xnor a h = apart_fits _ _ refl (cut_short 1)

binary_fits : (op : BinaryOperator) (a d : Sizing) → Fits a → Fits d → Fits (binary_node op a d)
binary_fits b.Add a d h g = two_fits a d _ _ refl refl h g
binary_fits b.Subtract a d h g = two_fits a d _ _ refl refl h g
binary_fits b.Multiply a d h g = two_fits a d _ _ refl refl h g
binary_fits b.Divide a d h g = two_fits a d _ _ refl refl h g
binary_fits b.Remainder a d h g = two_fits a d _ _ refl refl h g
binary_fits b.And a d h g = two_fits a d _ _ refl refl h g
binary_fits b.Or a d h g = two_fits a d _ _ refl refl h g
binary_fits b.Xor a d h g = two_fits a d _ _ refl refl h g
binary_fits b.Xnor a d h g = two_fits a d _ _ refl refl h g
binary_fits b.Power a d h g = one_fits a _ _ refl refl h
binary_fits b.ShiftLeft a d h g = one_fits a _ _ refl refl h
binary_fits b.ShiftRight a d h g = one_fits a _ _ refl refl h
binary_fits b.ShiftLeftSigned a d h g = one_fits a _ _ refl refl h
binary_fits b.ShiftRightSigned a d h g = one_fits a _ _ refl refl h
binary_fits b.Less a d h g = apart_fits _ _ refl (cut_short 1)
binary_fits b.LessEqual a d h g = apart_fits _ _ refl (cut_short 1)
binary_fits b.Greater a d h g = apart_fits _ _ refl (cut_short 1)
binary_fits b.GreaterEqual a d h g = apart_fits _ _ refl (cut_short 1)
binary_fits b.Equal a d h g = apart_fits _ _ refl (cut_short 1)
binary_fits b.NotEqual a d h g = apart_fits _ _ refl (cut_short 1)
binary_fits b.LogicAnd a d h g = apart_fits _ _ refl (cut_short 1)
binary_fits b.LogicOr a d h g = apart_fits _ _ refl (cut_short 1)

system_fits : (op : SystemFunction) (a : Sizing) → Fits (system_node op a)
system_fits f.Signed a = apart_fits _ _ refl (cut_short (length_of a))
system_fits f.Unsigned a = apart_fits _ _ refl (cut_short (length_of a))
system_fits f.CeilingLog a = apart_fits _ _ refl (cut_short 32)

name_fits : (e : Option SizeEntry) → Fits (name_node e)
name_fits None = apart_fits _ _ refl (cut_short 1)
name_fits (Some e) = apart_fits _ _ refl (cut_short e.length)

call_fits : (e : Option SizeEntry) (ps : List Sizing) → Fits (call_node e ps)
call_fits None ps = apart_fits _ _ refl (cut_short 1)
call_fits (Some e) ps = apart_fits _ _ refl (cut_short e.length)

select_fits : (e : Option SizeEntry) (w : ℕ) (bad : Bool) (ps : List Sizing) → Fits (select_node e w bad ps)
select_fits None w bad ps = apart_fits _ _ refl (cut_short w)
select_fits (Some e) w bad ps = apart_fits _ _ refl (cut_short w)

pick_fits : (look : Look) (e : Option SizeEntry) (p : Pick) (cs : List Const) → Fits (own_pick look e p cs).0
pick_fits look e (index a) cs = select_fits e _ _ _
pick_fits look e (range h l) cs = select_fits e _ _ _
pick_fits look e (up a w) cs = select_fits e _ _ _
pick_fits look e (down a w) cs = select_fits e _ _ _

picks_fit : (look : Look) (e : Option SizeEntry) (ps : Picks) (cs : List Const) → Fits (own_picks look e ps cs).0
picks_fit look e whole cs = name_fits e
picks_fit look e (pick p ps) cs = pick_fits look e p cs

pub own_fits : (look : Look) (t : Term) (cs : List Const) → Fits (own look t cs).0
own_fits look (number text) cs = apart_fits _ _ refl (cut_short (number_size text).length)
own_fits look (name x ps) cs = picks_fit look (look x) ps cs
own_fits look (call x ts) cs = call_fits (look x) (owns look ts (inputs_of (look x)) cs).0
own_fits look (system op a) cs = system_fits op (own look a cs).0
own_fits look (concat ts) cs = apart_fits _ _ refl (cut_short (total (owns look ts [] cs).0))
own_fits look (repeat c ts) cs = apart_fits _ _ refl (cut_short (times (next_value cs) (total (owns look ts [] (behind_next cs)).0)))
own_fits look (group a) cs = one_fits (own look a cs).0 _ _ (append-nil (sharing (own look a cs).0)) refl (own_fits look a cs)
own_fits look (unary op a) cs = unary_fits op (own look a cs).0 (own_fits look a cs)
own_fits look (binary op a d) cs = binary_fits op (own look a cs).0 (own look d (own look a cs).1).0 (own_fits look a cs) (own_fits look d (own look a cs).1)
own_fits look (choice t a d) cs =
    let ds = (own look t cs).1 in
    two_fits (own look a ds).0 (own look d (own look a ds).1).0 _ _ refl refl (own_fits look a ds) (own_fits look d (own look a ds).1)

pub operands_share : (look : Look) (t : Term) (values : List Const) → IsShared (own look t values).0
operands_share look t values = (own_fits look t values).shared
