-- What an expression is refused with is the lowest of its faults.
use Rattle.std.proofs.Common.{◌≡◌, ℕ, ◌≤◌, max, Bool, true, false, not, ◌||◌, nat_eq, nat_lt, List, [], ◌∷◌, ◌++◌, refl, sym, ap, ◌∙◌, Option, Some, None, arith}
use Rattle.std.proofs.lemmas.Bool.{le-ltb}
use Rattle.vl_tree.specs.declared.faults.Code.{Code}
use Rattle.vl_tree.specs.declared.faults.Code.TheVariants.{UnknownName, BadRange, WideArithmetic}
use Rattle.vl_tree.specs.Order.{lower, where_true, if_any, lowest}
use Rattle.vl_tree.proofs.OrderLaws.{lower_none, lower_assoc, lowest_append, both, code}
use Rattle.vl_size.specs.declared.constant.Const.{Const}
use Rattle.vl_size.specs.declared.operators.UnaryOperator.{UnaryOperator}
use Rattle.vl_size.specs.declared.operators.UnaryOperator.TheVariants as u
use Rattle.vl_size.specs.declared.operators.BinaryOperator.{BinaryOperator}
use Rattle.vl_size.specs.declared.operators.BinaryOperator.TheVariants as b
use Rattle.vl_size.specs.declared.operators.SystemFunction.{SystemFunction}
use Rattle.vl_size.specs.declared.operators.SystemFunction.TheVariants as f
use Rattle.vl_size.specs.declared.table.SizeEntry.{SizeEntry}
use Rattle.vl_size.specs.declared.table.NameKind.TheVariants as kind
use Rattle.vl_size.specs.declared.tree.Size.{Size}
use Rattle.vl_size.specs.declared.tree.Node.{Node}
use Rattle.vl_size.specs.declared.tree.Operands.{Operands}
use Rattle.vl_size.specs.declared.tree.Operands.TheVariants.{Apart, FirstApart}
use Rattle.vl_size.specs.declared.tree.Narrow.{Narrow}
use Rattle.vl_size.specs.declared.tree.Narrow.TheVariants as narrow
use Rattle.vl_size.specs.declared.tree.Sizing.{Sizing, Sizing-F}
use Rattle.vl_size.specs.declared.tree.Sizing.TheViews.{out-roll-Sizing}
use Rattle.vl_size.specs.Constants.{next_value, next_number, behind_next}
use Rattle.vl_size.specs.Texts.{number_size}
use Rattle.vl_size.specs.Placed.{placing, is_bad_whole, widened}
use Rattle.vl_size.specs.Terms.{Term, Terms, Pick, Picks, number, name, call, system, concat, repeat, group, unary, binary, choice, index, range, up, down, whole, pick}
use Rattle.vl_size.specs.Terms as term
use Rattle.vl_size.specs.Tables.{Look}
use Rattle.vl_size.specs.Sizings.{sizing_of, node_of, length_of, faults_of, faults_after, is_some_empty}
use Rattle.vl_size.specs.Nodes.{bit, sizes, node_made, made, applied, one, two, unary_node, binary_node, joined, system_node, group_node, concat_node, repeat_node, name_node, call_node, select_node, own_size, joint_size, is_kind, is_bare, total, times, is_bad_count, width_of, is_bad_width, range_width, is_bad_range}
use Rattle.vl_size.specs.Owns.{own, own_picks, own_pick, owns, inputs_of, first_input, other_inputs, at_least}
use Rattle.vl_size.specs.Faults.{one_where, concat_codes, repeat_codes, long_codes, empty_codes, name_codes, call_codes, select_codes, faults, faults_picks, faults_pick, faults_each, FaultsAreLowest, WholeFaultsAreLowest}
use Rattle.vl_size.proofs.SharingLaws.{Fits, own_fits}

node_fault : (n : Node) (ps : List Sizing) → (node_of (sizing_of n ps)).fault ≡ n.fault
node_fault n ps = ap (λ (s : Sizing-F Sizing). s.node.fault) (out-roll-Sizing (record { node = n; parts = ps }))

-- an expression of parts, with faults of its own
made_fault : (x : Size) (how : Operands) (narrow : Narrow) (constant : Bool) (fault : Option Code) (ps : List Sizing) (cs ds : List Code)
    → faults_of ps ≡ lowest cs → fault ≡ lowest ds → (node_of (made x how narrow constant fault ps)).fault ≡ lowest (cs ++ (ds ++ long_codes x.length))
made_fault x how narrow constant fault ps cs ds e g =
    node_fault (node_made x how narrow constant fault ps) ps ∙ both cs (ds ++ long_codes x.length) _ _ e (both ds (long_codes x.length) _ _ g (code (where_true (nat_lt 65536 x.length) BadRange)))

-- an operator, which is no longer than its operands
applied_fault : (x : Size) (how : Operands) (narrow : Narrow) (ps : List Sizing) (cs : List Code)
    → x.length ≤ 65536 → faults_of ps ≡ lowest cs → (node_of (applied x how narrow ps)).fault ≡ lowest (cs ++ empty_codes ps)
applied_fault x how narrow ps cs short e =
    node_fault _ ps
    ∙ ap (λ t. lower (faults_of ps) (lower (where_true (is_some_empty ps) BadRange) (where_true t BadRange))) (le-ltb 65536 x.length short)
    ∙ ap (lower (faults_of ps)) (lower_none (where_true (is_some_empty ps) BadRange))
    ∙ both cs (empty_codes ps) _ _ e (code (where_true (is_some_empty ps) BadRange))

joined_fault : (op : BinaryOperator) (left joint : Size) (ps : List Sizing) (cs : List Code)
    → left.length ≤ 65536 → joint.length ≤ 65536 → faults_of ps ≡ lowest cs → (node_of (joined op left joint ps)).fault ≡ lowest (cs ++ empty_codes ps)
joined_fault b.Add left joint ps cs l j e = applied_fault joint _ _ ps cs j e
joined_fault b.Subtract left joint ps cs l j e = applied_fault joint _ _ ps cs j e
joined_fault b.Multiply left joint ps cs l j e = applied_fault joint _ _ ps cs j e
joined_fault b.Divide left joint ps cs l j e = applied_fault joint _ _ ps cs j e
joined_fault b.Remainder left joint ps cs l j e = applied_fault joint _ _ ps cs j e
joined_fault b.And left joint ps cs l j e = applied_fault joint _ _ ps cs j e
joined_fault b.Or left joint ps cs l j e = applied_fault joint _ _ ps cs j e
joined_fault b.Xor left joint ps cs l j e = applied_fault joint _ _ ps cs j e
joined_fault b.Xnor left joint ps cs l j e = applied_fault joint _ _ ps cs j e
joined_fault b.Power left joint ps cs l j e = applied_fault left _ _ ps cs l e
joined_fault b.ShiftLeft left joint ps cs l j e = applied_fault left _ _ ps cs l e
joined_fault b.ShiftRight left joint ps cs l j e = applied_fault left _ _ ps cs l e
joined_fault b.ShiftLeftSigned left joint ps cs l j e = applied_fault left _ _ ps cs l e
joined_fault b.ShiftRightSigned left joint ps cs l j e = applied_fault left _ _ ps cs l e
joined_fault b.Less left joint ps cs l j e = applied_fault bit _ _ ps cs (omega arith) e
joined_fault b.LessEqual left joint ps cs l j e = applied_fault bit _ _ ps cs (omega arith) e
joined_fault b.Greater left joint ps cs l j e = applied_fault bit _ _ ps cs (omega arith) e
joined_fault b.GreaterEqual left joint ps cs l j e = applied_fault bit _ _ ps cs (omega arith) e
joined_fault b.Equal left joint ps cs l j e = applied_fault bit _ _ ps cs (omega arith) e
joined_fault b.NotEqual left joint ps cs l j e = applied_fault bit _ _ ps cs (omega arith) e
joined_fault b.LogicAnd left joint ps cs l j e = applied_fault bit _ _ ps cs (omega arith) e
joined_fault b.LogicOr left joint ps cs l j e = applied_fault bit _ _ ps cs (omega arith) e

unary_fault : (op : UnaryOperator) (a : Sizing) (cs : List Code) → length_of a ≤ 65536 → (node_of a).fault ≡ lowest cs → (node_of (unary_node op a)).fault ≡ lowest (cs ++ empty_codes (one a))
unary_fault u.Plus a cs l e = applied_fault (own_size a) _ _ (one a) cs l e
unary_fault u.Minus a cs l e = applied_fault (own_size a) _ _ (one a) cs l e
unary_fault u.Invert a cs l e = applied_fault (own_size a) _ _ (one a) cs l e
unary_fault u.Not a cs l e = applied_fault bit _ _ (one a) cs (omega arith) e
unary_fault u.And a cs l e = applied_fault bit _ _ (one a) cs (omega arith) e
unary_fault u.Nand a cs l e = applied_fault bit _ _ (one a) cs (omega arith) e
unary_fault u.Or a cs l e = applied_fault bit _ _ (one a) cs (omega arith) e
unary_fault u.Nor a cs l e = applied_fault bit _ _ (one a) cs (omega arith) e
unary_fault u.Xor a cs l e = applied_fault bit _ _ (one a) cs (omega arith) e
unary_fault u.Xnor a cs l e = applied_fault bit _ _ (one a) cs (omega arith) e

system_fault : (op : SystemFunction) (a : Sizing) (cs : List Code) → length_of a ≤ 65536 → (node_of a).fault ≡ lowest cs → (node_of (system_node op a)).fault ≡ lowest (cs ++ empty_codes (one a))
system_fault f.Signed a cs l e = applied_fault (sizes (length_of a) true) Apart narrow.Nothing (one a) cs l e
system_fault f.Unsigned a cs l e = applied_fault (sizes (length_of a) false) Apart narrow.Nothing (one a) cs l e
system_fault f.CeilingLog a cs l e = applied_fault (sizes 32 true) Apart narrow.Nothing (one a) cs (omega arith) e

group_fault : (a : Sizing) (cs : List Code) → length_of a ≤ 65536 → (node_of a).fault ≡ lowest cs → (node_of (group_node a)).fault ≡ lowest cs
group_fault a cs l e =
    node_fault _ (one a) ∙ ap (λ t. lower (node_of a).fault (where_true t BadRange)) (le-ltb 65536 (length_of a) l) ∙ lower_none (node_of a).fault ∙ e

-- the lower of two codes, where there are any
two_codes : (s t : Bool) (c d : Code) → lower (where_true s c) (where_true t d) ≡ lowest (one_where s c ++ one_where t d)
two_codes s t c d = both (one_where s c) (one_where t d) (where_true s c) (where_true t d) (code (where_true s c)) (code (where_true t d))

name_fault : (e : Option SizeEntry) → (node_of (name_node e)).fault ≡ lowest (name_codes e)
name_fault None = node_fault _ []
name_fault (Some e) = node_fault _ [] ∙ two_codes (is_kind e.kind kind.Function) (nat_lt 65536 e.length) UnknownName BadRange

call_fault : (e : Option SizeEntry) (ps : List Sizing) (cs : List Code) → faults_of ps ≡ lowest cs → (node_of (call_node e ps)).fault ≡ lowest (cs ++ call_codes e ps)
call_fault None ps cs h = node_fault _ ps ∙ both cs (UnknownName ∷ []) _ _ h refl
call_fault (Some e) ps cs h =
    let other = not (is_kind e.kind kind.Function) in
    made_fault (sizes e.length e.signed) Apart narrow.Nothing false (lower (where_true other UnknownName) (where_true (is_some_empty ps) BadRange)) ps cs
    (one_where other UnknownName ++ empty_codes ps) h (two_codes other (is_some_empty ps) UnknownName BadRange)

select_fault : (e : Option SizeEntry) (w : ℕ) (bad : Bool) (ps : List Sizing) (cs : List Code) → faults_of ps ≡ lowest cs → (node_of (select_node e w bad ps)).fault ≡ lowest (cs ++ select_codes e w bad ps)
select_fault None w bad ps cs h = made_fault (sizes w false) Apart narrow.VariableIndex true (Some UnknownName) ps cs (UnknownName ∷ []) h refl
select_fault (Some e) w bad ps cs h =
    let called = is_kind e.kind kind.Function in
    let wrong = is_bare e || (bad || is_some_empty ps) in
    made_fault (sizes w false) Apart narrow.VariableIndex (is_kind e.kind kind.Constant) (lower (where_true called UnknownName) (where_true wrong BadRange)) ps cs
    (one_where called UnknownName ++ one_where wrong BadRange) h (two_codes called wrong UnknownName BadRange)

concat_fault : (ps : List Sizing) (cs : List Code) → faults_of ps ≡ lowest cs → (node_of (concat_node ps)).fault ≡ lowest (cs ++ concat_codes ps)
concat_fault ps cs h =
    let none = where_true (nat_eq (total ps) 0) BadRange in
    made_fault (sizes (total ps) false) Apart narrow.Nothing true none ps cs (if_any none) h (code none)

repeat_fault : (values : List Const) (ps : List Sizing) (cs : List Code) → faults_of ps ≡ lowest cs → (node_of (repeat_node (next_value values) ps)).fault ≡ lowest (cs ++ repeat_codes values ps)
repeat_fault values ps cs h =
    let bad = is_bad_count (next_value values) || nat_eq (total ps) 0 in
    let long = nat_lt 65536 (times (next_value values) (total ps)) in
    node_fault _ ps ∙ both cs (one_where bad BadRange ++ one_where long BadRange) (faults_of ps) (lower (where_true bad BadRange) (where_true long BadRange)) h (two_codes bad long BadRange BadRange)

mutual
  own_fault : (look : Look) (t : Term) (cs : List Const) → (node_of (own look t cs).0).fault ≡ lowest (faults look t cs)
  own_fault look (number text) cs = node_fault _ [] ∙ code (where_true (nat_lt 65536 (number_size text).length) BadRange)
  own_fault look (name x ps) cs = picks_fault look (look x) ps cs
  own_fault look (call x ts) cs = call_fault (look x) (owns look ts (inputs_of (look x)) cs).0 (faults_each look ts cs) (each_fault look ts (inputs_of (look x)) cs None)
  own_fault look (system op a) cs = system_fault op (own look a cs).0 (faults look a cs) (own_fits look a cs).short (own_fault look a cs)
  own_fault look (concat ts) cs = concat_fault (owns look ts [] cs).0 (faults_each look ts cs) (each_fault look ts [] cs None)
  own_fault look (repeat c ts) cs = repeat_fault cs (owns look ts [] (behind_next cs)).0 (faults_each look ts (behind_next cs)) (each_fault look ts [] (behind_next cs) None)
  own_fault look (group a) cs = group_fault (own look a cs).0 (faults look a cs) (own_fits look a cs).short (own_fault look a cs)
  own_fault look (unary op a) cs = unary_fault op (own look a cs).0 (faults look a cs) (own_fits look a cs).short (own_fault look a cs)
  own_fault look (binary op a d) cs =
      let ds = (own look a cs).1 in
      let x = (own_fits look a cs).short in
      let y = (own_fits look d ds).short in
      joined_fault op (own_size (own look a cs).0) (joint_size (own look a cs).0 (own look d ds).0) (two (own look a cs).0 (own look d ds).0) (faults look a cs ++ faults look d ds) x (omega (arith, x, y))
      (both (faults look a cs) (faults look d ds) _ _ (own_fault look a cs) (own_fault look d ds))
  own_fault look (choice t a d) cs =
      let ds = (own look t cs).1 in
      let es = (own look a ds).1 in
      let x = (own_fits look a ds).short in
      let y = (own_fits look d es).short in
      applied_fault (joint_size (own look a ds).0 (own look d es).0) FirstApart narrow.Nothing ((own look t cs).0 ∷ two (own look a ds).0 (own look d es).0) ((faults look t cs ++ faults look a ds) ++ faults look d es) (omega (arith, x, y))
      (both (faults look t cs ++ faults look a ds) (faults look d es) _ _ (both (faults look t cs) (faults look a ds) _ _ (own_fault look t cs) (own_fault look a ds)) (own_fault look d es))

  picks_fault : (look : Look) (e : Option SizeEntry) (ps : Picks) (cs : List Const) → (node_of (own_picks look e ps cs).0).fault ≡ lowest (faults_picks look e ps cs)
  picks_fault look e whole cs = name_fault e
  picks_fault look e (pick p ps) cs = pick_fault look e p cs

  pick_fault : (look : Look) (e : Option SizeEntry) (p : Pick) (cs : List Const) → (node_of (own_pick look e p cs).0).fault ≡ lowest (faults_pick look e p cs)
  pick_fault look e (index a) cs = select_fault e 1 false (one (own look a cs).0) (faults look a cs) (own_fault look a cs)
  pick_fault look e (range h l) cs = select_fault e (range_width (next_number cs) (next_number (behind_next cs))) (is_bad_range e (next_number cs) (next_number (behind_next cs))) [] [] refl
  pick_fault look e (up a w) cs = select_fault e (width_of (next_value (own look a cs).1)) (is_bad_width (next_value (own look a cs).1)) (one (own look a cs).0) (faults look a cs) (own_fault look a cs)
  pick_fault look e (down a w) cs = select_fault e (width_of (next_value (own look a cs).1)) (is_bad_width (next_value (own look a cs).1)) (one (own look a cs).0) (faults look a cs) (own_fault look a cs)

  each_fault : (look : Look) (ts : Terms) (is : List ℕ) (cs : List Const) (o : Option Code) → faults_after o (owns look ts is cs).0 ≡ lower o (lowest (faults_each look ts cs))
  each_fault look term.none is cs o = sym (lower_none o)
  each_fault look (term.more t ts) is cs o =
      let s = (own look t cs).0 in
      let ds = (own look t cs).1 in
      let rest = lowest (faults_each look ts ds) in
      ap (λ c. faults_after (lower o c) (owns look ts (other_inputs is) ds).0) (node_fault _ _ ∙ own_fault look t cs)
      ∙ each_fault look ts (other_inputs is) ds (lower o (lowest (faults look t cs)))
      ∙ lower_assoc o (lowest (faults look t cs)) rest ∙ ap (lower o) (sym (lowest_append (faults look t cs) (faults_each look ts ds)))

pub faults_are_lowest : FaultsAreLowest
faults_are_lowest look t cs = own_fault look t cs

pub whole_faults_are_lowest : WholeFaultsAreLowest
whole_faults_are_lowest look t cs n =
    let s = (own look t cs).0 in
    let wide = (placing s).wide (widened n s) in
    both (faults look t cs) (one_where (is_bad_whole n s) BadRange ++ one_where wide WideArithmetic) (node_of s).fault
    (lower (where_true (is_bad_whole n s) BadRange) (where_true wide WideArithmetic)) (own_fault look t cs) (two_codes (is_bad_whole n s) wide BadRange WideArithmetic)
