-- An expression without a fault is formed, kind by kind.
use Rattle.std.proofs.Common.{◌≡◌, ℕ, ◌+◌, ◌++◌, ◌≤◌, Bool, true, false, ◌&&◌, ◌||◌, not, ℤ, List, [], ◌∷◌, length, map, refl, sym, ap, ◌∙◌, Option, Some, None, arith, subst}
use Rattle.std.specs.Prelude.{nat_lt, nat_le, nat_eq, ◌==◌, if◌then◌else◌}
use Rattle.std.specs.List.{list_all}
use Rattle.std.proofs.lemmas.Bool.Decides.{nat_tests}
use Rattle.design_core.proofs.BoolLaws.{true_both, both_true, or_false}
use Rattle.design_core.specs.declared.operators.Unary.{Unary}
use Rattle.design_core.specs.declared.operators.Unary.TheVariants as unary_op
use Rattle.design_core.specs.declared.operators.Binary.{Binary}
use Rattle.design_core.specs.declared.operators.Binary.TheVariants as binary_op
use Rattle.design_core.specs.declared.tree.DExpr.{DExpr}
use Rattle.design_core.specs.declared.tree.DNode.TheVariants as node
use Rattle.design_core.specs.Formed.{unary_fits, binary_fits, is_narrow}
use Rattle.vl_size.specs.declared.constant.Const.{Const}
use Rattle.vl_size.specs.declared.operators.UnaryOperator.{UnaryOperator}
use Rattle.vl_size.specs.declared.operators.UnaryOperator.TheVariants as u
use Rattle.vl_size.specs.declared.operators.SystemFunction.{SystemFunction}
use Rattle.vl_size.specs.declared.operators.SystemFunction.TheVariants as sys
use Rattle.vl_size.specs.declared.operators.BinaryOperator.{BinaryOperator}
use Rattle.vl_size.specs.declared.operators.BinaryOperator.TheVariants as b
use Rattle.vl_size.specs.declared.tree.Size.{Size}
use Rattle.vl_size.specs.declared.tree.Operands.{Operands}
use Rattle.vl_size.specs.declared.tree.Operands.TheVariants.{Apart, Shared, Compared, FirstShared, FirstApart}
use Rattle.vl_size.specs.declared.tree.Narrow.{Narrow}
use Rattle.vl_size.specs.declared.tree.Narrow.TheVariants as narrow
use Rattle.vl_size.specs.declared.tree.Sizing.{Sizing, Sizing-F}
use Rattle.vl_size.specs.Nodes.{total, times, call_node, sum_of, is_bad_count, is_no_copy, constant_where, is_kind, is_bare, name_node, select_node, choice_node, sizes, made, applied, unary_node, group_node, system_node, node_made, one, two, own_size, joint_size, binary_node}
use Rattle.vl_size.specs.Nodes.{bit as size_bit}
use Rattle.vl_size.specs.Owns.{Found, own, owns, own_picks, own_pick, inputs_of, at_least}
use Rattle.vl_size.specs.Constants.{next_value, behind_next}
use Rattle.vl_size.specs.Placed.{alone, context, is_wide}
use Rattle.vl_tree.specs.Order.{lower, where_true}
use Rattle.vl_size.specs.Sizings.{node_of, parts_of, length_of, common, is_some_empty}
use Rattle.vl_size.specs.Terms.{Term, Terms, Pick, Picks, index, range, up, down, whole, pick, number, name, call, system, concat, repeat, group, unary, binary, choice}
use Rattle.vl_size.specs.Terms as term
use Rattle.vl_elab_trees.specs.declared.places.Index.{Index}
use Rattle.vl_elab_trees.specs.declared.places.Index.TheVariants.{Fixed}
use Rattle.vl_const.specs.declared.places.Way.{Way}
use Rattle.vl_const.specs.declared.places.Way.TheVariants.{At}
use Rattle.vl_size.specs.declared.table.SizeEntry.{SizeEntry}
use Rattle.vl_size.specs.declared.table.NameKind.TheVariants as kind
use Rattle.vl_elab_trees.specs.declared.nodes.Form.{Form}
use Rattle.vl_elab_trees.specs.declared.nodes.Form.TheVariants as form
use Rattle.vl_elab_trees.specs.Nodes.{at, apart, brought, bit, constant, operated, kept, copies, repeated}
use Rattle.vl_elab_trees.specs.Built.{built, builts, by_index, fixed_in, selected, selected_in, whole_name}
use Rattle.vl_const.specs.Places.{aim_of}
use Rattle.vl_elab_trees.specs.Formed.{Fits, IsSound}
use Rattle.vl_elab_trees.specs.Calls.{takes, count_of, calls_fit, all_calls_fit, picks_fit, pick_fits}
use Rattle.vl_elab_trees.specs.Scopes.{Meaning, valued}
use Rattle.vl_elab_trees.proofs.KnownLaws.{constant_sound as repeated_sound, known, lone, own_size_is, where_none, lower_none, not_empty, operator, Part, sound, one_part, two_parts, three_parts, out_of, IsSmall, alone_length, by_itself}
use Rattle.vl_elab_trees.proofs.ArgumentLaws.{IsArguments, one_argument, argument_sound, below_most, least_alike}
use Rattle.vl_elab_trees.proofs.ListLaws.{Each, each, as_it_is, total_same, times_same, times_most}
use Rattle.vl_elab_trees.proofs.MadeLaws.{Good, IsParts, no_parts, kept_parts, concat_formed, repeat_formed, IsIndex, selected_formed, equal, constant_good, brought_good, unary_good, binary_good, choice_good}
use Rattle.vl_elab_trees.proofs.RestLaws.{built_rest, valued_long}
use Rattle.vl_elab_trees.proofs.SmallLaws.{own_small}
use Rattle.vl_const.specs.Streams.{first_node, own_context, inside, behind, part_context}
use Rattle.vl_tree.specs.declared.faults.Code.{Code}
use Rattle.vl_tree.specs.declared.faults.Code.TheVariants.{BadRange, UnknownName}

-- an expression that is built well in each context where nothing is wrong with it
abbrev pub IsBuilt : List ℕ → List ℕ → Sizing → (Size → DExpr) → Type 0
IsBuilt vs ls s e = (x : Size) → IsSound s x → Good vs ls x (e x)

narrow_is : (n : ℕ) → nat_lt 128 n ≡ false → is_narrow n ≡ true
narrow_is n e = grind (arith, nat_tests, e)

pub no_name : {A : Type 0} {c : Code} → Some c ≡ None → A
no_name e = cc

module _ (vs ls : List ℕ) (a c : Sizing) (x : Size) (e g : Size → DExpr) (p : IsBuilt vs ls a e) (q : IsBuilt vs ls c g) (small : IsSmall a) (little : IsSmall c) where
  -- an operator on two operands in their contexts, which are formed
  fitted : (y : Size) (op : Binary) (u v : Size) → Good vs ls u (e u) → Good vs ls v (g v) → binary_fits op y.length u.length v.length ≡ true → 1 ≤ y.length → y.length ≤ 65536
      → Good vs ls y (at y (node.Binary op (e u) (g v)))
  fitted y op u v i j fits l k =
      binary_good vs ls y op (e u) (g v) i.formed j.formed
      (ap (λ n. binary_fits op y.length n (g v).length) i.length ∙ ap (binary_fits op y.length u.length) j.length ∙ fits) l k

  -- two operands that share the context of an operator
  shared : (narrow : Narrow) (op : Binary) → IsSound (applied (joint_size a c) Shared narrow (two a c)) x
      → (is_wide narrow x (node_of a ∷ (node_of c ∷ [])) ≡ false → binary_fits op x.length x.length x.length ≡ true) → Good vs ls x (at x (node.Binary op (e x) (g x)))
  shared narrow op h fits =
      let k = operator (joint_size a c) Shared narrow (two a c) x h in
      let parts = two_parts (joint_size a c) Shared narrow x a c k in
      fitted x op x x (p x (sound a x parts.first (omega (arith, k.within)) k.most)) (q x (sound c x parts.second (omega (arith, k.within)) k.most))
      (fits parts.not_wide) (omega (arith, k.some, k.within)) k.most

  -- an operator of one bit
  one_bit : (op : Binary) (u v : Size) → Good vs ls u (e u) → Good vs ls v (g v) → binary_fits op 1 u.length v.length ≡ true → 1 ≤ x.length → x.length ≤ 65536
      → Good vs ls x (apart bit x (node.Binary op (e u) (g v)))
  one_bit op u v i j fits l k = brought_good vs ls x (at bit (node.Binary op (e u) (g v))) (fitted bit op u v i j fits (omega arith) (omega arith)).formed l l k

  abbrev joint : Size
  joint = common (node_of a ∷ (node_of c ∷ []))

  compared : (narrow : Narrow) (op : Binary) → IsSound (applied size_bit Compared narrow (two a c)) x
      → (is_wide narrow x (node_of a ∷ (node_of c ∷ [])) ≡ false → binary_fits op 1 joint.length joint.length ≡ true) → Good vs ls x (apart bit x (node.Binary op (e joint) (g joint)))
  compared narrow op h fits =
      let k = operator size_bit Compared narrow (two a c) x h in
      let parts = two_parts size_bit Compared narrow x a c k in
      let most : joint.length ≤ 65536 = omega (arith, small.short, little.short) in
      one_bit op joint joint (p joint (sound a joint parts.first (omega arith) most)) (q joint (sound c joint parts.second (omega arith) most))
      (fits parts.not_wide) k.within k.most

  by_themselves : (op : Binary) → IsSound (applied size_bit Apart narrow.Nothing (two a c)) x → ((u v : ℕ) → binary_fits op 1 u v ≡ true)
      → Good vs ls x (apart bit x (node.Binary op (e (alone (node_of a))) (g (alone (node_of c)))))
  by_themselves op h fits =
      let k = operator size_bit Apart narrow.Nothing (two a c) x h in
      let parts = two_parts size_bit Apart narrow.Nothing x a c k in
      one_bit op (alone (node_of a)) (alone (node_of c)) (p _ (by_itself a parts.first small)) (q _ (by_itself c parts.second little)) (fits _ _) k.within k.most

  shifted : (op : Binary) → IsSound (applied (own_size a) FirstShared narrow.Second (two a c)) x → ((n : ℕ) → is_narrow n ≡ true → binary_fits op x.length x.length n ≡ true)
      → Good vs ls x (at x (node.Binary op (e x) (g (alone (node_of c)))))
  shifted op h fits =
      let k = operator (own_size a) FirstShared narrow.Second (two a c) x h in
      let parts = two_parts (own_size a) FirstShared narrow.Second x a c k in
      fitted x op x (alone (node_of c)) (p x (sound a x parts.first k.within k.most)) (q _ (by_itself c parts.second little))
      (fits _ (ap is_narrow (alone_length c little) ∙ narrow_is _ parts.not_wide)) (omega (arith, k.some, k.within)) k.most

same_true : (n : ℕ) → (n == n) ≡ true
same_true n = equal n n refl

arithmetic : (n : ℕ) → nat_lt 128 n ≡ false → ((n == n) && (n == n) && is_narrow n) ≡ true
arithmetic n e = true_both _ _ (true_both _ _ (same_true n) (same_true n)) (narrow_is n e)

bitwise : (n : ℕ) → ((n == n) && (n == n)) ≡ true
bitwise n = true_both _ _ (same_true n) (same_true n)

bitwise_bit : (n : ℕ) → ((1 == 1) && (n == n)) ≡ true
bitwise_bit n = same_true n

ordered : (n : ℕ) → nat_lt 128 n ≡ false → ((1 == 1) && (n == n) && is_narrow n) ≡ true
ordered n e = true_both _ _ (same_true n) (narrow_is n e)

moved : (k n : ℕ) → is_narrow n ≡ true → ((k == k) && is_narrow n) ≡ true
moved k n e = true_both _ _ (same_true k) e

module _ (vs ls : List ℕ) (m : Meaning) (h : Fits vs ls m) where
  -- what is built of an operator and two operands, by the form of the operator
  module _ (a c : Term) (cs : List Const) where
    abbrev left_sizing : Sizing
    left_sizing = (own m.known.look a cs).0

    abbrev right_sizing : Sizing
    right_sizing = (own m.known.look c (own m.known.look a cs).1).0

    abbrev left_built : Size → DExpr
    left_built y = (built m a (two left_sizing right_sizing) y cs).0

    abbrev right_built : Size → DExpr
    right_built y = (built m c (one right_sizing) y (own m.known.look a cs).1).0

    abbrev both : Form → Sizing → List Sizing → Size → DExpr
    both f s ss x = operated f x (built m a (inside (s ∷ ss)) (part_context (s ∷ ss) x true (inside (s ∷ ss))) cs).0
        (built m c (behind (inside (s ∷ ss))) (part_context (s ∷ ss) x false (behind (inside (s ∷ ss)))) (built m a (inside (s ∷ ss)) (part_context (s ∷ ss) x true (inside (s ∷ ss))) cs).1).0

    both_is : (f : Form) (z : Size) (how : Operands) (narrow : Narrow) (ss : List Sizing) (x : Size)
        → both f (applied z how narrow (two left_sizing right_sizing)) ss x
        ≡ operated f x (left_built (context how (common (node_of left_sizing ∷ (node_of right_sizing ∷ []))) x true (node_of left_sizing)))
        (right_built (context how (common (node_of left_sizing ∷ (node_of right_sizing ∷ []))) x false (node_of right_sizing)))
    both_is f z how narrow ss x =
        let ps = two left_sizing right_sizing in
        ap (λ (y : Sizing-F Sizing). operated f x (built m a y.parts (context y.node.operands (common (map node_of y.parts)) x true (first_node y.parts)) cs).0
        (built m c (behind y.parts) (context y.node.operands (common (map node_of y.parts)) x false (first_node (behind y.parts))) (built m a y.parts (context y.node.operands (common (map node_of y.parts)) x true (first_node y.parts)) cs).1).0)
        (out_of (node_made z how narrow true (where_true (is_some_empty ps) BadRange) ps) ps)
        ∙ ap (λ ds. operated f x (left_built (context how (common (map node_of ps)) x true (node_of left_sizing))) (built m c (one right_sizing) (context how (common (map node_of ps)) x false (node_of right_sizing)) ds).0)
        (built_rest m a ps (context how (common (map node_of ps)) x true (node_of left_sizing)) cs)

    module _ (p : IsBuilt vs ls left_sizing left_built) (q : IsBuilt vs ls right_sizing right_built) (ss : List Sizing) (x : Size) where
      small : IsSmall left_sizing
      small = own_small m.known.look a cs

      little : IsSmall right_sizing
      little = own_small m.known.look c (own m.known.look a cs).1

      moved_good : (e g : DExpr) → e ≡ g → Good vs ls x g → Good vs ls x e
      moved_good e g s k = subst (Good vs ls x) (sym s) k

      folded : (t : Term) (s : Sizing) → IsSound s x → (v : List Bool) → length v ≡ x.length → Good vs ls x (constant x v)
      folded t s k v e = constant_good vs ls x v e (omega (arith, k.some, k.within)) k.most

      binary_built : (op : BinaryOperator) → IsSound (binary_node op left_sizing right_sizing) x → Good vs ls x (built m (binary op a c) (binary_node op left_sizing right_sizing ∷ ss) x cs).0
      binary_built b.Add s = moved_good _ _ (both_is (form.Wide binary_op.Add) (joint_size left_sizing right_sizing) Shared narrow.Context ss x) (shared vs ls left_sizing right_sizing x left_built right_built p q small little narrow.Context binary_op.Add s (arithmetic x.length))
      binary_built b.Subtract s = moved_good _ _ (both_is (form.Wide binary_op.Sub) (joint_size left_sizing right_sizing) Shared narrow.Context ss x) (shared vs ls left_sizing right_sizing x left_built right_built p q small little narrow.Context binary_op.Sub s (arithmetic x.length))
      binary_built b.Multiply s = moved_good _ _ (both_is (form.Wide binary_op.Mul) (joint_size left_sizing right_sizing) Shared narrow.Context ss x) (shared vs ls left_sizing right_sizing x left_built right_built p q small little narrow.Context binary_op.Mul s (arithmetic x.length))
      binary_built b.And s = moved_good _ _ (both_is (form.Wide binary_op.And) (joint_size left_sizing right_sizing) Shared narrow.Nothing ss x) (shared vs ls left_sizing right_sizing x left_built right_built p q small little narrow.Nothing binary_op.And s (λ t. bitwise x.length))
      binary_built b.Or s = moved_good _ _ (both_is (form.Wide binary_op.Or) (joint_size left_sizing right_sizing) Shared narrow.Nothing ss x) (shared vs ls left_sizing right_sizing x left_built right_built p q small little narrow.Nothing binary_op.Or s (λ t. bitwise x.length))
      binary_built b.Xor s = moved_good _ _ (both_is (form.Wide binary_op.Xor) (joint_size left_sizing right_sizing) Shared narrow.Nothing ss x) (shared vs ls left_sizing right_sizing x left_built right_built p q small little narrow.Nothing binary_op.Xor s (λ t. bitwise x.length))
      binary_built b.Xnor s = moved_good _ _ (both_is (form.Wide binary_op.Xnor) (joint_size left_sizing right_sizing) Shared narrow.Nothing ss x) (shared vs ls left_sizing right_sizing x left_built right_built p q small little narrow.Nothing binary_op.Xnor s (λ t. bitwise x.length))
      binary_built b.Less s = moved_good _ _ (both_is (form.Bit binary_op.Less) (size_bit) Compared narrow.Operands ss x) (compared vs ls left_sizing right_sizing x left_built right_built p q small little narrow.Operands binary_op.Less s (ordered _))
      binary_built b.LessEqual s = moved_good _ _ (both_is (form.Bit binary_op.LessEqual) (size_bit) Compared narrow.Operands ss x) (compared vs ls left_sizing right_sizing x left_built right_built p q small little narrow.Operands binary_op.LessEqual s (ordered _))
      binary_built b.Greater s = moved_good _ _ (both_is (form.Bit binary_op.Greater) (size_bit) Compared narrow.Operands ss x) (compared vs ls left_sizing right_sizing x left_built right_built p q small little narrow.Operands binary_op.Greater s (ordered _))
      binary_built b.GreaterEqual s = moved_good _ _ (both_is (form.Bit binary_op.GreaterEqual) (size_bit) Compared narrow.Operands ss x) (compared vs ls left_sizing right_sizing x left_built right_built p q small little narrow.Operands binary_op.GreaterEqual s (ordered _))
      binary_built b.Equal s = moved_good _ _ (both_is (form.Bit binary_op.Equal) (size_bit) Compared narrow.Nothing ss x) (compared vs ls left_sizing right_sizing x left_built right_built p q small little narrow.Nothing binary_op.Equal s (λ t. bitwise_bit _))
      binary_built b.NotEqual s = moved_good _ _ (both_is (form.Bit binary_op.NotEqual) (size_bit) Compared narrow.Nothing ss x) (compared vs ls left_sizing right_sizing x left_built right_built p q small little narrow.Nothing binary_op.NotEqual s (λ t. bitwise_bit _))
      binary_built b.LogicAnd s = moved_good _ _ (both_is (form.Bit binary_op.LogicAnd) (size_bit) Apart narrow.Nothing ss x) (by_themselves vs ls left_sizing right_sizing x left_built right_built p q small little binary_op.LogicAnd s (λ u v. refl))
      binary_built b.LogicOr s = moved_good _ _ (both_is (form.Bit binary_op.LogicOr) (size_bit) Apart narrow.Nothing ss x) (by_themselves vs ls left_sizing right_sizing x left_built right_built p q small little binary_op.LogicOr s (λ u v. refl))
      binary_built b.ShiftLeft s = moved_good _ _ (both_is (form.Wide binary_op.ShiftLeft) (own_size left_sizing) FirstShared narrow.Second ss x) (shifted vs ls left_sizing right_sizing x left_built right_built p q small little binary_op.ShiftLeft s (moved x.length))
      binary_built b.ShiftRight s = moved_good _ _ (both_is (form.Wide binary_op.ShiftRight) (own_size left_sizing) FirstShared narrow.Second ss x) (shifted vs ls left_sizing right_sizing x left_built right_built p q small little binary_op.ShiftRight s (moved x.length))
      binary_built b.ShiftLeftSigned s = moved_good _ _ (both_is (form.Wide binary_op.ShiftLeft) (own_size left_sizing) FirstShared narrow.Second ss x) (shifted vs ls left_sizing right_sizing x left_built right_built p q small little binary_op.ShiftLeft s (moved x.length))
      binary_built b.ShiftRightSigned s = moved_good _ _ (both_is (form.Wide binary_op.ShiftRightSigned) (own_size left_sizing) FirstShared narrow.Second ss x) (shifted vs ls left_sizing right_sizing x left_built right_built p q small little binary_op.ShiftRightSigned s (moved x.length))
      binary_built b.Divide s = folded (binary b.Divide a c) (binary_node b.Divide left_sizing right_sizing) s (valued m (binary b.Divide a c) (binary_node b.Divide left_sizing right_sizing ∷ ss) x cs).0 (valued_long m (binary b.Divide a c) (binary_node b.Divide left_sizing right_sizing ∷ ss) x cs (omega (arith, s.some, s.within)) s.most)
      binary_built b.Remainder s = folded (binary b.Remainder a c) (binary_node b.Remainder left_sizing right_sizing) s (valued m (binary b.Remainder a c) (binary_node b.Remainder left_sizing right_sizing ∷ ss) x cs).0 (valued_long m (binary b.Remainder a c) (binary_node b.Remainder left_sizing right_sizing ∷ ss) x cs (omega (arith, s.some, s.within)) s.most)
      binary_built b.Power s = folded (binary b.Power a c) (binary_node b.Power left_sizing right_sizing) s (valued m (binary b.Power a c) (binary_node b.Power left_sizing right_sizing ∷ ss) x cs).0 (valued_long m (binary b.Power a c) (binary_node b.Power left_sizing right_sizing ∷ ss) x cs (omega (arith, s.some, s.within)) s.most)

  replaced : {x : Size} {e g : DExpr} → e ≡ g → Good vs ls x g → Good vs ls x e
  replaced s k = subst (Good vs ls _) (sym s) k

  constant_sound : (t : Term) (s : Sizing) (ss : List Sizing) (x : Size) (cs : List Const) → IsSound s x → Good vs ls x (constant x (valued m t ss x cs).0)
  constant_sound t s ss x cs k = constant_good vs ls x _ (valued_long m t ss x cs (omega (arith, k.some, k.within)) k.most) (omega (arith, k.some, k.within)) k.most

  -- what is built of one operand
  module _ (a : Term) (cs : List Const) where
    abbrev pub sizing_a : Sizing
    sizing_a = (own m.known.look a cs).0

    abbrev pub built_a : Size → DExpr
    built_a y = (built m a (one sizing_a) y cs).0

    -- inside brackets and the like, in a context that its sizing gives
    inner_is : (z : Size) (how : Operands) (narrow : Narrow) (known : Bool) (fault : Option Code) (ss : List Sizing) (outer : List Sizing → Size)
        → (built m a (inside (made z how narrow known fault (one sizing_a) ∷ ss)) (outer (inside (made z how narrow known fault (one sizing_a) ∷ ss))) cs).0 ≡ built_a (outer (one sizing_a))
    inner_is z how narrow known fault ss outer = ap (λ (y : Sizing-F Sizing). (built m a y.parts (outer y.parts) cs).0) (out_of (node_made z how narrow known fault (one sizing_a)) (one sizing_a))

    operand_is : (z : Size) (how : Operands) (narrow : Narrow) (ss : List Sizing) (x : Size)
        → (built m a (inside (applied z how narrow (one sizing_a) ∷ ss)) (part_context (applied z how narrow (one sizing_a) ∷ ss) x true (inside (applied z how narrow (one sizing_a) ∷ ss))) cs).0
        ≡ built_a (context how (common (node_of sizing_a ∷ [])) x true (node_of sizing_a))
    operand_is z how narrow ss x =
        ap (λ (y : Sizing-F Sizing). (built m a y.parts (context y.node.operands (common (map node_of y.parts)) x true (first_node y.parts)) cs).0)
        (out_of (node_made z how narrow true (where_true (is_some_empty (one sizing_a)) BadRange) (one sizing_a)) (one sizing_a))

    module _ (p : IsBuilt vs ls sizing_a built_a) (ss : List Sizing) (x : Size) where
      tiny : IsSmall sizing_a
      tiny = own_small m.known.look a cs

      wide_good : (narrow : Narrow) → IsSound (applied (own_size sizing_a) Shared narrow (one sizing_a)) x → Good vs ls x (built_a x) × (is_wide narrow x (node_of sizing_a ∷ []) ≡ false) × (1 ≤ x.length) × (x.length ≤ 65536)
      wide_good narrow s =
          let k = operator (own_size sizing_a) Shared narrow (one sizing_a) x s in
          let part = one_part (own_size sizing_a) Shared narrow x sizing_a k in
          (p x (sound sizing_a x part.1 k.within k.most), part.0, omega (arith, k.some, k.within), k.most)

      bit_good : (op : Unary) → ((n : ℕ) → unary_fits op 1 n ≡ true) → IsSound (applied size_bit Apart narrow.Nothing (one sizing_a)) x → Good vs ls x (apart bit x (node.Unary op (built_a (alone (node_of sizing_a)))))
      bit_good op fits s =
          let k = operator size_bit Apart narrow.Nothing (one sizing_a) x s in
          let part = one_part size_bit Apart narrow.Nothing x sizing_a k in
          let made = p _ (by_itself sizing_a part.1 tiny) in
          brought_good vs ls x (at bit (node.Unary op (built_a (alone (node_of sizing_a))))) (unary_good vs ls bit op _ made.formed (fits _) (omega arith) (omega arith)).formed k.within k.within k.most

      unary_built : (op : UnaryOperator) → IsSound (unary_node op sizing_a) x → Good vs ls x (built m (unary op a) (unary_node op sizing_a ∷ ss) x cs).0
      unary_built u.Plus s = replaced (operand_is (own_size sizing_a) Shared narrow.Nothing ss x) (wide_good narrow.Nothing s).0
      unary_built u.Minus s =
          let w = wide_good narrow.Context s in
          replaced (ap (λ e. at x (node.Unary unary_op.Negate e)) (operand_is (own_size sizing_a) Shared narrow.Context ss x))
          (unary_good vs ls x unary_op.Negate _ w.0.formed (true_both _ _ (equal _ _ (sym w.0.length)) (narrow_is _ w.1)) w.2 w.3)
      unary_built u.Invert s =
          let w = wide_good narrow.Nothing s in
          replaced (ap (λ e. at x (node.Unary unary_op.Invert e)) (operand_is (own_size sizing_a) Shared narrow.Nothing ss x))
          (unary_good vs ls x unary_op.Invert _ w.0.formed (equal _ _ (sym w.0.length)) w.2 w.3)
      unary_built u.Not s = replaced (ap (λ e. apart bit x (node.Unary unary_op.Not e)) (operand_is size_bit Apart narrow.Nothing ss x)) (bit_good unary_op.Not (λ n. refl) s)
      unary_built u.And s = replaced (ap (λ e. apart bit x (node.Unary unary_op.And e)) (operand_is size_bit Apart narrow.Nothing ss x)) (bit_good unary_op.And (λ n. refl) s)
      unary_built u.Nand s = replaced (ap (λ e. apart bit x (node.Unary unary_op.Nand e)) (operand_is size_bit Apart narrow.Nothing ss x)) (bit_good unary_op.Nand (λ n. refl) s)
      unary_built u.Or s = replaced (ap (λ e. apart bit x (node.Unary unary_op.Or e)) (operand_is size_bit Apart narrow.Nothing ss x)) (bit_good unary_op.Or (λ n. refl) s)
      unary_built u.Nor s = replaced (ap (λ e. apart bit x (node.Unary unary_op.Nor e)) (operand_is size_bit Apart narrow.Nothing ss x)) (bit_good unary_op.Nor (λ n. refl) s)
      unary_built u.Xor s = replaced (ap (λ e. apart bit x (node.Unary unary_op.Xor e)) (operand_is size_bit Apart narrow.Nothing ss x)) (bit_good unary_op.Xor (λ n. refl) s)
      unary_built u.Xnor s = replaced (ap (λ e. apart bit x (node.Unary unary_op.Xnor e)) (operand_is size_bit Apart narrow.Nothing ss x)) (bit_good unary_op.Xnor (λ n. refl) s)

      -- in brackets
      group_built : IsSound (group_node sizing_a) x → Good vs ls x (built m (group a) (group_node sizing_a ∷ ss) x cs).0
      group_built s =
          let k = known (own_size sizing_a) Shared narrow.Nothing true None (one sizing_a) x s in
          let part = lone (own_size sizing_a) Shared narrow.Nothing None x sizing_a k in
          replaced (inner_is (own_size sizing_a) Shared narrow.Nothing true None ss (λ qs. x))
          (p x (record { fault = part.fault; wide = part.wide; some = k.some; within = k.within; most = k.most }))

      -- by itself, and then brought to the context
      sign_built : (t : Bool) → IsSound (applied (sizes (length_of sizing_a) t) Apart narrow.Nothing (one sizing_a)) x
          → Good vs ls x (brought x (built m a (inside (applied (sizes (length_of sizing_a) t) Apart narrow.Nothing (one sizing_a) ∷ ss)) (own_context (inside (applied (sizes (length_of sizing_a) t) Apart narrow.Nothing (one sizing_a) ∷ ss))) cs).0)
      sign_built t s =
          let z = sizes (length_of sizing_a) t in
          let k = operator z Apart narrow.Nothing (one sizing_a) x s in
          let part = one_part z Apart narrow.Nothing x sizing_a k in
          let made = p _ (by_itself sizing_a part.1 tiny) in
          let same = alone_length sizing_a tiny in
          replaced (ap (brought x) (inner_is z Apart narrow.Nothing true (where_true (is_some_empty (one sizing_a)) BadRange) ss own_context))
          (brought_good vs ls x _ made.formed (omega (arith, made.length, same, k.within)) (omega (arith, k.some, k.within)) k.most)

      system_built : (f : SystemFunction) → IsSound (system_node f sizing_a) x → Good vs ls x (built m (system f a) (system_node f sizing_a ∷ ss) x cs).0
      system_built sys.Signed s = sign_built true s
      system_built sys.Unsigned s = sign_built false s
      system_built sys.CeilingLog s = constant_sound (system sys.CeilingLog a) (system_node sys.CeilingLog sizing_a) (system_node sys.CeilingLog sizing_a ∷ ss) x cs s

      -- the index of a select
      abbrev pub index_found : Index
      index_found = (by_index (node_of sizing_a).constant (fixed_in m a (one sizing_a) cs) (built m a (one sizing_a) (alone (node_of sizing_a)) cs)).0

      pub by_kind : (c : Bool) → (node_of sizing_a).constant ≡ c → Part sizing_a (alone (node_of sizing_a)) → ((not (node_of sizing_a).constant && nat_lt 128 (length_of sizing_a)) ≡ false)
          → IsIndex vs ls (by_index c (fixed_in m a (one sizing_a) cs) (built m a (one sizing_a) (alone (node_of sizing_a)) cs)).0
      by_kind true e part w = tt
      by_kind false e part w =
          let made = p _ (by_itself sizing_a part tiny) in
          record { formed = made.formed; narrow = ap is_narrow (made.length ∙ alone_length sizing_a tiny) ∙ narrow_is _ (sym (ap (λ c. not c && nat_lt 128 (length_of sizing_a)) e) ∙ w) }

      -- a select of so many bits with this index
      select_built : (w : List ℕ) (o : Option SizeEntry) → m.known.look w ≡ o → (n : ℕ) (bad : Bool) (way : Way) → IsSound (select_node o n bad (one sizing_a)) x
          → Good vs ls x (apart (node_of (select_node o n bad (one sizing_a))).size x
          (selected (m.leaf w) o (way, (by_index (first_node (parts_of (select_node o n bad (one sizing_a)))).constant (fixed_in m a (parts_of (select_node o n bad (one sizing_a))) cs) (built m a (parts_of (select_node o n bad (one sizing_a))) (own_context (parts_of (select_node o n bad (one sizing_a)))) cs)).0)))
      select_built w None known_as n bad way s = no_name (known (sizes n false) Apart narrow.VariableIndex true (Some UnknownName) (one sizing_a) x s).own
      select_built w (Some e) known_as n bad way s =
          let z = sizes n false in
          let fault = lower (where_true (is_kind e.kind kind.Function) UnknownName) (where_true (is_bare e || (bad || is_some_empty (one sizing_a))) BadRange) in
          let k = known z Apart narrow.VariableIndex (is_kind e.kind kind.Constant) fault (one sizing_a) x s in
          let own = lower_none (where_true (is_kind e.kind kind.Function) UnknownName) _ k.own in
          let empty = or_false _ _ (or_false _ _ (or_false _ _ (where_none _ _ own.1)).1).1 in
          let part = lone z Apart narrow.VariableIndex fault x sizing_a k in
          let index = by_kind (node_of sizing_a).constant refl (record { fault = part.fault; some = not_empty _ empty.0; wide = part.wide }) (or_false _ _ part.not_wide).0 in
          let node = selected_in (whole_name (m.leaf w) e) (aim_of e way) index_found in
          replaced
          (ap (λ (y : Sizing-F Sizing). apart y.node.size x (selected_in (whole_name (m.leaf w) e) (aim_of e way) (by_index (first_node y.parts).constant (fixed_in m a y.parts cs) (built m a y.parts (own_context y.parts) cs)).0))
          (out_of (node_made z Apart narrow.VariableIndex (is_kind e.kind kind.Constant) fault (one sizing_a)) (one sizing_a))
          ∙ ap (λ q. apart (sizes q false) x node) k.short)
          (brought_good vs ls x (at z node) (selected_formed vs ls z (whole_name (m.leaf w) e) (aim_of e way) index_found (h.leaf w e known_as (where_none _ _ own.0)) index k.some (omega (arith, k.within, k.most)))
          k.within (omega (arith, k.some, k.within)) k.most)

  -- a name without selects
  name_built : (w : List ℕ) (o : Option SizeEntry) → m.known.look w ≡ o → (x : Size) → IsSound (name_node o) x → Good vs ls x (apart (node_of (name_node o)).size x (m.leaf w))
  name_built w None known_as x s = no_name (known size_bit Apart narrow.Nothing true (Some UnknownName) [] x s).own
  name_built w (Some e) known_as x s =
      let z = sizes e.length e.signed in
      let fault = where_true (is_kind e.kind kind.Function) UnknownName in
      let k = known z Apart narrow.Nothing (is_kind e.kind kind.Constant) fault [] x s in
      replaced (ap (λ q. apart q x (m.leaf w)) (own_size_is z Apart narrow.Nothing (is_kind e.kind kind.Constant) fault [] k.short))
      (brought_good vs ls x (at z (m.leaf w)) (h.leaf w e known_as (where_none _ _ k.own)) k.within (omega (arith, k.some, k.within)) k.most)

  -- a select from one bound to another
  range_built : (w : List ℕ) (o : Option SizeEntry) → m.known.look w ≡ o → (n : ℕ) (bad : Bool) (i : Option ℤ) (x : Size) → IsSound (select_node o n bad []) x
      → Good vs ls x (apart (node_of (select_node o n bad [])).size x (selected (m.leaf w) o (At, Fixed i)))
  range_built w None known_as n bad i x s = no_name (known (sizes n false) Apart narrow.VariableIndex true (Some UnknownName) [] x s).own
  range_built w (Some e) known_as n bad i x s =
      let z = sizes n false in
      let fault = lower (where_true (is_kind e.kind kind.Function) UnknownName) (where_true (is_bare e || (bad || false)) BadRange) in
      let k = known z Apart narrow.VariableIndex (is_kind e.kind kind.Constant) fault [] x s in
      let own = lower_none (where_true (is_kind e.kind kind.Function) UnknownName) _ k.own in
      let node = selected_in (whole_name (m.leaf w) e) (aim_of e At) (Fixed i) in
      replaced (ap (λ q. apart q x node) (own_size_is z Apart narrow.VariableIndex (is_kind e.kind kind.Constant) fault [] k.short))
      (brought_good vs ls x (at z node) (selected_formed vs ls z (whole_name (m.leaf w) e) (aim_of e At) (Fixed i) (h.leaf w e known_as (where_none _ _ own.0)) tt k.some (omega (arith, k.within, k.most)))
      k.within (omega (arith, k.some, k.within)) k.most)

  -- a choice
  module _ (t a c : Term) (cs : List Const) where
    abbrev test_sizing : Sizing
    test_sizing = (own m.known.look t cs).0

    abbrev behind_test : List Const
    behind_test = (own m.known.look t cs).1

    abbrev yes_sizing : Sizing
    yes_sizing = (own m.known.look a behind_test).0

    abbrev behind_yes : List Const
    behind_yes = (own m.known.look a behind_test).1

    abbrev no_sizing : Sizing
    no_sizing = (own m.known.look c behind_yes).0

    abbrev all_three : List Sizing
    all_three = test_sizing ∷ two yes_sizing no_sizing

    abbrev test_built : Size → DExpr
    test_built y = (built m t all_three y cs).0

    abbrev yes_built : Size → DExpr
    yes_built y = (built m a (two yes_sizing no_sizing) y behind_test).0

    abbrev no_built : Size → DExpr
    no_built y = (built m c (one no_sizing) y behind_yes).0

    abbrev three_of : Sizing-F Sizing → Size → DExpr
    three_of w x =
        let y = context w.node.operands (common (map node_of w.parts)) x true (first_node w.parts) in
        let v = context w.node.operands (common (map node_of w.parts)) x false (first_node (behind w.parts)) in
        let u = context w.node.operands (common (map node_of w.parts)) x false (first_node (behind (behind w.parts))) in
        let first = built m t w.parts y cs in
        let second = built m a (behind w.parts) v first.1 in
        at x (node.Mux first.0 second.0 (built m c (behind (behind w.parts)) u second.1).0)

    choice_built : IsBuilt vs ls test_sizing test_built → IsBuilt vs ls yes_sizing yes_built → IsBuilt vs ls no_sizing no_built → (ss : List Sizing) (x : Size)
        → IsSound (choice_node test_sizing yes_sizing no_sizing) x → Good vs ls x (built m (choice t a c) (choice_node test_sizing yes_sizing no_sizing ∷ ss) x cs).0
    choice_built p q r ss x s =
        let z = joint_size yes_sizing no_sizing in
        let k = operator z FirstApart narrow.Nothing all_three x s in
        let parts = three_parts z FirstApart narrow.Nothing x test_sizing yes_sizing no_sizing k in
        let y = alone (node_of test_sizing) in
        replaced
        (ap (λ (w : Sizing-F Sizing). three_of w x) (out_of (node_made z FirstApart narrow.Nothing true (where_true (is_some_empty all_three) BadRange) all_three) all_three)
        ∙ ap (λ ds. at x (node.Mux (test_built y) (built m a (two yes_sizing no_sizing) x ds).0 (built m c (one no_sizing) x (built m a (two yes_sizing no_sizing) x ds).1).0)) (built_rest m t all_three y cs)
        ∙ ap (λ ds. at x (node.Mux (test_built y) (yes_built x) (built m c (one no_sizing) x ds).0)) (built_rest m a (two yes_sizing no_sizing) x behind_test))
        (choice_good vs ls x (test_built y) (yes_built x) (no_built x) (p y (by_itself test_sizing parts.test (own_small m.known.look t cs))).formed
        (q x (sound yes_sizing x parts.first (omega (arith, k.within)) k.most)) (r x (sound no_sizing x parts.second (omega (arith, k.within)) k.most)) (omega (arith, k.some, k.within)) k.most)

pub not_false : (b : Bool) → not b ≡ false → b ≡ true
not_false true e = refl
not_false false e = cc

-- the number of a function's inputs
counted : (e : SizeEntry) (n : ℕ) → is_kind e.kind kind.Function ≡ true → takes (Some e) n ≡ true → n ≡ length e.inputs
counted e n function t =
    let same : nat_eq n (length e.inputs) ≡ true = sym (ap (λ b. not b || nat_eq n (length e.inputs)) function) ∙ t in
    grind (arith, nat_tests, same)

module _ (vs ls : List ℕ) (m : Meaning) (h : Fits vs ls m) where
  -- where the arguments are formed, so is the call
  call_built : (w : List ℕ) (ts : Terms) (o : Option SizeEntry) → m.known.look w ≡ o → (ss : List Sizing) (x : Size) (cs : List Const) → takes o (count_of ts) ≡ true
      → ((is : List ℕ) (ps : List Sizing) → ps ≡ (owns m.known.look ts is cs).0 → Each ps → is_some_empty ps ≡ false → list_all (λ n. nat_le n 65536) is ≡ true → count_of ts ≡ length is → IsArguments vs ls (builts m ts ps cs).0 is)
      → IsSound (call_node o (owns m.known.look ts (inputs_of o) cs).0) x
      → Good vs ls x (apart (node_of (call_node o (owns m.known.look ts (inputs_of o) cs).0)).size x (m.called w (builts m ts (parts_of (call_node o (owns m.known.look ts (inputs_of o) cs).0)) cs).0))
  call_built w ts None known_as ss x cs count arguments s = no_name (known size_bit Apart narrow.Nothing false (Some UnknownName) (owns m.known.look ts [] cs).0 x s).own
  call_built w ts (Some e) known_as ss x cs count arguments s =
      let ps = (owns m.known.look ts e.inputs cs).0 in
      let z = sizes e.length e.signed in
      let fault = lower (where_true (not (is_kind e.kind kind.Function)) UnknownName) (where_true (is_some_empty ps) BadRange) in
      let k = known z Apart narrow.Nothing false fault ps x s in
      let own = lower_none (where_true (not (is_kind e.kind kind.Function)) UnknownName) _ k.own in
      let function = not_false (is_kind e.kind kind.Function) (where_none _ _ own.0) in
      let parts = arguments e.inputs ps refl (each (common (map node_of ps)) x true false None ps k.faults k.wide).parts (where_none _ _ own.1) (h.inputs w e known_as) (counted e (count_of ts) function count) in
      let es = (builts m ts ps cs).0 in
      replaced vs ls m h
      (ap (λ (y : Sizing-F Sizing). apart y.node.size x (m.called w (builts m ts y.parts cs).0)) (out_of (node_made z Apart narrow.Nothing false fault ps) ps) ∙ ap (λ q. apart (sizes q e.signed) x (m.called w es)) k.short)
      (brought_good vs ls x (at z (m.called w es)) (h.called w e es known_as function parts.formed parts.fit) k.within (omega (arith, k.some, k.within)) k.most)

  mutual
    all_built : (t : Term) (ss : List Sizing) (x : Size) (cs : List Const) → calls_fit m.known.look t ≡ true → IsSound (own m.known.look t cs).0 x → Good vs ls x (built m t ((own m.known.look t cs).0 ∷ ss) x cs).0
    all_built (number text) ss x cs fit s = constant_sound vs ls m h (number text) (own m.known.look (number text) cs).0 ((own m.known.look (number text) cs).0 ∷ ss) x cs s
    all_built (name w ps) ss x cs fit s = name_picked w ps ss x cs fit s
    all_built (call w ts) ss x cs fit s =
        let both = both_true (takes (m.known.look w) (count_of ts)) (all_calls_fit m.known.look ts) fit in
        call_built w ts (m.known.look w) refl ss x cs both.0 (λ is ps e every some most count. arguments_built ts is cs ps e both.1 every some most count) s
    all_built (concat ts) ss x cs fit s =
        let ps = (owns m.known.look ts [] cs).0 in
        let z = sizes (total ps) false in
        let fault = where_true (nat_eq (total ps) 0) BadRange in
        let k = known z Apart narrow.Nothing true fault ps x s in
        let parts = parts_built ts cs ps refl fit (each (common (map node_of ps)) x true false None ps k.faults k.wide).parts in
        let most : total ps ≤ 65536 = omega (arith, k.within, k.most) in
        let es = (builts m ts ps cs).0 in
        replaced vs ls m h
        (ap (λ (y : Sizing-F Sizing). apart y.node.size x (node.Concat (builts m ts y.parts cs).0)) (out_of (node_made z Apart narrow.Nothing true fault ps) ps) ∙ ap (λ q. apart (sizes q false) x (node.Concat es)) k.short)
        (brought_good vs ls x (at z (node.Concat es)) (concat_formed vs ls z es (subst (IsParts vs ls es) (sym (total_same ps most)) parts) k.some most) k.within (omega (arith, k.some, k.within)) k.most)
    all_built (repeat c ts) ss x cs fit s =
        let ds = behind_next cs in
        let count = next_value cs in
        let ps = (owns m.known.look ts [] ds).0 in
        let n = total ps in
        let z = sizes (times count n) false in
        let fault = where_true (is_bad_count count || nat_eq n 0) BadRange in
        let k = known z Apart narrow.Nothing true fault ps x (repeated_sound (is_no_copy count) (node_made z Apart narrow.Nothing true fault ps) ps x s) in
        let own = or_false (is_bad_count count) _ (where_none _ _ k.own) in
        let parts = parts_built ts ds ps refl fit (each (common (map node_of ps)) x true false None ps k.faults k.wide).parts in
        let most : times count n ≤ 65536 = omega (arith, k.within, k.most) in
        let some = not_empty n own.1 in
        let few = times_most count n own.0 k.some most in
        let es = (builts m ts ps ds).0 in
        let inner = at (sizes n false) (node.Concat es) in
        let whole = concat_formed vs ls (sizes n false) es (subst (IsParts vs ls es) (sym (total_same ps few)) parts) some few in
        replaced vs ls m h
        (ap (λ (y : Sizing-F Sizing). apart y.node.size x (repeated count (total y.parts) (builts m ts y.parts ds).0)) (out_of (constant_where (is_no_copy count) (node_made z Apart narrow.Nothing true fault ps)) ps) ∙ ap (λ q. apart (sizes q false) x (repeated count n es)) k.short)
        (brought_good vs ls x (at z (node.Repeat (copies count) inner)) (repeat_formed vs ls z (copies count) inner whole (times_same count n own.0 some k.some most) k.some most) k.within (omega (arith, k.some, k.within)) k.most)
    all_built (system f a) ss x cs fit s = system_built vs ls m h a cs (λ y k. all_built a [] y cs fit k) ss x f s
    all_built (group a) ss x cs fit s = group_built vs ls m h a cs (λ y k. all_built a [] y cs fit k) ss x s
    all_built (unary op a) ss x cs fit s = unary_built vs ls m h a cs (λ y k. all_built a [] y cs fit k) ss x op s
    all_built (binary op a c) ss x cs fit s =
        let both = both_true (calls_fit m.known.look a) (calls_fit m.known.look c) fit in
        let ds = (own m.known.look a cs).1 in
        binary_built vs ls m h a c cs (λ y k. all_built a ((own m.known.look c ds).0 ∷ []) y cs both.0 k) (λ y k. all_built c [] y ds both.1 k) ss x op s
    all_built (choice t a c) ss x cs fit s =
        let one_of = both_true (calls_fit m.known.look t) (calls_fit m.known.look a && calls_fit m.known.look c) fit in
        let both = both_true (calls_fit m.known.look a) (calls_fit m.known.look c) one_of.1 in
        let ds = (own m.known.look t cs).1 in
        let es = (own m.known.look a ds).1 in
        choice_built vs ls m h t a c cs (λ y k. all_built t ((own m.known.look a ds).0 ∷ ((own m.known.look c es).0 ∷ [])) y cs one_of.0 k) (λ y k. all_built a ((own m.known.look c es).0 ∷ []) y ds both.0 k) (λ y k. all_built c [] y es both.1 k) ss x s

    parts_built : (ts : Terms) (cs : List Const) (ps : List Sizing) → ps ≡ (owns m.known.look ts [] cs).0 → all_calls_fit m.known.look ts ≡ true → Each ps → IsParts vs ls (builts m ts ps cs).0 (sum_of ps)
    parts_built term.none cs ps e fit all = subst (λ qs. IsParts vs ls (builts m term.none qs cs).0 (sum_of qs)) (sym e) (no_parts vs ls)
    parts_built (term.more t ts) cs ps e fit all =
        let s = (own m.known.look t cs).0 in
        let ds = (own m.known.look t cs).1 in
        let rest = (owns m.known.look ts [] ds).0 in
        let small = own_small m.known.look t cs in
        let both = both_true (calls_fit m.known.look t) (all_calls_fit m.known.look ts) fit in
        let eq : ps ≡ s ∷ rest = e ∙ ap (λ q. q ∷ rest) (as_it_is s small) in
        subst (λ qs. Each qs → IsParts vs ls (builts m (term.more t ts) qs cs).0 (sum_of qs)) (sym eq)
        (λ every.
        let y = alone (node_of s) in
        subst (λ es. IsParts vs ls (kept (length_of s) (built m t (s ∷ rest) y cs).0 ++ (builts m ts rest es).0) (length_of s + sum_of rest)) (sym (built_rest m t (s ∷ rest) y cs))
        (kept_parts vs ls (length_of s) (built m t (s ∷ rest) y cs).0 (builts m ts rest ds).0 (sum_of rest)
        (λ some. let good = all_built t rest y cs both.0 (by_itself s (record { fault = every.0; some = some; wide = every.1 }) small) in (good.formed, good.length ∙ alone_length s small))
        (parts_built ts ds rest refl both.1 every.2)))
        all

    arguments_built : (ts : Terms) (is : List ℕ) (cs : List Const) (ps : List Sizing) → ps ≡ (owns m.known.look ts is cs).0 → all_calls_fit m.known.look ts ≡ true → Each ps → is_some_empty ps ≡ false
        → list_all (λ n. nat_le n 65536) is ≡ true → count_of ts ≡ length is → IsArguments vs ls (builts m ts ps cs).0 is
    arguments_built term.none [] cs ps e fit all some most count = record { formed = refl; fit = refl }
    arguments_built term.none (n ∷ is) cs ps e fit all some most count = cc
    arguments_built (term.more t ts) [] cs ps e fit all some most count = cc
    arguments_built (term.more t ts) (n ∷ is) cs ps e fit all some most count =
        let s = (own m.known.look t cs).0 in
        let ds = (own m.known.look t cs).1 in
        let t2 = at_least n s in
        let rest = (owns m.known.look ts is ds).0 in
        let both = both_true (calls_fit m.known.look t) (all_calls_fit m.known.look ts) fit in
        let inputs = both_true (nat_le n 65536) (list_all (λ k. nat_le k 65536) is) most in
        subst (λ qs. Each qs → is_some_empty qs ≡ false → IsArguments vs ls (builts m (term.more t ts) qs cs).0 (n ∷ is)) (sym e)
        (λ every full.
        let empty = or_false (nat_eq (length_of t2) 0) (is_some_empty rest) full in
        let y = alone (node_of t2) in
        let argument = argument_sound n s (own_small m.known.look t cs) (below_most n inputs.0) every.0 every.1 empty.0 in
        let good = all_built t rest y cs both.0 argument.sound in
        let b = (built m t (s ∷ rest) y cs).0 in
        let tail = arguments_built ts is ds rest refl both.1 every.2 empty.1 inputs.1 (omega (arith, count)) in
        subst (λ (r : Found DExpr). IsArguments vs ls (kept (length_of t2) r.0 ++ (builts m ts rest r.1).0) (n ∷ is)) (sym (least_alike m t n s rest y cs))
        (subst (λ es. IsArguments vs ls (kept (length_of t2) b ++ (builts m ts rest es).0) (n ∷ is)) (sym (built_rest m t (s ∷ rest) y cs))
        (subst (λ c. IsArguments vs ls ((if c then [] else b ∷ []) ++ (builts m ts rest ds).0) (n ∷ is)) (sym empty.0)
        (one_argument vs ls n is b (builts m ts rest ds).0 good.formed (omega (arith, good.length, argument.long)) tail))))
        all some

    name_picked : (w : List ℕ) (ps : Picks) (ss : List Sizing) (x : Size) (cs : List Const) → picks_fit m.known.look ps ≡ true → IsSound (own_picks m.known.look (m.known.look w) ps cs).0 x
        → Good vs ls x (built m (name w ps) ((own_picks m.known.look (m.known.look w) ps cs).0 ∷ ss) x cs).0
    name_picked w whole ss x cs fit s = name_built vs ls m h w (m.known.look w) refl x s
    name_picked w (pick p ps) ss x cs fit s = pick_picked w p ps ss x cs fit s

    pick_picked : (w : List ℕ) (p : Pick) (ps : Picks) (ss : List Sizing) (x : Size) (cs : List Const) → pick_fits m.known.look p ≡ true → IsSound (own_pick m.known.look (m.known.look w) p cs).0 x
        → Good vs ls x (built m (name w (pick p ps)) ((own_pick m.known.look (m.known.look w) p cs).0 ∷ ss) x cs).0
    pick_picked w (index a) ps ss x cs fit s = select_built vs ls m h a cs (λ y k. all_built a [] y cs fit k) ss x w (m.known.look w) refl 1 false At s
    pick_picked w (range b l) ps ss x cs fit s = range_built vs ls m h w (m.known.look w) refl _ _ (next_value (behind_next cs)) x s
    pick_picked w (up a n) ps ss x cs fit s = select_built vs ls m h a cs (λ y k. all_built a [] y cs fit k) ss x w (m.known.look w) refl _ _ _ s
    pick_picked w (down a n) ps ss x cs fit s = select_built vs ls m h a cs (λ y k. all_built a [] y cs fit k) ss x w (m.known.look w) refl _ _ _ s

pub built_good : (vs ls : List ℕ) (m : Meaning) → Fits vs ls m → (t : Term) (ss : List Sizing) (x : Size) (cs : List Const) → calls_fit m.known.look t ≡ true → IsSound (own m.known.look t cs).0 x
    → Good vs ls x (built m t ((own m.known.look t cs).0 ∷ ss) x cs).0
built_good vs ls m h t ss x cs fit s = all_built vs ls m h t ss x cs fit s
