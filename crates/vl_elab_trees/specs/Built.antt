-- The expression of a design that an expression of the source is in its context (IEEE 1364-2005, 5.1 to 5.5): extension stands at the operands.
use Rattle.std.specs.Prelude.{ℕ, Bool, true, false, List, [], ◌++◌, Option, Some, None}
use Rattle.design_core.specs.declared.tree.DExpr.{DExpr}
use Rattle.design_core.specs.declared.tree.DNode.{DNode}
use Rattle.design_core.specs.declared.tree.DNode.TheVariants as node
use Rattle.vl_size.specs.declared.constant.Const.{Const}
use Rattle.vl_size.specs.declared.operators.SystemFunction.{SystemFunction}
use Rattle.vl_size.specs.declared.operators.SystemFunction.TheVariants as s
use Rattle.vl_size.specs.declared.table.SizeEntry.{SizeEntry}
use Rattle.vl_size.specs.declared.tree.Size.{Size}
use Rattle.vl_size.specs.declared.tree.Sizing.{Sizing}
use Rattle.vl_size.specs.Constants.{next_value, behind_next}
use Rattle.vl_size.specs.Constants as constants
use Rattle.vl_size.specs.Nodes.{width_of, total}
use Rattle.vl_size.specs.Owns.{Found, on, and_then, and_then_two}
use Rattle.vl_size.specs.Terms.{Term, Terms, Pick, Picks, number, name, call, system, concat, repeat, group, unary, binary, choice, index, range, up, down, whole, pick}
use Rattle.vl_size.specs.Terms as term
use Rattle.vl_elab_trees.specs.declared.nodes.Form.{Form}
use Rattle.vl_elab_trees.specs.declared.places.Index.{Index}
use Rattle.vl_elab_trees.specs.declared.places.Index.TheVariants.{Fixed, Variable}
use Rattle.vl_const.specs.declared.places.Aim.{Aim}
use Rattle.vl_elab_trees.specs.Nodes.{brought, apart, constant, form_of, before_of, unary_made, operated, choice_made, kept, repeated}
use Rattle.vl_const.specs.declared.places.Way.{Way}
use Rattle.vl_const.specs.declared.places.Way.TheVariants.{At, Up, Down}
use Rattle.vl_const.specs.Places.{aim_of, low_at}
use Rattle.vl_elab_trees.specs.Scopes.{Meaning, valued}
use Rattle.vl_const.specs.Streams.{first_node, inside, behind, own_size, own_context, part_context}

-- a name without its selects
abbrev pub whole_name : DNode → SizeEntry → DExpr
whole_name n e = record { length = e.length; signed = e.signed; node = n }

-- a select of a base at an index
abbrev pub selected_in : DExpr → Aim → Index → DNode
selected_in base aim (Fixed i) = node.Select base (low_at aim i)
selected_in base aim (Variable i) = node.SelectAt base i aim.offset aim.down

-- a select of a name
abbrev pub selected : DNode → Option SizeEntry → Way × Index → DNode
selected n None p = n
selected n (Some e) p = selected_in (whole_name n e) (aim_of e p.0) p.1

-- a fixed index, by its value and its sign
abbrev pub fixed : Bool → List Bool → Index
fixed signed v = Fixed (constants.whole (record { bits = v; signed = signed }))

abbrev pub fixed_in : Meaning → Term → List Sizing → List Const → Found Index
fixed_in m a ss cs = on (fixed (own_context ss).signed) (valued m a ss (own_context ss) cs)

-- an index that is constant, or one that is not
abbrev pub by_index : Bool → Found Index → Found DExpr → Found Index
by_index true v i = v
by_index false v i = on Variable i

-- an index, and then its width
abbrev pub with_width : (ℕ → Way) → Found Index → Found (Way × Index)
with_width way r = ((way (width_of (next_value r.1)), r.0), behind_next r.1)

-- a constant expression, by its value
abbrev pub constant_in : Meaning → Term → List Sizing → Size → List Const → Found DExpr
constant_in m t ss x cs = on (constant x) (valued m t ss x cs)

-- a constant, or an operator on operands
abbrev pub by_form : Option Form → Size → Found DExpr → Found DExpr → (List Const → Found DExpr) → Found DExpr
by_form None x v a next = v
by_form (Some f) x v a next = and_then (operated f x) a next

abbrev pub by_function : SystemFunction → Size → Found DExpr → Found DExpr → Found DExpr
by_function s.Signed x v a = on (brought x) a
by_function s.Unsigned x v a = on (brought x) a
by_function s.CeilingLog x v a = v

abbrev mutual
  -- ss begins with the sizing of the expression, x is its context, and cs begins with the values of its counts, bounds and widths
  pub built : Meaning → Term → List Sizing → Size → List Const → Found DExpr
  built m (number text) ss x cs = constant_in m (number text) ss x cs
  built m (name w ps) ss x cs = on (apart (own_size ss) x) (picked m w (m.known.look w) ps (inside ss) cs)
  built m (call w ts) ss x cs = on (λ es. apart (own_size ss) x (m.called w es)) (builts m ts (inside ss) cs)
  built m (system f a) ss x cs = by_function f x (constant_in m (system f a) ss x cs) (built m a (inside ss) (own_context (inside ss)) cs)
  built m (concat ts) ss x cs = on (λ es. apart (own_size ss) x (node.Concat es)) (builts m ts (inside ss) cs)
  built m (repeat c ts) ss x cs = on (λ es. apart (own_size ss) x (repeated (next_value cs) (total (inside ss)) es)) (builts m ts (inside ss) (behind_next cs))
  built m (group a) ss x cs = built m a (inside ss) x cs
  built m (unary op a) ss x cs = on (unary_made (before_of op) x) (built m a (inside ss) (part_context ss x true (inside ss)) cs)
  built m (binary op a c) ss x cs =
      by_form (form_of op) x (constant_in m (binary op a c) ss x cs) (built m a (inside ss) (part_context ss x true (inside ss)) cs)
      (built m c (behind (inside ss)) (part_context ss x false (behind (inside ss))))
  built m (choice t a c) ss x cs =
      and_then_two (choice_made x) (built m t (inside ss) (part_context ss x true (inside ss)) cs)
      (built m a (behind (inside ss)) (part_context ss x false (behind (inside ss))))
      (built m c (behind (behind (inside ss))) (part_context ss x false (behind (behind (inside ss)))))

  -- a name with its selects; several are for arrays, which are still to come: the first alone counts
  pub picked : Meaning → List ℕ → Option SizeEntry → Picks → List Sizing → List Const → Found DNode
  picked m w e whole ss cs = (m.leaf w, cs)
  picked m w e (pick p ps) ss cs = on (selected (m.leaf w) e) (aimed m p ss cs)

  -- where the bits of a select lie: how they lie to an index, and the index
  pub aimed : Meaning → Pick → List Sizing → List Const → Found (Way × Index)
  aimed m (index a) ss cs = on (λ i. (At, i)) (by_index (first_node ss).constant (fixed_in m a ss cs) (built m a ss (own_context ss) cs))
  aimed m (range h l) ss cs = ((At, Fixed (next_value (behind_next cs))), behind_next (behind_next cs))
  aimed m (up a w) ss cs = with_width Up (by_index (first_node ss).constant (fixed_in m a ss cs) (built m a ss (own_context ss) cs))
  aimed m (down a w) ss cs = with_width Down (by_index (first_node ss).constant (fixed_in m a ss cs) (built m a ss (own_context ss) cs))

  -- expressions each by itself
  pub builts : Meaning → Terms → List Sizing → List Const → Found (List DExpr)
  builts m term.none ss cs = ([], cs)
  builts m (term.more t ts) ss cs = and_then ◌++◌ (on (kept (own_size ss).length) (built m t ss (own_context ss) cs)) (builts m ts (behind ss))

-- what comes behind parts that are found already
abbrev pub with_front : List DExpr → Found (List DExpr) → Found (List DExpr)
with_front front r = (front ++ r.0, r.1)
