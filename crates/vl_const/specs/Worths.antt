-- The value of a constant expression in its context, with the faults of its operators (IEEE 1364-2005, 5.4 and 5.5).
use Rattle.std.specs.Prelude.{ℕ, Bool, true, false, List, map, None}
use Rattle.vl_size.specs.declared.tree.Operands.{Operands}
use Rattle.vl_size.specs.declared.tree.Operands.TheVariants.{Apart, Shared, Compared, FirstShared, FirstApart}
use Rattle.vl_size.specs.declared.tree.Size.{Size}
use Rattle.vl_size.specs.declared.tree.Sizing.{Sizing}
use Rattle.vl_size.specs.Constants as constants
use Rattle.vl_size.specs.Nodes.{width_of}
use Rattle.vl_size.specs.Placed.{is_wide}
use Rattle.vl_size.specs.Sizings.{node_of, common}
use Rattle.vl_size.specs.Terms.{Term, Terms, Pick, Picks, number, name, call, system, concat, repeat, group, unary, binary, choice, index, range, up, down, whole, pick}
use Rattle.vl_size.specs.Terms as term
use Rattle.vl_const.specs.declared.answers.Answer.{Answer}
use Rattle.vl_const.specs.declared.answers.Joined.{Joined}
use Rattle.vl_const.specs.declared.answers.Place.{Place}
use Rattle.vl_const.specs.declared.places.Way.{Way}
use Rattle.vl_const.specs.declared.places.Way.TheVariants.{At, Up, Down}
use Rattle.vl_const.specs.Answers.{answer, brought, unary_made, binary_made, choice_made, system_made, nothing, joined, concat_made, repeat_made, call_made, leaf, place, select_made}
use Rattle.vl_tree.specs.Order.{lower}
use Rattle.vl_const.specs.Numbers.{number_value}
use Rattle.vl_const.specs.Operators.{unary_of, work_of}
use Rattle.vl_const.specs.Scopes.{Meaning}
use Rattle.vl_const.specs.Streams.{first_node, inside, behind, own_size, own_context, part_context}
use Rattle.vl_const.specs.Values.{Values, Found, on, and_then, and_then_two, number_at, fault_at, rest_of}

-- whether the first expression is arithmetic on more than 128 bits in the context x
abbrev pub wide_here : List Sizing → Size → Bool
wide_here ss x = is_wide (first_node ss).narrow x (map node_of (inside ss))

-- the sign by which an operator works: that of its operands where it compares them, else that of its context
abbrev pub sign_by : Operands → Bool → Bool → Bool
sign_by Compared own shared = shared
sign_by Apart own shared = own
sign_by Shared own shared = own
sign_by FirstShared own shared = own
sign_by FirstApart own shared = own

abbrev pub working_sign : List Sizing → Size → Bool
working_sign ss x = sign_by (first_node ss).operands x.signed (common (map node_of (inside ss))).signed

-- an index by its value and its sign
abbrev pub placed_at : Way → Bool → Answer → Place
placed_at way signed a = place way (constants.whole (record { bits = a.value; signed = signed })) a.reads a.fault

-- a width behind an index
abbrev pub place_with : Way → Place → Values → Found Place
place_with way p cs = (place way p.at p.reads (lower p.fault (fault_at cs)), rest_of cs)

-- an index, and then its width
abbrev pub with_width : (ℕ → Way) → Bool → Found Answer → Found Place
with_width way signed r = place_with (way (width_of (number_at r.1))) (placed_at At signed r.0) r.1

abbrev mutual
  -- ss begins with the sizing of the expression, x is its context, and cs begins with the values of its counts, bounds and widths
  pub worth : Meaning → Term → List Sizing → Size → Values → Found Answer
  worth m (number text) ss x cs = (brought x (answer (number_value text) false None), cs)
  worth m (name w ps) ss x cs = on (brought x) (worth_picks m w ps ss cs)
  worth m (call w ts) ss x cs = on (call_made x) (worths m ts (inside ss) cs nothing)
  worth m (system f a) ss x cs = on (system_made f x) (worth m a (inside ss) (own_context (inside ss)) cs)
  worth m (concat ts) ss x cs = on (concat_made x) (worths m ts (inside ss) cs nothing)
  worth m (repeat c ts) ss x cs = on (repeat_made (number_at cs) (fault_at cs) x) (worths m ts (inside ss) (rest_of cs) nothing)
  worth m (group a) ss x cs = worth m a (inside ss) x cs
  worth m (unary op a) ss x cs = on (unary_made (unary_of op) (wide_here ss x) x) (worth m a (inside ss) (part_context ss x true (inside ss)) cs)
  worth m (binary op a c) ss x cs =
      and_then (binary_made (work_of op) x (working_sign ss x) (wide_here ss x) (first_node (behind (inside ss))).fault (own_context (behind (inside ss))).signed)
      (worth m a (inside ss) (part_context ss x true (inside ss)) cs)
      (worth m c (behind (inside ss)) (part_context ss x false (behind (inside ss))))
  worth m (choice t a c) ss x cs =
      and_then_two (choice_made x) (worth m t (inside ss) (part_context ss x true (inside ss)) cs)
      (worth m a (behind (inside ss)) (part_context ss x false (behind (inside ss))))
      (worth m c (behind (behind (inside ss))) (part_context ss x false (behind (behind (inside ss)))))

  -- a name with its selects; several are for arrays, which are still to come: the first alone counts
  pub worth_picks : Meaning → List ℕ → Picks → List Sizing → Values → Found Answer
  worth_picks m w whole ss cs = (leaf (m.look w) (m.value w), cs)
  worth_picks m w (pick p ps) ss cs = on (select_made (m.look w) (own_size ss) (wide_here ss (own_size ss)) (leaf (m.look w) (m.value w))) (worth_pick m p (inside ss) cs)

  -- where the bits of a select lie
  pub worth_pick : Meaning → Pick → List Sizing → Values → Found Place
  worth_pick m (index a) ss cs = on (placed_at At (own_context ss).signed) (worth m a ss (own_context ss) cs)
  worth_pick m (range h l) ss cs = (place At (number_at (rest_of cs)) false (lower (fault_at cs) (fault_at (rest_of cs))), rest_of (rest_of cs))
  worth_pick m (up a w) ss cs = with_width Up (own_context ss).signed (worth m a ss (own_context ss) cs)
  worth_pick m (down a w) ss cs = with_width Down (own_context ss).signed (worth m a ss (own_context ss) cs)

  -- expressions each by itself, behind others
  pub worths : Meaning → Terms → List Sizing → Values → Joined → Found Joined
  worths m term.none ss cs j = (j, cs)
  worths m (term.more t ts) ss cs j =
      worths m ts (behind ss) (worth m t ss (own_context ss) cs).1 (joined j (own_size ss).length (worth m t ss (own_context ss) cs).0)
