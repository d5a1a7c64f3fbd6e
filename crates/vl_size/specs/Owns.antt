-- An expression before it has a context: the values of counts, bounds and widths are taken off a list in source order.
use Rattle.std.specs.Prelude.{ℕ, List, [], ◌∷◌, ◌++◌, Option, Some, None}
use Rattle.vl_size.specs.declared.table.SizeEntry.{SizeEntry}
use Rattle.vl_size.specs.declared.constant.Const.{Const}
use Rattle.vl_size.specs.declared.tree.Node.{Node}
use Rattle.vl_size.specs.Tables.{Look}
use Rattle.vl_size.specs.Terms.{Term, Terms, Pick, Picks, number, name, call, system, concat, repeat, group, unary, binary, choice, index, range, up, down, whole, pick}
use Rattle.vl_size.specs.Terms as term
use Rattle.vl_size.specs.declared.tree.Sizing.{Sizing}
use Rattle.vl_size.specs.Sizings.{sizing_of, node_of, parts_of}
use Rattle.vl_size.specs.Constants.{next_value, next_number, behind_next}
use Rattle.vl_size.specs.Nodes.{number_node, name_node, call_node, system_node, concat_node, repeat_node, group_node, unary_node, binary_node, choice_node, index_node, range_node, part_node}

-- what was found, and the values behind it
abbrev pub Found : Type 0 → Type 0
Found A = A × List Const

abbrev pub on : {A B : Type 0} → (A → B) → Found A → Found B
on f r = (f r.0, r.1)

abbrev pub and_then : {A B C : Type 0} → (A → B → C) → Found A → (List Const → Found B) → Found C
and_then f r next = (f r.0 (next r.1).0, (next r.1).1)

abbrev pub and_then_two : {A B C D : Type 0} → (A → B → C → D) → Found A → (List Const → Found B) → (List Const → Found C) → Found D
and_then_two f r next last = (f r.0 (next r.1).0 (last (next r.1).1).0, (last (next r.1).1).1)

-- the lengths of the inputs that arguments go to
abbrev pub first_input : List ℕ → ℕ
first_input [] = 0
first_input (n ∷ ns) = n

abbrev pub other_inputs : List ℕ → List ℕ
other_inputs [] = []
other_inputs (n ∷ ns) = ns

abbrev pub with_least : ℕ → Node → Node
with_least n x = record { size = x.size; least = n; operands = x.operands; narrow = x.narrow; constant = x.constant; fault = x.fault }

abbrev pub at_least : ℕ → Sizing → Sizing
at_least n t = sizing_of (with_least n (node_of t)) (parts_of t)

abbrev pub inputs_of : Option SizeEntry → List ℕ
inputs_of None = []
inputs_of (Some e) = e.inputs

abbrev mutual
  pub own : Look → Term → List Const → Found Sizing
  own look (number text) cs = (number_node text, cs)
  own look (name x ps) cs = own_picks look (look x) ps cs
  own look (call x ts) cs = on (call_node (look x)) (owns look ts (inputs_of (look x)) cs)
  own look (system f a) cs = on (system_node f) (own look a cs)
  own look (concat ts) cs = on concat_node (owns look ts [] cs)
  own look (repeat c ts) cs = on (repeat_node (next_value cs)) (owns look ts [] (behind_next cs))
  own look (group a) cs = on group_node (own look a cs)
  own look (unary op a) cs = on (unary_node op) (own look a cs)
  own look (binary op a c) cs = and_then (binary_node op) (own look a cs) (own look c)
  own look (choice t a c) cs = and_then_two choice_node (own look t cs) (own look a) (own look c)

  -- Several selects are for arrays, which are still to come: the first alone counts.
  pub own_picks : Look → Option SizeEntry → Picks → List Const → Found Sizing
  own_picks look e whole cs = (name_node e, cs)
  own_picks look e (pick p ps) cs = own_pick look e p cs

  pub own_pick : Look → Option SizeEntry → Pick → List Const → Found Sizing
  own_pick look e (index a) cs = on (index_node e) (own look a cs)
  own_pick look e (range h l) cs = (range_node e (next_number cs) (next_number (behind_next cs)), behind_next (behind_next cs))
  own_pick look e (up a w) cs = and_then (part_node e) (own look a cs) (λ ds. (next_value ds, behind_next ds))
  own_pick look e (down a w) cs = and_then (part_node e) (own look a cs) (λ ds. (next_value ds, behind_next ds))

  pub owns : Look → Terms → List ℕ → List Const → Found (List Sizing)
  owns look term.none is cs = ([], cs)
  owns look (term.more t ts) is cs = and_then ◌∷◌ (on (at_least (first_input is)) (own look t cs)) (owns look ts (other_inputs is))

-- what comes behind parts that are found already
abbrev pub with_front : List Sizing → Found (List Sizing) → Found (List Sizing)
with_front front r = (front ++ r.0, r.1)
