-- What is built uses as many values of counts as its sizing, and a constant has the length of its context.
use Rattle.std.proofs.Common.{◌≡◌, ℕ, ◌≤◌, Bool, true, false, List, [], length, refl, ap, ◌∙◌, Option, Some, None, arith}
use Rattle.std.proofs.lemmas.Bool.Decides.{nat_tests}
use Rattle.design_core.specs.declared.tree.DExpr.{DExpr}
use Rattle.vl_size.specs.declared.constant.Const.{Const}
use Rattle.vl_size.specs.declared.operators.SystemFunction.{SystemFunction}
use Rattle.vl_size.specs.declared.operators.SystemFunction.TheVariants as s
use Rattle.vl_size.specs.declared.table.SizeEntry.{SizeEntry}
use Rattle.vl_size.specs.declared.tree.Size.{Size}
use Rattle.vl_size.specs.declared.tree.Sizing.{Sizing}
use Rattle.vl_size.specs.Constants.{behind_next}
use Rattle.vl_size.specs.Owns.{Found, own, owns, own_picks, own_pick, inputs_of, other_inputs}
use Rattle.vl_size.specs.Terms.{Term, Terms, Pick, Picks, number, name, call, system, concat, repeat, group, unary, binary, choice, index, range, up, down, whole, pick}
use Rattle.vl_size.specs.Terms as term
use Rattle.vl_elab_trees.specs.declared.nodes.Form.{Form}
use Rattle.vl_elab_trees.specs.declared.places.Index.{Index}
use Rattle.vl_elab_trees.specs.Nodes.{form_of}
use Rattle.vl_elab_trees.specs.Built.{built, builts, picked, aimed, by_form, by_function, by_index, constant_in, fixed_in}
use Rattle.vl_elab_trees.specs.Scopes.{Meaning, valued}
use Rattle.vl_const.proofs.WorthLaws.{rest_is, value_long}
use Rattle.vl_const.specs.Rooms.{room}
use Rattle.vl_const.specs.Streams.{first_node, inside, behind, own_context, part_context}

room_same : (n : ℕ) → 1 ≤ n → n ≤ 65536 → room n ≡ n
room_same n l k = grind (arith, nat_tests, l, k)

pub valued_long : (m : Meaning) (t : Term) (ss : List Sizing) (x : Size) (cs : List Const) → 1 ≤ x.length → x.length ≤ 65536 → length (valued m t ss x cs).0 ≡ x.length
valued_long m t ss x cs l k = value_long m.known t ss x (cs, []) ∙ room_same x.length l k

form_rest : (f : Option Form) (x : Size) (v a : Found DExpr) (next : List Const → Found DExpr) (end : List Const) → v.1 ≡ end → (next a.1).1 ≡ end → (by_form f x v a next).1 ≡ end
form_rest None x v a next end e g = e
form_rest (Some f) x v a next end e g = g

function_rest : (f : SystemFunction) (x : Size) (v a : Found DExpr) (end : List Const) → v.1 ≡ end → a.1 ≡ end → (by_function f x v a).1 ≡ end
function_rest s.Signed x v a end e g = g
function_rest s.Unsigned x v a end e g = g
function_rest s.CeilingLog x v a end e g = e

index_rest : (c : Bool) (v : Found Index) (i : Found DExpr) (end : List Const) → v.1 ≡ end → i.1 ≡ end → (by_index c v i).1 ≡ end
index_rest true v i end e g = e
index_rest false v i end e g = g

module _ (m : Meaning) where
  mutual
    pub built_rest : (t : Term) (ss : List Sizing) (x : Size) (cs : List Const) → (built m t ss x cs).1 ≡ (own m.known.look t cs).1
    built_rest (number text) ss x cs = rest_is m.known (number text) ss x (cs, [])
    built_rest (name w ps) ss x cs = picked_rest w ps (inside ss) cs
    built_rest (call w ts) ss x cs = builts_rest ts (inside ss) (inputs_of (m.known.look w)) cs
    built_rest (system f a) ss x cs = function_rest f x (constant_in m (system f a) ss x cs) _ _ (rest_is m.known (system f a) ss x (cs, [])) (built_rest a (inside ss) (own_context (inside ss)) cs)
    built_rest (concat ts) ss x cs = builts_rest ts (inside ss) [] cs
    built_rest (repeat c ts) ss x cs = builts_rest ts (inside ss) [] (behind_next cs)
    built_rest (group a) ss x cs = built_rest a (inside ss) x cs
    built_rest (unary op a) ss x cs = built_rest a (inside ss) (part_context ss x true (inside ss)) cs
    built_rest (binary op a c) ss x cs =
        form_rest (form_of op) x (constant_in m (binary op a c) ss x cs) (built m a (inside ss) (part_context ss x true (inside ss)) cs) (built m c (behind (inside ss)) (part_context ss x false (behind (inside ss)))) _
        (rest_is m.known (binary op a c) ss x (cs, []))
        (built_rest c (behind (inside ss)) (part_context ss x false (behind (inside ss))) _ ∙ ap (λ ds. (own m.known.look c ds).1) (built_rest a (inside ss) (part_context ss x true (inside ss)) cs))
    built_rest (choice t a c) ss x cs =
        built_rest c (behind (behind (inside ss))) (part_context ss x false (behind (behind (inside ss)))) _
        ∙ ap (λ ds. (own m.known.look c ds).1) (built_rest a (behind (inside ss)) (part_context ss x false (behind (inside ss))) _ ∙ ap (λ ds. (own m.known.look a ds).1) (built_rest t (inside ss) (part_context ss x true (inside ss)) cs))

    picked_rest : (w : List ℕ) (ps : Picks) (ss : List Sizing) (cs : List Const) → (picked m w (m.known.look w) ps ss cs).1 ≡ (own_picks m.known.look (m.known.look w) ps cs).1
    picked_rest w whole ss cs = refl
    picked_rest w (pick p ps) ss cs = aimed_rest (m.known.look w) p ss cs

    pub aimed_rest : (e : Option SizeEntry) (p : Pick) (ss : List Sizing) (cs : List Const) → (aimed m p ss cs).1 ≡ (own_pick m.known.look e p cs).1
    aimed_rest e (index a) ss cs = (index_rest (first_node ss).constant (fixed_in m a ss cs) _ _ (rest_is m.known a ss (own_context ss) (cs, [])) (built_rest a ss (own_context ss) cs))
    aimed_rest e (range b l) ss cs = refl
    aimed_rest e (up a w) ss cs = ap behind_next (index_rest (first_node ss).constant (fixed_in m a ss cs) _ _ (rest_is m.known a ss (own_context ss) (cs, [])) (built_rest a ss (own_context ss) cs))
    aimed_rest e (down a w) ss cs = ap behind_next (index_rest (first_node ss).constant (fixed_in m a ss cs) _ _ (rest_is m.known a ss (own_context ss) (cs, [])) (built_rest a ss (own_context ss) cs))

    builts_rest : (ts : Terms) (ss : List Sizing) (is : List ℕ) (cs : List Const) → (builts m ts ss cs).1 ≡ (owns m.known.look ts is cs).1
    builts_rest term.none ss is cs = refl
    builts_rest (term.more t ts) ss is cs = builts_rest ts (behind ss) (other_inputs is) _ ∙ ap (λ ds. (owns m.known.look ts (other_inputs is) ds).1) (built_rest t ss (own_context ss) cs)
