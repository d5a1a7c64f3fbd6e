-- Arguments: an expression in the context of an input, and lists of these.
use Rattle.std.proofs.Common.{◌≡◌, ℕ, ◌≤◌, max, true, false, List, [], ◌∷◌, map, refl, sym, ap, ◌∙◌, None, arith}
use Rattle.std.specs.Prelude.{nat_le, nat_eq}
use Rattle.std.proofs.lemmas.Bool.Decides.{nat_tests}
use Rattle.design_core.proofs.BoolLaws.{true_both}
use Rattle.design_core.proofs.FormedLaws as f
use Rattle.design_core.specs.declared.tree.DExpr.{DExpr}
use Rattle.design_core.specs.declared.tree.DNode.TheVariants as node
use Rattle.design_core.specs.Formed.{all_formed, arguments_fit, sized_expr}
use Rattle.vl_size.specs.declared.constant.Const.{Const}
use Rattle.vl_size.specs.declared.tree.Size.{Size}
use Rattle.vl_size.specs.declared.tree.Sizing.{Sizing, Sizing-F}
use Rattle.vl_size.specs.Constants.{next_value, behind_next}
use Rattle.vl_size.specs.Nodes.{total}
use Rattle.vl_size.specs.Owns.{on, and_then_two, at_least, with_least}
use Rattle.vl_size.specs.Placed.{placing, is_wide, is_some_wide, alone, context}
use Rattle.vl_size.specs.Sizings.{node_of, parts_of, length_of, common}
use Rattle.vl_size.specs.Terms.{Term, number, name, call, system, concat, repeat, group, unary, binary, choice}
use Rattle.vl_size.proofs.PlacingLaws.{placing_wide}
use Rattle.vl_const.specs.Answers.{system_made, binary_made}
use Rattle.vl_const.specs.Operators.{work_of}
use Rattle.vl_const.specs.Streams.{first_node, behind, own_context}
use Rattle.vl_const.specs.Values as values
use Rattle.vl_const.specs.Worths.{worth, sign_by}
use Rattle.vl_elab_trees.specs.Built.{built, builts, picked, by_form, by_function}
use Rattle.vl_elab_trees.specs.Formed.{IsSound}
use Rattle.vl_elab_trees.specs.Nodes.{apart, before_of, choice_made, constant, form_of, repeated, unary_made}
use Rattle.vl_elab_trees.specs.Scopes.{Meaning}
use Rattle.vl_elab_trees.proofs.KnownLaws.{IsSmall, not_empty, out_of}
use Rattle.vl_elab_trees.proofs.MadeLaws.{at_most}

module _ (vs ls : List ℕ) where
  -- formed arguments, as long as the inputs at least
  pub record IsArguments (es : List DExpr) (is : List ℕ) : Type 0 where
    pub formed : all_formed (map (sized_expr vs) es) ls ≡ true
    pub fit : arguments_fit is (map (sized_expr vs) es) ≡ true

  pub one_argument : (n : ℕ) (is : List ℕ) (e : DExpr) (es : List DExpr) → (sized_expr vs e).formed ls ≡ true → n ≤ e.length → IsArguments es is → IsArguments (e ∷ es) (n ∷ is)
  one_argument n is e es h l rest = record {
    formed = true_both _ _ h rest.formed;
    fit = true_both _ _ (ap (nat_le n) (f.sized_length vs e) ∙ at_most n e.length l) rest.fit;
  }

pub below_most : (n : ℕ) → nat_le n 65536 ≡ true → n ≤ 65536
below_most n e = grind (arith, nat_tests, e)

-- nothing is wrong with an expression in the context of its input
pub record Argument (n : ℕ) (s : Sizing) : Type 0 where
  pub sound : IsSound s (alone (node_of (at_least n s)))
  pub long : n ≤ (alone (node_of (at_least n s))).length

pub argument_sound : (n : ℕ) (s : Sizing) → IsSmall s → n ≤ 65536 → (node_of (at_least n s)).fault ≡ None → (placing (at_least n s)).wide (alone (node_of (at_least n s))) ≡ false
    → nat_eq (length_of (at_least n s)) 0 ≡ false → Argument n s
argument_sound n s small most fault wide full =
    let t = at_least n s in
    let y = alone (node_of t) in
    let out = out_of (with_least n (node_of s)) (parts_of s) in
    let long : length_of t ≡ length_of s = ap (λ (z : Sizing-F Sizing). z.node.size.length) out in
    let wanted : y.length ≡ max n (length_of s) = ap (λ (z : Sizing-F Sizing). max z.node.least z.node.size.length) out in
    let some = not_empty _ full in
    record {
      sound = record {
        fault = sym (ap (λ (z : Sizing-F Sizing). z.node.fault) out) ∙ fault;
        wide = placing_wide s y
            ∙ sym (ap (λ (z : Sizing-F Sizing). is_some_wide z.node.operands (common (map node_of z.parts)) y true (is_wide z.node.narrow y (map node_of z.parts)) (map placing z.parts)) out)
            ∙ sym (placing_wide t y) ∙ wide;
        some = omega (arith, long, some);
        within = omega (arith, wanted);
        most = omega (arith, wanted, most, small.short);
      };
      long = omega (arith, wanted);
    }

-- what is built reads nothing of the input that an argument goes to, but by its context
pub least_alike : (m : Meaning) (t : Term) (n : ℕ) (s : Sizing) (ss : List Sizing) (x : Size) (cs : List Const) → built m t (at_least n s ∷ ss) x cs ≡ built m t (s ∷ ss) x cs
least_alike m (number text) n s ss x cs = refl
least_alike m (name w ps) n s ss x cs = ap (λ (y : Sizing-F Sizing). on (apart y.node.size x) (picked m w (m.known.look w) ps y.parts cs)) (out_of (with_least n (node_of s)) (parts_of s))
least_alike m (call w ts) n s ss x cs = ap (λ (y : Sizing-F Sizing). on (λ es. apart y.node.size x (m.called w es)) (builts m ts y.parts cs)) (out_of (with_least n (node_of s)) (parts_of s))
least_alike m (system g a) n s ss x cs =
    ap (λ (y : Sizing-F Sizing).
    let w = worth m.known a y.parts (own_context y.parts) (cs, []) in
    by_function g x (constant x (system_made g x w.0).value, w.1.0) (built m a y.parts (own_context y.parts) cs))
    (out_of (with_least n (node_of s)) (parts_of s))
least_alike m (concat ts) n s ss x cs = ap (λ (y : Sizing-F Sizing). on (λ es. apart y.node.size x (node.Concat es)) (builts m ts y.parts cs)) (out_of (with_least n (node_of s)) (parts_of s))
least_alike m (repeat c ts) n s ss x cs =
    ap (λ (y : Sizing-F Sizing). on (λ es. apart y.node.size x (repeated (next_value cs) (total y.parts) es)) (builts m ts y.parts (behind_next cs))) (out_of (with_least n (node_of s)) (parts_of s))
least_alike m (group a) n s ss x cs = ap (λ (y : Sizing-F Sizing). built m a y.parts x cs) (out_of (with_least n (node_of s)) (parts_of s))
least_alike m (unary op a) n s ss x cs =
    ap (λ (y : Sizing-F Sizing). on (unary_made (before_of op) x) (built m a y.parts (context y.node.operands (common (map node_of y.parts)) x true (first_node y.parts)) cs))
    (out_of (with_least n (node_of s)) (parts_of s))
least_alike m (binary op a c) n s ss x cs =
    ap (λ (y : Sizing-F Sizing).
    let u = context y.node.operands (common (map node_of y.parts)) x true (first_node y.parts) in
    let v = context y.node.operands (common (map node_of y.parts)) x false (first_node (behind y.parts)) in
    let w = values.and_then (binary_made (work_of op) x (sign_by y.node.operands x.signed (common (map node_of y.parts)).signed) (is_wide y.node.narrow x (map node_of y.parts)) (first_node (behind y.parts)).fault
    (own_context (behind y.parts)).signed) (worth m.known a y.parts u (cs, [])) (worth m.known c (behind y.parts) v) in
    by_form (form_of op) x (constant x w.0.value, w.1.0) (built m a y.parts u cs) (built m c (behind y.parts) v))
    (out_of (with_least n (node_of s)) (parts_of s))
least_alike m (choice t a c) n s ss x cs =
    ap (λ (y : Sizing-F Sizing).
    let u = context y.node.operands (common (map node_of y.parts)) x true (first_node y.parts) in
    let v = context y.node.operands (common (map node_of y.parts)) x false (first_node (behind y.parts)) in
    let w = context y.node.operands (common (map node_of y.parts)) x false (first_node (behind (behind y.parts))) in
    and_then_two (choice_made x) (built m t y.parts u cs) (built m a (behind y.parts) v) (built m c (behind (behind y.parts)) w))
    (out_of (with_least n (node_of s)) (parts_of s))
