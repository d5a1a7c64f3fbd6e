-- Whether a side is plain, and its bits: one equation for each kind of expression and of left side.
use Rattle.std.proofs.Common.{◌≡◌, ℕ, Bool, true, false, ◌&&◌, List, [], ◌∷◌, map, refl, ◌∙◌, ap, ℤ, pos}
use Rattle.std.specs.List.{list_all}
use Rattle.design_core.specs.declared.operators.Unary.{Unary}
use Rattle.design_core.specs.declared.operators.Binary.{Binary}
use Rattle.design_core.specs.declared.tree.DBase.{DBase}
use Rattle.design_core.specs.declared.tree.DExpr.{DExpr, fold_out-DExpr}
use Rattle.design_core.specs.declared.tree.DLeft.{DLeft, out-DLeft, fold_out-DLeft, map-DLeft}
use Rattle.design_core.specs.declared.tree.DLeft.TheOpen.{DLeft-F, DNode-F}
use Rattle.design_core.specs.declared.tree.DLeft.TheVariants as lefts
use Rattle.design_core.specs.declared.tree.DNode.{DNode, out-DNode, fold_out-DNode, map-DNode}
use Rattle.design_core.specs.declared.tree.DNode.TheVariants as node
use Rattle.design_core.specs.declared.tree.DStmt.{DStmt, fold-DStmt}
use Rattle.design_core.specs.declared.tree.DArm.{DArm, fold-DArm}
use Rattle.design_core.specs.declared.tree.DFunction.{DFunction, fold-DFunction}
use Rattle.design_core.specs.declared.tree.DMatch.{DMatch, fold-DMatch}
use Rattle.design_core.specs.Terms.{size_of}
use Rattle.bit_assigns.specs.declared.bits.Source.{Source}
use Rattle.bit_assigns.specs.declared.bits.Source.TheVariants as source
use Rattle.bit_assigns.specs.declared.bits.Target.{Target}
use Rattle.bit_assigns.specs.Bits.{base_targets, span_sources, selected_sources, extended_sources, side_by_side}
use Rattle.bit_assigns.specs.Sides.{Right, LeftSide, Other, is_signal, node_bits, left_bits_of, expr_bits, no_stmt, no_arm, no_function, no_match, right_of, right_of_node, left_of, is_plain_right, right_bits, is_plain_left, left_bits}

abbrev stmt_of : DStmt → Other
stmt_of = fold-DStmt LeftSide (ℕ → Right) Other Other Right Other Other left_bits_of node_bits no_stmt no_arm expr_bits no_function no_match

abbrev arm_of : DArm → Other
arm_of = fold-DArm LeftSide (ℕ → Right) Other Other Right Other Other left_bits_of node_bits no_stmt no_arm expr_bits no_function no_match

abbrev function_of : DFunction → Other
function_of = fold-DFunction LeftSide (ℕ → Right) Other Other Right Other Other left_bits_of node_bits no_stmt no_arm expr_bits no_function no_match

abbrev match_of : DMatch → Other
match_of = fold-DMatch LeftSide (ℕ → Right) Other Other Right Other Other left_bits_of node_bits no_stmt no_arm expr_bits no_function no_match

abbrev node_parts : DNode-F DLeft DNode DStmt DArm DExpr DFunction DMatch → DNode-F LeftSide (ℕ → Right) Other Other Right Other Other
node_parts = map-DNode DLeft DNode DStmt DArm DExpr DFunction DMatch LeftSide (ℕ → Right) Other Other Right Other Other left_of right_of_node stmt_of arm_of right_of function_of match_of

abbrev left_parts : DLeft-F DLeft DNode DStmt DArm DExpr DFunction DMatch → DLeft-F LeftSide (ℕ → Right) Other Other Right Other Other
left_parts = map-DLeft DLeft DNode DStmt DArm DExpr DFunction DMatch LeftSide (ℕ → Right) Other Other Right Other Other left_of right_of_node stmt_of arm_of right_of function_of match_of

-- a node at its length
node_out : (d : DNode) (n : ℕ) (x : DNode-F DLeft DNode DStmt DArm DExpr DFunction DMatch) → out-DNode d ≡ x → right_of_node d n ≡ node_bits (node_parts x) n
node_out d n x is = ap (λ (f : ℕ → Right). f n) (fold_out-DNode LeftSide (ℕ → Right) Other Other Right Other Other left_bits_of node_bits no_stmt no_arm expr_bits no_function no_match d)
    ∙ ap (λ y. node_bits (node_parts y) n) is

right_out : (e : DExpr) → right_of e ≡ right_of_node e.node e.length
right_out e = fold_out-DExpr LeftSide (ℕ → Right) Other Other Right Other Other left_bits_of node_bits no_stmt no_arm expr_bits no_function no_match e

left_out : (l : DLeft) (x : DLeft-F DLeft DNode DStmt DArm DExpr DFunction DMatch) → out-DLeft l ≡ x → left_of l ≡ left_bits_of (left_parts x)
left_out l x is = fold_out-DLeft LeftSide (ℕ → Right) Other Other Right Other Other left_bits_of node_bits no_stmt no_arm expr_bits no_function no_match l
    ∙ ap (λ y. left_bits_of (left_parts y)) is

-- an expression by its node and its length
unfoldable pub plain_node : DNode → ℕ → Bool
plain_node d n = (right_of_node d n).plain

unfoldable pub bits_node : DNode → ℕ → List Source
bits_node d n = (right_of_node d n).sources

pub plain_by_node : (e : DExpr) → is_plain_right e ≡ plain_node e.node e.length
unfolding is_plain_right plain_node
plain_by_node e = ap (λ (r : Right). r.plain) (right_out e)

pub bits_by_node : (e : DExpr) → right_bits e ≡ bits_node e.node e.length
unfolding right_bits bits_node
bits_by_node e = ap (λ (r : Right). r.sources) (right_out e)

-- lists
plain_rights : (es : List DExpr) → list_all (λ (x : Right). x.plain) (map right_of es) ≡ list_all is_plain_right es
unfolding is_plain_right
plain_rights [] = refl
plain_rights (e ∷ es) = ap (λ x. (right_of e).plain && x) (plain_rights es)

bits_rights : (es : List DExpr) → map (λ (x : Right). x.sources) (map right_of es) ≡ map right_bits es
unfolding right_bits
bits_rights [] = refl
bits_rights (e ∷ es) = ap (λ x. (right_of e).sources ∷ x) (bits_rights es)

plain_lefts : (ls : List DLeft) → list_all (λ (x : LeftSide). x.plain) (map left_of ls) ≡ list_all is_plain_left ls
unfolding is_plain_left
plain_lefts [] = refl
plain_lefts (l ∷ ls) = ap (λ x. (left_of l).plain && x) (plain_lefts ls)

bits_lefts : (size : ℕ → ℕ) (ls : List DLeft) → map (λ (x : LeftSide). x.targets size) (map left_of ls) ≡ map (left_bits size) ls
unfolding left_bits
bits_lefts size [] = refl
bits_lefts size (l ∷ ls) = ap (λ x. (left_of l).targets size ∷ x) (bits_lefts size ls)

abbrev plain : Right → Bool
plain r = r.plain

abbrev sources : Right → List Source
sources r = r.sources

module _ (n : ℕ) where
  pub plain-Const : (bits : List Bool) → plain_node (node.Const bits) n ≡ true
  unfolding plain_node
  plain-Const bits = ap plain (node_out (node.Const bits) n (DNode-F.Const bits) (node.outs-Const bits))

  pub plain-Signal : (s : ℕ) → plain_node (node.Signal s) n ≡ true
  unfolding plain_node
  plain-Signal s = ap plain (node_out (node.Signal s) n (DNode-F.Signal s) (node.outs-Signal s))

  pub plain-Local : (k : ℕ) → plain_node (node.Local k) n ≡ false
  unfolding plain_node
  plain-Local k = ap plain (node_out (node.Local k) n (DNode-F.Local k) (node.outs-Local k))

  pub plain-Select : (a : DExpr) (low : ℤ) → plain_node (node.Select a low) n ≡ is_plain_right a
  unfolding plain_node is_plain_right
  plain-Select a low = ap plain (node_out (node.Select a low) n (DNode-F.Select a low) (node.outs-Select a low))

  pub plain-SelectAt : (a index : DExpr) (offset : ℤ) (down : Bool) → plain_node (node.SelectAt a index offset down) n ≡ false
  unfolding plain_node
  plain-SelectAt a index offset down = ap plain (node_out (node.SelectAt a index offset down) n (DNode-F.SelectAt a index offset down) (node.outs-SelectAt a index offset down))

  pub plain-Unary : (op : Unary) (a : DExpr) → plain_node (node.Unary op a) n ≡ false
  unfolding plain_node
  plain-Unary op a = ap plain (node_out (node.Unary op a) n (DNode-F.Unary op a) (node.outs-Unary op a))

  pub plain-Binary : (op : Binary) (a b : DExpr) → plain_node (node.Binary op a b) n ≡ false
  unfolding plain_node
  plain-Binary op a b = ap plain (node_out (node.Binary op a b) n (DNode-F.Binary op a b) (node.outs-Binary op a b))

  pub plain-Mux : (c a b : DExpr) → plain_node (node.Mux c a b) n ≡ false
  unfolding plain_node
  plain-Mux c a b = ap plain (node_out (node.Mux c a b) n (DNode-F.Mux c a b) (node.outs-Mux c a b))

  pub plain-Extend : (a : DExpr) (keeps : Bool) → plain_node (node.Extend a keeps) n ≡ is_plain_right a
  unfolding plain_node is_plain_right
  plain-Extend a keeps = ap plain (node_out (node.Extend a keeps) n (DNode-F.Extend a keeps) (node.outs-Extend a keeps))

  pub plain-Concat : (parts : List DExpr) → plain_node (node.Concat parts) n ≡ list_all is_plain_right parts
  unfolding plain_node
  plain-Concat parts = ap plain (node_out (node.Concat parts) n (DNode-F.«DNode::Concat» parts) (node.outs-Concat parts)) ∙ plain_rights parts

  pub plain-Repeat : (count : ℕ) (part : DExpr) → plain_node (node.Repeat count part) n ≡ false
  unfolding plain_node
  plain-Repeat count part = ap plain (node_out (node.Repeat count part) n (DNode-F.Repeat count part) (node.outs-Repeat count part))

  pub plain-Call : (f : DFunction) (arguments : List DExpr) → plain_node (node.Call f arguments) n ≡ false
  unfolding plain_node
  plain-Call f arguments = ap plain (node_out (node.Call f arguments) n (DNode-F.Call f arguments) (node.outs-Call f arguments))

  pub bits-Const : (bits : List Bool) → bits_node (node.Const bits) n ≡ map source.Known bits
  unfolding bits_node
  bits-Const bits = ap sources (node_out (node.Const bits) n (DNode-F.Const bits) (node.outs-Const bits))

  pub bits-Signal : (s : ℕ) → bits_node (node.Signal s) n ≡ span_sources s n (pos 0) n
  unfolding bits_node
  bits-Signal s = ap sources (node_out (node.Signal s) n (DNode-F.Signal s) (node.outs-Signal s))

  pub bits-Local : (k : ℕ) → bits_node (node.Local k) n ≡ []
  unfolding bits_node
  bits-Local k = ap sources (node_out (node.Local k) n (DNode-F.Local k) (node.outs-Local k))

  pub bits-Select : (a : DExpr) (low : ℤ) → bits_node (node.Select a low) n ≡ selected_sources low n (right_bits a)
  unfolding bits_node right_bits
  bits-Select a low = ap sources (node_out (node.Select a low) n (DNode-F.Select a low) (node.outs-Select a low))

  pub bits-SelectAt : (a index : DExpr) (offset : ℤ) (down : Bool) → bits_node (node.SelectAt a index offset down) n ≡ []
  unfolding bits_node
  bits-SelectAt a index offset down = ap sources (node_out (node.SelectAt a index offset down) n (DNode-F.SelectAt a index offset down) (node.outs-SelectAt a index offset down))

  pub bits-Unary : (op : Unary) (a : DExpr) → bits_node (node.Unary op a) n ≡ []
  unfolding bits_node
  bits-Unary op a = ap sources (node_out (node.Unary op a) n (DNode-F.Unary op a) (node.outs-Unary op a))

  pub bits-Binary : (op : Binary) (a b : DExpr) → bits_node (node.Binary op a b) n ≡ []
  unfolding bits_node
  bits-Binary op a b = ap sources (node_out (node.Binary op a b) n (DNode-F.Binary op a b) (node.outs-Binary op a b))

  pub bits-Mux : (c a b : DExpr) → bits_node (node.Mux c a b) n ≡ []
  unfolding bits_node
  bits-Mux c a b = ap sources (node_out (node.Mux c a b) n (DNode-F.Mux c a b) (node.outs-Mux c a b))

  pub bits-Extend : (a : DExpr) (keeps : Bool) → bits_node (node.Extend a keeps) n ≡ extended_sources keeps n (right_bits a)
  unfolding bits_node right_bits
  bits-Extend a keeps = ap sources (node_out (node.Extend a keeps) n (DNode-F.Extend a keeps) (node.outs-Extend a keeps))

  pub bits-Concat : (parts : List DExpr) → bits_node (node.Concat parts) n ≡ side_by_side (map right_bits parts)
  unfolding bits_node
  bits-Concat parts = ap sources (node_out (node.Concat parts) n (DNode-F.«DNode::Concat» parts) (node.outs-Concat parts)) ∙ ap (side_by_side {A = Source}) (bits_rights parts)

  pub bits-Repeat : (count : ℕ) (part : DExpr) → bits_node (node.Repeat count part) n ≡ []
  unfolding bits_node
  bits-Repeat count part = ap sources (node_out (node.Repeat count part) n (DNode-F.Repeat count part) (node.outs-Repeat count part))

  pub bits-Call : (f : DFunction) (arguments : List DExpr) → bits_node (node.Call f arguments) n ≡ []
  unfolding bits_node
  bits-Call f arguments = ap sources (node_out (node.Call f arguments) n (DNode-F.Call f arguments) (node.outs-Call f arguments))

abbrev left_plain : LeftSide → Bool
left_plain x = x.plain

pub plain-Whole : (b : DBase) (n : ℕ) → is_plain_left (lefts.Whole b n) ≡ is_signal b
unfolding is_plain_left
plain-Whole b n = ap left_plain (left_out (lefts.Whole b n) (DLeft-F.Whole b n) (lefts.outs-Whole b n))

pub plain-Part : (b : DBase) (low : ℤ) (n : ℕ) → is_plain_left (lefts.Part b low n) ≡ is_signal b
unfolding is_plain_left
plain-Part b low n = ap left_plain (left_out (lefts.Part b low n) (DLeft-F.Part b low n) (lefts.outs-Part b low n))

pub plain-At : (b : DBase) (index : DExpr) (offset : ℤ) (down : Bool) (n : ℕ) → is_plain_left (lefts.At b index offset down n) ≡ false
unfolding is_plain_left
plain-At b index offset down n = ap left_plain (left_out (lefts.At b index offset down n) (DLeft-F.At b index offset down n) (lefts.outs-At b index offset down n))

pub plain-Parts : (parts : List DLeft) → is_plain_left (lefts.Concat parts) ≡ list_all is_plain_left parts
unfolding is_plain_left
plain-Parts parts = ap left_plain (left_out (lefts.Concat parts) (DLeft-F.«DLeft::Concat» parts) (lefts.outs-Concat parts)) ∙ plain_lefts parts

module _ (size : ℕ → ℕ) where
  abbrev targets : LeftSide → List Target
  targets x = x.targets size

  pub bits-Whole : (b : DBase) (n : ℕ) → left_bits size (lefts.Whole b n) ≡ base_targets b n (pos 0) n
  unfolding left_bits
  bits-Whole b n = ap targets (left_out (lefts.Whole b n) (DLeft-F.Whole b n) (lefts.outs-Whole b n))

  pub bits-Part : (b : DBase) (low : ℤ) (n : ℕ) → left_bits size (lefts.Part b low n) ≡ base_targets b (size_of size b) low n
  unfolding left_bits
  bits-Part b low n = ap targets (left_out (lefts.Part b low n) (DLeft-F.Part b low n) (lefts.outs-Part b low n))

  pub bits-At : (b : DBase) (index : DExpr) (offset : ℤ) (down : Bool) (n : ℕ) → left_bits size (lefts.At b index offset down n) ≡ []
  unfolding left_bits
  bits-At b index offset down n = ap targets (left_out (lefts.At b index offset down n) (DLeft-F.At b index offset down n) (lefts.outs-At b index offset down n))

  pub bits-Parts : (parts : List DLeft) → left_bits size (lefts.Concat parts) ≡ side_by_side (map (left_bits size) parts)
  unfolding left_bits
  bits-Parts parts = ap targets (left_out (lefts.Concat parts) (DLeft-F.«DLeft::Concat» parts) (lefts.outs-Concat parts)) ∙ ap (side_by_side {A = Target}) (bits_lefts size parts)
