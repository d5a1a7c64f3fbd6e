-- Plain sides of assigns, made of signals, constants, selects at fixed places and concatenations of these alone; and their bits.
use Rattle.std.specs.Prelude.{ℕ, Bool, true, false, List, [], map, pos}
use Rattle.std.specs.List.{list_all}
use Rattle.design_core.specs.declared.tree.DBase.{DBase}
use Rattle.design_core.specs.declared.tree.DBase.TheVariants as base
use Rattle.design_core.specs.declared.tree.DExpr.{DExpr, DExpr-F, fold-DExpr}
use Rattle.design_core.specs.declared.tree.DLeft.{DLeft, fold-DLeft}
use Rattle.design_core.specs.declared.tree.DLeft.TheOpen.{DLeft-F, DNode-F, DStmt-F, DArm-F, DFunction-F, DMatch-F}
use Rattle.design_core.specs.declared.tree.DNode.{DNode, fold-DNode}
use Rattle.design_core.specs.Terms.{size_of}
use Rattle.bit_assigns.specs.declared.bits.Source.{Source}
use Rattle.bit_assigns.specs.declared.bits.Source.TheVariants as source
use Rattle.bit_assigns.specs.declared.bits.Target.{Target}
use Rattle.bit_assigns.specs.Bits.{base_targets, span_sources, selected_sources, extended_sources, side_by_side}

-- a right side: whether it is plain, and its bits
pub record Right : Type 0 where
  pub plain : Bool
  pub sources : List Source

-- a left side: whether it is plain, and its bits, where a function gives the length of each signal
pub record LeftSide : Type 0 where
  pub plain : Bool
  pub targets : (ℕ → ℕ) → List Target

-- statements and functions have no part in plain sides
abbrev pub Other : Type 0
Other = Unit {0}

abbrev pub no_right : Right
no_right = record { plain = false; sources = [] }

-- a signal of the design, which is no local of a function
abbrev pub is_signal : DBase → Bool
is_signal (base.Signal s) = true
is_signal (base.Local k) = false

-- each kind of expression, at its length n
abbrev pub node_bits : DNode-F LeftSide (ℕ → Right) Other Other Right Other Other → ℕ → Right
node_bits (DNode-F.Const bits) n = record { plain = true; sources = map source.Known bits }
node_bits (DNode-F.Signal s) n = record { plain = true; sources = span_sources s n (pos 0) n }
node_bits (DNode-F.Local k) n = no_right
node_bits (DNode-F.Select a low) n = record { plain = a.plain; sources = selected_sources low n a.sources }
node_bits (DNode-F.SelectAt a index offset down) n = no_right
node_bits (DNode-F.Unary op a) n = no_right
node_bits (DNode-F.Binary op a b) n = no_right
node_bits (DNode-F.Mux c a b) n = no_right
node_bits (DNode-F.Extend a keeps) n = record { plain = a.plain; sources = extended_sources keeps n a.sources }
node_bits (DNode-F.«DNode::Concat» parts) n = record { plain = list_all (λ (x : Right). x.plain) parts; sources = side_by_side (map (λ (x : Right). x.sources) parts) }
node_bits (DNode-F.Repeat count part) n = no_right
node_bits (DNode-F.Call function arguments) n = no_right

-- each kind of left side
abbrev pub left_bits_of : DLeft-F LeftSide (ℕ → Right) Other Other Right Other Other → LeftSide
left_bits_of (DLeft-F.Whole b n) = record { plain = is_signal b; targets = λ size. base_targets b n (pos 0) n }
left_bits_of (DLeft-F.Part b low n) = record { plain = is_signal b; targets = λ size. base_targets b (size_of size b) low n }
left_bits_of (DLeft-F.At b index offset down n) = record { plain = false; targets = λ size. [] }
left_bits_of (DLeft-F.«DLeft::Concat» parts) = record {
  plain = list_all (λ (x : LeftSide). x.plain) parts;
  targets = λ size. side_by_side (map (λ (x : LeftSide). x.targets size) parts);
}

abbrev pub expr_bits : DExpr-F LeftSide (ℕ → Right) Other Other Right Other Other → Right
expr_bits x = x.node x.length

abbrev pub no_stmt : DStmt-F LeftSide (ℕ → Right) Other Other Right Other Other → Other
no_stmt x = tt

abbrev pub no_arm : DArm-F LeftSide (ℕ → Right) Other Other Right Other Other → Other
no_arm x = tt

abbrev pub no_function : DFunction-F LeftSide (ℕ → Right) Other Other Right Other Other → Other
no_function x = tt

abbrev pub no_match : DMatch-F LeftSide (ℕ → Right) Other Other Right Other Other → Other
no_match x = tt

-- the folds with these steps
abbrev pub right_of : DExpr → Right
right_of = fold-DExpr LeftSide (ℕ → Right) Other Other Right Other Other left_bits_of node_bits no_stmt no_arm expr_bits no_function no_match

abbrev pub right_of_node : DNode → ℕ → Right
right_of_node = fold-DNode LeftSide (ℕ → Right) Other Other Right Other Other left_bits_of node_bits no_stmt no_arm expr_bits no_function no_match

abbrev pub left_of : DLeft → LeftSide
left_of = fold-DLeft LeftSide (ℕ → Right) Other Other Right Other Other left_bits_of node_bits no_stmt no_arm expr_bits no_function no_match

-- the right side is plain
unfoldable pub is_plain_right : DExpr → Bool
is_plain_right e = (right_of e).plain

-- the bits of a plain right side
unfoldable pub right_bits : DExpr → List Source
right_bits e = (right_of e).sources

-- the left side is plain
unfoldable pub is_plain_left : DLeft → Bool
is_plain_left l = (left_of l).plain

-- the bits of a plain left side
unfoldable pub left_bits : (ℕ → ℕ) → DLeft → List Target
left_bits size l = (left_of l).targets size
