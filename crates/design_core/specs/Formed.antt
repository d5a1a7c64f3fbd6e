-- Formed trees and their weights: each expression, operand, argument, branch, item of a case and left side has the length that belongs there,
-- names its own signals and locals, and is within the limits of vectors and arithmetic.
use Rattle.std.specs.Prelude.{◌≡◌, ℕ, ◌+◌, ◌*◌, max, Bool, true, false, not, ◌&&◌, ◌==◌, nat_lt, nat_le, if◌then◌else◌, List, [], ◌∷◌, ◌++◌, length, map, sum, slice_index_or, Option, Some, None}
use Rattle.std.specs.List.{list_all}
use Rattle.design_core.specs.declared.operators.Unary.{Unary}
use Rattle.design_core.specs.declared.operators.Unary.TheVariants as unary
use Rattle.design_core.specs.declared.operators.Binary.{Binary}
use Rattle.design_core.specs.declared.operators.Binary.TheVariants as binary
use Rattle.design_core.specs.declared.tree.DBase.{DBase}
use Rattle.design_core.specs.declared.tree.DBase.TheVariants as base
use Rattle.design_core.specs.declared.tree.DExpr.{DExpr, DExpr-F, fold-DExpr}
use Rattle.design_core.specs.declared.tree.DLeft.{DLeft, fold-DLeft}
use Rattle.design_core.specs.declared.tree.DLeft.TheOpen.{DLeft-F, DNode-F, DStmt-F, DArm-F, DFunction-F, DMatch-F}
use Rattle.design_core.specs.declared.tree.DNode.{DNode, fold-DNode}
use Rattle.design_core.specs.declared.tree.DStmt.{DStmt, fold-DStmt}
use Rattle.design_core.specs.declared.tree.DArm.{DArm, fold-DArm}
use Rattle.design_core.specs.declared.tree.DFunction.{DFunction, fold-DFunction}
use Rattle.design_core.specs.declared.tree.DMatch.{DMatch, fold-DMatch}
use Rattle.design_core.specs.Terms.{lengths}

-- a vector, an expression or a replication has 1 to 65,536 bits
abbrev pub is_vector : ℕ → Bool
is_vector n = nat_le 1 n && nat_le n 65536

-- arithmetic, comparisons by size, shift amounts and variable indices have at most 128 bits
abbrev pub is_narrow : ℕ → Bool
is_narrow n = nat_le n 128

-- number k has length n in the list
abbrev pub has_length : List ℕ → ℕ → ℕ → Bool
has_length ns k n = nat_lt k (length ns) && (slice_index_or ns k 0 == n)

-- an expression: its length; whether it is formed and what it weighs, where the locals of the function round it have the given lengths
pub record Sized : Type 0 where
  pub length : ℕ
  pub formed : List ℕ → Bool
  pub weight : List ℕ → ℕ

-- what an expression is made of, at its length
pub record Node : Type 0 where
  pub formed : List ℕ → Bool
  pub weight : List ℕ → ℕ

-- a left side: its length, whether no index is variable, and whether it is formed: in a function it names locals alone, outside signals alone
pub record Place : Type 0 where
  pub length : ℕ
  pub fixed : Bool
  pub formed : List ℕ → Bool → Bool
  pub weight : List ℕ → ℕ

-- a statement: whether it is formed, by the locals, whether it stands in a function, and which kinds of writes it may have, told by whether they are blocking
pub record Body : Type 0 where
  pub formed : List ℕ → Bool → (Bool → Bool) → Bool
  pub weight : List ℕ → ℕ

-- an arm of a case: the number of its items, and whether it is formed for a selector of a length
pub record Branch : Type 0 where
  pub items : ℕ
  pub formed : ℕ → List ℕ → Bool → (Bool → Bool) → Bool
  pub weight : List ℕ → ℕ

-- a function: the lengths of its result and of its inputs
pub record Routine : Type 0 where
  pub length : ℕ
  pub inputs : List ℕ
  pub formed : Bool
  pub weight : ℕ

-- an item of a case
pub record Choice : Type 0 where
  pub formed : ℕ → List ℕ → Bool
  pub weight : List ℕ → ℕ

-- an operator's operand has the length that belongs there (5.4.1)
abbrev pub unary_fits : Unary → ℕ → ℕ → Bool
unary_fits unary.Negate n a = (n == a) && is_narrow n
unary_fits unary.Invert n a = n == a
unary_fits unary.Not n a = n == 1
unary_fits unary.And n a = n == 1
unary_fits unary.Nand n a = n == 1
unary_fits unary.Or n a = n == 1
unary_fits unary.Nor n a = n == 1
unary_fits unary.Xor n a = n == 1
unary_fits unary.Xnor n a = n == 1

-- the operands of arithmetic and bitwise operators have the length of the result, those of a comparison one length, and a shift the length of its left operand (5.4.1)
abbrev pub binary_fits : Binary → ℕ → ℕ → ℕ → Bool
binary_fits binary.Add n a b = (n == a) && (n == b) && is_narrow n
binary_fits binary.Sub n a b = (n == a) && (n == b) && is_narrow n
binary_fits binary.Mul n a b = (n == a) && (n == b) && is_narrow n
binary_fits binary.And n a b = (n == a) && (n == b)
binary_fits binary.Or n a b = (n == a) && (n == b)
binary_fits binary.Xor n a b = (n == a) && (n == b)
binary_fits binary.Xnor n a b = (n == a) && (n == b)
binary_fits binary.Less n a b = (n == 1) && (a == b) && is_narrow a
binary_fits binary.LessEqual n a b = (n == 1) && (a == b) && is_narrow a
binary_fits binary.Greater n a b = (n == 1) && (a == b) && is_narrow a
binary_fits binary.GreaterEqual n a b = (n == 1) && (a == b) && is_narrow a
binary_fits binary.Equal n a b = (n == 1) && (a == b)
binary_fits binary.NotEqual n a b = (n == 1) && (a == b)
binary_fits binary.LogicAnd n a b = n == 1
binary_fits binary.LogicOr n a b = n == 1
binary_fits binary.ShiftLeft n a b = (n == a) && is_narrow b
binary_fits binary.ShiftRight n a b = (n == a) && is_narrow b
binary_fits binary.ShiftRightSigned n a b = (n == a) && is_narrow b

-- the weight of an operator, beside its operands: 8 a bit for negation, else 1 a bit of the operand
abbrev pub unary_weight : Unary → ℕ → ℕ
unary_weight unary.Negate a = 8 * a
unary_weight unary.Invert a = a
unary_weight unary.Not a = a
unary_weight unary.And a = a
unary_weight unary.Nand a = a
unary_weight unary.Or a = a
unary_weight unary.Nor a = a
unary_weight unary.Xor a = a
unary_weight unary.Xnor a = a

-- 8 a bit for sums, differences and comparisons by size, 8 times the square for products, 17 a bit and the amount's length for shifts, else 1 a bit, of operands of two lengths the larger
abbrev pub binary_weight : Binary → ℕ → ℕ → ℕ
binary_weight binary.Add a b = 8 * a
binary_weight binary.Sub a b = 8 * a
binary_weight binary.Mul a b = 8 * a * a
binary_weight binary.And a b = a
binary_weight binary.Or a b = a
binary_weight binary.Xor a b = a
binary_weight binary.Xnor a b = a
binary_weight binary.Less a b = 8 * a
binary_weight binary.LessEqual a b = 8 * a
binary_weight binary.Greater a b = 8 * a
binary_weight binary.GreaterEqual a b = 8 * a
binary_weight binary.Equal a b = a
binary_weight binary.NotEqual a b = a
binary_weight binary.LogicAnd a b = max a b
binary_weight binary.LogicOr a b = max a b
binary_weight binary.ShiftLeft a b = 17 * a + b
binary_weight binary.ShiftRight a b = 17 * a + b
binary_weight binary.ShiftRightSigned a b = 17 * a + b

-- reading or writing n bits at a place that is known only when it runs
abbrev pub variable_weight : ℕ → ℕ → ℕ
variable_weight n index = 17 * n + index

-- an argument for each input, at the input's length or more
abbrev pub arguments_fit : List ℕ → List Sized → Bool
arguments_fit [] [] = true
arguments_fit [] (a ∷ as') = false
arguments_fit (n ∷ ns) [] = false
arguments_fit (n ∷ ns) (a ∷ as') = nat_le n a.length && arguments_fit ns as'

abbrev pub all_formed : List Sized → List ℕ → Bool
all_formed parts ls = list_all (λ (x : Sized). x.formed ls) parts

abbrev pub all_weights : List Sized → List ℕ → ℕ
all_weights parts ls = sum (map (λ (x : Sized). x.weight ls) parts)

abbrev pub all_lengths : List Sized → ℕ
all_lengths parts = sum (map (λ (x : Sized). x.length) parts)

-- outside functions a left side names a signal, inside a local
abbrev pub base_fits : List ℕ → List ℕ → Bool → DBase → Bool
base_fits vs ls inside (base.Signal s) = not inside && nat_lt s (length vs)
base_fits vs ls inside (base.Local k) = inside && nat_lt k (length ls)

abbrev pub base_length : List ℕ → List ℕ → DBase → ℕ
base_length vs ls (base.Signal s) = slice_index_or vs s 0
base_length vs ls (base.Local k) = slice_index_or ls k 0

abbrev pub rest_formed : Option Body → List ℕ → Bool → (Bool → Bool) → Bool
rest_formed None ls inside kinds = true
rest_formed (Some s) ls inside kinds = s.formed ls inside kinds

-- writes of one kind alone
abbrev pub of_kind : Bool → Bool → Bool
of_kind wanted blocking = if wanted then blocking else not blocking

abbrev pub rest_weight : Option Body → List ℕ → ℕ
rest_weight None ls = 0
rest_weight (Some s) ls = s.weight ls

abbrev pub free_fits : Option (List Bool) → ℕ → Bool
free_fits None n = true
free_fits (Some free) n = length free == n

-- each left side, where `vs` has the lengths of the signals
abbrev pub left_size : List ℕ → DLeft-F Place (ℕ → Node) Body Branch Sized Routine Choice → Place
left_size vs (DLeft-F.Whole b n) = record {
  length = n;
  fixed = true;
  formed = λ ls inside. base_fits vs ls inside b && (base_length vs ls b == n) && is_vector n;
  weight = λ ls. 0;
}
left_size vs (DLeft-F.Part b low n) = record {
  length = n;
  fixed = true;
  formed = λ ls inside. base_fits vs ls inside b && is_vector n;
  weight = λ ls. 0;
}
left_size vs (DLeft-F.At b index offset down n) = record {
  length = n;
  fixed = false;
  formed = λ ls inside. base_fits vs ls inside b && index.formed ls && is_narrow index.length && is_vector n;
  weight = λ ls. variable_weight (base_length vs ls b) index.length + index.weight ls;
}
left_size vs (DLeft-F.«DLeft::Concat» parts) = record {
  length = sum (map (λ (x : Place). x.length) parts);
  fixed = list_all (λ (x : Place). x.fixed) parts;
  formed = λ ls inside. list_all (λ (x : Place). x.formed ls inside) parts && is_vector (sum (map (λ (x : Place). x.length) parts));
  weight = λ ls. sum (map (λ (x : Place). x.weight ls) parts);
}

-- each kind of expression, at its length n
abbrev pub node_size : List ℕ → DNode-F Place (ℕ → Node) Body Branch Sized Routine Choice → ℕ → Node
node_size vs (DNode-F.Const bits) n = record { formed = λ ls. length bits == n; weight = λ ls. 0 }
node_size vs (DNode-F.Signal s) n = record { formed = λ ls. has_length vs s n; weight = λ ls. 0 }
node_size vs (DNode-F.Local k) n = record { formed = λ ls. has_length ls k n; weight = λ ls. 0 }
node_size vs (DNode-F.Select e low) n = record { formed = e.formed; weight = e.weight }
node_size vs (DNode-F.SelectAt e index offset down) n = record {
  formed = λ ls. e.formed ls && index.formed ls && is_narrow index.length;
  weight = λ ls. variable_weight e.length index.length + e.weight ls + index.weight ls;
}
node_size vs (DNode-F.Unary op a) n = record { formed = λ ls. a.formed ls && unary_fits op n a.length; weight = λ ls. unary_weight op a.length + a.weight ls }
node_size vs (DNode-F.Binary op a b) n = record {
  formed = λ ls. a.formed ls && b.formed ls && binary_fits op n a.length b.length;
  weight = λ ls. binary_weight op a.length b.length + a.weight ls + b.weight ls;
}
node_size vs (DNode-F.Mux c a b) n = record {
  formed = λ ls. c.formed ls && a.formed ls && b.formed ls && (a.length == n) && (b.length == n);
  weight = λ ls. n + c.weight ls + a.weight ls + b.weight ls;
}
node_size vs (DNode-F.Extend a keeps) n = record { formed = λ ls. a.formed ls && nat_le a.length n; weight = a.weight }
node_size vs (DNode-F.«DNode::Concat» parts) n = record { formed = λ ls. all_formed parts ls && (all_lengths parts == n); weight = all_weights parts }
node_size vs (DNode-F.Repeat count part) n = record { formed = λ ls. part.formed ls && (count * part.length == n); weight = part.weight }
node_size vs (DNode-F.Call function arguments) n = record {
  formed = λ ls. function.formed && (function.length == n) && all_formed arguments ls && arguments_fit function.inputs arguments;
  weight = λ ls. function.weight + all_weights arguments ls;
}

-- each kind of statement; the right side of an assignment is at least as long as its left side (5.4.1), and a loop weighs 1 a turn
abbrev pub stmt_size : DStmt-F Place (ℕ → Node) Body Branch Sized Routine Choice → Body
stmt_size (DStmt-F.Block parts) = record {
  formed = λ ls inside kinds. list_all (λ (x : Body). x.formed ls inside kinds) parts;
  weight = λ ls. sum (map (λ (x : Body). x.weight ls) parts);
}
stmt_size (DStmt-F.Write left right blocking) = record {
  formed = λ ls inside kinds. left.formed ls inside && right.formed ls && nat_le left.length right.length && kinds blocking;
  weight = λ ls. left.length + left.weight ls + right.weight ls;
}
stmt_size (DStmt-F.If test a b) = record {
  formed = λ ls inside kinds. test.formed ls && a.formed ls inside kinds && b.formed ls inside kinds;
  weight = λ ls. test.weight ls + 1 + a.weight ls + b.weight ls;
}
stmt_size (DStmt-F.Case selector arms rest) = record {
  formed = λ ls inside kinds. selector.formed ls && list_all (λ (x : Branch). x.formed selector.length ls inside kinds) arms && rest_formed rest ls inside kinds;
  weight = λ ls. selector.weight ls + selector.length * sum (map (λ (x : Branch). x.items) arms) + sum (map (λ (x : Branch). x.weight ls) arms) + rest_weight rest ls;
}
stmt_size (DStmt-F.Turns parts) = record {
  formed = λ ls inside kinds. list_all (λ (x : Body). x.formed ls inside kinds) parts;
  weight = λ ls. length parts + sum (map (λ (x : Body). x.weight ls) parts);
}

abbrev pub arm_size : DArm-F Place (ℕ → Node) Body Branch Sized Routine Choice → Branch
arm_size x = record {
  items = length x.matches;
  formed = λ n ls inside kinds. list_all (λ (m : Choice). m.formed n ls) x.matches && x.body.formed ls inside kinds;
  weight = λ ls. sum (map (λ (m : Choice). m.weight ls) x.matches) + x.body.weight ls;
}

abbrev pub expr_size : DExpr-F Place (ℕ → Node) Body Branch Sized Routine Choice → Sized
expr_size x = record { length = x.length; formed = λ ls. is_vector x.length && (x.node x.length).formed ls; weight = (x.node x.length).weight }

-- a function has the locals result, inputs, locals, and blocking writes to them alone
abbrev pub function_size : DFunction-F Place (ℕ → Node) Body Branch Sized Routine Choice → Routine
function_size x = record {
  length = x.length;
  inputs = lengths x.inputs;
  formed = is_vector x.length && list_all is_vector (lengths x.inputs) && list_all is_vector (lengths x.locals)
      && x.body.formed (x.length ∷ (lengths x.inputs ++ lengths x.locals)) true (of_kind true);
  weight = x.body.weight (x.length ∷ (lengths x.inputs ++ lengths x.locals));
}

abbrev pub match_size : DMatch-F Place (ℕ → Node) Body Branch Sized Routine Choice → Choice
match_size x = record { formed = λ n ls. x.value.formed ls && (x.value.length == n) && free_fits x.free n; weight = x.value.weight }

-- the folds, where `vs` has the lengths of the signals
abbrev pub sized_expr : List ℕ → DExpr → Sized
sized_expr vs = fold-DExpr Place (ℕ → Node) Body Branch Sized Routine Choice (left_size vs) (node_size vs) stmt_size arm_size expr_size function_size match_size

abbrev pub sized_node : List ℕ → DNode → ℕ → Node
sized_node vs = fold-DNode Place (ℕ → Node) Body Branch Sized Routine Choice (left_size vs) (node_size vs) stmt_size arm_size expr_size function_size match_size

abbrev pub sized_left : List ℕ → DLeft → Place
sized_left vs = fold-DLeft Place (ℕ → Node) Body Branch Sized Routine Choice (left_size vs) (node_size vs) stmt_size arm_size expr_size function_size match_size

abbrev pub sized_stmt : List ℕ → DStmt → Body
sized_stmt vs = fold-DStmt Place (ℕ → Node) Body Branch Sized Routine Choice (left_size vs) (node_size vs) stmt_size arm_size expr_size function_size match_size

abbrev pub sized_arm : List ℕ → DArm → Branch
sized_arm vs = fold-DArm Place (ℕ → Node) Body Branch Sized Routine Choice (left_size vs) (node_size vs) stmt_size arm_size expr_size function_size match_size

abbrev pub sized_function : List ℕ → DFunction → Routine
sized_function vs = fold-DFunction Place (ℕ → Node) Body Branch Sized Routine Choice (left_size vs) (node_size vs) stmt_size arm_size expr_size function_size match_size

abbrev pub sized_match : List ℕ → DMatch → Choice
sized_match vs = fold-DMatch Place (ℕ → Node) Body Branch Sized Routine Choice (left_size vs) (node_size vs) stmt_size arm_size expr_size function_size match_size

-- an expression is formed, where `vs` has the lengths of the signals and `ls` those of the locals
unfoldable pub IsFormed : List ℕ → List ℕ → DExpr → Type 0
IsFormed vs ls e = (sized_expr vs e).formed ls ≡ true

-- what an expression weighs
unfoldable pub expr_weight : List ℕ → List ℕ → DExpr → ℕ
expr_weight vs ls e = (sized_expr vs e).weight ls

-- a left side is formed, in a function or outside
unfoldable pub IsFormedLeft : List ℕ → List ℕ → Bool → DLeft → Type 0
IsFormedLeft vs ls inside l = (sized_left vs l).formed ls inside ≡ true

-- the length of a left side
unfoldable pub left_length : List ℕ → DLeft → ℕ
left_length vs l = (sized_left vs l).length

-- a statement is formed, in a function or outside, with blocking writes alone or with nonblocking ones alone
unfoldable pub IsFormedStmt : List ℕ → List ℕ → Bool → Bool → DStmt → Type 0
IsFormedStmt vs ls inside blocking s = (sized_stmt vs s).formed ls inside (of_kind blocking) ≡ true

-- a statement is formed, with writes of these kinds
unfoldable pub IsFormedOf : List ℕ → List ℕ → Bool → (Bool → Bool) → DStmt → Type 0
IsFormedOf vs ls inside kinds s = (sized_stmt vs s).formed ls inside kinds ≡ true

-- what a statement weighs
unfoldable pub stmt_weight : List ℕ → List ℕ → DStmt → ℕ
stmt_weight vs ls s = (sized_stmt vs s).weight ls
