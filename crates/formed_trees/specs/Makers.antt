-- What each function of this crate makes, and when: the tree in full, and the test of its parts on which it is made. What a tree weighs follows from the tree (design_core's Formed).
use Rattle.std.specs.Prelude.{◌≡◌, ℕ, ℤ, ◌*◌, ◌^◌, Bool, false, ◌&&◌, nat_lt, List, [], ◌∷◌, Option, sum_by}
use Rattle.bits_core.specs.Numbers.{bits_of}
use Rattle.design_core.specs.declared.operators.Unary.{Unary}
use Rattle.design_core.specs.declared.operators.Unary.TheVariants as unary
use Rattle.design_core.specs.declared.operators.Binary.{Binary}
use Rattle.design_core.specs.declared.operators.Binary.TheVariants as binary
use Rattle.design_core.specs.declared.tree.DBase.{DBase}
use Rattle.design_core.specs.declared.tree.DExpr.{DExpr}
use Rattle.design_core.specs.declared.tree.DNode.{DNode}
use Rattle.design_core.specs.declared.tree.DNode.TheVariants as node
use Rattle.design_core.specs.declared.tree.DLeft.{DLeft}
use Rattle.design_core.specs.declared.tree.DLeft.TheVariants as lefts
use Rattle.design_core.specs.declared.tree.DStmt.{DStmt}
use Rattle.design_core.specs.declared.tree.DStmt.TheVariants as stmts
use Rattle.design_core.specs.declared.tree.DArm.{DArm, out-DArm}
use Rattle.design_core.specs.declared.tree.DMatch.{DMatch, out-DMatch}

-- an expression by its length, its sign and its node
abbrev pub tree : ℕ → Bool → DNode → DExpr
tree n s x = record { length = n; signed = s; node = x }

-- the length of an operator's result, and its sign (5.4.1 and 5.5.1)
abbrev pub unary_length : Unary → ℕ → ℕ
unary_length unary.Negate n = n
unary_length unary.Invert n = n
unary_length unary.Not n = 1
unary_length unary.And n = 1
unary_length unary.Nand n = 1
unary_length unary.Or n = 1
unary_length unary.Nor n = 1
unary_length unary.Xor n = 1
unary_length unary.Xnor n = 1

abbrev pub unary_sign : Unary → Bool → Bool
unary_sign unary.Negate s = s
unary_sign unary.Invert s = s
unary_sign unary.Not s = false
unary_sign unary.And s = false
unary_sign unary.Nand s = false
unary_sign unary.Or s = false
unary_sign unary.Nor s = false
unary_sign unary.Xor s = false
unary_sign unary.Xnor s = false

-- an operator on an expression
abbrev pub unary_tree : Unary → DExpr → DExpr
unary_tree op a = tree (unary_length op a.length) (unary_sign op a.signed) (node.Unary op a)

-- the length of the result of an operator of two operands, for the length of its left one
abbrev pub binary_length : Binary → ℕ → ℕ
binary_length binary.Add n = n
binary_length binary.Sub n = n
binary_length binary.Mul n = n
binary_length binary.And n = n
binary_length binary.Or n = n
binary_length binary.Xor n = n
binary_length binary.Xnor n = n
binary_length binary.Less n = 1
binary_length binary.LessEqual n = 1
binary_length binary.Greater n = 1
binary_length binary.GreaterEqual n = 1
binary_length binary.Equal n = 1
binary_length binary.NotEqual n = 1
binary_length binary.LogicAnd n = 1
binary_length binary.LogicOr n = 1
binary_length binary.ShiftLeft n = n
binary_length binary.ShiftRight n = n
binary_length binary.ShiftRightSigned n = n

-- whether the result is signed, for the signs of both operands
abbrev pub binary_sign : Binary → Bool → Bool → Bool
binary_sign binary.Add s t = s && t
binary_sign binary.Sub s t = s && t
binary_sign binary.Mul s t = s && t
binary_sign binary.And s t = s && t
binary_sign binary.Or s t = s && t
binary_sign binary.Xor s t = s && t
binary_sign binary.Xnor s t = s && t
binary_sign binary.Less s t = false
binary_sign binary.LessEqual s t = false
binary_sign binary.Greater s t = false
binary_sign binary.GreaterEqual s t = false
binary_sign binary.Equal s t = false
binary_sign binary.NotEqual s t = false
binary_sign binary.LogicAnd s t = false
binary_sign binary.LogicOr s t = false
binary_sign binary.ShiftLeft s t = s
binary_sign binary.ShiftRight s t = s
binary_sign binary.ShiftRightSigned s t = s

-- an operator on two expressions
abbrev pub binary_tree : Binary → DExpr → DExpr → DExpr
binary_tree op a b = tree (binary_length op a.length) (binary_sign op a.signed b.signed) (node.Binary op a b)

-- one of two expressions
abbrev pub mux_tree : DExpr → DExpr → DExpr → DExpr
mux_tree c a b = tree a.length (a.signed && b.signed) (node.Mux c a b)

-- the length of expressions side by side
abbrev pub long : List DExpr → ℕ
long parts = sum_by (λ (e : DExpr). e.length) parts

-- expressions side by side
abbrev pub concat_tree : List DExpr → DExpr
concat_tree parts = tree (long parts) false (node.Concat parts)

-- an expression many times
abbrev pub repeat_tree : ℕ → DExpr → DExpr
repeat_tree count part = tree (count * part.length) false (node.Repeat count part)

-- the node of a constant, a signal and a local, of a change of length or of sign, and of bits of an expression
abbrev pub constant_node : ℕ → ℕ → DNode
constant_node n value = node.Const (bits_of n value)

abbrev pub signal_node : ℕ → DNode
signal_node k = node.Signal k

abbrev pub local_node : ℕ → DNode
local_node k = node.Local k

abbrev pub extend_node : DExpr → Bool → DNode
extend_node a by_sign = node.Extend a by_sign

abbrev pub select_node : DExpr → ℤ → DNode
select_node base low = node.Select base low

abbrev pub select_at_node : DExpr → DExpr → ℤ → Bool → DNode
select_at_node base index offset down = node.SelectAt base index offset down

-- left sides
abbrev pub whole_left : DBase → ℕ → DLeft
whole_left b n = lefts.Whole b n

abbrev pub part_left : DBase → ℤ → ℕ → DLeft
part_left b low n = lefts.Part b low n

abbrev pub at_left : DBase → DExpr → ℤ → Bool → ℕ → DLeft
at_left b index offset down n = lefts.At b index offset down n

abbrev pub pair_left : DLeft → DLeft → DLeft
pair_left high low = lefts.Concat (high ∷ low ∷ [])

-- statements
abbrev pub write_stmt : DLeft → DExpr → Bool → DStmt
write_stmt left right blocking = stmts.Write left right blocking

abbrev pub block_stmt : List DStmt → DStmt
block_stmt parts = stmts.Block parts

abbrev pub turns_stmt : List DStmt → DStmt
turns_stmt parts = stmts.Turns parts

abbrev pub if_stmt : DExpr → DStmt → DStmt → DStmt
if_stmt test then other = stmts.If test then other

abbrev pub case_stmt : DExpr → List DArm → Option DStmt → DStmt
case_stmt selector arms rest = stmts.Case selector arms rest

-- an item of a case is this value with these free bits
pub record IsMatch (is : DExpr) (frees : Option (List Bool)) (m : DMatch) : Type 0 where
  pub value : (out-DMatch m).value ≡ is
  pub free : (out-DMatch m).free ≡ frees

-- an arm of a case has these items and this body
pub record IsArm (matches : List DMatch) (run : DStmt) (a : DArm) : Type 0 where
  pub items : (out-DArm a).matches ≡ matches
  pub body : (out-DArm a).body ≡ run

-- whether a value has at most n bits
abbrev pub fits_in : ℕ → ℕ → Bool
fits_in value n = nat_lt value (2 ^ n)
