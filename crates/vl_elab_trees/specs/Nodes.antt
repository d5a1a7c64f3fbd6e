-- How an expression is brought to its context (IEEE 1364-2005, 5.5.2), and what each operator is in a design.
use Rattle.std.specs.Prelude.{ℕ, Bool, true, false, ◌&&◌, ◌==◌, nat_eq, List, [], ◌∷◌, Option, Some, None, ℤ, pos, negsuc, if◌then◌else◌}
use Rattle.design_core.specs.declared.operators.Unary.TheVariants as unary
use Rattle.design_core.specs.declared.operators.Binary.TheVariants as binary
use Rattle.design_core.specs.declared.tree.DExpr.{DExpr}
use Rattle.design_core.specs.declared.tree.DNode.{DNode}
use Rattle.design_core.specs.declared.tree.DNode.TheVariants as node
use Rattle.vl_size.specs.declared.operators.UnaryOperator.{UnaryOperator}
use Rattle.vl_size.specs.declared.operators.UnaryOperator.TheVariants as u
use Rattle.vl_size.specs.declared.operators.BinaryOperator.{BinaryOperator}
use Rattle.vl_size.specs.declared.operators.BinaryOperator.TheVariants as b
use Rattle.vl_size.specs.declared.tree.Size.{Size}
use Rattle.vl_size.specs.Texts.{capped}
use Rattle.vl_elab_trees.specs.declared.nodes.Form.{Form}
use Rattle.vl_elab_trees.specs.declared.nodes.Form.TheVariants as form
use Rattle.vl_elab_trees.specs.declared.nodes.Before.{Before}
use Rattle.vl_elab_trees.specs.declared.nodes.Before.TheVariants as before

-- a node at a size
abbrev pub at : Size → DNode → DExpr
at x n = record { length = x.length; signed = x.signed; node = n }

abbrev pub same : Bool → Bool → Bool
same true b = b
same false true = false
same false false = true

-- an expression brought to a context: extended by its sign only where the context is signed
abbrev pub brought : Size → DExpr → DExpr
brought x e = if (e.length == x.length) && same e.signed x.signed then e else at x (node.Extend e x.signed)

-- a node that has a size of its own, brought to a context
abbrev pub apart : Size → Size → DNode → DExpr
apart own x n = brought x (at own n)

-- a constant that has its value in the context
abbrev pub constant : Size → List Bool → DExpr
constant x v = at x (node.Const v)

-- what an operator between operands is: none where its operands are constants and so is it; one in the context of its operands, or one that gives a bit
abbrev pub form_of : BinaryOperator → Option Form
form_of b.Add = Some (form.Wide binary.Add)
form_of b.Subtract = Some (form.Wide binary.Sub)
form_of b.Multiply = Some (form.Wide binary.Mul)
form_of b.Divide = None
form_of b.Remainder = None
form_of b.Power = None
form_of b.And = Some (form.Wide binary.And)
form_of b.Or = Some (form.Wide binary.Or)
form_of b.Xor = Some (form.Wide binary.Xor)
form_of b.Xnor = Some (form.Wide binary.Xnor)
form_of b.Less = Some (form.Bit binary.Less)
form_of b.LessEqual = Some (form.Bit binary.LessEqual)
form_of b.Greater = Some (form.Bit binary.Greater)
form_of b.GreaterEqual = Some (form.Bit binary.GreaterEqual)
form_of b.Equal = Some (form.Bit binary.Equal)
form_of b.NotEqual = Some (form.Bit binary.NotEqual)
form_of b.LogicAnd = Some (form.Bit binary.LogicAnd)
form_of b.LogicOr = Some (form.Bit binary.LogicOr)
form_of b.ShiftLeft = Some (form.Wide binary.ShiftLeft)
form_of b.ShiftRight = Some (form.Wide binary.ShiftRight)
form_of b.ShiftLeftSigned = Some (form.Wide binary.ShiftLeft)
form_of b.ShiftRightSigned = Some (form.Wide binary.ShiftRightSigned)

abbrev pub before_of : UnaryOperator → Before
before_of u.Plus = before.Nothing
before_of u.Minus = before.Wide unary.Negate
before_of u.Invert = before.Wide unary.Invert
before_of u.Not = before.Bit unary.Not
before_of u.And = before.Bit unary.And
before_of u.Nand = before.Bit unary.Nand
before_of u.Or = before.Bit unary.Or
before_of u.Nor = before.Bit unary.Nor
before_of u.Xor = before.Bit unary.Xor
before_of u.Xnor = before.Bit unary.Xnor

-- one bit without a sign
abbrev pub bit : Size
bit = record { length = 1; signed = false }

abbrev pub unary_made : Before → Size → DExpr → DExpr
unary_made before.Nothing x a = a
unary_made (before.Wide op) x a = at x (node.Unary op a)
unary_made (before.Bit op) x a = apart bit x (node.Unary op a)

abbrev pub operated : Form → Size → DExpr → DExpr → DExpr
operated (form.Wide op) x a c = at x (node.Binary op a c)
operated (form.Bit op) x a c = apart bit x (node.Binary op a c)

abbrev pub choice_made : Size → DExpr → DExpr → DExpr → DExpr
choice_made x t a c = at x (node.Mux t a c)

-- a part of a concatenation; one of no bits, a replication of count 0, is dropped
abbrev pub kept : ℕ → DExpr → List DExpr
kept n e = if nat_eq n 0 then [] else e ∷ []

-- the number of copies
abbrev pub copies : Option ℤ → ℕ
copies (Some (pos k)) = capped k
copies (Some (negsuc k)) = 1
copies None = 1

-- so many copies of parts that have n bits together
abbrev pub repeated : Option ℤ → ℕ → List DExpr → DNode
repeated count n ps = node.Repeat (copies count) (at (record { length = n; signed = false }) (node.Concat ps))
