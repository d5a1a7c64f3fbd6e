-- An expression as its first operand and the operators that are joined to it from the left, each in its context.
use Rattle.std.specs.Prelude.{◌≡◌, ℕ, suc, max, true, false, List, [], ◌∷◌}
use Rattle.vl_tree.specs.declared.expressions.Expr.{size-Expr}
use Rattle.vl_size.specs.Terms.{Term, term}
use Rattle.vl_size.specs.declared.tree.Size.{Size}
use Rattle.vl_size.specs.declared.tree.Sizing.{Sizing}
use Rattle.vl_const.specs.declared.answers.Answer.{Answer}
use Rattle.vl_const.specs.declared.operations.Operation.{Operation}
use Rattle.vl_const.specs.declared.operations.Operations.{Operations}
use Rattle.vl_const.specs.Answers.{binary_made}
use Rattle.vl_const.specs.Operators.{work_of}
use Rattle.vl_const.specs.Scopes.{Meaning}
use Rattle.vl_const.specs.Streams.{first_node, inside, behind, own_context, part_context}
use Rattle.vl_const.specs.Values.{Values, Found, and_then}
use Rattle.vl_const.specs.Worths.{worth, wide_here, working_sign}

-- an operator's answer by those of its operands
abbrev pub combined : Operation → Answer → Answer → Answer
combined o a c =
    binary_made (work_of o.op) o.context (working_sign o.sizings.now o.context) (wide_here o.sizings.now o.context) (first_node (behind (inside o.sizings.now))).fault
    (own_context (behind (inside o.sizings.now))).signed a c

abbrev pub right_worth : Meaning → Operation → Values → Found Answer
right_worth m o cs = worth m (term o.right.now) (behind (inside o.sizings.now)) (part_context o.sizings.now o.context false (behind (inside o.sizings.now))) cs

-- what some operators give, the last one first, where the left operand of the first of them is found
abbrev pub worth_steps : Meaning → Found Answer → List Operation → Found Answer
worth_steps m r [] = r
worth_steps m r (o ∷ os) = and_then (combined o) (worth_steps m r os) (right_worth m o)

abbrev pub MeansAs : Operations → Term → List Sizing → Size → Type 0
MeansAs o t ss x = (m : Meaning) (cs : Values) → worth_steps m (worth m (term o.first.now) o.sizings.now o.context cs) o.steps.items ≡ worth m t ss x cs

-- a bound above the depth of each right operand
abbrev pub depth : List Operation → ℕ
depth [] = 0
depth (o ∷ os) = max (suc (size-Expr o.right.now)) (depth os)
