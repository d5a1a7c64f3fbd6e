-- Constant expressions by themselves, in an assignment, and in a `case` (IEEE 1364-2005, 5.4, 5.5 and 9.5).
use Rattle.std.specs.Prelude.{max, Bool, false, ◌&&◌, List, [], ◌∷◌, Ok}
use Rattle.bits_core.specs.Places.{extended, is_set}
use Rattle.vl_tree.specs.declared.expressions.Expr.{Expr}
use Rattle.vl_tree.specs.Outcomes.{Outcome, and_then, unless}
use Rattle.vl_size.specs.declared.constant.Const.{Const}
use Rattle.vl_size.specs.declared.tree.Size.{Size}
use Rattle.vl_size.specs.declared.tree.Sizing.{Sizing}
use Rattle.vl_size.specs.Owns.{own}
use Rattle.vl_size.specs.Placed.{widened}
use Rattle.vl_size.specs.Sizings.{node_of}
use Rattle.vl_size.specs.Terms.{Term, term}
use Rattle.vl_const.specs.declared.answers.Answer.{Answer}
use Rattle.vl_const.specs.declared.counting.Judged.{Judged}
use Rattle.vl_const.specs.Counted.{counts, none_counted, judged_fault}
use Rattle.vl_const.specs.Outcomes.{const_value}
use Rattle.vl_const.specs.Rooms.{room}
use Rattle.vl_const.specs.Scopes.{Meaning}
use Rattle.vl_const.specs.Worths.{worth}

-- what is found of an expression by itself
abbrev pub sized : Meaning → Term → Sizing
sized m t = (own m.look t (counts m t none_counted).values).0

abbrev pub found_in : Size → Sizing → Answer → Judged
found_in x s a = record { value = record { bits = a.value; signed = x.signed }; fault = judged_fault s a }

-- the value at a length and a sign, and the lowest code among the faults there
abbrev pub value_in : Meaning → Term → Size → Judged
value_in m t x = found_in x (sized m t) (worth m t (sized m t ∷ []) x ((counts m t none_counted).values, (counts m t none_counted).faults)).0

abbrev pub outcome : Judged → Outcome Const
outcome j = unless j.fault j.value

-- a constant by itself
unfoldable pub alone : Meaning → Term → Outcome Const
alone m t = const_value m t

-- a vector counts as true where some bit is 1
abbrev pub is_true : Const → Bool
is_true c = is_set c.bits

abbrev pub test : Meaning → Term → Outcome Bool
test m t = and_then (alone m t) (λ c. Ok (is_true c))

abbrev pub brought : Size → Const → Const
brought x c = record { bits = extended false (room x.length) c.bits; signed = x.signed }

-- the value that an assignment writes: taken at the larger of both lengths, then cut
unfoldable pub assigned : Meaning → Size → Term → Outcome Const
assigned m x t = and_then (outcome (value_in m t (widened x.length (sized m t)))) (λ c. Ok (brought x c))

-- the own length and sign
unfoldable pub own_size : Meaning → Expr → Size
own_size m e = (node_of (sized m (term e))).size

abbrev pub joint : Size → Size → Size
joint x y = record { length = max x.length y.length; signed = x.signed && y.signed }

-- the longest length, with a sign where all have one
abbrev pub joint_size : Meaning → Size → List Expr → Size
joint_size m x [] = x
joint_size m x (e ∷ es) = joint_size m (joint x (own_size m e)) es

-- a selector or an item of a `case`, at the size of all
unfoldable pub case_value : Meaning → Size → Expr → Outcome Const
case_value m x e = outcome (value_in m (term e) x)
