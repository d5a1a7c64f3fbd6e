-- The parts of weights, in one set.
use Rattle.tree_weights.proofs.PartLaws.{spine-Const, spine-Signal, spine-Local, spine-Select, spine-SelectAt, spine-Unary, spine-Binary, spine-Mux, spine-Extend, spine-Concat, spine-Repeat, spine-Call, beside-Const, beside-Signal, beside-Local, beside-Select, beside-SelectAt, beside-Unary, beside-Binary, beside-Mux, beside-Extend, beside-Concat, beside-Repeat, beside-Call, before-Block, before-Write, before-If, before-Case, before-Turns, last-Block, last-Write, last-If, last-Case, last-Turns}
use Rattle.tree_weights.proofs.SplitLaws.{left-Whole, left-Part, left-At, left-Concat, length-Whole, length-Part, length-At, length-Concat, function_is}

pub ruleset weights = (spine-Const, spine-Signal, spine-Local, spine-Select, spine-SelectAt, spine-Unary, spine-Binary, spine-Mux, spine-Extend, spine-Concat, spine-Repeat, spine-Call, beside-Const, beside-Signal, beside-Local, beside-Select, beside-SelectAt, beside-Unary, beside-Binary, beside-Mux, beside-Extend, beside-Concat, beside-Repeat, beside-Call, before-Block, before-Write, before-If, before-Case, before-Turns, last-Block, last-Write, last-If, last-Case, last-Turns, left-Whole, left-Part, left-At, left-Concat, length-Whole, length-Part, length-At, length-Concat, function_is)
