-- A whole expression: what is built of it, or the lowest code among its faults.
use Rattle.std.specs.Prelude.{ℕ, not, [], ◌∷◌, Option}
use Rattle.design_core.specs.declared.tree.DExpr.{DExpr}
use Rattle.vl_tree.specs.declared.faults.Code.{Code}
use Rattle.vl_tree.specs.declared.faults.Code.TheVariants.{PortMismatch}
use Rattle.vl_tree.specs.Order.{lower, where_true}
use Rattle.vl_tree.specs.Outcomes.{Outcome, unless}
use Rattle.vl_size.specs.declared.tree.Sizing.{Sizing}
use Rattle.vl_size.specs.Owns.{own}
use Rattle.vl_size.specs.Placed.{lowest, widened}
use Rattle.vl_size.specs.Terms.{Term}
use Rattle.vl_const.specs.declared.counting.Counted.{Counted}
use Rattle.vl_const.specs.Counted.{counts, none_counted}
use Rattle.vl_const.specs.Worths.{worth}
use Rattle.vl_elab_trees.specs.Built.{built}
use Rattle.vl_elab_trees.specs.Calls.{calls_fit}
use Rattle.vl_elab_trees.specs.Scopes.{Meaning}

-- an expression before it has a context, where f has the values of its counts, bounds and widths
abbrev pub sizing_of : Meaning → Term → Counted → Sizing
sizing_of m t f = (own m.known.look t f.values).0

-- The lowest code among the faults of an expression that is to have at least n bits: those of its operators and indices on constants and of its counts,
-- bounds and widths; calls with another number of arguments; and those of names, lengths and ranges.
abbrev pub lowest_of : Meaning → Term → Counted → ℕ → Option Code
lowest_of m t f n =
    lower (worth m.known t (sizing_of m t f ∷ []) (widened n (sizing_of m t f)) (f.values, f.faults)).0.fault
    (lower (where_true (not (calls_fit m.known.look t)) PortMismatch) (lowest n (sizing_of m t f)))

-- the right side of an assignment to n bits has the larger of both lengths, and the sign of its own (5.4.1 and 5.5.2)
abbrev pub expression_with : Meaning → Term → Counted → ℕ → Outcome DExpr
expression_with m t f n = unless (lowest_of m t f n) (built m t (sizing_of m t f ∷ []) (widened n (sizing_of m t f)) f.values).0

abbrev pub expression : Meaning → Term → ℕ → Outcome DExpr
expression m t n = expression_with m t (counts m.known t none_counted) n
