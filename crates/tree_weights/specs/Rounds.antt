-- The lengths of the locals round a tree, as definitions of formed trees number them: the result, the inputs, the locals.
use Rattle.std.specs.Prelude.{ℕ, List, ◌∷◌, ◌++◌, Option, Some, None}
use Rattle.design_core.specs.Terms.{lengths}
use Rattle.tree_weights.specs.declared.lengths.Locals.{Locals}

abbrev pub behind_result : Option ℕ → List ℕ → List ℕ
behind_result None ls = ls
behind_result (Some n) ls = n ∷ ls

abbrev pub lengths_in : Locals → List ℕ
lengths_in round = behind_result round.result (lengths round.inputs.now ++ lengths round.locals.now)
