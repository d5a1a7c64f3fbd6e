use Rattle.std.proofs.Common.{◌≡◌, ◌++◌, take}
use Rattle.std.specs.List.{flat_map}
use Rattle.lrat_checker.specs.Index.{step_variables}
use Rattle.lrat_checker.proofs.made.push_of_log.Given as goal

abbrev pub invariant-loop-step : goal.invariant-loop-step
invariant-loop-step l = l.variables.items ≡ l.initial.variables.items ++ flat_map step_variables (take l.step-index l.log)
