use Rattle.std.proofs.Common.{◌≡◌, ◌++◌, drop}
use Rattle.lrat_checker.specs.LratText.{log_text}
use Rattle.lrat_checker.proofs.writing.push_steps.Given as goal

abbrev pub invariant-loop-step : goal.invariant-loop-step
invariant-loop-step l = l.out.items ++ log_text (drop l.step-index l.steps) ≡ l.initial.out.items ++ log_text l.steps
