use Rattle.std.proofs.Common.{◌≡◌, drop}
use Rattle.lrat_checker.specs.Lrat.{all_positive}
use Rattle.lrat_checker.proofs.reading.are_positive.Given as goal

abbrev pub invariant-loop-id : goal.invariant-loop-id
invariant-loop-id l = all_positive (drop l.id-index l.ids) ≡ all_positive l.ids
