use Rattle.std.proofs.Common.{◌≡◌, ◌++◌, drop}
use Rattle.cnf_core.specs.Numbers.{numbers_text}
use Rattle.lrat_checker.proofs.writing.push_ids.Given as goal

abbrev pub invariant-loop-id : goal.invariant-loop-id
invariant-loop-id l = l.out.items ++ numbers_text (drop l.id-index l.ids) ≡ l.initial.out.items ++ numbers_text l.ids
