use Rattle.std.proofs.Common.{◌≡◌, true}
use Rattle.std.specs.List.{list_all}
use Rattle.design_names.specs.Alike.{is_spanned}
use Rattle.name_cases.proofs.signals.signals.Given as goal

abbrev pub invariant-loop-word : goal.invariant-loop-word
invariant-loop-word l = list_all is_spanned l.all.items ≡ true
