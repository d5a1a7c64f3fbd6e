use Rattle.std.proofs.Common.{◌≡◌, ◌++◌, drop, flat_map}
use Rattle.command_words.specs.Usage as spec
use Rattle.command_words.proofs.usage_text.usage.Given as goal

abbrev pub invariant-loop-verb : goal.invariant-loop-verb
invariant-loop-verb l = l.out.items ++ flat_map spec.command_text (drop l.verb-index spec.verbs) ≡ spec.usage_text
