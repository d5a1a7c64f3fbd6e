use Rattle.std.proofs.Common.{◌≡◌, ◌-◌}
use Rattle.vl_rules.specs.Form.{none_free}
use Rattle.vl_parse_parts.proofs.reader.none_free.Given as goal

abbrev pub invariant-loop-turn : goal.invariant-loop-turn
invariant-loop-turn l = none_free l.fn.count l.fn.tokens ≡ none_free (l.count - l._turn) l.left
