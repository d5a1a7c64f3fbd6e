use Rattle.std.proofs.Common.{◌≡◌, ◌-◌, length}
use Rattle.vl_rules.specs.Form.{row}
use Rattle.vl_parse_parts.proofs.rows.row_after.Given as goal

abbrev pub invariant-loop-turn : goal.invariant-loop-turn
invariant-loop-turn g l =
    row (g.P.Part.begin l.part) (g.P.Part.parser l.part) (length l.fn.tokens) l.fn.first l.fn.tokens ≡ row (g.P.Part.begin l.part) (g.P.Part.parser l.part) (l._turn-end - l._turn) l.found l.rest
