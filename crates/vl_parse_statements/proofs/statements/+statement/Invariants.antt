-- How deep rules may still nest, and then which rule leads to which; and what the loops have still to read.
use Rattle.std.proofs.Common.{◌≡◌, ◌+◌, ◌*◌, ◌-◌, [], length}
use Rattle.vl_rules.specs.Form.{row, rule_begins, stmt, starts, reads}
use Rattle.vl_rules.specs.Modules.{read_to}
use Rattle.vl_rules.specs.Statements.{arm, arm_row}
use Rattle.vl_parse_statements.proofs.statements.+statement.Given as goal

abbrev pub decreases-nested_statement : goal.decreases-nested_statement
decreases-nested_statement l = 10 * l.depth

abbrev pub decreases-body : goal.decreases-body
decreases-body l = 10 * l.reader.now.depth + 1

abbrev pub decreases-arm : goal.decreases-arm
decreases-arm l = 10 * l.reader.now.depth + 1

abbrev pub decreases-turns : goal.decreases-turns
decreases-turns l = 10 * l.reader.now.depth + 2

abbrev pub decreases-choice : goal.decreases-choice
decreases-choice l = 10 * l.reader.now.depth + 2

abbrev pub decreases-sequence : goal.decreases-sequence
decreases-sequence l = 10 * l.reader.now.depth + 2

abbrev pub decreases-arm_row : goal.decreases-arm_row
decreases-arm_row l = 10 * l.reader.now.depth + 2

abbrev pub decreases-cases : goal.decreases-cases
decreases-cases l = 10 * l.reader.now.depth + 3

abbrev pub decreases-statement : goal.decreases-statement
decreases-statement l = 10 * l.reader.now.depth + 4

abbrev pub invariant-body-loop-turn : goal.invariant-body-loop-turn
invariant-body-loop-turn l =
    row (rule_begins stmt) (read_to l.fn.reader.depth stmt) (length l.fn.tokens) [] l.fn.tokens ≡ row (rule_begins stmt) (read_to l.fn.reader.depth stmt) (l._turn-end - l._turn) l.found l.rest

abbrev pub invariant-arm_row-loop-turn : goal.invariant-arm_row-loop-turn
invariant-arm_row-loop-turn l =
    reads (read_to l.fn.reader.depth) (arm_row l.fn.kind) l.fn.tokens ≡ row (starts (arm l.fn.kind)) (reads (read_to l.fn.reader.depth) (arm l.fn.kind)) (l._turn-end - l._turn) l.found l.rest
