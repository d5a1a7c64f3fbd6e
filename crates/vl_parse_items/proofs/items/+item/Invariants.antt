-- How deep rules may still nest, and then which rule leads to which; and what the loops have still to read.
use Rattle.std.proofs.Common.{◌≡◌, ◌+◌, ◌*◌, ◌-◌, [], length}
use Rattle.vl_rules.specs.Form.{row, rule_begins, item, starts, reads}
use Rattle.vl_rules.specs.Modules.{read_to}
use Rattle.vl_rules.specs.Generate.{item_arm}
use Rattle.vl_parse_items.proofs.items.+item.Given as goal

abbrev pub decreases-nested_item : goal.decreases-nested_item
decreases-nested_item l = 10 * l.depth

abbrev pub decreases-module_items : goal.decreases-module_items
decreases-module_items l = 10 * l.reader.now.depth + 1

abbrev pub decreases-block : goal.decreases-block
decreases-block l = 10 * l.reader.now.depth + 2

abbrev pub decreases-item_loop : goal.decreases-item_loop
decreases-item_loop l = 10 * l.reader.now.depth + 3

abbrev pub decreases-item_choice : goal.decreases-item_choice
decreases-item_choice l = 10 * l.reader.now.depth + 3

abbrev pub decreases-item_arm : goal.decreases-item_arm
decreases-item_arm l = 10 * l.reader.now.depth + 3

abbrev pub decreases-arm_row : goal.decreases-arm_row
decreases-arm_row l = 10 * l.reader.now.depth + 4

abbrev pub decreases-item_cases : goal.decreases-item_cases
decreases-item_cases l = 10 * l.reader.now.depth + 5

abbrev pub decreases-generated : goal.decreases-generated
decreases-generated l = 10 * l.reader.now.depth + 6

abbrev pub decreases-any_item : goal.decreases-any_item
decreases-any_item l = 10 * l.reader.now.depth + 7

abbrev pub invariant-module_items-loop-turn : goal.invariant-module_items-loop-turn
invariant-module_items-loop-turn l =
    row (rule_begins item) (read_to l.fn.reader.depth item) (length l.fn.tokens) [] l.fn.tokens ≡ row (rule_begins item) (read_to l.fn.reader.depth item) (l._turn-end - l._turn) l.found l.rest

abbrev pub invariant-arm_row-loop-turn : goal.invariant-arm_row-loop-turn
invariant-arm_row-loop-turn l =
    row (starts item_arm) (reads (read_to l.fn.reader.depth) item_arm) (length l.fn.tokens) [] l.fn.tokens
    ≡ row (starts item_arm) (reads (read_to l.fn.reader.depth) item_arm) (l._turn-end - l._turn) l.found l.rest
