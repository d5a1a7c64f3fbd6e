use Rattle.design_cases.proofs.TreeCases.{extend_rows, compare_rows, fill_rows, index_rows, part_rows, call_rows, free_rows, reset_rows}
use Rattle.design_cases.proofs.trees_as_worked.Goals as goal

pub returns : goal.returns
returns c = record { extend = extend_rows; compare = compare_rows; fill = fill_rows; index = index_rows; part = part_rows; call = call_rows; free = free_rows; reset = reset_rows }
