use Rattle.design_cases.proofs.OperatorLaws.{unary_rows, arithmetic_rows, bitwise_rows, less_rows, sign_rows, equal_rows, shift_rows, join_rows, select_rows, match_rows, write_rows}
use Rattle.design_cases.proofs.operators_as_worked.Goals as goal

pub returns : goal.returns
returns c = record { unary = unary_rows; arithmetic = arithmetic_rows; bitwise = bitwise_rows; less = less_rows; sign = sign_rows; equal = equal_rows; shift = shift_rows; join = join_rows; select = select_rows; matching = match_rows; writes = write_rows }
