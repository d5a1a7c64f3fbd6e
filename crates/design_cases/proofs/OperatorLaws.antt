-- The rows of the operators, by computation.
use Rattle.std.proofs.Common.{refl}
use Rattle.bits_core.specs.Numbers.{number, signed_number, bits_of}
use Rattle.bits_core.specs.Places.{extended, selected, shifted_left, shifted_right}
use Rattle.design_cases.specs.OperatorRows.{UnaryRows, ArithmeticRows, BitwiseRows, LessRows, SignRows, EqualRows, ShiftRows, JoinRows, SelectRows, MatchRows, WriteRows}

pub unary_rows : UnaryRows
unfolding number signed_number bits_of extended selected shifted_left shifted_right
unary_rows = (refl, refl, refl, refl, refl, refl, refl, refl, refl, refl, refl, refl, refl, refl, refl, refl, refl, refl)

pub arithmetic_rows : ArithmeticRows
unfolding number signed_number bits_of extended selected shifted_left shifted_right
arithmetic_rows = (refl, refl, refl, refl, refl, refl)

pub bitwise_rows : BitwiseRows
unfolding number signed_number bits_of extended selected shifted_left shifted_right
bitwise_rows = (refl, refl, refl, refl, refl, refl, refl, refl)

pub less_rows : LessRows
unfolding number signed_number bits_of extended selected shifted_left shifted_right
less_rows = (refl, refl, refl, refl, refl, refl, refl, refl, refl, refl, refl, refl, refl, refl, refl, refl)

pub sign_rows : SignRows
unfolding number signed_number bits_of extended selected shifted_left shifted_right
sign_rows = (refl, refl, refl)

pub equal_rows : EqualRows
unfolding number signed_number bits_of extended selected shifted_left shifted_right
equal_rows = (refl, refl, refl, refl, refl, refl, refl, refl)

pub shift_rows : ShiftRows
unfolding number signed_number bits_of extended selected shifted_left shifted_right
shift_rows = (refl, refl, refl, refl, refl, refl, refl, refl, refl, refl)

pub join_rows : JoinRows
unfolding number signed_number bits_of extended selected shifted_left shifted_right
join_rows = (refl, refl, refl, refl, refl, refl, refl, refl)

pub select_rows : SelectRows
unfolding number signed_number bits_of extended selected shifted_left shifted_right
select_rows = (refl, refl, refl, refl, refl, refl, refl)

pub match_rows : MatchRows
unfolding number signed_number bits_of extended selected shifted_left shifted_right
match_rows = (refl, refl, refl, refl)

pub write_rows : WriteRows
unfolding number signed_number bits_of extended selected shifted_left shifted_right
write_rows = (refl, refl, refl, refl, refl, refl, refl, refl, refl, refl)
