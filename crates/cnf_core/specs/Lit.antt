-- Literals: a variable, or its negation as a number below 0.
use Rattle.std.specs.Prelude.{ℕ, pos, ℤ, Bool, true, false}
use Rattle.std.specs.Int.RustNames.{unsigned_abs}
use lib.IntN.{neg_ℤ}
use lib.Signed.{lt_z}
use Rattle.cnf_core.specs.declared.lit.Lit.{Lit}

-- whether a number is above zero
abbrev pub above_zero : ℤ → Bool
above_zero z = lt_z (pos 0) z

abbrev pub variable_of : Lit → ℕ
variable_of l = unsigned_abs l

abbrev pub is_positive : Lit → Bool
is_positive l = above_zero l

abbrev pub opposite : Lit → Lit
opposite l = neg_ℤ l

abbrev pub literal_of : ℕ → Bool → Lit
literal_of x true = pos x
literal_of x false = neg_ℤ (pos x)
