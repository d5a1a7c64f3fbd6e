use Rattle.std.proofs.Common.{◌≡◌, ℕ, zero, suc, ◌+◌, ◌*◌, ◌<◌, ◌≤◌, ◌^◌, ◌/◌, true, nat_eq, nat_lt, nat_le, arith, sym, ◌∙◌}
use Rattle.std.proofs.lemmas.Bool.Decides.{nat_tests}
use Rattle.std.proofs.lemmas.Nat.{pow_pos}
use Rattle.std.proofs.Math.Nat.{div-eq_of_lt, lt-div-mul-add, pow-le-pow_right}
use Rattle.formed_trees.proofs.expressions.fits.Goals as goal

-- a quotient is 0 where the number is below the divisor
none_left : (q v p : ℕ) → (v < p → q ≡ 0) → v < q * p + p → nat_eq q 0 ≡ nat_lt v p
none_left zero v p small more = grind (arith, nat_tests)
none_left (suc q) v p small more = grind (arith, nat_tests)

longer : (n m : ℕ) → n ≤ m → nat_le n m ≡ true
longer n m l = grind (arith, nat_tests)

all_fit : (v n m : ℕ) → 2 ^ n ≤ 2 ^ m → v < 2 ^ n → nat_lt v (2 ^ m) ≡ true
all_fit v n m longer fits = grind (arith, nat_tests)

pub returns-then-length-ge128 : goal.returns-then-length-ge128
returns-then-length-ge128 c =
    let long : 128 ≤ c.args.length = c.if-length-ge128.true in
    longer 128 c.args.length long ∙ sym (all_fit c.args.value 128 c.args.length (pow-le-pow_right (omega arith) long) c.ranges.value.fits)

pub returns-else-length-ge128 : goal.returns-else-length-ge128
returns-else-length-ge128 c = none_left (c.args.value / 2 ^ c.args.length) c.args.value (2 ^ c.args.length) (λ l. div-eq_of_lt l) (lt-div-mul-add (pow_pos c.args.length))
