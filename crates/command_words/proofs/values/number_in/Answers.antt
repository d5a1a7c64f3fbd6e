use Rattle.std.proofs.Common.{arith, ◌≤◌, ◌^◌}
use Rattle.std.proofs.Math.Nat.{pow-le-pow_right}
use Rattle.command_words.proofs.values.number_in.Goals as goal

pub overflow_mul-number : goal.overflow_mul-number
overflow_mul-number c =
    let most : 10 ^ c.loop-i.i ≤ 10 ^ 8 = pow-le-pow_right {n = 10} (omega arith) {i = c.loop-i.i} {j = 8} (let few = c.loop-i.invariant.few in let in_text = c.loop-i-test.true in omega arith) in
    let small = c.loop-i.invariant.small in
    omega arith

pub overflow_add-number : goal.overflow_add-number
overflow_add-number c =
    let most : 10 ^ c.loop-i.i ≤ 10 ^ 8 = pow-le-pow_right {n = 10} (omega arith) {i = c.loop-i.i} {j = 8} (let few = c.loop-i.invariant.few in let in_text = c.loop-i-test.true in omega arith) in
    let small = c.loop-i.invariant.small in
    let digit = c.if-not-is_ascii_digit.ensures.bound in
    omega arith
