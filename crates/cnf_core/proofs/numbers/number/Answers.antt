use Rattle.std.proofs.Common.{◌≡◌, ℕ, ◌+◌, ◌*◌, ◌-◌, get_or, take, true, refl, sym, subst, ◌∙◌, arith}
use Rattle.std.specs.Char.{is_ascii_digit}
use Rattle.std.specs.Str.Parse.{digits_value}
use Rattle.cnf_core.proofs.NumberLaws.{Follows, follows_more, digits_go_on, digit_range}
use Rattle.cnf_core.proofs.numbers.number.Goals as goal

pub loop-byte-preserved : goal.loop-byte-preserved
loop-byte-preserved c =
    let w = c.args.word.now in
    let i = c.loop-byte.byte-index in
    let b = get_or w i 0 in
    let t : is_ascii_digit b ≡ true = sym c.is_ascii_digit.ensures.value ∙ c.if-not-is_ascii_digit.false in
    record {
      value = subst (λ (m : ℕ). Follows (m * 10 + (b - 48)) (digits_value 10 (take (i + 1) w))) (sym c.min.ensures)
          (follows_more c.loop-byte.value w i b (omega arith) refl (digit_range b t) c.loop-byte.invariant.value);
      digits = digits_go_on w i b (omega arith) refl t c.loop-byte.invariant.digits;
    }
