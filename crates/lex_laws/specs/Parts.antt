-- The parts of a number are those of its form (IEEE 1364-2005, section 3.5.1).
use Rattle.std.specs.Prelude.{◌≡◌, ℕ, Bool, true, false, [], ◌∷◌}
use Rattle.vl_lex.specs.Bytes.{Text}
use Rattle.vl_lex.specs.Forms.{IsBasedNumber}
use Rattle.vl_lex.specs.Numbers.{base_of, value_from, has_base, size_text, size_value, is_signed, base_in, digits_in, value_in}

-- whether the mark of a base has an `s`
abbrev pub has_sign : Text → Bool
has_sign (quote ∷ sign ∷ letter ∷ []) = true
has_sign _ = false

-- the letter of a base, the last byte of its mark
abbrev pub letter_of : Text → ℕ
letter_of (quote ∷ letter ∷ []) = letter
letter_of (quote ∷ sign ∷ letter ∷ []) = letter
letter_of _ = 0

-- The number `size`, `mark`, `digits`: its size is the value of the decimal digits before the mark, its sign and base are those of the mark, its value is that of the digits behind it.
pub record IsRead (text : Text) (form : IsBasedNumber text) : Type 0 where
  pub based : has_base text ≡ true
  pub size : size_value (size_text text) ≡ value_from 10 0 form.size
  pub sign : is_signed text ≡ has_sign form.mark
  pub base : base_in text ≡ base_of (letter_of form.mark)
  pub digits : digits_in text ≡ form.digits
  pub value : value_in text ≡ value_from (base_of (letter_of form.mark)) 0 form.digits

-- A decimal number has a sign and no base, and its digits are all of it.
pub record IsDecimal (text : Text) : Type 0 where
  pub based : has_base text ≡ false
  pub sign : is_signed text ≡ true
  pub base : base_in text ≡ 10
  pub digits : digits_in text ≡ text
  pub value : value_in text ≡ value_from 10 0 text
