-- The length and the sign that a number gives, by the parts of its text (IEEE 1364-2005, 3.5.1).
use Rattle.std.specs.Prelude.{ℕ, ◌==◌, ◌&&◌, not, nat_lt, if◌then◌else◌}
use Rattle.vl_lex.specs.Bytes.{Text, first}
use Rattle.vl_lex.specs.Numbers.{has_base, size_text, size_value, is_signed}
use Rattle.vl_size.specs.declared.tree.Size.{Size}

-- a length, where each one above 65,536 counts as one more than that
abbrev pub capped : ℕ → ℕ
capped n = if nat_lt 65536 n then 65537 else n

-- the size before the quote, or 32 where there is none
abbrev pub length_in : Text → ℕ
length_in text = if has_base text && not (first (size_text text) == 0) then capped (size_value (size_text text)) else 32

abbrev pub number_size : Text → Size
number_size text = record { length = length_in text; signed = is_signed text }
