-- Kinds of bytes.
use Rattle.std.specs.Prelude.{ℕ, ◌==◌, nat_le, Bool, ◌||◌, ◌&&◌, not, List, [], ◌∷◌}

abbrev pub Text : Type 0
Text = List ℕ

-- the first byte, 0 where there is none
abbrev pub first : Text → ℕ
first [] = 0
first (b ∷ bs) = b

abbrev pub other_than_newline : ℕ → Bool
other_than_newline b = not (b == 10)

abbrev pub is_newline : ℕ → Bool
is_newline b = b == 10

-- space, tab, newline, form feed, carriage return
abbrev pub is_space : ℕ → Bool
is_space b = b == 32 || b == 9 || b == 10 || b == 12 || b == 13

abbrev pub is_digit : ℕ → Bool
is_digit b = nat_le 48 b && nat_le b 57

-- a letter or `_`
abbrev pub is_letter : ℕ → Bool
is_letter b = (nat_le 97 b && nat_le b 122) || (nat_le 65 b && nat_le b 90) || b == 95

-- what may follow in a name: a letter, a digit, `_` or `$`
abbrev pub is_name : ℕ → Bool
is_name b = is_letter b || is_digit b || b == 36

-- what may stand in a decimal number: a digit or `_`
abbrev pub is_decimal : ℕ → Bool
is_decimal b = is_digit b || b == 95

-- what belongs to the digits of a based number: a letter, a digit, `_` or `?`
abbrev pub is_based : ℕ → Bool
is_based b = is_letter b || is_digit b || b == 63

-- printed and no space
abbrev pub is_graphic : ℕ → Bool
is_graphic b = nat_le 33 b && nat_le b 126

-- `s` in either case
abbrev pub is_sign : ℕ → Bool
is_sign b = b == 115 || b == 83

-- `b`, `o`, `d` or `h` in either case
abbrev pub is_base : ℕ → Bool
is_base b = b == 98 || b == 66 || b == 111 || b == 79 || b == 100 || b == 68 || b == 104 || b == 72
