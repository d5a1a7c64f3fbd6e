-- The forms of values.
use Rattle.std.specs.Prelude.{List, [], ◌∷◌, ℕ, Bool, true, false, not, ◌==◌, ◌&&◌, ◌||◌, ◌≤◌, nat_lt, nat_le, Option, Some, None, if◌then◌else◌, codes, length, map, option_map}
use Rattle.std.specs.Char.{is_ascii_alphanumeric, is_ascii_digit}
use Rattle.std.specs.List.{list_all}
use Rattle.std.specs.Str.Parse.{digits_value}
use Rattle.command_words.specs.Parts.{cut_first, cut_last, parts}
use Rattle.command_words.specs.Words.{Text, then_some}
use Rattle.command_words.specs.declared.options.Options.{Options}
use Rattle.command_words.specs.declared.options.PinWord.{PinWord}
use Rattle.command_words.specs.declared.options.ResetWord.{ResetWord}

-- a number: 1 to 9 decimal digits
abbrev pub is_number : Text → Bool
is_number text = nat_lt 0 (length text) && (nat_lt (length text) 10 && list_all is_ascii_digit text)

abbrev pub within : ℕ → ℕ → ℕ → Option ℕ
within low high n = if nat_le low n && nat_le n high then Some n else None

-- a number from low to high
abbrev pub number_in : ℕ → ℕ → Text → Option ℕ
number_in low high text = if is_number text then within low high (digits_value 10 text) else None

-- the number of an option, or the usual one where the command does not have it
abbrev pub number_or : ℕ → ℕ → ℕ → Option Text → Option ℕ
number_or usual low high None = Some usual
number_or usual low high (Some text) = number_in low high text

abbrev pub text_or_none : Option Text → Text
text_or_none None = []
text_or_none (Some text) = text

abbrev pub is_some_text : Text → Bool
is_some_text text = nat_lt 0 (length text)

-- a list: parts with commas between, none of them empty
abbrev pub list_of : Text → Option (List Text)
list_of text = if list_all is_some_text (parts 44 text) then Some (parts 44 text) else None

abbrev pub list_or_none : Option Text → Option (List Text)
list_or_none None = Some []
list_or_none (Some text) = list_of text

-- letters, digits and `_`
abbrev pub is_macro_byte : ℕ → Bool
is_macro_byte b = is_ascii_alphanumeric b || (b == 95)

abbrev pub is_macro_name : Text → Bool
is_macro_name name = is_some_text name && list_all is_macro_byte name

abbrev pub macros_or_none : Option Text → Option (List Text)
macros_or_none None = Some []
macros_or_none (Some text) = if list_all is_macro_name (parts 44 text) then Some (parts 44 text) else None

abbrev pub with_cycles : Bool → Option ℕ → Option (Bool × ℕ)
with_cycles asserted None = None
with_cycles asserted (Some cycles) = Some (asserted, cycles)

-- `V,N`: an asserted value and a number of cycles
abbrev pub asserted_and_cycles : Text → Option (Bool × ℕ)
asserted_and_cycles (v ∷ comma ∷ digits) =
    if (comma == 44) && ((v == 48) || (v == 49)) then with_cycles (v == 49) (number_in 0 64 digits) else None
asserted_and_cycles _ = None

abbrev pub reset_with : Text → Option (Bool × ℕ) → Option ResetWord
reset_with name None = None
reset_with name (Some p) = Some (record { name = name; asserted = p.0; cycles = p.1 })

-- `NAME=V,N`, parted at the last `=`; the name is not empty
abbrev pub reset_of : Text → Option ResetWord
reset_of text = then_some (cut_last 61 text) (λ p. if is_some_text p.0 then reset_with p.0 (asserted_and_cycles p.1) else None)

abbrev pub reset_or_none : Option Text → Option (Option ResetWord)
reset_or_none None = Some None
reset_or_none (Some text) = option_map Some (reset_of text)

abbrev pub pin_with : Text × Text → Option PinWord
pin_with p = if is_some_text p.0 then Some (record { signal = p.0; value = p.1 }) else None

-- `signal=value`, parted at the first `=`
abbrev pub pin_of : Text → Option PinWord
pin_of text = then_some (cut_first 61 text) pin_with

abbrev pub pins_of : List Text → Option (List PinWord)
pins_of [] = Some []
pins_of (t ∷ ts) = then_some (pin_of t) (λ p. option_map (λ ps. p ∷ ps) (pins_of ts))

abbrev pub pins_or_none : Option Text → Option (List PinWord)
pins_or_none None = Some []
pins_or_none (Some text) = pins_of (parts 44 text)

-- the options of a command, by the values of their names
abbrev pub options_by : (Text → Option Text) → Option Options
options_by value =
    then_some (list_or_none (value (codes "clock"))) (λ clocks.
    then_some (reset_or_none (value (codes "reset"))) (λ reset.
    then_some (pins_or_none (value (codes "pin"))) (λ pins.
    then_some (macros_or_none (value (codes "define"))) (λ defines.
    then_some (list_or_none (value (codes "box"))) (λ boxes.
    then_some (list_or_none (value (codes "stub"))) (λ stubs.
    then_some (number_or 8 0 64 (value (codes "depth"))) (λ depth.
    then_some (number_or 4000 1 20000 (value (codes "budget"))) (λ budget.
    Some (record {
      top = text_or_none (value (codes "top"));
      clocks = clocks;
      reset = reset;
      pins = pins;
      defines = defines;
      boxes = boxes;
      stubs = stubs;
      depth = depth;
      budget = budget;
    })))))))))
