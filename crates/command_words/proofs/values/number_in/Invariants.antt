use Rattle.std.proofs.Common.{◌≡◌, ◌<◌, ◌≤◌, ◌^◌, drop, length}
use Rattle.std.specs.Char.{is_ascii_digit}
use Rattle.std.specs.List.{list_all}
use Rattle.std.specs.Str.Parse.{digits_value, digits_value_after}
use Rattle.command_words.proofs.values.number_in.Given as goal

abbrev pub invariant-loop-i : goal.invariant-loop-i
invariant-loop-i l = record {
  few : length l.text ≤ 9;
  small : l.number < 10 ^ l.i;
  digits : list_all is_ascii_digit (drop l.i l.text) ≡ list_all is_ascii_digit l.text;
  value : digits_value_after 10 l.number (drop l.i l.text) ≡ digits_value 10 l.text;
}
