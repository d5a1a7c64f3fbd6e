-- One name more that the text is, or is not.
use Rattle.std.proofs.Common.{◌≡◌, ℕ, ◌+◌, ◌<◌, ◌≤◌, true, false, List, length, get_or, take, ap, sym, ◌∙◌}
use Rattle.std.specs.Str.{bytes_eq}
use Rattle.std.proofs.lemmas.Bool.{or_from}
use Rattle.std.proofs.lemmas.List.{take_all}
use Rattle.std.proofs.lemmas.List.Folds.{list_any_at, list_any_more}
use Rattle.blackbox_cut.specs.Boxes.{is_named}

module _ (names : List (List ℕ)) where
  module _ (text : List ℕ) (i : ℕ) (name : List ℕ) (within : i < length names) (is : name ≡ get_or names i name) where
    pub one_named : bytes_eq text name ≡ true → is_named names text ≡ true
    one_named h = list_any_at (λ n. bytes_eq text n) names i name within (ap (bytes_eq text) (sym is) ∙ h)

    pub none_named : bytes_eq text name ≡ false → is_named (take i names) text ≡ false → is_named (take (i + 1) names) text ≡ false
    none_named h before = list_any_more (λ n. bytes_eq text n) names i name within
        ∙ or_from (is_named (take i names) text) (bytes_eq text (get_or names i name)) before (ap (bytes_eq text) (sym is) ∙ h)

  pub all_named : (text : List ℕ) (i : ℕ) → length names ≤ i → is_named (take i names) text ≡ false → is_named names text ≡ false
  all_named text i past h = ap (λ ns. is_named ns text) (sym (take_all i names past)) ∙ h
