use Rattle.std.proofs.Common.{rules, ◌≡◌, ◌∙◌, ◌-◌, ◌∷◌, true, false, List, ℕ, is_some, map, string_bytes, length, take, drop, get_or, ap, sym}
use Rattle.command_words.specs.Table.{names_of, options_of}
use Rattle.command_words.specs.Words as spec
use Rattle.command_words.proofs.ShapeLaws as laws
use Rattle.command_words.proofs.shape.files_behind.Goals as goal

pub returns-in_default : goal.returns-in_default
returns-in_default c = c.files_alone.ensures ∙ laws.short string_bytes (names_of (options_of c.args.verb)) c.options.rest.now c.in_default.len_below ∙ c.options.invariant

pub returns-then-not-is_option : goal.returns-then-not-is_option
returns-then-not-is_option c =
    let rest = c.options.rest.now in
    let names = names_of (options_of c.args.verb) in
    let word = c.as_str-word.result.now in
    let value = c.as_str-value.result.now in
    let tail = map string_bytes (take (length rest - 2) (drop 2 rest)) in
    let o : string_bytes (get_or rest 0 c.word-item.result) ≡ word = sym (c.as_str-word.ensures.value ∙ ap string_bytes c.word-item.is) in
    let v : string_bytes (get_or rest 1 c.value-item.result) ≡ value = sym (c.as_str-value.ensures.value ∙ ap string_bytes c.value-item.is) in
    let cut : map string_bytes rest ≡ word ∷ value ∷ tail =
    ap (map string_bytes) (laws.two rest c.word-item.result c.value-item.result c.in-len2-up.len_at_least)
    ∙ ap (λ (x : List ℕ). x ∷ string_bytes (get_or rest 1 c.value-item.result) ∷ tail) o ∙ ap (λ (x : List ℕ). word ∷ x ∷ tail) v in
    let first : spec.is_plain word ≡ false = sym c.is_plain.ensures ∙ search rules in
    let second : is_some (spec.option_in names (spec.name_in word)) ≡ false = sym c.is_option.ensures ∙ search rules in
    laws.option_refused names word value tail first second ∙ ap (laws.files_of names) (sym cut) ∙ c.options.invariant

pub returns-then-not-is_plain : goal.returns-then-not-is_plain
returns-then-not-is_plain c =
    let rest = c.options.rest.now in
    let names = names_of (options_of c.args.verb) in
    let word = c.as_str-word.result.now in
    let value = c.as_str-value.result.now in
    let tail = map string_bytes (take (length rest - 2) (drop 2 rest)) in
    let o : string_bytes (get_or rest 0 c.word-item.result) ≡ word = sym (c.as_str-word.ensures.value ∙ ap string_bytes c.word-item.is) in
    let v : string_bytes (get_or rest 1 c.value-item.result) ≡ value = sym (c.as_str-value.ensures.value ∙ ap string_bytes c.value-item.is) in
    let cut : map string_bytes rest ≡ word ∷ value ∷ tail =
    ap (map string_bytes) (laws.two rest c.word-item.result c.value-item.result c.in-len2-up.len_at_least)
    ∙ ap (λ (x : List ℕ). x ∷ string_bytes (get_or rest 1 c.value-item.result) ∷ tail) o ∙ ap (λ (x : List ℕ). word ∷ x ∷ tail) v in
    let first : spec.is_plain word ≡ false = sym c.is_plain.ensures ∙ search rules in
    let third : spec.is_plain value ≡ false = sym c.is_plain-in-options.ensures ∙ search rules in
    laws.value_refused names word value tail first third ∙ ap (laws.files_of names) (sym cut) ∙ c.options.invariant

pub options-preserved : goal.options-preserved
options-preserved c =
    let rest = c.options.rest.now in
    let names = names_of (options_of c.args.verb) in
    let word = c.as_str-word.result.now in
    let value = c.as_str-value.result.now in
    let tail = map string_bytes (take (length rest - 2) (drop 2 rest)) in
    let o : string_bytes (get_or rest 0 c.word-item.result) ≡ word = sym (c.as_str-word.ensures.value ∙ ap string_bytes c.word-item.is) in
    let v : string_bytes (get_or rest 1 c.value-item.result) ≡ value = sym (c.as_str-value.ensures.value ∙ ap string_bytes c.value-item.is) in
    let cut : map string_bytes rest ≡ word ∷ value ∷ tail =
    ap (map string_bytes) (laws.two rest c.word-item.result c.value-item.result c.in-len2-up.len_at_least)
    ∙ ap (λ (x : List ℕ). x ∷ string_bytes (get_or rest 1 c.value-item.result) ∷ tail) o ∙ ap (λ (x : List ℕ). word ∷ x ∷ tail) v in
    let first : spec.is_plain word ≡ false = sym c.is_plain.ensures ∙ search rules in
    let second : is_some (spec.option_in names (spec.name_in word)) ≡ true = sym c.is_option.ensures ∙ search rules in
    let third : spec.is_plain value ≡ true = sym c.is_plain-in-options.ensures ∙ search rules in
    laws.option_moves names word value tail first second third ∙ ap (laws.files_of names) (sym cut) ∙ c.options.invariant
