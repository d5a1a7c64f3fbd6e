use Rattle.std.proofs.Common.{rules, ◌≡◌, ◌∙◌, ◌-◌, ◌++◌, ◌∷◌, [], true, false, List, ℕ, map, string_bytes, length, take, drop, get_or, ap, sym}
use Rattle.std.proofs.lemmas.List.{map-append}
use Rattle.conncheck.specs.Seen.{seen_pair}
use Rattle.conncheck.specs.Words as spec
use Rattle.conncheck.specs.declared.words.Pair.{Pair}
use Rattle.conncheck.proofs.WordLaws as laws
use Rattle.conncheck.proofs.words.read_pairs.Goals as goal

pub options-preserved : goal.options-preserved
options-preserved c =
    let rest = c.options.rest.now in
    let option = c.as_str-option.result.now in
    let value = c.as_str-value.result.now in
    let tail = map string_bytes (take (length rest - 2) (drop 2 rest)) in
    let allowed : List (List ℕ) = map (λ n. n.now) c.args.allowed.now in
    let pairs = map seen_pair c.options.pairs.items in
    let one : spec.Pair = record { option = option; value = value } in
    let o : string_bytes (get_or rest 0 c.option-item.result) ≡ option = sym (c.as_str-option.ensures.value ∙ ap string_bytes c.option-item.is) in
    let v : string_bytes (get_or rest 1 c.value-item.result) ≡ value = sym (c.as_str-value.ensures.value ∙ ap string_bytes c.value-item.is) in
    let cut : map string_bytes rest ≡ option ∷ value ∷ tail =
    ap (map string_bytes) (laws.two rest c.option-item.result c.value-item.result c.in-len2-up.len_at_least)
    ∙ ap (λ (x : List ℕ). x ∷ string_bytes (get_or rest 1 c.value-item.result) ∷ tail) o ∙ ap (λ (x : List ℕ). option ∷ x ∷ tail) v in
    let a : c.is_plain.result ≡ false = search rules in
    let b : c.takes.result ≡ true = search rules in
    let first : spec.is_plain option ≡ false = sym c.is_plain.ensures ∙ a in
    let second : spec.takes allowed pairs option value ≡ true =
    ap (λ (ps : List Pair). spec.takes allowed (map seen_pair ps) option value) (sym c.as_slice.ensures.value) ∙ sym c.takes.ensures ∙ b in
    let pushed : map seen_pair c.push.new.self.items ≡ pairs ++ one ∷ [] =
    ap (map seen_pair) c.in_ok-push.ensures.items ∙ map-append seen_pair c.options.pairs.items _ in
    ap (λ (ps : List spec.Pair). spec.line_from allowed ps tail) pushed ∙ laws.option_moves allowed pairs option value tail first second ∙ ap (spec.line_from allowed pairs) (sym cut) ∙ c.options.invariant
