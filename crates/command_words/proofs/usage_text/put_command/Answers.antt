use Rattle.std.proofs.Common.{◌≡◌, ◌∙◌, ◌++◌, ℕ, List, ap, ap₂, append_assoc, codes, flat_map}
use Rattle.command_words.specs.Table.{options_of}
use Rattle.command_words.specs.Usage as spec
use Rattle.command_words.proofs.usage_text.put_command.Goals as goal

five : (o a w f n t : List ℕ) → ((((o ++ a) ++ w) ++ f) ++ n) ++ t ≡ o ++ ((((a ++ w) ++ f) ++ n) ++ t)
five o a w f n t =
    ap (λ (x : List ℕ). ((x ++ f) ++ n) ++ t) (append_assoc o a w) ∙ ap (λ (x : List ℕ). (x ++ n) ++ t) (append_assoc o (a ++ w) f)
    ∙ ap (λ (x : List ℕ). x ++ t) (append_assoc o ((a ++ w) ++ f) n) ∙ append_assoc o (((a ++ w) ++ f) ++ n) t

pub returns : goal.returns
returns c =
    let t = flat_map spec.option_line (options_of c.args.verb) in
    let join = λ (x y : List ℕ). x ++ y in
    c.in_ok-put_options.ensures
    ∙ ap (λ (x : List ℕ). x ++ t) (c.in_ok-extend_from_slice-4.ensures.items
    ∙ ap (λ (x : List ℕ). x ++ codes "\n") (c.in_ok-extend_from_slice-3.ensures.items
    ∙ ap₂ join (c.in_ok-extend_from_slice-2.ensures.items ∙ ap₂ join c.in_ok-extend_from_slice.ensures.items (c.as_bytes.ensures.value ∙ c.word.ensures)) c.files_text.ensures))
    ∙ five c.args.out.now.items (codes "  conncheck ") _ _ (codes "\n") t
