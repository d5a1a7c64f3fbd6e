-- What is kept, seen without places in memory.
use Rattle.std.proofs.Common.{◌≡◌, suc, List, [], ◌∷◌, ◌++◌, length, map, refl, ap, ◌∙◌}
use Rattle.std.proofs.lemmas.List.{map-append}
use Rattle.vl_tree.specs.declared.tokens.Token.{Token}
use Rattle.vl_lex.specs.Lexed.{view}

pub views_push : (xs ys : List Token) (t : Token) → ys ≡ xs ++ t ∷ [] → map view ys ≡ map view xs ++ view t ∷ []
views_push xs ys t e = ap (map view) e ∙ map-append view xs (t ∷ [])

pub views_length : (xs : List Token) → length (map view xs) ≡ length xs
views_length [] = refl
views_length (x ∷ xs) = ap (λ n. suc n) (views_length xs)

pub ruleset gates = (views_push, views_length)
