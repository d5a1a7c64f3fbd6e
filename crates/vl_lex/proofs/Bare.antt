-- From tokens with rows to tokens.
use Rattle.std.proofs.Common.{◌≡◌, Result, Ok, Err, List, [], ◌∷◌, map, refl, ap, ◌∙◌, None}
use Rattle.vl_tree.specs.declared.tokens.Token.{Token}
use Rattle.vl_tree.specs.declared.faults.Stop.{Stop}
use Rattle.vl_tree.specs.declared.faults.Stop.TheVariants as stop
use Rattle.vl_lex.specs.declared.lexer.Lined.{Lined}
use Rattle.vl_lex.specs.Lexed.{Lexed, view, placed, IsBare, Lexes}

pub bare_views : (lined : List Lined) → map view (map (λ t. t.token) lined) ≡ map (λ t. t.token) (map placed lined)
bare_views [] = refl
bare_views (x ∷ xs) = ap (λ z. view x.token ∷ z) (bare_views xs)

pub bare_lexes : (r : Result (List Token) Stop) (lined : List Lined) (l : Lexed) → IsBare r (map (λ t. t.token) lined) → (map placed lined ≡ l.tokens) × (l.flaw ≡ None) → Lexes r l
bare_lexes (Ok tokens) lined l is h = (ap (map view) is ∙ (bare_views lined ∙ ap (map (λ t. t.token)) h.0), h.1)
bare_lexes (Err (stop.Fault f)) lined l is h = absurd is
bare_lexes (Err (stop.Limit c)) lined l is h = absurd is
bare_lexes (Err stop.NoMemory) lined l is h = tt
