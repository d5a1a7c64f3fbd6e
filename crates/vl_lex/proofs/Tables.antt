-- What is looked up after a change of the macros.
use Rattle.std.proofs.Common.{◌≡◌, Bool, true, false, cond, if◌then◌else◌, Option, Some, None, List, map, refl, ap, sym, ◌∙◌}
use Rattle.std.proofs.Math.Path.{fun_ext}
use Rattle.std.specs.Str.{bytes_eq}
use Rattle.std.specs.Option.{option_map}
use Rattle.std.specs.Map.{update}
use Rattle.std.proofs.lemmas.Slice.Eq.{bytes_eq-Decides}
use Rattle.vl_tree.specs.declared.tokens.Token.{Token}
use Rattle.vl_lex.specs.Bytes.{Text}
use Rattle.vl_lex.specs.Lexed.{Seen, view}
use Rattle.vl_lex.specs.Macros.{Table, updated}

through : (b : Bool) (w x : Option (List Token)) → option_map (map view) (cond b w x) ≡ (if b then option_map (map view) w else option_map (map view) x)
through true w x = refl
through false w x = refl

-- the entries were changed at one name
pub changed : (old new : Text → Option (List Token)) (name : Text) (w : Option (List Token)) → ((q : Text) → new q ≡ update bytes_eq old name w q)
    → (λ q. option_map (map view) (new q)) ≡ updated (λ q. option_map (map view) (old q)) name (option_map (map view) w)
changed old new name w h = fun_ext (λ q. ap (option_map (map view)) (h q) ∙ through (bytes_eq name q) w (old q))

put_back : (b : Bool) (x y : Option (List Seen)) → (b ≡ true → x ≡ y) → (if b then x else (if b then None else y)) ≡ y
put_back true x y h = h refl
put_back false x y h = refl

-- a body that was taken is put back
pub restored : (table : Table) (name : Text) (body : List Seen) → table name ≡ Some body → updated (updated table name None) name (Some body) ≡ table
restored table name body h = fun_ext (λ q. put_back (bytes_eq name q) (Some body) (table q) (λ e. sym h ∙ ap table ((bytes_eq-Decides name q).0 e)))
