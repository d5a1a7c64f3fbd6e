-- The tokens of all files: a source spells them, or they break.
use Rattle.std.proofs.Common.{◌≡◌, ◌⊎◌, List, [], ◌∷◌, Option, Result, Err, map, refl, sym, ap, subst, inl, inr}
use Rattle.bits_core.specs.declared.names.File.{File}
use Rattle.grammar_views.specs.Views.{BreaksAt, IsSpelled}
use Rattle.grammar_views.proofs.Files.{spelled_or_broken}
use Rattle.vl_grammar.specs.Read.{Tokens}
use Rattle.vl_lex.specs.Lexed.{Seen, view}
use Rattle.vl_tree.specs.declared.faults.Fault.{Fault}
use Rattle.vl_tree.specs.declared.faults.Stop as walk
use Rattle.vl_tree.specs.declared.faults.Stop.TheVariants as stop
use Rattle.vl_tree.specs.declared.tokens.Token.{Token}
use Rattle.vl_syntax.specs.Refused.{IsRefused}
use Rattle.conncheck.proofs.JudgeLaws.{some_reply}
use Rattle.conncheck.proofs.PrintLaws.{nothing}
use Rattle.conncheck.specs.Ends.{Ends, EndsBy, StopEnds}
use Rattle.conncheck.specs.Reply.{Reply, refused}
use Rattle.conncheck.specs.Texts.{place_text}
use Rattle.conncheck.specs.Words.{Text}
use Rattle.conncheck.specs.declared.status.Status.{Status}
use Rattle.conncheck.specs.declared.status.Stop.{Stop}
use Rattle.conncheck.specs.declared.status.Stop.TheVariants.{Memory}
use Rattle.conncheck.specs.commands.Check.{OfTokens, OfWords, Values, bad_syntax}

some_of : (c : Values) (table : Text) (fs : List File) (ts : List Seen) → IsSpelled ts ⊎ ((first : Seen) × BreaksAt ts first) → (o : Reply) × OfTokens c table fs ts o
some_of c table fs ts (inl s) = let o = some_reply c table (map (λ t. t.text) ts) in (o.0, inr (s, o.1))
some_of c table fs ts (inr b) = (bad_syntax fs b.0, inl (b.0, b.1, refl))

-- there is always a reply
pub some_tokens : (c : Values) (table : Text) (fs : List File) (ts : List Seen) → (o : Reply) × OfTokens c table fs ts o
some_tokens c table fs ts = some_of c table fs ts (spelled_or_broken ts)

texts_same : (ts : Tokens) → map (λ (t : Token). t.text.now) ts ≡ map (λ (s : Seen). s.text) (map view ts)
texts_same [] = refl
texts_same (t ∷ ts) = ap (λ (ws : List Text). t.text.now ∷ ws) (texts_same ts)

-- a source spells the tokens, and their texts are asked
pub of_source : (c : Values) (table : Text) (fs : List File) (ts : Tokens) (o : Reply) → IsSpelled (map view ts) → OfWords c table (map (λ t. t.text.now) ts) o → OfTokens c table fs (map view ts) o
of_source c table fs ts o s h =
    let P : List Text → Type 0 = λ ws. OfWords c table ws o in
    inr (s, subst P (texts_same ts) h)

-- what is said where the tokens are not parsed
pub of_stop : (c : Values) (table : Text) (fs : List File) (ts : List Seen) (s : walk.Stop) (old new : Option Text) (r : Result Status Stop) → IsRefused ts s → StopEnds s fs old new r
    → EndsBy (OfTokens c table fs ts) old new r
of_stop c table fs ts (stop.Fault f) old new r h ends =
    record { reply = refused f.code (place_text fs f.place); is = inl (h.0, h.1, ap (λ (x : Fault). refused x.code (place_text fs x.place)) h.2); ended = ends }
of_stop c table fs ts (stop.Limit l) old new r h ends = absurd h
of_stop c table fs ts stop.NoMemory old new r h ends =
    let o = some_tokens c table fs ts in
    let P : Option Text → Type 0 = λ x. Ends o.0 old x (Err Memory) in
    let Q : Result Status Stop → Type 0 = λ x. Ends o.0 old new x in
    record { reply = o.0; is = o.1; ended = subst Q (sym ends.1) (subst P (sym ends.0) (nothing o.0 old)) }
