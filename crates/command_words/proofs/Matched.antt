-- What `clap` answers to the words of a line.
use Rattle.std.proofs.Common.{◌≡◌, ◌∙◌, ◌⊎◌, inl, inr, Bool, true, false, List, [], ◌∷◌, Option, Some, Result, Ok, Err, IfOk, refl, sym, ap, subst}
use Rattle.std.specs.Bool.{⊤}
use Rattle.std.proofs.lemmas.Bool.{false≢true}
use Rattle.clap.specs.Words.{App, FailsBy, HasMatchesOf, IsAmong, Kinds, Text, fault_of, first_of, first_value, found_of, is_simple, is_simple_and_free, kind_of, matches_of, rows_of}
use Rattle.clap.specs.declared.error.Error.{Error}
use Rattle.clap.specs.declared.error.kind.ErrorKind.{ErrorKind}
use Rattle.clap.specs.declared.error.kind.ErrorKind.TheVariants as kind
use Rattle.clap.specs.declared.parser.matches.ArgMatches.{ArgMatches}
use Rattle.clap.proofs.WalkLemmas.{first_value-rows}
use Rattle.command_words.specs.App.{IsMatched, app_for}
use Rattle.command_words.specs.Table as table
use Rattle.command_words.specs.Words.{Line, line_of}
use Rattle.command_words.specs.declared.table.Verb.{Verb}
use Rattle.command_words.proofs.Rows.{clean}
use Rattle.command_words.proofs.Spelled.{spelled}
use Rattle.command_words.proofs.Tables.{fault_is, is_free, is_plain_app, matches_are}
use Rattle.command_words.proofs.Whole.{values, whole}

module _ (v : Verb) (ws : List Text) (l : Line) (line : line_of (table.names_of (table.options_of v)) ws ≡ Some l) where
  fault_clean : clean (fault_of (app_for v) ws) ≡ table.is_whole v l
  fault_clean = ap clean (fault_is v ws) ∙ whole v l ws (spelled (table.names_of (table.options_of v)) ws l line)

  ok_taken : (m : ArgMatches) → fault_of (app_for v) ws ≡ [] → HasMatchesOf (app_for v) ws m → IsMatched v l (Ok m)
  ok_taken m none has =
      let w : table.is_whole v l ≡ true = sym fault_clean ∙ ap clean none in (
        w,
        λ name n. first_value-rows (found_of m) name ∙ ap (first_of name) ((has (is_plain_app v)).0 ∙ matches_are v ws)
            ∙ values v l ws (spelled (table.names_of (table.options_of v)) ws l line) w name n,
      )

  among_clean : (k : ErrorKind) (ks : Kinds) → IsAmong k ks → clean ks ≡ false
  among_clean k [] h = elim h [ ]
  among_clean k (x ∷ ks) h = refl

  -- the matches of a whole line, want of memory, or a refusal of a line that is not whole
  abbrev pub Answered : Result ArgMatches Error → Type 0
  Answered (Ok m) = IsMatched v l (Ok m)
  Answered (Err e) = (kind_of e ≡ kind.OutOfMemory) ⊎ (table.is_whole v l ≡ false)

  answered_here : (r : Result ArgMatches Error) → FailsBy (fault_of (app_for v) ws) r → IfOk r (HasMatchesOf (app_for v) ws) → Answered r
  answered_here (Ok m) fails has = ok_taken m fails has
  answered_here (Err e) (inl memory) has = inl memory
  answered_here (Err e) (inr among) has = inr (sym fault_clean ∙ among_clean (kind_of e) (fault_of (app_for v) ws) among)

  pub answered : (a : App) (r : Result ArgMatches Error) → a ≡ app_for v → (is_simple_and_free a ≡ true → FailsBy (fault_of a ws) r) → IfOk r (HasMatchesOf a ws) → Answered r
  answered a r e fails has =
      answered_here r (subst (λ (x : App). FailsBy (fault_of x ws) r) e (fails (ap is_simple_and_free e ∙ is_free v))) (subst (λ (x : App). IfOk r (HasMatchesOf x ws)) e has)
