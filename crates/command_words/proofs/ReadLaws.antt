-- From a line to its command.
use Rattle.std.proofs.Common.{◌≡◌, ◌∙◌, Bool, true, false, List, [], ◌∷◌, Option, Some, None, Result, Ok, Err, codes, option_map, refl, sym, ap, ap₂, subst, if◌then◌else◌}
use Rattle.std.specs.Bool.{⊤}
use Rattle.clap.specs.Words.{first_value, found_of}
use Rattle.clap.specs.declared.parser.matches.ArgMatches.{ArgMatches}
use Rattle.command_words.specs.App.{IsMatched, NoFile}
use Rattle.command_words.specs.Commands as spec
use Rattle.command_words.specs.Seen.{Gives, seen_command}
use Rattle.command_words.specs.Table as table
use Rattle.command_words.specs.Values.{options_by, text_or_none}
use Rattle.command_words.specs.Words.{Line, Text, line_of, then_some}
use Rattle.command_words.specs.declared.commands.Command.{Command}
use Rattle.command_words.specs.declared.stop.WordsStop.{WordsStop}
use Rattle.command_words.specs.declared.stop.WordsStop.TheVariants as stop
use Rattle.command_words.specs.declared.table.Verb.{Verb}
use Rattle.command_words.specs.declared.table.Verb.TheVariants as verb
use Rattle.command_words.proofs.ShapeLaws.{files_in, files_of}
use Rattle.command_words.proofs.Spelled.{some_is, none_some}

-- the values of two readings agree on the names of options
abbrev Agree : (Text → Option Text) → (Text → Option Text) → Type 0
Agree f g = (name : Text) → NoFile name → f name ≡ g name

same_options : (f g : Text → Option Text) → Agree f g → options_by f ≡ options_by g
same_options f g h =
    rw (
      h (codes "clock") (refl, refl),
      h (codes "reset") (refl, refl),
      h (codes "pin") (refl, refl),
      h (codes "define") (refl, refl),
      h (codes "box") (refl, refl),
      h (codes "stub") (refl, refl),
      h (codes "depth") (refl, refl),
      h (codes "budget") (refl, refl),
      h (codes "top") (refl, refl),
    ) refl

pub same_command : (v : Verb) (f g : Text → Option Text) (files : List Text) → Agree f g → spec.command_by v f files ≡ spec.command_by v g files
same_command verb.Check f g files h = rw (same_options f g h, h (codes "table") (refl, refl), h (codes "proof") (refl, refl)) refl
same_command verb.Extract f g files h = rw (same_options f g h, h (codes "plan") (refl, refl)) refl
same_command verb.Session f g files h = rw (same_options f g h, h (codes "script") (refl, refl)) refl
same_command verb.Replay f g files h = rw (same_options f g h, h (codes "table") (refl, refl), h (codes "trace") (refl, refl)) refl
same_command verb.Lrat f g files h = refl
same_command verb.Gen f g files h = refl

module _ (v : Verb) (ws : List Text) where
  abbrev names : List Text
  names = table.names_of (table.options_of v)

  -- no line
  pub no_line : None ≡ files_of names ws → spec.command_behind ws v ≡ None
  no_line e = go (line_of names ws) e
    where
      go : (o : Option Line) → None ≡ files_in o → then_some o (spec.command_of_line v) ≡ None
      go None h = refl
      go (Some l) h = none_some l.files h

  -- a line, with its files
  pub record HasLine (given : List Text) : Type 0 where
    pub line : Line
    pub is : line_of names ws ≡ Some line
    pub files : line.files ≡ given

  pub has_line : (files : List Text) → Some files ≡ files_of names ws → HasLine files
  has_line files e = go (line_of names ws) refl e
    where
      go : (o : Option Line) → line_of names ws ≡ o → Some files ≡ files_in o → HasLine files
      go None is h = none_some files (sym h)
      go (Some l) is h = record { line = l; is = is; files = some_is l.files files (sym h) }

  -- a line that is refused
  pub refused : (files : List Text) (s : WordsStop) → Some files ≡ files_of names ws
      → ((l : Line) → line_of names ws ≡ Some l → IsMatched v l (Err s)) → Gives seen_command (spec.command_behind ws v) (Err s)
  refused files s e matched = let h = has_line files e in go s h.line h.is (matched h.line h.is)
    where
      go : (s : WordsStop) (l : Line) → line_of names ws ≡ Some l → IsMatched v l (Err s) → Gives seen_command (spec.command_behind ws v) (Err s)
      go stop.BadWords l is m = ap (λ (o : Option Line). then_some o (spec.command_of_line v)) is
          ∙ ap (λ (b : Bool). if b then spec.command_by v (table.value_in v l.pairs) l.files else None) m
      go stop.NoMemory l is m = tt

  -- a line that is taken
  pub taken : (files : List Text) (m : ArgMatches) → Some files ≡ files_of names ws → ((l : Line) → line_of names ws ≡ Some l → IsMatched v l (Ok m))
      → spec.command_behind ws v ≡ spec.command_by v (first_value (found_of m)) files
  taken files m e matched =
      let h = has_line files e in
      let k = matched h.line h.is in
      ap (λ (o : Option Line). then_some o (spec.command_of_line v)) h.is
      ∙ ap (λ (b : Bool). if b then spec.command_by v (table.value_in v h.line.pairs) h.line.files else None) k.0
      ∙ ap (spec.command_by v (table.value_in v h.line.pairs)) h.files
      ∙ sym (same_command v (first_value (found_of m)) (table.value_in v h.line.pairs) files k.1)
