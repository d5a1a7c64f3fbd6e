-- The rows that uses of options and files leave.
use Rattle.std.proofs.Common.{◌≡◌, ◌==◌, ◌&&◌, ◌||◌, ◌∙◌, ◌++◌, ℕ, Bool, true, false, not, List, [], ◌∷◌, Option, Some, None, refl, sym, ap, ap₂, if◌then◌else◌, rules, append-nil, fold, map, is_some}
use Rattle.std.specs.Bool.{⊤}
use Rattle.std.specs.List.{find, list_all, list_any}
use Rattle.std.specs.Option.{option_map_or}
use Rattle.std.specs.Str.{bytes_eq}
use Rattle.clap.specs.Facts.{explicit_source, unwrap_or_range}
use Rattle.clap.specs.Faults.{repeat_fault, use_fault}
use Rattle.clap.specs.Kinds.{Kinds, or_else}
use Rattle.clap.specs.Takes.{is_given}
use Rattle.clap.specs.Words.{Row, Rule, Text}
use Rattle.clap.specs.Walk.{action_of, at_row, has_row, more_values, reading_by, stronger, used, with_default, with_values}
use Rattle.clap.specs.declared.builder.ArgAction.TheVariants.{Set, Append}
use Rattle.clap.specs.declared.builder.value_parser.ValueParser.TheVariants as vp
use Rattle.clap.specs.declared.parser.matches.ValueSource.{ValueSource}
use Rattle.clap.specs.declared.parser.matches.ValueSource.TheVariants.{CommandLine, DefaultValue}
use Rattle.clap.specs.Walk.{default_rows}
use Rattle.std.proofs.lemmas.Bool.{false≢true}
use Rattle.std.proofs.lemmas.Slice.Eq.{bytes_eq-Decides}
use Rattle.command_words.proofs.Walks.{Use}

abbrev pub Each : {X : Type 0} → (X → Type 0) → List X → Type 0
Each P [] = ⊤
Each P (x ∷ xs) = P x × Each P xs

-- no kind of error
abbrev pub clean : Kinds → Bool
clean [] = true
clean (k ∷ ks) = false

pub clean_both : (a b : Kinds) → clean (or_else a b) ≡ (clean a && clean b)
clean_both [] b = refl
clean_both (k ∷ ks) b = refl

-- what an option has, and what a file has that may stand several times
pub record IsSet (a : Rule) : Type 0 where
  pub range : a.range ≡ Some (record { start_inclusive = 1; end_inclusive = 1 })
  pub action : a.action ≡ Some Set
  pub parser : a.parser ≡ Some vp.String

pub record IsAppend (a : Rule) : Type 0 where
  pub range : a.range ≡ Some (record { start_inclusive = 1; end_inclusive = 1 })
  pub action : a.action ≡ Some Append
  pub parser : a.parser ≡ Some vp.String

pub same_bytes : (xs ys : List ℕ) → bytes_eq xs ys ≡ true → xs ≡ ys
same_bytes xs ys h = (bytes_eq-Decides xs ys).0 h

pub same_id : (id : Text) → bytes_eq id id ≡ true
same_id id = search rules

or_nil : (ks : Kinds) → or_else ks [] ≡ ks
or_nil [] = refl
or_nil (k ∷ ks) = refl

-- ---- one use

repeat_clean : (id : Text) (rows : List Row) (b : Bool) → has_row id rows ≡ b → clean (repeat_fault false id rows) ≡ not b
repeat_clean id rows true e = rw e refl
repeat_clean id rows false e = rw e refl

-- an option may be used where it was not used before
pub set_clean : (a : Rule) (v : Text) (rows : List Row) → IsSet a → clean (use_fault false a (v ∷ []) rows) ≡ not (has_row a.id rows)
set_clean a v rows h = rw (h.range, h.action, h.parser) (ap clean (or_nil (repeat_fault false a.id rows)) ∙ repeat_clean a.id rows (has_row a.id rows) refl)

pub append_clean : (a : Rule) (v : Text) (rows : List Row) → IsAppend a → clean (use_fault false a (v ∷ []) rows) ≡ true
append_clean a v rows h = rw (h.range, h.action, h.parser) refl

abbrev pub row_of : Rule → Text → Row
row_of a v = record { id = a.id; values = v ∷ []; count = None; source = Some CommandLine; reading = reading_by a }

-- where no row has the id, the missing ones go to the end
pub at_row_missing : (id : Text) (change : Row → List Row) (missing rows : List Row) → has_row id rows ≡ false → at_row id change missing rows ≡ rows ++ missing
at_row_missing id change missing [] h = refl
at_row_missing id change missing (r ∷ rs) h = at (bytes_eq r.id id) h (at_row_missing id change missing rs)
  where
    at : (b : Bool) → (b || has_row id rs) ≡ false → (has_row id rs ≡ false → at_row id change missing rs ≡ rs ++ missing)
        → (if b then change r ++ rs else r ∷ at_row id change missing rs) ≡ (r ∷ rs) ++ missing
    at true h more = cc
    at false h more = ap (λ (xs : List Row). r ∷ xs) (more h)

-- a first use of an option puts its row at the end
pub set_rows : (a : Rule) (v : Text) (rows : List Row) → IsSet a → has_row a.id rows ≡ false → used a (v ∷ []) rows ≡ rows ++ (row_of a v ∷ [])
set_rows a v rows h none =
    rw (h.action, at_row_missing a.id (λ _. []) [] rows none, append-nil rows) (at_row_missing a.id (more_values CommandLine (v ∷ [])) (row_of a v ∷ []) rows none)

abbrev appended : Rule → Text → List Row → List Row
appended a v rows = at_row a.id (more_values CommandLine (v ∷ [])) (row_of a v ∷ []) rows

append_rows : (a : Rule) (v : Text) (rows : List Row) → IsAppend a → used a (v ∷ []) rows ≡ appended a v rows
append_rows a v rows h = rw h.action refl

-- ---- the first row of an id

abbrev pub row_at : Text → List Row → Option Row
row_at id rows = find (λ r. bytes_eq r.id id) rows

abbrev pub or_row : Option Row → Option Row → Option Row
or_row None later = later
or_row (Some r) later = Some r

pub or_row_assoc : (a b c : Option Row) → or_row (or_row a b) c ≡ or_row a (or_row b c)
or_row_assoc None b c = refl
or_row_assoc (Some r) b c = refl

pub or_row_none : (a : Option Row) → or_row a None ≡ a
or_row_none None = refl
or_row_none (Some r) = refl

pub row_at_append : (id : Text) (xs ys : List Row) → row_at id (xs ++ ys) ≡ or_row (row_at id xs) (row_at id ys)
row_at_append id [] ys = refl
row_at_append id (x ∷ xs) ys = go (bytes_eq x.id id) (row_at_append id xs ys)
  where
    go : (b : Bool) → row_at id (xs ++ ys) ≡ or_row (row_at id xs) (row_at id ys)
        → (if b then Some x else row_at id (xs ++ ys)) ≡ or_row (if b then Some x else row_at id xs) (row_at id ys)
    go true e = refl
    go false e = e

pub has_is : (id : Text) (rows : List Row) → has_row id rows ≡ is_some (row_at id rows)
has_is id [] = refl
has_is id (x ∷ xs) = go (bytes_eq x.id id) (has_is id xs)
  where
    go : (b : Bool) → has_row id xs ≡ is_some (row_at id xs) → (b || has_row id xs) ≡ is_some (if b then Some x else row_at id xs)
    go true e = refl
    go false e = e

-- the row that a use makes, where it is of this id
abbrev pub use_row : Text → Use → Option Row
use_row id u = if bytes_eq u.rule.id id then Some (row_of u.rule u.value) else None

pub set_at : (id : Text) (u : Use) (rows : List Row) → IsSet u.rule → has_row u.rule.id rows ≡ false
    → row_at id (used u.rule (u.value ∷ []) rows) ≡ or_row (row_at id rows) (use_row id u)
set_at id u rows h none = ap (row_at id) (set_rows u.rule u.value rows h none) ∙ row_at_append id rows (row_of u.rule u.value ∷ [])

-- a file leaves the rows of other ids
other_at : (id : Text) (a : Rule) (v : Text) (rows : List Row) → bytes_eq a.id id ≡ false → row_at id (appended a v rows) ≡ row_at id rows
other_at id a v [] differs = rw differs refl
other_at id a v (r ∷ rs) differs = go (bytes_eq r.id a.id) refl (bytes_eq r.id id) refl (other_at id a v rs differs)
  where
    go : (b : Bool) → bytes_eq r.id a.id ≡ b → (d : Bool) → bytes_eq r.id id ≡ d → row_at id (appended a v rs) ≡ row_at id rs
        → row_at id (if b then more_values CommandLine (v ∷ []) r ++ rs else r ∷ appended a v rs) ≡ (if d then Some r else row_at id rs)
    go true same true here more = absurd (false≢true (sym differs ∙ ap (λ (x : Text). bytes_eq x id) (sym (same_bytes r.id a.id same)) ∙ here))
    go true same false here more = rw here refl
    go false same true here more = rw here refl
    go false same false here more = rw here more

pub append_at : (id : Text) (u : Use) (rows : List Row) → IsAppend u.rule → bytes_eq u.rule.id id ≡ false → row_at id (used u.rule (u.value ∷ []) rows) ≡ row_at id rows
append_at id u rows h differs = ap (row_at id) (append_rows u.rule u.value rows h) ∙ other_at id u.rule u.value rows differs

-- ---- what was given

abbrev pub given_row : Option Row → Bool
given_row o = option_map_or (λ r. explicit_source r.source) o false

-- all rows come from words
abbrev pub are_told : List Row → Bool
are_told rows = list_all (λ r. explicit_source r.source) rows

pub and_parts : (a b : Bool) → (a && b) ≡ true → (a ≡ true) × (b ≡ true)
and_parts true true h = (refl, refl)
and_parts true false h = cc
and_parts false b h = cc

pub told_append : (xs ys : List Row) → are_told xs ≡ true → are_told ys ≡ true → are_told (xs ++ ys) ≡ true
told_append [] ys h k = k
told_append (x ∷ xs) ys h k = let p = and_parts (explicit_source x.source) (are_told xs) h in ap₂ (λ (a b : Bool). a && b) p.0 (told_append xs ys p.1 k)

pub set_told : (u : Use) (rows : List Row) → IsSet u.rule → has_row u.rule.id rows ≡ false → are_told rows ≡ true → are_told (used u.rule (u.value ∷ []) rows) ≡ true
set_told u rows h none told = ap are_told (set_rows u.rule u.value rows h none) ∙ told_append rows (row_of u.rule u.value ∷ []) told refl

stronger_told : (s : Option ValueSource) → explicit_source (Some (stronger s CommandLine)) ≡ true
stronger_told None = refl
stronger_told (Some CommandLine) = refl
stronger_told (Some DefaultValue) = refl

appended_told : (a : Rule) (v : Text) (rows : List Row) → are_told rows ≡ true → are_told (appended a v rows) ≡ true
appended_told a v [] h = refl
appended_told a v (r ∷ rs) h = go (bytes_eq r.id a.id) (appended_told a v rs (and_parts (explicit_source r.source) (are_told rs) h).1)
  where
    parts : (explicit_source r.source ≡ true) × (are_told rs ≡ true)
    parts = and_parts (explicit_source r.source) (are_told rs) h

    go : (b : Bool) → are_told (appended a v rs) ≡ true → are_told (if b then more_values CommandLine (v ∷ []) r ++ rs else r ∷ appended a v rs) ≡ true
    go true more = ap₂ (λ (x y : Bool). x && y) (stronger_told r.source) parts.1
    go false more = ap₂ (λ (x y : Bool). x && y) parts.0 more

pub append_told : (u : Use) (rows : List Row) → IsAppend u.rule → are_told rows ≡ true → are_told (used u.rule (u.value ∷ []) rows) ≡ true
append_told u rows h told = ap are_told (append_rows u.rule u.value rows h) ∙ appended_told u.rule u.value rows told

appended_has : (a : Rule) (v : Text) (rows : List Row) → has_row a.id (appended a v rows) ≡ true
appended_has a v [] = rw (same_id a.id) refl
appended_has a v (r ∷ rs) = go (bytes_eq r.id a.id) refl (appended_has a v rs)
  where
    go : (b : Bool) → bytes_eq r.id a.id ≡ b → has_row a.id (appended a v rs) ≡ true → has_row a.id (if b then more_values CommandLine (v ∷ []) r ++ rs else r ∷ appended a v rs) ≡ true
    go true e more = rw e refl
    go false e more = rw e more

pub append_has : (u : Use) (rows : List Row) → IsAppend u.rule → has_row u.rule.id (used u.rule (u.value ∷ []) rows) ≡ true
append_has u rows h = ap (has_row u.rule.id) (append_rows u.rule u.value rows h) ∙ appended_has u.rule u.value rows

-- where all rows come from words, what has a row was given
pub told_given : (id : Text) (rows : List Row) → are_told rows ≡ true → given_row (row_at id rows) ≡ has_row id rows
told_given id [] h = refl
told_given id (r ∷ rs) h = go (bytes_eq r.id id) (told_given id rs (and_parts (explicit_source r.source) (are_told rs) h).1)
  where
    parts : (explicit_source r.source ≡ true) × (are_told rs ≡ true)
    parts = and_parts (explicit_source r.source) (are_told rs) h

    go : (b : Bool) → given_row (row_at id rs) ≡ has_row id rs → given_row (if b then Some r else row_at id rs) ≡ (b || has_row id rs)
    go true more = parts.0
    go false more = more

-- ---- defaults

abbrev pub usual_row : Rule → List Text → Option Row
usual_row a [] = None
usual_row a (v ∷ vs) = Some (record { id = a.id; values = v ∷ vs; count = None; source = Some DefaultValue; reading = reading_by a })

abbrev pub default_row : Text → Rule → Option Row
default_row id a = if bytes_eq a.id id then usual_row a a.defaults else None

missing_default : (id : Text) (a : Rule) (ds : List Text) (rows : List Row) → has_row a.id rows ≡ false
    → row_at id (default_rows a.id (reading_by a) ds rows) ≡ or_row (row_at id rows) (if bytes_eq a.id id then usual_row a ds else None)
missing_default id a [] rows none = sym (or_row_none (row_at id rows)) ∙ ap (or_row (row_at id rows)) (sym (no_row (bytes_eq a.id id)))
  where
    no_row : (b : Bool) → (if b then usual_row a [] else None) ≡ None
    no_row true = refl
    no_row false = refl
missing_default id a (v ∷ vs) rows none =
    ap (row_at id) (at_row_missing a.id (more_values DefaultValue (v ∷ vs)) _ rows none) ∙ row_at_append id rows _

pub default_at : (id : Text) (a : Rule) (rows : List Row) → row_at id (with_default rows a) ≡ or_row (row_at id rows) (default_row id a)
default_at id a rows = go (has_row a.id rows) refl
  where
    there : (o : Option Row) → is_some o ≡ true → (b : Bool) → or_row o (if b then usual_row a a.defaults else None) ≡ o
    there None h b = absurd (false≢true h)
    there (Some r) h b = refl

    kept : (b : Bool) → bytes_eq a.id id ≡ b → has_row a.id rows ≡ true → row_at id rows ≡ or_row (row_at id rows) (if b then usual_row a a.defaults else None)
    kept true same h = sym (there (row_at id rows) (sym (has_is id rows) ∙ ap (λ (x : Text). has_row x rows) (sym (same_bytes a.id id same)) ∙ h) true)
    kept false same h = sym (or_row_none (row_at id rows))

    go : (b : Bool) → has_row a.id rows ≡ b → row_at id (if b then rows else default_rows a.id (reading_by a) a.defaults rows) ≡ or_row (row_at id rows) (default_row id a)
    go true h = kept (bytes_eq a.id id) refl h
    go false h = missing_default id a a.defaults rows h

-- the row of the first argument of an id that has a default
abbrev pub defaults_at : Text → List Rule → Option Row
defaults_at id [] = None
defaults_at id (a ∷ c) = or_row (default_row id a) (defaults_at id c)

pub finished_at : (id : Text) (c : List Rule) (rows : List Row) → row_at id (fold with_default rows c) ≡ or_row (row_at id rows) (defaults_at id c)
finished_at id [] rows = sym (or_row_none (row_at id rows))
finished_at id (a ∷ c) rows = finished_at id c (with_default rows a) ∙ ap (λ (o : Option Row). or_row o (defaults_at id c)) (default_at id a rows)
    ∙ or_row_assoc (row_at id rows) (default_row id a) (defaults_at id c)

-- a default was not given
usual_given : (a : Rule) (ds : List Text) → given_row (usual_row a ds) ≡ false
usual_given a [] = refl
usual_given a (v ∷ vs) = refl

default_given : (id : Text) (c : List Rule) → given_row (defaults_at id c) ≡ false
default_given id [] = refl
default_given id (a ∷ c) = go (bytes_eq a.id id) (default_given id c)
  where
    or : (o : Option Row) → given_row o ≡ false → given_row (defaults_at id c) ≡ false → given_row (or_row o (defaults_at id c)) ≡ false
    or None h more = more
    or (Some r) h more = h

    go : (b : Bool) → given_row (defaults_at id c) ≡ false → given_row (or_row (if b then usual_row a a.defaults else None) (defaults_at id c)) ≡ false
    go true more = or (usual_row a a.defaults) (usual_given a a.defaults) more
    go false more = more

-- what was given before the defaults was given after them, and nothing else
pub finished_given : (id : Text) (c : List Rule) (rows : List Row) → is_given id (fold with_default rows c) ≡ given_row (row_at id rows)
finished_given id c rows = ap given_row (finished_at id c rows) ∙ go (row_at id rows)
  where
    go : (o : Option Row) → given_row (or_row o (defaults_at id c)) ≡ given_row o
    go None = default_given id c
    go (Some r) = refl
