-- The arguments of a command as `clap` builds them.
use Rattle.std.proofs.Common.{arith, append-nil, append_assoc, suc, ◌<◌, length, take, get_or, ◌≡◌, ◌==◌, ◌&&◌, ◌||◌, ◌∙◌, ◌++◌, ◌+◌, ℕ, Bool, true, false, not, List, [], ◌∷◌, Option, Some, None, Result, IfOk, refl, sym, ap, ap₂, subst, if◌then◌else◌, option_map, map, is_some, codes, fold}
use Rattle.std.specs.Bool.{⊤}
use Rattle.std.specs.Prelude.{option_and_then}
use Rattle.std.specs.List.{find, list_all, list_any}
use Rattle.std.specs.Str.{bytes_eq}
use Rattle.std.specs.Option.{option_map_or}
use Rattle.std.proofs.lemmas.Bool.{false≢true}
use Rattle.clap.specs.Faults.{built_fault, entered_fault, fault_of, is_simple_and_free, level_fault}
use Rattle.clap.specs.Kinds.{Kinds}
use Rattle.clap.specs.Lexer.{long_of}
use Rattle.clap.specs.Simple.{App, Shape, built, entered, is_simple, matches_of, names_of, new_shape}
use Rattle.clap.specs.Words.{Row, Rule, Text}
use Rattle.clap.specs.Walk.{arg_by_id, arg_by_index, arg_by_long, nothing_held, rows_after, walk}
use Rattle.clap.specs.declared.builder.ArgAction.TheVariants.{Set, Append}
use Rattle.clap.specs.declared.builder.value_parser.ValueParser.TheVariants as vp
use Rattle.clap.proofs.OnLiterals.{clap_on_literals}
use Rattle.command_words.specs.App.{app_for, file_rule, file_rules, log_rule, option_rule}
use Rattle.command_words.specs.Seen.{seen_row}
use Rattle.command_words.specs.Table as table
use Rattle.command_words.specs.declared.table.OptionRow.{OptionRow}
use Rattle.std.proofs.Math.Seq.{take-suc}
use Rattle.std.proofs.lemmas.List.{map-append}
use Rattle.command_words.specs.Words.{is_among}
use Rattle.command_words.specs.declared.table.Verb.{Verb}
use Rattle.command_words.specs.declared.table.Verb.TheVariants.{Check, Extract, Session, Replay, Lrat, Gen}
use Rattle.command_words.proofs.Rows.{Each, same_bytes}
use Rattle.command_words.proofs.Spelled.{some_is, none_some}
use Rattle.command_words.proofs.Walks.{IsOne, IsPlaced}

abbrev pub built_option : table.Row → Rule
built_option r = record (option_rule r) { parser = Some vp.String; range = Some (record { start_inclusive = 1; end_inclusive = 1 }) }

abbrev pub built_file : ℕ → Rule → Rule
built_file i a = record a { parser = Some vp.String; range = Some (record { start_inclusive = 1; end_inclusive = 1 }); index = Some i }

abbrev pub built_files : Verb → List Rule
built_files Check = built_file 1 (file_rule Append) ∷ []
built_files Extract = built_file 1 (file_rule Append) ∷ []
built_files Session = []
built_files Replay = built_file 1 (file_rule Append) ∷ []
built_files Lrat = built_file 1 (file_rule Set) ∷ built_file 2 log_rule ∷ []
built_files Gen = built_file 1 (file_rule Set) ∷ []

abbrev pub rules_for : Verb → List Rule
rules_for v = map built_option (table.options_of v) ++ built_files v

abbrev pub shape_for : Verb → Shape
shape_for v = record (new_shape (table.word_of v)) { rules = rules_for v; disable_help_flag = true; no_binary_name = true; is_built = true; disable_help_subcommand = true }

built_is : (v : Verb) → built (app_for v) ≡ record { top = shape_for v; subs = [] }
unfolding table.options_of
built_is Check = refl
built_is Extract = refl
built_is Session = refl
built_is Replay = refl
built_is Lrat = refl
built_is Gen = refl

pub is_free : (v : Verb) → is_simple_and_free (app_for v) ≡ true
unfolding clap_on_literals table.options_of
is_free Check = refl
is_free Extract = refl
is_free Session = refl
is_free Replay = refl
is_free Lrat = refl
is_free Gen = refl

pub is_plain_app : (v : Verb) → is_simple (app_for v) ≡ true
unfolding clap_on_literals table.options_of
is_plain_app Check = refl
is_plain_app Extract = refl
is_plain_app Session = refl
is_plain_app Replay = refl
is_plain_app Lrat = refl
is_plain_app Gen = refl

abbrev alone : Shape → App
alone s = record { top = s; subs = [] }

no_entry : (s : Shape) (stop : Option (Text × List Text)) → is_some (entered (alone s) stop) ≡ false
no_entry s None = refl
no_entry s (Some p) = refl

no_fault : (s : Shape) (stop : Option (Text × List Text)) → entered_fault (alone s) stop ≡ []
no_fault s None = refl
no_fault s (Some p) = refl

abbrev pub level : Verb → List Text → Kinds
level v ws = level_fault (shape_for v) [] nothing_held ws false []

pub fault_is : (v : Verb) (ws : List Text) → fault_of (app_for v) ws ≡ level v ws
fault_is v ws =
    let stop = (walk (rules_for v) [] nothing_held ws).stopped in
    ap (λ (a : App). built_fault a nothing_held ws) (built_is v)
    ∙ ap₂ (λ (e : Bool) (k : Kinds). level_fault (shape_for v) [] nothing_held ws e k) (no_entry (shape_for v) stop) (no_fault (shape_for v) stop)

pub matches_are : (v : Verb) (ws : List Text) → matches_of (app_for v) ws ≡ rows_after (rules_for v) [] ws
matches_are v ws = ap (λ (a : App). rows_after a.top.rules (names_of a) ws) (built_is v)

-- ---- options by name

-- what the name of an option has that the words and the files want
pub record IsBare (name : Text) : Type 0 where
  pub dashes : bytes_eq (45 ∷ 45 ∷ name) (45 ∷ 45 ∷ []) ≡ false
  pub long : long_of (45 ∷ 45 ∷ name) ≡ Some (name, None)
  pub file : bytes_eq (codes "FILE") name ≡ false
  pub log : bytes_eq (codes "LOG") name ≡ false

abbrev AreBare : List table.Row → Type 0
AreBare = Each (λ r. IsBare r.name)

all_bare : AreBare table.rows
all_bare = (record { dashes = refl; long = refl; file = refl; log = refl }, (record { dashes = refl; long = refl; file = refl; log = refl }, (record { dashes = refl; long = refl; file = refl; log = refl }, (record { dashes = refl; long = refl; file = refl; log = refl }, (record { dashes = refl; long = refl; file = refl; log = refl }, (record { dashes = refl; long = refl; file = refl; log = refl }, (record { dashes = refl; long = refl; file = refl; log = refl }, (record { dashes = refl; long = refl; file = refl; log = refl }, (record { dashes = refl; long = refl; file = refl; log = refl }, (record { dashes = refl; long = refl; file = refl; log = refl }, (record { dashes = refl; long = refl; file = refl; log = refl }, (record { dashes = refl; long = refl; file = refl; log = refl }, (record { dashes = refl; long = refl; file = refl; log = refl }, (record { dashes = refl; long = refl; file = refl; log = refl }, tt))))))))))))))

among_those : (v : Verb) (rs : List table.Row) → AreBare rs → AreBare (table.those_with v rs)
among_those v [] hs = hs
among_those v (r ∷ rs) hs = go (table.has v r) (among_those v rs hs.1)
  where
    go : (b : Bool) → AreBare (table.those_with v rs) → AreBare (if b then r ∷ table.those_with v rs else table.those_with v rs)
    go true more = (hs.0, more)
    go false more = more

pub bare : (v : Verb) → AreBare (table.options_of v)
unfolding table.options_of
bare v = among_those v table.rows all_bare

-- the option of a name, wherever the command looks for it
pub record IsNameOf (rs : List table.Row) (fs : List Rule) (name : Text) : Type 0 where
  pub row : table.Row
  pub same : row.name ≡ name
  pub bare : IsBare row.name
  pub by_id : arg_by_id (map built_option rs ++ fs) name ≡ Some (built_option row)
  pub by_long : arg_by_long (map built_option rs ++ fs) name ≡ Some (built_option row)

long_is : (b : Bool) {X : Type 0} (x y : X) → (if not false && (b || false) then x else y) ≡ (if b then x else y)
long_is true x y = refl
long_is false x y = refl

pub by_name : (rs : List table.Row) (fs : List Rule) (name : Text) → AreBare rs → is_among (table.names_of rs) name ≡ true → IsNameOf rs fs name
by_name [] fs name hs among = absurd (false≢true among)
by_name (r ∷ rs) fs name hs among = go (bytes_eq r.name name) refl among (λ more. by_name rs fs name hs.1 more)
  where
    go : (b : Bool) → bytes_eq r.name name ≡ b → (b || is_among (table.names_of rs) name) ≡ true → (is_among (table.names_of rs) name ≡ true → IsNameOf rs fs name) → IsNameOf (r ∷ rs) fs name
    go true e h more = record {
      row = r;
      same = same_bytes r.name name e;
      bare = hs.0;
      by_id = ap (λ (t : Bool). if t then Some (built_option r) else arg_by_id (map built_option rs ++ fs) name) e;
      by_long = ap (λ (t : Bool). if not false && (t || false) then Some (built_option r) else arg_by_long (map built_option rs ++ fs) name) e;
    }
    go false e h more = let k = more h in record {
      row = k.row;
      same = k.same;
      bare = k.bare;
      by_id = ap (λ (t : Bool). if t then Some (built_option r) else arg_by_id (map built_option rs ++ fs) name) e ∙ k.by_id;
      by_long = ap (λ (t : Bool). if not false && (t || false) then Some (built_option r) else arg_by_long (map built_option rs ++ fs) name) e ∙ k.by_long;
    }

-- ---- files by place

no_option : (rs : List table.Row) (fs : List Rule) (i : ℕ) → arg_by_index (map built_option rs ++ fs) i ≡ arg_by_index fs i
no_option [] fs i = refl
no_option (r ∷ rs) fs i = no_option rs fs i

-- an argument that takes one value, found by its id and no last one
pub record IsFile (c : List Rule) (a : Rule) : Type 0 where
  pub one : IsOne c a
  pub plain : a.trailing_var_arg ≡ false

first_place : (c : List Rule) (f a : Rule) (k i : ℕ) (o : Option Rule) → IsFile c f → (if k == i then Some f else o) ≡ Some a → (o ≡ Some a → IsFile c a) → IsFile c a
first_place c f a k i o h e more = go (k == i) e
  where
    go : (b : Bool) → (if b then Some f else o) ≡ Some a → IsFile c a
    go true e2 = subst (IsFile c) (some_is f a e2) h
    go false e2 = more e2

file_placed : (v : Verb) (i : ℕ) (a : Rule) → arg_by_index (built_files v) i ≡ Some a → IsFile (rules_for v) a
unfolding table.options_of
file_placed Check i a e = first_place (rules_for Check) (built_file 1 (file_rule Append)) a 1 i None (record { one = record { by_id = refl; range = refl }; plain = refl }) e (λ n. none_some a n)
file_placed Extract i a e = first_place (rules_for Extract) (built_file 1 (file_rule Append)) a 1 i None (record { one = record { by_id = refl; range = refl }; plain = refl }) e (λ n. none_some a n)
file_placed Session i a e = none_some a e
file_placed Replay i a e = first_place (rules_for Replay) (built_file 1 (file_rule Append)) a 1 i None (record { one = record { by_id = refl; range = refl }; plain = refl }) e (λ n. none_some a n)
file_placed Lrat i a e = first_place (rules_for Lrat) (built_file 1 (file_rule Set)) a 1 i (if 2 == i then Some (built_file 2 log_rule) else None) (record { one = record { by_id = refl; range = refl }; plain = refl }) e
    (λ n. first_place (rules_for Lrat) (built_file 2 log_rule) a 2 i None (record { one = record { by_id = refl; range = refl }; plain = refl }) n (λ m. none_some a m))
file_placed Gen i a e = first_place (rules_for Gen) (built_file 1 (file_rule Set)) a 1 i None (record { one = record { by_id = refl; range = refl }; plain = refl }) e (λ n. none_some a n)

pub placed : (v : Verb) (i : ℕ) (a : Rule) → arg_by_index (rules_for v) i ≡ Some a → IsPlaced (rules_for v) i a
placed v i a e =
    let f = file_placed v i a (sym (no_option (table.options_of v) (built_files v) i) ∙ e) in
    record { found = e; one = f.one; plain = f.plain }

-- ---- the table row by row

pub those_next : (v : Verb) (rs : List table.Row) (r : table.Row) → table.those_with v (rs ++ r ∷ []) ≡ table.those_with v rs ++ (if table.has v r then r ∷ [] else [])
those_next v [] r = refl
those_next v (x ∷ rs) r = go (table.has v x) (those_next v rs r)
  where
    go : (b : Bool) → table.those_with v (rs ++ r ∷ []) ≡ table.those_with v rs ++ (if table.has v r then r ∷ [] else [])
        → (if b then x ∷ table.those_with v (rs ++ r ∷ []) else table.those_with v (rs ++ r ∷ [])) ≡ (if b then x ∷ table.those_with v rs else table.those_with v rs) ++ (if table.has v r then r ∷ [] else [])
    go true e = ap (λ (xs : List table.Row). x ∷ xs) e
    go false e = e

-- the rules of the rows before a place and at it
module _ (v : Verb) (rows : List OptionRow) (i : ℕ) (d : OptionRow) (lt : i < length rows) (told : Bool) (is : told ≡ table.has v (seen_row (get_or rows i d))) where
  rows_next : table.those_with v (map seen_row (take (i + 1) rows)) ≡ table.those_with v (map seen_row (take i rows)) ++ (if told then seen_row (get_or rows i d) ∷ [] else [])
  rows_next =
      let one : i + 1 ≡ suc i = omega arith in
      ap (λ (xs : List OptionRow). table.those_with v (map seen_row xs)) (ap (λ n. take n rows) one ∙ take-suc rows i d lt)
      ∙ ap (table.those_with v) (map-append seen_row (take i rows) (get_or rows i d ∷ [])) ∙ those_next v (map seen_row (take i rows)) (seen_row (get_or rows i d))
      ∙ ap (λ (t : Bool). table.those_with v (map seen_row (take i rows)) ++ (if t then seen_row (get_or rows i d) ∷ [] else [])) (sym is)

  pub rules_skip : told ≡ false → map option_rule (table.those_with v (map seen_row (take (i + 1) rows))) ≡ map option_rule (table.those_with v (map seen_row (take i rows)))
  rules_skip e =
      ap (map option_rule) (rows_next ∙ ap (λ (t : Bool). table.those_with v (map seen_row (take i rows)) ++ (if t then seen_row (get_or rows i d) ∷ [] else [])) e
      ∙ append-nil (table.those_with v (map seen_row (take i rows))))

  pub rules_add : told ≡ true → map option_rule (table.those_with v (map seen_row (take (i + 1) rows))) ≡ map option_rule (table.those_with v (map seen_row (take i rows))) ++ (option_rule (seen_row (get_or rows i d)) ∷ [])
  rules_add e =
      ap (map option_rule) (rows_next ∙ ap (λ (t : Bool). table.those_with v (map seen_row (take i rows)) ++ (if t then seen_row (get_or rows i d) ∷ [] else [])) e)
      ∙ map-append option_rule (table.those_with v (map seen_row (take i rows))) (seen_row (get_or rows i d) ∷ [])

pub two_files : (v : Verb) (xs : List Rule) → v ≡ Lrat → (xs ++ file_rule Set ∷ []) ++ log_rule ∷ [] ≡ xs ++ file_rules v
two_files v xs is = append_assoc xs (file_rule Set ∷ []) (log_rule ∷ []) ∙ ap (λ (w : Verb). xs ++ file_rules w) (sym is)
