-- A line is taken by `clap` exactly where it is whole, and its options then have their values.
use Rattle.std.proofs.Common.{arith, ◌≡◌, ◌==◌, ◌&&◌, ◌||◌, ◌∙◌, ◌++◌, ◌+◌, ℕ, Bool, true, false, not, List, [], ◌∷◌, Option, Some, None, refl, sym, ap, ap₂, subst, if◌then◌else◌, option_map, map, is_some, codes, fold, length, append-nil, nat_lt}
use Rattle.std.specs.Bool.{⊤}
use Rattle.std.specs.Prelude.{option_and_then, slice_get}
use Rattle.std.specs.List.{list_all, list_any}
use Rattle.std.specs.Str.{bytes_eq}
use Rattle.std.proofs.lemmas.Bool.{false≢true}
use Rattle.std.proofs.lemmas.List.Folds.{list_any-append}
use Rattle.clap.specs.Faults.{check_fault, default_fault, defaults_fault, given_default_fault, level_fault, settle_fault, walk_fault}
use Rattle.clap.specs.Kinds.{Kinds, check_kinds, or_else, values_kinds}
use Rattle.clap.specs.Takes.{is_given as is_told}
use Rattle.clap.specs.Words.{Row, Rule, Text, first_of, new_rule}
use Rattle.clap.specs.Simple.{Shape}
use Rattle.clap.specs.Walk.{arg_by_id, arg_by_index, has_row, idle, is_empty, next_position, used, nothing_held, rows_after, with_default}
use Rattle.clap.specs.declared.builder.ArgAction.TheVariants.{Set, Append}
use Rattle.clap.specs.declared.builder.value_parser.ValueParser.TheVariants as vp
use Rattle.std.specs.Option.{unwrap_or}
use Rattle.std.proofs.lemmas.Bool.{lt-ltb, ne_eqb}
use Rattle.command_words.specs.App.{NoFile, file_rule, log_rule, usual_texts}
use Rattle.command_words.specs.Table as table
use Rattle.command_words.specs.Words.{Line, Pair, is_given, is_once, is_plain, value_of, line_of}
use Rattle.command_words.specs.declared.table.Verb.{Verb}
use Rattle.command_words.specs.declared.table.Verb.TheVariants.{Check, Extract, Session, Replay, Lrat, Gen}
use Rattle.command_words.proofs.Pairs.{AreSet, SetEnd, are_set, given_at, ok_once, set_end, same_either_way, some_at, uses_of, uses_row, value_at, value_row}
use Rattle.command_words.proofs.Rows.{Each, IsAppend, IsSet, and_parts, append_at, append_clean, append_has, append_told, are_told, clean, clean_both, defaults_at, finished_at, finished_given, given_row, has_is, or_row, or_row_none, row_at, row_of, same_bytes, same_id, set_at, set_clean, set_told, told_given, usual_row, use_row, default_row}
use Rattle.command_words.proofs.Spelled.{IsAllowed, IsSpelled, spelled, words_of}
use Rattle.command_words.proofs.Tables.{IsBare, bare, built_file, built_files, built_option, by_name, IsNameOf, level, placed, rules_for, shape_for}
use Rattle.command_words.proofs.Uses.{FilesEnd, IsPair, all_ok, all_ok_append, all_rows, all_rows_append, file_use, file_uses, files_end, files_stray, ok_use, opt, pairs_ok, pairs_rows, rule_by, use_of}
use Rattle.command_words.proofs.Walks.{IsOne, Use, at_walk, ends_at, faults_from, rows_from}

-- ---- the pairs of a line

pair_is : (v : Verb) (p : Pair) → IsAllowed (table.names_of (table.options_of v)) p → IsPair (rules_for v) p
pair_is v p h =
    let k = by_name (table.options_of v) (built_files v) p.option (bare v) h.among in
    let c = rules_for v in
    let rule : rule_by c p.option ≡ built_option k.row = ap (λ o. unwrap_or o (new_rule [])) k.by_id in
    let b : IsBare p.option = subst IsBare k.same k.bare in
    record {
      dashes = b.dashes;
      long = b.long;
      by_long = k.by_long ∙ ap Some (sym rule);
      one = subst (IsOne c) (sym rule) (record { by_id = ap (arg_by_id c) k.same ∙ k.by_id; range = refl });
      set = subst IsSet (sym rule) (record { range = refl; action = refl; parser = refl });
      id = ap (λ (a : Rule). a.id) rule ∙ k.same;
      plain = h.plain;
    }

pairs_are : (v : Verb) (ps : List Pair) → Each (IsAllowed (table.names_of (table.options_of v))) ps → Each (IsPair (rules_for v)) ps
pairs_are v [] hs = hs
pairs_are v (p ∷ ps) hs = (pair_is v p hs.0, pairs_are v ps hs.1)

-- no option is named as a file
no_file_pair : (v : Verb) (name file : Text) → ((r : table.Row) → IsBare r.name → bytes_eq file r.name ≡ false) → (ps : List Pair) → Each (IsAllowed (table.names_of (table.options_of v))) ps → is_given ps file ≡ false
no_file_pair v name file differs [] hs = refl
no_file_pair v name file differs (p ∷ ps) hs =
    let k = by_name (table.options_of v) (built_files v) p.option (bare v) hs.0.among in
    let e : bytes_eq p.option file ≡ false = ap (λ (t : Text). bytes_eq t file) (sym k.same) ∙ same_either_way k.row.name file ∙ differs k.row k.bare in
    ap₂ (λ (x y : Bool). x || y) e (no_file_pair v name file differs ps hs.1)

-- ---- the files of a line

-- what the uses of files leave, behind rows where they have none
pub record FileEnd (v : Verb) (files : List Text) (rows : List Row) (fus : List Use) : Type 0 where
  pub ok : all_ok rows fus ≡ true
  pub told : are_told rows ≡ true → are_told (all_rows rows fus) ≡ true
  pub at : (id : Text) → NoFile id → row_at id (all_rows rows fus) ≡ row_at id rows
  pub file : has_row (codes "FILE") (all_rows rows fus) ≡ nat_lt 0 (length files)

pub record NoFiles (rows : List Row) : Type 0 where
  pub file : has_row (codes "FILE") rows ≡ false
  pub log : has_row (codes "LOG") rows ≡ false

abbrev pub none_there : List Text → Bool
none_there [] = true
none_there (f ∷ fs) = false

abbrev pub at_most_one : List Text → Bool
at_most_one [] = true
at_most_one (f ∷ []) = true
at_most_one (f ∷ g ∷ fs) = false

abbrev pub at_most_two : List Text → Bool
at_most_two [] = true
at_most_two (f ∷ []) = true
at_most_two (f ∷ g ∷ []) = true
at_most_two (f ∷ g ∷ x ∷ fs) = false

-- how many files at most
abbrev pub most_files : Verb → List Text → Bool
most_files Check fs = true
most_files Extract fs = true
most_files Session fs = none_there fs
most_files Replay fs = true
most_files Lrat fs = at_most_two fs
most_files Gen fs = at_most_one fs

abbrev many : Rule
many = built_file 1 (file_rule Append)

many_is : IsAppend many
many_is = record { range = refl; action = refl; parser = refl }

many_uses : (v : Verb) → arg_by_index (rules_for v) 1 ≡ Some many → (fs : List Text) → file_uses (rules_for v) 1 fs ≡ Some (map (file_use many) fs)
many_uses v here [] = refl
many_uses v here (f ∷ fs) =
    ap (λ (o : Option Rule). option_and_then (λ a. option_map (λ us. file_use a f ∷ us) (file_uses (rules_for v) (next_position a 1) fs)) o) here
    ∙ ap (option_map (λ us. file_use many f ∷ us)) (many_uses v here fs)

many_ok : (fs : List Text) (rows : List Row) → all_ok rows (map (file_use many) fs) ≡ true
many_ok [] rows = refl
many_ok (f ∷ fs) rows = ap₂ (λ (x y : Bool). x && y) (append_clean many f rows many_is) (many_ok fs (used many (f ∷ []) rows))

many_told : (fs : List Text) (rows : List Row) → are_told rows ≡ true → are_told (all_rows rows (map (file_use many) fs)) ≡ true
many_told [] rows h = h
many_told (f ∷ fs) rows h = many_told fs (used many (f ∷ []) rows) (append_told (file_use many f) rows many_is h)

many_at : (id : Text) → NoFile id → (fs : List Text) (rows : List Row) → row_at id (all_rows rows (map (file_use many) fs)) ≡ row_at id rows
many_at id free [] rows = refl
many_at id free (f ∷ fs) rows = many_at id free fs (used many (f ∷ []) rows) ∙ append_at id (file_use many f) rows many_is free.0

some_file : (f : Text) (fs : List Text) → nat_lt 0 (length (f ∷ fs)) ≡ true
some_file f fs = lt-ltb 0 (length (f ∷ fs)) (omega arith)

many_has : (fs : List Text) (rows : List Row) → has_row (codes "FILE") rows ≡ true → has_row (codes "FILE") (all_rows rows (map (file_use many) fs)) ≡ true
many_has [] rows h = h
many_has (f ∷ fs) rows h = many_has fs (used many (f ∷ []) rows) (append_has (file_use many f) rows many_is)

many_file : (fs : List Text) (rows : List Row) → has_row (codes "FILE") rows ≡ false → has_row (codes "FILE") (all_rows rows (map (file_use many) fs)) ≡ nat_lt 0 (length fs)
many_file [] rows none = none
many_file (f ∷ fs) rows none = many_has fs (used many (f ∷ []) rows) (append_has (file_use many f) rows many_is) ∙ sym (some_file f fs)

many_end : (v : Verb) (fs : List Text) (rows : List Row) → NoFiles rows → FileEnd v fs rows (map (file_use many) fs)
many_end v fs rows free = record {
  ok = many_ok fs rows;
  told = many_told fs rows;
  at = λ id n. many_at id n fs rows;
  file = many_file fs rows free.file;
}

-- at most two files, each in a place of its own
abbrev first_file : Rule
first_file = built_file 1 (file_rule Set)

abbrev second_file : Rule
second_file = built_file 2 log_rule

first_is : IsSet first_file
first_is = record { range = refl; action = refl; parser = refl }

second_is : IsSet second_file
second_is = record { range = refl; action = refl; parser = refl }

no_use : (id : Text) (a : Rule) (f : Text) → bytes_eq a.id id ≡ false → use_row id (file_use a f) ≡ None
no_use id a f e = ap (λ (t : Bool). if t then Some (row_of a f) else None) e

none_end : (v : Verb) (rows : List Row) → NoFiles rows → FileEnd v [] rows []
none_end v rows free = record { ok = refl; told = λ h. h; at = λ id n. refl; file = free.file }

has_at : (id : Text) (rows : List Row) (o : Option Row) → row_at id rows ≡ o → has_row id rows ≡ is_some o
has_at id rows o e = has_is id rows ∙ ap is_some e

one_end : (v : Verb) (f : Text) (rows : List Row) → NoFiles rows → FileEnd v (f ∷ []) rows (file_use first_file f ∷ [])
one_end v f rows free =
    let u = file_use first_file f in
    let here : row_at (codes "FILE") rows ≡ None = none_here (row_at (codes "FILE") rows) (sym (has_is (codes "FILE") rows) ∙ free.file) in
    record {
      ok = ap (λ (t : Bool). t && true) (set_clean first_file f rows first_is ∙ ap not free.file);
      told = λ h. set_told u rows first_is free.file h;
      at = λ id n. set_at id u rows first_is free.file ∙ ap (or_row (row_at id rows)) (no_use id first_file f n.0) ∙ or_row_none (row_at id rows);
      file = has_at (codes "FILE") (used first_file (f ∷ []) rows) _ (set_at (codes "FILE") u rows first_is free.file ∙ ap (λ (o : Option Row). or_row o (use_row (codes "FILE") u)) here);
    }
  where
    none_here : (o : Option Row) → is_some o ≡ false → o ≡ None
    none_here None e = refl
    none_here (Some r) e = absurd (false≢true (sym e))

two_end : (v : Verb) (f g : Text) (rows : List Row) → NoFiles rows → FileEnd v (f ∷ g ∷ []) rows (file_use first_file f ∷ file_use second_file g ∷ [])
two_end v f g rows free =
    let one = one_end v f rows free in
    let u = file_use second_file g in
    let mid = used first_file (f ∷ []) rows in
    let log_at : row_at (codes "LOG") mid ≡ row_at (codes "LOG") rows = set_at (codes "LOG") (file_use first_file f) rows first_is free.file ∙ or_row_none (row_at (codes "LOG") rows) in
    let fresh : has_row (codes "LOG") mid ≡ false = has_is (codes "LOG") mid ∙ ap is_some log_at ∙ sym (has_is (codes "LOG") rows) ∙ free.log in
    record {
      ok = ap₂ (λ (x y : Bool). x && (y && true)) (set_clean first_file f rows first_is ∙ ap not free.file) (set_clean second_file g mid second_is ∙ ap not fresh);
      told = λ h. set_told u mid second_is fresh (one.told h);
      at = λ id n. set_at id u mid second_is fresh ∙ ap (or_row (row_at id mid)) (no_use id second_file g n.1) ∙ or_row_none (row_at id mid) ∙ one.at id n;
      file = has_is (codes "FILE") (used second_file (g ∷ []) mid) ∙ ap is_some (set_at (codes "FILE") u mid second_is fresh ∙ or_row_none (row_at (codes "FILE") mid))
          ∙ sym (has_is (codes "FILE") mid) ∙ one.file;
    }

-- the uses of the files, where they are not too many
pub record AreFiles (v : Verb) (files : List Text) : Type 0 where
  pub uses : List Use
  pub are : file_uses (rules_for v) 1 files ≡ Some uses
  pub end : (rows : List Row) → NoFiles rows → FileEnd v files rows uses

pub are_files : (v : Verb) (files : List Text) → most_files v files ≡ true → AreFiles v files
unfolding table.options_of
are_files Check fs h = record { uses = map (file_use many) fs; are = many_uses Check refl fs; end = many_end Check fs }
are_files Extract fs h = record { uses = map (file_use many) fs; are = many_uses Extract refl fs; end = many_end Extract fs }
are_files Replay fs h = record { uses = map (file_use many) fs; are = many_uses Replay refl fs; end = many_end Replay fs }
are_files Session [] h = record { uses = []; are = refl; end = none_end Session }
are_files Session (f ∷ fs) h = absurd (false≢true h)
are_files Lrat [] h = record { uses = []; are = refl; end = none_end Lrat }
are_files Lrat (f ∷ []) h = record { uses = file_use first_file f ∷ []; are = refl; end = one_end Lrat f }
are_files Lrat (f ∷ g ∷ []) h = record { uses = file_use first_file f ∷ file_use second_file g ∷ []; are = refl; end = two_end Lrat f g }
are_files Lrat (f ∷ g ∷ x ∷ fs) h = absurd (false≢true h)
are_files Gen [] h = record { uses = []; are = refl; end = none_end Gen }
are_files Gen (f ∷ []) h = record { uses = file_use first_file f ∷ []; are = refl; end = one_end Gen f }
are_files Gen (f ∷ g ∷ fs) h = absurd (false≢true h)

pub too_many : (v : Verb) (files : List Text) → most_files v files ≡ false → file_uses (rules_for v) 1 files ≡ None
unfolding table.options_of
too_many Check fs h = absurd (false≢true (sym h))
too_many Extract fs h = absurd (false≢true (sym h))
too_many Replay fs h = absurd (false≢true (sym h))
too_many Session [] h = absurd (false≢true (sym h))
too_many Session (f ∷ fs) h = refl
too_many Lrat [] h = absurd (false≢true (sym h))
too_many Lrat (f ∷ []) h = absurd (false≢true (sym h))
too_many Lrat (f ∷ g ∷ []) h = absurd (false≢true (sym h))
too_many Lrat (f ∷ g ∷ x ∷ fs) h = refl
too_many Gen [] h = absurd (false≢true (sym h))
too_many Gen (f ∷ []) h = absurd (false≢true (sym h))
too_many Gen (f ∷ g ∷ fs) h = refl

-- ---- the walk

and_false : (a : Bool) → (a && false) ≡ false
and_false true = refl
and_false false = refl

or_assoc : (a b c : Kinds) → or_else a (or_else b c) ≡ or_else (or_else a b) c
or_assoc [] b c = refl
or_assoc (k ∷ ks) b c = refl

opt_append : (rows : List Row) (p : Option Use) (fus : List Use) → all_ok rows (opt p fus) ≡ all_ok rows (opt p [] ++ fus)
opt_append rows None fus = refl
opt_append rows (Some u) fus = refl

module _ (v : Verb) (l : Line) (words : List Text) (sp : IsSpelled (table.names_of (table.options_of v)) words l) where
  abbrev c : List Rule
  c = rules_for v

  abbrev s : Shape
  s = shape_for v

  pairs : Each (IsPair (rules_for v)) l.pairs
  pairs = pairs_are v l.pairs sp.pairs

  abbrev us : List Use
  us = uses_of (rules_for v) l.pairs

  once_end : is_once l.pairs ≡ true → SetEnd [] us
  once_end once = set_end us [] (are_set (rules_for v) l.pairs pairs) (ok_once (rules_for v) l.pairs pairs ∙ once)

  no_files : is_once l.pairs ≡ true → NoFiles (all_rows [] us)
  no_files once = record { file = none (codes "FILE") (λ r b. b.file); log = none (codes "LOG") (λ r b. b.log) }
    where
      none : (id : Text) → ((r : table.Row) → IsBare r.name → bytes_eq id r.name ≡ false) → has_row id (all_rows [] us) ≡ false
      none id differs = has_is id (all_rows [] us) ∙ ap is_some ((once_end once).at id) ∙ some_at (rules_for v) id l.pairs pairs ∙ no_file_pair v id id differs l.pairs sp.pairs

  abbrev walk_faults : List Text → Kinds
  walk_faults ws = faults_from (shape_for v) (at_walk [] None idle 1) ws

  abbrev walk_rows : List Text → List Row
  walk_rows ws = rows_from (shape_for v) (at_walk [] None idle 1) ws

  few_clean : (m : most_files v l.files ≡ true) → clean (walk_faults (words_of l.pairs ++ l.files)) ≡ (is_once l.pairs && true)
  few_clean m =
      let fs = are_files v l.files m in
      pairs_ok (shape_for v) refl l.files (λ rows us. all_ok rows (us ++ fs.uses)) (λ rows u us. refl)
      (λ rows p known. (files_end (shape_for v) refl (placed v) l.files sp.files rows p false 1 known fs.uses fs.are).ok ∙ opt_append rows p fs.uses)
      l.pairs pairs [] None tt
      ∙ all_ok_append [] us fs.uses ∙ ap (λ (t : Bool). t && all_ok (all_rows [] us) fs.uses) (ok_once (rules_for v) l.pairs pairs)
      ∙ go (is_once l.pairs) refl (all_ok (all_rows [] us) fs.uses) (λ once. (fs.end (all_rows [] us) (no_files once)).ok)
    where
      go : (b : Bool) → is_once l.pairs ≡ b → (t : Bool) → (is_once l.pairs ≡ true → t ≡ true) → (b && t) ≡ (b && true)
      go true e t h = h e
      go false e t h = refl

  many_clean : most_files v l.files ≡ false → clean (walk_faults (words_of l.pairs ++ l.files)) ≡ false
  many_clean m =
      pairs_ok (shape_for v) refl l.files (λ rows us. false) (λ rows u us. sym (and_false (ok_use rows u)))
      (λ rows p known. files_stray (shape_for v) refl (placed v) refl l.files sp.files rows p false 1 known (too_many v l.files m))
      l.pairs pairs [] None tt

  walk_clean : clean (walk_faults words) ≡ (is_once l.pairs && most_files v l.files)
  walk_clean = ap (λ (ws : List Text). clean (walk_faults ws)) sp.words ∙ go (most_files v l.files) refl
    where
      go : (b : Bool) → most_files v l.files ≡ b → clean (walk_faults (words_of l.pairs ++ l.files)) ≡ (is_once l.pairs && b)
      go true m = few_clean m
      go false m = many_clean m ∙ sym (and_false (is_once l.pairs))

  -- ---- the rows that a line leaves

  record IsEnded (rows : List Row) : Type 0 where
    told : are_told rows ≡ true
    at : (id : Text) → NoFile id → row_at id rows ≡ uses_row id us
    file : has_row (codes "FILE") rows ≡ nat_lt 0 (length l.files)

  ended : is_once l.pairs ≡ true → most_files v l.files ≡ true → IsEnded (walk_rows words)
  ended once m =
      let fs = are_files v l.files m in
      let e = once_end once in
      let f = fs.end (all_rows [] us) (no_files once) in
      let rows : walk_rows words ≡ all_rows (all_rows [] us) fs.uses =
      ap walk_rows sp.words
      ∙ pairs_rows (shape_for v) refl l.files fs.uses (λ rows p known. (files_end (shape_for v) refl (placed v) l.files sp.files rows p false 1 known fs.uses fs.are).leaves) l.pairs pairs [] None tt
      ∙ all_rows_append [] us fs.uses in
      subst IsEnded (sym rows) (record { told = f.told (e.told refl); at = λ id n. f.at id n ∙ e.at id; file = f.file })

  -- ---- defaults and what is wanted

  usual_clean : (o : Option Text) → clean (values_kinds false vp.String (usual_texts o)) ≡ true
  usual_clean None = refl
  usual_clean (Some t) = refl

  default_clean : (rows : List Row) (a : Rule) → clean (given_default_fault a a.defaults) ≡ true → clean (default_fault rows a) ≡ true
  default_clean rows a h = go (has_row a.id rows || is_empty a.defaults)
    where
      go : (b : Bool) → clean (if b then [] else given_default_fault a a.defaults) ≡ true
      go true = refl
      go false = h

  abbrev HasDefault : Rule → Type 0
  HasDefault a = clean (given_default_fault a a.defaults) ≡ true

  file_defaults : (w : Verb) → Each HasDefault (built_files w)
  file_defaults Check = (refl, tt)
  file_defaults Extract = (refl, tt)
  file_defaults Session = tt
  file_defaults Replay = (refl, tt)
  file_defaults Lrat = (refl, (refl, tt))
  file_defaults Gen = (refl, tt)

  all_defaults : (rs : List table.Row) (fs : List Rule) → Each HasDefault fs → Each HasDefault (map built_option rs ++ fs)
  all_defaults [] fs h = h
  all_defaults (r ∷ rs) fs h = (usual_clean r.usual, all_defaults rs fs h)

  defaults_clean : (xs : List Rule) → Each HasDefault xs → (rows : List Row) → clean (defaults_fault rows xs) ≡ true
  unfolding defaults_fault
  defaults_clean [] h rows = refl
  defaults_clean (a ∷ xs) h rows = clean_both (default_fault rows a) (defaults_fault (with_default rows a) xs)
      ∙ ap₂ (λ (x y : Bool). x && y) (default_clean rows a h.0) (defaults_clean xs h.1 (with_default rows a))

  abbrev missing : List Row → List Rule → Bool
  missing rows xs = list_any (λ a. a.required && not (is_told a.id rows)) xs

  check_clean : (rows : List Row) → clean (check_fault (shape_for v) rows false) ≡ not (missing rows (rules_for v))
  check_clean rows = go (missing rows (rules_for v))
    where
      go : (b : Bool) → clean (check_kinds false false b) ≡ not b
      go true = refl
      go false = refl

  level_clean : clean (level v words) ≡ (clean (walk_faults words) && (true && not (missing (fold with_default (walk_rows words) (rules_for v)) (rules_for v))))
  level_clean =
      let d = defaults_fault (walk_rows words) (rules_for v) in
      let k = check_fault (shape_for v) (fold with_default (walk_rows words) (rules_for v)) false in
      ap clean (or_assoc (walk_fault (shape_for v) [] (at_walk [] None idle 1) words) (settle_fault (rules_for v) false (ends_at (shape_for v) (at_walk [] None idle 1) words)) (or_else d k))
      ∙ clean_both (walk_faults words) (or_else d k)
      ∙ ap (λ (t : Bool). clean (walk_faults words) && t) (clean_both d k
      ∙ ap₂ (λ (x y : Bool). x && y) (defaults_clean (rules_for v) (all_defaults (table.options_of v) (built_files v) (file_defaults v)) (walk_rows words))
      (check_clean (fold with_default (walk_rows words) (rules_for v))))

  de_morgan : (w g m : Bool) → not ((w && not g) || m) ≡ ((not w || g) && not m)
  de_morgan true true m = refl
  de_morgan true false m = refl
  de_morgan false g m = refl

  wanted : (rows : List Row) → ((name : Text) → IsBare name → is_told name rows ≡ is_given l.pairs name) → (rs : List table.Row) → Each (λ r. IsBare r.name) rs
      → not (missing rows (map built_option rs)) ≡ table.are_wanted_given rs l.pairs
  wanted rows given [] hs = refl
  wanted rows given (r ∷ rs) hs =
      de_morgan r.wanted (is_told r.name rows) (missing rows (map built_option rs))
      ∙ ap₂ (λ (x y : Bool). (not r.wanted || x) && y) (given r.name hs.0) (wanted rows given rs hs.1)

  not_or : (a b : Bool) → not (a || b) ≡ (not a && not b)
  not_or true b = refl
  not_or false b = refl

  abbrev file_given : Verb → Bool → Bool
  file_given Session x = true
  file_given _ x = x

  one_file : (x : Bool) → not ((true && not x) || false) ≡ x
  one_file true = refl
  one_file false = refl

  files_wanted : (rows : List Row) (w : Verb) → not (missing rows (built_files w)) ≡ file_given w (is_told (codes "FILE") rows)
  files_wanted rows Check = one_file (is_told (codes "FILE") rows)
  files_wanted rows Extract = one_file (is_told (codes "FILE") rows)
  files_wanted rows Session = refl
  files_wanted rows Replay = one_file (is_told (codes "FILE") rows)
  files_wanted rows Lrat = one_file (is_told (codes "FILE") rows)
  files_wanted rows Gen = one_file (is_told (codes "FILE") rows)

  and_true : (a : Bool) → (a && true) ≡ a
  and_true true = refl
  and_true false = refl

  takes : (w : Verb) (fs : List Text) → table.takes_files w (length fs) ≡ (file_given w (nat_lt 0 (length fs)) && most_files w fs)
  takes Check fs = sym (and_true (nat_lt 0 (length fs)))
  takes Extract fs = sym (and_true (nat_lt 0 (length fs)))
  takes Session [] = refl
  takes Session (f ∷ fs) = ne_eqb (length (f ∷ fs)) 0 (λ e. omega (arith, e))
  takes Replay fs = sym (and_true (nat_lt 0 (length fs)))
  takes Lrat [] = refl
  takes Lrat (f ∷ []) = refl
  takes Lrat (f ∷ g ∷ []) = refl
  takes Lrat (f ∷ g ∷ x ∷ fs) =
      ap₂ (λ (a b : Bool). a || b) (ne_eqb (length (f ∷ g ∷ x ∷ fs)) 1 (λ e. omega (arith, e))) (ne_eqb (length (f ∷ g ∷ x ∷ fs)) 2 (λ e. omega (arith, e)))
      ∙ sym (and_false (nat_lt 0 (length (f ∷ g ∷ x ∷ fs))))
  takes Gen [] = refl
  takes Gen (f ∷ []) = refl
  takes Gen (f ∷ g ∷ fs) = ne_eqb (length (f ∷ g ∷ fs)) 1 (λ e. omega (arith, e)) ∙ sym (and_false (nat_lt 0 (length (f ∷ g ∷ fs))))

  no_file : (name : Text) → IsBare name → NoFile name
  no_file name b = (b.file, b.log)

  not_missing : is_once l.pairs ≡ true → most_files v l.files ≡ true
      → not (missing (fold with_default (walk_rows words) (rules_for v)) (rules_for v)) ≡ (table.are_wanted_given (table.options_of v) l.pairs && file_given v (nat_lt 0 (length l.files)))
  not_missing once m =
      let e = ended once m in
      let rows = fold with_default (walk_rows words) (rules_for v) in
      let given = λ (name : Text) (b : IsBare name). finished_given name (rules_for v) (walk_rows words) ∙ ap given_row (e.at name (no_file name b)) ∙ given_at (rules_for v) name l.pairs pairs in
      let file : is_told (codes "FILE") rows ≡ nat_lt 0 (length l.files) =
      finished_given (codes "FILE") (rules_for v) (walk_rows words) ∙ told_given (codes "FILE") (walk_rows words) e.told ∙ e.file in
      ap not (list_any-append (λ a. a.required && not (is_told a.id rows)) (map built_option (table.options_of v)) (built_files v))
      ∙ not_or (missing rows (map built_option (table.options_of v))) (missing rows (built_files v))
      ∙ ap₂ (λ (x y : Bool). x && y) (wanted rows given (table.options_of v) (bare v)) (files_wanted rows v ∙ ap (file_given v) file)

  absorb : (o w g m : Bool) → (o && m) ≡ false → (o && (w && (g && m))) ≡ false
  absorb true true true m h = h
  absorb true true false m h = refl
  absorb true false g m h = refl
  absorb false w g m h = refl

  -- a line is taken exactly where it is whole
  pub whole : clean (level v words) ≡ table.is_whole v l
  whole =
      level_clean ∙ go (is_once l.pairs && most_files v l.files) refl
      ∙ ap (λ (t : Bool). is_once l.pairs && (table.are_wanted_given (table.options_of v) l.pairs && t)) (sym (takes v l.files))
    where
      go : (b : Bool) → (is_once l.pairs && most_files v l.files) ≡ b
          → (clean (walk_faults words) && (true && not (missing (fold with_default (walk_rows words) (rules_for v)) (rules_for v))))
          ≡ (is_once l.pairs && (table.are_wanted_given (table.options_of v) l.pairs && (file_given v (nat_lt 0 (length l.files)) && most_files v l.files)))
      go true e = let p = and_parts (is_once l.pairs) (most_files v l.files) e in
          ap₂ (λ (x y : Bool). x && y) (walk_clean ∙ e) (not_missing p.0 p.1)
          ∙ sym (ap₂ (λ (x y : Bool). x && (table.are_wanted_given (table.options_of v) l.pairs && (file_given v (nat_lt 0 (length l.files)) && y))) p.0 p.1
          ∙ ap (λ (t : Bool). table.are_wanted_given (table.options_of v) l.pairs && t) (and_true (file_given v (nat_lt 0 (length l.files)))))
      go false e =
          ap (λ (t : Bool). t && (true && not (missing (fold with_default (walk_rows words) (rules_for v)) (rules_for v)))) (walk_clean ∙ e)
          ∙ sym (absorb (is_once l.pairs) (table.are_wanted_given (table.options_of v) l.pairs) (file_given v (nat_lt 0 (length l.files))) (most_files v l.files) e)

  -- ---- values

  value_or : (id : Text) (d : Option Row) (ps : List Pair) → Each (IsPair (rules_for v)) ps → value_row (rules_for v) (or_row (uses_row id (uses_of (rules_for v) ps)) d) ≡ table.or_usual (value_of ps id) (value_row (rules_for v) d)
  value_or id d [] hs = refl
  value_or id d (p ∷ ps) hs =
      ap (λ (t : Text). value_row (rules_for v) (or_row (or_row (if bytes_eq t id then Some (row_of (use_of (rules_for v) p).rule p.value) else None) (uses_row id (uses_of (rules_for v) ps))) d)) hs.0.id
      ∙ go (bytes_eq p.option id) (value_or id d ps hs.1)
    where
      go : (b : Bool) → value_row (rules_for v) (or_row (uses_row id (uses_of (rules_for v) ps)) d) ≡ table.or_usual (value_of ps id) (value_row (rules_for v) d)
          → value_row (rules_for v) (or_row (or_row (if b then Some (row_of (use_of (rules_for v) p).rule p.value) else None) (uses_row id (uses_of (rules_for v) ps))) d)
          ≡ table.or_usual (if b then Some p.value else value_of ps id) (value_row (rules_for v) d)
      go true more = refl
      go false more = more

  no_default : (id : Text) (a : Rule) (b : Bool) → value_row (rules_for v) (or_row (if b then usual_row a [] else None) None) ≡ None
  no_default id a true = refl
  no_default id a false = refl

  file_values : (id : Text) → NoFile id → (w : Verb) → value_row (rules_for v) (defaults_at id (built_files w)) ≡ None
  file_values id n Check = no_default id many (bytes_eq (codes "FILE") id)
  file_values id n Extract = no_default id many (bytes_eq (codes "FILE") id)
  file_values id n Session = refl
  file_values id n Replay = no_default id many (bytes_eq (codes "FILE") id)
  file_values id n Lrat = ap₂ (λ (x y : Bool). value_row (rules_for v) (or_row (if x then usual_row first_file [] else None) (or_row (if y then usual_row second_file [] else None) None))) n.0 n.1
  file_values id n Gen = no_default id first_file (bytes_eq (codes "FILE") id)

  usual_values : (id : Text) → (rs : List table.Row) (fs : List Rule) → value_row (rules_for v) (defaults_at id fs) ≡ None
      → value_row (rules_for v) (defaults_at id (map built_option rs ++ fs)) ≡ table.usual_of rs id
  usual_values id [] fs none = none
  usual_values id (r ∷ rs) fs none = go (bytes_eq r.name id) r.usual (usual_values id rs fs none)
    where
      go : (b : Bool) (u : Option Text) → value_row (rules_for v) (defaults_at id (map built_option rs ++ fs)) ≡ table.usual_of rs id
          → value_row (rules_for v) (or_row (if b then usual_row (built_option r) (usual_texts u) else None) (defaults_at id (map built_option rs ++ fs)))
          ≡ table.or_usual (if b then u else None) (table.usual_of rs id)
      go true None more = more
      go true (Some t) more = refl
      go false u more = more

  -- an option has the value that it was given, or its usual one
  pub values : table.is_whole v l ≡ true → (name : Text) → NoFile name → first_of name (rows_after (rules_for v) [] words) ≡ table.value_in v l.pairs name
  values w name n =
      let once = (and_parts (is_once l.pairs) (table.are_wanted_given (table.options_of v) l.pairs && table.takes_files v (length l.files)) w).0 in
      let counted = (and_parts (table.are_wanted_given (table.options_of v) l.pairs) (table.takes_files v (length l.files)) (and_parts (is_once l.pairs) (table.are_wanted_given (table.options_of v) l.pairs && table.takes_files v (length l.files)) w).1).1 in
      let m = (and_parts (file_given v (nat_lt 0 (length l.files))) (most_files v l.files) (sym (takes v l.files) ∙ counted)).1 in
      let e = ended once m in
      ap (value_row (rules_for v)) (finished_at name (rules_for v) (walk_rows words) ∙ ap (λ (o : Option Row). or_row o (defaults_at name (rules_for v))) (e.at name n))
      ∙ value_or name (defaults_at name (rules_for v)) l.pairs pairs
      ∙ ap (table.or_usual (value_of l.pairs name)) (usual_values name (table.options_of v) (built_files v) (file_values name n v))
