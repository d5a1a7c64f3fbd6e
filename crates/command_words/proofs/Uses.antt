-- Uses of options and files, one after the other: whether all of them are taken, and which rows they leave.
use Rattle.std.proofs.Common.{◌≡◌, ◌==◌, ◌&&◌, ◌||◌, ◌∙◌, ◌++◌, ◌+◌, ℕ, Bool, true, false, not, List, [], ◌∷◌, Option, Some, None, refl, sym, ap, ap₂, subst, if◌then◌else◌, option_map, map, is_some}
use Rattle.std.specs.Bool.{⊤}
use Rattle.std.specs.Prelude.{option_and_then}
use Rattle.std.specs.List.{list_all, list_any}
use Rattle.std.specs.Str.{bytes_eq}
use Rattle.std.proofs.lemmas.Bool.{false≢true}
use Rattle.clap.specs.Faults.{use_fault}
use Rattle.clap.specs.Simple.{Shape}
use Rattle.clap.specs.Words.{Row, Rule, Text, new_rule}
use Rattle.clap.specs.Walk.{arg_by_id, arg_by_index, arg_by_long, has_row, is_multiple, next_position, idle, used}
use Rattle.clap.specs.Lexer.{long_of}
use Rattle.std.specs.Option.{unwrap_or}
use Rattle.command_words.specs.Words.{Pair, is_plain, is_given, is_once}
use Rattle.command_words.proofs.Rows.{Each, IsSet, and_parts, are_told, clean, clean_both, or_row, row_at, row_of, set_at, set_clean, set_rows, set_told, use_row, same_id}
use Rattle.command_words.proofs.Spelled.{words_of, some_is, none_some}
use Rattle.command_words.proofs.Walks.{AreOne, IsNamed, IsOne, IsPlaced, Use, at_walk, faults_from, pend_fault, pend_rows, rows_from, waits, pair_faults, pair_rows, end_faults, end_rows, file_faults, file_rows, stray_faults}

abbrev pub ok_use : List Row → Use → Bool
ok_use rows u = clean (use_fault false u.rule (u.value ∷ []) rows)

abbrev pub all_ok : List Row → List Use → Bool
all_ok rows [] = true
all_ok rows (u ∷ us) = ok_use rows u && all_ok (used u.rule (u.value ∷ []) rows) us

abbrev pub all_rows : List Row → List Use → List Row
all_rows rows [] = rows
all_rows rows (u ∷ us) = all_rows (used u.rule (u.value ∷ []) rows) us

abbrev pub opt : Option Use → List Use → List Use
opt None us = us
opt (Some u) us = u ∷ us

and_assoc : (a b c : Bool) → ((a && b) && c) ≡ (a && (b && c))
and_assoc true b c = refl
and_assoc false b c = refl

and_true : (a : Bool) → (a && true) ≡ a
and_true true = refl
and_true false = refl

and_false : (a : Bool) → (a && false) ≡ false
and_false true = refl
and_false false = refl

pub all_ok_append : (rows : List Row) (xs ys : List Use) → all_ok rows (xs ++ ys) ≡ (all_ok rows xs && all_ok (all_rows rows xs) ys)
all_ok_append rows [] ys = refl
all_ok_append rows (x ∷ xs) ys =
    let next = used x.rule (x.value ∷ []) rows in
    ap (λ (b : Bool). ok_use rows x && b) (all_ok_append next xs ys) ∙ sym (and_assoc (ok_use rows x) (all_ok next xs) (all_ok (all_rows next xs) ys))

pub all_rows_append : (rows : List Row) (xs ys : List Use) → all_rows rows (xs ++ ys) ≡ all_rows (all_rows rows xs) ys
all_rows_append rows [] ys = refl
all_rows_append rows (x ∷ xs) ys = all_rows_append (used x.rule (x.value ∷ []) rows) xs ys

plain_byte : (b : ℕ) (bs : Text) → is_plain (b ∷ bs) ≡ true → (b == 45) ≡ false
plain_byte b bs h = go (b == 45) h
  where
    go : (t : Bool) → not t ≡ true → t ≡ false
    go true e = sym e
    go false e = refl

-- ---- options

abbrev pub rule_by : List Rule → Text → Rule
rule_by c name = unwrap_or (arg_by_id c name) (new_rule [])

abbrev pub use_of : List Rule → Pair → Use
use_of c p = record { rule = rule_by c p.option; value = p.value }

-- the option is one of the command's, and its value may stand
pub record IsPair (c : List Rule) (p : Pair) : Type 0 where
  pub dashes : bytes_eq (45 ∷ 45 ∷ p.option) (45 ∷ 45 ∷ []) ≡ false
  pub long : long_of (45 ∷ 45 ∷ p.option) ≡ Some (p.option, None)
  pub by_long : arg_by_long c p.option ≡ Some (rule_by c p.option)
  pub one : IsOne c (rule_by c p.option)
  pub set : IsSet (rule_by c p.option)
  pub id : (rule_by c p.option).id ≡ p.option
  pub plain : is_plain p.value ≡ true

named : (c : List Rule) (p : Pair) → IsPair c p → IsNamed c (rule_by c p.option) (45 ∷ 45 ∷ p.option) p.option
named c p h = record { dashes = h.dashes; long = h.long; found = h.by_long; one = h.one }

-- a value that may stand has a first byte
at_value : (P : Text → Type 0) → ((b : ℕ) (bs : Text) → (b == 45) ≡ false → P (b ∷ bs)) → (v : Text) → is_plain v ≡ true → P v
at_value P h [] e = absurd (false≢true e)
at_value P h (b ∷ bs) e = h b bs (plain_byte b bs e)

module _ (s : Shape) (again : s.args_override_self ≡ false) (files : List Text) (G : List Row → List Use → Bool)
    (step : (rows : List Row) (u : Use) (us : List Use) → G rows (u ∷ us) ≡ (ok_use rows u && G (used u.rule (u.value ∷ []) rows) us))
    (ends : (rows : List Row) (p : Option Use) → AreOne s.rules p → clean (faults_from s (at_walk rows p idle 1) files) ≡ G rows (opt p [])) where
  pend_step : (rows : List Row) (p : Option Use) (us : List Use) → (clean (pend_fault rows p) && G (pend_rows rows p) us) ≡ G rows (opt p us)
  pend_step rows None us = refl
  pend_step rows (Some u) us = sym (step rows u us)

  pub pairs_ok : (ps : List Pair) → Each (IsPair s.rules) ps → (rows : List Row) (p : Option Use) → AreOne s.rules p
      → clean (faults_from s (at_walk rows p idle 1) (words_of ps ++ files)) ≡ G rows (opt p (map (use_of s.rules) ps))
  pairs_ok [] hs rows p known = ends rows p known
  pairs_ok (x ∷ ps) hs rows p known =
      let u = use_of s.rules x in
      let us = map (use_of s.rules) ps in
      let more = words_of ps ++ files in
      let next = pairs_ok ps hs.1 (pend_rows rows p) (Some u) hs.0.one in
      at_value (λ t. clean (faults_from s (at_walk (pend_rows rows p) (Some (record { rule = u.rule; value = t })) idle 1) more) ≡ G (pend_rows rows p) ((record { rule = u.rule; value = t }) ∷ us)
      → clean (faults_from s (at_walk rows p idle 1) ((45 ∷ 45 ∷ x.option) ∷ t ∷ more)) ≡ G rows (opt p ((record { rule = u.rule; value = t }) ∷ us)))
      (λ b bs plain n.
      ap clean (pair_faults s again u.rule (45 ∷ 45 ∷ x.option) x.option b bs rows p (named s.rules x hs.0) plain known more)
      ∙ clean_both (pend_fault rows p) _ ∙ ap (λ (t : Bool). clean (pend_fault rows p) && t) n ∙ pend_step rows p ((record { rule = u.rule; value = b ∷ bs }) ∷ us))
      x.value hs.0.plain next

module _ (s : Shape) (again : s.args_override_self ≡ false) (files : List Text) (fus : List Use)
    (ends : (rows : List Row) (p : Option Use) → AreOne s.rules p → rows_from s (at_walk rows p idle 1) files ≡ all_rows rows (opt p fus)) where
  pend_more : (rows : List Row) (p : Option Use) (us : List Use) → all_rows (pend_rows rows p) us ≡ all_rows rows (opt p us)
  pend_more rows None us = refl
  pend_more rows (Some u) us = refl

  pub pairs_rows : (ps : List Pair) → Each (IsPair s.rules) ps → (rows : List Row) (p : Option Use) → AreOne s.rules p
      → rows_from s (at_walk rows p idle 1) (words_of ps ++ files) ≡ all_rows rows (opt p (map (use_of s.rules) ps ++ fus))
  pairs_rows [] hs rows p known = ends rows p known
  pairs_rows (x ∷ ps) hs rows p known =
      let u = use_of s.rules x in
      let us = map (use_of s.rules) ps ++ fus in
      let more = words_of ps ++ files in
      let next = pairs_rows ps hs.1 (pend_rows rows p) (Some u) hs.0.one in
      at_value (λ t. rows_from s (at_walk (pend_rows rows p) (Some (record { rule = u.rule; value = t })) idle 1) more ≡ all_rows (pend_rows rows p) ((record { rule = u.rule; value = t }) ∷ us)
      → rows_from s (at_walk rows p idle 1) ((45 ∷ 45 ∷ x.option) ∷ t ∷ more) ≡ all_rows rows (opt p ((record { rule = u.rule; value = t }) ∷ us)))
      (λ b bs plain n.
      pair_rows s again u.rule (45 ∷ 45 ∷ x.option) x.option b bs rows p (named s.rules x hs.0) plain known more ∙ n ∙ pend_more rows p ((record { rule = u.rule; value = b ∷ bs }) ∷ us))
      x.value hs.0.plain next

-- ---- files

abbrev pub file_use : Rule → Text → Use
file_use a f = record { rule = a; value = f }

-- the uses of files from a place on; none where one of them has no place
abbrev pub file_uses : List Rule → ℕ → List Text → Option (List Use)
file_uses c i [] = Some []
file_uses c i (f ∷ fs) = option_and_then (λ a. option_map (λ us. file_use a f ∷ us) (file_uses c (next_position a i) fs)) (arg_by_index c i)

module _ (s : Shape) (again : s.args_override_self ≡ false) (placed : (i : ℕ) (a : Rule) → arg_by_index s.rules i ≡ Some a → IsPlaced s.rules i a) where
  end_ok : (rows : List Row) (p : Option Use) → clean (pend_fault rows p) ≡ all_ok rows (opt p [])
  end_ok rows None = refl
  end_ok rows (Some u) = sym (and_true (ok_use rows u))

  end_more : (rows : List Row) (p : Option Use) → pend_rows rows p ≡ all_rows rows (opt p [])
  end_more rows None = refl
  end_more rows (Some u) = refl

  step_ok : (rows : List Row) (p : Option Use) (us : List Use) → (clean (pend_fault rows p) && all_ok (pend_rows rows p) us) ≡ all_ok rows (opt p us)
  step_ok rows None us = refl
  step_ok rows (Some u) us = refl

  step_more : (rows : List Row) (p : Option Use) (us : List Use) → all_rows (pend_rows rows p) us ≡ all_rows rows (opt p us)
  step_more rows None us = refl
  step_more rows (Some u) us = refl

  -- what a walk over files comes to
  pub record FilesEnd (files : List Text) (rows : List Row) (p : Option Use) (w : Bool) (i : ℕ) (fus : List Use) : Type 0 where
    pub ok : clean (faults_from s (at_walk rows p (waits w) i) files) ≡ all_ok rows (opt p fus)
    pub leaves : rows_from s (at_walk rows p (waits w) i) files ≡ all_rows rows (opt p fus)

  pub files_end : (files : List Text) → list_all is_plain files ≡ true → (rows : List Row) (p : Option Use) (w : Bool) (i : ℕ) → AreOne s.rules p → (fus : List Use) → file_uses s.rules i files ≡ Some fus
      → FilesEnd files rows p w i fus
  files_end [] plain rows p w i known fus e =
      subst (FilesEnd [] rows p w i) (some_is [] fus e) (record {
        ok = ap clean (end_faults s again rows p (waits w) i known) ∙ end_ok rows p;
        leaves = end_rows s again rows p (waits w) i known ∙ end_more rows p;
      })
  files_end (f ∷ fs) plain rows p w i known fus e =
      at_place (arg_by_index s.rules i) refl e
      (λ a at us. files_end fs (and_parts (is_plain f) (list_all is_plain fs) plain).1 (pend_rows rows p) (Some (file_use a f)) (is_multiple a) (next_position a i) (placed i a at).one us)
    where
      with_first : (a : Rule) → arg_by_index s.rules i ≡ Some a → (us : List Use) → FilesEnd fs (pend_rows rows p) (Some (file_use a f)) (is_multiple a) (next_position a i) us → FilesEnd (f ∷ fs) rows p w i (file_use a f ∷ us)
      with_first a at us more = at_value (λ v. FilesEnd fs (pend_rows rows p) (Some (file_use a v)) (is_multiple a) (next_position a i) us → FilesEnd (v ∷ fs) rows p w i (file_use a v ∷ us))
          (λ b bs e2 n. record {
            ok = ap clean (file_faults s again w i rows p b bs e2 a (placed i a at) known fs) ∙ clean_both (pend_fault rows p) _ ∙ ap (λ (t : Bool). clean (pend_fault rows p) && t) n.ok
                ∙ step_ok rows p (file_use a (b ∷ bs) ∷ us);
            leaves = file_rows s again w i rows p b bs e2 a (placed i a at) known fs ∙ n.leaves ∙ step_more rows p (file_use a (b ∷ bs) ∷ us);
          }) f (and_parts (is_plain f) (list_all is_plain fs) plain).0 more

      at_rest : (a : Rule) → arg_by_index s.rules i ≡ Some a → (o : Option (List Use)) → file_uses s.rules (next_position a i) fs ≡ o → option_map (λ us. file_use a f ∷ us) o ≡ Some fus
          → ((b : Rule) → arg_by_index s.rules i ≡ Some b → (us : List Use) → file_uses s.rules (next_position b i) fs ≡ Some us → FilesEnd fs (pend_rows rows p) (Some (file_use b f)) (is_multiple b) (next_position b i) us)
          → FilesEnd (f ∷ fs) rows p w i fus
      at_rest a at None e2 h more = none_some fus h
      at_rest a at (Some us) e2 h more = subst (FilesEnd (f ∷ fs) rows p w i) (some_is (file_use a f ∷ us) fus h) (with_first a at us (more a at us e2))

      at_place : (o : Option Rule) → arg_by_index s.rules i ≡ o → option_and_then (λ a. option_map (λ us. file_use a f ∷ us) (file_uses s.rules (next_position a i) fs)) o ≡ Some fus
          → ((b : Rule) → arg_by_index s.rules i ≡ Some b → (us : List Use) → file_uses s.rules (next_position b i) fs ≡ Some us → FilesEnd fs (pend_rows rows p) (Some (file_use b f)) (is_multiple b) (next_position b i) us)
          → FilesEnd (f ∷ fs) rows p w i fus
      at_place None at h more = none_some fus h
      at_place (Some a) at h more = at_rest a at (file_uses s.rules (next_position a i) fs) refl h more

  -- a file that has no place is a fault
  pub files_stray : s.is_leaf ≡ true → (files : List Text) → list_all is_plain files ≡ true → (rows : List Row) (p : Option Use) (w : Bool) (i : ℕ) → AreOne s.rules p → file_uses s.rules i files ≡ None
      → clean (faults_from s (at_walk rows p (waits w) i) files) ≡ false
  files_stray leaf [] plain rows p w i known e = none_some [] (sym e)
  files_stray leaf (f ∷ fs) plain rows p w i known e =
      at_place (arg_by_index s.rules i) refl e
      (λ a at. files_stray leaf fs (and_parts (is_plain f) (list_all is_plain fs) plain).1 (pend_rows rows p) (Some (file_use a f)) (is_multiple a) (next_position a i) (placed i a at).one)
    where
      with_first : (a : Rule) → arg_by_index s.rules i ≡ Some a → clean (faults_from s (at_walk (pend_rows rows p) (Some (file_use a f)) (waits (is_multiple a)) (next_position a i)) fs) ≡ false
          → clean (faults_from s (at_walk rows p (waits w) i) (f ∷ fs)) ≡ false
      with_first a at more = at_value (λ v. clean (faults_from s (at_walk (pend_rows rows p) (Some (file_use a v)) (waits (is_multiple a)) (next_position a i)) fs) ≡ false
          → clean (faults_from s (at_walk rows p (waits w) i) (v ∷ fs)) ≡ false)
          (λ b bs e2 n. ap clean (file_faults s again w i rows p b bs e2 a (placed i a at) known fs) ∙ clean_both (pend_fault rows p) _ ∙ ap (λ (t : Bool). clean (pend_fault rows p) && t) n ∙ and_false (clean (pend_fault rows p)))
          f (and_parts (is_plain f) (list_all is_plain fs) plain).0 more

      at_rest : (a : Rule) → arg_by_index s.rules i ≡ Some a → (o : Option (List Use)) → file_uses s.rules (next_position a i) fs ≡ o → option_map (λ us. file_use a f ∷ us) o ≡ None
          → ((b : Rule) → arg_by_index s.rules i ≡ Some b → file_uses s.rules (next_position b i) fs ≡ None → clean (faults_from s (at_walk (pend_rows rows p) (Some (file_use b f)) (waits (is_multiple b)) (next_position b i)) fs) ≡ false)
          → clean (faults_from s (at_walk rows p (waits w) i) (f ∷ fs)) ≡ false
      at_rest a at None e2 h more = with_first a at (more a at e2)
      at_rest a at (Some us) e2 h more = none_some (file_use a f ∷ us) (sym h)

      at_place : (o : Option Rule) → arg_by_index s.rules i ≡ o → option_and_then (λ a. option_map (λ us. file_use a f ∷ us) (file_uses s.rules (next_position a i) fs)) o ≡ None
          → ((b : Rule) → arg_by_index s.rules i ≡ Some b → file_uses s.rules (next_position b i) fs ≡ None → clean (faults_from s (at_walk (pend_rows rows p) (Some (file_use b f)) (waits (is_multiple b)) (next_position b i)) fs) ≡ false)
          → clean (faults_from s (at_walk rows p (waits w) i) (f ∷ fs)) ≡ false
      at_place None at h more = at_value (λ v. clean (faults_from s (at_walk rows p (waits w) i) (v ∷ fs)) ≡ false)
          (λ b bs e2. ap clean (stray_faults s again w i rows p b bs e2 fs leaf at)) f (and_parts (is_plain f) (list_all is_plain fs) plain).0
      at_place (Some a) at h more = at_rest a at (file_uses s.rules (next_position a i) fs) refl h more
