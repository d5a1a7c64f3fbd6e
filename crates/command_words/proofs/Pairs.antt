-- The rows of options: none stands twice, and each has the value that it was given.
use Rattle.std.proofs.Common.{◌≡◌, ◌==◌, ◌&&◌, ◌||◌, ◌∙◌, ◌++◌, ◌+◌, ℕ, Bool, true, false, not, List, [], ◌∷◌, Option, Some, None, refl, sym, ap, ap₂, subst, if◌then◌else◌, option_map, map, is_some}
use Rattle.std.specs.Bool.{⊤}
use Rattle.std.specs.Prelude.{option_and_then, slice_get}
use Rattle.std.specs.Bool.{one_answer}
use Rattle.std.specs.List.{list_all, list_any}
use Rattle.std.specs.Str.{bytes_eq}
use Rattle.std.proofs.lemmas.Bool.{false≢true}
use Rattle.std.proofs.lemmas.Slice.Eq.{bytes_eq-Decides}
use Rattle.std.proofs.lemmas.List.Folds.{list_any-append}
use Rattle.clap.specs.Words.{Row, Rule, Text}
use Rattle.clap.specs.Walk.{has_row, used}
use Rattle.command_words.specs.Words.{Pair, is_given, is_once, value_of}
use Rattle.command_words.proofs.Rows.{Each, IsSet, and_parts, are_told, clean, given_row, has_is, or_row, or_row_assoc, or_row_none, row_at, row_of, set_at, set_clean, set_rows, set_told, use_row}
use Rattle.command_words.proofs.Uses.{IsPair, all_ok, all_rows, ok_use, use_of}
use Rattle.command_words.proofs.Walks.{Use}

not_true : (b : Bool) → not b ≡ true → b ≡ false
not_true true e = absurd (false≢true e)
not_true false e = refl

-- ---- uses of options alone

abbrev pub AreSet : List Use → Type 0
AreSet = Each (λ u. IsSet u.rule)

-- the first row that uses make of an id
abbrev pub uses_row : Text → List Use → Option Row
uses_row id [] = None
uses_row id (u ∷ us) = or_row (use_row id u) (uses_row id us)

-- what uses of options leave
pub record SetEnd (rows : List Row) (us : List Use) : Type 0 where
  pub told : are_told rows ≡ true → are_told (all_rows rows us) ≡ true
  pub at : (id : Text) → row_at id (all_rows rows us) ≡ or_row (row_at id rows) (uses_row id us)

pub set_end : (us : List Use) (rows : List Row) → AreSet us → all_ok rows us ≡ true → SetEnd rows us
set_end [] rows hs ok = record { told = λ h. h; at = λ id. sym (or_row_none (row_at id rows)) }
set_end (u ∷ us) rows hs ok =
    let parts = and_parts (ok_use rows u) (all_ok (used u.rule (u.value ∷ []) rows) us) ok in
    let fresh : has_row u.rule.id rows ≡ false = not_true (has_row u.rule.id rows) (sym (set_clean u.rule u.value rows hs.0) ∙ parts.0) in
    let more = set_end us (used u.rule (u.value ∷ []) rows) hs.1 parts.1 in
    record {
      told = λ h. more.told (set_told u rows hs.0 fresh h);
      at = λ id. more.at id ∙ ap (λ (o : Option Row). or_row o (uses_row id us)) (set_at id u rows hs.0 fresh) ∙ or_row_assoc (row_at id rows) (use_row id u) (uses_row id us);
    }

-- ---- pairs

pub same_either_way : (a b : Text) → bytes_eq a b ≡ bytes_eq b a
same_either_way a b = one_answer (bytes_eq a b) (bytes_eq b a) (bytes_eq-Decides a b) ((λ h. sym ((bytes_eq-Decides b a).0 h)), (λ e. (bytes_eq-Decides b a).1 (sym e)))

module _ (c : List Rule) where
  abbrev pub uses_of : List Pair → List Use
  uses_of ps = map (use_of c) ps

  pub are_set : (ps : List Pair) → Each (IsPair c) ps → AreSet (uses_of ps)
  are_set [] hs = hs
  are_set (p ∷ ps) hs = (hs.0.set, are_set ps hs.1)

  abbrev pub are_fresh : List Row → List Pair → Bool
  are_fresh rows ps = list_all (λ p. not (has_row p.option rows)) ps

  has_more : (id : Text) (rows : List Row) (r : Row) → has_row id (rows ++ r ∷ []) ≡ (has_row id rows || (bytes_eq r.id id || false))
  has_more id rows r = list_any-append (λ r. bytes_eq r.id id) rows (r ∷ [])

  shuffle : (h e a g : Bool) → ((not (h || (e || false)) && (a && not g))) ≡ ((not h && a) && not (e || g))
  shuffle true e a g = refl
  shuffle false true true g = refl
  shuffle false true false g = refl
  shuffle false false a g = refl

  fresh_more : (id : Text) (rows : List Row) (r : Row) (ps : List Pair) → r.id ≡ id → are_fresh (rows ++ r ∷ []) ps ≡ (are_fresh rows ps && not (is_given ps id))
  fresh_more id rows r [] is = refl
  fresh_more id rows r (p ∷ ps) is =
      ap₂ (λ (x y : Bool). not x && y)
      (has_more p.option rows r ∙ ap (λ (t : Bool). has_row p.option rows || (t || false)) (ap (λ (t : Text). bytes_eq t p.option) is ∙ same_either_way id p.option))
      (fresh_more id rows r ps is)
      ∙ shuffle (has_row p.option rows) (bytes_eq p.option id) (are_fresh rows ps) (is_given ps id)

  again : (a g o : Bool) → ((a && not g) && o) ≡ (a && (not g && o))
  again true g o = refl
  again false g o = refl

  -- options are taken where none stood before, and none stands twice
  pub taken_once : (ps : List Pair) → Each (IsPair c) ps → (rows : List Row) → all_ok rows (uses_of ps) ≡ (are_fresh rows ps && is_once ps)
  taken_once [] hs rows = refl
  taken_once (p ∷ ps) hs rows = go (has_row p.option rows) refl (λ r. taken_once ps hs.1 r)
    where
      u : Use
      u = use_of c p

      first : ok_use rows (use_of c p) ≡ not (has_row p.option rows)
      first = set_clean (use_of c p).rule p.value rows hs.0.set ∙ ap (λ (id : Text). not (has_row id rows)) hs.0.id

      go : (b : Bool) → has_row p.option rows ≡ b → ((r : List Row) → all_ok r (uses_of ps) ≡ (are_fresh r ps && is_once ps))
          → all_ok rows (uses_of (p ∷ ps)) ≡ (are_fresh rows (p ∷ ps) && is_once (p ∷ ps))
      go true e more =
          ap (λ (t : Bool). t && all_ok (used (use_of c p).rule (p.value ∷ []) rows) (uses_of ps)) (first ∙ ap not e)
          ∙ sym (ap (λ (t : Bool). (not t && are_fresh rows ps) && is_once (p ∷ ps)) e)
      go false e more =
          ap (λ (t : Bool). t && all_ok (used (use_of c p).rule (p.value ∷ []) rows) (uses_of ps)) (first ∙ ap not e)
          ∙ ap (λ (r : List Row). all_ok r (uses_of ps)) (set_rows (use_of c p).rule p.value rows hs.0.set (ap (λ (id : Text). has_row id rows) hs.0.id ∙ e))
          ∙ more (rows ++ (row_of (use_of c p).rule p.value ∷ []))
          ∙ ap (λ (t : Bool). t && is_once ps) (fresh_more p.option rows (row_of (use_of c p).rule p.value) ps hs.0.id)
          ∙ again (are_fresh rows ps) (is_given ps p.option) (is_once ps)
          ∙ sym (ap (λ (t : Bool). (not t && are_fresh rows ps) && is_once (p ∷ ps)) e)

  all_fresh : (ps : List Pair) → are_fresh [] ps ≡ true
  all_fresh [] = refl
  all_fresh (p ∷ ps) = all_fresh ps

  pub ok_once : (ps : List Pair) → Each (IsPair c) ps → all_ok [] (uses_of ps) ≡ is_once ps
  ok_once ps hs = taken_once ps hs [] ∙ ap (λ (t : Bool). t && is_once ps) (all_fresh ps)

  -- the row of an option has the value that it was given
  abbrev pub value_row : Option Row → Option Text
  value_row o = option_and_then (λ r. slice_get r.values 0) o

  pub value_at : (id : Text) (ps : List Pair) → Each (IsPair c) ps → value_row (uses_row id (uses_of ps)) ≡ value_of ps id
  value_at id [] hs = refl
  value_at id (p ∷ ps) hs =
      ap (λ (t : Text). value_row (or_row (if bytes_eq t id then Some (row_of (use_of c p).rule p.value) else None) (uses_row id (uses_of ps)))) hs.0.id ∙ go (bytes_eq p.option id) (value_at id ps hs.1)
    where
      go : (b : Bool) → value_row (uses_row id (uses_of ps)) ≡ value_of ps id
          → value_row (or_row (if b then Some (row_of (use_of c p).rule p.value) else None) (uses_row id (uses_of ps))) ≡ (if b then Some p.value else value_of ps id)
      go true more = refl
      go false more = more

  pub given_at : (id : Text) (ps : List Pair) → Each (IsPair c) ps → given_row (uses_row id (uses_of ps)) ≡ is_given ps id
  given_at id [] hs = refl
  given_at id (p ∷ ps) hs =
      ap (λ (t : Text). given_row (or_row (if bytes_eq t id then Some (row_of (use_of c p).rule p.value) else None) (uses_row id (uses_of ps)))) hs.0.id ∙ go (bytes_eq p.option id) (given_at id ps hs.1)
    where
      go : (b : Bool) → given_row (uses_row id (uses_of ps)) ≡ is_given ps id
          → given_row (or_row (if b then Some (row_of (use_of c p).rule p.value) else None) (uses_row id (uses_of ps))) ≡ (b || is_given ps id)
      go true more = refl
      go false more = more

  pub some_at : (id : Text) (ps : List Pair) → Each (IsPair c) ps → is_some (uses_row id (uses_of ps)) ≡ is_given ps id
  some_at id [] hs = refl
  some_at id (p ∷ ps) hs =
      ap (λ (t : Text). is_some (or_row (if bytes_eq t id then Some (row_of (use_of c p).rule p.value) else None) (uses_row id (uses_of ps)))) hs.0.id ∙ go (bytes_eq p.option id) (some_at id ps hs.1)
    where
      go : (b : Bool) → is_some (uses_row id (uses_of ps)) ≡ is_given ps id
          → is_some (or_row (if b then Some (row_of (use_of c p).rule p.value) else None) (uses_row id (uses_of ps))) ≡ (b || is_given ps id)
      go true more = refl
      go false more = more
