-- How the walk of `clap` goes over options with their values, and over files.
use Rattle.std.proofs.Common.{◌≡◌, ◌==◌, ◌&&◌, ◌||◌, ◌∙◌, ◌++◌, ◌+◌, ℕ, Bool, true, false, List, [], ◌∷◌, Option, Some, None, refl, sym, ap, ap₂, fold, if◌then◌else◌, rules, min, length}
use Rattle.std.specs.Bool.{⊤}
use Rattle.std.specs.Str.{bytes_eq}
use Rattle.clap.specs.Facts.{unwrap_or_range}
use Rattle.clap.specs.Faults.{settle_fault, turn_fault, use_fault, walk_fault}
use Rattle.clap.specs.Kinds.{Kinds, or_else}
use Rattle.clap.specs.Lexer.{long_of, short_of}
use Rattle.clap.specs.Simple.{Shape}
use Rattle.clap.specs.Words.{Row, Rule, Text}
use Rattle.clap.specs.Walk.{action_of, arg_by_id, arg_by_index, arg_by_long, is_multiple, is_pending, most_values, next_position, settled, settled_rows, takes_several, takes_values, used, Held, Walk, Waiting, idle, option, positional, walked}
use Rattle.clap.specs.declared.builder.value_parser.ValueParser.TheVariants as vp
use Rattle.clap.specs.declared.error.kind.ErrorKind.TheVariants as kind

-- an argument with one value
pub record Use : Type 0 where
  pub rule : Rule
  pub value : Text

abbrev pub held_use : Option Use → Option (Text × List Text)
held_use None = None
held_use (Some u) = Some (u.rule.id, u.value ∷ [])

abbrev pub at_walk : List Row → Option Use → Waiting → ℕ → Walk
at_walk rows p w position = record { held = record { rows = rows; pending = held_use p; skip = 0 }; waiting = w; position = position; is_trailing = false; stopped = None }

abbrev pub asks : List Row → Text → Walk
asks rows id = record { held = record { rows = rows; pending = Some (id, []); skip = 0 }; waiting = option id; position = 1; is_trailing = false; stopped = None }

-- what an argument has that takes one value at each use
pub record IsOne (c : List Rule) (a : Rule) : Type 0 where
  pub by_id : arg_by_id c a.id ≡ Some a
  pub range : a.range ≡ Some (record { start_inclusive = 1; end_inclusive = 1 })

abbrev pub AreOne : List Rule → Option Use → Type 0
AreOne c None = ⊤
AreOne c (Some u) = IsOne c u.rule

abbrev pub pend_rows : List Row → Option Use → List Row
pend_rows rows None = rows
pend_rows rows (Some u) = used u.rule (u.value ∷ []) rows

abbrev pub pend_fault : List Row → Option Use → Kinds
pend_fault rows None = []
pend_fault rows (Some u) = use_fault false u.rule (u.value ∷ []) rows

pub settled_is : (c : List Rule) (rows : List Row) (p : Option Use) → AreOne c p → settled_rows c (held_use p) rows ≡ pend_rows rows p
settled_is c rows None h = refl
settled_is c rows (Some u) h = rw h.by_id refl

pub settle_is : (c : List Rule) (rows : List Row) (p : Option Use) (w : Waiting) (i : ℕ) → AreOne c p → settle_fault c false (at_walk rows p w i).held ≡ pend_fault rows p
settle_is c rows None w i h = refl
settle_is c rows (Some u) w i h = rw h.by_id refl

pub long_plain : (b : ℕ) (bs : Text) → (b == 45) ≡ false → long_of (b ∷ bs) ≡ None
long_plain b bs e = rw e refl

pub short_plain : (b : ℕ) (bs : Text) → (b == 45) ≡ false → short_of (b ∷ bs) ≡ None
short_plain b bs e = rw e refl

same_id : (id : Text) → bytes_eq id id ≡ true
same_id id = search rules

or_nil : (ks : Kinds) → or_else ks [] ≡ ks
or_nil [] = refl
or_nil (k ∷ ks) = refl

or_assoc : (a b c : Kinds) → or_else a (or_else b c) ≡ or_else (or_else a b) c
or_assoc [] b c = refl
or_assoc (k ∷ ks) b c = refl

-- ---- an option and its value

-- the word names an option of the command
pub record IsNamed (c : List Rule) (a : Rule) (word name : Text) : Type 0 where
  pub dashes : bytes_eq word (45 ∷ 45 ∷ []) ≡ false
  pub long : long_of word ≡ Some (name, None)
  pub found : arg_by_long c name ≡ Some a
  pub one : IsOne c a

takes_one : (c : List Rule) (a : Rule) → IsOne c a → takes_values a ≡ true
takes_one c a h = rw h.range refl

most_one : (c : List Rule) (a : Rule) → IsOne c a → most_values a ≡ 1
most_one c a h = rw h.range refl

several_none : (c : List Rule) (a : Rule) → IsOne c a → takes_several a ≡ false
several_none c a h = rw h.range refl

option_word : (c : List Rule) (a : Rule) (word name : Text) (rows : List Row) (p : Option Use) → IsNamed c a word name
    → walked c [] (at_walk rows p idle 1) word ≡ asks (settled_rows c (held_use p) rows) a.id
unfolding walked
option_word c a word name rows p h = rw (h.dashes, h.long, h.found, takes_one c a h.one) refl

value_word : (c : List Rule) (a : Rule) (rows : List Row) (b : ℕ) (bs : Text) → IsOne c a → (b == 45) ≡ false
    → walked c [] (asks rows a.id) (b ∷ bs) ≡ at_walk rows (Some (record { rule = a; value = b ∷ bs })) idle 1
unfolding walked
value_word c a rows b bs h plain = rw (plain, short_plain b bs plain, h.by_id, same_id a.id, most_one c a h) refl

option_turn : (s : Shape) (a : Rule) (word name : Text) (rows : List Row) (p : Option Use) → IsNamed s.rules a word name
    → turn_fault s [] (at_walk rows p idle 1) word ≡ settle_fault s.rules s.args_override_self (at_walk rows p idle 1).held
option_turn s a word name rows p h = rw (h.dashes, h.long, h.found, takes_one s.rules a h.one) (or_nil _)

value_turn : (s : Shape) (a : Rule) (rows : List Row) (b : ℕ) (bs : Text) → (b == 45) ≡ false → turn_fault s [] (asks rows a.id) (b ∷ bs) ≡ []
value_turn s a rows b bs plain = rw (plain, short_plain b bs plain) refl

-- ---- the faults and the rows of a walk, with the last use

abbrev pub ends_at : Shape → Walk → List Text → Held
ends_at s w words = (fold (walked s.rules []) w words).held

abbrev pub faults_from : Shape → Walk → List Text → Kinds
faults_from s w words = or_else (walk_fault s [] w words) (settle_fault s.rules s.args_override_self (ends_at s w words))

abbrev pub rows_from : Shape → Walk → List Text → List Row
rows_from s w words = (settled s.rules (ends_at s w words)).rows

faults_next : (s : Shape) (w : Walk) (x : Text) (xs : List Text) → faults_from s w (x ∷ xs) ≡ or_else (turn_fault s [] w x) (faults_from s (walked s.rules [] w x) xs)
unfolding walk_fault
faults_next s w x xs = sym (or_assoc (turn_fault s [] w x) (walk_fault s [] (walked s.rules [] w x) xs) (settle_fault s.rules s.args_override_self (ends_at s w (x ∷ xs))))

faults_none : (s : Shape) (w : Walk) → faults_from s w [] ≡ settle_fault s.rules s.args_override_self w.held
unfolding walk_fault
faults_none s w = refl

module _ (s : Shape) (again : s.args_override_self ≡ false) where
  settle_here : (rows : List Row) (p : Option Use) (w : Waiting) (i : ℕ) → AreOne s.rules p
      → settle_fault s.rules s.args_override_self (at_walk rows p w i).held ≡ pend_fault rows p
  settle_here rows p w i h = ap (λ (g : Bool). settle_fault s.rules g (at_walk rows p w i).held) again ∙ settle_is s.rules rows p w i h

  -- the end
  pub end_faults : (rows : List Row) (p : Option Use) (w : Waiting) (i : ℕ) → AreOne s.rules p → faults_from s (at_walk rows p w i) [] ≡ pend_fault rows p
  end_faults rows p w i h = faults_none s (at_walk rows p w i) ∙ settle_here rows p w i h

  pub end_rows : (rows : List Row) (p : Option Use) (w : Waiting) (i : ℕ) → AreOne s.rules p → rows_from s (at_walk rows p w i) [] ≡ pend_rows rows p
  end_rows rows p w i h = settled_is s.rules rows p h

  module _ (a : Rule) (word name : Text) (b : ℕ) (bs : Text) (rows : List Row) (p : Option Use) (named : IsNamed s.rules a word name) (plain : (b == 45) ≡ false) (known : AreOne s.rules p) where
    abbrev here : Option Use
    here = Some (record { rule = a; value = b ∷ bs })

    asked : walked s.rules [] (at_walk rows p idle 1) word ≡ asks (pend_rows rows p) a.id
    asked = option_word s.rules a word name rows p named ∙ ap (λ (r : List Row). asks r a.id) (settled_is s.rules rows p known)

    pair_walk : walked s.rules [] (walked s.rules [] (at_walk rows p idle 1) word) (b ∷ bs) ≡ at_walk (pend_rows rows p) here idle 1
    pair_walk = ap (λ (w : Walk). walked s.rules [] w (b ∷ bs)) asked ∙ value_word s.rules a (pend_rows rows p) b bs named.one plain

    pub pair_faults : (more : List Text) → faults_from s (at_walk rows p idle 1) (word ∷ (b ∷ bs) ∷ more)
        ≡ or_else (pend_fault rows p) (faults_from s (at_walk (pend_rows rows p) (Some (record { rule = a; value = b ∷ bs })) idle 1) more)
    pair_faults more =
        faults_next s (at_walk rows p idle 1) word ((b ∷ bs) ∷ more)
        ∙ ap₂ or_else (option_turn s a word name rows p named ∙ settle_here rows p idle 1 known)
        (faults_next s (walked s.rules [] (at_walk rows p idle 1) word) (b ∷ bs) more
        ∙ ap₂ or_else (ap (λ (w : Walk). turn_fault s [] w (b ∷ bs)) asked ∙ value_turn s a (pend_rows rows p) b bs plain)
        (ap (λ (w : Walk). faults_from s w more) pair_walk))

    pub pair_rows : (more : List Text) → rows_from s (at_walk rows p idle 1) (word ∷ (b ∷ bs) ∷ more)
        ≡ rows_from s (at_walk (pend_rows rows p) (Some (record { rule = a; value = b ∷ bs })) idle 1) more
    pair_rows more = ap (λ (w : Walk). rows_from s w more) pair_walk

-- ---- files

-- what waits between files
abbrev pub waits : Bool → Waiting
waits b = if b then positional else idle

-- an argument by its place
pub record IsPlaced (c : List Rule) (i : ℕ) (a : Rule) : Type 0 where
  pub found : arg_by_index c i ≡ Some a
  pub one : IsOne c a
  pub plain : a.trailing_var_arg ≡ false

and_false : (b : Bool) → (b && false) ≡ false
and_false true = refl
and_false false = refl

file_word : (c : List Rule) (a : Rule) (w : Bool) (i : ℕ) (rows : List Row) (p : Option Use) (b : ℕ) (bs : Text) → IsPlaced c i a → (b == 45) ≡ false
    → walked c [] (at_walk rows p (waits w) i) (b ∷ bs) ≡ at_walk (settled_rows c (held_use p) rows) (Some (record { rule = a; value = b ∷ bs })) (waits (is_multiple a)) (next_position a i)
unfolding walked
file_word c a true i rows p b bs h e = rw (e, short_plain b bs e, h.found, several_none c a h.one, and_false (is_pending a (held_use p)), h.plain) refl
file_word c a false i rows p b bs h e = rw (e, short_plain b bs e, h.found, several_none c a h.one, and_false (is_pending a (held_use p)), h.plain) refl

file_turn : (s : Shape) (a : Rule) (w : Bool) (i : ℕ) (rows : List Row) (p : Option Use) (b : ℕ) (bs : Text) → IsPlaced s.rules i a → (b == 45) ≡ false
    → turn_fault s [] (at_walk rows p (waits w) i) (b ∷ bs) ≡ settle_fault s.rules s.args_override_self (at_walk rows p (waits w) i).held
file_turn s a true i rows p b bs h e = rw (e, short_plain b bs e, h.found, several_none s.rules a h.one, and_false (is_pending a (held_use p))) refl
file_turn s a false i rows p b bs h e = rw (e, short_plain b bs e, h.found, several_none s.rules a h.one, and_false (is_pending a (held_use p))) refl

-- a file that has no place
pub stray_turn : (s : Shape) (w : Bool) (i : ℕ) (rows : List Row) (p : Option Use) (b : ℕ) (bs : Text) → s.is_leaf ≡ true → arg_by_index s.rules i ≡ None → (b == 45) ≡ false
    → turn_fault s [] (at_walk rows p (waits w) i) (b ∷ bs) ≡ kind.UnknownArgument ∷ []
stray_turn s true i rows p b bs leaf none e = rw (e, short_plain b bs e, none, leaf) refl
stray_turn s false i rows p b bs leaf none e = rw (e, short_plain b bs e, none, leaf) refl

module _ (s : Shape) (again : s.args_override_self ≡ false) (w : Bool) (i : ℕ) (rows : List Row) (p : Option Use) (b : ℕ) (bs : Text) (e : (b == 45) ≡ false) where
  module _ (a : Rule) (placed : IsPlaced s.rules i a) (known : AreOne s.rules p) where
    file_walk : walked s.rules [] (at_walk rows p (waits w) i) (b ∷ bs) ≡ at_walk (pend_rows rows p) (Some (record { rule = a; value = b ∷ bs })) (waits (is_multiple a)) (next_position a i)
    file_walk = file_word s.rules a w i rows p b bs placed e
        ∙ ap (λ (r : List Row). at_walk r (Some (record { rule = a; value = b ∷ bs })) (waits (is_multiple a)) (next_position a i)) (settled_is s.rules rows p known)

    pub file_faults : (more : List Text) → faults_from s (at_walk rows p (waits w) i) ((b ∷ bs) ∷ more)
        ≡ or_else (pend_fault rows p) (faults_from s (at_walk (pend_rows rows p) (Some (record { rule = a; value = b ∷ bs })) (waits (is_multiple a)) (next_position a i)) more)
    file_faults more =
        faults_next s (at_walk rows p (waits w) i) (b ∷ bs) more
        ∙ ap₂ or_else (file_turn s a w i rows p b bs placed e ∙ settle_here s again rows p (waits w) i known) (ap (λ (k : Walk). faults_from s k more) file_walk)

    pub file_rows : (more : List Text) → rows_from s (at_walk rows p (waits w) i) ((b ∷ bs) ∷ more)
        ≡ rows_from s (at_walk (pend_rows rows p) (Some (record { rule = a; value = b ∷ bs })) (waits (is_multiple a)) (next_position a i)) more
    file_rows more = ap (λ (k : Walk). rows_from s k more) file_walk

  pub stray_faults : (more : List Text) → s.is_leaf ≡ true → arg_by_index s.rules i ≡ None → faults_from s (at_walk rows p (waits w) i) ((b ∷ bs) ∷ more) ≡ kind.UnknownArgument ∷ []
  stray_faults more leaf none = faults_next s (at_walk rows p (waits w) i) (b ∷ bs) more
      ∙ ap (λ (k : Kinds). or_else k (faults_from s (walked s.rules [] (at_walk rows p (waits w) i) (b ∷ bs)) more)) (stray_turn s w i rows p b bs leaf none e)
