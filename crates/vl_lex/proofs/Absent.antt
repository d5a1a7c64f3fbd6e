-- A file that is asked for is not among the files.
use Rattle.std.proofs.Common.{◌≡◌, ℕ, zero, suc, ◌+◌, ◌==◌, nat_le, nat_lt, Bool, true, false, if◌then◌else◌, Option, Some, None, Ok, Err, List, [], ◌∷◌, ◌++◌, length, take, refl, subst}
use Rattle.std.specs.Prelude.{codes, not, ◌&&◌}
use Rattle.std.specs.Str.{bytes_eq}
use Rattle.std.specs.List.{list_any}
use Rattle.bits_core.specs.declared.names.File.{File}
use Rattle.vl_tree.specs.declared.words.Word.TheVariants as w
use Rattle.vl_tree.specs.Words.{word, same_word}
use Rattle.vl_tree.specs.declared.faults.Code.{Code}
use Rattle.vl_tree.specs.declared.faults.Code.TheVariants as code
use Rattle.vl_tree.specs.declared.faults.Fault.{Fault}
use Rattle.vl_tree.specs.declared.faults.Stop.TheVariants as stop
use Rattle.vl_lex.specs.declared.gate.Mode.{Mode}
use Rattle.vl_lex.specs.declared.gate.Mode.TheVariants as m
use Rattle.vl_lex.specs.declared.gate.Halt.{Halt}
use Rattle.vl_lex.specs.declared.gate.Halt.TheVariants as h
use Rattle.vl_lex.specs.declared.directives.Directive.{Directive}
use Rattle.vl_lex.specs.declared.directives.Directive.TheVariants as d
use Rattle.vl_lex.specs.declared.branches.Branch.{Branch}
use Rattle.vl_lex.specs.Bytes.{Text}
use Rattle.vl_lex.specs.Lexed.{Seen, Placed, Lexed, file_tokens}
use Rattle.vl_lex.specs.Gate.{SGate, Reached, and_then, fault_at, reason_of, halt_reason, flaw_of, most_tokens, kept_if, kept_one, kept_all, nothing_waits, flushed, waits, fed_plain, inside, fed, halted}
use Rattle.vl_lex.specs.Macros.{Table, updated, directive_of, directive_name, is_directive, body_of, expansion_fault, marked, fold_tokens, called, body_token, expanded}
use Rattle.vl_lex.specs.Walk.{SState, with_gate, with_implicit, with_listed, most_files, refused, acted, is_name_kind, opens_bracket, bare, row_len, name_after, defined_with, define_turn, undef_with, undef_turn, nettype_with, nettype_turn, macro_turn, inner_text, is_quoted, is_file_name, Branched, branch_turn, step_branch, passed, fed_state, SBranches, no_branches, Acted, bytes_of, last_line, find_file, enter_at, list_turn, include_turn, act, is_branch_word, directive_step, step, entered, ended, walked, walked_lexed, walked_bytes, walked_file, walked_sources, named_sources, predefined, start, finished, walk_all, kept}
use Rattle.vl_lex.specs.Shelves.{IsAbsent}

none_found : (at : ℕ) (name : Text) (fs : List File) → find_file at name fs ≡ None → list_any (λ f. bytes_eq f.name name) fs ≡ false
none_found at name [] e = refl
none_found at name (f ∷ fs) e = go at name f fs (bytes_eq f.name name) refl e (λ q. none_found (at + 1) name fs q)
  where
    go : (at : ℕ) (name : Text) (f : File) (fs : List File) (t : Bool) → bytes_eq f.name name ≡ t → (if t then Some at else find_file (at + 1) name fs) ≡ None
        → (find_file (at + 1) name fs ≡ None → list_any (λ f. bytes_eq f.name name) fs ≡ false) → list_any (λ f. bytes_eq f.name name) (f ∷ fs) ≡ false
    go at name f fs true b e more = absurd (cc)
    go at name f fs false b e more = rw b (more e)

-- Each name that is asked for meets a predicate. What is no include asks for none.
module _ (P : Text → Type 0) where
  abbrev pub Fine : Halt → Type 0
  Fine (h.Stop s) = Unit {0}
  Fine (h.Need name) = P name

  abbrev pub Well : {S : Type 0} → Reached S → Type 0
  Well (Ok a) = Unit {0}
  Well (Err e) = Fine e

  pub then_well : {A B : Type 0} (o : Reached A) (f : A → Reached B) → Well o → ((a : A) → Well (f a)) → Well (and_then o f)
  then_well (Ok a) f g k = k a
  then_well (Err e) f g k = g

  pub either : {A : Type 0} (c : Bool) (x y : Reached A) → Well x → Well y → Well (if c then x else y)
  either true x y g k = g
  either false x y g k = k

  pub keeps_if : (c : Option Code) (g : SGate) (t : Seen) → Well (kept_if c g t)
  keeps_if (Some c) g t = tt
  keeps_if None g t = either (nat_le most_tokens (length g.kept)) (Err (h.Stop (stop.Limit code.Tokens))) (Ok (record { kept = g.kept ++ t ∷ []; waiting = g.waiting; mode = g.mode })) tt tt

  pub keeps_one : (g : SGate) (t : Seen) → Well (kept_one g t)
  unfolding kept_one
  keeps_one g t = keeps_if (flaw_of t) g t

  pub keeps_all : (ts : List Seen) (g : SGate) → Well (kept_all ts g)
  keeps_all [] g = tt
  keeps_all (t ∷ ts) g = then_well (kept_one g t) (kept_all ts) (keeps_one g t) (λ n. keeps_all ts n)

  pub flushes : (g : SGate) → Well (flushed g)
  unfolding flushed
  flushes g = keeps_all g.waiting (nothing_waits g)

  pub reasons : (o : Reached SGate) (reason : Halt) → Well o → Fine reason → Fine (reason_of o reason)
  reasons (Ok n) reason o r = r
  reasons (Err e) reason o r = o

  pub halts : (g : SGate) (reason : Halt) → Fine reason → Fine (halt_reason g reason)
  unfolding halt_reason
  halts g reason r = reasons (flushed g) reason (flushes g) r

  pub feeds_plain : (g : SGate) (t : Seen) → Well (fed_plain g t)
  unfolding fed_plain
  feeds_plain g t = either (same_word (word t.kind t.text) w.LeftParen) (Ok (waits g t m.Open)) (kept_one g t) tt (keeps_one g t)

  pub feeds : (g : SGate) (t : Seen) (mode : Mode) → Well (fed g t mode)
  unfolding fed
  feeds g t m.Plain = feeds_plain g t
  feeds g t m.Open =
      either (same_word (word t.kind t.text) w.Star) (Ok (waits g t m.Starred)) (and_then (flushed g) (λ n. fed_plain n t)) tt (then_well (flushed g) (λ n. fed_plain n t) (flushes g) (λ n. feeds_plain n t))
  feeds g t m.Starred =
      either (same_word (word t.kind t.text) w.RightParen) (and_then (flushed g) (λ n. kept_one n t)) (Ok (waits g t (inside (word t.kind t.text)))) (then_well (flushed g) (λ n. kept_one n t) (flushes g) (λ n. keeps_one n t)) tt
  feeds g t m.Inside = tt
  feeds g t m.Closing = either (same_word (word t.kind t.text) w.RightParen) (Ok (nothing_waits g)) (Ok (waits g t (inside (word t.kind t.text)))) tt tt

  -- macros

  pub expansion_faults : (g : SGate) (t : Seen) → Fine (halt_reason g (expansion_fault t))
  unfolding expansion_fault
  expansion_faults g t = halts g (expansion_fault t) tt

  pub folds : (f : Seen → SGate → Reached SGate) (ts : List Seen) (g : SGate) → ((t : Seen) (n : SGate) → Well (f t n)) → Well (fold_tokens f ts g)
  folds f [] g k = tt
  folds f (t ∷ ts) g k = then_well (f t g) (fold_tokens f ts) (k t g) (λ n. folds f ts n k)

  pub calls : (inner : Table → List Seen → SGate → Reached SGate) (table : Table) (o : Option (List Seen)) (t : Seen) (g : SGate) → ((below : Table) (body : List Seen) → Well (inner below body g)) → Well (called inner table o t g)
  calls inner table None t g k = expansion_faults g t
  calls inner table (Some body) t g k = k (updated table (directive_name t) None) body

  pub bodies : (depth : ℕ) (table : Table) (implicit : Bool) (t : Seen) (g : SGate) → Well (body_token depth table implicit t g)
  unfolding body_token
  bodies zero table implicit t g = either (is_directive t.kind) (halted g (expansion_fault t)) (fed g (marked implicit t) g.mode) (expansion_faults g t) (feeds g (marked implicit t) g.mode)
  bodies (suc depth) table implicit t g =
      either (is_directive t.kind) (called (λ inner body n. fold_tokens (body_token depth inner implicit) body n) table (body_of table t) t g) (fed g (marked implicit t) g.mode)
      (calls (λ inner body n. fold_tokens (body_token depth inner implicit) body n) table (body_of table t) t g (λ below body. folds (body_token depth below implicit) body g (λ u n. bodies depth below implicit u n)))
      (feeds g (marked implicit t) g.mode)

  pub expands : (depth : ℕ) (table : Table) (implicit : Bool) (body : List Seen) (g : SGate) → Well (expanded depth table implicit body g)
  unfolding expanded
  expands depth table implicit body g = folds (body_token depth table implicit) body g (λ u n. bodies depth table implicit u n)

  -- directives

  pub refuses : (s : SState) (c : Code) (t : Placed) → Well (refused s c t)
  refuses s c t = halts s.gate (fault_at c t.token.span.file t.token.span.line) tt

  pub choice : (s : SState) (t : Placed) (a : Acted) (c : Bool) → Well (if c then Ok a else refused s code.Directive t)
  choice s t a c = either c (Ok a) (refused s code.Directive t) tt (refuses s code.Directive t)

  pub defines : (s : SState) (t : Placed) (ts : List Placed) → Well (define_turn s t ts)
  unfolding define_turn
  defines s t [] = refuses s code.Directive t
  defines s t (n ∷ ns) = choice s t (acted (defined_with s n.token.text (bare (take (row_len t.row ns) ns))) (1 + row_len t.row ns)) (n.row == t.row && is_name_kind n.token.kind && not (opens_bracket n ns))

  pub undefines : (s : SState) (t : Placed) (o : Option Text) → Well (undef_with s t o)
  undefines s t None = refuses s code.Directive t
  undefines s t (Some name) = tt

  pub nettypes : (s : SState) (t : Placed) (o : Option Text) → Well (nettype_with s t o)
  nettypes s t None = refuses s code.Directive t
  nettypes s t (Some name) =
      either (bytes_eq name (codes "none")) (Ok (acted (with_implicit s false) 1)) (if bytes_eq name (codes "wire") then Ok (acted (with_implicit s true) 1) else refused s code.Directive t)
      tt (choice s t (acted (with_implicit s true) 1) (bytes_eq name (codes "wire")))

  pub uses : (s : SState) (t : Placed) → Well (macro_turn s t)
  unfolding macro_turn
  uses s t = then_well (expanded s.defined s.table s.implicit (t.token ∷ []) s.gate) (λ g. Ok (acted (with_gate s g) 0)) (expands s.defined s.table s.implicit (t.token ∷ []) s.gate) (λ g. tt)

  pub branches : (bs : SBranches) (s : SState) (t : Placed) (o : Option Branched) → Well (step_branch bs s t o)
  branches bs s t None = halts s.gate (fault_at code.Directive t.token.span.file t.token.span.line) tt
  branches bs s t (Some b) = tt

  pub feeds_state : (s : SState) (t : Placed) → Well (fed_state s t)
  unfolding fed_state
  feeds_state s t = then_well (fed s.gate (marked s.implicit t.token) s.gate.mode) (λ g. Ok (with_gate s g)) (feeds s.gate (marked s.implicit t.token) s.gate.mode) (λ g. tt)

-- A name that is asked for is one of a file that the files lack.
module _ (P : Text → Type 0) (files : List File) (lacks : (name : Text) → is_file_name name ≡ true → find_file 0 name files ≡ None → P name) where
  enters : (o : Option ℕ) (s : SState) (name : Text) → is_file_name name ≡ true → find_file 0 name files ≡ o → Well P (enter_at o s name)
  enters None s name f e = lacks name f e
  enters (Some i) s name f e = tt

  lists : (s : SState) (name : Text) → is_file_name name ≡ true → Well P (list_turn files s name)
  unfolding list_turn
  lists s name f =
      either P (list_any (λ n. bytes_eq n name) s.listed) (enter_at (find_file 0 name files) s name)
      (if nat_le most_files (length s.listed) then Err (halt_reason s.gate (h.Stop (stop.Limit code.Files))) else enter_at (find_file 0 name files) (with_listed s (s.listed ++ name ∷ [])) name)
      (enters (find_file 0 name files) s name f refl)
      (either P (nat_le most_files (length s.listed)) (Err (halt_reason s.gate (h.Stop (stop.Limit code.Files)))) (enter_at (find_file 0 name files) (with_listed s (s.listed ++ name ∷ [])) name)
      (halts P s.gate (h.Stop (stop.Limit code.Files)) tt) (enters (find_file 0 name files) (with_listed s (s.listed ++ name ∷ [])) name f refl))

  last_of : (a b c : Bool) → (a && b && c) ≡ true → c ≡ true
  last_of true true c e = e
  last_of true false c e = absurd (cc)
  last_of false b c e = absurd (cc)

  included : (levels : ℕ) (s : SState) (t : Placed) (name : Text) (a b : Bool) (c : Bool) → (a && b && is_file_name name) ≡ c → Well P (if c then (if levels == 0 then refused s code.IncludeDepth t else list_turn files s name) else refused s code.Directive t)
  included levels s t name a b true e = either P (levels == 0) (refused s code.IncludeDepth t) (list_turn files s name) (refuses P s code.IncludeDepth t) (lists s name (last_of a b (is_file_name name) e))
  included levels s t name a b false e = refuses P s code.Directive t

  includes : (levels : ℕ) (s : SState) (t : Placed) (ts : List Placed) → Well P (include_turn levels files s t ts)
  unfolding include_turn
  includes levels s t [] = refuses P s code.Directive t
  includes levels s t (n ∷ ns) = included levels s t (inner_text n.token.text) (n.row == t.row) (is_quoted n.token.kind) (n.row == t.row && is_quoted n.token.kind && is_file_name (inner_text n.token.text)) refl

  acts : (levels : ℕ) (k : Directive) (s : SState) (t : Placed) (ts : List Placed) → Well P (act levels files k s t ts)
  unfolding act undef_turn nettype_turn
  acts levels d.Define s t ts = defines P s t ts
  acts levels d.Undef s t ts = undefines P s t (name_after t.row ts)
  acts levels d.Include s t ts = includes levels s t ts
  acts levels d.DefaultNettype s t ts = nettypes P s t (name_after t.row ts)
  acts levels d.ResetAll s t ts = tt
  acts levels d.DropsLine s t ts = tt
  acts levels d.UnconnectedDrive s t ts = refuses P s code.LeftOut t
  acts levels d.Macro s t ts = uses P s t
  acts levels _ s t ts = tt

  -- the walk

  directed : (levels : ℕ) (dir : Directive) (bs : SBranches) (s : SState) (t : Placed) (ts : List Placed) → Well P (directive_step levels files dir bs s t ts)
  unfolding directive_step
  directed levels dir bs s t ts =
      either P (is_branch_word dir) (step_branch bs s t (branch_turn dir bs s.table t.row ts)) (if bs.active then and_then (act levels files dir s t ts) (λ a. Ok (record { branches = bs; state = a.state; more = a.more; enter = a.enter })) else passed bs s)
      (branches P bs s t (branch_turn dir bs s.table t.row ts))
      (either P bs.active (and_then (act levels files dir s t ts) (λ a. Ok (record { branches = bs; state = a.state; more = a.more; enter = a.enter }))) (passed bs s)
      (then_well P (act levels files dir s t ts) (λ a. Ok (record { branches = bs; state = a.state; more = a.more; enter = a.enter })) (acts levels dir s t ts) (λ a. tt)) tt)

  steps : (levels : ℕ) (bs : SBranches) (s : SState) (t : Placed) (ts : List Placed) → Well P (step levels files bs s t ts)
  unfolding step
  steps levels bs s t ts =
      either P (is_directive t.token.kind) (directive_step levels files (directive_of (directive_name t.token)) bs s t ts) (if bs.active then and_then (fed_state s t) (λ n. passed bs n) else passed bs s)
      (directed levels (directive_of (directive_name t.token)) bs s t ts)
      (either P bs.active (and_then (fed_state s t) (λ n. passed bs n)) (passed bs s) (then_well P (fed_state s t) (λ n. passed bs n) (feeds_state P s t) (λ n. tt)) tt)

  abbrev pub InnerWell : (ℕ → SState → Reached SState) → Type 0
  InnerWell inner = (i : ℕ) (s : SState) → Well P (inner i s)

  entering : (inner : ℕ → SState → Reached SState) (o : Option ℕ) (s : SState) → InnerWell inner → Well P (entered inner o s)
  entering inner None s n = tt
  entering inner (Some i) s n = n i s

  ending : (bs : List Branch) (s : SState) (file line : ℕ) → Well P (ended bs s (fault_at code.Directive file line))
  ending [] s file line = tt
  ending (b ∷ bs) s file line = halts P s.gate (fault_at code.Directive file line) tt

  walks : (levels : ℕ) (inner : ℕ → SState → Reached SState) (file line left : ℕ) (bs : SBranches) (s : SState) (ts : List Placed) → InnerWell inner → Well P (walked levels files inner (fault_at code.Directive file line) left bs s ts)
  unfolding walked
  walks levels inner file line left bs s [] n = ending bs.stack s file line
  walks levels inner file line (suc left) bs s (t ∷ ts) n = walks levels inner file line left bs s ts n
  walks levels inner file line zero bs s (t ∷ ts) n =
      then_well P (step levels files bs s t ts) (λ p. and_then (entered inner p.enter p.state) (λ n. walked levels files inner (fault_at code.Directive file line) p.more p.branches n ts)) (steps levels bs s t ts)
      (λ p. then_well P (entered inner p.enter p.state) (λ n. walked levels files inner (fault_at code.Directive file line) p.more p.branches n ts) (entering inner p.enter p.state n) (λ x. walks levels inner file line p.more p.branches x ts n))

  lexes : (levels : ℕ) (inner : ℕ → SState → Reached SState) (file line : ℕ) (s : SState) (l : Lexed) (flaw : Option Fault) → InnerWell inner → Well P (walked_lexed levels files inner (fault_at code.Directive file line) s l flaw)
  lexes levels inner file line s l None n = walks levels inner file line 0 no_branches s l.tokens n
  lexes levels inner file line s l (Some f) n = halts P s.gate (h.Stop (stop.Fault f)) tt

  byte_walks : (levels : ℕ) (inner : ℕ → SState → Reached SState) (i : ℕ) (bytes : Text) (s : SState) → InnerWell inner → Well P (walked_bytes levels files inner i bytes s)
  unfolding walked_bytes
  byte_walks levels inner i bytes s n = lexes levels inner i (last_line bytes) s (file_tokens i bytes) (file_tokens i bytes).flaw n

  file_walks : (levels : ℕ) → InnerWell (walked_file levels files)
  unfolding walked_file
  file_walks zero i s = byte_walks 0 (λ j n. Ok n) i (bytes_of i files) s (λ j n. tt)
  file_walks (suc levels) i s = byte_walks (suc levels) (walked_file levels files) i (bytes_of i files) s (file_walks levels)

  source_walks : (left i : ℕ) (s : SState) → Well P (walked_sources left files i s)
  unfolding walked_sources
  source_walks zero i s = tt
  source_walks (suc left) i s = then_well P (walked_file 15 files i s) (walked_sources left files (i + 1)) (file_walks 15 i s) (λ n. source_walks left (i + 1) n)

  finishes : (s : SState) → Well P (finished s)
  finishes s = then_well P (flushed s.gate) (λ g. Ok g.kept) (flushes P s.gate) (λ g. tt)

  whole_walk : (named : ℕ) (defines : List Text) → Well P (walk_all files named defines)
  unfolding walk_all
  whole_walk named defines = then_well P (walked_sources named files 0 (predefined defines (start (named_sources files named)))) finished (source_walks named 0 (predefined defines (start (named_sources files named)))) finishes

  keeps : (named : ℕ) (defines : List Text) → Well P (kept files named defines)
  unfolding kept
  keeps named defines = either P (nat_lt most_files named) (Err (h.Stop (stop.Limit code.Files))) (walk_all files named defines) tt (whole_walk named defines)

pub asks_for_absent : (files : List File) (named : ℕ) (defines : List Text) (name : Text) → kept files named defines ≡ Err (h.Need name) → IsAbsent name files
asks_for_absent files named defines name e =
    subst (λ z. Well (λ q. IsAbsent q files) z) e (keeps (λ q. IsAbsent q files) files (λ q f n. record { is_name = f; nowhere = none_found 0 q files n }) named defines)
