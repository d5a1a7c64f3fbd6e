-- What holds of each token of each file holds of the tokens that are kept.
use Rattle.std.proofs.Common.{◌≡◌, ℕ, zero, suc, ◌+◌, ◌==◌, nat_le, nat_lt, Bool, true, false, if◌then◌else◌, Option, Some, None, Ok, Err, List, [], ◌∷◌, ◌++◌, length, take, refl, sym, subst}
use Rattle.std.specs.Prelude.{codes, not, ◌&&◌}
use Rattle.std.specs.Str.{bytes_eq}
use Rattle.std.specs.List.{list_any}
use Rattle.bits_core.specs.declared.names.File.{File}
use Rattle.vl_tree.specs.declared.words.Word.TheVariants as w
use Rattle.vl_tree.specs.Words.{word, same_word}
use Rattle.vl_tree.specs.declared.faults.Code.{Code}
use Rattle.vl_tree.specs.declared.faults.Code.TheVariants as code
use Rattle.vl_tree.specs.declared.faults.Fault.{Fault}
use Rattle.vl_tree.specs.declared.faults.Stop.TheVariants as stop
use Rattle.vl_lex.specs.declared.gate.Mode.{Mode}
use Rattle.vl_lex.specs.declared.gate.Mode.TheVariants as m
use Rattle.vl_lex.specs.declared.gate.Halt.{Halt}
use Rattle.vl_lex.specs.declared.gate.Halt.TheVariants as h
use Rattle.vl_lex.specs.declared.directives.Directive.{Directive}
use Rattle.vl_lex.specs.declared.directives.Directive.TheVariants as d
use Rattle.vl_lex.specs.declared.branches.Branch.{Branch}
use Rattle.vl_lex.specs.Bytes.{Text}
use Rattle.vl_lex.specs.Lexed.{Seen, Placed, Lexed, file_tokens}
use Rattle.vl_lex.specs.Gate.{SGate, Reached, and_then, fault_at, halt_reason, flaw_of, most_tokens, kept_if, kept_one, kept_all, nothing_waits, flushed, waits, fed_plain, inside, fed, halted}
use Rattle.vl_lex.specs.Macros.{Table, updated, directive_of, directive_name, is_directive, body_of, expansion_fault, marked, fold_tokens, called, body_token, expanded}
use Rattle.vl_lex.specs.Walk.{SState, with_gate, with_implicit, with_listed, most_files, refused, acted, is_name_kind, opens_bracket, bare, row_len, name_after, defined_with, define_turn, undef_with, undef_turn, nettype_with, nettype_turn, macro_turn, inner_text, is_quoted, is_file_name, Branched, branch_turn, step_branch, passed, fed_state, SBranches, no_branches, Acted, Step, bytes_of, last_line, find_file, enter_at, list_turn, include_turn, act, is_branch_word, directive_step, step, entered, ended, walked, walked_lexed, walked_bytes, walked_file, walked_sources, named_sources, predefined, start, finished, walk_all, kept}
use Rattle.vl_lex.specs.Places.{IsSliceOf, Each, AreSlices, AreSlicesOf, tokens_of}
use Rattle.vl_lex.proofs.Expands.{in_table}
use Rattle.vl_lex.proofs.Places.{file_slices}
use Rattle.vl_lex.proofs.Outcomes.{Holds, then_holds, either}

each_append : (P : Seen → Type 0) (xs ys : List Seen) → Each P xs → Each P ys → Each P (xs ++ ys)
each_append P [] ys g k = k
each_append P (x ∷ xs) ys g k = (g.0, each_append P xs ys g.1 k)

abbrev pub GateHolds : (Seen → Type 0) → SGate → Type 0
GateHolds P g = Each P g.kept × Each P g.waiting

abbrev pub TableHolds : (Seen → Type 0) → Table → Type 0
TableHolds P table = (q : Text) (body : List Seen) → table q ≡ Some body → Each P body

abbrev pub StateHolds : (Seen → Type 0) → SState → Type 0
StateHolds P s = GateHolds P s.gate × TableHolds P s.table

abbrev pub Tokens : (Seen → Type 0) → List Placed → Type 0
Tokens P ts = Each P (tokens_of ts)

-- a property that does not depend on whether undeclared names may be nets
module _ (P : Seen → Type 0) (stable : (b : Bool) (t : Seen) → P t → P (marked b t)) where
  keeps_if : (c : Option Code) (g : SGate) (t : Seen) → GateHolds P g → P t → Holds (GateHolds P) (kept_if c g t)
  keeps_if (Some c) g t k p = tt
  keeps_if None g t k p =
      either (GateHolds P) (nat_le most_tokens (length g.kept)) (Err (h.Stop (stop.Limit code.Tokens))) (Ok (record { kept = g.kept ++ t ∷ []; waiting = g.waiting; mode = g.mode }))
      tt (each_append P g.kept (t ∷ []) k.0 (p, tt), k.1)

  keeps_one : (g : SGate) (t : Seen) → GateHolds P g → P t → Holds (GateHolds P) (kept_one g t)
  unfolding kept_one
  keeps_one g t k p = keeps_if (flaw_of t) g t k p

  keeps_all : (ts : List Seen) (g : SGate) → Each P ts → GateHolds P g → Holds (GateHolds P) (kept_all ts g)
  keeps_all [] g e k = k
  keeps_all (t ∷ ts) g e k = then_holds (GateHolds P) (GateHolds P) (kept_one g t) (kept_all ts) (keeps_one g t k e.0) (λ n q. keeps_all ts n e.1 q)

  flushes : (g : SGate) → GateHolds P g → Holds (GateHolds P) (flushed g)
  unfolding flushed
  flushes g k = keeps_all g.waiting (nothing_waits g) k.1 (k.0, tt)

  waits_on : (g : SGate) (t : Seen) (mode : Mode) → GateHolds P g → P t → GateHolds P (waits g t mode)
  waits_on g t mode k p = (k.0, each_append P g.waiting (t ∷ []) k.1 (p, tt))

  feeds_plain : (g : SGate) (t : Seen) → GateHolds P g → P t → Holds (GateHolds P) (fed_plain g t)
  unfolding fed_plain
  feeds_plain g t k p = either (GateHolds P) (same_word (word t.kind t.text) w.LeftParen) (Ok (waits g t m.Open)) (kept_one g t) (waits_on g t m.Open k p) (keeps_one g t k p)

  feeds : (g : SGate) (t : Seen) (mode : Mode) → GateHolds P g → P t → Holds (GateHolds P) (fed g t mode)
  unfolding fed
  feeds g t m.Plain k p = feeds_plain g t k p
  feeds g t m.Open k p =
      either (GateHolds P) (same_word (word t.kind t.text) w.Star) (Ok (waits g t m.Starred)) (and_then (flushed g) (λ n. fed_plain n t)) (waits_on g t m.Starred k p)
      (then_holds (GateHolds P) (GateHolds P) (flushed g) (λ n. fed_plain n t) (flushes g k) (λ n q. feeds_plain n t q p))
  feeds g t m.Starred k p =
      either (GateHolds P) (same_word (word t.kind t.text) w.RightParen) (and_then (flushed g) (λ n. kept_one n t)) (Ok (waits g t (inside (word t.kind t.text))))
      (then_holds (GateHolds P) (GateHolds P) (flushed g) (λ n. kept_one n t) (flushes g k) (λ n q. keeps_one n t q p)) (waits_on g t (inside (word t.kind t.text)) k p)
  feeds g t m.Inside k p = waits_on g t (inside (word t.kind t.text)) k p
  feeds g t m.Closing k p =
      either (GateHolds P) (same_word (word t.kind t.text) w.RightParen) (Ok (nothing_waits g)) (Ok (waits g t (inside (word t.kind t.text)))) (k.0, tt) (waits_on g t (inside (word t.kind t.text)) k p)

  -- macros

  updates : (table : Table) (name : Text) (o : Option (List Seen)) → TableHolds P table → ((body : List Seen) → o ≡ Some body → Each P body) → TableHolds P (updated table name o)
  updates table name o k b q body e = go (bytes_eq name q) e
    where
      go : (t : Bool) → (if t then o else table q) ≡ Some body → Each P body
      go true r = b body r
      go false r = k q body r

  folds : (f : Seen → SGate → Reached SGate) (ts : List Seen) (g : SGate) → ((t : Seen) (n : SGate) → P t → GateHolds P n → Holds (GateHolds P) (f t n)) → Each P ts → GateHolds P g → Holds (GateHolds P) (fold_tokens f ts g)
  folds f [] g k e q = q
  folds f (t ∷ ts) g k e q = then_holds (GateHolds P) (GateHolds P) (f t g) (fold_tokens f ts) (k t g e.0 q) (λ n r. folds f ts n k e.1 r)

  calls : (inner : Table → List Seen → SGate → Reached SGate) (table : Table) (o : Option (List Seen)) (t : Seen) (g : SGate)
      → ((below : Table) (body : List Seen) → TableHolds P below → Each P body → Holds (GateHolds P) (inner below body g)) → TableHolds P table → ((body : List Seen) → o ≡ Some body → Each P body) → Holds (GateHolds P) (called inner table o t g)
  calls inner table None t g k q b = tt
  calls inner table (Some body) t g k q b = k (updated table (directive_name t) None) body (updates table (directive_name t) None q (λ body r. absurd (cc))) (b body refl)

  bodies : (depth : ℕ) (table : Table) (implicit : Bool) (t : Seen) (g : SGate) → TableHolds P table → P t → GateHolds P g → Holds (GateHolds P) (body_token depth table implicit t g)
  unfolding body_token
  bodies zero table implicit t g q p k =
      either (GateHolds P) (is_directive t.kind) (halted g (expansion_fault t)) (fed g (marked implicit t) g.mode) tt (feeds g (marked implicit t) g.mode k (stable implicit t p))
  bodies (suc depth) table implicit t g q p k =
      either (GateHolds P) (is_directive t.kind) (called (λ inner body n. fold_tokens (body_token depth inner implicit) body n) table (body_of table t) t g) (fed g (marked implicit t) g.mode)
      (calls (λ inner body n. fold_tokens (body_token depth inner implicit) body n) table (body_of table t) t g
      (λ below body r e. folds (body_token depth below implicit) body g (λ u n pu l. bodies depth below implicit u n r pu l) e k) q (λ body e. q (directive_name t) body (in_table table t body e)))
      (feeds g (marked implicit t) g.mode k (stable implicit t p))

  expands : (depth : ℕ) (table : Table) (implicit : Bool) (body : List Seen) (g : SGate) → TableHolds P table → Each P body → GateHolds P g → Holds (GateHolds P) (expanded depth table implicit body g)
  unfolding expanded
  expands depth table implicit body g q e k = folds (body_token depth table implicit) body g (λ u n p l. bodies depth table implicit u n q p l) e k

  -- directives

  rows : (n : ℕ) (ts : List Placed) → Tokens P ts → Each P (bare (take n ts))
  rows zero ts e = tt
  rows (suc n) [] e = tt
  rows (suc n) (t ∷ ts) e = (e.0, rows n ts e.1)

  abbrev pub ActHolds : Acted → Type 0
  ActHolds a = StateHolds P a.state

  defines : (s : SState) (t : Placed) (ts : List Placed) → StateHolds P s → Tokens P ts → Holds ActHolds (define_turn s t ts)
  unfolding define_turn
  defines s t [] k e = tt
  defines s t (n ∷ ns) k e =
      either ActHolds (n.row == t.row && is_name_kind n.token.kind && not (opens_bracket n ns)) (Ok (acted (defined_with s n.token.text (bare (take (row_len t.row ns) ns))) (1 + row_len t.row ns))) (refused s code.Directive t)
      (k.0, updates s.table n.token.text (Some (bare (take (row_len t.row ns) ns))) k.1 (λ body r. let same : bare (take (row_len t.row ns) ns) ≡ body = cc in subst (Each P) same (rows (row_len t.row ns) ns e.1))) tt

  undefines : (s : SState) (t : Placed) (o : Option Text) → StateHolds P s → Holds ActHolds (undef_with s t o)
  undefines s t None k = tt
  undefines s t (Some name) k = (k.0, updates s.table name None k.1 (λ body r. absurd (cc)))

  nettypes : (s : SState) (t : Placed) (o : Option Text) → StateHolds P s → Holds ActHolds (nettype_with s t o)
  nettypes s t None k = tt
  nettypes s t (Some name) k =
      either ActHolds (bytes_eq name (codes "none")) (Ok (acted (with_implicit s false) 1)) (if bytes_eq name (codes "wire") then Ok (acted (with_implicit s true) 1) else refused s code.Directive t)
      k (either ActHolds (bytes_eq name (codes "wire")) (Ok (acted (with_implicit s true) 1)) (refused s code.Directive t) k tt)

  uses : (s : SState) (t : Placed) → StateHolds P s → P t.token → Holds ActHolds (macro_turn s t)
  unfolding macro_turn
  uses s t k p =
      then_holds (GateHolds P) ActHolds (expanded s.defined s.table s.implicit (t.token ∷ []) s.gate) (λ g. Ok (acted (with_gate s g) 0))
      (expands s.defined s.table s.implicit (t.token ∷ []) s.gate k.1 (p, tt) k.0) (λ g q. (q, k.1))

  enters : (o : Option ℕ) (s : SState) (name : Text) → StateHolds P s → Holds ActHolds (enter_at o s name)
  enters None s name k = tt
  enters (Some i) s name k = k

  lists : (files : List File) (s : SState) (name : Text) → StateHolds P s → Holds ActHolds (list_turn files s name)
  unfolding list_turn
  lists files s name k =
      either ActHolds (list_any (λ n. bytes_eq n name) s.listed) (enter_at (find_file 0 name files) s name)
      (if nat_le most_files (length s.listed) then Err (halt_reason s.gate (h.Stop (stop.Limit code.Files))) else enter_at (find_file 0 name files) (with_listed s (s.listed ++ name ∷ [])) name)
      (enters (find_file 0 name files) s name k)
      (either ActHolds (nat_le most_files (length s.listed)) (Err (halt_reason s.gate (h.Stop (stop.Limit code.Files)))) (enter_at (find_file 0 name files) (with_listed s (s.listed ++ name ∷ [])) name)
      tt (enters (find_file 0 name files) (with_listed s (s.listed ++ name ∷ [])) name k))

  includes : (levels : ℕ) (files : List File) (s : SState) (t : Placed) (ts : List Placed) → StateHolds P s → Holds ActHolds (include_turn levels files s t ts)
  unfolding include_turn
  includes levels files s t [] k = tt
  includes levels files s t (n ∷ ns) k =
      either ActHolds (n.row == t.row && is_quoted n.token.kind && is_file_name (inner_text n.token.text)) (if levels == 0 then refused s code.IncludeDepth t else list_turn files s (inner_text n.token.text)) (refused s code.Directive t)
      (either ActHolds (levels == 0) (refused s code.IncludeDepth t) (list_turn files s (inner_text n.token.text)) tt (lists files s (inner_text n.token.text) k)) tt

  acts : (levels : ℕ) (files : List File) (k : Directive) (s : SState) (t : Placed) (ts : List Placed) → StateHolds P s → P t.token → Tokens P ts → Holds ActHolds (act levels files k s t ts)
  unfolding act undef_turn nettype_turn
  acts levels files d.Define s t ts k p e = defines s t ts k e
  acts levels files d.Undef s t ts k p e = undefines s t (name_after t.row ts) k
  acts levels files d.Include s t ts k p e = includes levels files s t ts k
  acts levels files d.DefaultNettype s t ts k p e = nettypes s t (name_after t.row ts) k
  acts levels files d.ResetAll s t ts k p e = k
  acts levels files d.DropsLine s t ts k p e = k
  acts levels files d.UnconnectedDrive s t ts k p e = tt
  acts levels files d.Macro s t ts k p e = uses s t k p
  acts levels files _ s t ts k p e = k

  -- the walk

  abbrev pub StepHolds : Step → Type 0
  StepHolds a = StateHolds P a.state

  branches : (bs : SBranches) (s : SState) (t : Placed) (o : Option Branched) → StateHolds P s → Holds StepHolds (step_branch bs s t o)
  branches bs s t None k = tt
  branches bs s t (Some b) k = k

  directed : (levels : ℕ) (files : List File) (dir : Directive) (bs : SBranches) (s : SState) (t : Placed) (ts : List Placed) → StateHolds P s → P t.token → Tokens P ts → Holds StepHolds (directive_step levels files dir bs s t ts)
  unfolding directive_step
  directed levels files dir bs s t ts k p e =
      either StepHolds (is_branch_word dir) (step_branch bs s t (branch_turn dir bs s.table t.row ts)) (if bs.active then and_then (act levels files dir s t ts) (λ a. Ok (record { branches = bs; state = a.state; more = a.more; enter = a.enter })) else passed bs s)
      (branches bs s t (branch_turn dir bs s.table t.row ts) k)
      (either StepHolds bs.active (and_then (act levels files dir s t ts) (λ a. Ok (record { branches = bs; state = a.state; more = a.more; enter = a.enter }))) (passed bs s)
      (then_holds ActHolds StepHolds (act levels files dir s t ts) (λ a. Ok (record { branches = bs; state = a.state; more = a.more; enter = a.enter })) (acts levels files dir s t ts k p e) (λ a q. q)) k)

  feeds_state : (s : SState) (t : Placed) → StateHolds P s → P t.token → Holds (StateHolds P) (fed_state s t)
  unfolding fed_state
  feeds_state s t k p =
      then_holds (GateHolds P) (StateHolds P) (fed s.gate (marked s.implicit t.token) s.gate.mode) (λ g. Ok (with_gate s g)) (feeds s.gate (marked s.implicit t.token) s.gate.mode k.0 (stable s.implicit t.token p)) (λ g q. (q, k.1))

  steps : (levels : ℕ) (files : List File) (bs : SBranches) (s : SState) (t : Placed) (ts : List Placed) → StateHolds P s → P t.token → Tokens P ts → Holds StepHolds (step levels files bs s t ts)
  unfolding step
  steps levels files bs s t ts k p e =
      either StepHolds (is_directive t.token.kind) (directive_step levels files (directive_of (directive_name t.token)) bs s t ts) (if bs.active then and_then (fed_state s t) (λ n. passed bs n) else passed bs s)
      (directed levels files (directive_of (directive_name t.token)) bs s t ts k p e)
      (either StepHolds bs.active (and_then (fed_state s t) (λ n. passed bs n)) (passed bs s)
      (then_holds (StateHolds P) StepHolds (fed_state s t) (λ n. passed bs n) (feeds_state s t k p) (λ n q. q)) k)

  abbrev pub InnerHolds : (ℕ → SState → Reached SState) → Type 0
  InnerHolds inner = (i : ℕ) (s : SState) → StateHolds P s → Holds (StateHolds P) (inner i s)

  entering : (inner : ℕ → SState → Reached SState) (o : Option ℕ) (s : SState) → InnerHolds inner → StateHolds P s → Holds (StateHolds P) (entered inner o s)
  entering inner None s n k = k
  entering inner (Some i) s n k = n i s k

  ending : (bs : List Branch) (s : SState) (end : Halt) → StateHolds P s → Holds (StateHolds P) (ended bs s end)
  ending [] s end k = k
  ending (b ∷ bs) s end k = tt

  walks : (levels : ℕ) (files : List File) (inner : ℕ → SState → Reached SState) (end : Halt) (left : ℕ) (bs : SBranches) (s : SState) (ts : List Placed) → InnerHolds inner → StateHolds P s → Tokens P ts
      → Holds (StateHolds P) (walked levels files inner end left bs s ts)
  unfolding walked
  walks levels files inner end left bs s [] n k e = ending bs.stack s end k
  walks levels files inner end (suc left) bs s (t ∷ ts) n k e = walks levels files inner end left bs s ts n k e.1
  walks levels files inner end zero bs s (t ∷ ts) n k e =
      then_holds StepHolds (StateHolds P) (step levels files bs s t ts) (λ p. and_then (entered inner p.enter p.state) (λ n. walked levels files inner end p.more p.branches n ts)) (steps levels files bs s t ts k e.0 e.1)
      (λ p q. then_holds (StateHolds P) (StateHolds P) (entered inner p.enter p.state) (λ n. walked levels files inner end p.more p.branches n ts) (entering inner p.enter p.state n q)
      (λ x r. walks levels files inner end p.more p.branches x ts n r e.1))

  abbrev pub FilesHold : List File → Type 0
  FilesHold files = (i : ℕ) → Tokens P (file_tokens i (bytes_of i files)).tokens

  lexes : (levels : ℕ) (files : List File) (inner : ℕ → SState → Reached SState) (end : Halt) (s : SState) (l : Lexed) (flaw : Option Fault) → InnerHolds inner → StateHolds P s → Tokens P l.tokens
      → Holds (StateHolds P) (walked_lexed levels files inner end s l flaw)
  lexes levels files inner end s l None n k e = walks levels files inner end 0 no_branches s l.tokens n k e
  lexes levels files inner end s l (Some f) n k e = tt

  byte_walks : (levels : ℕ) (files : List File) (inner : ℕ → SState → Reached SState) (i : ℕ) (bytes : Text) (s : SState) → InnerHolds inner → StateHolds P s → Tokens P (file_tokens i bytes).tokens
      → Holds (StateHolds P) (walked_bytes levels files inner i bytes s)
  unfolding walked_bytes
  byte_walks levels files inner i bytes s n k e = lexes levels files inner (fault_at code.Directive i (last_line bytes)) s (file_tokens i bytes) (file_tokens i bytes).flaw n k e

  file_walks : (levels : ℕ) (files : List File) → FilesHold files → InnerHolds (walked_file levels files)
  unfolding walked_file
  file_walks zero files f i s k = byte_walks 0 files (λ j n. Ok n) i (bytes_of i files) s (λ j n q. q) k (f i)
  file_walks (suc levels) files f i s k = byte_walks (suc levels) files (walked_file levels files) i (bytes_of i files) s (file_walks levels files f) k (f i)

  source_walks : (left : ℕ) (files : List File) (i : ℕ) (s : SState) → FilesHold files → StateHolds P s → Holds (StateHolds P) (walked_sources left files i s)
  unfolding walked_sources
  source_walks zero files i s f k = k
  source_walks (suc left) files i s f k =
      then_holds (StateHolds P) (StateHolds P) (walked_file 15 files i s) (walked_sources left files (i + 1)) (file_walks 15 files f i s k) (λ n q. source_walks left files (i + 1) n f q)

  begins_so : (names : List Text) (s : SState) → StateHolds P s → StateHolds P (predefined names s)
  begins_so [] s k = k
  begins_so (n ∷ ns) s k = begins_so ns (defined_with s n []) (k.0, updates s.table n (Some []) k.1 (λ body r. let same : [] ≡ body = cc in subst (Each P) same tt))

  finishes : (s : SState) → StateHolds P s → Holds (Each P) (finished s)
  finishes s k = then_holds (GateHolds P) (Each P) (flushed s.gate) (λ g. Ok g.kept) (flushes s.gate k.0) (λ g q. q.0)

  whole_walk : (files : List File) (named : ℕ) (defines : List Text) → FilesHold files → Holds (Each P) (walk_all files named defines)
  unfolding walk_all
  whole_walk files named defines f =
      let begin = predefined defines (start (named_sources files named)) in
      then_holds (StateHolds P) (Each P) (walked_sources named files 0 begin) finished
      (source_walks named files 0 begin f (begins_so defines (start (named_sources files named)) ((tt, tt), λ q body r. absurd (cc)))) finishes

  keeps : (files : List File) (named : ℕ) (defines : List Text) → FilesHold files → Holds (Each P) (kept files named defines)
  unfolding kept
  keeps files named defines f =
      either (Each P) (nat_lt most_files named) (Err (h.Stop (stop.Limit code.Files))) (walk_all files named defines) tt (whole_walk files named defines f)

-- the slices of files

abbrev pub InItsFile : List File → Seen → Type 0
InItsFile files t = IsSliceOf (bytes_of t.span.file files) t

stays : (files : List File) (b : Bool) (t : Seen) → InItsFile files t → InItsFile files (marked b t)
stays files b t k = record { there = k.there; within = k.within; text = k.text; line = k.line }

named_right : (files : List File) (i : ℕ) (ts : List Seen) → AreSlices i (bytes_of i files) ts → Each (InItsFile files) ts
named_right files i [] k = tt
named_right files i (t ∷ ts) k = (subst (λ z. IsSliceOf (bytes_of z files) t) (sym k.0.0) k.0.1, named_right files i ts k.1)

file_holds : (files : List File) (i : ℕ) → Tokens (InItsFile files) (file_tokens i (bytes_of i files)).tokens
file_holds files i = named_right files i (tokens_of (file_tokens i (bytes_of i files)).tokens) (file_slices i (bytes_of i files))

pub kept_slices : (files : List File) (named : ℕ) (defines : List Text) (tokens : List Seen) → kept files named defines ≡ Ok tokens → AreSlicesOf files tokens
kept_slices files named defines tokens e = subst (λ z. Holds (Each (InItsFile files)) z) e (keeps (InItsFile files) (stays files) files named defines (file_holds files))
