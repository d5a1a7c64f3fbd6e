-- Why a walk ends: a fault or a limit, or a file whose name is a text.
use Rattle.std.proofs.Common.{rules, ◌≡◌, ◌+◌, ◌++◌, ℕ, zero, suc, Bool, true, false, ◌&&◌, not, List, [], ◌∷◌, Option, Some, None, Ok, Err, refl, subst, if◌then◌else◌}
use Rattle.std.specs.Prelude.{⊤, ◌==◌, nat_le, nat_lt, length, codes}
use Rattle.std.specs.List.{list_any}
use Rattle.std.specs.Str.{bytes_eq, IsUtf8, is_utf8}
use Rattle.std.specs.Prelude.{Result, MatchResult, IsOk}
use Rattle.std.proofs.lemmas.Str.{IsUtf8-from_is_utf8}
use denote.Ref.{Bor}
use Rattle.bits_core.specs.declared.names.File.{File}
use Rattle.vl_tree.specs.declared.faults.Code.{Code}
use Rattle.vl_tree.specs.declared.faults.Code.TheVariants as code
use Rattle.vl_tree.specs.declared.faults.Fault.{Fault}
use Rattle.vl_tree.specs.declared.faults.Stop.TheVariants as stop
use Rattle.vl_lex.specs.declared.gate.Halt.{Halt}
use Rattle.vl_lex.specs.declared.gate.Halt.TheVariants as halt
use Rattle.vl_lex.specs.declared.gate.Mode.{Mode}
use Rattle.vl_lex.specs.declared.gate.Mode.TheVariants as mode
use Rattle.vl_lex.specs.declared.branches.Branch.{Branch}
use Rattle.vl_lex.specs.declared.directives.Directive.{Directive}
use Rattle.vl_lex.specs.declared.directives.Directive.TheVariants as d
use Rattle.vl_tree.specs.declared.words.Word.TheVariants as w
use Rattle.vl_tree.specs.Words.{word, same_word}
use Rattle.vl_lex.specs.Bytes.{Text}
use Rattle.vl_lex.specs.Lexed.{Lexed, Placed, Seen, file_tokens}
use Rattle.vl_lex.specs.Gate.{Reached, SGate, and_then, fault_at, fed, fed_plain, flaw_of, flushed, halt_reason, halted, kept_all, kept_if, kept_one, most_tokens, nothing_waits, reason_of}
use Rattle.vl_lex.specs.Macros.{Table, body_of, body_token, called, expanded, expansion_fault, fold_tokens, is_directive, marked}
use Rattle.vl_lex.specs.Walk.{Branched, SBranches, SState, act, bytes_of, define_turn, directive_step, ended, enter_at, entered, fed_state, find_file, finished, include_turn, inner_text, is_branch_word, is_file_name, is_name_kind, is_quoted, opens_bracket, kept, list_turn, macro_turn, most_files, name_after, nettype_turn, nettype_with, no_branches, passed, predefined, refused, start, named_sources, step, step_branch, undef_turn, undef_with, walk_all, walked, walked_bytes, walked_file, walked_lexed, walked_sources, with_gate, with_listed}

-- a fault or a limit
abbrev pub IsStop : Halt → Type 0
IsStop (halt.Stop (stop.Fault f)) = ⊤
IsStop (halt.Stop (stop.Limit c)) = ⊤
IsStop (halt.Stop stop.NoMemory) = ⊥
IsStop (halt.Need n) = ⊥

-- a fault, a limit, or a name that is a text
abbrev pub IsGood : Halt → Type 0
IsGood (halt.Stop (stop.Fault f)) = ⊤
IsGood (halt.Stop (stop.Limit c)) = ⊤
IsGood (halt.Stop stop.NoMemory) = ⊥
IsGood (halt.Need n) = is_utf8 n ≡ true

abbrev pub Quiet : {S : Type 0} → Reached S → Type 0
Quiet (Ok s) = ⊤
Quiet (Err e) = IsStop e

abbrev pub Asks : {S : Type 0} → Reached S → Type 0
Asks (Ok s) = ⊤
Asks (Err e) = IsGood e

pub record IsQuiet {S : Type 0} (r : Reached S) : Type 0 where
  pub is : Quiet r

pub record IsAsking {S : Type 0} (r : Reached S) : Type 0 where
  pub is : Asks r

good : (e : Halt) → IsStop e → IsGood e
good (halt.Stop (stop.Fault f)) h = tt
good (halt.Stop (stop.Limit c)) h = tt
good (halt.Stop stop.NoMemory) h = absurd h
good (halt.Need n) h = absurd h

asks : {S : Type 0} (r : Reached S) → IsQuiet r → IsAsking r
asks (Ok s) h = record { is = tt }
asks (Err e) h = record { is = good e h.is }

quiet_then : {A B : Type 0} (r : Reached A) (f : A → Reached B) → IsQuiet r → ((a : A) → IsQuiet (f a)) → IsQuiet (and_then r f)
quiet_then (Ok a) f h k = k a
quiet_then (Err e) f h k = record { is = h.is }

asks_then : {A B : Type 0} (r : Reached A) (f : A → Reached B) → IsAsking r → ((a : A) → IsAsking (f a)) → IsAsking (and_then r f)
asks_then (Ok a) f h k = k a
asks_then (Err e) f h k = record { is = h.is }

quiet_if : {S : Type 0} (b : Bool) (x y : Reached S) → IsQuiet x → IsQuiet y → IsQuiet (if b then x else y)
quiet_if true x y p q = p
quiet_if false x y p q = q

asks_if : {S : Type 0} (b : Bool) (x y : Reached S) → (b ≡ true → IsAsking x) → IsAsking y → IsAsking (if b then x else y)
asks_if true x y p q = p refl
asks_if false x y p q = q

q_kept_if : (o : Option Code) (g : SGate) (t : Seen) → IsQuiet (kept_if o g t)
q_kept_if (Some c) g t = record { is = tt }
q_kept_if None g t = quiet_if (nat_le most_tokens (length g.kept)) _ _ (record { is = tt }) (record { is = tt })

q_kept_one : (g : SGate) (t : Seen) → IsQuiet (kept_one g t)
unfolding kept_one
q_kept_one g t = q_kept_if (flaw_of t) g t

q_kept_all : (ts : List Seen) (g : SGate) → IsQuiet (kept_all ts g)
q_kept_all [] g = record { is = tt }
q_kept_all (t ∷ ts) g = quiet_then (kept_one g t) (kept_all ts) (q_kept_one g t) (q_kept_all ts)

q_flushed : (g : SGate) → IsQuiet (flushed g)
unfolding flushed
q_flushed g = q_kept_all g.waiting (nothing_waits g)

q_fed_plain : (g : SGate) (t : Seen) → IsQuiet (fed_plain g t)
unfolding fed_plain
q_fed_plain g t = quiet_if (same_word (word t.kind t.text) w.LeftParen) _ _ (record { is = tt }) (q_kept_one g t)

q_fed : (g : SGate) (t : Seen) (m : Mode) → IsQuiet (fed g t m)
unfolding fed
q_fed g t mode.Plain = q_fed_plain g t
q_fed g t mode.Open = quiet_if (same_word (word t.kind t.text) w.Star) _ _ (record { is = tt }) (quiet_then (flushed g) (λ n. fed_plain n t) (q_flushed g) (λ n. q_fed_plain n t))
q_fed g t mode.Starred = quiet_if (same_word (word t.kind t.text) w.RightParen) _ _ (quiet_then (flushed g) (λ n. kept_one n t) (q_flushed g) (λ n. q_kept_one n t)) (record { is = tt })
q_fed g t mode.Inside = record { is = tt }
q_fed g t mode.Closing = quiet_if (same_word (word t.kind t.text) w.RightParen) _ _ (record { is = tt }) (record { is = tt })

stop_of : (r : Reached SGate) (reason : Halt) → IsQuiet r → IsStop reason → IsStop (reason_of r reason)
stop_of (Ok n) reason q h = h
stop_of (Err e) reason q h = q.is

stops : (g : SGate) (reason : Halt) → IsStop reason → IsStop (halt_reason g reason)
unfolding halt_reason
stops g reason h = stop_of (flushed g) reason (q_flushed g) h

q_halted : (g : SGate) (t : Seen) → IsQuiet {S = SGate} (halted g (expansion_fault t))
unfolding expansion_fault
q_halted g t = record { is = stops g (expansion_fault t) tt }

q_fold : (f : Seen → SGate → Reached SGate) → ((t : Seen) (g : SGate) → IsQuiet (f t g)) → (ts : List Seen) (g : SGate) → IsQuiet (fold_tokens f ts g)
q_fold f h [] g = record { is = tt }
q_fold f h (t ∷ ts) g = quiet_then (f t g) (fold_tokens f ts) (h t g) (q_fold f h ts)

q_called : (inner : Table → List Seen → SGate → Reached SGate) → ((table : Table) (ts : List Seen) (g : SGate) → IsQuiet (inner table ts g))
    → (table : Table) (o : Option (List Seen)) (t : Seen) (g : SGate) → IsQuiet (called inner table o t g)
q_called inner h table None t g = q_halted g t
q_called inner h table (Some body) t g = h _ body g

q_body_token : (depth : ℕ) (table : Table) (implicit : Bool) (t : Seen) (g : SGate) → IsQuiet (body_token depth table implicit t g)
unfolding body_token
q_body_token zero table implicit t g = quiet_if (is_directive t.kind) _ _ (q_halted g t) (q_fed g (marked implicit t) g.mode)
q_body_token (suc depth) table implicit t g =
    quiet_if (is_directive t.kind) _ _ (q_called (λ inner body n. fold_tokens (body_token depth inner implicit) body n) (λ inner body n. q_fold (body_token depth inner implicit) (q_body_token depth inner implicit) body n) table (body_of table t) t g)
    (q_fed g (marked implicit t) g.mode)

q_expanded : (depth : ℕ) (table : Table) (implicit : Bool) (body : List Seen) (g : SGate) → IsQuiet (expanded depth table implicit body g)
unfolding expanded
q_expanded depth table implicit body g = q_fold (body_token depth table implicit) (q_body_token depth table implicit) body g

q_refused : (s : SState) (c : Code) (t : Placed) → IsQuiet (refused s c t)
q_refused s c t = record { is = stops s.gate (fault_at c t.token.span.file t.token.span.line) tt }

q_define : (s : SState) (t : Placed) (ts : List Placed) → IsQuiet (define_turn s t ts)
unfolding define_turn
q_define s t [] = q_refused s code.Directive t
q_define s t (n ∷ ns) = quiet_if (n.row == t.row && is_name_kind n.token.kind && not (opens_bracket n ns)) _ _ (record { is = tt }) (q_refused s code.Directive t)

q_undef_with : (s : SState) (t : Placed) (o : Option Text) → IsQuiet (undef_with s t o)
q_undef_with s t None = q_refused s code.Directive t
q_undef_with s t (Some name) = record { is = tt }

q_undef : (s : SState) (t : Placed) (ts : List Placed) → IsQuiet (undef_turn s t ts)
unfolding undef_turn
q_undef s t ts = q_undef_with s t (name_after t.row ts)

q_nettype_with : (s : SState) (t : Placed) (o : Option Text) → IsQuiet (nettype_with s t o)
q_nettype_with s t None = q_refused s code.Directive t
q_nettype_with s t (Some name) = quiet_if (bytes_eq name (codes "none")) _ _ (record { is = tt }) (quiet_if (bytes_eq name (codes "wire")) _ _ (record { is = tt }) (q_refused s code.Directive t))

q_nettype : (s : SState) (t : Placed) (ts : List Placed) → IsQuiet (nettype_turn s t ts)
unfolding nettype_turn
q_nettype s t ts = q_nettype_with s t (name_after t.row ts)

q_macro : (s : SState) (t : Placed) → IsQuiet (macro_turn s t)
unfolding macro_turn
q_macro s t = quiet_then (expanded s.defined s.table s.implicit (t.token ∷ []) s.gate) _ (q_expanded s.defined s.table s.implicit (t.token ∷ []) s.gate) (λ g. record { is = tt })

a_enter : (o : Option ℕ) (s : SState) (name : Text) → is_utf8 name ≡ true → IsAsking (enter_at o s name)
a_enter None s name h = record { is = h }
a_enter (Some i) s name h = record { is = tt }

a_list : (files : List File) (s : SState) (name : Text) → is_utf8 name ≡ true → IsAsking (list_turn files s name)
unfolding list_turn
a_list files s name h =
    asks_if (list_any (λ n. bytes_eq n name) s.listed) _ _ (λ e. a_enter (find_file 0 name files) s name h)
    (asks_if (nat_le most_files (length s.listed)) _ _ (λ e. record { is = good _ (stops s.gate (halt.Stop (stop.Limit code.Files)) tt) }) (a_enter (find_file 0 name files) (with_listed s (s.listed ++ name ∷ [])) name h))

last_of : (a b c d : Bool) → (a && b && (c && d)) ≡ true → d ≡ true
last_of true true true d e = e
last_of true true false d e = absurd cc
last_of true false c d e = absurd cc
last_of false b c d e = absurd cc

a_include : (levels : ℕ) (files : List File) (s : SState) (t : Placed) (ts : List Placed) → IsAsking (include_turn levels files s t ts)
unfolding include_turn
a_include levels files s t [] = asks _ (q_refused s code.Directive t)
a_include levels files s t (n ∷ ns) =
    asks_if (n.row == t.row && is_quoted n.token.kind && is_file_name (inner_text n.token.text)) _ _
    (λ e. asks_if (levels == 0) _ _ (λ z. asks _ (q_refused s code.IncludeDepth t))
    (a_list files s (inner_text n.token.text) (last_of (n.row == t.row) (is_quoted n.token.kind) (not (length (inner_text n.token.text) == 0)) (is_utf8 (inner_text n.token.text)) e)))
    (asks _ (q_refused s code.Directive t))

a_act : (levels : ℕ) (files : List File) (dir : Directive) (s : SState) (t : Placed) (ts : List Placed) → IsAsking (act levels files dir s t ts)
unfolding act
a_act levels files d.Define s t ts = asks _ (q_define s t ts)
a_act levels files d.Undef s t ts = asks _ (q_undef s t ts)
a_act levels files d.IfDef s t ts = record { is = tt }
a_act levels files d.IfNdef s t ts = record { is = tt }
a_act levels files d.ElsIf s t ts = record { is = tt }
a_act levels files d.Else s t ts = record { is = tt }
a_act levels files d.EndIf s t ts = record { is = tt }
a_act levels files d.Include s t ts = a_include levels files s t ts
a_act levels files d.DefaultNettype s t ts = asks _ (q_nettype s t ts)
a_act levels files d.ResetAll s t ts = record { is = tt }
a_act levels files d.DropsLine s t ts = record { is = tt }
a_act levels files d.Nothing s t ts = record { is = tt }
a_act levels files d.UnconnectedDrive s t ts = asks _ (q_refused s code.LeftOut t)
a_act levels files d.Macro s t ts = asks _ (q_macro s t)

a_branch : (bs : SBranches) (s : SState) (t : Placed) (o : Option Branched) → IsAsking (step_branch bs s t o)
a_branch bs s t None = record { is = good _ (stops s.gate (fault_at code.Directive t.token.span.file t.token.span.line) tt) }
a_branch bs s t (Some b) = record { is = tt }

a_directive : (levels : ℕ) (files : List File) (dir : Directive) (bs : SBranches) (s : SState) (t : Placed) (ts : List Placed) → IsAsking (directive_step levels files dir bs s t ts)
unfolding directive_step
a_directive levels files dir bs s t ts = asks_if (is_branch_word dir) _ _ (λ e. a_branch bs s t _) (asks_if bs.active _ _ (λ e. asks_then (act levels files dir s t ts) _ (a_act levels files dir s t ts) (λ a. record { is = tt })) (record { is = tt }))

a_fed : (s : SState) (t : Placed) → IsAsking (fed_state s t)
unfolding fed_state
a_fed s t = asks _ (quiet_then (fed s.gate (marked s.implicit t.token) s.gate.mode) (λ g. Ok (with_gate s g)) (q_fed s.gate (marked s.implicit t.token) s.gate.mode) (λ g. record { is = tt }))

a_step : (levels : ℕ) (files : List File) (bs : SBranches) (s : SState) (t : Placed) (ts : List Placed) → IsAsking (step levels files bs s t ts)
unfolding step
a_step levels files bs s t ts = asks_if (is_directive t.token.kind) _ _ (λ e. a_directive levels files _ bs s t ts) (asks_if bs.active _ _ (λ e. asks_then (fed_state s t) (λ n. passed bs n) (a_fed s t) (λ n. record { is = tt })) (record { is = tt }))

a_entered : (inner : ℕ → SState → Reached SState) → ((i : ℕ) (s : SState) → IsAsking (inner i s)) → (o : Option ℕ) (s : SState) → IsAsking (entered inner o s)
a_entered inner h None s = record { is = tt }
a_entered inner h (Some i) s = h i s

a_ended : (stack : List Branch) (s : SState) (reason : Halt) → IsStop reason → IsAsking (ended stack s reason)
a_ended [] s reason h = record { is = tt }
a_ended (b ∷ bs) s reason h = record { is = good _ (stops s.gate reason h) }

module _ (levels : ℕ) (files : List File) (inner : ℕ → SState → Reached SState) (all : (i : ℕ) (s : SState) → IsAsking (inner i s)) where
  a_walked : (reason : Halt) → IsStop reason → (left : ℕ) (bs : SBranches) (s : SState) (ts : List Placed) → IsAsking (walked levels files inner reason left bs s ts)
  unfolding walked
  a_walked reason h left bs s [] = a_ended bs.stack s reason h
  a_walked reason h (suc left) bs s (t ∷ ts) = a_walked reason h left bs s ts
  a_walked reason h zero bs s (t ∷ ts) =
      asks_then (step levels files bs s t ts) _ (a_step levels files bs s t ts) (λ p. asks_then (entered inner p.enter p.state) _ (a_entered inner all p.enter p.state) (λ n. a_walked reason h p.more p.branches n ts))

  a_lexed : (reason : Halt) → IsStop reason → (s : SState) (l : Lexed) (o : Option Fault) → IsAsking (walked_lexed levels files inner reason s l o)
  a_lexed reason h s l None = a_walked reason h 0 no_branches s l.tokens
  a_lexed reason h s l (Some f) = record { is = good _ (stops s.gate (halt.Stop (stop.Fault f)) tt) }

  a_bytes : (i : ℕ) (bytes : Text) (s : SState) → IsAsking (walked_bytes levels files inner i bytes s)
  unfolding walked_bytes
  a_bytes i bytes s = a_lexed _ tt s (file_tokens i bytes) (file_tokens i bytes).flaw

a_file : (levels : ℕ) (files : List File) (i : ℕ) (s : SState) → IsAsking (walked_file levels files i s)
unfolding walked_file
a_file zero files i s = a_bytes 0 files (λ j n. Ok n) (λ j n. record { is = tt }) i (bytes_of i files) s
a_file (suc levels) files i s = a_bytes (suc levels) files (walked_file levels files) (a_file levels files) i (bytes_of i files) s

a_sources : (left : ℕ) (files : List File) (i : ℕ) (s : SState) → IsAsking (walked_sources left files i s)
unfolding walked_sources
a_sources zero files i s = record { is = tt }
a_sources (suc left) files i s = asks_then (walked_file 15 files i s) (walked_sources left files (i + 1)) (a_file 15 files i s) (a_sources left files (i + 1))

a_finished : (s : SState) → IsAsking (finished s)
a_finished s = asks _ (quiet_then (flushed s.gate) _ (q_flushed s.gate) (λ g. record { is = tt }))

a_all : (files : List File) (named : ℕ) (defines : List Text) → IsAsking (walk_all files named defines)
unfolding walk_all
a_all files named defines =
    asks_then (walked_sources named files 0 (predefined defines (start (named_sources files named)))) finished (a_sources named files 0 (predefined defines (start (named_sources files named)))) a_finished

-- a walk ends with its tokens, a fault, a limit, or a file whose name is a text
pub kept_asks : (files : List File) (named : ℕ) (defines : List Text) → IsAsking (kept files named defines)
unfolding kept
kept_asks files named defines = asks_if (nat_lt most_files named) _ _ (λ e. record { is = tt }) (a_all files named defines)

-- a name that is asked for is a text
pub asked_is_text : (files : List File) (named : ℕ) (defines : List Text) (n : Text) → kept files named defines ≡ Err (halt.Need n) → is_utf8 n ≡ true
asked_is_text files named defines n e =
    let P : Reached (List Seen) → Type 0 = λ r. IsAsking r in
    (subst P e (kept_asks files named defines)).is

-- bytes that are a text are read as one
pub is_text_ok : {E : Type 0} (Q : E → Type 0) (bs : Text) (r : Result (Bor (List ℕ)) E) → MatchResult r (λ s. (s.now ≡ bs) × IsUtf8 bs) (λ e. (IsUtf8 bs → ⊥) × Q e) → is_utf8 bs ≡ true → IsOk r
is_text_ok Q bs (Ok s) m h = search rules
is_text_ok Q bs (Err e) m h = absurd (m.0 (IsUtf8-from_is_utf8 bs h))

pub text_is : {E : Type 0} (Q : E → Type 0) (bs : Text) (r : Result (Bor (List ℕ)) E) (s : Bor (List ℕ)) → MatchResult r (λ s. (s.now ≡ bs) × IsUtf8 bs) Q → r ≡ Ok s → s.now ≡ bs
text_is {E} Q bs r s m e = let P : Result (Bor (List ℕ)) E → Type 0 = λ x. MatchResult x (λ s. (s.now ≡ bs) × IsUtf8 bs) Q in (subst P e m).0
