-- Files behind those that a walk is over change nothing where it asks for none.
use Rattle.std.proofs.Common.{◌≡◌, ℕ, zero, suc, ◌+◌, ◌<◌, ◌≤◌, ◌==◌, nat_le, nat_lt, Bool, true, false, if◌then◌else◌, ◌⊎◌, inl, inr, Option, Some, None, Ok, Err, List, [], ◌∷◌, ◌++◌, length, take, map, refl, ap, sym, ◌∙◌, subst, arith}
use Rattle.std.specs.Prelude.{codes, not, ◌&&◌}
use Rattle.std.specs.Str.{bytes_eq}
use Rattle.std.specs.List.{list_any}
use Rattle.std.proofs.lemmas.List.{take-append-le}
use Rattle.bits_core.specs.declared.names.File.{File}
use Rattle.vl_tree.specs.declared.faults.Fault.{Fault}
use Rattle.vl_tree.specs.declared.faults.Code.TheVariants as code
use Rattle.vl_tree.specs.declared.faults.Stop.TheVariants as stop
use Rattle.vl_lex.specs.declared.gate.Halt.{Halt}
use Rattle.vl_lex.specs.declared.gate.Halt.TheVariants as h
use Rattle.vl_lex.specs.declared.directives.Directive.{Directive}
use Rattle.vl_lex.specs.declared.directives.Directive.TheVariants as d
use Rattle.vl_lex.specs.Bytes.{Text}
use Rattle.vl_lex.specs.Lexed.{Seen, Placed, Lexed, file_tokens}
use Rattle.vl_lex.specs.Gate.{SGate, Reached, and_then, fault_at, halt_reason}
use Rattle.vl_lex.specs.Macros.{expanded, directive_of, directive_name, is_directive}
use Rattle.vl_lex.specs.Walk.{SState, with_gate, with_implicit, with_listed, most_files, refused, acted, is_name_kind, opens_bracket, bare, row_len, name_after, defined_with, define_turn, undef_with, undef_turn, nettype_with, nettype_turn, macro_turn, inner_text, is_quoted, is_file_name, Branched, branch_turn, step_branch, passed, fed_state, SBranches, no_branches, Acted, Step, bytes_of, last_line, find_file, enter_at, list_turn, include_turn, act, is_branch_word, directive_step, step, entered, ended, walked, walked_lexed, walked_bytes, walked_file, walked_sources, named_sources, predefined, start, finished, walk_all, kept}
use Rattle.vl_lex.specs.Shelves.{AsksNothing}

-- An outcome of the longer list of files is that of the shorter one, where no file is asked for.
abbrev pub Same : {S : Type 0} → Reached S → Reached S → Type 0
Same {S = S} short long = AsksNothing short → long ≡ short

same : {S : Type 0} (o : Reached S) → Same o o
same o n = refl

still_none : {A B : Type 0} (o : Reached A) (f : A → Reached B) → AsksNothing (and_then o f) → AsksNothing o
still_none o f n name e = n name (ap (λ z. and_then z f) e)

then_same : {A B : Type 0} (o p : Reached A) (f g : A → Reached B) → Same o p → ((a : A) → o ≡ Ok a → Same (f a) (g a)) → Same (and_then o f) (and_then p g)
then_same (Ok a) p f g s t n = ap (λ z. and_then z g) (s (λ name e. cc)) ∙ t a refl n
then_same (Err e) p f g s t n = ap (λ z. and_then z g) (s (λ name q. n name (ap (λ z. and_then z f) q)))

split : {A : Type 0} (c : Bool) (x y : Option A) (i : A) → (if c then x else y) ≡ Some i → ((c ≡ true) × (x ≡ Some i)) ⊎ ((c ≡ false) × (y ≡ Some i))
split true x y i e = inl (refl, e)
split false x y i e = inr (refl, e)

finds_more : (at : ℕ) (name : Text) (fs extra : List File) (i : ℕ) → find_file at name fs ≡ Some i → (find_file at name (fs ++ extra) ≡ Some i) × (i < at + length fs)
finds_more at name [] extra i e = absurd (cc)
finds_more at name (f ∷ fs) extra i e = found at name f fs extra i (split (bytes_eq f.name name) (Some at) (find_file (at + 1) name fs) i e) (λ q. finds_more (at + 1) name fs extra i q)
  where
    found : (at : ℕ) (name : Text) (f : File) (fs extra : List File) (i : ℕ) → ((bytes_eq f.name name ≡ true) × (Some at ≡ Some i)) ⊎ ((bytes_eq f.name name ≡ false) × (find_file (at + 1) name fs ≡ Some i))
        → (find_file (at + 1) name fs ≡ Some i → (find_file (at + 1) name (fs ++ extra) ≡ Some i) × (i < at + 1 + length fs)) → (find_file at name ((f ∷ fs) ++ extra) ≡ Some i) × (i < at + length (f ∷ fs))
    found at name f fs extra i (inl t) more = let n : at ≡ i = cc (t.1) in (rw t.0 t.1, omega arith)
    found at name f fs extra i (inr t) more = let k = more t.1 in (rw t.0 k.0, omega arith)

pub same_bytes : (i : ℕ) (fs extra : List File) → i < length fs → bytes_of i (fs ++ extra) ≡ bytes_of i fs
same_bytes i [] extra h = absurd (omega arith)
same_bytes zero (f ∷ fs) extra h = refl
same_bytes (suc i) (f ∷ fs) extra h = same_bytes i fs extra (omega arith)

-- A file that is entered is one of the shorter list.
abbrev pub Enters : List File → Option ℕ → Type 0
Enters fs None = Unit {0}
Enters fs (Some i) = i < length fs

abbrev pub Within : List File → Reached Acted → Type 0
Within fs (Ok a) = Enters fs a.enter
Within fs (Err e) = Unit {0}

-- a directive does the same, and enters a file of the shorter list
abbrev pub Alike : List File → Reached Acted → Reached Acted → Type 0
Alike fs o p = Same o p × Within fs o

unmoved : (fs : List File) (o : Reached Acted) → Within fs o → Alike fs o o
unmoved fs o w = (same o, w)

enter_alike : (fs extra : List File) (s : SState) (name : Text) (o : Option ℕ) → find_file 0 name fs ≡ o → Alike fs (enter_at o s name) (enter_at (find_file 0 name (fs ++ extra)) s name)
enter_alike fs extra s name None e = (λ n. absurd (n name refl), tt)
enter_alike fs extra s name (Some i) e = let k = finds_more 0 name fs extra i e in (λ n. ap (λ z. enter_at z s name) k.0, omega (arith, k.1))

list_cases : (fs extra : List File) (s w : SState) (name : Text) (e : Halt) (c f : Bool)
    → Alike fs (if c then enter_at (find_file 0 name fs) s name else (if f then Err e else enter_at (find_file 0 name fs) w name))
    (if c then enter_at (find_file 0 name (fs ++ extra)) s name else (if f then Err e else enter_at (find_file 0 name (fs ++ extra)) w name))
list_cases fs extra s w name e true f = enter_alike fs extra s name (find_file 0 name fs) refl
list_cases fs extra s w name e false true = unmoved fs (Err e) tt
list_cases fs extra s w name e false false = enter_alike fs extra w name (find_file 0 name fs) refl

list_alike : (fs extra : List File) (s : SState) (name : Text) → Alike fs (list_turn fs s name) (list_turn (fs ++ extra) s name)
unfolding list_turn
list_alike fs extra s name =
    list_cases fs extra s (with_listed s (s.listed ++ name ∷ [])) name (halt_reason s.gate (h.Stop (stop.Limit code.Files))) (list_any (λ n. bytes_eq n name) s.listed) (nat_le most_files (length s.listed))

include_cases : (fs extra : List File) (s : SState) (t : Placed) (name : Text) (c f : Bool)
    → Alike fs (if c then (if f then refused s code.IncludeDepth t else list_turn fs s name) else refused s code.Directive t) (if c then (if f then refused s code.IncludeDepth t else list_turn (fs ++ extra) s name) else refused s code.Directive t)
include_cases fs extra s t name true true = unmoved fs (refused s code.IncludeDepth t) tt
include_cases fs extra s t name true false = list_alike fs extra s name
include_cases fs extra s t name false f = unmoved fs (refused s code.Directive t) tt

include_alike : (levels : ℕ) (fs extra : List File) (s : SState) (t : Placed) (ts : List Placed) → Alike fs (include_turn levels fs s t ts) (include_turn levels (fs ++ extra) s t ts)
unfolding include_turn
include_alike levels fs extra s t [] = unmoved fs (refused s code.Directive t) tt
include_alike levels fs extra s t (n ∷ ns) =
    include_cases fs extra s t (inner_text n.token.text) (n.row == t.row && is_quoted n.token.kind && is_file_name (inner_text n.token.text)) (levels == 0)

-- the other directives enter no file

choice : (fs : List File) (a : Acted) (e : Halt) (c : Bool) → a.enter ≡ None → Within fs (if c then Ok a else Err e)
choice fs a e true n = subst (λ z. Enters fs z) (sym n) tt
choice fs a e false n = tt

define_within : (fs : List File) (s : SState) (t : Placed) (ts : List Placed) → Within fs (define_turn s t ts)
unfolding define_turn
define_within fs s t [] = tt
define_within fs s t (n ∷ ns) =
    choice fs (acted (defined_with s n.token.text (bare (take (row_len t.row ns) ns))) (1 + row_len t.row ns)) (halt_reason s.gate (fault_at code.Directive t.token.span.file t.token.span.line))
    (n.row == t.row && is_name_kind n.token.kind && not (opens_bracket n ns)) refl

undef_within : (fs : List File) (s : SState) (t : Placed) (o : Option Text) → Within fs (undef_with s t o)
undef_within fs s t None = tt
undef_within fs s t (Some name) = tt

nettype_cases : (fs : List File) (a b : Acted) (e : Halt) (c f : Bool) → a.enter ≡ None → b.enter ≡ None → Within fs (if c then Ok a else (if f then Ok b else Err e))
nettype_cases fs a b e true f n m = subst (λ z. Enters fs z) (sym n) tt
nettype_cases fs a b e false f n m = choice fs b e f m

nettype_within : (fs : List File) (s : SState) (t : Placed) (o : Option Text) → Within fs (nettype_with s t o)
nettype_within fs s t None = tt
nettype_within fs s t (Some name) =
    nettype_cases fs (acted (with_implicit s false) 1) (acted (with_implicit s true) 1) (halt_reason s.gate (fault_at code.Directive t.token.span.file t.token.span.line))
    (bytes_eq name (codes "none")) (bytes_eq name (codes "wire")) refl refl

macro_within : (fs : List File) (s : SState) (o : Reached SGate) → Within fs (and_then o (λ g. Ok (acted (with_gate s g) 0)))
macro_within fs s (Ok g) = tt
macro_within fs s (Err e) = tt

act_alike : (levels : ℕ) (fs extra : List File) (k : Directive) (s : SState) (t : Placed) (ts : List Placed) → Alike fs (act levels fs k s t ts) (act levels (fs ++ extra) k s t ts)
unfolding act undef_turn nettype_turn macro_turn
act_alike levels fs extra d.Define s t ts = unmoved fs (define_turn s t ts) (define_within fs s t ts)
act_alike levels fs extra d.Undef s t ts = unmoved fs (undef_turn s t ts) (undef_within fs s t (name_after t.row ts))
act_alike levels fs extra d.Include s t ts = include_alike levels fs extra s t ts
act_alike levels fs extra d.DefaultNettype s t ts = unmoved fs (nettype_turn s t ts) (nettype_within fs s t (name_after t.row ts))
act_alike levels fs extra d.ResetAll s t ts = unmoved fs (Ok (acted (with_implicit s true) 0)) tt
act_alike levels fs extra d.DropsLine s t ts = unmoved fs (Ok (acted s (row_len t.row ts))) tt
act_alike levels fs extra d.UnconnectedDrive s t ts = unmoved fs (refused s code.LeftOut t) tt
act_alike levels fs extra d.Macro s t ts = unmoved fs (macro_turn s t) (macro_within fs s (expanded s.defined s.table s.implicit (t.token ∷ []) s.gate))
act_alike levels fs extra _ s t ts = unmoved fs (Ok (acted s 0)) tt

-- a token of a file

abbrev pub StepWithin : List File → Reached Step → Type 0
StepWithin fs (Ok p) = Enters fs p.enter
StepWithin fs (Err e) = Unit {0}

abbrev pub StepAlike : List File → Reached Step → Reached Step → Type 0
StepAlike fs o p = Same o p × StepWithin fs o

abbrev pub behind_act : SBranches → Acted → Reached Step
behind_act bs a = Ok (record { branches = bs; state = a.state; more = a.more; enter = a.enter })

acted_within : (fs : List File) (bs : SBranches) (o : Reached Acted) → Within fs o → StepWithin fs (and_then o (behind_act bs))
acted_within fs bs (Ok a) w = w
acted_within fs bs (Err e) w = tt

branch_within : (fs : List File) (bs : SBranches) (s : SState) (t : Placed) (o : Option Branched) → StepWithin fs (step_branch bs s t o)
branch_within fs bs s t None = tt
branch_within fs bs s t (Some b) = tt

fed_within : (fs : List File) (bs : SBranches) (o : Reached SState) → StepWithin fs (and_then o (λ n. passed bs n))
fed_within fs bs (Ok n) = tt
fed_within fs bs (Err e) = tt

directive_cases : (fs : List File) (bs : SBranches) (s : SState) (c f : Bool) (branch : Reached Step) (o p : Reached Acted) → StepWithin fs branch → Alike fs o p
    → StepAlike fs (if c then branch else (if f then and_then o (behind_act bs) else passed bs s)) (if c then branch else (if f then and_then p (behind_act bs) else passed bs s))
directive_cases fs bs s true f branch o p w a = (same branch, w)
directive_cases fs bs s false true branch o p w a = (then_same o p (behind_act bs) (behind_act bs) a.0 (λ x q. same (behind_act bs x)), acted_within fs bs o a.1)
directive_cases fs bs s false false branch o p w a = (same (passed bs s), tt)

directive_alike : (levels : ℕ) (fs extra : List File) (k : Directive) (bs : SBranches) (s : SState) (t : Placed) (ts : List Placed) → StepAlike fs (directive_step levels fs k bs s t ts) (directive_step levels (fs ++ extra) k bs s t ts)
unfolding directive_step
directive_alike levels fs extra k bs s t ts =
    directive_cases fs bs s (is_branch_word k) bs.active (step_branch bs s t (branch_turn k bs s.table t.row ts)) (act levels fs k s t ts) (act levels (fs ++ extra) k s t ts)
    (branch_within fs bs s t (branch_turn k bs s.table t.row ts)) (act_alike levels fs extra k s t ts)

step_cases : (fs : List File) (bs : SBranches) (s : SState) (c f : Bool) (o p : Reached Step) (fed : Reached SState) → StepAlike fs o p
    → StepAlike fs (if c then o else (if f then and_then fed (λ n. passed bs n) else passed bs s)) (if c then p else (if f then and_then fed (λ n. passed bs n) else passed bs s))
step_cases fs bs s true f o p fed a = a
step_cases fs bs s false true o p fed a = (same (and_then fed (λ n. passed bs n)), fed_within fs bs fed)
step_cases fs bs s false false o p fed a = (same (passed bs s), tt)

pub step_alike : (levels : ℕ) (fs extra : List File) (bs : SBranches) (s : SState) (t : Placed) (ts : List Placed) → StepAlike fs (step levels fs bs s t ts) (step levels (fs ++ extra) bs s t ts)
unfolding step
step_alike levels fs extra bs s t ts =
    step_cases fs bs s (is_directive t.token.kind) bs.active (directive_step levels fs (directive_of (directive_name t.token)) bs s t ts) (directive_step levels (fs ++ extra) (directive_of (directive_name t.token)) bs s t ts) (fed_state s t)
    (directive_alike levels fs extra (directive_of (directive_name t.token)) bs s t ts)

-- files

abbrev pub SameInner : List File → (ℕ → SState → Reached SState) → (ℕ → SState → Reached SState) → Type 0
SameInner fs f g = (i : ℕ) (s : SState) → i < length fs → Same (f i s) (g i s)

pub entered_same : (fs : List File) (f g : ℕ → SState → Reached SState) (o : Option ℕ) (s : SState) → SameInner fs f g → Enters fs o → Same (entered f o s) (entered g o s)
entered_same fs f g None s n w = same (Ok s)
entered_same fs f g (Some i) s n w = n i s w

pub step_enters : (fs : List File) (o : Reached Step) (p : Step) → o ≡ Ok p → StepWithin fs o → Enters fs p.enter
step_enters fs o p e w = subst (λ z. StepWithin fs z) e w

pub walked_same : (levels : ℕ) (fs extra : List File) (f g : ℕ → SState → Reached SState) (end : Halt) (left : ℕ) (bs : SBranches) (s : SState) (ts : List Placed) → SameInner fs f g
    → Same (walked levels fs f end left bs s ts) (walked levels (fs ++ extra) g end left bs s ts)
unfolding walked
walked_same levels fs extra f g end left bs s [] n = same (ended bs.stack s end)
walked_same levels fs extra f g end (suc left) bs s (t ∷ ts) n = walked_same levels fs extra f g end left bs s ts n
walked_same levels fs extra f g end zero bs s (t ∷ ts) n =
    let a = step_alike levels fs extra bs s t ts in
    then_same (step levels fs bs s t ts) (step levels (fs ++ extra) bs s t ts) _ _ a.0
    (λ p e. then_same (entered f p.enter p.state) (entered g p.enter p.state) _ _ (entered_same fs f g p.enter p.state n (step_enters fs (step levels fs bs s t ts) p e a.1))
    (λ x q. walked_same levels fs extra f g end p.more p.branches x ts n))

lexed_same : (levels : ℕ) (fs extra : List File) (f g : ℕ → SState → Reached SState) (end : Halt) (s : SState) (l : Lexed) (flaw : Option Fault) → SameInner fs f g
    → Same (walked_lexed levels fs f end s l flaw) (walked_lexed levels (fs ++ extra) g end s l flaw)
lexed_same levels fs extra f g end s l None n = walked_same levels fs extra f g end 0 no_branches s l.tokens n
lexed_same levels fs extra f g end s l (Some x) n = same (Err (halt_reason s.gate (h.Stop (stop.Fault x))))

bytes_same : (levels : ℕ) (fs extra : List File) (f g : ℕ → SState → Reached SState) (i : ℕ) (bytes : Text) (s : SState) → SameInner fs f g
    → Same (walked_bytes levels fs f i bytes s) (walked_bytes levels (fs ++ extra) g i bytes s)
unfolding walked_bytes
bytes_same levels fs extra f g i bytes s n =
    lexed_same levels fs extra f g (fault_at code.Directive i (last_line bytes)) s (file_tokens i bytes) (file_tokens i bytes).flaw n

moved_bytes : (levels : ℕ) (fs extra : List File) (f g : ℕ → SState → Reached SState) (i : ℕ) (s : SState) → SameInner fs f g → i < length fs
    → Same (walked_bytes levels fs f i (bytes_of i fs) s) (walked_bytes levels (fs ++ extra) g i (bytes_of i (fs ++ extra)) s)
moved_bytes levels fs extra f g i s n h =
    subst (λ z. Same (walked_bytes levels fs f i (bytes_of i fs) s) (walked_bytes levels (fs ++ extra) g i z s)) (sym (same_bytes i fs extra h)) (bytes_same levels fs extra f g i (bytes_of i fs) s n)

pub file_same : (levels : ℕ) (fs extra : List File) → SameInner fs (walked_file levels fs) (walked_file levels (fs ++ extra))
unfolding walked_file
file_same zero fs extra i s h = moved_bytes 0 fs extra (λ j n. Ok n) (λ j n. Ok n) i s (λ j n l. same (Ok n)) h
file_same (suc levels) fs extra i s h = moved_bytes (suc levels) fs extra (walked_file levels fs) (walked_file levels (fs ++ extra)) i s (file_same levels fs extra) h

sources_same : (left : ℕ) (fs extra : List File) (i : ℕ) (s : SState) → i + left ≤ length fs → Same (walked_sources left fs i s) (walked_sources left (fs ++ extra) i s)
unfolding walked_sources
sources_same zero fs extra i s h = same (Ok s)
sources_same (suc left) fs extra i s h =
    then_same (walked_file 15 fs i s) (walked_file 15 (fs ++ extra) i s) (walked_sources left fs (i + 1)) (walked_sources left (fs ++ extra) (i + 1)) (file_same 15 fs extra i s (omega arith))
    (λ n e. sources_same left fs extra (i + 1) n (omega arith))

pub take_same : (n : ℕ) (fs extra : List File) → n ≤ length fs → take n (fs ++ extra) ≡ take n fs
take_same n fs extra h = take-append-le n fs extra h

walk_same : (fs extra : List File) (named : ℕ) (defines : List Text) → named ≤ length fs → Same (walk_all fs named defines) (walk_all (fs ++ extra) named defines)
unfolding walk_all
walk_same fs extra named defines h =
    let e : named_sources (fs ++ extra) named ≡ named_sources fs named = ap (map (λ f. f.name)) (take_same named fs extra h) in
    let begin = predefined defines (start (named_sources fs named)) in
    subst (λ z. Same (walk_all fs named defines) (and_then (walked_sources named (fs ++ extra) 0 (predefined defines (start z))) finished)) (sym e)
    (then_same (walked_sources named fs 0 begin) (walked_sources named (fs ++ extra) 0 begin) finished finished (sources_same named fs extra 0 begin (omega arith)) (λ n q. same (finished n)))

kept_cases : (fs extra : List File) (c : Bool) (e : Halt) (o p : Reached (List Seen)) → Same o p → Same (if c then Err e else o) (if c then Err e else p)
kept_cases fs extra true e o p s = same (Err e)
kept_cases fs extra false e o p s = s

pub more_files : (fs extra : List File) (named : ℕ) (defines : List Text) → named ≤ length fs → AsksNothing (kept fs named defines) → kept (fs ++ extra) named defines ≡ kept fs named defines
unfolding kept
more_files fs extra named defines few =
    kept_cases fs extra (nat_lt most_files named) (h.Stop (stop.Limit code.Files)) (walk_all fs named defines) (walk_all (fs ++ extra) named defines) (walk_same fs extra named defines few)
