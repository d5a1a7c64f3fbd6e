-- The walk over the files as their directives say (IEEE 1364-2005, section 19).
use Rattle.std.specs.Prelude.{◌≡◌, ℕ, zero, suc, ◌+◌, ◌-◌, ◌==◌, nat_le, nat_lt, min, ◌^◌, Bool, true, false, ◌&&◌, ◌||◌, not, if◌then◌else◌, Option, Some, None, is_some, Result, Ok, Err, List, [], ◌∷◌, ◌++◌, drop, take, map, length, codes}
use Rattle.std.specs.Str.{bytes_eq, is_utf8}
use Rattle.std.specs.List.{prefix_len, list_any}
use denote.Ref.{Bor}
use Rattle.vl_tree.specs.declared.tokens.TokenKind.{TokenKind}
use Rattle.vl_tree.specs.declared.tokens.TokenKind.TheVariants as k
use Rattle.vl_tree.specs.declared.faults.Code.{Code}
use Rattle.vl_tree.specs.declared.faults.Code.TheVariants as code
use Rattle.vl_tree.specs.declared.faults.Stop.{Stop}
use Rattle.vl_tree.specs.declared.faults.Stop.TheVariants as stop
use Rattle.vl_tree.specs.declared.tokens.Token.{Token}
use Rattle.vl_lex.specs.declared.gate.Mode.TheVariants as m
use Rattle.vl_lex.specs.declared.preprocessor.Walk.{Walk}
use Rattle.vl_lex.specs.declared.preprocessor.Walk.TheVariants as walk
use Rattle.bits_core.specs.declared.names.File.{File}
use Rattle.vl_lex.specs.declared.gate.Halt.{Halt}
use Rattle.vl_lex.specs.declared.gate.Halt.TheVariants as h
use Rattle.vl_lex.specs.declared.directives.Directive.{Directive}
use Rattle.vl_lex.specs.declared.directives.Directive.TheVariants as d
use Rattle.vl_lex.specs.declared.branches.Branch.{Branch}
use Rattle.vl_lex.specs.declared.branches.Branches.{Branches}
use Rattle.vl_lex.specs.declared.state.State.{State}
use Rattle.vl_lex.specs.declared.state.Turned.{Turned}
use Rattle.vl_lex.specs.Bytes.{Text}
use Rattle.vl_tree.specs.declared.faults.Fault.{Fault}
use Rattle.vl_lex.specs.Lexed.{Seen, view, Placed, Lexed, newlines, file_tokens}
use Rattle.vl_lex.specs.Gate.{SGate, gate_view, Reached, and_then, Ends, IsReason, fault_at, fed, flushed, halt_reason}
use Rattle.vl_lex.specs.Macros.{Table, updated, look, directive_of, directive_name, is_directive, marked, expanded}

-- The branches of a file that are open, the outermost first: whether the text round the branch is kept, whether one of its branches was true, and whether its last has begun.
pub record SBranches : Type 0 where
  pub stack : List Branch
  pub active : Bool

abbrev pub branches_view : Branches → SBranches
branches_view b = record { stack = b.stack.items; active = b.active }

abbrev pub opened : SBranches → Bool → SBranches
opened bs cond = record { stack = bs.stack ++ (record { outer = bs.active; seen = cond; last = false }) ∷ []; active = bs.active && cond }

-- the innermost branch that is open
abbrev pub top : List Branch → Option Branch
top [] = None
top (b ∷ []) = Some b
top (b ∷ c ∷ bs) = top (c ∷ bs)

-- the branches round it
abbrev pub below : List Branch → List Branch
below [] = []
below (b ∷ []) = []
below (b ∷ c ∷ bs) = b ∷ below (c ∷ bs)

abbrev pub next_of : Option Branch → List Branch → Bool → Bool → Option SBranches
next_of None rest cond last = None
next_of (Some b) rest cond last =
    if b.last then None
    else Some (record { stack = rest ++ (record { outer = b.outer; seen = b.seen || cond; last = last }) ∷ []; active = b.outer && (not b.seen && cond) })

-- the next branch begins; none where no branch is open, or its last has begun
unfoldable pub next_branch : SBranches → Bool → Bool → Option SBranches
next_branch bs cond last = next_of (top bs.stack) (below bs.stack) cond last

abbrev pub closed_of : Option Branch → List Branch → Option SBranches
closed_of None rest = None
closed_of (Some b) rest = Some (record { stack = rest; active = b.outer })

unfoldable pub closed : SBranches → Option SBranches
closed bs = closed_of (top bs.stack) (below bs.stack)

abbrev pub is_name_kind : TokenKind → Bool
is_name_kind k.Name = true
is_name_kind _ = false

-- the name that stands next on the line of a directive
abbrev pub name_after : ℕ → List Placed → Option Text
name_after row [] = None
name_after row (n ∷ ns) = if n.row == row && is_name_kind n.token.kind then Some n.token.text else None

pub record Branched : Type 0 where
  pub branches : SBranches
  pub more : ℕ

abbrev pub branched : Option SBranches → ℕ → Option Branched
branched None more = None
branched (Some bs) more = Some (record { branches = bs; more = more })

abbrev pub if_named : Option Text → (Text → Option SBranches) → Option Branched
if_named None f = None
if_named (Some name) f = branched (f name) 1

-- what a branch word does: the branches behind it, and how many tokens it takes; none where it is misplaced or its name is missing
unfoldable pub branch_turn : Directive → SBranches → Table → ℕ → List Placed → Option Branched
branch_turn d.IfDef bs table row ts = if_named (name_after row ts) (λ n. Some (opened bs (is_some (table n))))
branch_turn d.IfNdef bs table row ts = if_named (name_after row ts) (λ n. Some (opened bs (not (is_some (table n)))))
branch_turn d.ElsIf bs table row ts = if_named (name_after row ts) (λ n. next_branch bs (is_some (table n)) false)
branch_turn d.Else bs table row ts = branched (next_branch bs true true) 0
branch_turn d.EndIf bs table row ts = branched (closed bs) 0
branch_turn _ bs table row ts = None

abbrev pub IsBranched : Option ℕ → SBranches → Option Branched → Type 0
IsBranched None bs outcome = outcome ≡ None
IsBranched (Some n) bs outcome = outcome ≡ Some (record { branches = bs; more = n })

abbrev pub no_branches : SBranches
no_branches = record { stack = []; active = true }

abbrev pub IsNext : Bool → SBranches → Option SBranches → Type 0
IsNext true bs outcome = outcome ≡ Some bs
IsNext false bs outcome = outcome ≡ None

abbrev pub name_is : Option (Bor Text) → Option Text → Type 0
name_is None name = name ≡ None
name_is (Some x) name = name ≡ Some x.now

-- what the walk carries from token to token: the gate, the macros with a bound on their number, the nettype, and the files that were named so far
pub record SState : Type 0 where
  pub gate : SGate
  pub table : Table
  pub defined : ℕ
  pub implicit : Bool
  pub listed : List Text

abbrev pub state_view : State → SState
state_view s = record { gate = gate_view s.gate; table = look s.macros; defined = s.defined; implicit = s.implicit; listed = map (λ n. n.now) s.listed }

abbrev pub with_gate : SState → SGate → SState
with_gate s g = record { gate = g; table = s.table; defined = s.defined; implicit = s.implicit; listed = s.listed }

abbrev pub with_table : SState → Table → SState
with_table s t = record { gate = s.gate; table = t; defined = s.defined; implicit = s.implicit; listed = s.listed }

abbrev pub with_implicit : SState → Bool → SState
with_implicit s b = record { gate = s.gate; table = s.table; defined = s.defined; implicit = b; listed = s.listed }

abbrev pub with_listed : SState → List Text → SState
with_listed s l = record { gate = s.gate; table = s.table; defined = s.defined; implicit = s.implicit; listed = l }

-- a state, how many further tokens were taken, and the file that is entered
pub record Acted : Type 0 where
  pub state : SState
  pub more : ℕ
  pub enter : Option ℕ

abbrev pub acted : SState → ℕ → Acted
acted s more = record { state = s; more = more; enter = None }

-- what a directive gives, unless memory fails
abbrev pub Acts : Result Turned Halt → SState → Reached Acted → Type 0
Acts (Ok t) new reached = reached ≡ Ok (record { state = new; more = t.more; enter = t.enter })
Acts (Err e) new reached = Ends e reached

abbrev pub refused : SState → Code → Placed → Reached Acted
refused s c t = Err (halt_reason s.gate (fault_at c t.token.span.file t.token.span.line))

-- a token that is no directive
unfoldable pub fed_state : SState → Placed → Reached SState
fed_state s t = and_then (fed s.gate (marked s.implicit t.token) s.gate.mode) (λ g. Ok (with_gate s g))

-- the tokens of a line
abbrev pub row_len : ℕ → List Placed → ℕ
row_len row ts = prefix_len (λ t. t.row == row) ts

-- a `(` stands at once behind a name
abbrev pub opens_bracket : Placed → List Placed → Bool
opens_bracket n [] = false
opens_bracket n (b ∷ bs) = b.token.span.start == n.token.span.end && bytes_eq b.token.text (codes "(")

abbrev pub bare : List Placed → List Seen
bare ts = map (λ t. t.token) ts

abbrev pub defined_with : SState → Text → List Seen → SState
defined_with s name body =
    record { gate = s.gate; table = updated s.table name (Some body); defined = min (s.defined + 1) (2 ^ 64 - 1); implicit = s.implicit; listed = s.listed }

-- a macro is defined: its body is the rest of the line
unfoldable pub define_turn : SState → Placed → List Placed → Reached Acted
define_turn s t [] = refused s code.Directive t
define_turn s t (n ∷ ns) =
    if n.row == t.row && is_name_kind n.token.kind && not (opens_bracket n ns)
    then Ok (acted (defined_with s n.token.text (bare (take (row_len t.row ns) ns))) (1 + row_len t.row ns))
    else refused s code.Directive t

abbrev pub undef_with : SState → Placed → Option Text → Reached Acted
undef_with s t None = refused s code.Directive t
undef_with s t (Some name) = Ok (acted (with_table s (updated s.table name None)) 1)

unfoldable pub undef_turn : SState → Placed → List Placed → Reached Acted
undef_turn s t ts = undef_with s t (name_after t.row ts)

-- `none` or `wire`
abbrev pub nettype_with : SState → Placed → Option Text → Reached Acted
nettype_with s t None = refused s code.Directive t
nettype_with s t (Some name) =
    if bytes_eq name (codes "none") then Ok (acted (with_implicit s false) 1) else (
    if bytes_eq name (codes "wire") then Ok (acted (with_implicit s true) 1) else refused s code.Directive t)

unfoldable pub nettype_turn : SState → Placed → List Placed → Reached Acted
nettype_turn s t ts = nettype_with s t (name_after t.row ts)

-- the use of a macro
unfoldable pub macro_turn : SState → Placed → Reached Acted
macro_turn s t = and_then (expanded s.defined s.table s.implicit (t.token ∷ []) s.gate) (λ g. Ok (acted (with_gate s g) 0))

-- the first file of a name
abbrev pub find_file : ℕ → Text → List File → Option ℕ
find_file at name [] = None
find_file at name (f ∷ fs) = if bytes_eq f.name name then Some at else find_file (at + 1) name fs

abbrev pub is_quoted : TokenKind → Bool
is_quoted k.Quoted = true
is_quoted _ = false

-- the bytes between the quotes
abbrev pub inner_text : Text → Text
inner_text text = take (length text - 2) (drop 1 text)

abbrev pub is_file_name : Text → Bool
is_file_name name = not (length name == 0) && is_utf8 name

-- the most files of one check
abbrev pub most_files : ℕ
most_files = 1024

abbrev pub enter_at : Option ℕ → SState → Text → Reached Acted
enter_at None s name = Err (h.Need name)
enter_at (Some i) s name = Ok (record { state = s; more = 1; enter = Some i })

-- a file is entered that the list of named files holds, or that is put into it
unfoldable pub list_turn : List File → SState → Text → Reached Acted
list_turn files s name =
    if list_any (λ n. bytes_eq n name) s.listed then enter_at (find_file 0 name files) s name else (
    if nat_le most_files (length s.listed) then Err (halt_reason s.gate (h.Stop (stop.Limit code.Files)))
    else enter_at (find_file 0 name files) (with_listed s (s.listed ++ name ∷ [])) name)

-- a file is included, where the levels that are left allow it
unfoldable pub include_turn : ℕ → List File → SState → Placed → List Placed → Reached Acted
include_turn levels files s t [] = refused s code.Directive t
include_turn levels files s t (n ∷ ns) =
    if n.row == t.row && is_quoted n.token.kind && is_file_name (inner_text n.token.text)
    then (if levels == 0 then refused s code.IncludeDepth t else list_turn files s (inner_text n.token.text))
    else refused s code.Directive t

-- what a directive does where the text is kept, the branch words left out
unfoldable pub act : ℕ → List File → Directive → SState → Placed → List Placed → Reached Acted
act levels files d.Define s t ts = define_turn s t ts
act levels files d.Undef s t ts = undef_turn s t ts
act levels files d.Include s t ts = include_turn levels files s t ts
act levels files d.DefaultNettype s t ts = nettype_turn s t ts
act levels files d.ResetAll s t ts = Ok (acted (with_implicit s true) 0)
act levels files d.DropsLine s t ts = Ok (acted s (row_len t.row ts))
act levels files d.UnconnectedDrive s t ts = refused s code.LeftOut t
act levels files d.Macro s t ts = macro_turn s t
act levels files _ s t ts = Ok (acted s 0)

abbrev pub is_branch_word : Directive → Bool
is_branch_word d.IfDef = true
is_branch_word d.IfNdef = true
is_branch_word d.ElsIf = true
is_branch_word d.Else = true
is_branch_word d.EndIf = true
is_branch_word _ = false

-- a token of a file: the branches and the state behind it, how many further tokens it took, and the file that is entered
pub record Step : Type 0 where
  pub branches : SBranches
  pub state : SState
  pub more : ℕ
  pub enter : Option ℕ

abbrev pub step_branch : SBranches → SState → Placed → Option Branched → Reached Step
step_branch bs s t None = Err (halt_reason s.gate (fault_at code.Directive t.token.span.file t.token.span.line))
step_branch bs s t (Some b) = Ok (record { branches = b.branches; state = s; more = b.more; enter = None })

abbrev pub passed : SBranches → SState → Reached Step
passed bs s = Ok (record { branches = bs; state = s; more = 0; enter = None })

unfoldable pub directive_step : ℕ → List File → Directive → SBranches → SState → Placed → List Placed → Reached Step
directive_step levels files dir bs s t ts =
    if is_branch_word dir then step_branch bs s t (branch_turn dir bs s.table t.row ts) else (
    if bs.active then and_then (act levels files dir s t ts) (λ a. Ok (record { branches = bs; state = a.state; more = a.more; enter = a.enter }))
    else passed bs s)

-- In text that is not kept the branch words alone act.
unfoldable pub step : ℕ → List File → SBranches → SState → Placed → List Placed → Reached Step
step levels files bs s t ts =
    if is_directive t.token.kind then directive_step levels files (directive_of (directive_name t.token)) bs s t ts else (
    if bs.active then and_then (fed_state s t) (λ n. passed bs n) else passed bs s)

abbrev pub Steps : Result Turned Halt → SBranches → SState → Reached Step → Type 0
Steps (Ok t) bs s reached = reached ≡ Ok (record { branches = bs; state = s; more = t.more; enter = t.enter })
Steps (Err e) bs s reached = Ends e reached

-- a file by its number, where there is one
abbrev pub entered : (ℕ → SState → Reached SState) → Option ℕ → SState → Reached SState
entered inner None s = Ok s
entered inner (Some i) s = inner i s

abbrev pub ended : List Branch → SState → Halt → Reached SState
ended [] s end = Ok s
ended (b ∷ bs) s end = Err (halt_reason s.gate end)

-- Token after token of a file, its `end` the fault of a branch that is still open there; the number counts the tokens that are left of what the token before took.
unfoldable pub walked : ℕ → List File → (ℕ → SState → Reached SState) → Halt → ℕ → SBranches → SState → List Placed → Reached SState
walked levels files inner end left bs s [] = ended bs.stack s end
walked levels files inner end (suc left) bs s (t ∷ ts) = walked levels files inner end left bs s ts
walked levels files inner end zero bs s (t ∷ ts) =
    and_then (step levels files bs s t ts) (λ p. and_then (entered inner p.enter p.state) (λ n. walked levels files inner end p.more p.branches n ts))

-- the line of the end of a file: a newline at the end begins no further line
abbrev pub ends_line : Text → Bool
ends_line [] = false
ends_line (b ∷ []) = b == 10
ends_line (b ∷ c ∷ bs) = ends_line (c ∷ bs)

abbrev pub last_line : Text → ℕ
last_line bytes = newlines bytes + 1 - (if ends_line bytes then 1 else 0)

abbrev pub walked_lexed : ℕ → List File → (ℕ → SState → Reached SState) → Halt → SState → Lexed → Option Fault → Reached SState
walked_lexed levels files inner end s l None = walked levels files inner end 0 no_branches s l.tokens
walked_lexed levels files inner end s l (Some f) = Err (halt_reason s.gate (h.Stop (stop.Fault f)))

-- a file whose first fault, if it has one, comes before all else in it
unfoldable pub walked_bytes : ℕ → List File → (ℕ → SState → Reached SState) → ℕ → Text → SState → Reached SState
walked_bytes levels files inner i bytes s =
    walked_lexed levels files inner (fault_at code.Directive i (last_line bytes)) s (file_tokens i bytes) (file_tokens i bytes).flaw

abbrev pub bytes_of : ℕ → List File → Text
bytes_of i [] = []
bytes_of zero (f ∷ fs) = f.bytes
bytes_of (suc i) (f ∷ fs) = bytes_of i fs

-- a file and all that it includes, where so many levels are left
unfoldable pub walked_file : ℕ → List File → ℕ → SState → Reached SState
walked_file zero files i s = walked_bytes 0 files (λ j n. Ok n) i (bytes_of i files) s
walked_file (suc levels) files i s = walked_bytes (suc levels) files (walked_file levels files) i (bytes_of i files) s

abbrev pub inner_of : ℕ → List File → ℕ → SState → Reached SState
inner_of zero files i s = Ok s
inner_of (suc levels) files i s = walked_file levels files i s

-- a file could not be lexed: its first fault, or memory failed
abbrev pub LexHalts : Halt → SGate → Option Fault → Type 0
LexHalts e g (Some f) = IsReason e (halt_reason g (h.Stop (stop.Fault f)))
LexHalts e g None = e ≡ h.Stop stop.NoMemory

abbrev pub reachable : ℕ → Option ℕ → Option ℕ
reachable levels enter = if levels == 0 then None else enter

-- the named sources one after the other, from a place on; 15 levels of includes are allowed
unfoldable pub walked_sources : ℕ → List File → ℕ → SState → Reached SState
walked_sources zero files i s = Ok s
walked_sources (suc left) files i s = and_then (walked_file 15 files i s) (walked_sources left files (i + 1))

-- nothing is kept, no macro is defined, undeclared names may be nets
abbrev pub start : List Text → SState
start listed = record { gate = record { kept = []; waiting = []; mode = m.Plain }; table = λ q. None; defined = 0; implicit = true; listed = listed }

-- macros that are defined as empty before the first file
abbrev pub predefined : List Text → SState → SState
predefined [] s = s
predefined (n ∷ ns) s = predefined ns (defined_with s n [])

abbrev pub named_sources : List File → ℕ → List Text
named_sources files named = map (λ f. f.name) (take named files)

abbrev pub finished : SState → Reached (List Seen)
finished s = and_then (flushed s.gate) (λ g. Ok g.kept)

unfoldable pub walk_all : List File → ℕ → List Text → Reached (List Seen)
walk_all files named defines = and_then (walked_sources named files 0 (predefined defines (start (named_sources files named)))) finished

-- The tokens that are kept of the named files and of all that they include; else why the walk ends: its first fault or limit in the order of the walk, or the first file that is asked for.
unfoldable pub kept : List File → ℕ → List Text → Reached (List Seen)
kept files named defines =
    if nat_lt most_files named then Err (h.Stop (stop.Limit code.Files))
    else walk_all files named defines

abbrev pub KeepsTokens : Result (List Token) Stop → Reached (List Seen) → Type 0
KeepsTokens (Ok tokens) reached = reached ≡ Ok (map view tokens)
KeepsTokens (Err e) reached = Ends (h.Stop e) reached

-- What the walk answers.
abbrev pub Walks : Result Walk Stop → Reached (List Seen) → Type 0
Walks (Ok (walk.Tokens tokens)) reached = reached ≡ Ok (map view tokens)
Walks (Ok (walk.Need name)) reached = reached ≡ Err (h.Need name)
Walks (Err (stop.Fault f)) reached = reached ≡ Err (h.Stop (stop.Fault f))
Walks (Err (stop.Limit c)) reached = reached ≡ Err (h.Stop (stop.Limit c))
Walks (Err stop.NoMemory) reached = Unit {0}
