-- The walk counts the macros.
use Rattle.std.proofs.Common.{◌≡◌, ℕ, suc, ◌+◌, ◌-◌, ◌<◌, ◌≤◌, ◌==◌, nat_le, min, ◌^◌, Bool, true, false, ◌⊎◌, inl, inr, if◌then◌else◌, Option, Some, None, Ok, Err, List, [], ◌∷◌, ◌++◌, length, take, refl, sym, subst, arith}
use Rattle.std.specs.Prelude.{codes, not, ◌&&◌}
use Rattle.std.specs.Str.{bytes_eq}
use Rattle.std.specs.List.{list_any}
use Rattle.std.proofs.lemmas.Bool.Decides.{nat_tests}
use Rattle.std.proofs.lemmas.Slice.Eq.{bytes_eq-Decides}
use Rattle.bits_core.specs.declared.names.File.{File}
use Rattle.vl_tree.specs.declared.faults.Code.TheVariants as code
use Rattle.vl_tree.specs.declared.faults.Stop.TheVariants as stop
use Rattle.vl_lex.specs.declared.gate.Halt.TheVariants as h
use Rattle.vl_lex.specs.declared.directives.Directive.{Directive}
use Rattle.vl_lex.specs.declared.directives.Directive.TheVariants as d
use Rattle.vl_lex.specs.Bytes.{Text}
use Rattle.vl_lex.specs.Lexed.{Seen, Placed}
use Rattle.vl_lex.specs.Gate.{and_then, halt_reason, fed}
use Rattle.vl_lex.specs.Macros.{Table, updated, directive_of, directive_name, is_directive, marked, expanded}
use Rattle.vl_lex.specs.Walk.{SState, with_gate, with_implicit, with_listed, most_files, refused, acted, is_name_kind, opens_bracket, bare, row_len, name_after, defined_with, define_turn, undef_with, undef_turn, nettype_with, nettype_turn, macro_turn, inner_text, is_quoted, is_file_name, Branched, branch_turn, step_branch, passed, fed_state, SBranches, Acted, Step, find_file, enter_at, list_turn, include_turn, act, is_branch_word, directive_step, step, predefined, start}
use Rattle.vl_lex.specs.Expansion.{Member, Covers, IsBounded}
use Rattle.vl_lex.proofs.Outcomes.{Holds, then_holds, anyway, either}

one_more : (table : Table) (name : Text) (body : List Seen) (names : List Text) → Covers table names → Covers (updated table name (Some body)) (name ∷ names)
one_more table name body names c q other e = go (bytes_eq name q) refl e
  where
    go : (t : Bool) → bytes_eq name q ≡ t → (if t then Some body else table q) ≡ Some other → Member q (name ∷ names)
    go true f e = inl (sym ((bytes_eq-Decides name q).0 f))
    go false f e = inr (c q other e)

one_less : (table : Table) (name : Text) (names : List Text) → Covers table names → Covers (updated table name None) names
one_less table name names c q other e = go (bytes_eq name q) refl e
  where
    go : (t : Bool) → bytes_eq name q ≡ t → (if t then None else table q) ≡ Some other → Member q names
    go true f e = absurd (cc)
    go false f e = c q other e

below : (a b : ℕ) → nat_le a b ≡ true → a ≤ b
below a b e = grind (arith, nat_tests)

above : (a b : ℕ) → nat_le a b ≡ false → b < a
above a b e = grind (arith, nat_tests)

room : (n m : ℕ) → n ≤ m → (suc n ≤ min (m + 1) (2 ^ 64 - 1)) ⊎ (2 ^ 64 - 1 ≤ min (m + 1) (2 ^ 64 - 1))
room n m h = go (nat_le (m + 1) (2 ^ 64 - 1)) refl
  where
    go : (t : Bool) → nat_le (m + 1) (2 ^ 64 - 1) ≡ t → (suc n ≤ min (m + 1) (2 ^ 64 - 1)) ⊎ (2 ^ 64 - 1 ≤ min (m + 1) (2 ^ 64 - 1))
    go true e = inl (let l : m + 1 ≤ 2 ^ 64 - 1 = below (m + 1) (2 ^ 64 - 1) e in omega arith)
    go false e = inr (let l : 2 ^ 64 - 1 < m + 1 = above (m + 1) (2 ^ 64 - 1) e in omega arith)

defines_one : (s : SState) (name : Text) (body : List Seen) → IsBounded s → IsBounded (defined_with s name body)
defines_one s name body (inl b) = counted (room (length b.0) s.defined b.2)
  where
    counted : (suc (length b.0) ≤ min (s.defined + 1) (2 ^ 64 - 1)) ⊎ (2 ^ 64 - 1 ≤ min (s.defined + 1) (2 ^ 64 - 1)) → IsBounded (defined_with s name body)
    counted (inl r) = inl (name ∷ b.0, one_more s.table name body b.0 b.1, r)
    counted (inr r) = inr r
defines_one s name body (inr h) = inr (omega arith)

abbrev pub ActHolds : Acted → Type 0
ActHolds a = IsBounded a.state

defines : (s : SState) (t : Placed) (ts : List Placed) → IsBounded s → Holds ActHolds (define_turn s t ts)
unfolding define_turn
defines s t [] k = tt
defines s t (n ∷ ns) k =
    either ActHolds (n.row == t.row && is_name_kind n.token.kind && not (opens_bracket n ns)) (Ok (acted (defined_with s n.token.text (bare (take (row_len t.row ns) ns))) (1 + row_len t.row ns))) (refused s code.Directive t)
    (defines_one s n.token.text (bare (take (row_len t.row ns) ns)) k) tt

forgets : (s : SState) (name : Text) → IsBounded s → IsBounded (record { gate = s.gate; table = updated s.table name None; defined = s.defined; implicit = s.implicit; listed = s.listed })
forgets s name (inl b) = inl (b.0, one_less s.table name b.0 b.1, b.2)
forgets s name (inr h) = inr h

undefines : (s : SState) (t : Placed) (o : Option Text) → IsBounded s → Holds ActHolds (undef_with s t o)
undefines s t None k = tt
undefines s t (Some name) k = forgets s name k

nettypes : (s : SState) (t : Placed) (o : Option Text) → IsBounded s → Holds ActHolds (nettype_with s t o)
nettypes s t None k = tt
nettypes s t (Some name) k =
    either ActHolds (bytes_eq name (codes "none")) (Ok (acted (with_implicit s false) 1)) (if bytes_eq name (codes "wire") then Ok (acted (with_implicit s true) 1) else refused s code.Directive t)
    k (either ActHolds (bytes_eq name (codes "wire")) (Ok (acted (with_implicit s true) 1)) (refused s code.Directive t) k tt)

uses : (s : SState) (t : Placed) → IsBounded s → Holds ActHolds (macro_turn s t)
unfolding macro_turn
uses s t k = anyway ActHolds (expanded s.defined s.table s.implicit (t.token ∷ []) s.gate) (λ g. Ok (acted (with_gate s g) 0)) (λ g. k)

enters : (o : Option ℕ) (s : SState) (name : Text) → IsBounded s → Holds ActHolds (enter_at o s name)
enters None s name k = tt
enters (Some i) s name k = k

lists : (files : List File) (s : SState) (name : Text) → IsBounded s → Holds ActHolds (list_turn files s name)
unfolding list_turn
lists files s name k =
    either ActHolds (list_any (λ n. bytes_eq n name) s.listed) (enter_at (find_file 0 name files) s name)
    (if nat_le most_files (length s.listed) then Err (halt_reason s.gate (h.Stop (stop.Limit code.Files))) else enter_at (find_file 0 name files) (with_listed s (s.listed ++ name ∷ [])) name)
    (enters (find_file 0 name files) s name k)
    (either ActHolds (nat_le most_files (length s.listed)) (Err (halt_reason s.gate (h.Stop (stop.Limit code.Files)))) (enter_at (find_file 0 name files) (with_listed s (s.listed ++ name ∷ [])) name)
    tt (enters (find_file 0 name files) (with_listed s (s.listed ++ name ∷ [])) name k))

includes : (levels : ℕ) (files : List File) (s : SState) (t : Placed) (ts : List Placed) → IsBounded s → Holds ActHolds (include_turn levels files s t ts)
unfolding include_turn
includes levels files s t [] k = tt
includes levels files s t (n ∷ ns) k =
    either ActHolds (n.row == t.row && is_quoted n.token.kind && is_file_name (inner_text n.token.text)) (if levels == 0 then refused s code.IncludeDepth t else list_turn files s (inner_text n.token.text)) (refused s code.Directive t)
    (either ActHolds (levels == 0) (refused s code.IncludeDepth t) (list_turn files s (inner_text n.token.text)) tt (lists files s (inner_text n.token.text) k)) tt

acts : (levels : ℕ) (files : List File) (k : Directive) (s : SState) (t : Placed) (ts : List Placed) → IsBounded s → Holds ActHolds (act levels files k s t ts)
unfolding act undef_turn nettype_turn
acts levels files d.Define s t ts k = defines s t ts k
acts levels files d.Undef s t ts k = undefines s t (name_after t.row ts) k
acts levels files d.Include s t ts k = includes levels files s t ts k
acts levels files d.DefaultNettype s t ts k = nettypes s t (name_after t.row ts) k
acts levels files d.ResetAll s t ts k = k
acts levels files d.DropsLine s t ts k = k
acts levels files d.UnconnectedDrive s t ts k = tt
acts levels files d.Macro s t ts k = uses s t k
acts levels files _ s t ts k = k

abbrev pub StepHolds : Step → Type 0
StepHolds a = IsBounded a.state

branches : (bs : SBranches) (s : SState) (t : Placed) (o : Option Branched) → IsBounded s → Holds StepHolds (step_branch bs s t o)
branches bs s t None k = tt
branches bs s t (Some b) k = k

directed : (levels : ℕ) (files : List File) (dir : Directive) (bs : SBranches) (s : SState) (t : Placed) (ts : List Placed) → IsBounded s → Holds StepHolds (directive_step levels files dir bs s t ts)
unfolding directive_step
directed levels files dir bs s t ts k =
    either StepHolds (is_branch_word dir) (step_branch bs s t (branch_turn dir bs s.table t.row ts)) (if bs.active then and_then (act levels files dir s t ts) (λ a. Ok (record { branches = bs; state = a.state; more = a.more; enter = a.enter })) else passed bs s)
    (branches bs s t (branch_turn dir bs s.table t.row ts) k)
    (either StepHolds bs.active (and_then (act levels files dir s t ts) (λ a. Ok (record { branches = bs; state = a.state; more = a.more; enter = a.enter }))) (passed bs s)
    (then_holds ActHolds StepHolds (act levels files dir s t ts) (λ a. Ok (record { branches = bs; state = a.state; more = a.more; enter = a.enter })) (acts levels files dir s t ts k) (λ a q. q)) k)

feeds_state : (s : SState) (t : Placed) → IsBounded s → Holds IsBounded (fed_state s t)
unfolding fed_state
feeds_state s t k = anyway IsBounded (fed s.gate (marked s.implicit t.token) s.gate.mode) (λ g. Ok (with_gate s g)) (λ g. k)

steps : (levels : ℕ) (files : List File) (bs : SBranches) (s : SState) (t : Placed) (ts : List Placed) → IsBounded s → Holds StepHolds (step levels files bs s t ts)
unfolding step
steps levels files bs s t ts k =
    either StepHolds (is_directive t.token.kind) (directive_step levels files (directive_of (directive_name t.token)) bs s t ts) (if bs.active then and_then (fed_state s t) (λ n. passed bs n) else passed bs s)
    (directed levels files (directive_of (directive_name t.token)) bs s t ts k)
    (either StepHolds bs.active (and_then (fed_state s t) (λ n. passed bs n)) (passed bs s) (then_holds IsBounded StepHolds (fed_state s t) (λ n. passed bs n) (feeds_state s t k) (λ n q. q)) k)

pub step_bounded : (levels : ℕ) (files : List File) (bs : SBranches) (s : SState) (t : Placed) (ts : List Placed) (p : Step) → IsBounded s → step levels files bs s t ts ≡ Ok p → IsBounded p.state
step_bounded levels files bs s t ts p k e = subst (λ z. Holds StepHolds z) e (steps levels files bs s t ts k)

more_bounded : (names : List Text) (s : SState) → IsBounded s → IsBounded (predefined names s)
more_bounded [] s k = k
more_bounded (n ∷ ns) s k = more_bounded ns (defined_with s n []) (defines_one s n [] k)

pub start_bounded : (names listed : List Text) → IsBounded (predefined names (start listed))
start_bounded names listed = more_bounded names (start listed) (inl ([], (λ q body e. absurd (cc)), omega arith))
