-- Which file a step of the walk asks for.
use Rattle.std.proofs.Common.{◌≡◌, ℕ, ◌==◌, nat_le, nat_lt, Bool, true, false, if◌then◌else◌, Option, Some, None, Ok, Err, List, [], ◌∷◌, ◌++◌, length, refl, ap, sym, ◌∙◌, subst, arith}
use Rattle.std.specs.Prelude.{◌&&◌, ◌||◌, not}
use Rattle.std.proofs.lemmas.Bool.Decides.{nat_tests}
use Rattle.std.specs.Str.{bytes_eq}
use Rattle.std.specs.List.{list_any}
use Rattle.bits_core.specs.declared.names.File.{File}
use Rattle.vl_tree.specs.declared.faults.Code.TheVariants as code
use Rattle.vl_tree.specs.declared.faults.Fault.{Fault}
use Rattle.vl_tree.specs.declared.faults.Stop.TheVariants as stop
use Rattle.vl_lex.specs.declared.gate.Halt.{Halt}
use Rattle.vl_lex.specs.declared.gate.Halt.TheVariants as h
use Rattle.vl_lex.specs.declared.directives.Directive.{Directive}
use Rattle.vl_lex.specs.declared.directives.Directive.TheVariants as d
use Rattle.vl_lex.specs.declared.branches.Branch.{Branch}
use Rattle.vl_lex.specs.Bytes.{Text}
use Rattle.vl_lex.specs.Lexed.{Placed}
use Rattle.vl_lex.specs.Gate.{SGate, Reached, and_then, Ends, IsStop, fault_at, halt_reason, flushed}
use Rattle.vl_lex.specs.Macros.{directive_of, directive_name, is_directive}
use Rattle.vl_lex.specs.Walk.{SState, SBranches, Acted, most_files, with_listed, refused, name_after, is_quoted, inner_text, is_file_name, find_file, enter_at, list_turn, include_turn, act, is_branch_word, branch_turn, step_branch, passed, fed_state, directive_step, step, ended, LexHalts, define_turn, undef_with, undef_turn, nettype_with, nettype_turn, macro_turn}
use Rattle.vl_lex.specs.Asked.{is_include, lacking, asked_name, asked_include, asked}
use Rattle.vl_lex.proofs.Absent.{Fine, Well, halts, flushes, refuses, defines, undefines, nettypes, uses, branches, feeds_state}

-- the name that an outcome asks for
abbrev pub need_of : {S : Type 0} → Reached S → Option Text
need_of (Ok a) = None
need_of (Err (h.Stop s)) = None
need_of (Err (h.Need n)) = Some n

abbrev pub Never : Text → Type 0
Never n = ⊥

never : {S : Type 0} (o : Reached S) → Well Never o → need_of o ≡ None
never (Ok a) w = refl
never (Err (h.Stop s)) w = refl
never (Err (h.Need n)) w = absurd w

pub needs : {S : Type 0} (o : Reached S) (name : Text) → need_of o ≡ Some name → o ≡ Err (h.Need name)
needs (Ok a) name e = absurd (cc)
needs (Err (h.Stop s)) name e = absurd (cc)
needs (Err (h.Need n)) name e = let q : n ≡ name = cc in ap (λ z. Err (h.Need z)) q

enter_needs : (o : Option ℕ) (s : SState) (name : Text) → need_of (enter_at o s name) ≡ lacking o name
enter_needs None s name = refl
enter_needs (Some i) s name = refl

list_cases : (o : Option ℕ) (s w : SState) (name : Text) (c f : Bool)
    → need_of (if c then enter_at o s name else (if f then Err (halt_reason s.gate (h.Stop (stop.Limit code.Files))) else enter_at o w name)) ≡ (if c || not f then lacking o name else None)
list_cases o s w name true f = enter_needs o s name
list_cases o s w name false true = never {S = Acted} (Err (halt_reason s.gate (h.Stop (stop.Limit code.Files)))) (halts Never s.gate (h.Stop (stop.Limit code.Files)) tt)
list_cases o s w name false false = enter_needs o w name

within : (n m : ℕ) → nat_lt n m ≡ not (nat_le m n)
within n m = grind (arith, nat_tests)

list_needs : (files : List File) (s : SState) (name : Text) → need_of (list_turn files s name) ≡ asked_name files s name
unfolding list_turn asked_name
list_needs files s name =
    list_cases (find_file 0 name files) s (with_listed s (s.listed ++ name ∷ [])) name (list_any (λ n. bytes_eq n name) s.listed) (nat_le most_files (length s.listed))
    ∙ ap (λ z. if list_any (λ n. bytes_eq n name) s.listed || z then lacking (find_file 0 name files) name else None) (sym (within (length s.listed) most_files))

include_cases : (files : List File) (s : SState) (t : Placed) (name : Text) (c f : Bool)
    → need_of (if c then (if f then refused s code.IncludeDepth t else list_turn files s name) else refused s code.Directive t) ≡ (if c then (if f then None else asked_name files s name) else None)
include_cases files s t name true true = never (refused s code.IncludeDepth t) (refuses Never s code.IncludeDepth t)
include_cases files s t name true false = list_needs files s name
include_cases files s t name false f = never (refused s code.Directive t) (refuses Never s code.Directive t)

include_needs : (levels : ℕ) (files : List File) (s : SState) (t : Placed) (ts : List Placed) → need_of (include_turn levels files s t ts) ≡ asked_include levels files s t ts
unfolding include_turn asked_include
include_needs levels files s t [] = never (refused s code.Directive t) (refuses Never s code.Directive t)
include_needs levels files s t (n ∷ ns) =
    include_cases files s t (inner_text n.token.text) (n.row == t.row && is_quoted n.token.kind && is_file_name (inner_text n.token.text)) (levels == 0)

act_needs : (levels : ℕ) (files : List File) (k : Directive) (s : SState) (t : Placed) (ts : List Placed) → need_of (act levels files k s t ts) ≡ (if is_include k then asked_include levels files s t ts else None)
unfolding act undef_turn nettype_turn
act_needs levels files d.Define s t ts = never (define_turn s t ts) (defines Never s t ts)
act_needs levels files d.Undef s t ts = never (undef_with s t (name_after t.row ts)) (undefines Never s t (name_after t.row ts))
act_needs levels files d.Include s t ts = include_needs levels files s t ts
act_needs levels files d.DefaultNettype s t ts = never (nettype_with s t (name_after t.row ts)) (nettypes Never s t (name_after t.row ts))
act_needs levels files d.ResetAll s t ts = refl
act_needs levels files d.DropsLine s t ts = refl
act_needs levels files d.UnconnectedDrive s t ts = never (refused s code.LeftOut t) (refuses Never s code.LeftOut t)
act_needs levels files d.Macro s t ts = never (macro_turn s t) (uses Never s t)
act_needs levels files _ s t ts = refl

then_needs : {A B : Type 0} (o : Reached A) (f : A → Reached B) (n : Option Text) → need_of o ≡ n → ((a : A) → need_of (f a) ≡ None) → need_of (and_then o f) ≡ n
then_needs (Ok a) f n e k = k a ∙ e
then_needs (Err (h.Stop s)) f n e k = e
then_needs (Err (h.Need m)) f n e k = e

branch_word : (k : Directive) → is_branch_word k ≡ true → is_include k ≡ false
branch_word d.IfDef e = refl
branch_word d.IfNdef e = refl
branch_word d.ElsIf e = refl
branch_word d.Else e = refl
branch_word d.EndIf e = refl
branch_word d.Include e = absurd (cc)
branch_word _ e = refl

directive_cases : (levels : ℕ) (files : List File) (k : Directive) (bs : SBranches) (s : SState) (t : Placed) (ts : List Placed) (b : Bool) (c f : Bool) → is_include k ≡ f → is_branch_word k ≡ b
    → need_of (if b then step_branch bs s t (branch_turn k bs s.table t.row ts) else (if c then and_then (act levels files k s t ts) (λ a. Ok (record { branches = bs; state = a.state; more = a.more; enter = a.enter })) else passed bs s))
    ≡ (if c && f then asked_include levels files s t ts else None)
directive_cases levels files k bs s t ts true c true i e = absurd (cc (branch_word k e))
directive_cases levels files k bs s t ts true true false i e = never (step_branch bs s t (branch_turn k bs s.table t.row ts)) (branches Never bs s t (branch_turn k bs s.table t.row ts))
directive_cases levels files k bs s t ts true false false i e = never (step_branch bs s t (branch_turn k bs s.table t.row ts)) (branches Never bs s t (branch_turn k bs s.table t.row ts))
directive_cases levels files k bs s t ts false false f i e = refl
directive_cases levels files k bs s t ts false true f i e =
    then_needs (act levels files k s t ts) (λ a. Ok (record { branches = bs; state = a.state; more = a.more; enter = a.enter })) (if f then asked_include levels files s t ts else None)
    (act_needs levels files k s t ts ∙ ap (λ z. if z then asked_include levels files s t ts else None) i) (λ a. refl)

step_cases : (levels : ℕ) (files : List File) (k : Directive) (bs : SBranches) (s : SState) (t : Placed) (ts : List Placed) (b c : Bool)
    → need_of (if b then directive_step levels files k bs s t ts else (if c then and_then (fed_state s t) (λ n. passed bs n) else passed bs s))
    ≡ (if b && bs.active && is_include k then asked_include levels files s t ts else None)
unfolding directive_step
step_cases levels files k bs s t ts true c = directive_cases levels files k bs s t ts (is_branch_word k) bs.active (is_include k) refl refl
step_cases levels files k bs s t ts false true = then_needs (fed_state s t) (λ n. passed bs n) None (never (fed_state s t) (feeds_state Never s t)) (λ n. refl)
step_cases levels files k bs s t ts false false = refl

pub step_needs : (levels : ℕ) (files : List File) (bs : SBranches) (s : SState) (t : Placed) (ts : List Placed) → need_of (step levels files bs s t ts) ≡ asked levels files bs s t ts
unfolding step asked
step_needs levels files bs s t ts = step_cases levels files (directive_of (directive_name t.token)) bs s t ts (is_directive t.token.kind) bs.active

-- no file is asked for where none is

pub step_asks : (levels : ℕ) (files : List File) (bs : SBranches) (s : SState) (t : Placed) (ts : List Placed) (name : Text) → asked levels files bs s t ts ≡ Some name → step levels files bs s t ts ≡ Err (h.Need name)
step_asks levels files bs s t ts name e = needs (step levels files bs s t ts) name (step_needs levels files bs s t ts ∙ e)

pub step_asks_none : (levels : ℕ) (files : List File) (bs : SBranches) (s : SState) (t : Placed) (ts : List Placed) (name : Text) → asked levels files bs s t ts ≡ None → step levels files bs s t ts ≡ Err (h.Need name) → ⊥
step_asks_none levels files bs s t ts name e n =
    let q : Some name ≡ None = sym (ap (λ z. need_of z) n) ∙ (step_needs levels files bs s t ts ∙ e) in absurd (cc)

no_reason : (g : SGate) (f : Fault) (name : Text) → halt_reason g (h.Stop (stop.Fault f)) ≡ h.Need name → ⊥
no_reason g f name e = subst (λ z. Fine Never z) e (halts Never g (h.Stop (stop.Fault f)) tt)

pub step_stop : (levels : ℕ) (files : List File) (bs : SBranches) (s : SState) (t : Placed) (ts : List Placed) (e : Halt) → asked levels files bs s t ts ≡ None → Ends e (step levels files bs s t ts) → IsStop e
step_stop levels files bs s t ts (h.Stop x) n g = tt
step_stop levels files bs s t ts (h.Need name) n g = step_asks_none levels files bs s t ts name n g

pub lex_stop : (e : Halt) (g : SGate) (flaw : Option Fault) → LexHalts e g flaw → IsStop e
lex_stop (h.Stop x) g flaw l = tt
lex_stop (h.Need name) g (Some f) l = no_reason g f name l
lex_stop (h.Need name) g None l = absurd (cc)

need_end : (bs : List Branch) (s : SState) (file line : ℕ) (name : Text) → ended bs s (fault_at code.Directive file line) ≡ Err (h.Need name) → ⊥
need_end [] s file line name e = absurd (cc)
need_end (b ∷ bs) s file line name e = let q : halt_reason s.gate (fault_at code.Directive file line) ≡ h.Need name = cc in no_reason s.gate _ name q

pub end_stop : (bs : List Branch) (s : SState) (file line : ℕ) (end e : Halt) → end ≡ fault_at code.Directive file line → Ends e (ended bs s end) → IsStop e
end_stop bs s file line end (h.Stop x) q g = tt
end_stop bs s file line end (h.Need name) q g = need_end bs s file line name (ap (λ z. ended bs s z) (sym q) ∙ g)

pub flush_stop : (g : SGate) (e : Halt) → Ends e (flushed g) → IsStop e
flush_stop g (h.Stop x) k = tt
flush_stop g (h.Need name) k = let P : Reached SGate → Type 0 = λ z. Well Never z in subst P k (flushes Never g)
