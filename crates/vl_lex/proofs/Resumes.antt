-- Parts of a walk that may stop where a file is asked for.
use Rattle.std.proofs.Common.{◌≡◌, ℕ, zero, suc, ◌+◌, ◌-◌, ◌<◌, ◌≤◌, ◌^◌, Option, Some, None, Ok, Err, List, [], ◌∷◌, ◌++◌, length, map, drop, get_or, slice_index_or, refl, ap, sym, ◌∙◌, subst, arith}
use Rattle.std.proofs.lemmas.List.{append-nil, map-append}
use Rattle.bits_core.specs.declared.names.File.{File}
use Rattle.vl_tree.specs.declared.faults.Code.TheVariants as code
use Rattle.vl_tree.specs.declared.faults.Stop.{Stop}
use Rattle.vl_lex.specs.declared.source.Source.{Source}
use Rattle.vl_lex.specs.declared.lexer.Lined.{Lined}
use denote.Ref.{Bor}
use Rattle.std.specs.Global.{Vec}
use Rattle.vl_lex.specs.declared.opened.Open.{Open}
use Rattle.vl_lex.specs.declared.opened.Passed.{Passed}
use Rattle.vl_lex.specs.declared.opened.Passed.TheVariants as p
use Rattle.vl_lex.specs.declared.gate.Halt.{Halt}
use Rattle.vl_lex.specs.declared.gate.Halt.TheVariants as h
use Rattle.vl_lex.specs.Bytes.{Text}
use Rattle.vl_lex.specs.Lexed.{placed, file_tokens}
use Rattle.vl_lex.specs.Gate.{Reached, and_then, Ends, IsStop, fault_at}
use Rattle.vl_lex.specs.Sources.{AreSmall, files_of}
use Rattle.vl_lex.specs.Walk.{last_line, SState, SBranches, no_branches, bytes_of, walked_file, walked, inner_of, Step, step, entered, ended, reachable}
use Rattle.vl_lex.specs.Asked.{asked}
use Rattle.vl_lex.specs.Paused.{Passes, SOpen, open_view, opens_view, walked_open, resumed}
use Rattle.vl_lex.proofs.Gives.{gives_end, ends_as}
use Rattle.vl_lex.proofs.Walks.{walk_begins, step_stops, inner_stops, step_goes, walk_over, enters_file, enters_none, reached, step_waits}
use Rattle.vl_lex.proofs.Shelves.{same_bytes, step_alike, StepWithin, Enters}
use Rattle.vl_lex.proofs.Needs.{step_asks}

pub is_stop : (e : Halt) → ((name : Text) → e ≡ h.Need name → ⊥) → IsStop e
is_stop (h.Stop s) n = tt
is_stop (h.Need name) n = absurd (n name refl)

pub ends_stop : {S : Type 0} (e : Halt) (s : Stop) (o : Reached S) → e ≡ h.Stop s → Ends e o → Ends (h.Stop s) o
ends_stop e s o q g = subst (λ z. Ends z o) q g

pub need_is : {S : Type 0} (name : Text) (o : Reached S) → Ends (h.Need name) o → o ≡ Err (h.Need name)
need_is name o g = g

pub below : (n m k : ℕ) → k ≡ m → n < k → n < m
below n m k e l = omega (arith, e, l)

pub at_end : (n m k : ℕ) → k ≡ m → k ≤ n → m ≤ n
at_end n m k e l = omega (arith, e, l)

-- sources and the files that they are

pub files_length : (sources : List Source) → length (files_of sources) ≡ length sources
files_length [] = refl
files_length (s ∷ ss) = ap suc (files_length ss)

pub bytes_there : (i : ℕ) (d s : Source) (sources : List Source) → i < length sources → get_or sources i d ≡ s → bytes_of i (files_of sources) ≡ s.bytes.now
bytes_there i d s [] l e = absurd (omega arith)
bytes_there zero d s (x ∷ xs) l e = ap (λ z. z.bytes.now) e
bytes_there (suc i) d s (x ∷ xs) l e = bytes_there i d s xs (omega arith) e

pub small_there : (i : ℕ) (d : Source) (sources : List Source) → AreSmall (files_of sources) → i < length sources → length (slice_index_or sources i d).bytes.now ≤ 2 ^ 24
small_there i d sources small l =
    let k : i < length (files_of sources) = omega (arith, files_length sources, l) in
    subst (λ z. length z ≤ 2 ^ 24) (bytes_there i d (get_or sources i d) sources l refl) (small i k)

-- a file is opened
pub opens : (levels : ℕ) (files more : List File) (i line : ℕ) (s s1 : SState) (bytes : Text) (lined : List Lined) (bs : SBranches) → i < length files → bytes_of i files ≡ bytes
    → (map placed lined ≡ (file_tokens i bytes).tokens) × ((file_tokens i bytes).flaw ≡ None) → line ≡ last_line bytes → bs ≡ no_branches → s1 ≡ s
    → walked_open (files ++ more) (record { levels = levels; end = fault_at code.Directive i line; branches = bs; behind = map placed lined }) s1 ≡ walked_file levels (files ++ more) i s
unfolding walked_open
opens levels files more i line s s1 bytes lined bs l b t n z q =
    let there : bytes_of i (files ++ more) ≡ bytes = same_bytes i files more l ∙ b in
    ap (λ k. walked levels (files ++ more) (inner_of levels (files ++ more)) (fault_at code.Directive i k) 0 bs s1 (map placed lined)) n
    ∙ (ap (λ k. walked levels (files ++ more) (inner_of levels (files ++ more)) (fault_at code.Directive i (last_line bytes)) 0 k s1 (map placed lined)) z
    ∙ (ap (λ k. walked levels (files ++ more) (inner_of levels (files ++ more)) (fault_at code.Directive i (last_line bytes)) 0 no_branches k (map placed lined)) q
    ∙ walk_begins levels (files ++ more) i s bytes lined there t.0 t.1))

-- what holds over all longer lists of files holds over this one
pub over_these : {S : Type 0} (files : List File) (f g : List File → Reached S) → ((more : List File) → f (files ++ more) ≡ g (files ++ more)) → f files ≡ g files
over_these {S = S} files f g k = subst (λ z. f z ≡ g z) (append-nil files) (k [])

-- the turns of the walk over an open file, over all longer lists of files
module _ (levels : ℕ) (files : List File) (end : Halt) (bs : SBranches) (s : SState) (xs : List Lined) (at : ℕ) (d0 t : Lined) (rest : List Lined) (whole : List File → Reached SState)
    (less : at < length xs) (here : get_or xs at d0 ≡ t) (behind : rest ≡ drop (at + 1) xs)
    (inv : (more : List File) → walked levels (files ++ more) (inner_of levels (files ++ more)) end 0 bs s (map placed (drop at xs)) ≡ whole (files ++ more)) where
  these : walked levels files (inner_of levels files) end 0 bs s (map placed (drop at xs)) ≡ whole files
  these = over_these files (λ fs. walked levels fs (inner_of levels fs) end 0 bs s (map placed (drop at xs))) whole inv

  -- the token asks for a file: it is the first of what is left
  pub here_left : (more : List File) → whole (files ++ more) ≡ resumed (files ++ more) ((record { levels = levels; end = end; branches = bs; behind = map placed (drop at xs) }) ∷ []) s
  unfolding walked_open
  here_left more = sym (inv more)

  -- the step ends the walk
  pub stops_at : (e : Halt) → Ends e (step levels files bs s (placed t) (map placed rest)) → Ends e (whole files)
  stops_at e g = step_stops levels files (inner_of levels files) end bs s xs at d0 t rest (whole files) less here behind these e g

  pub asks_at : (name : Text) → asked levels files bs s (placed t) (map placed rest) ≡ Some name → whole files ≡ Err (h.Need name)
  asks_at name a = stops_at (h.Need name) (step_asks levels files bs s (placed t) (map placed rest) name a)

  module _ (p : Step) (is : step levels files bs s (placed t) (map placed rest) ≡ Ok p) where
    alike : (more : List File) → step levels (files ++ more) bs s (placed t) (map placed rest) ≡ Ok p
    alike more =
        let a = step_alike levels files more bs s (placed t) (map placed rest) in
        a.0 (λ name e. let q : Ok p ≡ Err (h.Need name) = sym is ∙ e in absurd (cc)) ∙ is

    within : StepWithin files (Ok p)
    within = subst (λ z. StepWithin files z) is (step_alike levels files [] bs s (placed t) (map placed rest)).1

    pub enters_there : (j : ℕ) → reachable levels p.enter ≡ Some j → j < length files
    enters_there j e = let P : Option ℕ → Type 0 = λ z. Enters files z in subst P (reached levels p.enter j e) within

    -- the file that is entered could not be opened
    pub entered_ends : (j : ℕ) (e : Halt) → reachable levels p.enter ≡ Some j → Ends e (walked_file (levels - 1) files j p.state) → Ends e (whole files)
    entered_ends j e enter g =
        inner_stops levels files (inner_of levels files) end bs s xs at d0 t rest (whole files) less here behind these e p is
        (ends_as e (walked_file (levels - 1) files j p.state) (entered (inner_of levels files) p.enter p.state) (sym (enters_file levels files p.enter j p.state enter).1) g)

    -- no file is entered
    pub passes_on : (next : ℕ) → reachable levels p.enter ≡ None → drop next xs ≡ drop (at + 1 + p.more) xs
        → (more : List File) → walked levels (files ++ more) (inner_of levels (files ++ more)) end 0 p.branches p.state (map placed (drop next xs)) ≡ whole (files ++ more)
    passes_on next none place more =
        step_goes levels (files ++ more) (inner_of levels (files ++ more)) end bs s xs at d0 t rest (whole (files ++ more)) less here behind (inv more) p.state p next (alike more)
        (enters_none levels (files ++ more) p.enter p.state none) place

    module _ (j next : ℕ) (o : SOpen) (s1 : SState) (enter : reachable levels p.enter ≡ Some j) (place : drop next xs ≡ drop (at + 1 + p.more) xs)
        (inner : (more : List File) → walked_open (files ++ more) o s1 ≡ walked_file (levels - 1) (files ++ more) j p.state) where
      enters_so : (fs : List File) → entered (inner_of levels fs) p.enter p.state ≡ walked_file (levels - 1) fs j p.state
      enters_so fs = (enters_file levels fs p.enter j p.state enter).1

      inner_here : walked_open files o s1 ≡ walked_file (levels - 1) files j p.state
      inner_here = over_these files (λ fs. walked_open fs o s1) (λ fs. walked_file (levels - 1) fs j p.state) inner

      -- the file that is entered ends the walk
      pub inner_ends : (e : Halt) → Ends e (walked_open files o s1) → Ends e (whole files)
      inner_ends e g =
          inner_stops levels files (inner_of levels files) end bs s xs at d0 t rest (whole files) less here behind these e p is
          (ends_as e (walked_open files o s1) (entered (inner_of levels files) p.enter p.state) (inner_here ∙ sym (enters_so files)) g)

      -- the file that is entered comes to its end
      pub inner_on : (n : SState) → ((more : List File) → walked_open (files ++ more) o s1 ≡ Ok n)
          → (more : List File) → walked levels (files ++ more) (inner_of levels (files ++ more)) end 0 p.branches n (map placed (drop next xs)) ≡ whole (files ++ more)
      inner_on n done more =
          step_goes levels (files ++ more) (inner_of levels (files ++ more)) end bs s xs at d0 t rest (whole (files ++ more)) less here behind (inv more) n p next (alike more)
          (enters_so (files ++ more) ∙ (sym (inner more) ∙ done more)) place

      -- the file that is entered asks for a file: it and what it includes are left, and then this one
      pub inner_left : (opens : List SOpen) (n : SState) → ((more : List File) → walked_open (files ++ more) o s1 ≡ resumed (files ++ more) opens n)
          → (more : List File) → whole (files ++ more) ≡ resumed (files ++ more) ((record { levels = levels; end = end; branches = p.branches; behind = map placed (drop next xs) }) ∷ opens) n
      unfolding walked_open
      inner_left opens n left more =
          step_waits levels (files ++ more) (inner_of levels (files ++ more)) end bs s xs at d0 t rest (whole (files ++ more)) less here behind (inv more) p next (alike more) place
          ∙ ap (λ z. and_then z (λ k. walked levels (files ++ more) (inner_of levels (files ++ more)) end 0 p.branches k (map placed (drop next xs)))) (enters_so (files ++ more) ∙ (sym (inner more) ∙ left more))

-- the end of an open file
pub open_over : (levels : ℕ) (files : List File) (end : Halt) (bs : SBranches) (s n : SState) (xs : List Lined) (at : ℕ) (whole : List File → Reached SState) → length xs ≤ at
    → ((more : List File) → walked levels (files ++ more) (inner_of levels (files ++ more)) end 0 bs s (map placed (drop at xs)) ≡ whole (files ++ more)) → ended bs.stack s end ≡ Ok n
    → (more : List File) → whole (files ++ more) ≡ Ok n
open_over levels files end bs s n xs at whole l inv e more = sym (walk_over levels (files ++ more) (inner_of levels (files ++ more)) end bs s xs at (whole (files ++ more)) l (inv more)) ∙ e

pub open_halts : (levels : ℕ) (files : List File) (end : Halt) (bs : SBranches) (s : SState) (xs : List Lined) (at : ℕ) (whole : List File → Reached SState) (e : Halt) → length xs ≤ at
    → ((more : List File) → walked levels (files ++ more) (inner_of levels (files ++ more)) end 0 bs s (map placed (drop at xs)) ≡ whole (files ++ more)) → Ends e (ended bs.stack s end)
    → Ends e (whole files)
open_halts levels files end bs s xs at whole e l inv g =
    ends_as e (ended bs.stack s end) (whole files)
    (walk_over levels files (inner_of levels files) end bs s xs at (whole files) l (over_these files (λ fs. walked levels fs (inner_of levels fs) end 0 bs s (map placed (drop at xs))) whole inv)) g

-- the open files

then_ok : (files : List File) (o : Reached SState) → and_then o (resumed files []) ≡ o
then_ok files (Ok n) = refl
then_ok files (Err e) = refl

pub then_then : {A B C : Type 0} (o : Reached A) (f : A → Reached B) (g : B → Reached C) → and_then (and_then o f) g ≡ and_then o (λ a. and_then (f a) g)
then_then (Ok a) f g = refl
then_then (Err e) f g = refl

resumed_last : (files : List File) (os : List SOpen) (o : SOpen) (s : SState) → resumed files (os ++ o ∷ []) s ≡ and_then (walked_open files o s) (resumed files os)
resumed_last files [] o s = sym (then_ok files (walked_open files o s))
resumed_last files (x ∷ os) o s = ap (λ z. and_then z (walked_open files x)) (resumed_last files os o s) ∙ then_then (walked_open files o s) (resumed files os) (walked_open files x)

resumed_both : (files : List File) (os ps : List SOpen) (s : SState) → resumed files (os ++ ps) s ≡ and_then (resumed files ps s) (resumed files os)
resumed_both files [] ps s = sym (then_ok files (resumed files ps s))
resumed_both files (x ∷ os) ps s = ap (λ z. and_then z (walked_open files x)) (resumed_both files os ps s) ∙ then_then (resumed files ps s) (resumed files os) (walked_open files x)

-- the innermost of the open files
module _ (files : List File) (os : List SOpen) (o : SOpen) (s : SState) (whole : List File → Reached SState)
    (inv : (more : List File) → resumed (files ++ more) (os ++ o ∷ []) s ≡ whole (files ++ more)) where
  last_so : (more : List File) → whole (files ++ more) ≡ and_then (walked_open (files ++ more) o s) (resumed (files ++ more) os)
  last_so more = sym (inv more) ∙ resumed_last (files ++ more) os o s

  pub last_done : (n : SState) → ((more : List File) → walked_open (files ++ more) o s ≡ Ok n) → (more : List File) → resumed (files ++ more) os n ≡ whole (files ++ more)
  last_done n done more = sym (last_so more ∙ ap (λ z. and_then z (resumed (files ++ more) os)) (done more))

  pub last_left : (ps : List SOpen) (n : SState) → ((more : List File) → walked_open (files ++ more) o s ≡ resumed (files ++ more) ps n) → (more : List File) → whole (files ++ more) ≡ resumed (files ++ more) (os ++ ps) n
  last_left ps n left more = last_so more ∙ (ap (λ z. and_then z (resumed (files ++ more) os)) (left more) ∙ sym (resumed_both (files ++ more) os ps n))

  pub last_ends : (e : Halt) → Ends e (walked_open files o s) → Ends e (whole files)
  last_ends e g =
      ends_as e (and_then (walked_open files o s) (resumed files os)) (whole files) (sym (over_these files whole (λ fs. and_then (walked_open fs o s) (resumed fs os)) last_so))
      (gives_end e (walked_open files o s) (resumed files os) g)

pub opens_split : (all front : List Open) (x : Open) → all ≡ front ++ x ∷ [] → opens_view all ≡ opens_view front ++ open_view x ∷ []
opens_split all front x e = ap opens_view e ∙ map-append open_view front (x ∷ [])

pub both_opens : (all front behind : List Open) → all ≡ front ++ behind → opens_view all ≡ opens_view front ++ opens_view behind
both_opens all front behind e = ap opens_view e ∙ map-append open_view front behind

pub one_open : (os : List Open) (o : Open) (inner : List Open) → os ≡ o ∷ inner → inner ≡ [] → opens_view os ≡ open_view o ∷ []
one_open os o inner e n = ap opens_view (e ∙ ap (λ z. o ∷ z) n)

-- the two answers of a part of a walk

pub passes_done : (r : Passed) (files : List File) (walk : List File → Reached SState) (n : SState) → r ≡ p.Done → Passes (Ok r) files walk n → (more : List File) → walk (files ++ more) ≡ Ok n
passes_done r files walk n e g = let P : Passed → Type 0 = λ z. Passes (Ok z) files walk n in subst P e g

pub passes_asks : (r : Passed) (name : Bor Text) (opens : Vec Open) (files : List File) (walk : List File → Reached SState) (n : SState) → r ≡ p.Asks name opens → Passes (Ok r) files walk n
    → (walk files ≡ Err (h.Need name.now)) × ((more : List File) → walk (files ++ more) ≡ resumed (files ++ more) (opens_view opens.items) n)
passes_asks r name opens files walk n e g = let P : Passed → Type 0 = λ z. Passes (Ok z) files walk n in subst P e g
