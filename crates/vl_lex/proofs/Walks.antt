-- Turns of the walk over a file.
use Rattle.std.proofs.Common.{◌≡◌, ℕ, zero, suc, ◌+◌, ◌-◌, ◌<◌, ◌≤◌, ◌==◌, false, Option, Some, None, Ok, Err, List, [], ◌∷◌, length, map, drop, get_or, refl, ap, sym, ◌∙◌, subst, arith}
use Rattle.std.proofs.lemmas.List.{drop-drop}
use Rattle.std.proofs.lemmas.Bool.Decides.{nat_tests}
use Rattle.bits_core.specs.declared.names.File.{File}
use Rattle.vl_tree.specs.declared.faults.Fault.{Fault}
use Rattle.vl_tree.specs.declared.faults.Code.TheVariants as code
use Rattle.vl_tree.specs.declared.faults.Stop.TheVariants as stop
use Rattle.vl_lex.specs.declared.lexer.Lined.{Lined}
use Rattle.vl_lex.specs.declared.gate.Halt.{Halt}
use Rattle.vl_lex.specs.declared.gate.Halt.TheVariants as h
use Rattle.vl_lex.specs.Bytes.{Text}
use Rattle.vl_lex.specs.Lexed.{Placed, placed, Lexed, lexed, file_tokens}
use Rattle.vl_lex.specs.Gate.{Reached, and_then, Ends, fault_at, halt_reason}
use Rattle.vl_lex.specs.Walk.{ends_line, last_line, SState, SBranches, no_branches, bytes_of, walked_file, walked_bytes, walked_lexed, walked, inner_of, LexHalts, Step, step, entered, ended, reachable}
use Rattle.vl_lex.proofs.Gives.{none_behind, split_items, gives_end, ends_as, reason_ends}

pub line_ends : (bytes : Text) → 0 < length bytes → ends_line bytes ≡ (get_or bytes (length bytes - 1) 0 == 10)
line_ends [] h = absurd (omega arith)
line_ends (b ∷ []) h = refl
line_ends (b ∷ c ∷ bs) h =
    let e1 : suc (suc (length bs)) - 1 ≡ suc (length bs) = omega arith in
    let e2 : suc (length bs) - 1 ≡ length bs = omega arith in
    let k : ends_line (c ∷ bs) ≡ (get_or (c ∷ bs) (suc (length bs) - 1) 0 == 10) = line_ends (c ∷ bs) (omega arith) in
    k ∙ (ap (λ n. get_or (c ∷ bs) n 0 == 10) e2 ∙ ap (λ n. get_or (b ∷ c ∷ bs) n 0 == 10) (sym e1))

pub past_end : (xs : List Lined) (at more : ℕ) → length xs ≤ at + more → drop (length xs) xs ≡ drop (at + 1 + more) xs
past_end xs at more h = none_behind xs (length xs) (omega arith) ∙ sym (none_behind xs (at + 1 + more) (omega arith))

pub ruleset lexes = (past_end, line_ends)

pub bytes_at : (i : ℕ) (d f : File) (files : List File) → i < length files → get_or files i d ≡ f → bytes_of i files ≡ f.bytes
bytes_at i d f [] h e = absurd (omega arith)
bytes_at zero d f (g ∷ files) h e = ap (λ z. z.bytes) e
bytes_at (suc i) d f (g ∷ files) h e = bytes_at i d f files (omega arith) e

no_bytes : (i : ℕ) (files : List File) → length files ≤ i → bytes_of i files ≡ []
no_bytes i [] h = refl
no_bytes zero (g ∷ files) h = absurd (omega arith)
no_bytes (suc i) (g ∷ files) h = no_bytes i files (omega arith)

pub file_is : (levels : ℕ) (files : List File) (i : ℕ) (s : SState) → walked_file levels files i s ≡ walked_bytes levels files (inner_of levels files) i (bytes_of i files) s
unfolding walked_file
file_is zero files i s = refl
file_is (suc levels) files i s = refl

nothing_walked : (levels : ℕ) (files : List File) (inner : ℕ → SState → Reached SState) (i : ℕ) (s : SState) → walked_bytes levels files inner i [] s ≡ Ok s
unfolding walked_bytes walked lexed
nothing_walked levels files inner i s = refl

-- no file has this number
pub past_files : (levels : ℕ) (files : List File) (i : ℕ) (s : SState) → length files ≤ i → walked_file levels files i s ≡ Ok s
past_files levels files i s h =
    file_is levels files i s ∙ (ap (λ z. walked_bytes levels files (inner_of levels files) i z s) (no_bytes i files h) ∙ nothing_walked levels files (inner_of levels files) i s)

-- a file that could be lexed
pub walk_begins : (levels : ℕ) (files : List File) (i : ℕ) (s : SState) (bytes : Text) (lined : List Lined) → bytes_of i files ≡ bytes
    → map placed lined ≡ (file_tokens i bytes).tokens → (file_tokens i bytes).flaw ≡ None
    → walked levels files (inner_of levels files) (fault_at code.Directive i (last_line bytes)) 0 no_branches s (map placed lined) ≡ walked_file levels files i s
unfolding walked_bytes
walk_begins levels files i s bytes lined b t n =
    sym (file_is levels files i s ∙ (ap (λ z. walked_bytes levels files (inner_of levels files) i z s) b
    ∙ (ap (walked_lexed levels files (inner_of levels files) (fault_at code.Directive i (last_line bytes)) s (file_tokens i bytes)) n
    ∙ ap (walked levels files (inner_of levels files) (fault_at code.Directive i (last_line bytes)) 0 no_branches s) (sym t))))

lex_ends : (levels : ℕ) (files : List File) (inner : ℕ → SState → Reached SState) (end e : Halt) (s : SState) (l : Lexed) (flaw : Option Fault) → LexHalts e s.gate flaw
    → Ends e (walked_lexed levels files inner end s l flaw)
lex_ends levels files inner end e s l (Some f) why = reason_ends e (halt_reason s.gate (h.Stop (stop.Fault f))) _ why refl
lex_ends levels files inner end e s l None why = let P : Halt → Type 0 = λ z. Ends z (walked_lexed levels files inner end s l None) in subst P (sym why) tt

-- a file that could not be lexed
pub walk_refused : (levels : ℕ) (files : List File) (i : ℕ) (s : SState) (bytes : Text) (e : Halt) → bytes_of i files ≡ bytes → LexHalts e s.gate (file_tokens i bytes).flaw
    → Ends e (walked_file levels files i s)
unfolding walked_bytes
walk_refused levels files i s bytes e b h =
    ends_as e _ (walked_file levels files i s)
    (sym (file_is levels files i s ∙ ap (λ z. walked_bytes levels files (inner_of levels files) i z s) b))
    (lex_ends levels files (inner_of levels files) (fault_at code.Directive i (last_line bytes)) e s (file_tokens i bytes) (file_tokens i bytes).flaw h)

drop_placed : (k : ℕ) (xs : List Lined) → drop k (map placed xs) ≡ map placed (drop k xs)
drop_placed zero xs = refl
drop_placed (suc k) [] = refl
drop_placed (suc k) (x ∷ xs) = drop_placed k xs

skips : (levels : ℕ) (files : List File) (inner : ℕ → SState → Reached SState) (end : Halt) (k : ℕ) (bs : SBranches) (s : SState) (ts : List Placed)
    → walked levels files inner end k bs s ts ≡ walked levels files inner end 0 bs s (drop k ts)
unfolding walked
skips levels files inner end zero bs s ts = refl
skips levels files inner end (suc k) bs s [] = refl
skips levels files inner end (suc k) bs s (t ∷ ts) = skips levels files inner end k bs s ts

begins : (levels : ℕ) (files : List File) (inner : ℕ → SState → Reached SState) (end : Halt) (bs : SBranches) (s : SState) (t : Placed) (ts : List Placed)
    → walked levels files inner end 0 bs s (t ∷ ts) ≡ and_then (step levels files bs s t ts) (λ p. and_then (entered inner p.enter p.state) (λ n. walked levels files inner end p.more p.branches n ts))
unfolding walked
begins levels files inner end bs s t ts = refl

ends_walk : (levels : ℕ) (files : List File) (inner : ℕ → SState → Reached SState) (end : Halt) (bs : SBranches) (s : SState) → walked levels files inner end 0 bs s [] ≡ ended bs.stack s end
unfolding walked
ends_walk levels files inner end bs s = refl

pub then_each : {A B : Type 0} (o : Reached A) (f g : A → Reached B) → ((a : A) → f a ≡ g a) → and_then o f ≡ and_then o g
then_each (Ok a) f g k = k a
then_each (Err e) f g k = refl

-- a turn of the loop over the tokens of a file
module _ (levels : ℕ) (files : List File) (inner : ℕ → SState → Reached SState) (end : Halt) (bs : SBranches) (s : SState) (xs : List Lined) (at : ℕ) (d0 t : Lined) (rest : List Lined) (whole : Reached SState)
    (less : at < length xs) (here : get_or xs at d0 ≡ t) (behind : rest ≡ drop (at + 1) xs) (inv : walked levels files inner end 0 bs s (map placed (drop at xs)) ≡ whole) where
  turned : whole ≡ and_then (step levels files bs s (placed t) (map placed rest)) (λ p. and_then (entered inner p.enter p.state) (λ n. walked levels files inner end p.more p.branches n (map placed rest)))
  turned = sym inv ∙ (ap (λ z. walked levels files inner end 0 bs s (map placed z)) (split_items xs at d0 t less here ∙ ap (λ z. t ∷ z) (sym behind))
      ∙ begins levels files inner end bs s (placed t) (map placed rest))

  pub step_stops : (e : Halt) → Ends e (step levels files bs s (placed t) (map placed rest)) → Ends e whole
  step_stops e g = ends_as e _ whole (sym turned) (gives_end e _ _ g)

  pub inner_stops : (e : Halt) (p : Step) → step levels files bs s (placed t) (map placed rest) ≡ Ok p → Ends e (entered inner p.enter p.state) → Ends e whole
  inner_stops e p is g =
      ends_as e _ whole (sym (turned ∙ ap (λ z. and_then z (λ p. and_then (entered inner p.enter p.state) (λ n. walked levels files inner end p.more p.branches n (map placed rest)))) is))
      (gives_end e (entered inner p.enter p.state) (λ n. walked levels files inner end p.more p.branches n (map placed rest)) g)

  pub step_goes : (n : SState) (p : Step) (next : ℕ) → step levels files bs s (placed t) (map placed rest) ≡ Ok p → entered inner p.enter p.state ≡ Ok n → drop next xs ≡ drop (at + 1 + p.more) xs
      → walked levels files inner end 0 p.branches n (map placed (drop next xs)) ≡ whole
  step_goes n p next is ok place =
      let on : drop p.more (map placed rest) ≡ map placed (drop next xs) =
      drop_placed p.more rest ∙ ap (map placed) (ap (drop p.more) behind ∙ (drop-drop p.more (at + 1) xs ∙ sym place)) in
      sym (turned ∙ (ap (λ z. and_then z (λ p. and_then (entered inner p.enter p.state) (λ n. walked levels files inner end p.more p.branches n (map placed rest)))) is
      ∙ (ap (λ z. and_then z (λ n. walked levels files inner end p.more p.branches n (map placed rest))) ok
      ∙ (skips levels files inner end p.more p.branches n (map placed rest) ∙ ap (walked levels files inner end 0 p.branches n) on))))

  -- the step enters a file, and the walk goes on behind it
  pub step_waits : (p : Step) (next : ℕ) → step levels files bs s (placed t) (map placed rest) ≡ Ok p → drop next xs ≡ drop (at + 1 + p.more) xs
      → whole ≡ and_then (entered inner p.enter p.state) (λ n. walked levels files inner end 0 p.branches n (map placed (drop next xs)))
  step_waits p next is place =
      let on : drop p.more (map placed rest) ≡ map placed (drop next xs) =
      drop_placed p.more rest ∙ ap (map placed) (ap (drop p.more) behind ∙ (drop-drop p.more (at + 1) xs ∙ sym place)) in
      turned ∙ (ap (λ z. and_then z (λ p. and_then (entered inner p.enter p.state) (λ n. walked levels files inner end p.more p.branches n (map placed rest)))) is
      ∙ then_each (entered inner p.enter p.state) (λ n. walked levels files inner end p.more p.branches n (map placed rest)) (λ n. walked levels files inner end 0 p.branches n (map placed (drop next xs)))
      (λ n. skips levels files inner end p.more p.branches n (map placed rest) ∙ ap (walked levels files inner end 0 p.branches n) on))

pub walk_over : (levels : ℕ) (files : List File) (inner : ℕ → SState → Reached SState) (end : Halt) (bs : SBranches) (s : SState) (xs : List Lined) (at : ℕ) (whole : Reached SState)
    → length xs ≤ at → walked levels files inner end 0 bs s (map placed (drop at xs)) ≡ whole → ended bs.stack s end ≡ whole
walk_over levels files inner end bs s xs at whole h inv =
    sym (ends_walk levels files inner end bs s) ∙ (ap (λ z. walked levels files inner end 0 bs s (map placed z)) (sym (none_behind xs at h)) ∙ inv)

not_zero : (n : ℕ) → (suc n == 0) ≡ false
not_zero n = grind (arith, nat_tests)

pub reached : (levels : ℕ) (o : Option ℕ) (j : ℕ) → reachable levels o ≡ Some j → o ≡ Some j
reached zero o j e = absurd (cc)
reached (suc levels) o j e = let z = not_zero levels in let k : reachable (suc levels) o ≡ o = rw z refl in sym k ∙ e

-- what is reached of a file that is entered
pub enters_file : (levels : ℕ) (files : List File) (enter : Option ℕ) (j : ℕ) (s : SState) → reachable levels enter ≡ Some j
    → (0 < levels) × (entered (inner_of levels files) enter s ≡ walked_file (levels - 1) files j s)
enters_file zero files enter j s e = absurd (cc)
enters_file (suc levels) files None j s e = let z = not_zero levels in let k : reachable (suc levels) None ≡ None = rw z refl in absurd (cc)
enters_file (suc levels) files (Some i) j s e =
    let z = not_zero levels in
    let k : reachable (suc levels) (Some i) ≡ Some i = rw z refl in
    let same : i ≡ j = cc in
    let l : suc levels - 1 ≡ levels = omega arith in
    (omega arith, ap (λ n. walked_file levels files n s) same ∙ ap (λ n. walked_file n files j s) (sym l))

pub enters_none : (levels : ℕ) (files : List File) (enter : Option ℕ) (s : SState) → reachable levels enter ≡ None → entered (inner_of levels files) enter s ≡ Ok s
enters_none levels files None s e = refl
enters_none zero files (Some i) s e = refl
enters_none (suc levels) files (Some i) s e = let z = not_zero levels in let k : reachable (suc levels) (Some i) ≡ Some i = rw z refl in absurd (cc)

-- the loop begins
pub walk_starts : (levels : ℕ) (files : List File) (i : ℕ) (s s1 : SState) (bytes : Text) (lined ys : List Lined) (end : Halt) (line : ℕ) (bs : SBranches) → bytes_of i files ≡ bytes
    → (map placed lined ≡ (file_tokens i bytes).tokens) × ((file_tokens i bytes).flaw ≡ None) → end ≡ fault_at code.Directive i line → line ≡ last_line bytes → bs ≡ no_branches → s1 ≡ s → ys ≡ lined
    → walked levels files (inner_of levels files) end 0 bs s1 (map placed ys) ≡ walked_file levels files i s
walk_starts levels files i s s1 bytes lined ys end line bs b l e n z q y =
    ap (λ k. walked levels files (inner_of levels files) k 0 bs s1 (map placed ys)) (e ∙ ap (fault_at code.Directive i) n)
    ∙ (ap (λ k. walked levels files (inner_of levels files) (fault_at code.Directive i (last_line bytes)) 0 k s1 (map placed ys)) z
    ∙ (ap (λ k. walked levels files (inner_of levels files) (fault_at code.Directive i (last_line bytes)) 0 no_branches k (map placed ys)) q
    ∙ (ap (λ k. walked levels files (inner_of levels files) (fault_at code.Directive i (last_line bytes)) 0 no_branches s (map placed k)) y
    ∙ walk_begins levels files i s bytes lined b l.0 l.1)))
