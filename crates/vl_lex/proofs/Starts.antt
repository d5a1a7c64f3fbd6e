-- A walk from its start, and from where it asked for a file.
use Rattle.std.proofs.Common.{◌≡◌, ℕ, zero, suc, ◌+◌, ◌-◌, ◌<◌, ◌≤◌, ◌^◌, nat_lt, true, false, Ok, Err, List, [], ◌∷◌, ◌++◌, length, map, get_or, refl, ap, sym, ◌∙◌, subst, arith}
use Rattle.std.proofs.lemmas.Bool.Decides.{nat_tests}
use Rattle.bits_core.specs.declared.names.File.{File}
use Rattle.vl_tree.specs.declared.faults.Code.TheVariants as code
use Rattle.vl_tree.specs.declared.faults.Stop.{Stop}
use Rattle.vl_tree.specs.declared.faults.Stop.TheVariants as stop
use Rattle.vl_lex.specs.declared.source.Source.{Source}
use Rattle.vl_lex.specs.declared.gate.Halt.{Halt}
use Rattle.vl_lex.specs.declared.gate.Halt.TheVariants as h
use Rattle.vl_lex.specs.Bytes.{Text}
use Rattle.vl_lex.specs.Lexed.{Seen}
use Rattle.vl_lex.specs.Gate.{Reached, and_then, Ends}
use Rattle.vl_lex.specs.Sources.{AreSmall, file_of, files_of}
use Rattle.vl_lex.specs.Walk.{SState, walked_file, walked_sources, finished, kept, walk_all, named_sources, predefined, start, most_files}
use Rattle.vl_lex.specs.Paused.{SOpen, opens_view, walked_open, resumed, remaining}
use denote.Ref.{Bor}
use Rattle.std.specs.Global.{Vec}
use Rattle.vl_lex.specs.declared.opened.Open.{Open}
use Rattle.vl_lex.specs.declared.opened.Passed.{Passed}
use Rattle.vl_lex.specs.declared.opened.Passed.TheVariants as p
use Rattle.vl_lex.specs.Resumed.{PassesNamed, WalksTo}
use Rattle.vl_lex.proofs.Gives.{gives_end, ends_as}
use Rattle.vl_lex.proofs.Sources.{source_goes, source_stops, sources_over, source_turn}
use Rattle.vl_lex.proofs.Shelves.{take_same}
use Rattle.vl_lex.proofs.Resumes.{over_these, then_then}

-- the named files
module _ (files : List File) (named at : ℕ) (s : SState) (whole : List File → Reached SState) (less : at < named)
    (inv : (more : List File) → walked_sources (named - at) (files ++ more) at s ≡ whole (files ++ more)) where
  these : walked_sources (named - at) files at s ≡ whole files
  these = over_these files (λ fs. walked_sources (named - at) fs at s) whole inv

  -- the file could not be opened
  pub file_ends : (e : Halt) → Ends e (walked_file 15 files at s) → Ends e (whole files)
  file_ends e g = source_stops files named at s (whole files) e less g these

  module _ (s1 : SState) (o : SOpen) (opened : (more : List File) → walked_open (files ++ more) o s1 ≡ walked_file 15 (files ++ more) at s) where
    opened_here : walked_open files o s1 ≡ walked_file 15 files at s
    opened_here = over_these files (λ fs. walked_open fs o s1) (λ fs. walked_file 15 fs at s) opened

    pub named_ends : (e : Halt) → Ends e (walked_open files o s1) → Ends e (whole files)
    named_ends e g = file_ends e (ends_as e (walked_open files o s1) (walked_file 15 files at s) opened_here g)

    pub named_on : (n : SState) → ((more : List File) → walked_open (files ++ more) o s1 ≡ Ok n) → (more : List File) → walked_sources (named - (at + 1)) (files ++ more) (at + 1) n ≡ whole (files ++ more)
    named_on n done more = source_goes (files ++ more) named at s n (whole (files ++ more)) less (sym (opened more) ∙ done more) (inv more)

    pub named_asks : (ps : List SOpen) (n : SState) → ((more : List File) → walked_open (files ++ more) o s1 ≡ resumed (files ++ more) ps n)
        → (more : List File) → whole (files ++ more) ≡ and_then (resumed (files ++ more) ps n) (walked_sources (named - (at + 1)) (files ++ more) (at + 1))
    named_asks ps n left more =
        sym (inv more) ∙ (source_turn (files ++ more) (named - at) (named - (at + 1)) at s (omega (arith, less))
        ∙ ap (λ z. and_then z (walked_sources (named - (at + 1)) (files ++ more) (at + 1))) (sym (opened more) ∙ left more))

pub named_over : (files : List File) (named at : ℕ) (s : SState) (whole : List File → Reached SState) → named ≤ at
    → ((more : List File) → walked_sources (named - at) (files ++ more) at s ≡ whole (files ++ more)) → whole files ≡ Ok s
named_over files named at s whole l inv = sources_over files named at s (whole files) l (over_these files (λ fs. walked_sources (named - at) fs at s) whole inv)

-- what is left of the whole walk over sources, of which a call was given the slice
module _ (sources slice : List Source) (is : slice ≡ sources) (named next : ℕ) (defines : List Text) (opens : List SOpen) (s : SState)
    (goes : (more : List File) → kept (files_of sources ++ more) named defines ≡ remaining (files_of sources ++ more) named opens next s) where
  here : kept (files_of sources) named defines ≡ remaining (files_of sources) named opens next s
  here = over_these (files_of sources) (λ z. kept z named defines) (λ z. remaining z named opens next s) goes

  pub opens_end : (e : Halt) → Ends e (resumed (files_of slice) opens s) → Ends e (kept (files_of sources) named defines)
  unfolding remaining
  opens_end e g =
      ends_as e _ (kept (files_of sources) named defines) (sym here)
      (gives_end e (resumed (files_of sources) opens s) _ (ends_as e (resumed (files_of slice) opens s) (resumed (files_of sources) opens s) (ap (λ z. resumed (files_of z) opens s) is) g))

  pub opens_left : (ps : List SOpen) (n : SState) → ((more : List File) → resumed (files_of slice ++ more) opens s ≡ resumed (files_of slice ++ more) ps n)
      → (more : List File) → kept (files_of sources ++ more) named defines ≡ remaining (files_of sources ++ more) named ps next n
  unfolding remaining
  opens_left ps n left more =
      let k : resumed (files_of sources ++ more) opens s ≡ resumed (files_of sources ++ more) ps n =
      subst (λ z. resumed (files_of z ++ more) opens s ≡ resumed (files_of z ++ more) ps n) is (left more) in
      goes more ∙ ap (λ z. and_then z (λ n. and_then (walked_sources (named - next) (files_of sources ++ more) next n) finished)) k

  pub opens_done : (n : SState) → ((more : List File) → resumed (files_of slice ++ more) opens s ≡ Ok n)
      → (more : List File) → kept (files_of sources ++ more) named defines ≡ remaining (files_of sources ++ more) named [] next n
  unfolding remaining
  opens_done n done more =
      let k : resumed (files_of sources ++ more) opens s ≡ Ok n = subst (λ z. resumed (files_of z ++ more) opens s ≡ Ok n) is (done more) in
      goes more ∙ ap (λ z. and_then z (λ n. and_then (walked_sources (named - next) (files_of sources ++ more) next n) finished)) k

module _ (sources slice : List Source) (is : slice ≡ sources) (named next : ℕ) (defines : List Text) (s : SState)
    (goes : (more : List File) → kept (files_of sources ++ more) named defines ≡ remaining (files_of sources ++ more) named [] next s) where
  then_on : (more : List File) → kept (files_of sources ++ more) named defines ≡ and_then (walked_sources (named - next) (files_of sources ++ more) next s) finished
  unfolding remaining
  then_on more = goes more

  then_here : kept (files_of sources) named defines ≡ and_then (walked_sources (named - next) (files_of sources) next s) finished
  then_here = over_these (files_of sources) (λ z. kept z named defines) (λ z. and_then (walked_sources (named - next) z next s) finished) then_on

  moved : walked_sources (named - next) (files_of slice) next s ≡ walked_sources (named - next) (files_of sources) next s
  moved = ap (λ z. walked_sources (named - next) (files_of z) next s) is

  pub rest_ends : (e : Halt) → Ends e (walked_sources (named - next) (files_of slice) next s) → Ends e (kept (files_of sources) named defines)
  rest_ends e g =
      ends_as e _ (kept (files_of sources) named defines) (sym then_here) (gives_end e (walked_sources (named - next) (files_of sources) next s) finished (ends_as e _ (walked_sources (named - next) (files_of sources) next s) moved g))

  pub rest_left : (ps : List SOpen) (k : ℕ) (m : SState)
      → ((more : List File) → walked_sources (named - next) (files_of slice ++ more) next s ≡ and_then (resumed (files_of slice ++ more) ps m) (walked_sources (named - k) (files_of slice ++ more) k))
      → (more : List File) → kept (files_of sources ++ more) named defines ≡ remaining (files_of sources ++ more) named ps k m
  unfolding remaining
  rest_left ps k m left more =
      let l : walked_sources (named - next) (files_of sources ++ more) next s ≡ and_then (resumed (files_of sources ++ more) ps m) (walked_sources (named - k) (files_of sources ++ more) k) =
      subst (λ z. walked_sources (named - next) (files_of z ++ more) next s ≡ and_then (resumed (files_of z ++ more) ps m) (walked_sources (named - k) (files_of z ++ more) k)) is (left more) in
      then_on more ∙ (ap (λ z. and_then z finished) l ∙ then_then (resumed (files_of sources ++ more) ps m) (walked_sources (named - k) (files_of sources ++ more) k) finished)

  pub rest_done : (m : SState) → walked_sources (named - next) (files_of slice) next s ≡ Ok m → kept (files_of sources) named defines ≡ finished m
  rest_done m e = then_here ∙ ap (λ z. and_then z finished) (sym moved ∙ e)

pub named_is_done : (x : Passed) (k : ℕ) (fs : List File) (named next : ℕ) (s n : SState) → x ≡ p.Done → PassesNamed (Ok (x, k)) fs named next s n → walked_sources (named - next) fs next s ≡ Ok n
named_is_done x k fs named next s n e g = let P : Passed → Type 0 = λ z. PassesNamed (Ok (z, k)) fs named next s n in subst P e g

pub named_is_asked : (x : Passed) (name : Bor Text) (opens : Vec Open) (k : ℕ) (fs : List File) (named next : ℕ) (s n : SState) → x ≡ p.Asks name opens → PassesNamed (Ok (x, k)) fs named next s n
    → (walked_sources (named - next) fs next s ≡ Err (h.Need name.now))
    × ((more : List File) → walked_sources (named - next) (fs ++ more) next s ≡ and_then (resumed (fs ++ more) (opens_view opens.items) n) (walked_sources (named - k) (fs ++ more) k))
named_is_asked x name opens k fs named next s n e g = let P : Passed → Type 0 = λ z. PassesNamed (Ok (z, k)) fs named next s n in subst P e g

pub ends_so : (e : Stop) (reached : Reached (List Seen)) → Ends (h.Stop e) reached → WalksTo (Err e) reached
ends_so (stop.Fault f) reached g = g
ends_so (stop.Limit c) reached g = g
ends_so stop.NoMemory reached g = tt

-- a file more

pushed : (sources : List Source) (x : Source) (more : List File) → files_of (sources ++ x ∷ []) ++ more ≡ files_of sources ++ file_of x ∷ more
pushed [] x more = refl
pushed (s ∷ ss) x more = ap (λ z. file_of s ∷ z) (pushed ss x more)

pub given : (sources all : List Source) (x : Source) (named next : ℕ) (defines : List Text) (opens : List SOpen) (s : SState) → all ≡ sources ++ x ∷ []
    → ((more : List File) → kept (files_of sources ++ more) named defines ≡ remaining (files_of sources ++ more) named opens next s)
    → (more : List File) → kept (files_of all ++ more) named defines ≡ remaining (files_of all ++ more) named opens next s
given sources all x named next defines opens s e goes more =
    let P : List File → Type 0 = λ z. kept z named defines ≡ remaining z named opens next s in
    subst P (sym (ap (λ z. files_of z ++ more) e ∙ pushed sources x more)) (goes (file_of x ∷ more))

small_both : (fs : List File) (f : File) → AreSmall fs → length f.bytes ≤ 2 ^ 24 → AreSmall (fs ++ f ∷ [])
small_both [] f small l zero h = l
small_both [] f small l (suc at) h = absurd (omega arith)
small_both (g ∷ fs) f small l zero h = small zero (omega arith)
small_both (g ∷ fs) f small l (suc at) h = small_both fs f (λ i k. small (suc i) (omega (arith, k))) l at (omega (arith, h))

files_pushed : (sources : List Source) (x : Source) → files_of (sources ++ x ∷ []) ≡ files_of sources ++ file_of x ∷ []
files_pushed [] x = refl
files_pushed (s ∷ ss) x = ap (λ z. file_of s ∷ z) (files_pushed ss x)

pub files_given : (sources all : List Source) (x : Source) → all ≡ sources ++ x ∷ [] → files_of all ≡ files_of sources ++ file_of x ∷ []
files_given sources all x e = ap files_of e ∙ files_pushed sources x

pub small_given : (sources all : List Source) (x : Source) → all ≡ sources ++ x ∷ [] → AreSmall (files_of sources) → length x.bytes.now ≤ 2 ^ 24 → AreSmall (files_of all)
small_given sources all x e small l = subst (λ z. AreSmall z) (sym (files_given sources all x e)) (small_both (files_of sources) (file_of x) small l)

-- the start

kept_whole : (fs : List File) (named : ℕ) (defines : List Text) → named ≤ most_files → kept fs named defines ≡ walk_all fs named defines
unfolding kept
kept_whole fs named defines l = let e : nat_lt most_files named ≡ false = grind (arith, nat_tests, l) in rw e refl

all_left : (named : ℕ) → named ≡ named - 0
all_left named = omega arith

begun : (fs more : List File) (named : ℕ) (defines listed : List Text) (s0 s1 : SState) → named ≤ length fs → s1 ≡ predefined defines s0 → s0 ≡ start listed → listed ≡ named_sources fs named
    → predefined defines (start (named_sources (fs ++ more) named)) ≡ s1
begun fs more named defines listed s0 s1 l p q r =
    ap (λ z. predefined defines (start z)) (ap (map (λ f. f.name)) (take_same named fs more l)) ∙ sym (p ∙ ap (predefined defines) (q ∙ ap start r))

pub starts : (fs : List File) (named : ℕ) (defines listed : List Text) (s0 s1 : SState) → named ≤ length fs → named ≤ most_files → s1 ≡ predefined defines s0 → s0 ≡ start listed → listed ≡ named_sources fs named
    → (more : List File) → kept (fs ++ more) named defines ≡ remaining (fs ++ more) named [] 0 s1
unfolding walk_all remaining
starts fs named defines listed s0 s1 l m p q r more =
    kept_whole (fs ++ more) named defines m ∙ (ap (λ z. and_then (walked_sources named (fs ++ more) 0 z) finished) (begun fs more named defines listed s0 s1 l p q r)
    ∙ ap (λ z. and_then (walked_sources z (fs ++ more) 0 s1) finished) (all_left named))

pub too_many : (fs : List File) (named : ℕ) (defines : List Text) → most_files < named → kept fs named defines ≡ Err (h.Stop (stop.Limit code.Files))
unfolding kept
too_many fs named defines l = let e : nat_lt most_files named ≡ true = grind (arith, nat_tests, l) in rw e refl

-- small files

pub small_files : (files : List File) → ((at : ℕ) (other : File) → at < length files → length (get_or files at other).bytes ≤ 2 ^ 24) → AreSmall files
small_files [] small at h = absurd (omega (arith, h))
small_files (f ∷ fs) small zero h = small zero f h
small_files (f ∷ fs) small (suc at) h = small_files fs (λ i d k. small (suc i) d (omega (arith, k))) at (omega (arith, h))

pub small_as : (fs gs : List File) → fs ≡ gs → AreSmall gs → AreSmall fs
small_as fs gs e small = subst (λ z. AreSmall z) (sym e) small
