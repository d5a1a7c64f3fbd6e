-- The named sources and the macros that are defined before them.
use Rattle.std.proofs.Common.{◌≡◌, ℕ, zero, suc, ◌+◌, ◌-◌, ◌<◌, ◌≤◌, Ok, List, [], ◌∷◌, ◌++◌, length, map, take, drop, get_or, refl, ap, sym, ◌∙◌, add-one, arith}
use Rattle.bits_core.specs.declared.names.File.{File}
use Rattle.vl_lex.specs.declared.source.Source.{Source}
use Rattle.vl_lex.specs.Sources.{file_of, files_of}
use Rattle.vl_lex.specs.declared.gate.Halt.{Halt}
use denote.Ref.{Bor}
use Rattle.std.proofs.lemmas.List.{map-append}
use Rattle.vl_lex.specs.Bytes.{Text}
use Rattle.vl_lex.specs.Gate.{Reached, and_then, Ends}
use Rattle.vl_lex.specs.Walk.{SState, walked_file, walked_sources, predefined, defined_with, named_sources}
use Rattle.vl_lex.proofs.Gives.{split_items, none_behind, gives_end, ends_as}

pub define_turn : (names : List Text) (at : ℕ) (d n : Text) (s : SState) → at < length names → get_or names at d ≡ n
    → predefined (drop at names) s ≡ predefined (drop (at + 1) names) (defined_with s n [])
define_turn names at d n s h e = ap (λ z. predefined z s) (split_items names at d n h e)

pub define_over : (names : List Text) (at : ℕ) (s : SState) → length names ≤ at → predefined (drop at names) s ≡ s
define_over names at s h = ap (λ z. predefined z s) (none_behind names at h)

pub ruleset defines = (define_turn, define_over)

one_more : (files : List Source) (at : ℕ) (d f : Source) → at < length files → get_or files at d ≡ f → named_sources (files_of files) (suc at) ≡ named_sources (files_of files) at ++ f.name.now ∷ []
one_more [] at d f h e = absurd (omega arith)
one_more (g ∷ files) zero d f h e = ap (λ z. z.name.now ∷ []) e
one_more (g ∷ files) (suc at) d f h e = ap (λ z. g.name.now ∷ z) (one_more files at d f (omega arith) e)

pub more_sources : (files : List Source) (at : ℕ) (d f : Source) → at < length files → get_or files at d ≡ f → named_sources (files_of files) (at + 1) ≡ named_sources (files_of files) at ++ f.name.now ∷ []
more_sources files at d f h e = ap (named_sources (files_of files)) (add-one at) ∙ one_more files at d f h e

pub names_turn : (files : List Source) (names new : List (Bor Text)) (at : ℕ) (d : Source) → at < length files → new ≡ names ++ (get_or files at d).name ∷ [] → map (λ n. n.now) names ≡ named_sources (files_of files) at
    → map (λ n. n.now) new ≡ named_sources (files_of files) (at + 1)
names_turn files names new at d h e inv =
    ap (map (λ n. n.now)) e ∙ (map-append (λ n. n.now) names ((get_or files at d).name ∷ []) ∙ (ap (λ z. z ++ (get_or files at d).name.now ∷ []) inv ∙ sym (more_sources files at d (get_or files at d) h refl)))

files_pushed : (sources : List Source) (x : Source) → files_of (sources ++ x ∷ []) ≡ files_of sources ++ file_of x ∷ []
files_pushed [] x = refl
files_pushed (s ∷ ss) x = ap (λ z. file_of s ∷ z) (files_pushed ss x)

one_taken : (files : List File) (at : ℕ) (d f : File) → at < length files → get_or files at d ≡ f → take (suc at) files ≡ take at files ++ f ∷ []
one_taken [] at d f h e = absurd (omega arith)
one_taken (g ∷ files) zero d f h e = ap (λ z. z ∷ []) e
one_taken (g ∷ files) (suc at) d f h e = ap (λ z. g ∷ z) (one_taken files at d f (omega arith) e)

pub sources_turn : (files : List File) (sources : List Source) (x : Source) (at : ℕ) (d f : File) → at < length files → get_or files at d ≡ f → x.name.now ≡ f.name → x.bytes.now ≡ f.bytes → files_of sources ≡ take at files
    → files_of (sources ++ x ∷ []) ≡ take (at + 1) files
sources_turn files sources x at d f h e n b inv =
    let same : file_of x ≡ f = ap (λ z. record { name = z; bytes = x.bytes.now }) n ∙ ap (λ z. record { name = f.name; bytes = z }) b in
    files_pushed sources x ∙ (ap (λ z. files_of sources ++ z ∷ []) same ∙ (ap (λ z. z ++ f ∷ []) inv ∙ (sym (one_taken files at d f h e) ∙ ap (λ n. take n files) (sym (add-one at)))))

left_is : (named i : ℕ) → i < named → named - i ≡ suc (named - (i + 1))
left_is named i h = omega arith

pub source_turn : (files : List File) (left left1 i : ℕ) (s : SState) → left ≡ suc left1 → walked_sources left files i s ≡ and_then (walked_file 15 files i s) (walked_sources left1 files (i + 1))
unfolding walked_sources
source_turn files left left1 i s e = rw e refl

pub source_goes : (files : List File) (named i : ℕ) (s n : SState) (whole : Reached SState) → i < named → walked_file 15 files i s ≡ Ok n → walked_sources (named - i) files i s ≡ whole
    → walked_sources (named - (i + 1)) files (i + 1) n ≡ whole
source_goes files named i s n whole h ok inv =
    sym (ap (λ z. and_then z (walked_sources (named - (i + 1)) files (i + 1))) ok) ∙ (sym (source_turn files (named - i) (named - (i + 1)) i s (left_is named i h)) ∙ inv)

pub source_stops : (files : List File) (named i : ℕ) (s : SState) (whole : Reached SState) (e : Halt) → i < named → Ends e (walked_file 15 files i s) → walked_sources (named - i) files i s ≡ whole → Ends e whole
source_stops files named i s whole e h end inv =
    ends_as e _ whole (sym (source_turn files (named - i) (named - (i + 1)) i s (left_is named i h)) ∙ inv) (gives_end e (walked_file 15 files i s) (walked_sources (named - (i + 1)) files (i + 1)) end)

no_source : (files : List File) (left i : ℕ) (s : SState) → left ≡ 0 → walked_sources left files i s ≡ Ok s
unfolding walked_sources
no_source files left i s e = rw e refl

pub sources_over : (files : List File) (named i : ℕ) (s : SState) (whole : Reached SState) → named ≤ i → walked_sources (named - i) files i s ≡ whole → whole ≡ Ok s
sources_over files named i s whole h inv = sym inv ∙ no_source files (named - i) i s (omega arith)
