-- The reply by the files that were read.
use Rattle.std.proofs.Common.{rules, arith, subst, zero, suc, ◌^◌, ◌≡◌, ◌≤◌, ◌∙◌, ◌++◌, ℕ, Bool, true, false, List, [], ◌∷◌, length, Option, Some, None, Result, Err, refl, sym, ap, inl, inr, if◌then◌else◌, ◌<◌, ◌+◌, map, take, drop, get_or, add-one, drop-cons}
use Rattle.std.proofs.lemmas.List.{map-append, take-append-drop, take_more}
use Rattle.std.specs.Str.{bytes_eq}
use Rattle.bits_core.specs.declared.names.File.{File}
use Rattle.shelf_io.specs.Files.{Files}
use Rattle.conncheck.specs.Answers.{Allows, without}
use Rattle.conncheck.specs.Ends.{Ends, EndsFor}
use Rattle.vl_lex.specs.Sources.{AreSmall}
use Rattle.conncheck.specs.Reads.{AreRead, IsRead, MeetsLonger, Reaches, ReadsOne, StopsAt, UnreadEnds}
use Rattle.conncheck.specs.declared.reads.Unread.{Unread}
use Rattle.conncheck.specs.declared.reads.Unread.TheVariants.{Missing, TooLong, NoMemory}
use Rattle.conncheck.specs.declared.status.Status.{Status}
use Rattle.conncheck.specs.declared.status.Stop.{Stop}
use Rattle.conncheck.specs.declared.status.Stop.TheVariants.{Memory}
use Rattle.conncheck.proofs.AllowsLaws.{absent, any_file, gone_file, long_file, read_file}
use Rattle.conncheck.proofs.PrintLaws.{nothing}
use Rattle.conncheck.specs.Reading.{OfFiles}
use Rattle.conncheck.specs.Reply.{Reply, missing, too_long}
use Rattle.conncheck.specs.Words.{Text}

-- one name more
pub more_read : (files : Files) (ns : List Text) (fs : List File) (n : Text) (f : File) → AreRead files ns fs → IsRead files n f → AreRead files (ns ++ n ∷ []) (fs ++ f ∷ [])
more_read files [] [] n f all one = (one, tt)
more_read files [] (x ∷ fs) n f all one = absurd all
more_read files (m ∷ ns) [] n f all one = absurd all
more_read files (m ∷ ns) (x ∷ fs) n f all one = (all.0, more_read files ns fs n f all.1 one)

-- the name behind those that were read
pub reaches_at : (files : Files) (front : List Text) (name : Text) (back names : List Text) (before : List File) → front ++ (name ∷ back) ≡ names → AreRead files front before → Reaches files names name
reaches_at files front name back names before e all = record { front = front; back = back; parts = e; before = before; are_read = all }

-- a name's place among the names of all
pub name_at : {X : Type 0} (f : X → Text) (xs : List X) (i : ℕ) (x : X) → i < length xs → map f (take i xs) ++ (f (get_or xs i x) ∷ map f (drop (i + 1) xs)) ≡ map f xs
name_at {X} f xs i x lt =
    let tail : drop i xs ≡ get_or xs i x ∷ drop (i + 1) xs = rw (add-one) (drop-cons xs i x lt) in
    let cut : take i xs ++ (get_or xs i x ∷ drop (i + 1) xs) ≡ xs = ap (λ (ys : List X). take i xs ++ ys) (sym tail) ∙ take-append-drop i xs in
    sym (map-append f (take i xs) (get_or xs i x ∷ drop (i + 1) xs)) ∙ ap (map f) cut

-- the names up to one more
pub one_more : {X : Type 0} (f : X → Text) (xs : List X) (i : ℕ) (x : X) → i < length xs → map f (take i xs) ++ (f (get_or xs i x) ∷ []) ≡ map f (take (i + 1) xs)
one_more {X} f xs i x lt =
    let taken : take (i + 1) xs ≡ take i xs ++ (get_or xs i x ∷ []) = take_more xs i x lt in
    sym (ap (map f) taken ∙ map-append f (take i xs) (get_or xs i x ∷ []))

-- a read that fails behind the files that were read
pub stops_at : (steady before_it : Type 0) (files : Files) (names : List Text) (n : Text) (u : Unread) → (steady → before_it) → Reaches files names n
    → ReadsOne before_it files n (Err u) → StopsAt steady files names u
stops_at steady before_it files names n (Missing m) still r one =
    let P : Text → Type 0 = λ x. Reaches files names x in
    (subst P (sym one.0) r, λ s. ap files one.0 ∙ one.1 (still s))
stops_at steady before_it files names n TooLong still r one = record { name = n; reaches = r; longer = one }
stops_at steady before_it files names n NoMemory still r one = tt

pub same_file : (n : Text) (f : File) → f.name ≡ n → record { name = n; bytes = f.bytes } ≡ f
same_file n f e = ap (λ m. record { name = m; bytes = f.bytes }) (sym e)

module _ (Next : List File → Reply → Type 0) where
  one_read : (ns : List Text) (files : Files) (n : Text) (f : File) (o : Reply) → IsRead files n f → OfFiles ns files (λ more. Next (f ∷ more)) o → OfFiles (n ∷ ns) files Next o
  one_read ns files n f o r h =
      let P : File → Type 0 = λ x. OfFiles ns files (λ more. Next (x ∷ more)) o in
      read_file n (λ bytes. OfFiles ns files (λ more. Next (record { name = n; bytes = bytes } ∷ more))) (files n) f.bytes o r.is_there r.fits (subst P (sym (same_file n f r.is_named)) h)

pub of_all : (Next : List File → Reply → Type 0) (files : Files) (ns : List Text) (fs : List File) (o : Reply) → AreRead files ns fs → Next fs o → OfFiles ns files Next o
of_all Next files [] [] o all h = h
of_all Next files [] (x ∷ fs) o all h = absurd all
of_all Next files (n ∷ ns) [] o all h = absurd all
of_all Next files (n ∷ ns) (f ∷ fs) o all h = one_read Next ns files n f o all.0 (of_all (λ more. Next (f ∷ more)) files ns fs o all.1 h)

-- what holds where the files before were read
behind : (Next : List File → Reply → Type 0) (files : Files) (front back : List Text) (before : List File) (o : Reply)
    → AreRead files front before → ((Then : List File → Reply → Type 0) → OfFiles back files Then o) → OfFiles (front ++ back) files Next o
behind Next files [] back [] o all h = h Next
behind Next files [] back (x ∷ fs) o all h = absurd all
behind Next files (n ∷ ns) back [] o all h = absurd all
behind Next files (n ∷ ns) back (f ∷ fs) o all h = one_read Next (ns ++ back) files n f o all.0 (behind (λ more. Next (f ∷ more)) files ns back fs o all.1 h)

-- the first of several names, where one of them is away
hides : (Next : List File → Reply → Type 0) (files : Files) (rest : List Text) (m n : Text) (f : File) → IsRead files m f
    → OfFiles rest (without n files) (λ more. Next (f ∷ more)) (missing n) → (b : Bool) → bytes_eq m n ≡ b → OfFiles (m ∷ rest) (without n files) Next (missing n)
hides Next files rest m n f one later true same =
    let t : m ≡ n = search rules in
    let gone : without n files m ≡ None = ap (without n files) t ∙ absent files n in
    let P : Text → Type 0 = λ x. OfFiles (m ∷ rest) (without n files) Next (missing x) in
    subst P t (gone_file m (λ bytes. OfFiles rest (without n files) (λ more. Next (record { name = m; bytes = bytes } ∷ more))) (without n files m) gone)
hides Next files rest m n f one later false other =
    let kept : without n files m ≡ Some f.bytes = ap (λ b. if b then None else files m) other ∙ one.is_there in
    one_read Next rest (without n files) m f (missing n) (record { is_named = one.is_named; is_there = kept; fits = one.fits }) later

-- a file that is away is missing, whatever stands before it
hidden : (Next : List File → Reply → Type 0) (files : Files) (front back : List Text) (n : Text) (before : List File)
    → AreRead files front before → OfFiles (front ++ (n ∷ back)) (without n files) Next (missing n)
hidden Next files [] back n before all = gone_file n (λ bytes. OfFiles back (without n files) (λ more. Next (record { name = n; bytes = bytes } ∷ more))) (without n files n) (absent files n)
hidden Next files (m ∷ ns) back n [] all = absurd all
hidden Next files (m ∷ ns) back n (f ∷ fs) all =
    hides Next files (ns ++ (n ∷ back)) m n f all.0 (hidden (λ more. Next (f ∷ more)) files ns back n fs all.1) (bytes_eq m n) refl

-- there is an reply, whatever the files are
pub any_files : (Next : List File → Reply → Type 0) (files : Files) (ns : List Text) → ((fs : List File) → (x : Reply) × Next fs x) → (x : Reply) × OfFiles ns files Next x
any_files Next files [] h = h []
any_files Next files (n ∷ ns) h =
    any_file n (λ bytes. OfFiles ns files (λ more. Next (record { name = n; bytes = bytes } ∷ more))) (files n)
    (λ bytes. any_files (λ more. Next (record { name = n; bytes = bytes } ∷ more)) files ns (λ more. h (record { name = n; bytes = bytes } ∷ more)))

-- the same where the files behind a name come to what is missing
pub hidden_behind : (Next : List File → Reply → Type 0) (files : Files) (ns : List Text) (n : Text) (fs : List File)
    → AreRead files ns fs → Next fs (missing n) → OfFiles ns (without n files) Next (missing n)
hidden_behind Next files [] n [] all h = h
hidden_behind Next files [] n (f ∷ fs) all h = absurd all
hidden_behind Next files (m ∷ ns) n [] all h = absurd all
hidden_behind Next files (m ∷ ns) n (f ∷ fs) all h =
    hides Next files ns m n f all.0 (hidden_behind (λ more. Next (f ∷ more)) files ns n fs all.1 h) (bytes_eq m n) refl

-- files behind one that was read
pub stops_behind : (steady before_it : Type 0) (files : Files) (name : Text) (f : File) (names : List Text) (u : Unread) → (steady → before_it) → IsRead files name f
    → StopsAt before_it files names u → StopsAt steady files (name ∷ names) u
stops_behind steady before_it files name f names (Missing n) still one s =
    let r = s.0 in
    (record { front = name ∷ r.front; back = r.back; parts = ap (λ (ns : List Text). name ∷ ns) r.parts; before = f ∷ r.before; are_read = (one, r.are_read) }, λ h. s.1 (still h))
stops_behind steady before_it files name f names TooLong still one s =
    let r = s.reaches in
    record {
      name = s.name;
      reaches = record { front = name ∷ r.front; back = r.back; parts = ap (λ (ns : List Text). name ∷ ns) r.parts; before = f ∷ r.before; are_read = (one, r.are_read) };
      longer = s.longer;
    }
stops_behind steady before_it files name f names NoMemory still one s = tt

-- one short file more
pub small_more : (fs : List File) (f : File) → AreSmall fs → length f.bytes ≤ 2 ^ 24 → AreSmall (fs ++ f ∷ [])
small_more [] f small one zero lt = one
small_more [] f small one (suc at) lt = absurd (omega arith)
small_more (x ∷ fs) f small one zero lt = small 0 (omega arith)
small_more (x ∷ fs) f small one (suc at) lt = small_more fs f (λ i l. small (suc i) (omega arith)) one at (omega arith)

module _ (names : List Text) (Of : Files → Reply → Type 0) (Next : Files → List File → Reply → Type 0)
    (by_reads : (files : Files) (o : Reply) → OfFiles names files (Next files) o → Of files o) where
  missing_at : (steady : Type 0) (files : Files) (n : Text) → Reaches files names n → (steady → files n ≡ None) → Allows steady Of files (missing n)
  missing_at steady files n r gone = at (files n) refl
    where
      at : (f : Option Text) → files n ≡ f → Allows steady Of files (missing n)
      at None e =
          let P : List Text → Type 0 = λ ns. OfFiles ns files (Next files) (missing n) in
          inl (by_reads files (missing n) (subst P r.parts (behind (Next files) files r.front (n ∷ r.back) r.before (missing n) r.are_read
          (λ Then. gone_file n (λ bytes. OfFiles r.back files (λ more. Then (record { name = n; bytes = bytes } ∷ more))) (files n) e))))
      at (Some t) e =
          let P : List Text → Type 0 = λ ns. OfFiles ns (without n files) (Next (without n files)) (missing n) in
          inr ((λ s. cc (sym e ∙ gone s)), record { name = n; is = refl; as_if_absent = by_reads (without n files) (missing n) (subst P r.parts (hidden (Next (without n files)) files r.front r.back n r.before r.are_read)) })

  long_at : (files : Files) → MeetsLonger files names → Of files too_long
  long_at files m =
      let r = m.reaches in
      let P : List Text → Type 0 = λ ns. OfFiles ns files (Next files) too_long in
      by_reads files too_long (subst P r.parts (behind (Next files) files r.front (m.name ∷ r.back) r.before too_long r.are_read
      (λ Then. long_file m.name (λ bytes. OfFiles r.back files (λ more. Then (record { name = m.name; bytes = bytes } ∷ more))) (files m.name) m.longer)))

  -- the call ends where not all files are read
  pub unread_ends : (steady : Type 0) (files : Files) (u : Unread) (old new : Option Text) (r : Result Status Stop)
      → ((fs : List File) → (x : Reply) × Next files fs x) → StopsAt steady files names u → UnreadEnds u old new r → EndsFor steady Of files old new r
  unread_ends steady files (Missing n) old new r any s e = record { reply = missing n.now; allowed = missing_at steady files n.now s.0 s.1; ended = e }
  unread_ends steady files TooLong old new r any s e = record { reply = too_long; allowed = inl (long_at files s); ended = e }
  unread_ends steady files NoMemory old new r any s e =
      let o = any_files (Next files) files names any in
      let P : Option Text → Type 0 = λ x. Ends o.0 old x (Err Memory) in
      let Q : Result Status Stop → Type 0 = λ x. Ends o.0 old new x in
      record { reply = o.0; allowed = inl (by_reads files o.0 o.1); ended = subst Q (sym e.1) (subst P (sym e.0) (nothing o.0 old)) }
