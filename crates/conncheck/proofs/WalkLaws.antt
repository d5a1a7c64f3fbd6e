-- The walk over sources and what they include.
use Rattle.std.proofs.Common.{rules, arith, subst, ◌≡◌, ◌<◌, ◌≤◌, ◌+◌, ◌∙◌, ◌++◌, ℕ, zero, suc, Bool, true, false, List, [], ◌∷◌, length, map, Option, Some, None, Result, Ok, Err, refl, sym, ap, inl, inr, nat_lt, if◌then◌else◌}
use Rattle.std.specs.Str.{bytes_eq}
use Rattle.bits_core.specs.declared.names.File.{File}
use Rattle.shelf_io.specs.Files.{Files}
use Rattle.vl_tree.specs.declared.faults.Code.TheVariants as code
use Rattle.vl_tree.specs.declared.faults.Stop.TheVariants as stop
use Rattle.vl_lex.specs.declared.gate.Halt.TheVariants as halt
use Rattle.vl_lex.specs.Gate.{Reached}
use Rattle.vl_lex.specs.Resumed.{WalksTo}
use Rattle.vl_tree.specs.declared.faults.Stop as walk
use Rattle.vl_lex.specs.Lexed.{Seen, view}
use Rattle.vl_tree.specs.declared.tokens.Token.{Token}
use Rattle.vl_lex.specs.Walk.{kept, most_files, walk_all}
use Rattle.conncheck.specs.Answers.{Allows, without}
use Rattle.conncheck.specs.Ends.{Ends, EndsFor, StopEnds}
use Rattle.conncheck.specs.Reads.{AreRead, IsRead, ReadsOne, UnreadEnds}
use Rattle.conncheck.specs.Texts.{place_text}
use Rattle.conncheck.specs.declared.reads.Unread.{Unread}
use Rattle.conncheck.specs.declared.reads.Unread.TheVariants.{Missing, TooLong, NoMemory}
use Rattle.conncheck.specs.declared.status.Status.{Status}
use Rattle.conncheck.specs.declared.status.Stop.{Stop}
use Rattle.conncheck.specs.declared.status.Stop.TheVariants.{Memory}
use Rattle.conncheck.proofs.AllowsLaws.{absent, gone_file, long_file}
use Rattle.conncheck.proofs.LogLaws.{some_log}
use Rattle.conncheck.proofs.NeedLaws.{IsAsking, kept_asks}
use Rattle.conncheck.proofs.PrintLaws.{nothing}
use Rattle.conncheck.proofs.ReadLaws as reads
use Rattle.conncheck.proofs.TokenLaws.{some_tokens}
use Rattle.conncheck.specs.Command.{Command, IsReply, check, lrat}
use Rattle.conncheck.specs.Reading.{OfFile, OfLength}
use Rattle.vl_tree.specs.Codes.{bound}
use Rattle.std.proofs.lemmas.Bool.Decides.{nat_tests}
use Rattle.std.proofs.lemmas.List.{length-append, length-map}
use Rattle.vl_lex.specs.Sources.{file_of, files_of}
use Rattle.vl_lex.specs.declared.source.Source.{Source}
use Rattle.conncheck.specs.Reply.{Reply, bad_words, limited, missing, not_yet, refused, too_long}
use Rattle.conncheck.specs.Words.{Text}
use Rattle.conncheck.specs.commands.Check.{Means, OfReached, OfTokens, OfUnread, OfWalk, Values, first_of, has_room}
use Rattle.conncheck.specs.commands.Lrat.{OfLogs}

-- what is said of a walk's end goes over to any question for a file
any_need : (c : Values) (table : Text) (fs : List File) (Need : Text → Reply → Type 0) (r : Reached (List Seen)) (o : Reply) → OfReached c table fs (λ n x. ⊥) r o → OfReached c table fs Need r o
any_need c table fs Need (Ok ts) o h = h
any_need c table fs Need (Err (halt.Stop (stop.Fault f))) o h = h
any_need c table fs Need (Err (halt.Stop (stop.Limit l))) o h = h
any_need c table fs Need (Err (halt.Stop stop.NoMemory)) o h = absurd h
any_need c table fs Need (Err (halt.Need n)) o h = absurd h

short : (n : ℕ) → n ≤ bound code.FileBytes → nat_lt (bound code.FileBytes) n ≡ false
short n le = search rules

full_from : (n left : ℕ) → 1024 ≤ left + n → left ≡ 0 → nat_lt n 1024 ≡ false
full_from n left le e = grind (arith, nat_tests)

module _ (c : Values) (table : Text) (named : ℕ) where
  -- the walk over these files asks for no file more
  pub at_end : (files : Files) (fs : List File) (o : Reply) (r : Reached (List Seen)) → kept fs named c.defines ≡ r → OfReached c table fs (λ n x. ⊥) r o → OfWalk c table named files fs o
  at_end files fs o r e h =
      let Need : Text → Reply → Type 0 = λ n. OfUnread (has_room fs) n (files n) in
      let P : Reached (List Seen) → Type 0 = λ x. OfReached c table fs Need x o in
      record { included = []; walks = subst P (sym e) (any_need c table fs Need r o h) }

  -- it asks for a file that can't be read
  at_unread : (files : Files) (fs : List File) (n : Text) (o : Reply) (room : Bool) → kept fs named c.defines ≡ Err (halt.Need n) → has_room fs ≡ room → OfUnread room n (files n) o → OfWalk c table named files fs o
  at_unread files fs n o room e is h =
      let Need : Text → Reply → Type 0 = λ m. OfUnread (has_room fs) m (files m) in
      let P : Reached (List Seen) → Type 0 = λ x. OfReached c table fs Need x o in
      let Q : Bool → Type 0 = λ b. OfUnread b n (files n) o in
      record { included = []; walks = subst P (sym e) (subst Q (sym is) h) }

  -- it asks for one file too many
  pub at_limit : (files : Files) (fs : List File) (n : Text) → kept fs named c.defines ≡ Err (halt.Need n) → has_room fs ≡ false → OfWalk c table named files fs (limited code.Files)
  at_limit files fs n e full = at_unread files fs n (limited code.Files) false e full refl

  -- a file that was asked for and read
  read_on : (files : Files) (fs : List File) (n : Text) (f : File) (o : Reply) → kept fs named c.defines ≡ Err (halt.Need n) → has_room fs ≡ true
      → IsRead files n f → OfWalk c table named files (fs ++ f ∷ []) o → OfWalk c table named files fs o
  read_on files fs n f o e room r h =
      let asked : kept fs named c.defines ≡ Err (halt.Need f.name) = e ∙ ap (λ (x : Text). Err (halt.Need x)) (sym r.is_named) in
      record {
        included = f ∷ h.included;
        walks = (record { is_asked_for = asked; room = room; is_there = ap files r.is_named ∙ r.is_there; fits = short (length f.bytes) r.fits }, h.walks);
      }

  -- a file that was asked for is away
  gone_on : (files : Files) (fs : List File) (n : Text) → kept fs named c.defines ≡ Err (halt.Need n) → has_room fs ≡ true → files n ≡ None → OfWalk c table named files fs (missing n)
  gone_on files fs n e room gone = at_unread files fs n (missing n) true e room (gone_file n (λ bytes x. ⊥) (files n) gone)

  -- there is always a reply
  any_asked : (files : Files) (fs : List File) (n : Text) (room : Bool) (file : Option Text) → kept fs named c.defines ≡ Err (halt.Need n) → has_room fs ≡ room → files n ≡ file
      → (room ≡ true → (f : File) → (x : Reply) × OfWalk c table named files (fs ++ f ∷ []) x) → (x : Reply) × OfWalk c table named files fs x
  any_asked files fs n false file e is f more = (limited code.Files, at_limit files fs n e is)
  any_asked files fs n true None e is f more = (missing n, gone_on files fs n e is f)
  any_asked files fs n true (Some bytes) e is f more = at (nat_lt (bound code.FileBytes) (length bytes)) refl
    where
      at : (b : Bool) → nat_lt (bound code.FileBytes) (length bytes) ≡ b → (x : Reply) × OfWalk c table named files fs x
      at true long =
          let P : Option Text → Type 0 = λ x. OfFile n (λ bs y. ⊥) x too_long in
          let Q : Bool → Type 0 = λ b. OfLength b bytes (λ bs y. ⊥) too_long in
          (too_long, at_unread files fs n too_long true e is (subst P (sym f) (subst Q (sym long) refl)))
      at false fits =
          let file : File = record { name = n; bytes = bytes } in
          let rest = more refl file in
          (rest.0, record { included = file ∷ rest.1.included; walks = (record { is_asked_for = e; room = is; is_there = f; fits = fits }, rest.1.walks) })

  any_reached : (files : Files) (fs : List File) (r : Reached (List Seen)) → IsAsking r → kept fs named c.defines ≡ r
      → ((n : Text) → kept fs named c.defines ≡ Err (halt.Need n) → (x : Reply) × OfWalk c table named files fs x) → (x : Reply) × OfWalk c table named files fs x
  any_reached files fs (Ok ts) h e more = let o = some_tokens c table fs ts in (o.0, at_end files fs o.0 (Ok ts) e o.1)
  any_reached files fs (Err (halt.Stop (stop.Fault f))) h e more = (refused f.code (place_text fs f.place), at_end files fs (refused f.code (place_text fs f.place)) (Err (halt.Stop (stop.Fault f))) e refl)
  any_reached files fs (Err (halt.Stop (stop.Limit l))) h e more = (limited l, at_end files fs (limited l) (Err (halt.Stop (stop.Limit l))) e refl)
  any_reached files fs (Err (halt.Stop stop.NoMemory)) h e more = absurd h.is
  any_reached files fs (Err (halt.Need n)) h e more = more n e

  more_room : (left : ℕ) (fs : List File) (f : File) → 1024 ≤ suc left + length fs → 1024 ≤ left + length (fs ++ f ∷ [])
  more_room left fs f le = omega (arith, length-append {A = File})

  walk_within : (left : ℕ) (files : Files) (fs : List File) → 1024 ≤ left + length fs → (x : Reply) × OfWalk c table named files fs x
  walk_within zero files fs le =
      any_reached files fs (kept fs named c.defines) (kept_asks fs named c.defines) refl (λ n e. (limited code.Files, at_limit files fs n e (full_from (length fs) 0 le refl)))
  walk_within (suc left) files fs le =
      any_reached files fs (kept fs named c.defines) (kept_asks fs named c.defines) refl
      (λ n e. any_asked files fs n (has_room fs) (files n) e refl refl (λ room f. walk_within left files (fs ++ f ∷ []) (more_room left fs f le)))

  pub any_walk : (files : Files) (fs : List File) → (x : Reply) × OfWalk c table named files fs x
  any_walk files fs = walk_within 1024 files fs (omega arith)

  -- a name that is away behind a file that was read
  hidden_on : (files : Files) (fs : List File) (n m : Text) (f : File) → kept fs named c.defines ≡ Err (halt.Need n) → has_room fs ≡ true → IsRead files n f
      → OfWalk c table named (without m files) (fs ++ f ∷ []) (missing m) → (b : Bool) → bytes_eq n m ≡ b → OfWalk c table named (without m files) fs (missing m)
  hidden_on files fs n m f e room r h true same =
      let t : n ≡ m = search rules in
      let gone : without m files n ≡ None = ap (without m files) t ∙ absent files m in
      let P : Text → Type 0 = λ x. OfWalk c table named (without m files) fs (missing x) in
      subst P t (gone_on (without m files) fs n e room gone)
  hidden_on files fs n m f e room r h false other =
      let kept_file : without m files n ≡ Some f.bytes = ap (λ b. if b then None else files n) other ∙ r.is_there in
      read_on (without m files) fs n f (missing m) e room (record { is_named = r.is_named; is_there = kept_file; fits = r.fits }) h

  allowed_on : (steady before_it : Type 0) (files : Files) (fs : List File) (n : Text) (f : File) (o : Reply) → (steady → before_it)
      → kept fs named c.defines ≡ Err (halt.Need n) → has_room fs ≡ true → IsRead files n f
      → Allows before_it (λ fls. OfWalk c table named fls (fs ++ f ∷ [])) files o → Allows steady (λ fls. OfWalk c table named fls fs) files o
  allowed_on steady before_it files fs n f o still e room r (inl h) = inl (read_on files fs n f o e room r h)
  allowed_on steady before_it files fs n f o still e room r (inr h) =
      let fails = h.1 in
      let P : Reply → Type 0 = λ x. OfWalk c table named (without fails.name files) (fs ++ f ∷ []) x in
      let Q : Reply → Type 0 = λ x. OfWalk c table named (without fails.name files) fs x in
      inr (
        (λ s. h.0 (still s)),
        record {
          name = fails.name;
          is = fails.is;
          as_if_absent = subst Q (sym fails.is) (hidden_on files fs n fails.name f e room r (subst P fails.is fails.as_if_absent) (bytes_eq n fails.name) refl);
        },
      )

  -- a reply to the walk over these files is one to the walk over those where it began
  pub record Leads (steady before_it : Type 0) (files : Files) (start fs : List File) : Type 0 where
    pub on : (o : Reply) → Allows before_it (λ fls. OfWalk c table named fls fs) files o → Allows steady (λ fls. OfWalk c table named fls start) files o

  pub leads_start : (steady : Type 0) (files : Files) (start fs : List File) → fs ≡ start → Leads steady steady files start fs
  leads_start steady files start fs e = record { on = λ o h. let P : List File → Type 0 = λ x. Allows steady (λ fls. OfWalk c table named fls x) files o in subst P e h }

  -- one file more
  pub leads_on : (steady before_it after : Type 0) (files : Files) (start fs more : List File) (n : Text) (f : File) → Leads steady before_it files start fs → (before_it → after)
      → kept fs named c.defines ≡ Err (halt.Need n) → has_room fs ≡ true → IsRead files n f → more ≡ fs ++ f ∷ [] → Leads steady after files start more
  leads_on steady before_it after files start fs more n f leads still e room r is = record {
    on = λ o h.
        let P : List File → Type 0 = λ x. Allows after (λ fls. OfWalk c table named fls x) files o in
        leads.on o (allowed_on before_it after files fs n f o still e room r (subst P is h));
  }

  -- the call ends as the walk over these files does
  pub leads_to : (steady before_it : Type 0) (files : Files) (start fs : List File) (old new : Option Text) (r : Result Status Stop) → Leads steady before_it files start fs
      → EndsFor before_it (λ fls. OfWalk c table named fls fs) files old new r → EndsFor steady (λ fls. OfWalk c table named fls start) files old new r
  leads_to steady before_it files start fs old new r leads ends = record { reply = ends.reply; allowed = leads.on ends.reply ends.allowed; ended = ends.ended }

  -- want of memory
  pub memory_on : (steady : Type 0) (files : Files) (fs : List File) (old : Option Text) → EndsFor steady (λ fls. OfWalk c table named fls fs) files old old (Err Memory)
  memory_on steady files fs old = let o = any_walk files fs in record { reply = o.0; allowed = inl o.1; ended = nothing o.0 old }

  missing_on : (steady before_it : Type 0) (files : Files) (fs : List File) (n : Text) → (steady → before_it) → kept fs named c.defines ≡ Err (halt.Need n) → has_room fs ≡ true
      → (before_it → files n ≡ None) → (x : Option Text) → files n ≡ x → Allows steady (λ fls. OfWalk c table named fls fs) files (missing n)
  missing_on steady before_it files fs n still e room gone None is = inl (gone_on files fs n e room is)
  missing_on steady before_it files fs n still e room gone (Some t) is =
      inr ((λ s. cc (sym is ∙ gone (still s))), record { name = n; is = refl; as_if_absent = gone_on (without n files) fs n e room (absent files n) })

  -- the file that was asked for is not read
  pub unread_on : (steady before_it : Type 0) (files : Files) (fs : List File) (n : Text) (u : Unread) (old new : Option Text) (r : Result Status Stop) → (steady → before_it)
      → kept fs named c.defines ≡ Err (halt.Need n) → has_room fs ≡ true → ReadsOne before_it files n (Err u) → UnreadEnds u old new r
      → EndsFor steady (λ fls. OfWalk c table named fls fs) files old new r
  unread_on steady before_it files fs n (Missing m) old new r still e room one ends =
      let P : Text → Type 0 = λ x. Ends (missing x) old new r in
      record { reply = missing n; allowed = missing_on steady before_it files fs n still e room one.1 (files n) refl; ended = subst P one.0 ends }
  unread_on steady before_it files fs n TooLong old new r still e room one ends = record {
    reply = too_long;
    allowed = inl (at_unread files fs n too_long true e room (long_file n (λ bytes x. ⊥) (files n) one));
    ended = ends;
  }
  unread_on steady before_it files fs n NoMemory old new r still e room one ends =
      let P : Option Text → Type 0 = λ x. EndsFor steady (λ fls. OfWalk c table named fls fs) files old x (Err Memory) in
      let Q : Result Status Stop → Type 0 = λ x. EndsFor steady (λ fls. OfWalk c table named fls fs) files old new x in
      subst Q (sym ends.1) (subst P (sym ends.0) (memory_on steady files fs old))

-- the walk ends early
pub stop_on : (c : Values) (table : Text) (named : ℕ) (steady : Type 0) (files : Files) (fs : List File) (e : walk.Stop) (old new : Option Text) (r : Result Status Stop)
    → WalksTo (Err e) (kept fs named c.defines) → StopEnds e fs old new r → EndsFor steady (λ fls. OfWalk c table named fls fs) files old new r
stop_on c table named steady files fs (stop.Fault f) old new r w ends = record {
  reply = refused f.code (place_text fs f.place);
  allowed = inl (at_end c table named files fs (refused f.code (place_text fs f.place)) (Err (halt.Stop (stop.Fault f))) w refl);
  ended = ends;
}
stop_on c table named steady files fs (stop.Limit l) old new r w ends = record {
  reply = limited l;
  allowed = inl (at_end c table named files fs (limited l) (Err (halt.Stop (stop.Limit l))) w refl);
  ended = ends;
}
stop_on c table named steady files fs stop.NoMemory old new r w ends =
    let P : Option Text → Type 0 = λ x. EndsFor steady (λ fls. OfWalk c table named fls fs) files old x (Err Memory) in
    let Q : Result Status Stop → Type 0 = λ x. EndsFor steady (λ fls. OfWalk c table named fls fs) files old new x in
    subst Q (sym ends.1) (subst P (sym ends.0) (memory_on c table named steady files fs old))

pub is_full : (ss : List Source) → 1024 ≤ length ss → has_room (files_of ss) ≡ false
is_full ss le = at (length (files_of ss)) (length-map ss file_of)
  where
    at : (n : ℕ) → n ≡ length ss → nat_lt n 1024 ≡ false
    at n e = grind (arith, nat_tests)

pub has_more : (ss : List Source) → length ss < 1024 → has_room (files_of ss) ≡ true
has_more ss lt = at (length (files_of ss)) (length-map ss file_of)
  where
    at : (n : ℕ) → n ≡ length ss → nat_lt n 1024 ≡ true
    at n e = grind (arith, nat_tests)

-- the walk ends with its tokens
pub at_tokens : (c : Values) (table : Text) (named : ℕ) (files : Files) (fs : List File) (o : Reply) (ts : List Token) → kept fs named c.defines ≡ Ok (map view ts)
    → OfTokens c table fs (map view ts) o → OfWalk c table named files fs o
at_tokens c table named files fs o ts e h = at_end c table named files fs o (Ok (map view ts)) e h

-- more named sources than a check may have
pub too_many : (fs : List File) (named : ℕ) (defines : List Text) → 1024 < named → kept fs named defines ≡ Err (halt.Stop (stop.Limit code.Files))
unfolding kept
too_many fs named defines lt =
    let over : nat_lt most_files named ≡ true = search rules in
    ap (λ b. if b then Err (halt.Stop (stop.Limit code.Files)) else walk_all fs named defines) over

-- the files of a check, where some reply is wanted
abbrev pub Front : Values → Files → List File → Reply → Type 0
Front c files [] o = o ≡ not_yet (first_of c.files)
Front c files (t ∷ fs) o = OfWalk c t.bytes (length fs) files fs o

pub any_front : (c : Values) (files : Files) (fs : List File) → (x : Reply) × Front c files fs x
any_front c files [] = (not_yet (first_of c.files), refl)
any_front c files (t ∷ fs) = any_walk c t.bytes (length fs) files fs

-- the walk behind the files that were read
pub ends_front : (c : Values) (steady before_it : Type 0) (files : Files) (t : File) (fs : List File) (old new : Option Text) (r : Result Status Stop) → (steady → before_it)
    → IsRead files c.table t → AreRead files c.files fs → EndsFor before_it (λ fls. OfWalk c t.bytes (length fs) fls fs) files old new r → EndsFor steady (Means c) files old new r
ends_front c steady before_it files t fs old new r still one all ends = record { reply = ends.reply; allowed = at ends.allowed; ended = ends.ended }
  where
    at : Allows before_it (λ fls. OfWalk c t.bytes (length fs) fls fs) files ends.reply → Allows steady (Means c) files ends.reply
    at (inl h) = inl (reads.of_all (Front c files) files (c.table ∷ c.files) (t ∷ fs) ends.reply (one, all) h)
    at (inr h) =
        let fails = h.1 in
        let P : Reply → Type 0 = λ x. OfWalk c t.bytes (length fs) (without fails.name files) fs x in
        let Q : Reply → Type 0 = λ x. Means c (without fails.name files) x in
        inr (
          (λ s. h.0 (still s)),
          record {
            name = fails.name;
            is = fails.is;
            as_if_absent = subst Q (sym fails.is) (reads.hidden_behind (Front c (without fails.name files)) files (c.table ∷ c.files) fails.name (t ∷ fs) (one, all) (subst P fails.is fails.as_if_absent));
          },
        )

-- there is always an reply of a call
pub any_command : (command : Option Command) (files : Files) → (x : Reply) × IsReply command files x
any_command None files = (bad_words, refl)
any_command (Some (check c)) files = reads.any_files (Front c files) files (c.table ∷ c.files) (any_front c files)
any_command (Some (lrat names)) files = reads.any_files OfLogs files names some_log
