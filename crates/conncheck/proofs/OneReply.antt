-- Words and files fix the reply.
use Rattle.std.proofs.Common.{◌≡◌, ◌∙◌, ◌++◌, ℕ, Bool, true, false, List, [], ◌∷◌, length, map, Option, Some, None, Ok, Err, refl, sym, ap, subst, inl, inr, nat_lt}
use Rattle.bits_core.specs.declared.names.File.{File}
use Rattle.cnf_core.specs.Text.{text_lines}
use Rattle.design_core.specs.Cells.{In}
use Rattle.grammar_views.proofs.Files.{breaks_in_one_place, never_both}
use Rattle.log_verdict.specs.Answer.{IsJudged}
use Rattle.plain_form.specs.Table.{Row, rows_of}
use Rattle.plain_form.specs.Wires.{Wires, source_of}
use Rattle.plain_form.specs.declared.wires.Slot.{Slot}
use Rattle.plain_rows.specs.Plain.{IsRightHere, bits, cells, row_of}
use Rattle.plain_rows.proofs.OneVerdict.{one_verdict}
use Rattle.design_core.specs.Setups.{held_in_run, held_in_window, powered}
use Rattle.shelf_io.specs.Files.{Files}
use Rattle.vl_lex.specs.Gate.{Reached}
use Rattle.vl_lex.specs.Lexed.{Seen}
use Rattle.vl_lex.specs.Walk.{kept}
use Rattle.vl_lex.specs.declared.gate.Halt.TheVariants as halt
use Rattle.vl_tree.specs.declared.faults.Code.TheVariants as code
use Rattle.vl_tree.specs.declared.faults.Stop.TheVariants as stop
use Rattle.plain_rows.specs.Verdicts.{Verdict}
use Rattle.conncheck.specs.Command.{Command, IsReply, check, lrat}
use Rattle.vl_tree.specs.Codes.{bound}
use Rattle.conncheck.specs.Reading.{OfFile, OfFiles, OfLength}
use Rattle.conncheck.specs.Reply.{Reply, logged, report}
use Rattle.conncheck.specs.Texts.{Judged}
use Rattle.conncheck.specs.Words.{Text}
use Rattle.conncheck.specs.commands.Check.{IsIncluded, OfReached, OfSource, OfTable, OfTokens, OfUnread, OfWalk, OfWords, Values, Walks, bad_syntax, has_room}
use Rattle.conncheck.specs.commands.Lrat.{IsLogged, OfLogs}

-- at most one reply is of this kind
abbrev IsOne : (Reply → Type 0) → Type 0
IsOne Of = (r q : Reply) → Of r → Of q → r ≡ q

one_length : (b : Bool) (bytes : Text) (next : Text → Reply → Type 0) → ((bytes : Text) → IsOne (next bytes)) → IsOne (OfLength b bytes next)
one_length true bytes next one r q h k = h ∙ sym k
one_length false bytes next one r q h k = one bytes r q h k

one_file : (name : Text) (next : Text → Reply → Type 0) (file : Option Text) → ((bytes : Text) → IsOne (next bytes)) → IsOne (OfFile name next file)
one_file name next None one r q h k = h ∙ sym k
one_file name next (Some bytes) one r q h k = one_length (nat_lt (bound code.FileBytes) (length bytes)) bytes next one r q h k

one_files : (ns : List Text) (files : Files) (next : List File → Reply → Type 0) → ((fs : List File) → IsOne (next fs)) → IsOne (OfFiles ns files next)
one_files [] files next one r q h k = one [] r q h k
one_files (n ∷ ns) files next one r q h k =
    one_file n (λ bytes. OfFiles ns files (λ more. next (record { name = n; bytes = bytes } ∷ more))) (files n)
    (λ bytes. one_files ns files (λ more. next (record { name = n; bytes = bytes } ∷ more)) (λ more. one (record { name = n; bytes = bytes } ∷ more))) r q h k

one_log : (before : ℕ) (formula log : List (List ℕ)) → IsOne (IsLogged (IsJudged before formula log))
one_log before formula log r q h k = h.is_logged ∙ ap logged (h.is_answer.says ∙ sym k.is_answer.says) ∙ sym k.is_logged

one_of_logs : (fs : List File) → IsOne (OfLogs fs)
one_of_logs [] r q h k = one_log _ _ _ r q h k
one_of_logs (f ∷ []) r q h k = one_log _ _ _ r q h k
one_of_logs (f ∷ l ∷ fs) r q h k = one_log 0 (text_lines f.bytes) (text_lines l.bytes) r q h k

one_right : (slots : List Slot) (row : Row) (v w : Verdict) → IsRightHere slots row v → IsRightHere slots row w → v ≡ w
one_right slots row v w h k = one_verdict (cells slots) (bits slots) (held_in_window [] None) (held_in_run [] None 0) (powered []) (row_of row) 0 8 v w h.right k.right

-- rows that are judged right are judged in one way
one_judged : (slots : List Slot) (js ks : List Judged) → map (λ (j : Judged). j.row) js ≡ map (λ (j : Judged). j.row) ks → ((j : Judged) → In j js → IsRightHere slots j.row j.verdict)
    → ((j : Judged) → In j ks → IsRightHere slots j.row j.verdict) → js ≡ ks
one_judged slots [] [] e f g = refl
one_judged slots [] (k ∷ ks) e f g = absurd (cc)
one_judged slots (j ∷ js) [] e f g = absurd (cc)
one_judged slots (j ∷ js) (k ∷ ks) e f g =
    let row : k.row ≡ j.row = cc in
    let rest : map (λ (x : Judged). x.row) js ≡ map (λ (x : Judged). x.row) ks = cc in
    let P : Row → Type 0 = λ r. IsRightHere slots r k.verdict in
    let verdict : j.verdict ≡ k.verdict = one_right slots j.row j.verdict k.verdict (f j (inl refl)) (subst P row (g k (inl refl))) in
    let first : j ≡ k = ap (λ (v : Verdict). record { row = j.row; verdict = v }) verdict ∙ ap (λ (r : Row). record { row = r; verdict = k.verdict }) (sym row) in
    ap (λ (x : Judged). x ∷ js) first ∙ ap (λ (xs : List Judged). k ∷ xs) (one_judged slots js ks rest (λ x i. f x (inr i)) (λ x i. g x (inr i)))

module _ (v : Values) where
  one_table : (w : Wires) (rows : Option (List Row)) → IsOne (OfTable v w rows)
  one_table w None r q h k = h ∙ sym k
  one_table w (Some rows) r q h k =
      h.is_report
      ∙ ap (report v.top w.names) (one_judged w.slots h.judged k.judged (h.are_judged.same_rows ∙ sym k.are_judged.same_rows) h.are_judged.right k.are_judged.right)
      ∙ sym k.is_report

  one_source : (table : Text) (w : Option Wires) → IsOne (OfSource v table w)
  one_source table None r q h k = h ∙ sym k
  one_source table (Some w) r q h k = one_table w (rows_of w.names v.top table) r q h k

  one_words : (table : Text) (words : List Text) → IsOne (OfWords v table words)
  one_words table words r q h k = one_source table (source_of v.top words) r q h k

  one_tokens : (table : Text) (fs : List File) (ts : List Seen) → IsOne (OfTokens v table fs ts)
  one_tokens table fs ts r q (inl h) (inl k) = h.2 ∙ (ap (bad_syntax fs) (breaks_in_one_place ts h.0 k.0 h.1 k.1) ∙ sym k.2)
  one_tokens table fs ts r q (inl h) (inr k) = absurd (never_both ts h.0 k.0 h.1)
  one_tokens table fs ts r q (inr h) (inl k) = absurd (never_both ts k.0 h.0 k.1)
  one_tokens table fs ts r q (inr h) (inr k) = one_words table (map (λ t. t.text) ts) r q h.1 k.1

  one_reached : (table : Text) (fs : List File) (Need : Text → Reply → Type 0) (a : Reached (List Seen)) → ((n : Text) → IsOne (Need n)) → IsOne (OfReached v table fs Need a)
  one_reached table fs Need (Ok ts) one r q h k = one_tokens table fs ts r q h k
  one_reached table fs Need (Err (halt.Stop (stop.Fault f))) one r q h k = h ∙ sym k
  one_reached table fs Need (Err (halt.Stop (stop.Limit l))) one r q h k = h ∙ sym k
  one_reached table fs Need (Err (halt.Stop stop.NoMemory)) one r q h k = absurd h
  one_reached table fs Need (Err (halt.Need n)) one r q h k = one n r q h k

  one_unread : (room : Bool) (n : Text) (file : Option Text) → IsOne (OfUnread room n file)
  one_unread true n file r q h k = one_file n (λ bytes x. ⊥) file (λ bytes x y a b. absurd a) r q h k
  one_unread false n file r q h k = h ∙ sym k

  -- a file that is asked for is read or not
  not_both : (fs : List File) (files : Files) (table : Text) (named : ℕ) (f : File) (r : Reply) (a : Reached (List Seen)) → kept fs named v.defines ≡ a → a ≡ Err (halt.Need f.name) → IsIncluded v named files fs f
      → OfReached v table fs (λ n. OfUnread (has_room fs) n (files n)) a r → ⊥
  not_both fs files table named f r a is e i h =
      let P : Reached (List Seen) → Type 0 = λ x. OfReached v table fs (λ n. OfUnread (has_room fs) n (files n)) x r in
      let asked : OfUnread (has_room fs) f.name (files f.name) r = subst P e h in
      let Q : Bool → Type 0 = λ b. OfUnread b f.name (files f.name) r in
      let R : Option Text → Type 0 = λ x. OfFile f.name (λ bytes x. ⊥) x r in
      let S : Bool → Type 0 = λ b. OfLength b f.bytes (λ bytes x. ⊥) r in
      subst S i.fits (subst R i.is_there (subst Q i.room asked))

  same_file : (f g : File) (files : Files) → f.name ≡ g.name → files f.name ≡ Some f.bytes → files g.name ≡ Some g.bytes → f ≡ g
  same_file f g files e a b =
      let bytes : f.bytes ≡ g.bytes = cc (ap files e) in
      ap (λ (n : Text). record { name = n; bytes = f.bytes }) e ∙ ap (λ (bs : Text). record { name = g.name; bytes = bs }) bytes

  one_walk : (table : Text) (named : ℕ) (files : Files) (fs xs ys : List File) (r q : Reply) → Walks v table named files fs xs r → Walks v table named files fs ys q → r ≡ q
  one_walk table named files fs [] [] r q h k =
      one_reached table fs (λ n. OfUnread (has_room fs) n (files n)) (kept fs named v.defines) (λ n. one_unread (has_room fs) n (files n)) r q h k
  one_walk table named files fs [] (g ∷ ys) r q h k = absurd (not_both fs files table named g r (kept fs named v.defines) refl k.0.is_asked_for k.0 h)
  one_walk table named files fs (f ∷ xs) [] r q h k = absurd (not_both fs files table named f q (kept fs named v.defines) refl h.0.is_asked_for h.0 k)
  one_walk table named files fs (f ∷ xs) (g ∷ ys) r q h k =
      let names : f.name ≡ g.name = cc (sym h.0.is_asked_for ∙ k.0.is_asked_for) in
      let same : g ≡ f = sym (same_file f g files names h.0.is_there k.0.is_there) in
      let P : File → Type 0 = λ x. Walks v table named files (fs ++ x ∷ []) ys q in
      one_walk table named files (fs ++ f ∷ []) xs ys r q h.1 (subst P same k.1)

pub one_reply : (command : Option Command) (files : Files) (r q : Reply) → IsReply command files r → IsReply command files q → r ≡ q
one_reply None files r q h k = h ∙ sym k
one_reply (Some (check v)) files r q h k =
    one_file v.table (λ table. OfFiles v.files files (λ fs. OfWalk v table (length fs) files fs)) (files v.table)
    (λ table. one_files v.files files (λ fs. OfWalk v table (length fs) files fs) (λ fs x y a b. one_walk v table (length fs) files fs a.included b.included x y a.walks b.walks)) r q h k
one_reply (Some (lrat names)) files r q h k = one_files names files OfLogs one_of_logs r q h k
