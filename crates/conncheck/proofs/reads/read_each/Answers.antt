use Rattle.std.proofs.Common.{rules, ◌≡◌, ◌∙◌, ◌+◌, ◌++◌, ◌∷◌, [], Err, map, string_bytes, take, drop, get_or, ap, sym, subst, List, ℕ}
use Rattle.bits_core.specs.declared.names.File.{File}
use Rattle.vl_lex.specs.Sources.{AreSmall}
use Rattle.conncheck.specs.Reads.{AreRead, IsRead, Reaches, ReadsOne}
use Rattle.conncheck.proofs.AllowsLaws as laws
use Rattle.conncheck.proofs.ReadLaws as reads
use Rattle.conncheck.proofs.reads.read_each.Goals as goal

pub returns-in_err-file-clause-files : goal.returns-in_err-file-clause-files
returns-in_err-file-clause-files g c = laws.told (g.H.Shelf.tells c.args.shelf.now) _ (λ files e.
    let names = map string_bytes c.args.names.now in
    let i = c.loop-name.name-index in
    let n = string_bytes (get_or c.args.names.now i c.name-item.result) in
    let same : c.as_str.result.now ≡ n = c.as_str.ensures.value ∙ ap string_bytes c.name-item.is in
    let one = laws.at_told _ _ files c.in_err-file.ensures.files (c.loop-name.invariant.kept ∙ e) in
    let read = laws.at_told _ _ files c.loop-name.invariant.read e in
    let P : List ℕ → Type 0 = λ x. ReadsOne (g.H.Shelf.is_steady c.loop-name.shelf) files x (Err c.in_err-file.field-0.0) in
    let r : Reaches files names n = reads.reaches_at files (map string_bytes (take i c.args.names.now)) n (map string_bytes (drop (i + 1) c.args.names.now)) names c.loop-name.files
    (reads.name_at string_bytes c.args.names.now i c.name-item.result c.loop-name-test.true) read in
    let e : c.from_residual.result ≡ Err c.in_err-file.field-0.0 = search rules in
    rw e (reads.stops_at (g.H.Shelf.is_steady c.args.shelf.now) (g.H.Shelf.is_steady c.loop-name.shelf) files names n c.in_err-file.field-0.0 c.loop-name.invariant.steady r (subst P same one)))

pub loop-name-preserved : goal.loop-name-preserved
loop-name-preserved g c =
    let i = c.loop-name.name-index in
    let n = string_bytes (get_or c.args.names.now i c.name-item.result) in
    let same : c.as_str.result.now ≡ n = c.as_str.ensures.value ∙ ap string_bytes c.name-item.is in
    record {
      kept = c.read_one.ensures.kept ∙ c.loop-name.invariant.kept;
      steady = λ s. c.read_one.ensures.steady (c.loop-name.invariant.steady s);
      faults = c.in_ok-file.ensures.cause ∙ c.loop-name.invariant.faults;
      small = λ at lt.
          let R : List File → Type 0 = AreSmall in
          subst R (sym c.in_ok-push.ensures.ok) (reads.small_more c.loop-name.files c.in_ok-file.file c.loop-name.invariant.small c.in_ok-file.ensures.small) at lt;
      read = laws.told (g.H.Shelf.tells c.args.shelf.now) _ (λ files e.
          let one = laws.at_told _ _ files c.in_ok-file.ensures.files (c.loop-name.invariant.kept ∙ e) in
          let read = laws.at_told _ _ files c.loop-name.invariant.read e in
          let P : List ℕ → Type 0 = λ x. IsRead files x c.in_ok-file.file in
          let Q : List (List ℕ) → Type 0 = λ ns. AreRead files ns (c.loop-name.files ++ c.in_ok-file.file ∷ []) in
          let R : List File → Type 0 = λ fs. AreRead files (map string_bytes (take (i + 1) c.args.names.now)) fs in
          subst R (sym c.in_ok-push.ensures.ok) (subst Q (reads.one_more string_bytes c.args.names.now i c.name-item.result c.loop-name-test.true)
          (reads.more_read files (map string_bytes (take i c.args.names.now)) c.loop-name.files n c.in_ok-file.file read (subst P same one))));
    }
