-- The printed texts, each of whole lines.
use Rattle.std.specs.Prelude.{List, [], ◌++◌, ℕ, Option, Some, None, slice_get, Bool, true, false, not, codes, decimal, length, count_by, flat_map, slice_index_or}
use Rattle.bits_core.specs.declared.names.File.{File}
use Rattle.design_core.specs.declared.place.BitRef.{BitRef}
use Rattle.vl_tree.specs.Codes.{bound, name, number}
use Rattle.vl_tree.specs.declared.faults.Code.{Code}
use Rattle.vl_tree.specs.declared.faults.Code.TheVariants as code
use Rattle.vl_tree.specs.declared.faults.Place.{Place}
use Rattle.vl_tree.specs.declared.faults.Place.TheVariants as place
use Rattle.plain_form.specs.Table.{Row}
use Rattle.plain_rows.specs.Verdicts.{Verdict, proved, refuted}
use Rattle.log_verdict.specs.declared.judge.LogAnswer.{LogAnswer}
use Rattle.log_verdict.specs.declared.judge.LogAnswer.TheVariants as log
use Rattle.conncheck.specs.Words.{Text}

-- the name of a file by its place
abbrev pub name_at : Option File → Text
name_at None = []
name_at (Some f) = f.name

abbrev pub line : Text → Text → Text
line word rest = (word ++ rest) ++ codes "\n"

-- a row with its verdict
pub record Judged : Type 0 where
  pub row : Row
  pub verdict : Verdict

-- a free input with value 1 in a cycle, by the path of its signal: the top module's name, a dot, its own name
abbrev pub input_line : Text → List Text → ℕ × BitRef → Text
input_line top names p = (((((codes "  input " ++ decimal p.0) ++ codes " ") ++ top) ++ codes ".") ++ slice_index_or names p.1.signal []) ++ codes " 1\n"

-- the text of a row
abbrev pub verdict_text : Text → List Text → Text → Verdict → Text
verdict_text top names name proved = line (codes "PROVED ") name
verdict_text top names name (refuted t ones) = ((((codes "REFUTED " ++ name) ++ codes " launch ") ++ decimal t) ++ codes "\n") ++ flat_map (input_line top names) ones

abbrev pub judged_text : Text → List Text → Judged → Text
judged_text top names j = verdict_text top names j.row.name j.verdict

abbrev pub is_proved : Verdict → Bool
is_proved proved = true
is_proved (refuted t ones) = false

abbrev pub was_proved : Judged → Bool
was_proved j = is_proved j.verdict

abbrev pub total_of : ℕ → ℕ → ℕ → Text
total_of n p r = (((((codes "TOTAL " ++ decimal n) ++ codes " proved ") ++ decimal p) ++ codes " refuted ") ++ decimal r) ++ codes " open 0 spent 0 large 0\n"

-- the numbers of rows, of proved ones and of refuted ones
abbrev pub total_text : List Judged → Text
total_text js = total_of (length js) (count_by was_proved js) (count_by (λ j. not (was_proved j)) js)

abbrev pub limit_text : Code → Text
limit_text c = (((((codes "LIMIT " ++ number c) ++ codes " ") ++ name c) ++ codes " ") ++ decimal (bound c)) ++ codes "\n"

-- a file's name and the line, or a path
abbrev pub place_text : List File → Place → Text
place_text files (place.Line file at) = (name_at (slice_get files file) ++ codes " ") ++ decimal at
place_text files (place.Path path) = path

abbrev pub refused_text : Code → Text → Text
refused_text c at = (((((codes "REFUSED " ++ number c) ++ codes " ") ++ name c) ++ codes "\nAT ") ++ at) ++ codes "\n"

-- a form that is not built yet, in the file of this name
abbrev pub not_yet_text : Text → Text
not_yet_text name = line (codes "REFUSED E00 NotYet\nAT ") name

-- a line of a text, by its number
abbrev pub numbered : ℕ → Text
numbered n = codes "line " ++ decimal n

-- what a log comes to; a step is named by its number from 1
abbrev pub log_text : LogAnswer → Text
log_text log.Verified = codes "VERIFIED\n"
log_text (log.Rejected step) = line (codes "REJECTED ") (decimal step)
log_text (log.BadFormula n) = refused_text code.BadDimacs (numbered n)
log_text (log.BadLog n) = refused_text code.BadLrat (numbered n)
