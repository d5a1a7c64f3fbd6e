-- `lrat`: a formula and a log.
use Rattle.std.specs.Prelude.{◌≡◌, List, [], ◌∷◌, Bool, ◌||◌, ◌==◌, Option, Some, None, if◌then◌else◌, length}
use Rattle.bits_core.specs.declared.names.File.{File}
use Rattle.cnf_core.specs.Text.{text_lines}
use Rattle.log_verdict.specs.Answer.{IsJudged, IsJudgedOne}
use Rattle.log_verdict.specs.declared.judge.LogAnswer.{LogAnswer}
use Rattle.shelf_io.specs.Files.{Files}
use Rattle.conncheck.specs.Reading.{OfFiles}
use Rattle.conncheck.specs.Reply.{Reply, logged}
use Rattle.conncheck.specs.Words.{Line, Text, line_of, then_some}

-- it has no options
abbrev pub options : List Text
options = []

-- the names of its files: one or two
abbrev pub Values : Type 0
Values = List Text

abbrev pub is_one_or_two : List Text → Bool
is_one_or_two files = (length files == 1) || (length files == 2)

abbrev pub values_of : Line → Option Values
values_of l = if is_one_or_two l.files then Some l.files else None

-- the values that the words behind `lrat` spell
abbrev pub values : List Text → Option Values
values words = then_some (line_of options words) values_of

-- a formula's text and a log's, or one text with both: the answer that their lines say, which is Verified exactly where the log refutes the formula
pub record IsLogged (IsAnswer : LogAnswer → Type 0) (r : Reply) : Type 0 where
  pub answer : LogAnswer
  pub is_answer : IsAnswer answer
  pub is_logged : r ≡ logged answer

abbrev pub OfLogs : List File → Reply → Type 0
OfLogs [] r = IsLogged (IsJudgedOne []) r
OfLogs (f ∷ []) r = IsLogged (IsJudgedOne (text_lines f.bytes)) r
OfLogs (f ∷ l ∷ fs) r = IsLogged (IsJudged 0 (text_lines f.bytes) (text_lines l.bytes)) r

-- the replies of the command
abbrev pub Means : Values → Files → Reply → Type 0
Means names files r = OfFiles names files OfLogs r
