-- `check`: the rows of a table over sources.
use Rattle.std.specs.Prelude.{◌≡◌, List, [], ◌∷◌, ◌++◌, ℕ, Bool, true, false, ◌&&◌, ◌||◌, ◌==◌, ◌⊎◌, nat_lt, Option, Some, None, Ok, Err, if◌then◌else◌, codes, map, length}
use Rattle.std.specs.Char.{is_ascii_alphanumeric}
use Rattle.std.specs.List.{list_all}
use Rattle.bits_core.specs.declared.names.File.{File}
use Rattle.design_core.specs.Cells.{In}
use Rattle.grammar_views.specs.Views.{BreaksAt, IsSpelled}
use Rattle.plain_form.specs.Pieces.{pieces}
use Rattle.plain_form.specs.Table.{Row, rows_of}
use Rattle.plain_form.specs.Wires.{Wires, source_of}
use Rattle.plain_rows.specs.Plain.{IsRightHere}
use Rattle.shelf_io.specs.Files.{Files}
use Rattle.vl_lex.specs.Gate.{Reached}
use Rattle.vl_lex.specs.Lexed.{Seen}
use Rattle.vl_lex.specs.Walk.{kept}
use Rattle.vl_lex.specs.declared.gate.Halt.TheVariants as halt
use Rattle.vl_tree.specs.declared.faults.Code.TheVariants as code
use Rattle.vl_tree.specs.declared.faults.Place.TheVariants as place
use Rattle.vl_tree.specs.declared.faults.Stop.TheVariants as stop
use Rattle.vl_tree.specs.Codes.{bound}
use Rattle.conncheck.specs.Reading.{OfFile, OfFiles}
use Rattle.conncheck.specs.Reply.{Reply, limited, not_yet, refused, report}
use Rattle.conncheck.specs.Texts.{Judged, place_text}
use Rattle.conncheck.specs.Words.{Line, Text, line_of, then_some, value_of}

abbrev pub options : List Text
options = codes "--top" ∷ codes "--table" ∷ codes "--define" ∷ []

-- the top module, the table's name, the macros that are defined from the start, and the names of the sources
pub record Values : Type 0 where
  pub top : Text
  pub table : Text
  pub defines : List Text
  pub files : List Text

-- letters, digits and `_`
abbrev pub is_macro_byte : ℕ → Bool
is_macro_byte b = is_ascii_alphanumeric b || (b == 95)

abbrev pub is_macro_name : Text → Bool
is_macro_name name = nat_lt 0 (length name) && list_all is_macro_byte name

-- the names of a list, parted by commas
abbrev pub names_of : List Text → Option (List Text)
names_of parts = if list_all is_macro_name parts then Some parts else None

abbrev pub defines_of : Option Text → Option (List Text)
defines_of None = Some []
defines_of (Some list) = names_of (pieces 44 list)

-- the top module and the table are wanted, and one file name or more
abbrev pub with_values : Option Text → Option Text → Option (List Text) → List Text → Option Values
with_values None table defines files = None
with_values (Some top) None defines files = None
with_values (Some top) (Some table) None files = None
with_values (Some top) (Some table) (Some defines) files =
    if nat_lt 0 (length files) then Some (record { top = top; table = table; defines = defines; files = files }) else None

abbrev pub values_of : Line → Option Values
values_of l = with_values (value_of l.pairs (codes "--top")) (value_of l.pairs (codes "--table")) (defines_of (value_of l.pairs (codes "--define"))) l.files

-- the values that the words behind `check` spell
abbrev pub values : List Text → Option Values
values words = then_some (line_of options words) values_of

-- one verdict for each row, in order, each right by the meaning of the module
pub record AreJudged (w : Wires) (rows : List Row) (js : List Judged) : Type 0 where
  pub same_rows : map (λ j. j.row) js ≡ rows
  pub right : (j : Judged) → In j js → IsRightHere w.slots j.row j.verdict

-- the rows of a report, in whatever right way they were judged
pub record IsReport (top : Text) (w : Wires) (rows : List Row) (r : Reply) : Type 0 where
  pub judged : List Judged
  pub are_judged : AreJudged w rows judged
  pub is_report : r ≡ report top w.names judged

abbrev pub OfTable : Values → Wires → Option (List Row) → Reply → Type 0
OfTable v w None r = r ≡ not_yet v.table
OfTable v w (Some rows) r = IsReport v.top w rows r

-- the first of several names
abbrev pub first_of : List Text → Text
first_of [] = []
first_of (n ∷ ns) = n

abbrev pub OfSource : Values → Text → Option Wires → Reply → Type 0
OfSource v table None r = r ≡ not_yet (first_of v.files)
OfSource v table (Some w) r = OfTable v w (rows_of w.names v.top table) r

-- the texts of all tokens: the source has to be plain, and then the table
abbrev pub OfWords : Values → Text → List Text → Reply → Type 0
OfWords v table words r = OfSource v table (source_of v.top words) r

-- the fault of syntax at a token, by its file and line
abbrev pub bad_syntax : List File → Seen → Reply
bad_syntax fs t = refused code.Syntax (place_text fs (place.Line t.span.file t.span.line))

-- the tokens of all files: they break, at the first token of the first part that no module spells, or a source spells them and their texts are asked
abbrev pub OfTokens : Values → Text → List File → List Seen → Reply → Type 0
OfTokens v table fs tokens r =
    ((first : Seen) × BreaksAt tokens first × (r ≡ bad_syntax fs first)) ⊎ (IsSpelled tokens × OfWords v table (map (λ t. t.text) tokens) r)

-- what the walk over these files comes to; no walk ends with want of memory
abbrev pub OfReached : Values → Text → List File → (Text → Reply → Type 0) → Reached (List Seen) → Reply → Type 0
OfReached v table fs Need (Ok tokens) r = OfTokens v table fs tokens r
OfReached v table fs Need (Err (halt.Stop (stop.Fault f))) r = r ≡ refused f.code (place_text fs f.place)
OfReached v table fs Need (Err (halt.Stop (stop.Limit l))) r = r ≡ limited l
OfReached v table fs Need (Err (halt.Stop stop.NoMemory)) r = ⊥
OfReached v table fs Need (Err (halt.Need n)) r = Need n r

-- no check has more files than the limit
abbrev pub has_room : List File → Bool
has_room fs = nat_lt (length fs) (bound code.Files)

-- the walk over these files asks for this one, and it can be read
pub record IsIncluded (v : Values) (named : ℕ) (files : Files) (fs : List File) (f : File) : Type 0 where
  pub is_asked_for : kept fs named v.defines ≡ Err (halt.Need f.name)
  pub room : has_room fs ≡ true
  pub is_there : files f.name ≡ Some f.bytes
  pub fits : nat_lt (bound code.FileBytes) (length f.bytes) ≡ false

-- a file that the walk asks for and that can't be read
abbrev pub OfUnread : Bool → Text → Option Text → Reply → Type 0
OfUnread true name file r = OfFile name (λ bytes x. ⊥) file r
OfUnread false name file r = r ≡ limited code.Files

-- the walk over these files asks for the included ones, one after the other, and asks for no more that can be read
abbrev pub Walks : Values → Text → ℕ → Files → List File → List File → Reply → Type 0
Walks v table named files fs [] r = OfReached v table fs (λ n. OfUnread (has_room fs) n (files n)) (kept fs named v.defines) r
Walks v table named files fs (f ∷ more) r = IsIncluded v named files fs f × Walks v table named files (fs ++ f ∷ []) more r

-- the walk over the named sources and what they include
pub record OfWalk (v : Values) (table : Text) (named : ℕ) (files : Files) (fs : List File) (r : Reply) : Type 0 where
  pub included : List File
  pub walks : Walks v table named files fs included r

-- the replies of the command: the table is read first, then the sources in order, then what they include; then a source has to spell the tokens and to be plain, and last the table
abbrev pub Means : Values → Files → Reply → Type 0
Means v files r = OfFile v.table (λ table. OfFiles v.files files (λ fs. OfWalk v table (length fs) files fs)) (files v.table) r
