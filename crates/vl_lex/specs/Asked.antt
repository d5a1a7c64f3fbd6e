-- The file that an include asks for, by what the walk knows before it.
use Rattle.std.specs.Prelude.{ℕ, nat_lt, ◌==◌, Bool, true, false, ◌&&◌, ◌||◌, if◌then◌else◌, Option, Some, None, List, [], ◌∷◌, length}
use Rattle.std.specs.Str.{bytes_eq}
use Rattle.std.specs.List.{list_any}
use Rattle.bits_core.specs.declared.names.File.{File}
use Rattle.vl_lex.specs.declared.directives.Directive.{Directive}
use Rattle.vl_lex.specs.declared.directives.Directive.TheVariants as d
use Rattle.vl_lex.specs.Bytes.{Text}
use Rattle.vl_lex.specs.Lexed.{Placed}
use Rattle.vl_lex.specs.Macros.{directive_of, directive_name, is_directive}
use Rattle.vl_lex.specs.Walk.{SState, SBranches, most_files, find_file, is_quoted, inner_text, is_file_name}

abbrev pub is_include : Directive → Bool
is_include d.Include = true
is_include _ = false

abbrev pub lacking : Option ℕ → Text → Option Text
lacking None name = Some name
lacking (Some i) name = None

-- a name is asked for where no file has it, and a file more may be named
unfoldable pub asked_name : List File → SState → Text → Option Text
asked_name files s name =
    if list_any (λ n. bytes_eq n name) s.listed || nat_lt (length s.listed) most_files then lacking (find_file 0 name files) name else None

unfoldable pub asked_include : ℕ → List File → SState → Placed → List Placed → Option Text
asked_include levels files s t [] = None
asked_include levels files s t (n ∷ ns) =
    if n.row == t.row && is_quoted n.token.kind && is_file_name (inner_text n.token.text) then (if levels == 0 then None else asked_name files s (inner_text n.token.text)) else None

-- the file that a token asks for
unfoldable pub asked : ℕ → List File → SBranches → SState → Placed → List Placed → Option Text
asked levels files bs s t ts =
    if is_directive t.token.kind && bs.active && is_include (directive_of (directive_name t.token)) then asked_include levels files s t ts else None
