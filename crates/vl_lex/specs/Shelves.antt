-- What the answer of a walk depends on.
use Rattle.std.specs.Prelude.{◌≡◌, true, false, Err, List}
use Rattle.std.specs.Str.{bytes_eq}
use Rattle.std.specs.List.{list_any}
use Rattle.bits_core.specs.declared.names.File.{File}
use Rattle.vl_lex.specs.declared.gate.Halt.TheVariants as h
use Rattle.vl_lex.specs.Bytes.{Text}
use Rattle.vl_lex.specs.Gate.{Reached}
use Rattle.vl_lex.specs.Walk.{is_file_name}

-- The walk asks for no further file.
abbrev pub AsksNothing : {S : Type 0} → Reached S → Type 0
AsksNothing reached = (name : Text) → reached ≡ Err (h.Need name) → ⊥

-- A name of a file that the files lack.
pub record IsAbsent (name : Text) (files : List File) : Type 0 where
  pub is_name : is_file_name name ≡ true
  pub nowhere : list_any (λ f. bytes_eq f.name name) files ≡ false
