use Rattle.std.specs.Prelude.{ℕ, Bool}
use Rattle.cnf_core.specs.declared.text.Separator.{Separator}
use Rattle.cnf_core.specs.declared.text.Separator.TheVariants.{Newline, Blank}
use Rattle.cnf_core.specs.Text.{is_newline, is_blank}

-- whether a byte ends a part
abbrev pub ends : Separator → ℕ → Bool
ends Newline b = is_newline b
ends Blank b = is_blank b
