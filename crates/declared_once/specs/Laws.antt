-- What is kept of declarations tells which one is too many.
use Rattle.std.specs.Prelude.{◌≡◌, List, true, if◌then◌else◌}
use Rattle.declared_once.specs.Declarations.{Declaration, Equal, accepted, clashes, is_declared, same_as_first}
use Rattle.declared_once.specs.Seen.{judge, kept_of}
use Rattle.declared_once.specs.declared.declared.Judgement.{Judgement}
use Rattle.declared_once.specs.declared.declared.Judgement.TheVariants.{First, Second, Clash}

-- one more declaration: it is too many, or the second part of a port, or the first of its name
abbrev pub judged : Equal → List Declaration → Declaration → Judgement
judged same ds d = if clashes same ds d then Clash else (if is_declared ds d.name then Second else First)

abbrev pub KeptNamesTell : Type 0
KeptNamesTell = (same : Equal) (ds : List Declaration) (d : Declaration) → accepted same ds ≡ true
    → judge (kept_of ds) d.role d.name (same_as_first same ds d.name d.bounds) ≡ judged same ds d
