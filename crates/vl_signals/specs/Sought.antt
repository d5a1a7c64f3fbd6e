-- One step of the search for the site of a name.
use Rattle.std.specs.Prelude.{ℕ, Option}
use Rattle.vl_signals.specs.declared.sites.Site.{Site}
use Rattle.vl_signals.specs.declared.sites.Sought.{Sought}
use Rattle.vl_signals.specs.declared.sites.Sought.TheVariants.{Ended, Outside}

-- what is found, where `further` says what is found from the next scope on
abbrev pub given : (Option ℕ → Option Site) → Sought → Option Site
given further (Ended s) = s
given further (Outside at) = further at
