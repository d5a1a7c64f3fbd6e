use Rattle.std.proofs.Common.{◌≡◌, ◌-◌, length}
use Rattle.vl_names.specs.Outward.{all}
use Rattle.vl_signals.specs.Sites.{site_from}
use Rattle.vl_signals.proofs.sites.site_of.Given as goal

abbrev pub invariant-loop-turn : goal.invariant-loop-turn
invariant-loop-turn l = site_from (length l.scopes) l.name (all l.scopes) l.fn.from ≡ site_from (l.turn-end - l.turn) l.name (all l.scopes) l.at
