use Rattle.std.proofs.Common.{◌≡◌, drop, false}
use Rattle.vl_generate.specs.Branches.{some_match}
use Rattle.vl_generate.proofs.branches.some_match.Given as goal

abbrev pub invariant-loop-value : goal.invariant-loop-value
invariant-loop-value g l = some_match (g.S.Constants.meaning l.scope) l.size l.selector l.found (drop l.value-index l.values) ≡ some_match (g.S.Constants.meaning l.scope) l.size l.selector false l.values
