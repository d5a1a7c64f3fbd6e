use Rattle.std.proofs.Common.{take}
use Rattle.sat_core.specs.Sync.{reads}
use Rattle.sat_core.specs.Looks.{OnlyOpen}
use Rattle.sat_core.proofs.visiting.free_literal.Given as goal

abbrev pub invariant-loop-lit : goal.invariant-loop-lit
invariant-loop-lit l = OnlyOpen (reads l.values) l.other (take l.lit-index l.clause)
