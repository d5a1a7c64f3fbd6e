use Rattle.std.proofs.Common.{ap, length, arith}
use Rattle.sat_core.proofs.ArenaLaws.{pieces_length}
use Rattle.sat_core.proofs.arena.Arena.clause.Goals as goal

pub piece-requires-clause-at : goal.piece-requires-clause-at
piece-requires-clause-at c =
    let ends = c.self.inside.ends.items in
    let lits = c.self.inside.lits.items in
    let n = ap length c.self.view_is in
    omega (arith, n, pieces_length 0 ends lits, ap length c.as_slice-2.ensures.value, c.requires)
