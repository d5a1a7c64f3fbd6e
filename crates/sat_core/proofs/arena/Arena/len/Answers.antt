use Rattle.std.proofs.Common.{ap, length, arith}
use Rattle.sat_core.proofs.ArenaLaws.{pieces_length}
use Rattle.sat_core.proofs.arena.Arena.len.Goals as goal

pub returns : goal.returns
returns c =
    let ends = c.self.inside.ends.items in
    let lits = c.self.inside.lits.items in
    let n = ap length c.self.view_is in
    omega (arith, n, pieces_length 0 ends lits, c.len.ensures)
