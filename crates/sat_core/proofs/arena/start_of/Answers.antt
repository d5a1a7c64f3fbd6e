use Rattle.std.proofs.Common.{arith}
use Rattle.sat_core.proofs.ArenaLaws.{end_at}
use Rattle.sat_core.proofs.arena.start_of.Goals as goal

pub returns : goal.returns
returns c = end_at 0 c.args.ends.now c.args.at 0 (let ne = c.if-at-eq0.false in omega arith) c.requires
