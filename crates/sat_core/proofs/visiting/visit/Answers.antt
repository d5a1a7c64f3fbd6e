use Rattle.std.proofs.Common.{◌≡◌, ◌<◌, length, arith, ap}
use Rattle.sat_core.specs.Watch.{code_of, list_at}
use Rattle.sat_core.proofs.ListLaws.{read_list}
use Rattle.sat_core.proofs.TurnLaws.{visit_ends, visit_room}
use Rattle.sat_core.proofs.visiting.visit.Goals as goal

pub returns-clause-says : goal.returns-clause-says
returns-clause-says c =
    let v = c.loop-at.invariant.visiting in
    let t = c.loop-at.trail in
    let w = c.loop-at.watches in
    let size = length c.args.trail.now.values.items in
    let count = length c.args.watches.now.pairs.items in
    let room : code_of c.args.lit < length w.lists.items = visit_room c.args.clauses.now c.args.leaves size count t w c.args.lit c.loop-at.at v in
    let list : c.index.result.now ≡ list_at w.lists.items (code_of c.args.lit) = read_list w.lists.items c.index.result.now c.code-list.result (code_of c.args.lit) c.code-list.ensures.value room c.index.ensures in
    visit_ends c.args.clauses.now c.args.leaves size count t w c.args.lit c.loop-at.at v (omega (arith, ap length list))
