use Rattle.std.proofs.Common.{false, length, subst}
use Rattle.sat_core.specs.Learn.{IsPairAt, SettleSays}
use Rattle.sat_core.proofs.BeginLaws.{begin_first, begin_second, begun_more}
use Rattle.sat_core.proofs.learning.begin_clause.Goals as goal

pub add-requires-clause-first : goal.add-requires-clause-first
add-requires-clause-first c =
    let at : IsPairAt c.args.clauses.now c.args.place c.in-Some.pair = record { clause = c.clause.result.now; there = c.clause.ensures; pair = c.in-Some.ensures } in
    begin_first c.args.clauses.now c.args.leaves (length c.args.trail.now.values.items) c.args.place c.args.trail.now c.args.watches.now c.requires.begun c.in-Some.pair at

pub add-requires-clause-second : goal.add-requires-clause-second
add-requires-clause-second c =
    let at : IsPairAt c.args.clauses.now c.args.place c.in-Some.pair = record { clause = c.clause.result.now; there = c.clause.ensures; pair = c.in-Some.ensures } in
    begin_second c.args.clauses.now c.args.leaves (length c.args.trail.now.values.items) c.args.place c.args.trail.now c.args.watches.now c.requires.begun c.in-Some.pair at

pub returns-clause-says : goal.returns-clause-says
returns-clause-says c =
    let cs = c.args.clauses.now in
    let size = length c.args.trail.now.values.items in
    let at : IsPairAt cs c.args.place c.in-Some.pair = record { clause = c.clause.result.now; there = c.clause.ensures; pair = c.in-Some.ensures } in
    let said : SettleSays cs c.args.leaves size c.args.place c.settle.new.trail c.args.watches.now c.in-Some.pair false =
    subst (SettleSays cs c.args.leaves size c.args.place c.settle.new.trail c.args.watches.now c.in-Some.pair) c.if-branch.false c.in_ok-settle.ensures.says in
    begun_more cs c.args.leaves size c.args.place c.settle.new.trail c.args.watches.now said.0 c.in-Some.pair at said.1 c.add.new.self c.in_ok-add.ensures.lists c.in_ok-add.ensures.pairs
