use Rattle.std.proofs.Common.{arith}
use Rattle.std.proofs.lemmas.Grind.{common_steps}
use Rattle.design_core.specs.Formed.{stmt_weight}
use Rattle.design_core.specs.Wellformed.{signal_lengths, weight_of}
use Rattle.tree_weights.specs.Rounds.{lengths_in}
use Rattle.tree_weights.proofs.ItemLaws.{assign_is, process_is}
use Rattle.tree_weights.proofs.SpendLaws.{spent_as}
use Rattle.tree_weights.proofs.items.spend_item.Goals as goal

pub returns-in-Comb : goal.returns-in-Comb
returns-in-Comb c =
    let vs = signal_lengths c.args.signals.now in
    let ls = lengths_in c.no_locals-outside.result in
    spent_as c.spend_stmt.result (stmt_weight vs ls c.in-Comb.body) (weight_of vs c.args.item.now) c.args.room
    (process_is vs ls c.no_locals-outside.ensures c.args.item.now c.in-Comb.scope c.in-Comb.weight c.in-Comb.body c.in-Comb.is) c.spend_stmt.ensures

pub returns-in_err-written-in-Assign : goal.returns-in_err-written-in-Assign
returns-in_err-written-in-Assign c =
    let e = assign_is (signal_lengths c.args.signals.now) (lengths_in c.no_locals-outside.result) c.no_locals-outside.ensures c.args.item.now c.in-Assign.scope c.in-Assign.weight c.in-Assign.left c.in-Assign.right c.in-Assign.is in
    grind (arith, e, common_steps)

pub returns-in_err-placed-in-Assign : goal.returns-in_err-placed-in-Assign
returns-in_err-placed-in-Assign c =
    let e = assign_is (signal_lengths c.args.signals.now) (lengths_in c.no_locals-outside.result) c.no_locals-outside.ensures c.args.item.now c.in-Assign.scope c.in-Assign.weight c.in-Assign.left c.in-Assign.right c.in-Assign.is in
    grind (arith, e, common_steps)

pub returns-in_ok-placed-in-Assign : goal.returns-in_ok-placed-in-Assign
returns-in_ok-placed-in-Assign c =
    let e = assign_is (signal_lengths c.args.signals.now) (lengths_in c.no_locals-outside.result) c.no_locals-outside.ensures c.args.item.now c.in-Assign.scope c.in-Assign.weight c.in-Assign.left c.in-Assign.right c.in-Assign.is in
    grind (arith, e, common_steps)
