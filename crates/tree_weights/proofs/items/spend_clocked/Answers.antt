use Rattle.std.proofs.Common.{arith}
use Rattle.std.proofs.lemmas.Grind.{common_steps}
use Rattle.design_core.specs.Formed.{stmt_weight}
use Rattle.design_core.specs.Wellformed.{reset_weight, signal_lengths}
use Rattle.tree_weights.specs.Rounds.{lengths_in}
use Rattle.tree_weights.proofs.ItemLaws.{plain_is, reset_is}
use Rattle.tree_weights.proofs.SpendLaws.{spent_as}
use Rattle.tree_weights.proofs.items.spend_clocked.Goals as goal

pub returns-in-None : goal.returns-in-None
returns-in-None c =
    let vs = signal_lengths c.args.signals.now in
    let ls = lengths_in c.no_locals-outside.result in
    spent_as c.spend_stmt.result (stmt_weight vs ls c.args.body.now) (reset_weight vs c.args.reset.now c.args.body.now) c.args.room
    (plain_is vs ls c.no_locals-outside.ensures c.args.reset.now c.args.body.now c.in-None.is) c.spend_stmt.ensures

pub returns-in_err-tested-in-Some : goal.returns-in_err-tested-in-Some
returns-in_err-tested-in-Some c =
    let e = reset_is (signal_lengths c.args.signals.now) (lengths_in c.no_locals-outside.result) c.no_locals-outside.ensures c.args.reset.now c.in-Some.reset c.args.body.now c.in-Some.is in
    grind (arith, e, common_steps)

pub returns-in_err-chosen-in-Some : goal.returns-in_err-chosen-in-Some
returns-in_err-chosen-in-Some c =
    let e = reset_is (signal_lengths c.args.signals.now) (lengths_in c.no_locals-outside.result) c.no_locals-outside.ensures c.args.reset.now c.in-Some.reset c.args.body.now c.in-Some.is in
    grind (arith, e, common_steps)

pub returns-in_err-branched-in-Some : goal.returns-in_err-branched-in-Some
returns-in_err-branched-in-Some c =
    let e = reset_is (signal_lengths c.args.signals.now) (lengths_in c.no_locals-outside.result) c.no_locals-outside.ensures c.args.reset.now c.in-Some.reset c.args.body.now c.in-Some.is in
    grind (arith, e, common_steps)

pub returns-in_ok-branched-in-Some : goal.returns-in_ok-branched-in-Some
returns-in_ok-branched-in-Some c =
    let e = reset_is (signal_lengths c.args.signals.now) (lengths_in c.no_locals-outside.result) c.no_locals-outside.ensures c.args.reset.now c.in-Some.reset c.args.body.now c.in-Some.is in
    grind (arith, e, common_steps)
