use Rattle.std.proofs.lemmas.Result.{on_ok_weaker}
use Rattle.design_core.specs.Core.{stmt_reads}
use Rattle.design_core.specs.Items.{cell_of}
use Rattle.design_core.specs.Parts.{clocked_of}
use Rattle.design_core.specs.Terms.{stmt}
use Rattle.item_bits.specs.Items.{asked_within}
use Rattle.item_bits.proofs.AddLaws.{adds_both}
use Rattle.item_bits.proofs.ItemLaws.{clocked_uses}
use Rattle.item_bits.proofs.items.add_clocked_uses.Goals as goal

pub returns : goal.returns
returns c = on_ok_weaker c.add_stmt_reads.result (λ done. λ size low.
    let item = clocked_of size c.args.reset.now c.args.body.now in
    adds_both c.args.all.now.items c.add_reset.new.all.items c.add_stmt_reads.new.all.items (asked_within item) (stmt_reads (stmt size c.args.body.now)) (cell_of item).uses
    (c.in_ok-add_reset.ensures size c.args.body.now low) (done size) (clocked_uses size c.args.reset.now c.args.body.now)) c.add_stmt_reads.ensures
