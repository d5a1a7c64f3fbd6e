use Rattle.std.proofs.Common.{ap}
use Rattle.std.proofs.lemmas.Result.{on_ok_weaker}
use Rattle.design_core.specs.Core.{left_reads, reads, stmt_reads}
use Rattle.design_core.specs.Parts.{item_of}
use Rattle.design_core.specs.Terms.{left, stmt, term}
use Rattle.item_bits.specs.Items.{asked_within}
use Rattle.item_bits.proofs.AddLaws.{adds_as, adds_both}
use Rattle.item_bits.proofs.items.add_item_reads.Goals as goal

pub returns-in_ok-add_reads-in-Assign : goal.returns-in_ok-add_reads-in-Assign
returns-in_ok-add_reads-in-Assign c = on_ok_weaker c.add_left_reads.result (λ done. λ size low.
    adds_both c.args.all.now.items c.add_reads.new.all.items c.add_left_reads.new.all.items (reads (term size c.in-Assign.right)) (left_reads (left size c.in-Assign.left)) (asked_within (item_of size c.args.item.now))
    (c.in_ok-add_reads-in-Assign.ensures size) (done size) (λ b. ap (λ i. asked_within (item_of size i) b) c.in-Assign.is)) c.add_left_reads.ensures

pub returns-in-Comb : goal.returns-in-Comb
returns-in-Comb c = on_ok_weaker c.add_stmt_reads.result (λ done. λ size low.
    adds_as c.args.all.now.items c.add_stmt_reads.new.all.items (stmt_reads (stmt size c.in-Comb.body)) (asked_within (item_of size c.args.item.now))
    (λ b. ap (λ i. asked_within (item_of size i) b) c.in-Comb.is) (done size)) c.add_stmt_reads.ensures
