use Rattle.std.proofs.Common.{◌≡◌, ℕ, ◌+◌, ◌*◌, ◌<◌, ◌≤◌, Bool, false, ◌||◌, List, length, take, get_or, ap, refl, sym, subst, ◌∙◌, OnOk, arith}
use Rattle.std.specs.List.{list_any}
use Rattle.std.specs.Borrow.{Bor}
use Rattle.std.proofs.lemmas.Result.{on_ok_weaker}
use Rattle.std.proofs.lemmas.List.{take_all}
use Rattle.design_core.specs.declared.tree.DExpr.{DExpr}
use Rattle.design_core.specs.declared.tree.DLeft.{DLeft}
use Rattle.design_core.specs.declared.tree.DStmt.{DStmt}
use Rattle.design_core.specs.declared.tree.DFunction.{DFunction}
use Rattle.design_core.specs.declared.tree.DNode.{out-DNode}
use Rattle.design_core.specs.Core.{reads, left_reads, stmt_reads}
use Rattle.design_core.specs.Terms.{term, left, stmt}
use Rattle.tree_parts.specs.Parts.{asked_of, children_of, operands_of, seen}
use Rattle.tree_parts.proofs.PartLaws.{seen_length}
use Rattle.item_bits.specs.declared.pieces.Piece.{Piece}
use Rattle.item_bits.specs.Pieces.{Adds}
use Rattle.item_bits.specs.Reads.{all_read, all_run}
use Rattle.item_bits.proofs.AddLaws.{adds_none, adds_as, adds_both, adds_more}
use Rattle.tree_parts.proofs.FallLaws.{operands_fall, asked_fall, part_falls, child_falls, part_is, part_there}
use Rattle.item_bits.proofs.ReadLaws.{expr_reads, called_reads, called_by, called_none, stmt_runs, write_reads, left_whole_reads, left_part_reads, left_at_reads, left_concat_reads}
use Rattle.item_bits.proofs.SpanLaws.{plain_none}
use Rattle.item_bits.proofs.reads.+walk.Goals as goal

pub add_all-add_reads-requires : goal.add_all-add_reads-requires
add_all-add_reads-requires t c = ((let less = part_falls c.args.parts.now c.loop-at.at c.index-parts-at.result c.loop-at-test.true c.index-parts-at.is in omega (arith, less)), tt)

pub add_all-loop-at-preserved : goal.add_all-loop-at-preserved
add_all-loop-at-preserved t c = λ size. adds_more (λ (e : DExpr). reads (term size e)) c.args.all.now.items c.loop-at.all.items c.add_reads.new.all.items (seen c.args.parts.now) c.loop-at.at c.index-parts-at.result.now
    (part_there c.args.parts.now c.loop-at.at c.loop-at-test.true) (part_is c.args.parts.now c.loop-at.at c.index-parts-at.result c.loop-at-test.true c.index-parts-at.is)
    (c.loop-at.invariant size) (c.in_ok-add_reads.ensures size)

pub add_all-returns : goal.add_all-returns
add_all-returns t c = λ size.
    let n = seen_length c.args.parts.now in
    let P : List DExpr → Type 0 = λ es. Adds c.args.all.now.items c.loop-at.all.items (all_read size es) in
    subst P (take_all c.loop-at.at (seen c.args.parts.now) (omega (arith, n, c.loop-at-test.false))) (c.loop-at.invariant size)

pub add_left_reads-loop-at-preserved : goal.add_left_reads-loop-at-preserved
add_left_reads-loop-at-preserved t c = λ size. adds_more (λ (l : DLeft). left_reads (left size l)) c.args.all.now.items c.loop-at.all.items c.add_left_reads.new.all.items c.as_slice-parts.result.now c.loop-at.at c.index-parts-at.result
    c.loop-at-test.true (sym c.index-parts-at.is) (c.loop-at.invariant size) (c.in_ok-add_left_reads-in-Concat.ensures size)

pub add_left_reads-returns-in-At : goal.add_left_reads-returns-in-At
add_left_reads-returns-in-At t c = on_ok_weaker c.add_reads.result (λ done. λ size.
    adds_as c.args.all.now.items c.add_reads.new.all.items (reads (term size c.get.result.now)) (left_reads (left size c.args.left.now))
    (λ b. left_at_reads size b c.args.left.now c.in-At.base c.in-At.index c.in-At.offset c.in-At.down c.in-At.length c.in-At.is ∙ ap (λ (e : DExpr). reads (term size e) b) (sym c.get.ensures)) (done size)) c.add_reads.ensures

pub add_left_reads-returns-after-loop-at : goal.add_left_reads-returns-after-loop-at
add_left_reads-returns-after-loop-at t c = λ size.
    let P : List DLeft → Type 0 = λ ls. Adds c.args.all.now.items c.loop-at.all.items (λ b. list_any (λ (x : DLeft). left_reads (left size x) b) ls) in
    adds_as c.args.all.now.items c.loop-at.all.items (λ b. list_any (λ (x : DLeft). left_reads (left size x) b) c.in-Concat.parts) (left_reads (left size c.args.left.now))
    (λ b. left_concat_reads size b c.args.left.now c.in-Concat.parts c.in-Concat.is)
    (subst P (take_all c.loop-at.at c.as_slice-parts.result.now (omega (arith, c.loop-at-test.false)) ∙ c.as_slice-parts.ensures) (c.loop-at.invariant size))

pub add_reads-add_all-requires : goal.add_reads-add_all-requires
add_reads-add_all-requires t c = ((let less = operands_fall c.args.e.now c.as_slice.result.now (ap seen c.as_slice.ensures.value ∙ c.in_ok-parts.ensures) in omega (arith, less)), tt)

pub add_reads-returns-in-Call : goal.add_reads-returns-in-Call
add_reads-returns-in-Call t c = on_ok_weaker c.add_stmt_reads.result (λ done. λ size.
    let e = c.args.e.now in
    let P : List DExpr → Type 0 = λ es. Adds c.args.all.now.items c.add_all.new.all.items (all_read size es) in
    let F : DFunction → Type 0 = λ f. Adds c.add_all.new.all.items c.add_stmt_reads.new.all.items (stmt_reads (stmt size f.body)) in
    adds_both c.args.all.now.items c.add_all.new.all.items c.add_stmt_reads.new.all.items (all_read size (operands_of e)) (stmt_reads (stmt size c.in-Call.function.body)) (reads (term size e))
    (subst P (ap seen c.as_slice.ensures.value ∙ c.in_ok-parts.ensures) (c.in_ok-add_all.ensures size)) (subst F c.get.ensures (done size))
    (λ b. expr_reads size b e (plain_none e c.span_of.result c.span_of.ensures c.in_default.not-Some size)
    ∙ ap (λ x. all_read size (operands_of e) b || x) (called_by size b e c.in-Call.function c.in-Call.arguments c.in-Call.is))) c.add_stmt_reads.ensures

pub add_reads-returns : goal.add_reads-returns
add_reads-returns t c = λ size.
    let e = c.args.e.now in
    let P : List DExpr → Type 0 = λ es. Adds c.args.all.now.items c.add_all.new.all.items (all_read size es) in
    adds_as c.args.all.now.items c.add_all.new.all.items (all_read size (operands_of e)) (reads (term size e))
    (λ b. expr_reads size b e (plain_none e c.span_of.result c.span_of.ensures c.in_default.not-Some size) ∙ called_none size b e c.in_default-node.not-Call (all_read size (operands_of e) b))
    (subst P (ap seen c.as_slice.ensures.value ∙ c.in_ok-parts.ensures) (c.in_ok-add_all.ensures size))

pub add_stmt_reads-returns-in-Write : goal.add_stmt_reads-returns-in-Write
add_stmt_reads-returns-in-Write t c = on_ok_weaker c.add_left_reads.result (λ done. λ size.
    adds_both c.args.all.now.items c.add_reads.new.all.items c.add_left_reads.new.all.items (reads (term size c.in-Write.right)) (left_reads (left size c.in-Write.left)) (stmt_reads (stmt size c.args.body.now))
    (c.in_ok-add_reads.ensures size) (done size) (λ b. write_reads size b c.args.body.now c.in-Write.left c.in-Write.right c.in-Write.blocking c.in-Write.is)) c.add_left_reads.ensures

pub add_stmt_reads-add_all-requires : goal.add_stmt_reads-add_all-requires
add_stmt_reads-add_all-requires t c = ((let less = asked_fall c.args.body.now c.as_slice.result.now (ap seen c.as_slice.ensures.value ∙ c.in_ok-parts.ensures) in omega (arith, less)), tt)

pub add_stmt_reads-add_stmt_reads-requires : goal.add_stmt_reads-add_stmt_reads-requires
add_stmt_reads-add_stmt_reads-requires t c =
    let lt : c.loop-at.at < length c.in_ok-statements.statements.items = omega (arith, c.len-at-end.ensures, c.loop-at-test.true, c.in_ok-statements.statements.ok.0) in
    ((let less = child_falls c.args.body.now c.in_ok-statements.statements.items c.loop-at.at c.index.result.now c.in_ok-statements.ensures lt c.index.ensures in omega (arith, less)), tt)

pub add_stmt_reads-loop-at-preserved : goal.add_stmt_reads-loop-at-preserved
add_stmt_reads-loop-at-preserved t c = λ size.
    let lt : c.loop-at.at < length c.in_ok-statements.statements.items = omega (arith, c.len-at-end.ensures, c.loop-at-test.true, c.in_ok-statements.statements.ok.0) in
    let P : List DStmt → Type 0 = λ ss. Adds c.add_all.new.all.items c.add_stmt_reads.new.all.items (all_run size (take (c.loop-at.at + 1) ss)) in
    let Q : List DStmt → Type 0 = λ ss. Adds c.add_all.new.all.items c.loop-at.all.items (all_run size (take c.loop-at.at ss)) in
    subst P c.in_ok-statements.ensures (adds_more (λ (s : DStmt). stmt_reads (stmt size s)) c.add_all.new.all.items c.loop-at.all.items c.add_stmt_reads.new.all.items (seen c.in_ok-statements.statements.items) c.loop-at.at c.index.result.now.now
    (part_there c.in_ok-statements.statements.items c.loop-at.at lt) (part_is c.in_ok-statements.statements.items c.loop-at.at c.index.result.now lt c.index.ensures)
    (subst Q (sym c.in_ok-statements.ensures) (c.loop-at.invariant size)) (c.in_ok-add_stmt_reads.ensures size))

pub add_stmt_reads-returns : goal.add_stmt_reads-returns
add_stmt_reads-returns t c = λ size.
    let n = seen_length c.in_ok-statements.statements.items in
    let m = ap length c.in_ok-statements.ensures in
    let P : List DExpr → Type 0 = λ es. Adds c.args.all.now.items c.add_all.new.all.items (all_read size es) in
    let Q : List DStmt → Type 0 = λ ss. Adds c.add_all.new.all.items c.loop-at.all.items (all_run size ss) in
    adds_both c.args.all.now.items c.add_all.new.all.items c.loop-at.all.items (all_read size (asked_of c.args.body.now)) (all_run size (children_of c.args.body.now)) (stmt_reads (stmt size c.args.body.now))
    (subst P (ap seen c.as_slice.ensures.value ∙ c.in_ok-parts.ensures) (c.in_ok-add_all.ensures size))
    (subst Q (take_all c.loop-at.at (children_of c.args.body.now) (omega (arith, n, m, c.loop-at-test.false, c.len-at-end.ensures, c.in_ok-statements.statements.ok.0))) (c.loop-at.invariant size))
    (λ b. stmt_runs size b c.args.body.now c.in_default.not-Write)

pub add_left_reads-returns-in-Whole : goal.add_left_reads-returns-in-Whole
add_left_reads-returns-in-Whole t c = λ size. adds_none c.args.all.now.items (left_reads (left size c.args.left.now)) (λ b. left_whole_reads size b c.args.left.now c.in-Whole.base c.in-Whole.length c.in-Whole.is)

pub add_left_reads-returns-in-Part : goal.add_left_reads-returns-in-Part
add_left_reads-returns-in-Part t c = λ size. adds_none c.args.all.now.items (left_reads (left size c.args.left.now)) (λ b. left_part_reads size b c.args.left.now c.in-Part.base c.in-Part.low c.in-Part.length c.in-Part.is)
