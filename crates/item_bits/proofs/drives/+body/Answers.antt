use Rattle.std.proofs.Common.{◌≡◌, ℕ, ◌+◌, ◌*◌, ◌<◌, List, length, take, ap, sym, subst, ◌∙◌, arith}
use Rattle.std.specs.List.{list_any}
use Rattle.std.proofs.lemmas.Result.{on_ok_weaker}
use Rattle.std.proofs.lemmas.List.{take_all}
use Rattle.design_core.specs.declared.tree.DStmt.{DStmt}
use Rattle.design_core.specs.Core.{drives, left_drives}
use Rattle.design_core.specs.Parts.{length_at}
use Rattle.design_core.specs.Terms.{left, stmt}
use Rattle.tree_parts.specs.Parts.{children_of, seen}
use Rattle.tree_parts.proofs.PartLaws.{seen_length}
use Rattle.item_bits.specs.Pieces.{Adds}
use Rattle.item_bits.proofs.AddLaws.{adds_as, adds_more}
use Rattle.tree_parts.proofs.FallLaws.{child_falls, part_is, part_there}
use Rattle.item_bits.proofs.DriveLaws.{all_driven, stmt_drives, write_drives}
use Rattle.item_bits.proofs.drives.+body.Goals as goal

pub returns-in-Write : goal.returns-in-Write
returns-in-Write t c = on_ok_weaker c.add_left_drives.result (λ done.
    adds_as c.args.all.now.items c.add_left_drives.new.all.items (left_drives (left (length_at c.args.signals.now) c.in-Write.left)) (drives (stmt (length_at c.args.signals.now) c.args.body.now))
    (λ b. write_drives (length_at c.args.signals.now) b c.args.body.now c.in-Write.left c.in-Write.right c.in-Write.blocking c.in-Write.is) done) c.add_left_drives.ensures

pub add_drives-requires : goal.add_drives-requires
add_drives-requires t c =
    let lt : c.loop-at.at < length c.in_ok-statements.statements.items = omega (arith, c.len-at-end.ensures, c.loop-at-test.true, c.in_ok-statements.statements.ok.0) in
    ((let less = child_falls c.args.body.now c.in_ok-statements.statements.items c.loop-at.at c.index.result.now c.in_ok-statements.ensures lt c.index.ensures in omega (arith, less)), tt)

pub loop-at-preserved : goal.loop-at-preserved
loop-at-preserved t c =
    let size = length_at c.args.signals.now in
    let lt : c.loop-at.at < length c.in_ok-statements.statements.items = omega (arith, c.len-at-end.ensures, c.loop-at-test.true, c.in_ok-statements.statements.ok.0) in
    let P : List DStmt → Type 0 = λ ss. Adds c.args.all.now.items c.add_drives.new.all.items (λ b. all_driven size b (take (c.loop-at.at + 1) ss)) in
    let Q : List DStmt → Type 0 = λ ss. Adds c.args.all.now.items c.loop-at.all.items (λ b. all_driven size b (take c.loop-at.at ss)) in
    subst P c.in_ok-statements.ensures (adds_more (λ (s : DStmt). drives (stmt size s)) c.args.all.now.items c.loop-at.all.items c.add_drives.new.all.items (seen c.in_ok-statements.statements.items) c.loop-at.at c.index.result.now.now
    (part_there c.in_ok-statements.statements.items c.loop-at.at lt) (part_is c.in_ok-statements.statements.items c.loop-at.at c.index.result.now lt c.index.ensures)
    (subst Q (sym c.in_ok-statements.ensures) c.loop-at.invariant) c.in_ok-add_drives.ensures)

pub returns : goal.returns
returns t c =
    let size = length_at c.args.signals.now in
    let n = seen_length c.in_ok-statements.statements.items in
    let m = ap length c.in_ok-statements.ensures in
    let Q : List DStmt → Type 0 = λ ss. Adds c.args.all.now.items c.loop-at.all.items (λ b. all_driven size b ss) in
    adds_as c.args.all.now.items c.loop-at.all.items (λ b. all_driven size b (children_of c.args.body.now)) (drives (stmt size c.args.body.now))
    (λ b. stmt_drives size b c.args.body.now c.in_default.not-Write)
    (subst Q (take_all c.loop-at.at (children_of c.args.body.now) (omega (arith, n, m, c.loop-at-test.false, c.len-at-end.ensures, c.in_ok-statements.statements.ok.0))) c.loop-at.invariant)
