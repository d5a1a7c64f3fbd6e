use Rattle.std.proofs.Common.{◌∙◌, sym}
use Rattle.plain_form.proofs.WireLaws as laws
use Rattle.plain_form.proofs.wires.Wires.drive_all.Goals as goal

pub returns-then-not-drive-clause-refused : goal.returns-then-not-drive-clause-refused
returns-then-not-drive-clause-refused c = λ _.
    sym c.loop-assign.invariant ∙ laws.next_driven _ c.args.assigns.now c.loop-assign.assign-index _ _ c.loop-assign-test.true (c.drive.ensures.refused c.if-not-drive.true)

pub loop-assign-preserved : goal.loop-assign-preserved
loop-assign-preserved c =
    sym (laws.next_driven _ c.args.assigns.now c.loop-assign.assign-index _ _ c.loop-assign-test.true (c.drive.ensures.driven c.if-not-drive.false)) ∙ c.loop-assign.invariant
