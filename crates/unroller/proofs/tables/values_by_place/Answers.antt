use Rattle.std.proofs.Common.{false, get_or, subst}
use Rattle.std.proofs.lemmas.List.{get_or_default}
use Rattle.unroller.specs.declared.setup.FixedBit.{FixedBit}
use Rattle.unroller.specs.Tables.{IsPlaceOf}
use Rattle.unroller.proofs.TableLaws.{pinned_none, pinned_put}
use Rattle.unroller.proofs.tables.values_by_place.Goals as goal
use Rattle.unroller.proofs.tables.values_by_place.Goals.{in-Some, in_default}

pub loop-at-preserved : goal.loop-at-preserved
loop-at-preserved c =
    let bits = c.args.bits.now in
    let fixed = c.args.fixed.now in
    let at = c.loop-at.at in
    let d : FixedBit = get_or fixed at (record { bit = 0; value = false }) in
    let is = get_or_default fixed at (record { bit = 0; value = false }) d c.loop-at-test.true in
    elim c.match-place_of.branch [
      | in-Some w ↦
          rw w.table-is
          (pinned_put bits fixed at c.loop-at.table.items d c.requires c.loop-at-test.true is c.loop-at.invariant w.in-Some.place (subst (IsPlaceOf bits d.bit) w.in-Some.is c.place_of.ensures))
      | in_default w ↦
          rw w.table-is
          (pinned_none bits fixed at c.loop-at.table.items d c.requires c.loop-at-test.true is c.loop-at.invariant (subst (IsPlaceOf bits d.bit) w.in_default.is c.place_of.ensures))
    ]
