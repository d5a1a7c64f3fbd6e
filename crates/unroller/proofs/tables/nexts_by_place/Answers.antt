use Rattle.std.proofs.Common.{◌-◌, length, get_or, subst, arith}
use Rattle.std.proofs.lemmas.List.{get_or_default}
use Rattle.cyc_net.specs.declared.cycle.BitNode.{BitNode}
use Rattle.cyc_net.specs.Cycles.{no_node}
use Rattle.unroller.specs.Tables.{IsPlaceOf}
use Rattle.unroller.proofs.TableLaws.{linked_none, linked_put}
use Rattle.unroller.proofs.tables.nexts_by_place.Goals as goal
use Rattle.unroller.proofs.tables.nexts_by_place.Goals.{in-Some, in_default}

pub loop-done-preserved : goal.loop-done-preserved
loop-done-preserved c =
    let states = c.args.states.now in
    let nexts = c.args.nexts.now in
    let done = c.loop-done.done in
    let lt = c.loop-done-test.true in
    let from = length nexts - 1 - done in
    let d : BitNode = get_or nexts from no_node in
    let is = get_or_default nexts from no_node d (omega (arith, lt)) in
    elim c.match-place_of.branch [
      | in-Some w ↦
          rw w.table-is
          (linked_put states nexts done c.loop-done.table.items d c.requires lt is c.loop-done.invariant w.in-Some.place (subst (IsPlaceOf states d.bit) w.in-Some.is c.place_of.ensures))
      | in_default w ↦
          rw w.table-is
          (linked_none states nexts done c.loop-done.table.items d c.requires lt is c.loop-done.invariant (subst (IsPlaceOf states d.bit) w.in_default.is c.place_of.ensures))
    ]
