use Rattle.std.proofs.Common.{arith}
use Rattle.vl_names.specs.Names.{listed}
use Rattle.vl_marks.proofs.MarkLaws.{fault_next, names_next, fault_whole}
use Rattle.vl_marks.proofs.marks.first_fault.Goals as goal

pub loop-turn-preserved : goal.loop-turn-preserved
loop-turn-preserved c = (
  fault_next (listed c.args.names.now) c.args.marks.now c.loop-turn.turn c.index-marks-marks.result c.loop-turn.behind.fault c.in_ok-behind.behind.fault (listed c.loop-turn.behind.names) (omega arith) c.index-marks-marks.is c.loop-turn.invariant.0 c.loop-turn.invariant.1 c.in_ok-behind.ensures.fault,
  names_next c.args.marks.now c.loop-turn.turn c.index-marks-marks.result (listed c.loop-turn.behind.names) (listed c.in_ok-behind.behind.names) (omega arith) c.index-marks-marks.is c.loop-turn.invariant.1 c.in_ok-behind.ensures.names,
)

pub returns : goal.returns
returns c = fault_whole (listed c.args.names.now) c.args.marks.now c.loop-turn.turn c.loop-turn.behind.fault (omega arith) c.loop-turn.invariant.0
