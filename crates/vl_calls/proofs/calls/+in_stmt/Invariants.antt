use Rattle.std.proofs.Common.{◌≡◌, drop, map}
use Rattle.vl_names.specs.Names.{listed}
use Rattle.vl_acts.specs.Acts.{act, arm_act, acts_of, arms_of}
use Rattle.vl_calls.specs.Called.{in_acts, in_arms}
use Rattle.vl_calls.proofs.calls.+in_stmt.Given as goal

abbrev pub invariant-in_stmts-loop-stmt : goal.invariant-in_stmts-loop-stmt
invariant-in_stmts-loop-stmt l = in_acts (listed l.all) (acts_of (map act (drop l.stmt-index l.stmts))) ≡ in_acts (listed l.fn.before) (acts_of (map act l.stmts))

abbrev pub invariant-in_citems-loop-item : goal.invariant-in_citems-loop-item
invariant-in_citems-loop-item l = in_arms (listed l.all) (arms_of (map arm_act (drop l.item-index l.items))) ≡ in_arms (listed l.fn.before) (arms_of (map arm_act l.items))
