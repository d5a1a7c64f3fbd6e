use Rattle.std.proofs.Common.{ap, sym, arith}
use Rattle.design_core.specs.Wellformed.{signal_lengths}
use Rattle.tree_weights.specs.Rounds.{lengths_in}
use Rattle.tree_weights.specs.Spines.{last_weight, spine_weight}
use Rattle.tree_weights.proofs.SpendLaws.{last_falls, none_left, spine_falls}
use Rattle.tree_weights.proofs.SplitLaws.{split_expr, split_stmt}
use Rattle.tree_weights.proofs.weights.+weights.Goals as goal

pub spend_expr-returns-in_err-rest : goal.spend_expr-returns-in_err-rest
spend_expr-returns-in_err-rest t c =
    let s = split_expr (signal_lengths c.args.signals.now) (lengths_in c.args.round) c.args.e.now in
    none_left c.from_residual.result _ c.args.room c.from_residual.ensures (omega (arith, s, c.in_err-rest.ensures))

pub spend_expr-loop-next-init : goal.spend_expr-loop-next-init
spend_expr-loop-next-init t c =
    let s = split_expr (signal_lengths c.args.signals.now) (lengths_in c.args.round) c.args.e.now in
    record { spent = omega (arith, s, c.in_ok-rest.ensures); within = omega arith }

pub spend_expr-spend_beside-requires-in-Some : goal.spend_expr-spend_beside-requires-in-Some
spend_expr-spend_beside-requires-in-Some t c = ((let less = spine_falls c.loop-next.here.now c.in-Some.next.now (sym c.in-Some.ensures) in omega (arith, less)), tt)

pub spend_expr-returns-in_err-rest-2 : goal.spend_expr-returns-in_err-rest-2
spend_expr-returns-in_err-rest-2 t c =
    let s = split_expr (signal_lengths c.args.signals.now) (lengths_in c.args.round) c.in-Some.next.now in
    let w = ap (spine_weight (signal_lengths c.args.signals.now) (lengths_in c.args.round)) c.in-Some.ensures in
    none_left c.from_residual-in_err-rest-2.result _ c.args.room c.from_residual-in_err-rest-2.ensures
    (omega (arith, s, w, c.in_err-rest-2.ensures, c.loop-next.invariant.spent))

pub spend_expr-loop-next-smaller : goal.spend_expr-loop-next-smaller
spend_expr-loop-next-smaller t c = spine_falls c.loop-next.here.now c.in-Some.next.now (sym c.in-Some.ensures)

pub spend_expr-loop-next-preserved : goal.spend_expr-loop-next-preserved
spend_expr-loop-next-preserved t c =
    let s = split_expr (signal_lengths c.args.signals.now) (lengths_in c.args.round) c.in-Some.next.now in
    let w = ap (spine_weight (signal_lengths c.args.signals.now) (lengths_in c.args.round)) c.in-Some.ensures in
    let less = spine_falls c.loop-next.here.now c.in-Some.next.now (sym c.in-Some.ensures) in
    record { spent = omega (arith, s, w, c.in_ok-rest-2.ensures, c.loop-next.invariant.spent); within = omega (arith, less, c.loop-next.invariant.within) }

pub spend_stmt-returns-in_err-rest : goal.spend_stmt-returns-in_err-rest
spend_stmt-returns-in_err-rest t c =
    let s = split_stmt (signal_lengths c.args.signals.now) (lengths_in c.args.round) c.args.body.now in
    none_left c.from_residual.result _ c.args.room c.from_residual.ensures (omega (arith, s, c.in_err-rest.ensures))

pub spend_stmt-loop-next-init : goal.spend_stmt-loop-next-init
spend_stmt-loop-next-init t c =
    let s = split_stmt (signal_lengths c.args.signals.now) (lengths_in c.args.round) c.args.body.now in
    record { spent = omega (arith, s, c.in_ok-rest.ensures); within = omega arith }

pub spend_stmt-spend_before_last-requires-in-Some : goal.spend_stmt-spend_before_last-requires-in-Some
spend_stmt-spend_before_last-requires-in-Some t c = ((let less = last_falls c.loop-next.here.now c.in-Some.next.now (sym c.in-Some.ensures) in omega (arith, less)), tt)

pub spend_stmt-returns-in_err-rest-2 : goal.spend_stmt-returns-in_err-rest-2
spend_stmt-returns-in_err-rest-2 t c =
    let s = split_stmt (signal_lengths c.args.signals.now) (lengths_in c.args.round) c.in-Some.next.now in
    let w = ap (last_weight (signal_lengths c.args.signals.now) (lengths_in c.args.round)) c.in-Some.ensures in
    none_left c.from_residual-in_err-rest-2.result _ c.args.room c.from_residual-in_err-rest-2.ensures
    (omega (arith, s, w, c.in_err-rest-2.ensures, c.loop-next.invariant.spent))

pub spend_stmt-loop-next-smaller : goal.spend_stmt-loop-next-smaller
spend_stmt-loop-next-smaller t c = last_falls c.loop-next.here.now c.in-Some.next.now (sym c.in-Some.ensures)

pub spend_stmt-loop-next-preserved : goal.spend_stmt-loop-next-preserved
spend_stmt-loop-next-preserved t c =
    let s = split_stmt (signal_lengths c.args.signals.now) (lengths_in c.args.round) c.in-Some.next.now in
    let w = ap (last_weight (signal_lengths c.args.signals.now) (lengths_in c.args.round)) c.in-Some.ensures in
    let less = last_falls c.loop-next.here.now c.in-Some.next.now (sym c.in-Some.ensures) in
    record { spent = omega (arith, s, w, c.in_ok-rest-2.ensures, c.loop-next.invariant.spent); within = omega (arith, less, c.loop-next.invariant.within) }
