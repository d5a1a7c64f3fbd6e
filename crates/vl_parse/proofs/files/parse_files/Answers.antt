use Rattle.std.proofs.Common.{rules, ◌≡◌, Err, IfErr, drop, subst, sym, arith}
use Rattle.vl_parse.specs.Sources.{Refuses}
use Rattle.vl_parse.proofs.Turns.{Reads, reads_start, turn_more, turn_refused, reads_done}
use Rattle.vl_parse.proofs.files.parse_files.Goals as goal

pub loop-at-init : goal.loop-at-init
loop-at-init c = (reads_start c.args.tokens.now c.as_slice-all.result.now c.new-modules.result c.new-modules.ensures c.as_slice-all.ensures, omega arith)

pub returns-in_err-module-clause-refused : goal.returns-in_err-module-clause-refused
returns-in_err-module-clause-refused c =
    let e : c.from_residual.result ≡ Err c.in_err-module.field-0.0 = search rules in
    subst (λ z. IfErr z (λ stop. Refuses c.args.tokens.now stop)) (sym e)
    (turn_refused c.args.tokens.now (drop c.loop-at.at c.as_slice-all.result.now) c.loop-at.modules c.in_err-module.field-0.0 c.loop-at.invariant.0 c.in_err-module.ensures.refused)

pub loop-at-preserved : goal.loop-at-preserved
loop-at-preserved c = (
  subst (λ z. Reads c.args.tokens.now z (drop c.in_ok-module.end c.as_slice-all.result.now)) (sym c.in_ok-push.ensures.ok)
      (turn_more c.args.tokens.now (drop c.loop-at.at c.as_slice-all.result.now) (drop c.in_ok-module.end c.as_slice-all.result.now) c.loop-at.modules c.in_ok-module.module
      c.loop-at.invariant.0 c.in_ok-module.ensures.found),
  c.in_ok-module.ensures.within,
)

pub returns-clause-tree : goal.returns-clause-tree
returns-clause-tree c =
    reads_done c.args.tokens.now c.as_slice-all.result.now c.loop-at.at c.loop-at.modules c.loop-at.invariant.1 (omega arith) c.loop-at.invariant.0
