use Rattle.std.proofs.Common.{length, map}
use Rattle.std.proofs.lemmas.List.{length-map}
use Rattle.std.proofs.lemmas.Result.{on_ok_weaker}
use Rattle.item_exec.proofs.ItemPasses as p
use Rattle.item_exec.proofs.settling.hold_reset.Goals as goal

pub where_bit-requires-clause-there : goal.where_bit-requires-clause-there
where_bit-requires-clause-there g c =
    let m = g.D.Domain.meaning in
    p.reset_there (map m.width c.args.now.now) (length c.args.now.now) c.args.reset.now (length-map c.args.now.now m.width) c.requires.fits

pub exec_where-requires-clause-formed : goal.exec_where-requires-clause-formed
exec_where-requires-clause-formed g c =
    let m = g.D.Domain.meaning in
    p.reset_runs (map m.width c.args.now.now) (map m.width c.args.next.now) c.args.reset.now c.requires.env.alike c.requires.fits

pub returns-clause-done : goal.returns-clause-done
returns-clause-done g c =
    let m = g.D.Domain.meaning in
    on_ok_weaker c.exec_where.result (λ done v. p.held_run m c.args.domain.now c.where_bit.new.domain v c.args.now.now c.args.next.now c.in_ok-guard.guard c.args.reset.now _ _ c.where_bit.ensures.kept
    c.requires.env.now_are c.requires.env.next_are c.requires.env.alike (c.in_ok-guard.ensures.allows v) c.requires.fits c.requires.kind (done v)) c.exec_where.ensures.done
