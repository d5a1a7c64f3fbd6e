use Rattle.std.proofs.Common.{false, length, map}
use Rattle.std.proofs.lemmas.List.{length-map}
use Rattle.std.proofs.lemmas.Result.{on_ok_weaker}
use Rattle.value_domain.proofs.KeepLaws.{keeps_trans}
use Rattle.item_exec.proofs.ItemPasses as p
use Rattle.item_exec.proofs.storing.store_reset.Goals as goal

pub where_bit-requires-clause-there : goal.where_bit-requires-clause-there
where_bit-requires-clause-there g c =
    let m = g.D.Domain.meaning in
    p.reset_there (map m.width c.args.now.now) (length c.args.now.now) c.args.reset.now (length-map c.args.now.now m.width) c.requires.fits

pub where_bit-requires-2-clause-there : goal.where_bit-requires-2-clause-there
where_bit-requires-2-clause-there g c =
    let m = g.D.Domain.meaning in
    p.reset_there (map m.width c.args.now.now) (length c.args.now.now) c.args.reset.now (length-map c.args.now.now m.width) c.requires.fits

pub exec_where-requires-clause-formed : goal.exec_where-requires-clause-formed
exec_where-requires-clause-formed g c = p.runs (map g.D.Domain.meaning.width c.args.now.now) false c.args.body.now c.requires.formed

pub exec_where-requires-2-clause-formed : goal.exec_where-requires-2-clause-formed
exec_where-requires-2-clause-formed g c =
    let m = g.D.Domain.meaning in
    p.reset_runs (map m.width c.args.now.now) (map m.width c.exec_where.new.now) c.args.reset.now c.exec_where.ensures.wide c.requires.fits

pub returns-clause-done : goal.returns-clause-done
returns-clause-done g c =
    let m = g.D.Domain.meaning in
    let d0 = c.args.domain.now in
    let d1 = c.where_bit.new.domain in
    let d2 = c.where_bit-2.new.domain in
    let d3 = c.exec_where.new.domain in
    on_ok_weaker c.exec_where-2.result (λ done v s. p.stored_run m d0 d1 d2 d3 v c.args.now.now c.args.next.now c.exec_where.new.now c.exec_where.new.next c.in_ok-held.held c.in_ok-free.free c.args.reset.now c.args.body.now _
    c.where_bit.ensures.kept (keeps_trans m d0 d1 d2 c.where_bit.ensures.kept c.where_bit-2.ensures.kept) (keeps_trans m d1 d2 d3 c.where_bit-2.ensures.kept c.exec_where.ensures.kept)
    c.requires.env.now_are c.requires.env.next_are c.in_ok-held.ensures.is c.exec_where.ensures.wide (c.in_ok-held.ensures.allows v) (c.in_ok-free.ensures.allows v) c.requires.body_kind c.requires.branch_kind
    (c.in_ok-exec_where.ensures.done v) (done v) s) c.exec_where-2.ensures.done
