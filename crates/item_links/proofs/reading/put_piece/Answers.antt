use Rattle.std.proofs.Common.{arith}
use Rattle.std.proofs.lemmas.Result.{on_ok_weaker}
use Rattle.item_links.proofs.SpanLaws.{some_push}
use Rattle.item_links.proofs.ReadLaws.{others_put, unstamped, whole_put}
use Rattle.item_links.proofs.reading.put_piece.Goals as goal

pub returns-then-stamps-piece-clause-spans : goal.returns-then-stamps-piece-clause-spans
returns-then-stamps-piece-clause-spans c = on_ok_weaker c.put_others.result (λ h. λ lengths f own is bits o s w.
    others_put lengths c.args.starts.now is c.args.piece bits c.span_of-span.result c.span_of-span.ensures.from c.span_of-span.ensures.to c.args.drivers.now c.args.item own f
    c.args.all.now.items c.put_others.new.all.items w o h) c.put_others.ensures.has

pub returns-in_ok-push-clause-spans : goal.returns-in_ok-push-clause-spans
returns-in_ok-push-clause-spans c = λ lengths f own is bits o s w.
    let p = c.args.piece in
    let room = (c.requires.room c.if-piece.true).0 in
    let many = c.requires.many in
    whole_put lengths c.args.starts.now is p bits c.span_of-span.result c.span_of-span.ensures.from c.span_of-span.ensures.to c.args.drivers.now c.args.item own f
    c.args.all.now.items c.push.new.self.items w (unstamped c.args.stamps.now lengths own c.args.item p (omega (arith, room, many)) s c.if-stamps-piece.false)
    (λ n. some_push c.args.all.now.items c.push.new.self.items c.span_of-span.result c.in_ok-push.ensures.items n)
