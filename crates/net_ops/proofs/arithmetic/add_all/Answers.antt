use Rattle.std.proofs.Common.{arith}
use Rattle.cyc_net.proofs.NetLaws.{Gated-trans}
use Rattle.net_ops.proofs.BuiltLaws.{still_nodes}
use Rattle.net_ops.proofs.WordSums as w
use Rattle.net_ops.proofs.arithmetic.add_all.Goals as goal

pub loop-at-init : goal.loop-at-init
loop-at-init c = w.Adding-start c.args.net.now c.args.subtract c.args.a.now c.args.b.now c.zero-carry.result c.new-out.result c.zero-carry.ensures.within c.zero-carry.ensures.worth c.new-out.ensures

pub add_place-requires-clause-first : goal.add_place-requires-clause-first
add_place-requires-clause-first c = still_nodes c.args.net.now c.loop-at.net c.args.a.now c.loop-at.invariant.kept c.requires.first c.loop-at.at _ (omega arith)

pub add_place-requires-clause-second : goal.add_place-requires-clause-second
add_place-requires-clause-second c = still_nodes c.args.net.now c.loop-at.net c.args.b.now c.loop-at.invariant.kept c.requires.second c.loop-at.at _ (omega arith)

pub add_place-requires-clause-carry : goal.add_place-requires-clause-carry
add_place-requires-clause-carry c = c.loop-at.invariant.within

pub returns-in_err-digit-clause-kept : goal.returns-in_err-digit-clause-kept
returns-in_err-digit-clause-kept c = Gated-trans c.args.net.now c.loop-at.net c.add_place.new.net c.loop-at.invariant.kept c.add_place.ensures.kept

pub returns-in_err-push-clause-kept : goal.returns-in_err-push-clause-kept
returns-in_err-push-clause-kept c = Gated-trans c.args.net.now c.loop-at.net c.add_place.new.net c.loop-at.invariant.kept c.add_place.ensures.kept

pub loop-at-preserved : goal.loop-at-preserved
loop-at-preserved c =
    w.Adding-step c.args.net.now c.args.subtract c.args.a.now c.args.b.now c.loop-at.net c.add_place.new.net c.loop-at.out _ c.loop-at.at _ _ c.loop-at.carry c.in_ok-digit.digit c.in_ok-digit.next
    c.requires.first c.requires.second c.requires.same (omega arith) c.loop-at.invariant c.add_place.ensures.kept c.in_ok-digit.ensures.made c.in_ok-push.ensures.ok

pub returns-clause-made : goal.returns-clause-made
returns-clause-made c = w.Adding-end c.args.net.now c.args.subtract c.args.a.now c.args.b.now c.loop-at.net c.loop-at.out c.loop-at.at c.loop-at.carry (omega arith) c.loop-at.invariant

pub returns-clause-kept : goal.returns-clause-kept
returns-clause-kept c = c.loop-at.invariant.kept
