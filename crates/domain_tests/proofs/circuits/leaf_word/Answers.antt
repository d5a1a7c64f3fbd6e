use Rattle.std.proofs.Common.{arith}
use Rattle.cyc_net.proofs.NetLaws.{Extends-trans}
use Rattle.domain_tests.proofs.TestLaws.{none_yet, one_more}
use Rattle.domain_tests.proofs.circuits.leaf_word.Goals as goal

pub loop-at-init : goal.loop-at-init
loop-at-init c = none_yet c.args.net.now c.new-word.result c.new-word.ensures

pub returns-in_err-leaf-clause-kept : goal.returns-in_err-leaf-clause-kept
returns-in_err-leaf-clause-kept c = Extends-trans c.args.net.now c.loop-at.net c.push.new.self c.loop-at.invariant.kept c.push.ensures.kept

pub returns-in_err-push-clause-kept : goal.returns-in_err-push-clause-kept
returns-in_err-push-clause-kept c = Extends-trans c.args.net.now c.loop-at.net c.push.new.self c.loop-at.invariant.kept c.push.ensures.kept

pub loop-at-preserved : goal.loop-at-preserved
loop-at-preserved c = one_more c.args.net.now c.loop-at.net c.push.new.self c.loop-at.word _ c.loop-at.at c.in_ok-leaf.leaf c.loop-at.invariant c.push.ensures.kept c.in_ok-leaf.ensures.made.within c.in_ok-push.ensures.ok

pub returns-clause-are : goal.returns-clause-are
returns-clause-are c = c.loop-at.invariant.are

pub returns-clause-long : goal.returns-clause-long
returns-clause-long c = let l = c.loop-at.invariant.long in omega arith

pub returns-clause-kept : goal.returns-clause-kept
returns-clause-kept c = c.loop-at.invariant.kept
