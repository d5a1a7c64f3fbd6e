use Rattle.std.proofs.Common.{length, nat_lt, if◌then◌else◌, rules}
use Rattle.bit_assigns.specs.Bits.{filling, source_or}
use Rattle.bit_assigns.proofs.ListLaws.{one_more}
use Rattle.bit_assigns.proofs.bits.push_extended.Goals as goal

pub loop-at-preserved : goal.loop-at-preserved
loop-at-preserved c = one_more (λ k. if nat_lt k (length c.args.bits.now) then source_or c.args.bits.now k else filling c.args.keeps c.args.bits.now) _ _ _ c.loop-at.at _ c.in_ok-push.ensures.items c.loop-at.invariant (search rules)
