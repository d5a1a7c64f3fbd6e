use Rattle.std.proofs.Common.{◌≡◌, ℕ, ◌+◌, ◌-◌, ◌*◌, ◌/◌, ◌≤◌, arith}
use Rattle.std.proofs.lemmas.Result.{IfOk-weaker}
use Rattle.value_domain.proofs.WordLaws as w
use Rattle.value_domain.proofs.parts.+repeat.Goals as goal

pub join-requires-clause-most : goal.join-requires-clause-most
join-requires-clause-most g t c =
    w.repeat_fits c.args.count (c.args.count / 2) c.args.part.now.length c.in_ok-low.low.length c.in_ok-high.high.length c.in_ok-low.ensures.made.long c.in_ok-high.ensures.made.long c.requires.most (omega arith)

pub returns-clause-made : goal.returns-clause-made
returns-clause-made g t c =
    IfOk-weaker c.join.result _ _ (λ r made. w.repeat_made g.D.Domain.meaning c.args.domain.now c.repeat.new.domain c.repeat-2.new.domain c.join.new.domain
    c.args.count (c.args.count / 2) (c.args.count - c.args.count / 2) c.args.part.now c.in_ok-low.low c.in_ok-high.high r (omega arith) c.requires.value
    c.repeat.ensures.kept c.repeat-2.ensures.kept c.in_ok-low.ensures.made c.in_ok-high.ensures.made made) c.join.ensures.made
