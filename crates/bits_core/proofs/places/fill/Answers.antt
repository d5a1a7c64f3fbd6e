use Rattle.std.proofs.Common.{false, arith}
use Rattle.std.proofs.lemmas.List.FromFn.{fill_by_all}
use Rattle.bits_core.proofs.places.fill.Goals as goal

pub returns : goal.returns
returns g c = fill_by_all _ _ _ false (omega arith) (λ k l. c.loop-at.invariant.done k (omega arith))
