use Rattle.std.proofs.Common.{true, refl}
use Rattle.design_core.specs.Cells.{states}
use Rattle.design_laws.proofs.OrderLaws.{settle_keeps}
use Rattle.design_laws.proofs.TraceLaws.{traces_agree}
use Rattle.design_laws.proofs.ComputedLaws.{computed_trace}
use Rattle.design_laws.proofs.traces_are_computed.Goals as goal

pub returns : goal.returns
returns c = record {
  one = λ E held checked last s σ t τ w v begins inputs k l b.
      traces_agree E E (λ a. true) checked.ordered checked.lawful
      (record { inside = λ x m. m; closed = λ x m a r d. m; reads_in = λ x m a h. refl; uses_in = λ x m a h. refl })
      held held last s σ t τ w v (λ j q a r h. inputs j q a h) (λ x m a d q. begins a) k l b refl;
  some = λ E held checked last start i holds. (computed_trace E held checked last start i holds, λ k b free. settle_keeps E (states E start i k) (i k) b free);
}
