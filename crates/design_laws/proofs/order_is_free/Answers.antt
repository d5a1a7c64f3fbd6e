use Rattle.design_laws.proofs.RowLaws.{part_hits}
use Rattle.design_laws.proofs.order_is_free.Goals as goal

pub returns : goal.returns
returns c = λ E O held p query same. (part_hits E O held p query (λ x m. (same x).1 m), part_hits O E held p query (λ x m. (same x).0 m))
