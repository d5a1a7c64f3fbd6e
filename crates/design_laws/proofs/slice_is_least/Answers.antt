use Rattle.design_laws.proofs.SliceLaws.{closed_slice, slices_same}
use Rattle.design_laws.proofs.slice_is_least.Goals as goal

pub returns : goal.returns
returns c = record { closed = closed_slice; one = λ E S P bits w v x. (slices_same E S P bits w v x, slices_same E P S bits v w x) }
