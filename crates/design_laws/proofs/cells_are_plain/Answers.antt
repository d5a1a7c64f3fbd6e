use Rattle.design_laws.proofs.PlainLaws.{holds_left, left_holds, after_next, cell_reads_item}
use Rattle.design_laws.proofs.cells_are_plain.Goals as goal

pub returns : goal.returns
returns c = record { settled = λ x s σ. (holds_left x s σ, left_holds x s σ); next = after_next; reads = cell_reads_item }
