use Rattle.design_laws.proofs.DesignLaws.{item_kept, item_weighs, silent_stmt_reads}
use Rattle.design_laws.proofs.designs_keep.Goals as goal

pub returns : goal.returns
returns c = record { fit = item_kept; weigh = item_weighs; silent = silent_stmt_reads }
