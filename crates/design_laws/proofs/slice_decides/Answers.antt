use Rattle.design_laws.proofs.RowLaws as row_laws
use Rattle.design_laws.proofs.LeafLaws.{slice_first}
use Rattle.design_laws.proofs.slice_decides.Goals as goal

pub returns : goal.returns
returns c = record {
  sees = row_laws.query_sees;
  breaks = λ E F S R held p query checked checked' one other about.
      (row_laws.slice_decides E F S R held p query checked' one other about, row_laws.slice_decides F E S R held p query checked other one about);
  first = slice_first;
  alone = λ E S R held p query checked slice about.
      (row_laws.part_hits E S held p query slice.inside, row_laws.whole_hits E S R held p query checked slice about);
}
