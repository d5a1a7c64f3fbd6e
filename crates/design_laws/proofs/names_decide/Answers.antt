use Rattle.design_laws.proofs.SeenLaws.{seen_breaks, seen_first}
use Rattle.design_laws.proofs.names_decide.Goals as goal

pub returns : goal.returns
returns c = record {
  breaks = λ W named power row launch one other. (seen_breaks W named power row one other launch, seen_breaks W named power row other one launch);
  first = λ W named power row launch one other. seen_first W named power row one other launch;
  breaks_renumbered = λ W named power row launch one other. (seen_breaks W named power row one other launch, seen_breaks W named power row other one launch);
  first_renumbered = λ W named power row launch one other. seen_first W named power row one other launch;
}
