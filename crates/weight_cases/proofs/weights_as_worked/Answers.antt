use Rattle.weight_cases.proofs.Formed.{design_is_formed, design_weighs, wrong_weight, wrong_test, no_power_up}
use Rattle.weight_cases.proofs.weights_as_worked.Goals as goal

pub returns : goal.returns
returns c = record {
  formed = design_is_formed;
  weighs = design_weighs;
  weight = wrong_weight;
  test = wrong_test;
  power_up = no_power_up;
}
