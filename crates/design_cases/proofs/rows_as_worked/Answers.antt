use Rattle.design_cases.proofs.RowCases.{through_is_proved, grounded_is_refuted, grounded_first, gated_by_condition, piped_by_two, enabled_by_condition, kept_stays_open, cleared_at_launch_one, carried_by_condition, reset_is_released, switched_by_condition}
use Rattle.design_cases.proofs.rows_as_worked.Goals as goal

pub returns : goal.returns
returns c = record {
  through = through_is_proved;
  grounded = grounded_is_refuted;
  first = grounded_first;
  gated = gated_by_condition;
  piped = piped_by_two;
  enabled = enabled_by_condition;
  kept = kept_stays_open;
  cleared = cleared_at_launch_one;
  carried = carried_by_condition;
  reset = reset_is_released;
  switched = switched_by_condition;
}
