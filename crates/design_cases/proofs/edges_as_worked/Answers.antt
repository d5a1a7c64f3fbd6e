use Rattle.design_cases.proofs.EdgeCases.{enabled_in_each_cycle, gated_in_last_cycle, reset_ends_in_time, held_by_cycle, last_launch_counts, boxes_in_boxes, launch_free_by_two, bits_as_printed, leaves_are_in_order, sign_changes_outside}
use Rattle.design_cases.proofs.edges_as_worked.Goals as goal

pub returns : goal.returns
returns c = record {
  each_cycle = enabled_in_each_cycle;
  last_cycle = gated_in_last_cycle;
  reset_ends = reset_ends_in_time;
  held = held_by_cycle;
  last_launch = last_launch_counts;
  boxes = boxes_in_boxes;
  launch_free = launch_free_by_two;
  printed = bits_as_printed;
  leaves = leaves_are_in_order;
  sign = sign_changes_outside;
}
