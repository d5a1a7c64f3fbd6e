use Rattle.std.proofs.Common.{◌≡◌, ◌≤◌, length, reverse, take}
use Rattle.sat_core.specs.Decisions.{decision_places}
use Rattle.sat_core.specs.Jump.{jumped}
use Rattle.sat_core.proofs.jumping.cut_place.Given as goal

abbrev pub invariant-loop-level : goal.invariant-loop-level
invariant-loop-level l = record {
  cut : l.cut ≤ length l.marks;
  level : l.level ≤ length (decision_places (reverse l.marks));
  places : decision_places (reverse (take l.cut l.marks)) ≡ reverse (take l.level (reverse (decision_places (reverse l.marks))));
  jumped : jumped l.second (reverse (take l.cut l.marks)) (reverse (take l.cut l.marks)) ≡ jumped l.second (reverse l.marks) (reverse l.marks);
}

abbrev pub decreases-loop-level : goal.decreases-loop-level
decreases-loop-level l = l.level
