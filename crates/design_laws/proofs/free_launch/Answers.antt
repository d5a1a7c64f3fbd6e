use Rattle.std.proofs.Common.{◌≡◌, ℕ, ◌≤◌, true, arith}
use Rattle.design_core.specs.Setups.{held_in_window, held_in_run}
use Rattle.design_core.specs.Reach.{Reach, process_cells, needs_in}
use Rattle.design_laws.proofs.ReachLaws as reach
use Rattle.design_laws.proofs.RunLaws.{held_shifted}
use Rattle.design_laws.proofs.NeedItemLaws.{has_needs, have_needs}
use Rattle.design_laws.proofs.free_launch.Goals as goal

itself : (n : ℕ) → n ≤ n
itself n = omega arith

pub returns : goal.returns
returns c = record {
  needs = has_needs;
  breaks = λ ps pins reset power_up first row checked all free w.
      reach.free_launch (process_cells ps) (needs_in ps) (Reach (process_cells ps) (needs_in ps) row) (held_in_window pins reset) (held_in_run pins reset first) power_up first row checked (have_needs ps all)
      (reach.least_reach (process_cells ps) (needs_in ps) row free) (reach.row_reached (process_cells ps) (needs_in ps) row) (held_shifted pins reset first first (itself first)) w;
  by_set = λ ps row Q. reach.free_by_set (process_cells ps) (needs_in ps) row (λ k b. Q k b ≡ true);
}
