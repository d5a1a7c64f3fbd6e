use Rattle.design_core.specs.Setups.{held_in_window, held_in_run}
use Rattle.design_laws.proofs.RunLaws.{run_window, held_shifted, breaks_in_bit, bit_breaks, window_free, run_free}
use Rattle.design_laws.proofs.runs_and_bits.Goals as goal

pub returns : goal.returns
returns c = record {
  run = λ E pins reset first n p row h w. run_window E (held_in_window pins reset) (held_in_run pins reset first) p row n (held_shifted pins reset first n h) w;
  bits = λ E held p row launch. (λ w. (let r = breaks_in_bit E held p row launch w in (r.0, (r.1, r.2))), λ r. bit_breaks E held p row launch r.0 r.1.1);
  held = λ E pins reset first pinned resets k b v. (window_free E pins reset pinned resets k b v, run_free E pins reset first pinned resets k b v);
}
