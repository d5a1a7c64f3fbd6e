use Rattle.std.proofs.Common.{◌∙◌, ap}
use Rattle.std.specs.Option.{option_map}
use Rattle.vl_names.specs.Names.{listed}
use Rattle.vl_calls.proofs.ListLaws.{got_seen}
use Rattle.vl_calls.proofs.circles.name_at.Goals as goal

pub returns : goal.returns
returns c = ap (option_map (λ n. n.now)) c.name_in.ensures ∙ got_seen (λ n. n.now) c.as_slice.result.now (listed c.args.names.now) c.args.at c.as_slice.ensures
