use Rattle.std.proofs.Common.{◌≡◌, drop}
use Rattle.vl_names.specs.Names.{listed}
use Rattle.vl_acts.specs.Heads.{token_names}
use Rattle.vl_acts.proofs.heads.token_names.Given as goal

abbrev pub invariant-loop-token : goal.invariant-loop-token
invariant-loop-token l = token_names (listed l.all) (drop l.token-index l.tokens) ≡ token_names (listed l.fn.before) l.tokens
