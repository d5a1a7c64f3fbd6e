use Rattle.std.proofs.Common.{◌≡◌, drop, map}
use Rattle.conncheck.specs.Seen.{seen_pair}
use Rattle.conncheck.specs.Words as spec
use Rattle.conncheck.proofs.words.value_of.Given as goal

abbrev pub invariant-loop-pair : goal.invariant-loop-pair
invariant-loop-pair l = spec.value_of (map seen_pair (drop l.pair-index l.pairs)) l.name ≡ spec.value_of (map seen_pair l.pairs) l.name
