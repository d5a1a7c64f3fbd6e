use Rattle.std.proofs.Common.{◌≡◌, drop, map}
use Rattle.conncheck.specs.Words as spec
use Rattle.conncheck.proofs.words.is_among.Given as goal

abbrev pub invariant-loop-other : goal.invariant-loop-other
invariant-loop-other l = spec.is_among (map (λ n. n.now) (drop l.other-index l.names)) l.name ≡ spec.is_among (map (λ n. n.now) l.names) l.name
