use Rattle.std.proofs.Common.{◌≡◌, length, map, string_bytes}
use Rattle.conncheck.specs.Words as spec
use Rattle.conncheck.specs.Seen.{seen_pair}
use Rattle.conncheck.proofs.words.read_pairs.Given as goal

abbrev pub invariant-options : goal.invariant-options
invariant-options l = spec.line_from (map (λ n. n.now) l.allowed) (map seen_pair l.pairs.items) (map string_bytes l.rest) ≡ spec.line_of (map (λ n. n.now) l.allowed) (map string_bytes l.words)

abbrev pub decreases-options : goal.decreases-options
decreases-options l = length l.rest
