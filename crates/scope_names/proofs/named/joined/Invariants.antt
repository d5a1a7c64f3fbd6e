use Rattle.std.proofs.Common.{◌≡◌, drop, map}
use Rattle.vl_names.specs.Tables.{table}
use Rattle.scope_names.specs.Named as spec
use Rattle.scope_names.proofs.named.joined.Given as goal

abbrev pub invariant-loop-name : goal.invariant-loop-name
invariant-loop-name l = spec.joined (table l.all) (map (λ n. n.now) (drop l.name-index l.names)) ≡ spec.joined (table l.fn.before) (map (λ n. n.now) l.names)
