use Rattle.std.proofs.Common.{◌≡◌, drop, map, take}
use Rattle.std.specs.List.{list_all}
use Rattle.conncheck.specs.commands.Check as spec
use Rattle.conncheck.proofs.commands.check.read_names.Given as goal

abbrev pub invariant-loop-part : goal.invariant-loop-part
invariant-loop-part l = record {
  names : l.names ≡ map (λ p. p.now) (take l.part-index l.parts);
  rest : list_all spec.is_macro_name (map (λ p. p.now) (drop l.part-index l.parts)) ≡ list_all spec.is_macro_name (map (λ p. p.now) l.parts);
}
