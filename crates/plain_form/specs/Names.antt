-- Names in order.
use Rattle.std.specs.Prelude.{List, ℕ, map}
use Rattle.plain_form.specs.declared.names.Names.{Names}

abbrev pub listed : Names → List (List ℕ)
listed names = map (λ n. n.now) names.set.keys
