-- Names in order.
use Rattle.std.specs.Prelude.{List, ℕ, map}
use Rattle.vl_names.specs.declared.index.Index.{Index}

abbrev pub listed : Index → List (List ℕ)
listed names = map (λ n. n.now) names.set.keys
