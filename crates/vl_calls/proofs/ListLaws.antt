-- An element of a list that is seen in another way.
use Rattle.std.proofs.Common.{◌≡◌, ℕ, List, map, ap, sym, ◌∙◌}
use Rattle.std.specs.Prelude.{slice_get}
use Rattle.std.specs.Option.{option_map}
use Rattle.std.proofs.lemmas.Option.{slice_get-map}
use Rattle.vl_names.specs.Names.{listed}
use Rattle.vl_names.specs.declared.index.Index.{Index}
use Rattle.vl_calls.specs.Reaching.{names_or_none}

pub got_seen : {A B : Type 0} (v : A → B) (xs : List A) (ys : List B) (k : ℕ) → map v xs ≡ ys → option_map v (slice_get xs k) ≡ slice_get ys k
got_seen v xs ys k e = sym (slice_get-map v xs k) ∙ ap (λ zs. slice_get zs k) e

pub calls_seen : (xs : List Index) (k : ℕ) → names_or_none (option_map listed (slice_get xs k)) ≡ names_or_none (slice_get (map listed xs) k)
calls_seen xs k = ap names_or_none (sym (slice_get-map listed xs k))
