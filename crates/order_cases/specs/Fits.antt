-- Tests of the numbers that an order of items is found from.
use Rattle.std.specs.Prelude.{ℕ, Bool, true, nat_le, nat_lt, List, Option, Some, None}
use Rattle.std.specs.List.{list_all}
use Rattle.item_order.specs.declared.spans.Span.{Span}

-- an item is one of so many
abbrev pub names_below : ℕ → Option ℕ → Bool
names_below items None = true
names_below items (Some i) = nat_lt i items

-- a span ends at a bit or before
abbrev pub ends_by : ℕ → Span → Bool
ends_by bits s = nat_le s.to bits

abbrev pub ends_all_by : ℕ → List Span → Bool
ends_all_by bits spans = list_all (ends_by bits) spans
