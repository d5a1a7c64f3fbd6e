-- The steps between signals as a graph whose items are the signals: each drives the bit with its own number and reads those to which a step leads from it.
use Rattle.std.specs.Prelude.{ℕ, suc, Bool, true, false, ◌==◌, List, [], ◌∷◌, ◌++◌, Option, Some, map, replicate, slice_set, slice_index_or, if◌then◌else◌}
use Rattle.std.specs.List.{range_with_len}
use Rattle.item_order.specs.declared.spans.Span.{Span}
use Rattle.clock_chains.specs.declared.chains.Step.{Step}

-- the bit of a signal
abbrev pub span : ℕ → Span
span k = record { from = k; to = suc k }

-- the signals to which a step leads from this one
abbrev pub reads_of : List Step → ℕ → List Span
reads_of [] k = []
reads_of (s ∷ ss) k = if s.from == k then span s.to ∷ reads_of ss k else reads_of ss k

abbrev pub own_drivers : ℕ → List (Option ℕ)
own_drivers count = map Some (range_with_len 0 count)

abbrev pub no_reads : ℕ → List (List Span)
no_reads count = replicate count []

-- one more span at a place
abbrev pub with_span : List (List Span) → ℕ → Span → List (List Span)
with_span reads k s = slice_set reads k (slice_index_or reads k [] ++ s ∷ [])

abbrev pub with_steps : List (List Span) → List Step → List (List Span)
with_steps reads [] = reads
with_steps reads (s ∷ ss) = with_steps (with_span reads s.from (span s.to)) ss

-- marks at these places
abbrev pub with_marks : List Bool → List ℕ → List Bool
with_marks marks [] = marks
with_marks marks (k ∷ ks) = with_marks (slice_set marks k true) ks

abbrev pub marks : ℕ → List ℕ → List Bool
marks count places = with_marks (replicate count false) places
