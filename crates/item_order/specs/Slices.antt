-- The least set of items that holds each one that drives a wanted bit or a bit that a member reads.
use Rattle.std.specs.Prelude.{◌≡◌, ℕ, ◌<◌, ◌≤◌, Bool, true, ◌⊎◌, List, [], length, Option, Some}
use Rattle.design_core.specs.Cells.{In}
use Rattle.item_order.specs.declared.spans.Span.{Span}
use Rattle.item_order.specs.declared.meeting.Mark.{Mark}
use Rattle.item_order.specs.declared.meeting.Mark.TheVariants as mark
use Rattle.item_order.specs.Circles.{Graph, Needs, IsOnce}
use Rattle.item_order.specs.Spans.{holds, some_holds}
use Rattle.item_order.specs.Progress.{mark_at, span_at, driver_closed, Waits}

-- the items of the slice of some bits
pub data IsWanted (g : Graph) (start : List Span) : ℕ → Type 0 where
  at_start : {i b : ℕ} → some_holds start b ≡ true → g.driver b ≡ Some i → IsWanted g start i
  by_need : {i j : ℕ} → IsWanted g start i → Needs g i j → IsWanted g start j

-- these items, each once, and no others are wanted
pub record IsSliced (g : Graph) (start : List Span) (members : List ℕ) : Type 0 where
  pub all : (i : ℕ) → IsWanted g start i → In i members
  pub only : (i : ℕ) → In i members → IsWanted g start i
  pub once : IsOnce members

-- a slice on its way: members are closed, wanted and stand once, and what waits is of wanted items; each wanted bit, and each that a member reads, is a member's or waits
pub record IsSlicing (g : Graph) (n bits : ℕ) (start : List Span) (marks : List Mark) (members : List ℕ) (pending : List Span) : Type 0 where
  pub many : length marks ≡ n
  pub plain : (i p : ℕ) → mark_at marks i ≡ mark.Open p → ⊥
  pub closed : (i : ℕ) → mark_at marks i ≡ mark.Closed → In i members
  pub ordered : (i : ℕ) → In i members → mark_at marks i ≡ mark.Closed
  pub once : IsOnce members
  pub wanted : (i : ℕ) → In i members → IsWanted g start i
  pub asked : (w b i : ℕ) → w < length pending → holds (span_at pending w) b ≡ true → g.driver b ≡ Some i → IsWanted g start i
  pub starts : (b : ℕ) → some_holds start b ≡ true → (driver_closed marks (g.driver b) ≡ true) ⊎ Waits pending 0 (length pending) b
  pub reads : (i b : ℕ) → In i members → g.reads i b ≡ true → (driver_closed marks (g.driver b) ≡ true) ⊎ Waits pending 0 (length pending) b
  pub within : (w : ℕ) → w < length pending → (span_at pending w).to ≤ bits
