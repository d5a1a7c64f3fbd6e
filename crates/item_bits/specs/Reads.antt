-- What expressions and statements read, by their parts.
use Rattle.std.specs.Prelude.{ℕ, Bool, true, false, List}
use Rattle.std.specs.List.{list_any}
use Rattle.design_core.specs.declared.place.BitRef.{BitRef}
use Rattle.design_core.specs.declared.tree.DExpr.{DExpr}
use Rattle.design_core.specs.declared.tree.DStmt.{DStmt}
use Rattle.design_core.specs.Core.{Term, constant, span, own, app1, app2, app3, call, reads, stmt_reads}
use Rattle.design_core.specs.Terms.{term, stmt}

-- the term is places of a signal
abbrev pub is_span : Term → Bool
is_span (constant v) = false
is_span (span s m low n) = true
is_span (own k) = false
is_span (app1 f x) = false
is_span (app2 f x y) = false
is_span (app3 f x y z) = false
is_span (call arguments body n inputs locals) = false

-- the bits that some expressions read, and that some statements do
abbrev pub all_read : (ℕ → ℕ) → List DExpr → BitRef → Bool
all_read size es b = list_any (λ e. reads (term size e) b) es

abbrev pub all_run : (ℕ → ℕ) → List DStmt → BitRef → Bool
all_run size ss b = list_any (λ s. stmt_reads (stmt size s) b) ss
