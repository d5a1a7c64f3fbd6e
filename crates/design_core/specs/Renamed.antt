-- A tree under other numbers of signals.
use Rattle.std.specs.Prelude.{ℕ}
use Rattle.design_core.specs.declared.place.BitRef.{BitRef}
use Rattle.design_core.specs.Core.{Assignment, bit, Base, signal, local, Term, constant, span, own, app1, app2, app3, call, Args, stop, pass, Left, nowhere, both, slice, slice_at, Stmt, skip, seq, write, choose, St}

abbrev pub moved : (ℕ → ℕ) → BitRef → BitRef
moved ρ b = bit (ρ b.signal) b.bit

-- an assignment seen under the earlier numbers
abbrev pub pulled : (ℕ → ℕ) → Assignment → Assignment
pulled ρ σ b = σ (moved ρ b)

abbrev pub pulled_state : (ℕ → ℕ) → St → St
pulled_state ρ t = record { now = pulled ρ t.now; later = pulled ρ t.later; locals = t.locals }

abbrev pub moved_base : (ℕ → ℕ) → Base → Base
moved_base ρ (signal s) = signal (ρ s)
moved_base ρ (local k) = local k

abbrev mutual
  pub renamed : (ℕ → ℕ) → Term → Term
  renamed ρ (constant v) = constant v
  renamed ρ (span s m low n) = span (ρ s) m low n
  renamed ρ (own k) = own k
  renamed ρ (app1 f x) = app1 f (renamed ρ x)
  renamed ρ (app2 f x y) = app2 f (renamed ρ x) (renamed ρ y)
  renamed ρ (app3 f x y z) = app3 f (renamed ρ x) (renamed ρ y) (renamed ρ z)
  renamed ρ (call as' body n inputs locals) = call (renamed_args ρ as') (renamed_stmt ρ body) n inputs locals

  pub renamed_args : (ℕ → ℕ) → Args → Args
  renamed_args ρ stop = stop
  renamed_args ρ (pass e as') = pass (renamed ρ e) (renamed_args ρ as')

  pub renamed_left : (ℕ → ℕ) → Left → Left
  renamed_left ρ nowhere = nowhere
  renamed_left ρ (both x y) = both (renamed_left ρ x) (renamed_left ρ y)
  renamed_left ρ (slice b m low n) = slice (moved_base ρ b) m low n
  renamed_left ρ (slice_at b m f e n) = slice_at (moved_base ρ b) m f (renamed ρ e) n

  pub renamed_stmt : (ℕ → ℕ) → Stmt → Stmt
  renamed_stmt ρ skip = skip
  renamed_stmt ρ (seq x y) = seq (renamed_stmt ρ x) (renamed_stmt ρ y)
  renamed_stmt ρ (write l e blocking) = write (renamed_left ρ l) (renamed ρ e) blocking
  renamed_stmt ρ (choose c x y) = choose (renamed ρ c) (renamed_stmt ρ x) (renamed_stmt ρ y)
