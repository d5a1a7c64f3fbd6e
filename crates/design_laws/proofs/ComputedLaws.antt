-- A window or run is what its first state and its inputs make of it.
use Rattle.std.proofs.Common.{◌≡◌, ℕ, ◌≤◌, Bool, true, List, refl, sym, ◌∙◌, Option, Some}
use Rattle.design_core.specs.Cells.{Bitmap, Cell, IsTrace, IsSlice, states, assigned}
use Rattle.design_core.specs.Rows.{IsChecked}
use Rattle.design_laws.proofs.OrderLaws.{settle_keeps, settle_holds}
use Rattle.design_laws.proofs.TraceLaws.{next_steps, traces_agree}

module _ {B : Type 0} (E : List (Cell B)) (held : ℕ → B → Option Bool) (checked : IsChecked E held) where
  -- each state and each sequence of inputs with the held bits makes a trace
  pub computed_trace : (last : ℕ) (start : Bitmap B) (i : ℕ → Bitmap B) → ((k : ℕ) → k ≤ last → (b : B) (v : Bool) → held k b ≡ Some v → i k b ≡ v)
      → IsTrace E held last (states E start i) (assigned E start i)
  computed_trace last start i holds = record {
    settled = λ k l c m. settle_holds E (states E start i k) (i k) checked.ordered checked.lawful c m;
    steps = λ k l c m. next_steps E (states E start i k) (assigned E start i k) checked.ordered c m;
    holding = λ k l b v h. settle_keeps E (states E start i k) (i k) b (checked.free k b v h) ∙ holds k l b v h;
  }

  whole : IsSlice E E (λ b. true)
  whole = record { inside = λ c m. m; closed = λ c m b r d. m; reads_in = λ c m b h. refl; uses_in = λ c m b h. refl }

  -- and a trace is the one that its first state and its inputs make
  pub computed : (last : ℕ) (s σ : ℕ → Bitmap B) → IsTrace E held last s σ → (k : ℕ) → k ≤ last → (b : B) → σ k b ≡ assigned E (s 0) σ k b
  computed last s σ w k l b = traces_agree E E (λ b. true) checked.ordered checked.lawful whole held held last s σ (states E (s 0) σ) (assigned E (s 0) σ) w
      (computed_trace last (s 0) σ w.holding)
      (λ j q a r h. sym (settle_keeps E (states E (s 0) σ j) (σ j) a h)) (λ c m a d q. refl) k l b refl
