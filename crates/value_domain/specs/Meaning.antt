-- What the values of a domain stand for.
use Rattle.std.specs.Prelude.{◌≡◌, ℕ, Bool, List}

-- a valuation gives each variable a value; under it a value of the domain reads as a list of bits. `base` has the variables that stand in the
-- domain: of a net its leaves, and none where values are bits themselves
pub record Meaning (S V : Type 0) : Type 1 where
  pub width : V → ℕ
  pub is_value : S → V → Type 0
  pub reads : S → (ℕ → Bool) → V → List Bool
  pub base : S → ℕ → Bool

-- x is a value of the domain as it is now, of n bits, and reads as `bits` says under each valuation
pub record Stands {S V : Type 0} (m : Meaning S V) (now : S) (x : V) (n : ℕ) (bits : (ℕ → Bool) → List Bool) : Type 0 where
  pub is_one : m.is_value now x
  pub wide : m.width x ≡ n
  pub reads_as : (v : ℕ → Bool) → m.reads now v x ≡ bits v

-- each value that the domain had is one still, and reads as it did; no variable is new and none is gone
pub record Keeps {S V : Type 0} (m : Meaning S V) (old new : S) : Type 0 where
  pub still : (x : V) → m.is_value old x → m.is_value new x
  pub same : (x : V) (v : ℕ → Bool) → m.is_value old x → m.reads new v x ≡ m.reads old v x
  pub based : (i : ℕ) → m.base new i ≡ m.base old i
