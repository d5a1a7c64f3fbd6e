-- What a domain keeps, in turn.
use Rattle.std.proofs.Common.{◌≡◌, ℕ, Bool, refl, ◌∙◌}
use Rattle.value_domain.specs.Meaning.{Meaning, Keeps}

module _ {S V : Type 0} (m : Meaning S V) where
  pub keeps_refl : (d : S) → Keeps m d d
  keeps_refl d = record { still = λ x h. h; same = λ x v h. refl; based = λ i. refl }

  pub keeps_trans : (a b c : S) → Keeps m a b → Keeps m b c → Keeps m a c
  keeps_trans a b c k l = record { still = λ x h. l.still x (k.still x h); same = λ x v h. l.same x v (k.still x h) ∙ k.same x v h; based = λ i. l.based i ∙ k.based i }
