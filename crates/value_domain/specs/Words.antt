-- Values with their widths, concatenations, and guards.
use Rattle.std.specs.Prelude.{◌≡◌, ℕ, ◌≤◌, Bool, true, false, not, ◌&&◌, List, [], ◌∷◌, ◌++◌, length, Option, Some, None}
use Rattle.bits_core.specs.Places.{is_set}
use Rattle.value_domain.specs.declared.parts.Word.{Word}
use Rattle.value_domain.specs.Meaning.{Meaning}

-- a word is a value of its length, at least 1
pub record IsWord {S V : Type 0} (m : Meaning S V) (now : S) (w : Word V) : Type 0 where
  pub is_one : m.is_value now w.value
  pub wide : m.width w.value ≡ w.length
  pub some : 1 ≤ w.length

-- a word of n bits that reads as `bits` says under each valuation
pub record Made {S V : Type 0} (m : Meaning S V) (now : S) (w : Word V) (n : ℕ) (bits : (ℕ → Bool) → List Bool) : Type 0 where
  pub is_word : IsWord m now w
  pub long : w.length ≡ n
  pub reads_as : (v : ℕ → Bool) → m.reads now v w.value ≡ bits v

-- lists of bits end to end, the first highest
abbrev pub together : List (List Bool) → List Bool
together [] = []
together (p ∷ ps) = together ps ++ p

-- the free bits of an item, if there are any, are as many as its bits
abbrev pub FreeFits : Option (List Bool) → ℕ → Type 0
FreeFits None n = Unit {0}
FreeFits (Some free) n = length free ≡ n

-- a guard is none, or a value of the domain
abbrev pub IsGuard : {S V : Type 0} → Meaning S V → S → Option V → Type 0
IsGuard m now None = Unit {0}
IsGuard m now (Some g) = m.is_value now g

-- none allows always, a value where some bit of it is 1
abbrev pub allows : {S V : Type 0} → Meaning S V → S → (ℕ → Bool) → Option V → Bool
allows m now v None = true
allows m now v (Some g) = is_set (m.reads now v g)

-- a truth value, or its negation
abbrev pub turned : Bool → Bool → Bool
turned true b = b
turned false b = not b
