-- The scope and the signal of a small design.
use Rattle.std.specs.Prelude.{◌≡◌, [], ◌∷◌, None, false}
use Rattle.design_core.specs.declared.signals.Scope.{Scope}
use Rattle.design_core.specs.declared.signals.Signal.{Signal}

-- the root, with a name of two bytes
abbrev pub IsRoot : Scope → Type 0
IsRoot x = (x.parent ≡ None) × (x.name ≡ 41 ∷ 42 ∷ []) × (x.path ≡ 41 ∷ 42 ∷ [])

-- a signal of one bit in the root, without a range
abbrev pub IsInput : Signal → Type 0
IsInput x = (x.scope ≡ 0) × (x.name ≡ 120 ∷ []) × (x.path ≡ 41 ∷ 42 ∷ 46 ∷ 120 ∷ []) × (x.word ≡ None) × (x.length ≡ 1) × (x.ranged ≡ false)
