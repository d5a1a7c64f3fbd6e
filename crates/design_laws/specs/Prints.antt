-- When no two bits print alike.
use Rattle.std.specs.Prelude.{◌≡◌, ℕ, ◌<◌, true, false, List, map}
use Rattle.std.specs.List.{list_all}
use Rattle.design_core.specs.declared.signals.Scope.{Scope}
use Rattle.design_core.specs.declared.signals.Signal.{Signal}
use Rattle.design_core.specs.Cells.{In}
use Rattle.design_core.specs.Wellformed.{signal_fits, all_distinct, bit_text, print_apart}

-- no signal without a range has the path that a bit of a signal with one prints as
abbrev pub NoPathIsBit : List Signal → Type 0
NoPathIsBit signals = (x y : Signal) (k : ℕ) → In x signals → In y signals → x.ranged ≡ false → y.ranged ≡ true → k < y.length → x.path ≡ bit_text y k → ⊥

-- then distinct paths are enough: no two bits print alike
abbrev pub BitsPrintApart : Type 0
BitsPrintApart = (scopes : List Scope) (signals : List Signal) → list_all (signal_fits scopes) signals ≡ true
    → all_distinct (map (λ (x : Signal). x.path) signals) ≡ true → NoPathIsBit signals → print_apart signals ≡ true
