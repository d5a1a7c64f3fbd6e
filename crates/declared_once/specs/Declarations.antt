-- Which declarations of one name may stand in one scope (IEEE 1364-2005, 3.11 and 12.3.3).
use Rattle.std.specs.Prelude.{ℕ, ℤ, Bool, true, false, not, ◌&&◌, List, [], ◌∷◌, Option, if◌then◌else◌}
use Rattle.std.specs.List.{list_any}
use Rattle.std.specs.Str.{bytes_eq}
use Rattle.declared_once.specs.declared.declared.Role.{Role}
use Rattle.declared_once.specs.declared.declared.Role.TheVariants.{Direction, Net, Whole}

-- a declaration of a name: what it says of it, and the bounds of its range, if it has one
pub record Declaration : Type 0 where
  pub name : List ℕ
  pub role : Role
  pub bounds : Option (ℤ × ℤ)

-- how bounds are told apart
abbrev pub Equal : Type 0
Equal = Option (ℤ × ℤ) → Option (ℤ × ℤ) → Bool

-- the direction and the type of one port
abbrev pub are_parts : Role → Role → Bool
are_parts Direction Net = true
are_parts Net Direction = true
are_parts Direction Direction = false
are_parts Direction Whole = false
are_parts Net Net = false
are_parts Net Whole = false
are_parts Whole q = false

-- two declarations of one name may both stand only as the direction and the type of a port, with the same bounds
abbrev pub go_together : Equal → Declaration → Declaration → Bool
go_together same d e = are_parts d.role e.role && same d.bounds e.bounds

abbrev pub is_of : List ℕ → Declaration → Bool
is_of name d = bytes_eq name d.name

-- one declaration too many, behind others
abbrev pub clashes : Equal → List Declaration → Declaration → Bool
clashes same ds d = list_any (λ e. is_of d.name e && not (go_together same d e)) ds

-- each of the declarations, the last one in front, goes together with all before it
abbrev pub accepted : Equal → List Declaration → Bool
accepted same [] = true
accepted same (d ∷ ds) = not (clashes same ds d) && accepted same ds

-- some declaration is of the name
abbrev pub is_declared : List Declaration → List ℕ → Bool
is_declared ds name = list_any (is_of name) ds

-- whether bounds are those of the first declaration of a name
abbrev pub same_as_first : Equal → List Declaration → List ℕ → Option (ℤ × ℤ) → Bool
same_as_first same [] name bounds = false
same_as_first same (d ∷ ds) name bounds =
    if is_of name d && not (is_declared ds name) then same bounds d.bounds else same_as_first same ds name bounds
