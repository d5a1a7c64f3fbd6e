-- The plain module: its ports, and one-bit assigns of an input or of a constant to an output.
use Rattle.std.specs.Prelude.{List, [], ◌∷◌, ◌++◌, ℕ, Bool, true, false, not, ◌==◌, ◌&&◌, ◌||◌, if◌then◌else◌, Option, Some, None, option_map, codes}
use Rattle.std.specs.Char.{is_ascii_alphabetic, is_ascii_alphanumeric}
use Rattle.std.specs.List.{list_all, list_any}
use Rattle.std.specs.Str.{bytes_eq}
use Rattle.plain_form.specs.Reserved.{reserved}

abbrev pub Text : Type 0
Text = List ℕ

abbrev pub begins_name : Text → Bool
begins_name [] = false
begins_name (b ∷ bs) = is_ascii_alphabetic b || (b == 95)

abbrev pub is_name_byte : ℕ → Bool
is_name_byte b = (is_ascii_alphanumeric b || (b == 95)) || (b == 36)

-- a name: a letter or `_`, then letters, digits, `_` and `$`, and no reserved word (IEEE 1364-2005, 3.7)
abbrev pub is_name : Text → Bool
is_name w = (begins_name w && list_all is_name_byte w) && not (list_any (bytes_eq w) reserved)

pub record Port : Type 0 where
  pub name : Text
  pub is_input : Bool

-- the right side of an assign: a name, or a constant of one bit
pub data Right : Type 0 where
  wire : Text → Right
  fixed : Bool → Right

pub record Assign : Type 0 where
  pub left : Text
  pub right : Right

pub record Module : Type 0 where
  pub name : Text
  pub ports : List Port
  pub assigns : List Assign

-- `input` or `output`
abbrev pub direction_of : Text → Option Bool
direction_of w = if bytes_eq w (codes "input") then Some true else (if bytes_eq w (codes "output") then Some false else None)

abbrev pub right_of : Text → Option Right
right_of w =
    if bytes_eq w (codes "1'b0") then Some (fixed false)
    else (if bytes_eq w (codes "1'b1") then Some (fixed true) else (if is_name w then Some (wire w) else None))

-- a port by its two words
abbrev pub port_of : Text → Text → Option Port
port_of direction name = if is_name name then option_map (λ d. record { name = name; is_input = d }) (direction_of direction) else None

-- an assign by its five words
abbrev pub assign_of : Text → Text → Text → Text → Text → Option Assign
assign_of a left e right s =
    if bytes_eq a (codes "assign") && (is_name left && (bytes_eq e (codes "=") && bytes_eq s (codes ";")))
    then option_map (λ r. record { left = left; right = r }) (right_of right) else None

-- one port more: the list goes on after a comma and ends with a closing bracket
abbrev pub port_then : List Port → Option Port → Text → List Text → (List Port → Option (List Port × List Text)) → Option (List Port × List Text)
port_then held None mark rest next = None
port_then held (Some p) mark rest next =
    if bytes_eq mark (codes ")") then Some (held ++ p ∷ [], rest)
    else (if bytes_eq mark (codes ",") then next (held ++ p ∷ []) else None)

-- the ports, after those that were read, and the words after the closing bracket
abbrev pub ports_after : List Port → List Text → Option (List Port × List Text)
ports_after held (direction ∷ name ∷ mark ∷ rest) = port_then held (port_of direction name) mark rest (λ more. ports_after more rest)
ports_after held _ = None

abbrev pub assign_then : Option Assign → (Assign → Option (List Assign)) → Option (List Assign)
assign_then None next = None
assign_then (Some a) next = next a

-- the one word `endmodule`
abbrev pub is_end : List Text → Bool
is_end (w ∷ []) = bytes_eq w (codes "endmodule")
is_end _ = false

-- the assigns, after those that were read, up to `endmodule`, which is the last word
abbrev pub assigns_after : List Assign → List Text → Option (List Assign)
assigns_after held (a ∷ left ∷ e ∷ right ∷ s ∷ rest) = assign_then (assign_of a left e right s) (λ x. assigns_after (held ++ x ∷ []) rest)
assigns_after held rest = if is_end rest then Some held else None

-- the module after its ports
abbrev pub body_of : Text → Option (List Port × List Text) → Option Module
body_of name (Some (ports, s ∷ rest)) =
    if bytes_eq s (codes ";") then option_map (λ assigns. record { name = name; ports = ports; assigns = assigns }) (assigns_after [] rest) else None
body_of name _ = None

-- the module that a list of words spells
abbrev pub module_of : List Text → Option Module
module_of (m ∷ name ∷ o ∷ rest) =
    if bytes_eq m (codes "module") && (is_name name && bytes_eq o (codes "(")) then body_of name (ports_after [] rest) else None
module_of _ = None
