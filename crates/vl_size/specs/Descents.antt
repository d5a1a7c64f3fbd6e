-- Expressions in their contexts along their first parts, from the innermost out.
use Rattle.std.specs.Prelude.{ℕ, max, Bool, false, ◌||◌, List, [], ◌∷◌, map}
use Rattle.vl_size.specs.declared.placed.Frame.{Frame}
use Rattle.vl_size.specs.declared.sizes.SizedExpr.{SizedExpr}
use Rattle.vl_size.specs.declared.tree.Size.{Size}
use Rattle.vl_size.specs.declared.tree.Sizing.{Sizing, size-Sizing}
use Rattle.vl_size.specs.Sizings.{node_of, parts_of, common}
use Rattle.vl_size.specs.Placed.{placing, sized, sized_each, is_wide, is_some_wide}

abbrev pub behind : List Sizing → List Sizing
behind [] = []
behind (s ∷ ss) = ss

-- an expression in a context, and whether it or a part is too wide there
abbrev pub placed_at : Sizing → Size → SizedExpr × Bool
placed_at s x = ((placing s).sized x, (placing s).wide x)

-- the same, where that of its first part is given
abbrev pub placed_over : Sizing → Size → SizedExpr × Bool → SizedExpr × Bool
placed_over s x r = (
  sized x (r.0 ∷ sized_each (node_of s).operands (common (map node_of (parts_of s))) x false (map placing (behind (parts_of s)))),
  is_some_wide (node_of s).operands (common (map node_of (parts_of s))) x false (is_wide (node_of s).narrow x (map node_of (parts_of s)) || r.1) (map placing (behind (parts_of s))),
)

-- the outermost of some expressions of which each is the first part of the one before, where that of the last one's first part is given
abbrev pub placed_frames : SizedExpr × Bool → List Frame → SizedExpr × Bool
placed_frames r [] = r
placed_frames r (f ∷ fs) = placed_over f.sizing.now f.context (placed_frames r fs)

abbrev pub depth_of_frames : List Frame → ℕ
depth_of_frames [] = 0
depth_of_frames (f ∷ fs) = max (size-Sizing f.sizing.now) (depth_of_frames fs)
