-- An expression in a context: each part has its length and sign, and arithmetic on more than 128 bits is found.
use Rattle.std.specs.Prelude.{ℕ, max, Bool, true, false, ◌&&◌, ◌||◌, not, nat_lt, nat_eq, List, [], ◌∷◌, map, Option, if◌then◌else◌}
use Rattle.vl_tree.specs.declared.faults.Code.{Code}
use Rattle.vl_tree.specs.declared.faults.Code.TheVariants.{BadRange, WideArithmetic}
use Rattle.vl_size.specs.declared.constant.Const.{Const}
use Rattle.vl_size.specs.declared.sizes.SizedExpr.{SizedExpr, roll-SizedExpr}
use Rattle.vl_size.specs.declared.tree.Size.{Size}
use Rattle.vl_size.specs.declared.tree.Operands.{Operands}
use Rattle.vl_size.specs.declared.tree.Operands.TheVariants.{Apart, Shared, Compared, FirstShared, FirstApart}
use Rattle.vl_size.specs.declared.tree.Narrow.{Narrow}
use Rattle.vl_size.specs.declared.tree.Narrow.TheVariants as narrow
use Rattle.vl_size.specs.Tables.{Look}
use Rattle.vl_size.specs.Terms.{Term}
use Rattle.vl_size.specs.declared.tree.Node.{Node}
use Rattle.vl_size.specs.declared.tree.Sizing.{Sizing, Sizing-F, fold-Sizing}
use Rattle.vl_tree.specs.Order.{lower, where_true}
use Rattle.vl_tree.specs.Outcomes.{Outcome, unless}
use Rattle.vl_size.specs.Sizings.{node_of, length_of, signed_of, common}
use Rattle.vl_size.specs.Nodes.{sizes}
use Rattle.vl_size.specs.Owns.{own}

abbrev pub sized : Size → List SizedExpr → SizedExpr
sized x ps = roll-SizedExpr (record { length = x.length; signed = x.signed; parts = ps })

-- the context of an expression by itself
abbrev pub alone : Node → Size
alone n = sizes (max n.least n.size.length) n.size.signed

-- the context of a part, the first one or another, of an expression whose own context is x; `c` is what all parts have in common
abbrev pub context : Operands → Size → Size → Bool → Node → Size
context Apart c x is_first n = alone n
context Shared c x is_first n = x
context Compared c x is_first n = c
context FirstShared c x is_first n = if is_first then x else alone n
context FirstApart c x is_first n = if is_first then alone n else x

abbrev pub first_length : List Node → ℕ
first_length [] = 0
first_length (n ∷ ns) = n.size.length

-- the length of the second part
abbrev pub second_length : List Node → ℕ
second_length [] = 0
second_length (n ∷ ns) = first_length ns

abbrev pub is_wide_index : List Node → Bool
is_wide_index [] = false
is_wide_index (n ∷ ns) = (not n.constant && nat_lt 128 n.size.length) || is_wide_index ns

-- arithmetic on more than 128 bits, by the context and by what is known of the parts
abbrev pub is_wide : Narrow → Size → List Node → Bool
is_wide narrow.Nothing x ns = false
is_wide narrow.Context x ns = nat_lt 128 x.length
is_wide narrow.Operands x ns = nat_lt 128 (common ns).length
is_wide narrow.Second x ns = nat_lt 128 (second_length ns)
is_wide narrow.ContextAndSecond x ns = nat_lt 128 x.length || nat_lt 128 (second_length ns)
is_wide narrow.VariableIndex x ns = is_wide_index ns

-- what an expression is in each context, and whether it or a part is arithmetic on more than 128 bits there
pub record Placing : Type 0 where
  pub node : Node
  pub sized : Size → SizedExpr
  pub wide : Size → Bool

abbrev pub nodes : List Placing → List Node
nodes ps = map (λ (p : Placing). p.node) ps

abbrev pub sized_each : Operands → Size → Size → Bool → List Placing → List SizedExpr
sized_each how c x is_first [] = []
sized_each how c x is_first (p ∷ ps) = p.sized (context how c x is_first p.node) ∷ sized_each how c x false ps

-- whether `so_far` is true or some part is wide
abbrev pub is_some_wide : Operands → Size → Size → Bool → Bool → List Placing → Bool
is_some_wide how c x is_first so_far [] = so_far
is_some_wide how c x is_first so_far (p ∷ ps) = is_some_wide how c x false (so_far || p.wide (context how c x is_first p.node)) ps

abbrev pub placing_layer : Sizing-F Placing → Placing
placing_layer s = record {
  node = s.node;
  sized = λ x. sized x (sized_each s.node.operands (common (nodes s.parts)) x true s.parts);
  wide = λ x. is_some_wide s.node.operands (common (nodes s.parts)) x true (is_wide s.node.narrow x (nodes s.parts)) s.parts;
}

unfoldable pub placing : Sizing → Placing
placing = fold-Sizing Placing placing_layer

-- the context of a whole expression that is to have at least so many bits
abbrev pub widened : ℕ → Sizing → Size
widened n t = sizes (max n (length_of t)) (signed_of t)

-- a whole expression has a length, and not too large a one
abbrev pub is_bad_whole : ℕ → Sizing → Bool
is_bad_whole n t = nat_eq (length_of t) 0 || nat_lt 65536 n

-- the lowest code among all faults of the expression
abbrev pub lowest : ℕ → Sizing → Option Code
lowest n t = lower (node_of t).fault (lower (where_true (is_bad_whole n t) BadRange) (where_true ((placing t).wide (widened n t)) WideArithmetic))

-- the expression with a length and a sign at each part, or the lowest code among its faults
abbrev pub sizing : Look → List Const → ℕ → Term → Outcome SizedExpr
sizing look cs n t = unless (lowest n (own look t cs).0) ((placing (own look t cs).0).sized (widened n (own look t cs).0))
