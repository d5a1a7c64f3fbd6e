-- An expression without a fault is formed in its context.
use Rattle.std.specs.Prelude.{◌≡◌, ℕ, ◌≤◌, nat_le, true, false, List, map, Some, None, Ok}
use Rattle.std.specs.List.{list_all}
use Rattle.design_core.specs.declared.tree.DExpr.{DExpr}
use Rattle.design_core.specs.Formed.{all_formed, arguments_fit, sized_expr}
use Rattle.vl_size.specs.declared.table.NameKind.TheVariants as kind
use Rattle.vl_size.specs.declared.table.SizeEntry.{SizeEntry}
use Rattle.vl_size.specs.declared.tree.Size.{Size}
use Rattle.vl_size.specs.declared.tree.Sizing.{Sizing}
use Rattle.vl_size.specs.Nodes.{is_kind}
use Rattle.vl_size.specs.Placed.{placing}
use Rattle.vl_size.specs.Sizings.{node_of, length_of}
use Rattle.vl_size.specs.Terms.{Term}
use Rattle.vl_const.specs.declared.counting.Counted.{Counted}
use Rattle.vl_elab_trees.specs.Built.{whole_name}
use Rattle.vl_elab_trees.specs.Scopes.{Meaning}
use Rattle.vl_elab_trees.specs.Whole.{expression_with}

-- what names are is as long as their sizes say, where `vs` has the lengths of the signals and `ls` those of the locals
pub record Fits (vs ls : List ℕ) (m : Meaning) : Type 0 where
  -- a name that is read
  pub leaf : (w : List ℕ) (e : SizeEntry) → m.known.look w ≡ Some e → is_kind e.kind kind.Function ≡ false → (sized_expr vs (whole_name (m.leaf w) e)).formed ls ≡ true
  -- a call with arguments as long as the inputs at least
  pub called : (w : List ℕ) (e : SizeEntry) (es : List DExpr) → m.known.look w ≡ Some e → is_kind e.kind kind.Function ≡ true
      → all_formed (map (sized_expr vs) es) ls ≡ true → arguments_fit e.inputs (map (sized_expr vs) es) ≡ true → (sized_expr vs (whole_name (m.called w es) e)).formed ls ≡ true
  pub inputs : (w : List ℕ) (e : SizeEntry) → m.known.look w ≡ Some e → list_all (λ n. nat_le n 65536) e.inputs ≡ true

-- nothing is wrong with an expression in a context, and the context is at least as long
pub record IsSound (s : Sizing) (x : Size) : Type 0 where
  pub fault : (node_of s).fault ≡ None
  pub wide : (placing s).wide x ≡ false
  pub some : 1 ≤ length_of s
  pub within : length_of s ≤ x.length
  pub most : x.length ≤ 65536

-- an expression that may stand on the right of so many bits
pub record IsRightSide (vs ls : List ℕ) (n : ℕ) (e : DExpr) : Type 0 where
  pub formed : (sized_expr vs e).formed ls ≡ true
  pub long : n ≤ e.length

abbrev pub ExpressionIsFormed : Type 0
ExpressionIsFormed = (vs ls : List ℕ) (m : Meaning) → Fits vs ls m → (t : Term) (f : Counted) (n : ℕ) (e : DExpr) → expression_with m t f n ≡ Ok e → IsRightSide vs ls n e
