-- What the names of a scope are in a design.
use Rattle.std.specs.Prelude.{ℕ, Bool, List, [], Option}
use Rattle.design_core.specs.declared.tree.DBase.{DBase}
use Rattle.design_core.specs.declared.tree.DExpr.{DExpr}
use Rattle.design_core.specs.declared.tree.DNode.{DNode}
use Rattle.vl_size.specs.declared.constant.Const.{Const}
use Rattle.vl_size.specs.declared.tree.Size.{Size}
use Rattle.vl_size.specs.declared.tree.Sizing.{Sizing}
use Rattle.vl_size.specs.Owns.{Found}
use Rattle.vl_size.specs.Terms.{Term}
use Rattle.vl_const.specs.Scopes as constants
use Rattle.vl_const.specs.Worths.{worth}

-- the size of each name and the value of each constant; what a name is where it is read, a signal, a local or a constant; and what a call of it is
pub record Meaning : Type 0 where
  pub known : constants.Meaning
  pub leaf : List ℕ → DNode
  pub called : List ℕ → List DExpr → DNode

-- what a name is where it is written, if it may be
abbrev pub Bases : Type 0
Bases = List ℕ → Option DBase

-- the value of a constant expression in the context x, where cs begins with the values of its counts, bounds and widths
abbrev pub valued : Meaning → Term → List Sizing → Size → List Const → Found (List Bool)
valued m t ss x cs = ((worth m.known t ss x (cs, [])).0.value, (worth m.known t ss x (cs, [])).1.0)
