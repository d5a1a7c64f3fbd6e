-- Statements as plain data, without where they lie in memory.
use Rattle.std.specs.Prelude.{List, [], ◌∷◌, Option, Some, None}
use Rattle.vl_tree.specs.declared.expressions.Expr.{Expr}
use Rattle.vl_tree.specs.declared.statements.Citem.{Citem, fold-Citem}
use Rattle.vl_tree.specs.declared.statements.Citem.TheOpen.{Citem-F, Stmt-F}
use Rattle.vl_tree.specs.declared.statements.Lval.{Lval}
use Rattle.vl_tree.specs.declared.statements.Stmt.{Stmt, fold-Stmt}
use Rattle.vl_tree.specs.declared.tokens.Token.{Token}

mutual
  -- a loop has both names of its header
  pub data Act : Type 0 where
    nothing : Act
    block : Acts → Act
    choice : Expr → Act → Act → Act
    cases : Expr → ActArms → Act
    loop : Token → Expr → Expr → Token → Expr → Act → Act
    write : Lval → Expr → Act

  pub data Acts : Type 0 where
    none : Acts
    more : Act → Acts → Acts

  pub data ActArm : Type 0 where
    matched : List Expr → Act → ActArm
    otherwise : Act → ActArm

  pub data ActArms : Type 0 where
    no_arm : ActArms
    arm : ActArm → ActArms → ActArms

abbrev pub acts_of : List Act → Acts
acts_of [] = none
acts_of (a ∷ as') = more a (acts_of as')

abbrev pub arms_of : List ActArm → ActArms
arms_of [] = no_arm
arms_of (a ∷ as') = arm a (arms_of as')

abbrev pub or_nothing : Option Act → Act
or_nothing None = nothing
or_nothing (Some a) = a

abbrev pub citem_layer : Citem-F ActArm Act → ActArm
citem_layer (Citem-F.Match vs a) = matched vs a
citem_layer (Citem-F.Default a) = otherwise a

abbrev pub stmt_layer : Stmt-F ActArm Act → Act
stmt_layer Stmt-F.Empty = nothing
stmt_layer (Stmt-F.Begin n as') = block (acts_of as')
stmt_layer (Stmt-F.If t y n) = choice t y (or_nothing n)
stmt_layer (Stmt-F.Case w s as') = cases s (arms_of as')
stmt_layer (Stmt-F.For x s t y p b) = loop x s t y p b
stmt_layer (Stmt-F.Assign l w e) = write l e

unfoldable pub act : Stmt → Act
act = fold-Stmt ActArm Act citem_layer stmt_layer

unfoldable pub arm_act : Citem → ActArm
arm_act = fold-Citem ActArm Act citem_layer stmt_layer

-- an `else`, if it is there
abbrev pub option_act : Option Stmt → Act
option_act None = nothing
option_act (Some x) = act x
