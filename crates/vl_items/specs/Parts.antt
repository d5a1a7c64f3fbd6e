-- Items as plain data, without where they lie in memory. The words `generate` and `endgenerate` are still there, since places count them.
use Rattle.std.specs.Prelude.{List, [], ◌∷◌, Option, Some, None}
use Rattle.vl_tree.specs.declared.expressions.Expr.{Expr}
use Rattle.vl_tree.specs.declared.modules.Assignment.{Assignment}
use Rattle.vl_tree.specs.declared.modules.Block.{Block, fold-Block}
use Rattle.vl_tree.specs.declared.modules.Block.TheOpen.{Block-F, Gen-F, GenArm-F, Item-F}
use Rattle.vl_tree.specs.declared.modules.Gen.{Gen, fold-Gen}
use Rattle.vl_tree.specs.declared.modules.GenArm.{GenArm, fold-GenArm}
use Rattle.vl_tree.specs.declared.modules.GateItem.{GateItem}
use Rattle.vl_tree.specs.declared.modules.InstanceItem.{InstanceItem}
use Rattle.vl_tree.specs.declared.modules.Item.{Item, fold-Item}
use Rattle.vl_tree.specs.declared.modules.LoopHead.{LoopHead}
use Rattle.vl_tree.specs.declared.modules.NetItem.{NetItem}
use Rattle.vl_tree.specs.declared.modules.ParameterItem.{ParameterItem}
use Rattle.vl_tree.specs.declared.modules.PortItem.{PortItem}
use Rattle.vl_tree.specs.declared.modules.Process.{Process}
use Rattle.vl_tree.specs.declared.statements.Function.{Function}
use Rattle.vl_tree.specs.declared.statements.Stmt.{Stmt}
use Rattle.vl_tree.specs.declared.statements.Var.{Var}
use Rattle.vl_tree.specs.declared.tokens.Token.{Token}

mutual
  pub data Part : Type 0 where
    port : PortItem → Part
    net : NetItem → Part
    integer : List Var → Part
    genvar : List Token → Part
    parameter : ParameterItem → Part
    assign : List Assignment → Part
    always : Process → Part
    initial : Stmt → Part
    function : Function → Part
    instances : InstanceItem → Part
    gates : GateItem → Part
    region : Parts → Part
    loop : LoopHead → Body → Part
    choice : Expr → Body → Body → Part
    cases : Expr → Arms → Part

  pub data Parts : Type 0 where
    none : Parts
    more : Part → Parts → Parts

  -- what a loop, a choice or an arm holds; `absent` stands for an `else` that is not there
  pub data Body : Type 0 where
    begun : Option Token → Parts → Body
    single : Part → Body
    hollow : Body
    absent : Body

  pub data Arm : Type 0 where
    matched : List Expr → Body → Arm
    otherwise : Body → Arm

  pub data Arms : Type 0 where
    no_arm : Arms
    arm : Arm → Arms → Arms

abbrev pub parts_of : List Part → Parts
parts_of [] = none
parts_of (p ∷ ps) = more p (parts_of ps)

abbrev pub arms_of : List Arm → Arms
arms_of [] = no_arm
arms_of (a ∷ as') = arm a (arms_of as')

abbrev pub body_or_absent : Option Body → Body
body_or_absent None = absent
body_or_absent (Some b) = b

abbrev pub block_layer : Block-F Body Part Arm Part → Body
block_layer (Block-F.Begin n ps) = begun n (parts_of ps)
block_layer (Block-F.Item p) = single p
block_layer Block-F.Empty = hollow

abbrev pub gen_layer : Gen-F Body Part Arm Part → Part
gen_layer (Gen-F.For h b) = loop h b
gen_layer (Gen-F.If t y n) = choice t y (body_or_absent n)
gen_layer (Gen-F.Case s as') = cases s (arms_of as')

abbrev pub arm_layer : GenArm-F Body Part Arm Part → Arm
arm_layer (GenArm-F.Match vs b) = matched vs b
arm_layer (GenArm-F.Default b) = otherwise b

abbrev pub item_layer : Item-F Body Part Arm Part → Part
item_layer (Item-F.Port p) = port p
item_layer (Item-F.Net n) = net n
item_layer (Item-F.Integer vs) = integer vs
item_layer (Item-F.GenVar ts) = genvar ts
item_layer (Item-F.Parameter p) = parameter p
item_layer (Item-F.Assign xs) = assign xs
item_layer (Item-F.Always p) = always p
item_layer (Item-F.Initial s) = initial s
item_layer (Item-F.Function f) = function f
item_layer (Item-F.Instances i) = instances i
item_layer (Item-F.Gates g) = gates g
item_layer (Item-F.Generate ps) = region (parts_of ps)
item_layer (Item-F.Gen g) = g

unfoldable pub part : Item → Part
part = fold-Item Body Part Arm Part block_layer gen_layer arm_layer item_layer

unfoldable pub gen_part : Gen → Part
gen_part = fold-Gen Body Part Arm Part block_layer gen_layer arm_layer item_layer

unfoldable pub body : Block → Body
body = fold-Block Body Part Arm Part block_layer gen_layer arm_layer item_layer

unfoldable pub arm_part : GenArm → Arm
arm_part = fold-GenArm Body Part Arm Part block_layer gen_layer arm_layer item_layer

-- an `else`, if it is there
abbrev pub option_body : Option Block → Body
option_body None = absent
option_body (Some x) = body x
