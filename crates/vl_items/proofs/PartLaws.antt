-- The part of each kind of item, block and arm.
use Rattle.std.proofs.Common.{◌≡◌, List, map, ap, ◌∙◌, Option, None, Some}
use Rattle.vl_tree.specs.declared.expressions.Expr.{Expr}
use Rattle.vl_tree.specs.declared.modules.Assignment.{Assignment}
use Rattle.vl_tree.specs.declared.modules.Block.{Block, out-Block}
use Rattle.vl_tree.specs.declared.modules.Block.TheVariants as b
use Rattle.vl_tree.specs.declared.modules.Block.TheOpen.{Block-F, Gen-F, GenArm-F, Item-F}
use Rattle.vl_tree.specs.declared.modules.Block.TheFolds.{map-Block, map-Gen, map-GenArm, map-Item, fold_out-Block, fold_out-Gen, fold_out-GenArm, fold_out-Item}
use Rattle.vl_tree.specs.declared.modules.Gen.{Gen, out-Gen}
use Rattle.vl_tree.specs.declared.modules.Gen.TheVariants as g
use Rattle.vl_tree.specs.declared.modules.GenArm.{GenArm, out-GenArm}
use Rattle.vl_tree.specs.declared.modules.GenArm.TheVariants as a
use Rattle.vl_tree.specs.declared.modules.GateItem.{GateItem}
use Rattle.vl_tree.specs.declared.modules.InstanceItem.{InstanceItem}
use Rattle.vl_tree.specs.declared.modules.Item.{Item, out-Item}
use Rattle.vl_tree.specs.declared.modules.Item.TheVariants as i
use Rattle.vl_tree.specs.declared.modules.LoopHead.{LoopHead}
use Rattle.vl_tree.specs.declared.modules.NetItem.{NetItem}
use Rattle.vl_tree.specs.declared.modules.ParameterItem.{ParameterItem}
use Rattle.vl_tree.specs.declared.modules.PortItem.{PortItem}
use Rattle.vl_tree.specs.declared.modules.Process.{Process}
use Rattle.vl_tree.specs.declared.statements.Function.{Function}
use Rattle.vl_tree.specs.declared.statements.Stmt.{Stmt}
use Rattle.vl_tree.specs.declared.statements.Var.{Var}
use Rattle.vl_tree.specs.declared.tokens.Token.{Token}
use Rattle.vl_items.specs.Parts.{Part, Body, Arm, part, gen_part, body, arm_part, block_layer, gen_layer, arm_layer, item_layer, parts_of, arms_of, option_body, port, net, integer, genvar, parameter, assign, always, initial, function, instances, gates, region, loop, choice, cases, begun, single, hollow, matched, otherwise}

abbrev item_layered : Item-F Block Gen GenArm Item → Item-F Body Part Arm Part
item_layered = map-Item Block Gen GenArm Item Body Part Arm Part body gen_part arm_part part

abbrev block_layered : Block-F Block Gen GenArm Item → Block-F Body Part Arm Part
block_layered = map-Block Block Gen GenArm Item Body Part Arm Part body gen_part arm_part part

abbrev gen_layered : Gen-F Block Gen GenArm Item → Gen-F Body Part Arm Part
gen_layered = map-Gen Block Gen GenArm Item Body Part Arm Part body gen_part arm_part part

abbrev arm_layered : GenArm-F Block Gen GenArm Item → GenArm-F Body Part Arm Part
arm_layered = map-GenArm Block Gen GenArm Item Body Part Arm Part body gen_part arm_part part

item_out : (x : Item) → part x ≡ item_layer (item_layered (out-Item x))
unfolding part gen_part body arm_part
item_out x = fold_out-Item Body Part Arm Part block_layer gen_layer arm_layer item_layer x

block_out : (x : Block) → body x ≡ block_layer (block_layered (out-Block x))
unfolding part gen_part body arm_part
block_out x = fold_out-Block Body Part Arm Part block_layer gen_layer arm_layer item_layer x

gen_out : (x : Gen) → gen_part x ≡ gen_layer (gen_layered (out-Gen x))
unfolding part gen_part body arm_part
gen_out x = fold_out-Gen Body Part Arm Part block_layer gen_layer arm_layer item_layer x

arm_out : (x : GenArm) → arm_part x ≡ arm_layer (arm_layered (out-GenArm x))
unfolding part gen_part body arm_part
arm_out x = fold_out-GenArm Body Part Arm Part block_layer gen_layer arm_layer item_layer x

item_is : (x : Item) (l : Item-F Block Gen GenArm Item) → out-Item x ≡ l → part x ≡ item_layer (item_layered l)
item_is x l is = item_out x ∙ ap (λ y. item_layer (item_layered y)) is

block_is : (x : Block) (l : Block-F Block Gen GenArm Item) → out-Block x ≡ l → body x ≡ block_layer (block_layered l)
block_is x l is = block_out x ∙ ap (λ y. block_layer (block_layered y)) is

gen_is : (x : Gen) (l : Gen-F Block Gen GenArm Item) → out-Gen x ≡ l → gen_part x ≡ gen_layer (gen_layered l)
gen_is x l is = gen_out x ∙ ap (λ y. gen_layer (gen_layered y)) is

arm_is : (x : GenArm) (l : GenArm-F Block Gen GenArm Item) → out-GenArm x ≡ l → arm_part x ≡ arm_layer (arm_layered l)
arm_is x l is = arm_out x ∙ ap (λ y. arm_layer (arm_layered y)) is

pub part-Port : (p : PortItem) → part (i.Port p) ≡ port p
part-Port p = item_is (i.Port p) (Item-F.Port p) (i.outs-Port p)

pub part-Net : (p : NetItem) → part (i.Net p) ≡ net p
part-Net p = item_is (i.Net p) (Item-F.Net p) (i.outs-Net p)

pub part-Integer : (p : List Var) → part (i.Integer p) ≡ integer p
part-Integer p = item_is (i.Integer p) (Item-F.Integer p) (i.outs-Integer p)

pub part-GenVar : (p : List Token) → part (i.GenVar p) ≡ genvar p
part-GenVar p = item_is (i.GenVar p) (Item-F.GenVar p) (i.outs-GenVar p)

pub part-Parameter : (p : ParameterItem) → part (i.Parameter p) ≡ parameter p
part-Parameter p = item_is (i.Parameter p) (Item-F.Parameter p) (i.outs-Parameter p)

pub part-Assign : (p : List Assignment) → part (i.Assign p) ≡ assign p
part-Assign p = item_is (i.Assign p) (Item-F.Assign p) (i.outs-Assign p)

pub part-Always : (p : Process) → part (i.Always p) ≡ always p
part-Always p = item_is (i.Always p) (Item-F.Always p) (i.outs-Always p)

pub part-Initial : (p : Stmt) → part (i.Initial p) ≡ initial p
part-Initial p = item_is (i.Initial p) (Item-F.Initial p) (i.outs-Initial p)

pub part-Function : (p : Function) → part (i.Function p) ≡ function p
part-Function p = item_is (i.Function p) (Item-F.Function p) (i.outs-Function p)

pub part-Instances : (p : InstanceItem) → part (i.Instances p) ≡ instances p
part-Instances p = item_is (i.Instances p) (Item-F.Instances p) (i.outs-Instances p)

pub part-Gates : (p : GateItem) → part (i.Gates p) ≡ gates p
part-Gates p = item_is (i.Gates p) (Item-F.Gates p) (i.outs-Gates p)

pub part-Generate : (ps : List Item) → part (i.Generate ps) ≡ region (parts_of (map part ps))
part-Generate ps = item_is (i.Generate ps) (Item-F.Generate ps) (i.outs-Generate ps)

pub part-Gen : (x : Gen) → part (i.Gen x) ≡ gen_part x
part-Gen x = item_is (i.Gen x) (Item-F.Gen x) (i.outs-Gen x)

pub gen-For : (h : LoopHead) (x : Block) → gen_part (g.For h x) ≡ loop h (body x)
gen-For h x = gen_is (g.For h x) (Gen-F.For h x) (g.outs-For h x)

pub gen-If : (t : Expr) (y : Block) (n : Option Block) → gen_part (g.If t y n) ≡ choice t (body y) (option_body n)
gen-If t y None = gen_is (g.If t y None) (Gen-F.If t y None) (g.outs-If t y None)
gen-If t y (Some x) = gen_is (g.If t y (Some x)) (Gen-F.If t y (Some x)) (g.outs-If t y (Some x))

pub gen-Case : (s : Expr) (xs : List GenArm) → gen_part (g.Case s xs) ≡ cases s (arms_of (map arm_part xs))
gen-Case s xs = gen_is (g.Case s xs) (Gen-F.Case s xs) (g.outs-Case s xs)

pub arm-Match : (vs : List Expr) (x : Block) → arm_part (a.Match vs x) ≡ matched vs (body x)
arm-Match vs x = arm_is (a.Match vs x) (GenArm-F.Match vs x) (a.outs-Match vs x)

pub arm-Default : (x : Block) → arm_part (a.Default x) ≡ otherwise (body x)
arm-Default x = arm_is (a.Default x) (GenArm-F.Default x) (a.outs-Default x)

pub block-Begin : (n : Option Token) (xs : List Item) → body (b.Begin n xs) ≡ begun n (parts_of (map part xs))
block-Begin n xs = block_is (b.Begin n xs) (Block-F.Begin n xs) (b.outs-Begin n xs)

pub block-Item : (x : Item) → body (b.Item x) ≡ single (part x)
block-Item x = block_is (b.Item x) (Block-F.Item x) (b.outs-Item x)

pub block-Empty : body b.Empty ≡ hollow
block-Empty = block_is b.Empty Block-F.Empty b.outs-Empty
