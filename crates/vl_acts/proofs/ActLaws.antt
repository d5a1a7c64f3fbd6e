-- The act of each kind of statement and arm.
use Rattle.std.proofs.Common.{◌≡◌, List, map, ap, ◌∙◌, Option, None, Some}
use Rattle.vl_tree.specs.declared.expressions.Expr.{Expr}
use Rattle.vl_tree.specs.declared.statements.AssignWord.{AssignWord}
use Rattle.vl_tree.specs.declared.statements.CaseWord.{CaseWord}
use Rattle.vl_tree.specs.declared.statements.Citem.{Citem, out-Citem}
use Rattle.vl_tree.specs.declared.statements.Citem.TheFolds.{map-Citem, map-Stmt, fold_out-Citem, fold_out-Stmt}
use Rattle.vl_tree.specs.declared.statements.Citem.TheOpen.{Citem-F, Stmt-F}
use Rattle.vl_tree.specs.declared.statements.Citem.TheVariants as c
use Rattle.vl_tree.specs.declared.statements.Lval.{Lval}
use Rattle.vl_tree.specs.declared.statements.Stmt.{Stmt, out-Stmt}
use Rattle.vl_tree.specs.declared.statements.Stmt.TheVariants as s
use Rattle.vl_tree.specs.declared.tokens.Token.{Token}
use Rattle.vl_acts.specs.Acts.{Act, ActArm, act, arm_act, acts_of, arms_of, option_act, citem_layer, stmt_layer, nothing, block, choice, cases, loop, write, matched, otherwise}

abbrev stmt_layered : Stmt-F Citem Stmt → Stmt-F ActArm Act
stmt_layered = map-Stmt Citem Stmt ActArm Act arm_act act

abbrev citem_layered : Citem-F Citem Stmt → Citem-F ActArm Act
citem_layered = map-Citem Citem Stmt ActArm Act arm_act act

stmt_out : (x : Stmt) → act x ≡ stmt_layer (stmt_layered (out-Stmt x))
unfolding act arm_act
stmt_out x = fold_out-Stmt ActArm Act citem_layer stmt_layer x

citem_out : (x : Citem) → arm_act x ≡ citem_layer (citem_layered (out-Citem x))
unfolding act arm_act
citem_out x = fold_out-Citem ActArm Act citem_layer stmt_layer x

stmt_is : (x : Stmt) (l : Stmt-F Citem Stmt) → out-Stmt x ≡ l → act x ≡ stmt_layer (stmt_layered l)
stmt_is x l is = stmt_out x ∙ ap (λ y. stmt_layer (stmt_layered y)) is

citem_is : (x : Citem) (l : Citem-F Citem Stmt) → out-Citem x ≡ l → arm_act x ≡ citem_layer (citem_layered l)
citem_is x l is = citem_out x ∙ ap (λ y. citem_layer (citem_layered y)) is

pub act-Empty : act s.Empty ≡ nothing
act-Empty = stmt_is s.Empty Stmt-F.Empty s.outs-Empty

pub act-Begin : (n : Option Token) (xs : List Stmt) → act (s.Begin n xs) ≡ block (acts_of (map act xs))
act-Begin n xs = stmt_is (s.Begin n xs) (Stmt-F.Begin n xs) (s.outs-Begin n xs)

pub act-If : (t : Expr) (y : Stmt) (n : Option Stmt) → act (s.If t y n) ≡ choice t (act y) (option_act n)
act-If t y None = stmt_is (s.If t y None) (Stmt-F.If t y None) (s.outs-If t y None)
act-If t y (Some x) = stmt_is (s.If t y (Some x)) (Stmt-F.If t y (Some x)) (s.outs-If t y (Some x))

pub act-Case : (w : CaseWord) (e : Expr) (xs : List Citem) → act (s.Case w e xs) ≡ cases e (arms_of (map arm_act xs))
act-Case w e xs = stmt_is (s.Case w e xs) (Stmt-F.Case w e xs) (s.outs-Case w e xs)

pub act-For : (x : Token) (a t : Expr) (y : Token) (p : Expr) (b : Stmt) → act (s.For x a t y p b) ≡ loop x a t y p (act b)
act-For x a t y p b = stmt_is (s.For x a t y p b) (Stmt-F.For x a t y p b) (s.outs-For x a t y p b)

pub act-Assign : (l : Lval) (w : AssignWord) (e : Expr) → act (s.Assign l w e) ≡ write l e
act-Assign l w e = stmt_is (s.Assign l w e) (Stmt-F.Assign l w e) (s.outs-Assign l w e)

pub citem-Match : (vs : List Expr) (x : Stmt) → arm_act (c.Match vs x) ≡ matched vs (act x)
citem-Match vs x = citem_is (c.Match vs x) (Citem-F.Match vs x) (c.outs-Match vs x)

pub citem-Default : (x : Stmt) → arm_act (c.Default x) ≡ otherwise (act x)
citem-Default x = citem_is (c.Default x) (Citem-F.Default x) (c.outs-Default x)
