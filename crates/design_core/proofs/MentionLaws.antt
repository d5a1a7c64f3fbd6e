-- The signals that a tree names are those that its parts name, and its own.
use Rattle.std.proofs.Common.{◌≡◌, map, ap, ◌∙◌}
use Rattle.design_core.specs.declared.tree.DExpr.{DExpr, fold_out-DExpr}
use Rattle.design_core.specs.declared.tree.DNode.{DNode, out-DNode, fold_out-DNode, map-DNode}
use Rattle.design_core.specs.declared.tree.DLeft.{DLeft, out-DLeft, map-DLeft, fold_out-DLeft}
use Rattle.design_core.specs.declared.tree.DLeft.TheOpen.{DLeft-F, DNode-F, DStmt-F}
use Rattle.design_core.specs.declared.tree.DStmt.{DStmt, out-DStmt, fold_out-DStmt, map-DStmt}
use Rattle.design_core.specs.declared.tree.DArm.{DArm, out-DArm, fold_out-DArm}
use Rattle.design_core.specs.declared.tree.DFunction.{DFunction, fold_out-DFunction}
use Rattle.design_core.specs.declared.tree.DMatch.{DMatch, out-DMatch, fold_out-DMatch}
use Rattle.design_core.specs.Mentions.{Signals, and_also, of_all, left_mentions, node_mentions, stmt_mentions, arm_mentions, expr_mentions, function_mentions, match_mentions, mentions_expr, mentions_node, mentions_left, mentions_stmt, mentions_arm, mentions_function, mentions_match}
use Rattle.design_core.proofs.TreeInduction.{NodeLayer, LeftLayer, StmtLayer}

-- a layer, with the signals of its parts
abbrev pub node_signals : NodeLayer → DNode-F Signals Signals Signals Signals Signals Signals Signals
node_signals = map-DNode DLeft DNode DStmt DArm DExpr DFunction DMatch Signals Signals Signals Signals Signals Signals Signals mentions_left mentions_node mentions_stmt mentions_arm mentions_expr mentions_function mentions_match

abbrev pub left_signals : LeftLayer → DLeft-F Signals Signals Signals Signals Signals Signals Signals
left_signals = map-DLeft DLeft DNode DStmt DArm DExpr DFunction DMatch Signals Signals Signals Signals Signals Signals Signals mentions_left mentions_node mentions_stmt mentions_arm mentions_expr mentions_function mentions_match

abbrev pub stmt_signals : StmtLayer → DStmt-F Signals Signals Signals Signals Signals Signals Signals
stmt_signals = map-DStmt DLeft DNode DStmt DArm DExpr DFunction DMatch Signals Signals Signals Signals Signals Signals Signals mentions_left mentions_node mentions_stmt mentions_arm mentions_expr mentions_function mentions_match

pub expr_mention : (e : DExpr) (x : NodeLayer) → out-DNode e.node ≡ x → mentions_expr e ≡ node_mentions (node_signals x)
expr_mention e x is =
    fold_out-DExpr Signals Signals Signals Signals Signals Signals Signals left_mentions node_mentions stmt_mentions arm_mentions expr_mentions function_mentions match_mentions e
    ∙ fold_out-DNode Signals Signals Signals Signals Signals Signals Signals left_mentions node_mentions stmt_mentions arm_mentions expr_mentions function_mentions match_mentions e.node
    ∙ ap (λ y. node_mentions (node_signals y)) is

pub left_mention : (l : DLeft) (x : LeftLayer) → out-DLeft l ≡ x → mentions_left l ≡ left_mentions (left_signals x)
left_mention l x is =
    fold_out-DLeft Signals Signals Signals Signals Signals Signals Signals left_mentions node_mentions stmt_mentions arm_mentions expr_mentions function_mentions match_mentions l
    ∙ ap (λ y. left_mentions (left_signals y)) is

pub stmt_mention : (s : DStmt) (x : StmtLayer) → out-DStmt s ≡ x → mentions_stmt s ≡ stmt_mentions (stmt_signals x)
stmt_mention s x is =
    fold_out-DStmt Signals Signals Signals Signals Signals Signals Signals left_mentions node_mentions stmt_mentions arm_mentions expr_mentions function_mentions match_mentions s
    ∙ ap (λ y. stmt_mentions (stmt_signals y)) is

pub arm_mention : (a : DArm) → mentions_arm a ≡ and_also (of_all (map mentions_match (out-DArm a).matches)) (mentions_stmt (out-DArm a).body)
arm_mention a = fold_out-DArm Signals Signals Signals Signals Signals Signals Signals left_mentions node_mentions stmt_mentions arm_mentions expr_mentions function_mentions match_mentions a

pub function_mention : (f : DFunction) → mentions_function f ≡ mentions_stmt f.body
function_mention f = fold_out-DFunction Signals Signals Signals Signals Signals Signals Signals left_mentions node_mentions stmt_mentions arm_mentions expr_mentions function_mentions match_mentions f

pub match_mention : (m : DMatch) → mentions_match m ≡ mentions_expr (out-DMatch m).value
match_mention m = fold_out-DMatch Signals Signals Signals Signals Signals Signals Signals left_mentions node_mentions stmt_mentions arm_mentions expr_mentions function_mentions match_mentions m
