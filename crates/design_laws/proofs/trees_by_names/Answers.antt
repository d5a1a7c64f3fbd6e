use Rattle.design_laws.proofs.SameLaws.{expr_same, left_same, stmt_same}
use Rattle.design_laws.proofs.TreeLaws.{expr_again, left_again, stmt_again, item_named}
use Rattle.design_laws.proofs.OwnLaws.{item_own, item_over_more}
use Rattle.design_laws.proofs.trees_by_names.Goals as goal

pub returns : goal.returns
returns c = record { expr = expr_again; left = left_again; stmt = stmt_again; same = (expr_same, left_same, stmt_same); item = item_named; own = item_own; more = item_over_more }
