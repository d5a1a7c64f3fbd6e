use Rattle.std.proofs.Common.{ap, ◌∙◌}
use Rattle.tree_parts.specs.Parts.{compared_in}
use Rattle.tree_parts.proofs.AskLaws.{asked_case, asked_other}
use Rattle.tree_parts.proofs.statements.asked.Goals as goal

pub returns-in-Case : goal.returns-in-Case
returns-in-Case c = c.compared.ensures ∙ ap compared_in c.in_ok-parts.ensures ∙ asked_case c.args.body.now c.in-Case.selector c.in-Case.arms c.in-Case.rest c.in-Case.is

pub returns-in_default : goal.returns-in_default
returns-in_default c = c.in_ok-parts.ensures ∙ asked_other c.args.body.now c.in_default.not-Case
