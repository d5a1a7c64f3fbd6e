use Rattle.std.proofs.Common.{sym, ◌∙◌}
use Rattle.vl_lex.proofs.Unwound.{fed_turns, fewer_by_one, refused_turns, opened_turns, opened_behind, opened_fewer}
use Rattle.vl_lex.proofs.expansion.expand_token.Goals as goal

pub returns-then-not-is_directive-clause-turns : goal.returns-then-not-is_directive-clause-turns
returns-then-not-is_directive-clause-turns c =
    fed_turns _ _ _ _ _ _ _ _ _ (sym c.is_directive.ensures ∙ c.if-not-is_directive.true) c.marked.ensures c.feed.ensures

pub returns-then-not-is_directive-clause-fewer : goal.returns-then-not-is_directive-clause-fewer
returns-then-not-is_directive-clause-fewer c =
    fewer_by_one c.feed.result _ _ _ _ (sym c.is_directive.ensures ∙ c.if-not-is_directive.true)

pub returns-in-Err-clause-turns : goal.returns-in-Err-clause-turns
returns-in-Err-clause-turns c =
    refused_turns _ _ _ _ _ _ _ (sym c.is_directive.ensures ∙ c.if-not-is_directive.false) c.in-Err.ensures.none c.in-Err.ensures.cause

pub returns-clause-turns : goal.returns-clause-turns
returns-clause-turns c =
    opened_turns _ _ _ _ _ _ _ _ (sym c.is_directive.ensures ∙ c.if-not-is_directive.false) c.in-Ok.ensures.ok c.in-Ok.ensures.gone c.directive_name.ensures c.in_ok-open.ensures _ _ _ c.in-Ok.ensures.still

pub returns-clause-still : goal.returns-clause-still
returns-clause-still c =
    opened_behind _ _ _ _ _ _ _ _ (sym c.is_directive.ensures ∙ c.if-not-is_directive.false) c.in-Ok.ensures.ok c.in-Ok.ensures.gone c.directive_name.ensures c.in_ok-open.ensures

pub returns-clause-fewer : goal.returns-clause-fewer
returns-clause-fewer c =
    opened_fewer _ _ _ _ _ _ _ _ (sym c.is_directive.ensures ∙ c.if-not-is_directive.false) c.in-Ok.ensures.ok c.in-Ok.ensures.gone c.directive_name.ensures c.in_ok-open.ensures
