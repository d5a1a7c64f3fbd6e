use Rattle.std.proofs.Common.{rules, ◌∙◌, ap, ap₂, sym}
use Rattle.clap.specs.Words.{with_rule}
use Rattle.command_words.specs.App.{app_with}
use Rattle.command_words.proofs.Tables as laws
use Rattle.command_words.proofs.matching.with_options.Goals as goal

pub loop-row-preserved-then-not-is_of : goal.loop-row-preserved-then-not-is_of
loop-row-preserved-then-not-is_of c =
    c.loop-row.invariant
    ∙ ap (app_with c.args.verb) (sym (laws.rules_skip c.args.verb c.option_rows-rows.result.now c.loop-row.row-index _ c.loop-row-test.true c.is_of.result c.is_of.ensures (search rules)))

pub loop-row-preserved : goal.loop-row-preserved
loop-row-preserved c =
    c.in_ok-command.ensures.shape c.option_arg.ensures.local ∙ ap₂ with_rule c.loop-row.invariant c.option_arg.ensures.rule
    ∙ ap (app_with c.args.verb) (sym (laws.rules_add c.args.verb c.option_rows-rows.result.now c.loop-row.row-index _ c.loop-row-test.true c.is_of.result c.is_of.ensures (search rules)))
