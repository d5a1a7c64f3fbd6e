use Rattle.std.proofs.Common.{◌∙◌, ap, ap₂, map}
use Rattle.std.proofs.lemmas.Result.{IfOk-weaker}
use Rattle.clap.specs.Words.{with_rule}
use Rattle.command_words.specs.App.{app_with, option_rule}
use Rattle.command_words.specs.Table.{options_of}
use Rattle.command_words.proofs.Tables as laws
use Rattle.command_words.proofs.matching.described.Goals as goal

pub returns-in_ok-arg-in-Lrat : goal.returns-in_ok-arg-in-Lrat
returns-in_ok-arg-in-Lrat c = IfOk-weaker c.arg-in-Lrat-2.result _ _ (λ made adds.
    adds.shape c.log_arg.ensures.local
    ∙ ap₂ with_rule (c.in_ok-arg-in-Lrat.ensures.shape c.file_arg-in-Lrat.ensures.local ∙ ap₂ with_rule c.in_ok-command.ensures c.file_arg-in-Lrat.ensures.rule) c.log_arg.ensures.rule
    ∙ ap (app_with c.args.verb) (laws.two_files c.args.verb (map option_rule (options_of c.args.verb)) c.in-Lrat.is)) c.arg-in-Lrat-2.ensures
