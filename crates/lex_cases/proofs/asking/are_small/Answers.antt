use Rattle.std.proofs.Common.{sym, ◌∙◌}
use Rattle.lex_cases.proofs.Small.{small_sources}
use Rattle.lex_cases.proofs.asking.are_small.Goals as goal

pub returns : goal.returns
returns c = λ h. small_sources c.args.sources.now (sym c.all_small.ensures ∙ h)
