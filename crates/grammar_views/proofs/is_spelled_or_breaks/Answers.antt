use Rattle.grammar_views.proofs.Files.{spelled_or_broken}
use Rattle.grammar_views.proofs.is_spelled_or_breaks.Goals as goal

pub returns : goal.returns
returns c = spelled_or_broken
