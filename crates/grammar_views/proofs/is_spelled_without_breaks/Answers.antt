use Rattle.grammar_views.proofs.Files.{never_both}
use Rattle.grammar_views.proofs.is_spelled_without_breaks.Goals as goal

pub returns : goal.returns
returns c = never_both
