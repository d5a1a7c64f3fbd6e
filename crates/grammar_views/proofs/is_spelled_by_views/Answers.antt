use Rattle.grammar_views.proofs.Files.{spelled_by_views}
use Rattle.grammar_views.proofs.is_spelled_by_views.Goals as goal

pub returns : goal.returns
returns c = spelled_by_views
