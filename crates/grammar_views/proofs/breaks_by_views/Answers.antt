use Rattle.grammar_views.proofs.Files.{breaks_by_views}
use Rattle.grammar_views.proofs.breaks_by_views.Goals as goal

pub returns : goal.returns
returns c = breaks_by_views
