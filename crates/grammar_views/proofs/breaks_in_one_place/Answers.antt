use Rattle.grammar_views.proofs.Files.{breaks_in_one_place}
use Rattle.grammar_views.proofs.breaks_in_one_place.Goals as goal

pub returns : goal.returns
returns c = breaks_in_one_place
