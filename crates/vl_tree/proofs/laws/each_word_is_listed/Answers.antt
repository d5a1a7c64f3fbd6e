use Rattle.vl_tree.proofs.WordLaws.{at_word}
use Rattle.vl_tree.proofs.laws.each_word_is_listed.Goals as goal

pub returns : goal.returns
returns c = at_word
