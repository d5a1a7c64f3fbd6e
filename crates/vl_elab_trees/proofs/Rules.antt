-- The lemmas on the kinds of expressions, in one set.
use Rattle.vl_size.proofs.TermLaws.{term-Number, term-Name, term-Call, term-System, term-Concat, term-Repeat, term-Group, term-Unary, term-Binary, term-Choice, pick-Index, pick-Range, pick-Up, pick-Down}
use Rattle.vl_elab_trees.proofs.CallLaws.{arguments}

pub ruleset rules = (arguments, term-Number, term-Name, term-Call, term-System, term-Concat, term-Repeat, term-Group, term-Unary, term-Binary, term-Choice, pick-Index, pick-Range, pick-Up, pick-Down)
