-- The lemmas on the kinds of expressions and on sizings, in one set.
use Rattle.vl_size.proofs.TermLaws.{term-Number, term-Name, term-Call, term-System, term-Concat, term-Repeat, term-Group, term-Unary, term-Binary, term-Choice, pick-Index, pick-Range, pick-Up, pick-Down}
use Rattle.vl_size.proofs.PlacingLaws.{placing_node, placing_sized, placing_wide}

pub ruleset nodes = (term-Number, term-Name, term-Call, term-System, term-Concat, term-Repeat, term-Group, term-Unary, term-Binary, term-Choice, pick-Index, pick-Range, pick-Up, pick-Down, placing_node, placing_sized, placing_wide)
