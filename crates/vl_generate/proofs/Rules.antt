-- The lemmas on the kinds of expressions, items, blocks and arms, in one set.
use Rattle.vl_size.proofs.TermLaws.{term-Number, term-Name, term-Call, term-System, term-Concat, term-Repeat, term-Group, term-Unary, term-Binary, term-Choice, pick-Index, pick-Range, pick-Up, pick-Down}
use Rattle.vl_items.proofs.PartLaws.{part-Port, part-Net, part-Integer, part-GenVar, part-Parameter, part-Assign, part-Always, part-Initial, part-Function, part-Instances, part-Gates, part-Generate, part-Gen, gen-For, gen-If, gen-Case, arm-Match, arm-Default, block-Begin, block-Item, block-Empty}

pub ruleset rules = (term-Number, term-Name, term-Call, term-System, term-Concat, term-Repeat, term-Group, term-Unary, term-Binary, term-Choice, pick-Index, pick-Range, pick-Up, pick-Down, part-Port, part-Net, part-Integer, part-GenVar, part-Parameter, part-Assign, part-Always, part-Initial, part-Function, part-Instances, part-Gates, part-Generate, part-Gen, gen-For, gen-If, gen-Case, arm-Match, arm-Default, block-Begin, block-Item, block-Empty)
