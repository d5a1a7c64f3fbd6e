-- The lemmas on the kinds of expressions, left sides, statements, arms and items, in one set.
use Rattle.vl_size.proofs.TermLaws.{term-Number, term-Name, term-Call, term-System, term-Concat, term-Repeat, term-Group, term-Unary, term-Binary, term-Choice, pick-Index, pick-Range, pick-Up, pick-Down}
use Rattle.vl_items.proofs.PartLaws.{part-Port, part-Net, part-Integer, part-GenVar, part-Parameter, part-Assign, part-Always, part-Initial, part-Function, part-Instances, part-Gates, part-Generate, part-Gen, gen-For, gen-If, gen-Case}
use Rattle.vl_nets.proofs.LvalLaws.{lval-Name, lval-Concat}
use Rattle.vl_acts.proofs.ActLaws.{act-Empty, act-Begin, act-If, act-Case, act-For, act-Assign, citem-Match, citem-Default}

pub ruleset rules = (term-Number, term-Name, term-Call, term-System, term-Concat, term-Repeat, term-Group, term-Unary, term-Binary, term-Choice, pick-Index, pick-Range, pick-Up, pick-Down, lval-Name, lval-Concat, act-Empty, act-Begin, act-If, act-Case, act-For, act-Assign, citem-Match, citem-Default, part-Port, part-Net, part-Integer, part-GenVar, part-Parameter, part-Assign, part-Always, part-Initial, part-Function, part-Instances, part-Gates, part-Generate, part-Gen, gen-For, gen-If, gen-Case)
