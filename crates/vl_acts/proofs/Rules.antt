-- The lemmas on the kinds of left sides, statements, items, blocks and arms, in one set.
use Rattle.vl_nets.proofs.LvalLaws.{lval-Name, lval-Concat}
use Rattle.vl_items.proofs.PartLaws.{part-Port, part-Net, part-Integer, part-GenVar, part-Parameter, part-Assign, part-Always, part-Initial, part-Function, part-Instances, part-Gates, part-Generate, part-Gen, gen-For, gen-If, gen-Case, arm-Match, arm-Default, block-Begin, block-Item, block-Empty}
use Rattle.vl_acts.proofs.ActLaws.{act-Empty, act-Begin, act-If, act-Case, act-For, act-Assign, citem-Match, citem-Default}

pub ruleset rules = (lval-Name, lval-Concat, act-Empty, act-Begin, act-If, act-Case, act-For, act-Assign, citem-Match, citem-Default, part-Port, part-Net, part-Integer, part-GenVar, part-Parameter, part-Assign, part-Always, part-Initial, part-Function, part-Instances, part-Gates, part-Generate, part-Gen, gen-For, gen-If, gen-Case, arm-Match, arm-Default, block-Begin, block-Item, block-Empty)
