-- The lemmas on the kinds of items, in one set.
use Rattle.vl_items.proofs.PartLaws.{part-Port, part-Net, part-Integer, part-GenVar, part-Parameter, part-Assign, part-Always, part-Initial, part-Function, part-Instances, part-Gates, part-Generate, part-Gen, gen-For, gen-If, gen-Case}

pub ruleset rules = (part-Port, part-Net, part-Integer, part-GenVar, part-Parameter, part-Assign, part-Always, part-Initial, part-Function, part-Instances, part-Gates, part-Generate, part-Gen, gen-For, gen-If, gen-Case)
