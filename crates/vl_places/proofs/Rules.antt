-- The lemmas on the kinds of items, blocks and arms, and on these by number, in one set.
use Rattle.vl_items.proofs.PartLaws.{part-Port, part-Net, part-Integer, part-GenVar, part-Parameter, part-Assign, part-Always, part-Initial, part-Function, part-Instances, part-Gates, part-Generate, part-Gen, gen-For, gen-If, gen-Case, arm-Match, arm-Default, block-Begin, block-Item, block-Empty}
use Rattle.vl_places.proofs.ListLaws.{item_read, no_item, arm_read, past_arms}

pub ruleset rules = (part-Port, part-Net, part-Integer, part-GenVar, part-Parameter, part-Assign, part-Always, part-Initial, part-Function, part-Instances, part-Gates, part-Generate, part-Gen, gen-For, gen-If, gen-Case, arm-Match, arm-Default, block-Begin, block-Item, block-Empty, item_read, no_item, arm_read, past_arms)
