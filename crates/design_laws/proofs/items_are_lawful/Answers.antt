use Rattle.design_laws.proofs.ItemLaws.{lawful}
use Rattle.design_laws.proofs.items_are_lawful.Goals as goal

pub returns : goal.returns
returns c = lawful
