use Rattle.design_laws.proofs.ItemBitLaws.{item_bits, design_bits}
use Rattle.design_laws.proofs.KindLaws.{kind_kept, design_kept}
use Rattle.design_laws.proofs.formed_items.Goals as goal

pub returns : goal.returns
returns c = record { bits = item_bits; design_bits = design_bits; kind = kind_kept; design_kind = design_kept }
