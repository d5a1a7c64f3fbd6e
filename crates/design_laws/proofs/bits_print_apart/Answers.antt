use Rattle.design_laws.proofs.PrintLaws.{print_all_apart}
use Rattle.design_laws.proofs.bits_print_apart.Goals as goal

pub returns : goal.returns
returns c = print_all_apart
