use Rattle.std.proofs.Common.{arith, map, sym}
use Rattle.std.proofs.lemmas.List.{length-map}
use Rattle.plain_form.proofs.ReadLaws as laws
use Rattle.plain_form.proofs.modules.read_module.Goals as goal

pub returns-in_default : goal.returns-in_default
returns-in_default c = sym (laws.module_short (map (λ w. w.now) c.args.words.now) (let h = c.in_default.len_below in omega (arith, length-map c.args.words.now (λ w. w.now))))
