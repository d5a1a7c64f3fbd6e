use Rattle.std.proofs.Common.{refl, rules, arith, sym, subst, ap, ◌∙◌}
use Rattle.called_function.proofs.CallLaws.{formed_call}
use Rattle.called_function.proofs.called.call.Goals as goal

pub returns : goal.returns
returns c = formed_call _ _ _ _ _ refl refl c.in_ok-arguments.ensures (omega arith) c.in_ok-function.ensures (search rules)
