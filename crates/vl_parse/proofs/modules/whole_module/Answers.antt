use Rattle.std.proofs.Common.{List, Bor, arith}
use Rattle.vl_tree.specs.declared.modules.Module.{Module}
use Rattle.vl_tree.specs.declared.tokens.Token.{Token}
use Rattle.vl_parse.proofs.Wholes.{found_whole, left_over, error_none}
use Rattle.vl_parse.proofs.modules.whole_module.Goals as goal

pub returns-then-rest-eq0-clause-found : goal.returns-then-rest-eq0-clause-found
returns-then-rest-eq0-clause-found c = found_whole c.in-Ok.found c.args.tokens.now c.in-Ok.rest.now (omega arith) c.in-Ok.ensures

pub returns-in-Ok-clause-none : goal.returns-in-Ok-clause-none
returns-in-Ok-clause-none c = λ e m d. left_over c.in-Ok.found c.args.tokens.now c.in-Ok.rest.now (omega arith) c.in-Ok.ensures m d

pub returns-clause-none : goal.returns-clause-none
returns-clause-none c =
    λ e m d. error_none (λ (x : Module × Bor (List Token)). (x.0, x.1.now)) c.args.tokens.now c.in-Err.error c.in-Err.ensures e m d
