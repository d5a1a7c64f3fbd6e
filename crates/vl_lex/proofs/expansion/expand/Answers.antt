use Rattle.std.proofs.Common.{◌∙◌}
use Rattle.vl_lex.proofs.Unwound.{first_ends, first_goes, first_behind}
use Rattle.vl_lex.proofs.expansion.expand.Goals as goal

pub returns-in-Err-clause-gives : goal.returns-in-Err-clause-gives
returns-in-Err-clause-gives c = first_ends _ _ _ _ _ _ _ c.new-calls.ensures.items c.in-Err.ensures.turns

pub loop-inner-init : goal.loop-inner-init
loop-inner-init c = record {
  goes_on = first_goes _ _ _ _ _ _ _ c.new-calls.ensures.items c.in_default.ensures.turns;
  still = c.in_default.ensures.still ∙ first_behind _ _ c.new-calls.ensures.items;
}
