use Rattle.vl_lex.specs.declared.gate.Halt.TheVariants as h
use Rattle.vl_lex.specs.Walk.{state_view}
use Rattle.vl_lex.specs.Paused.{opens_view, resumed}
use Rattle.vl_lex.proofs.Resumes.{passes_asks, passes_done}
use Rattle.vl_lex.proofs.Starts.{opens_end, opens_left, opens_done, ends_so}
use Rattle.vl_lex.proofs.preprocessor.go.Goals as goal

pub invariant_of-result : goal.invariant_of-result
invariant_of-result c = record {
  within = c.requires.within;
  small = c.requires.small;
  asks = opens_end _ _ c.as_slice.ensures _ _ _ _ _ c.requires.goes_on (h.Need c.in-Ok-Asks.name.now) (passes_asks _ _ _ _ (λ fs. resumed fs (opens_view c.args.opens.items) (state_view c.args.state)) _ c.in-Ok-Asks.field-0-is c.in-Ok-Asks.ensures).0;
  goes_on = opens_left _ _ c.as_slice.ensures _ _ _ _ _ c.requires.goes_on _ _ (passes_asks _ _ _ _ (λ fs. resumed fs (opens_view c.args.opens.items) (state_view c.args.state)) _ c.in-Ok-Asks.field-0-is c.in-Ok-Asks.ensures).1;
}

pub returns-clause-answer : goal.returns-clause-answer
returns-clause-answer c = ends_so c.in-Err.stop _ (opens_end _ _ c.as_slice.ensures _ _ _ _ _ c.requires.goes_on (h.Stop c.in-Err.stop) c.in-Err.ensures)

pub go_named-requires-clause-goes_on : goal.go_named-requires-clause-goes_on
go_named-requires-clause-goes_on c = opens_done _ _ c.as_slice.ensures _ _ _ _ _ c.requires.goes_on _ (passes_done _ _ (λ fs. resumed fs (opens_view c.args.opens.items) (state_view c.args.state)) _ c.in-Ok-Done.field-0-is c.in-Ok-Done.ensures)
