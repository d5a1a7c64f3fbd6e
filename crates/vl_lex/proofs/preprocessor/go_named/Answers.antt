use Rattle.std.proofs.Common.{◌∙◌, sym}
use Rattle.vl_lex.specs.declared.gate.Halt.TheVariants as h
use Rattle.vl_lex.specs.Sources.{files_of}
use Rattle.vl_lex.specs.Walk.{finished, kept, state_view}
use Rattle.vl_lex.proofs.Gives.{ends_as}
use Rattle.vl_lex.proofs.Starts.{named_is_asked, named_is_done, rest_ends, rest_left, rest_done, ends_so}
use Rattle.vl_lex.proofs.preprocessor.go_named.Goals as goal

pub returns-in-Err-clause-answer : goal.returns-in-Err-clause-answer
returns-in-Err-clause-answer c = ends_so c.in-Err.stop _ (rest_ends _ _ c.as_slice.ensures _ _ _ _ c.requires.goes_on (h.Stop c.in-Err.stop) c.in-Err.ensures)

pub returns-in-Ok-finish-clause-answer : goal.returns-in-Ok-finish-clause-answer
returns-in-Ok-finish-clause-answer c = rest_done _ _ c.as_slice.ensures _ _ _ _ c.requires.goes_on (state_view c.walk_named.new.state) (named_is_done c.in-Ok.pair.0 c.in-Ok.pair.1 (files_of c.as_slice.result.now) c.args.named c.args.next (state_view c.args.state) (state_view c.walk_named.new.state) c.in-Done.is c.in-Ok.ensures) ∙ c.in-Ok-finish.ensures

pub returns-in-Done-clause-answer : goal.returns-in-Done-clause-answer
returns-in-Done-clause-answer c =
    ends_so c.in-Err-finish.stop _
    (ends_as (h.Stop c.in-Err-finish.stop) (finished (state_view c.walk_named.new.state)) (kept (files_of c.args.sources) c.args.named c.args.defines.now) (sym (rest_done _ _ c.as_slice.ensures _ _ _ _ c.requires.goes_on (state_view c.walk_named.new.state) (named_is_done c.in-Ok.pair.0 c.in-Ok.pair.1 (files_of c.as_slice.result.now) c.args.named c.args.next (state_view c.args.state) (state_view c.walk_named.new.state) c.in-Done.is c.in-Ok.ensures))) c.in-Err-finish.ensures)

pub invariant_of-result : goal.invariant_of-result
invariant_of-result c = record {
  within = c.requires.within;
  small = c.requires.small;
  asks = rest_ends _ _ c.as_slice.ensures _ _ _ _ c.requires.goes_on (h.Need c.in-Asks.name.now) (named_is_asked c.in-Ok.pair.0 c.in-Asks.name c.in-Asks.opens c.in-Ok.pair.1 (files_of c.as_slice.result.now) c.args.named c.args.next (state_view c.args.state) (state_view c.walk_named.new.state) c.in-Asks.is c.in-Ok.ensures).0;
  goes_on = rest_left _ _ c.as_slice.ensures _ _ _ _ c.requires.goes_on _ _ _ (named_is_asked c.in-Ok.pair.0 c.in-Asks.name c.in-Asks.opens c.in-Ok.pair.1 (files_of c.as_slice.result.now) c.args.named c.args.next (state_view c.args.state) (state_view c.walk_named.new.state) c.in-Asks.is c.in-Ok.ensures).1;
}
