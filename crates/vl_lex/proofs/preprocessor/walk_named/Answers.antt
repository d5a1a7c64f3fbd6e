use Rattle.std.proofs.Common.{◌-◌}
use Rattle.vl_lex.specs.Walk.{state_view, walked_sources}
use Rattle.vl_lex.specs.declared.gate.Halt.TheVariants as h
use Rattle.vl_lex.specs.Paused.{open_view, opens_view, walked_open}
use Rattle.vl_lex.proofs.Resumes.{passes_asks, passes_done}
use Rattle.vl_lex.proofs.Starts.{file_ends, named_ends, named_asks, named_on, named_over}
use Rattle.vl_lex.proofs.preprocessor.walk_named.Goals as goal

pub returns-in-Err : goal.returns-in-Err
returns-in-Err c = file_ends _ _ _ _ (λ fs. walked_sources (c.args.named - c.args.next) fs c.args.next (state_view c.args.state.now)) c.loop-index-test.true c.loop-index.invariant (h.Stop c.in-Err.stop) c.in-Err.ensures.err

pub returns-in-Ok-Asks : goal.returns-in-Ok-Asks
returns-in-Ok-Asks c = (
  named_ends _ _ _ _ (λ fs. walked_sources (c.args.named - c.args.next) fs c.args.next (state_view c.args.state.now)) c.loop-index-test.true c.loop-index.invariant _ _ c.in-Ok.ensures.opens (h.Need c.in-Ok-Asks.name.now) (passes_asks _ _ _ _ (λ fs. walked_open fs (open_view c.in-Ok.open) (state_view c.open_file.new.state)) _ c.in-Ok-Asks.field-0-is c.in-Ok-Asks.ensures).0,
  named_asks _ _ _ _ (λ fs. walked_sources (c.args.named - c.args.next) fs c.args.next (state_view c.args.state.now)) c.loop-index-test.true c.loop-index.invariant _ _ c.in-Ok.ensures.opens (opens_view c.in-Ok-Asks.opens.items) (state_view c.walk_open.new.state) (passes_asks _ _ _ _ (λ fs. walked_open fs (open_view c.in-Ok.open) (state_view c.open_file.new.state)) _ c.in-Ok-Asks.field-0-is c.in-Ok-Asks.ensures).1,
)

pub returns-in-Err-walk_open : goal.returns-in-Err-walk_open
returns-in-Err-walk_open c = named_ends _ _ _ _ (λ fs. walked_sources (c.args.named - c.args.next) fs c.args.next (state_view c.args.state.now)) c.loop-index-test.true c.loop-index.invariant _ _ c.in-Ok.ensures.opens (h.Stop c.in-Err-walk_open.stop) c.in-Err-walk_open.ensures

pub loop-index-preserved : goal.loop-index-preserved
loop-index-preserved c more = named_on _ _ _ _ (λ fs. walked_sources (c.args.named - c.args.next) fs c.args.next (state_view c.args.state.now)) c.loop-index-test.true c.loop-index.invariant _ _ c.in-Ok.ensures.opens _ (passes_done _ _ (λ fs. walked_open fs (open_view c.in-Ok.open) (state_view c.open_file.new.state)) _ c.in-Ok-Done.field-0-is c.in-Ok-Done.ensures) more

pub returns : goal.returns
returns c = named_over _ _ _ _ (λ fs. walked_sources (c.args.named - c.args.next) fs c.args.next (state_view c.args.state.now)) c.loop-index-test.false c.loop-index.invariant
