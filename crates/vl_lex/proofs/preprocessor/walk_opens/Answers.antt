use Rattle.std.proofs.Common.{◌++◌, ap, sym, ◌∙◌}
use Rattle.vl_lex.specs.Walk.{state_view}
use Rattle.vl_lex.specs.Sources.{files_of}
use Rattle.vl_lex.specs.Paused.{open_view, opens_view, resumed, walked_open}
use Rattle.vl_lex.specs.declared.gate.Halt.TheVariants as h
use Rattle.vl_lex.proofs.Resumes.{passes_asks, passes_done, opens_split, last_done, last_left, last_ends, both_opens}
use Rattle.vl_lex.proofs.preprocessor.walk_opens.Goals as goal

pub loop-open-preserved : goal.loop-open-preserved
loop-open-preserved c more = last_done (files_of c.args.files.now) (opens_view c.pop.new.self.items) (open_view c.in-Some.open) (state_view c.loop-open.state) (λ fs. resumed fs (opens_view c.args.opens.items) (state_view c.args.state.now)) (λ more. ap (λ z. resumed (files_of c.args.files.now ++ more) z (state_view c.loop-open.state)) (sym (opens_split c.loop-open.opens.items c.pop.new.self.items c.in-Some.open c.in-Some.ensures.items)) ∙ c.loop-open.invariant more) (state_view c.walk_open.new.state) (passes_done _ (files_of c.args.files.now) (λ fs. walked_open fs (open_view c.in-Some.open) (state_view c.loop-open.state)) (state_view c.walk_open.new.state) c.in-Ok-Done.field-0-is c.in-Ok-Done.ensures) more

pub returns-in-Ok-Asks : goal.returns-in-Ok-Asks
returns-in-Ok-Asks c = (
  last_ends (files_of c.args.files.now) (opens_view c.pop.new.self.items) (open_view c.in-Some.open) (state_view c.loop-open.state) (λ fs. resumed fs (opens_view c.args.opens.items) (state_view c.args.state.now)) (λ more. ap (λ z. resumed (files_of c.args.files.now ++ more) z (state_view c.loop-open.state)) (sym (opens_split c.loop-open.opens.items c.pop.new.self.items c.in-Some.open c.in-Some.ensures.items)) ∙ c.loop-open.invariant more) (h.Need c.in-Ok-Asks.name.now) (passes_asks _ _ _ (files_of c.args.files.now) (λ fs. walked_open fs (open_view c.in-Some.open) (state_view c.loop-open.state)) (state_view c.walk_open.new.state) c.in-Ok-Asks.field-0-is c.in-Ok-Asks.ensures).0,
  λ more. last_left (files_of c.args.files.now) (opens_view c.pop.new.self.items) (open_view c.in-Some.open) (state_view c.loop-open.state) (λ fs. resumed fs (opens_view c.args.opens.items) (state_view c.args.state.now)) (λ more. ap (λ z. resumed (files_of c.args.files.now ++ more) z (state_view c.loop-open.state)) (sym (opens_split c.loop-open.opens.items c.pop.new.self.items c.in-Some.open c.in-Some.ensures.items)) ∙ c.loop-open.invariant more) (opens_view c.in-Ok-Asks.inner.items) (state_view c.walk_open.new.state) (passes_asks _ _ _ (files_of c.args.files.now) (λ fs. walked_open fs (open_view c.in-Some.open) (state_view c.loop-open.state)) (state_view c.walk_open.new.state) c.in-Ok-Asks.field-0-is c.in-Ok-Asks.ensures).1 more
      ∙ ap (λ z. resumed (files_of c.args.files.now ++ more) z (state_view c.walk_open.new.state)) (sym (both_opens c.in_ok-inside-in-Ok-Asks.field-0.items c.pop.new.self.items c.in-Ok-Asks.inner.items c.in_ok-inside-in-Ok-Asks.ensures)),
)

pub returns-in-Err : goal.returns-in-Err
returns-in-Err c = last_ends (files_of c.args.files.now) (opens_view c.pop.new.self.items) (open_view c.in-Some.open) (state_view c.loop-open.state) (λ fs. resumed fs (opens_view c.args.opens.items) (state_view c.args.state.now)) (λ more. ap (λ z. resumed (files_of c.args.files.now ++ more) z (state_view c.loop-open.state)) (sym (opens_split c.loop-open.opens.items c.pop.new.self.items c.in-Some.open c.in-Some.ensures.items)) ∙ c.loop-open.invariant more) (h.Stop c.in-Err.stop) c.in-Err.ensures
