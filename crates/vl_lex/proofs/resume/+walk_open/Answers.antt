use Rattle.std.proofs.Common.{◌+◌, ◌<◌, ◌++◌, length, drop, ap, refl, sym, ◌∙◌, arith}
use Rattle.vl_lex.specs.Walk.{state_view, ended}
use Rattle.vl_lex.specs.Sources.{files_of}
use Rattle.vl_lex.specs.Paused.{open_view, opens_view, walked_open, resumed}
use Rattle.vl_lex.specs.declared.gate.Halt.TheVariants as h
use Rattle.vl_lex.proofs.Gives.{ends_as}
use Rattle.vl_lex.proofs.Needs.{step_stop, end_stop}
use Rattle.vl_lex.proofs.Resumes.{passes_asks, passes_done, below, one_open, at_end, ends_stop, files_length, stops_at, asks_at, here_left, enters_there, entered_ends, passes_on, inner_ends, inner_on, inner_left, open_over, open_halts}
use Rattle.vl_lex.proofs.resume.+walk_open.Goals as goal

pub loop-at-init : goal.loop-at-init
unfolding walked_open
loop-at-init t c more = refl

pub returns-in-Some : goal.returns-in-Some
returns-in-Some t c = (
  asks_at _ _ _ _ _ _ _ _ _ _ (λ fs. walked_open fs (open_view c.args.outer) (state_view c.args.state.now)) (below _ _ _ c.len.ensures c.loop-at-test.true) (sym c.get-token.ensures) (c.rest_items-rest.ensures ∙ ap (drop (c.loop-at.at + 1)) c.as_slice-items.ensures) c.loop-at.invariant c.in-Some.name.now c.in-Some.ensures,
  λ more. here_left _ _ _ _ _ _ _ _ _ _ (λ fs. walked_open fs (open_view c.args.outer) (state_view c.args.state.now)) (below _ _ _ c.len.ensures c.loop-at-test.true) (sym c.get-token.ensures) (c.rest_items-rest.ensures ∙ ap (drop (c.loop-at.at + 1)) c.as_slice-items.ensures) c.loop-at.invariant more ∙ ap (λ z. resumed (files_of c.args.files.now ++ more) z (state_view c.loop-at.state)) (sym (one_open _ _ _ c.in_ok-around.ensures c.new.ensures.items)),
)

pub stop_of-requires : goal.stop_of-requires
stop_of-requires t c = step_stop _ _ _ _ _ _ _ c.in_default.ensures c.in-Err.ensures

pub returns-in-Err : goal.returns-in-Err
returns-in-Err t c = ends_stop _ _ _ c.stop_of.ensures (stops_at _ _ _ _ _ _ _ _ _ _ (λ fs. walked_open fs (open_view c.args.outer) (state_view c.args.state.now)) (below _ _ _ c.len.ensures c.loop-at-test.true) (sym c.get-token.ensures) (c.rest_items-rest.ensures ∙ ap (drop (c.loop-at.at + 1)) c.as_slice-items.ensures) c.loop-at.invariant c.in-Err.halt c.in-Err.ensures)

pub open_file-requires-clause-there : goal.open_file-requires-clause-there
open_file-requires-clause-there t c =
    let k : _ < length (files_of c.args.files.now) = enters_there _ _ _ _ _ _ _ _ _ _ (λ fs. walked_open fs (open_view c.args.outer) (state_view c.args.state.now)) (below _ _ _ c.len.ensures c.loop-at-test.true) (sym c.get-token.ensures) (c.rest_items-rest.ensures ∙ ap (drop (c.loop-at.at + 1)) c.as_slice-items.ensures) c.loop-at.invariant _ c.in-Ok.ensures _ (sym c.in-Some-reachable.ensures) in
    omega (arith, files_length c.args.files.now, k)

pub returns-in-Err-open_file : goal.returns-in-Err-open_file
returns-in-Err-open_file t c = entered_ends _ _ _ _ _ _ _ _ _ _ (λ fs. walked_open fs (open_view c.args.outer) (state_view c.args.state.now)) (below _ _ _ c.len.ensures c.loop-at-test.true) (sym c.get-token.ensures) (c.rest_items-rest.ensures ∙ ap (drop (c.loop-at.at + 1)) c.as_slice-items.ensures) c.loop-at.invariant _ c.in-Ok.ensures _ (h.Stop c.in-Err-open_file.stop) (sym c.in-Some-reachable.ensures) c.in-Err-open_file.ensures.err

pub returns-in-Err-walk_open : goal.returns-in-Err-walk_open
returns-in-Err-walk_open t c = inner_ends _ _ _ _ _ _ _ _ _ _ (λ fs. walked_open fs (open_view c.args.outer) (state_view c.args.state.now)) (below _ _ _ c.len.ensures c.loop-at-test.true) (sym c.get-token.ensures) (c.rest_items-rest.ensures ∙ ap (drop (c.loop-at.at + 1)) c.as_slice-items.ensures) c.loop-at.invariant _ c.in-Ok.ensures _ _ _ _ (sym c.in-Some-reachable.ensures) (c.past-at.ensures.place c.loop-at.tokens (ap length (sym c.as_slice-items.ensures))) c.in-Ok-open_file.ensures.opens (h.Stop c.in-Err-walk_open.stop) c.in-Err-walk_open.ensures

pub returns-in-Ok-Asks : goal.returns-in-Ok-Asks
returns-in-Ok-Asks t c = (
  inner_ends _ _ _ _ _ _ _ _ _ _ (λ fs. walked_open fs (open_view c.args.outer) (state_view c.args.state.now)) (below _ _ _ c.len.ensures c.loop-at-test.true) (sym c.get-token.ensures) (c.rest_items-rest.ensures ∙ ap (drop (c.loop-at.at + 1)) c.as_slice-items.ensures) c.loop-at.invariant _ c.in-Ok.ensures _ _ _ _ (sym c.in-Some-reachable.ensures) (c.past-at.ensures.place c.loop-at.tokens (ap length (sym c.as_slice-items.ensures))) c.in-Ok-open_file.ensures.opens (h.Need c.in-Ok-Asks.name.now) (passes_asks _ _ _ _ (λ fs. walked_open fs (open_view c.in-Ok-open_file.inner) (state_view c.open_file.new.state)) _ c.in-Ok-Asks.field-0-is c.in-Ok-Asks.ensures).0,
  λ more. inner_left _ _ _ _ _ _ _ _ _ _ (λ fs. walked_open fs (open_view c.args.outer) (state_view c.args.state.now)) (below _ _ _ c.len.ensures c.loop-at-test.true) (sym c.get-token.ensures) (c.rest_items-rest.ensures ∙ ap (drop (c.loop-at.at + 1)) c.as_slice-items.ensures) c.loop-at.invariant _ c.in-Ok.ensures _ _ _ _ (sym c.in-Some-reachable.ensures) (c.past-at.ensures.place c.loop-at.tokens (ap length (sym c.as_slice-items.ensures))) c.in-Ok-open_file.ensures.opens (opens_view c.in-Ok-Asks.opens.items) (state_view c.walk_open.new.state) (passes_asks _ _ _ _ (λ fs. walked_open fs (open_view c.in-Ok-open_file.inner) (state_view c.open_file.new.state)) _ c.in-Ok-Asks.field-0-is c.in-Ok-Asks.ensures).1 more
      ∙ ap (λ z. resumed (files_of c.args.files.now ++ more) (opens_view z) (state_view c.walk_open.new.state)) (sym c.in_ok-around-in-Ok-Asks.ensures),
)

pub loop-at-preserved-in-Ok-Done : goal.loop-at-preserved-in-Ok-Done
loop-at-preserved-in-Ok-Done t c more = inner_on _ _ _ _ _ _ _ _ _ _ (λ fs. walked_open fs (open_view c.args.outer) (state_view c.args.state.now)) (below _ _ _ c.len.ensures c.loop-at-test.true) (sym c.get-token.ensures) (c.rest_items-rest.ensures ∙ ap (drop (c.loop-at.at + 1)) c.as_slice-items.ensures) c.loop-at.invariant _ c.in-Ok.ensures _ _ _ _ (sym c.in-Some-reachable.ensures) (c.past-at.ensures.place c.loop-at.tokens (ap length (sym c.as_slice-items.ensures))) c.in-Ok-open_file.ensures.opens _ (passes_done _ _ (λ fs. walked_open fs (open_view c.in-Ok-open_file.inner) (state_view c.open_file.new.state)) _ c.in-Ok-Done.field-0-is c.in-Ok-Done.ensures) more

pub loop-at-preserved : goal.loop-at-preserved
loop-at-preserved t c more = passes_on _ _ _ _ _ _ _ _ _ _ (λ fs. walked_open fs (open_view c.args.outer) (state_view c.args.state.now)) (below _ _ _ c.len.ensures c.loop-at-test.true) (sym c.get-token.ensures) (c.rest_items-rest.ensures ∙ ap (drop (c.loop-at.at + 1)) c.as_slice-items.ensures) c.loop-at.invariant _ c.in-Ok.ensures _ (sym c.in_default-reachable.ensures) (c.past-at.ensures.place c.loop-at.tokens (ap length (sym c.as_slice-items.ensures))) more

pub returns-in-Ok-end_of_file : goal.returns-in-Ok-end_of_file
returns-in-Ok-end_of_file t c more =
    open_over _ _ _ _ _ _ _ _ (λ fs. walked_open fs (open_view c.args.outer) (state_view c.args.state.now)) (at_end _ _ _ c.len.ensures c.loop-at-test.false) c.loop-at.invariant (ap (ended _ _) (sym c.fault_at.ensures) ∙ c.in-Ok-end_of_file.ensures) more

pub stop_of-requires-in-Err-end_of_file : goal.stop_of-requires-in-Err-end_of_file
stop_of-requires-in-Err-end_of_file t c = end_stop _ _ _ _ _ _ c.fault_at.ensures c.in-Err-end_of_file.ensures

pub returns : goal.returns
returns t c =
    ends_stop _ _ _ c.stop_of-in-Err-end_of_file.ensures
    (open_halts _ _ _ _ _ _ _ (λ fs. walked_open fs (open_view c.args.outer) (state_view c.args.state.now)) c.in-Err-end_of_file.halt (at_end _ _ _ c.len.ensures c.loop-at-test.false) c.loop-at.invariant (ends_as _ _ _ (ap (ended _ _) c.fault_at.ensures) c.in-Err-end_of_file.ensures))
