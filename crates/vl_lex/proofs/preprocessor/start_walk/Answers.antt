use Rattle.std.proofs.Common.{◌≤◌, ◌++◌, length, ap, sym, ◌∙◌, arith}
use Rattle.vl_lex.specs.Sources.{files_of}
use Rattle.vl_lex.specs.Walk.{named_sources, state_view}
use Rattle.vl_lex.specs.Paused.{opens_view, remaining}
use Rattle.vl_lex.proofs.Resumes.{files_length}
use Rattle.vl_lex.proofs.Starts.{starts, too_many}
use Rattle.vl_lex.proofs.preprocessor.start_walk.Goals as goal

pub returns-then-named-gt1024-clause-answer : goal.returns-then-named-gt1024-clause-answer
returns-then-named-gt1024-clause-answer c = too_many _ _ _ c.if-named-gt1024.true

pub go-requires-clause-goes_on : goal.go-requires-clause-goes_on
go-requires-clause-goes_on c more =
    let l : c.args.named ≤ length (files_of c.args.sources) = omega (arith, files_length c.args.sources, c.requires.within) in
    let m : c.args.named ≤ 1024 = omega (arith, c.if-named-gt1024.false) in
    starts (files_of c.args.sources) _ _ _ _ _ l m c.in_ok-predefine.ensures c.start_state-state.ensures
    (c.in_ok-source_names.ensures ∙ ap (λ z. named_sources (files_of z) c.args.named) c.as_slice.ensures) more
    ∙ ap (λ z. remaining (files_of c.args.sources ++ more) c.args.named (opens_view z) 0 (state_view c.predefine.new.state)) (sym c.new.ensures.items)
