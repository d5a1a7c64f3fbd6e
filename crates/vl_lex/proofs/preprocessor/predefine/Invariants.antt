use Rattle.std.proofs.Common.{◌≡◌, drop}
use Rattle.vl_lex.specs.Walk.{state_view, predefined}
use Rattle.vl_lex.proofs.preprocessor.predefine.Given as goal

abbrev pub invariant-loop-name : goal.invariant-loop-name
invariant-loop-name l = predefined (drop l.name-index l.defines) (state_view l.state) ≡ predefined l.defines (state_view l.initial.state)
