use Rattle.std.proofs.Common.{[], ◌∷◌, ap, sym, ◌∙◌, Bor, Vec, Global}
use Rattle.design_core.specs.declared.tree.DExpr.{DExpr}
use Rattle.tree_parts.specs.Parts.{seen}
use Rattle.tree_parts.proofs.OperandLaws.{operands_constant, operands_signal, operands_local, operands_select, operands_select_at, operands_unary, operands_extend, operands_binary, operands_mux, operands_concat, operands_repeat, operands_call}
use Rattle.tree_parts.proofs.PushLaws.{answered_none, answered_some, passed, pushed}
use Rattle.tree_parts.proofs.expressions.operands.Goals as goal
use Rattle.tree_parts.proofs.expressions.operands.Goals.{in-Const, in-Signal, in-Local, in-Select+then-is_none+in_ok-push-in-Select, in-Select+else-is_none, in-SelectAt+in_ok-push-in-SelectAt+in_ok-push-in-SelectAt-2, in-Unary+in_ok-push-in-Unary, in-Extend+in_ok-push-in-Extend, in-Binary+in_ok-push-in-Binary+in_ok-push-in-Binary-2, in-Mux+in_ok-push-in-Mux+in_ok-push-in-Mux-2+in_ok-push-in-Mux-3, in-Concat+in_ok-push_all-in-Concat, in-Repeat+in_ok-push-in-Repeat, in-Call+in_ok-push_all-in-Call}

pub returns : goal.returns
returns c = let none = ap seen c.new-all.ensures.items in elim c.match-e.branch [
  | in-Const w ↦ ap (λ (v : Vec (Bor DExpr) Global). seen v.items) w.all-is ∙ none ∙ sym (operands_constant c.args.e.now _ w.in-Const.is)
  | in-Signal w ↦ ap (λ (v : Vec (Bor DExpr) Global). seen v.items) w.all-is ∙ none ∙ sym (operands_signal c.args.e.now _ w.in-Signal.is)
  | in-Local w ↦ ap (λ (v : Vec (Bor DExpr) Global). seen v.items) w.all-is ∙ none ∙ sym (operands_local c.args.e.now _ w.in-Local.is)
  | in-Select+then-is_none+in_ok-push-in-Select w ↦ ap (λ (v : Vec (Bor DExpr) Global). seen v.items) w.all-is ∙ pushed c.new-all.result.items w.push.new.self.items _ [] w.in-Select.base none w.in_ok-push-in-Select.ensures.items w.get-then-is_none.ensures ∙ sym (operands_select c.args.e.now w.in-Select.base _ w.in-Select.is (answered_none w.signal_of.result w.is_none.result w.get.result.now w.in-Select.base w.signal_of.ensures w.is_none.ensures w.if-is_none.true w.get.ensures))
  | in-Select+else-is_none w ↦ ap (λ (v : Vec (Bor DExpr) Global). seen v.items) w.all-is ∙ none ∙ sym (answered_some c.args.e.now w.in-Select.base _ w.signal_of.result w.is_none.result w.get.result.now w.in-Select.is w.signal_of.ensures w.is_none.ensures w.if-is_none.false w.get.ensures)
  | in-SelectAt+in_ok-push-in-SelectAt+in_ok-push-in-SelectAt-2 w ↦ ap (λ (v : Vec (Bor DExpr) Global). seen v.items) w.all-is ∙ pushed w.push-in-SelectAt.new.self.items w.push-in-SelectAt-2.new.self.items _ (w.in-SelectAt.base ∷ []) w.in-SelectAt.index (pushed c.new-all.result.items w.push-in-SelectAt.new.self.items _ [] w.in-SelectAt.base none w.in_ok-push-in-SelectAt.ensures.items w.get-in-SelectAt.ensures) w.in_ok-push-in-SelectAt-2.ensures.items w.get-in-SelectAt-2.ensures ∙ sym (operands_select_at c.args.e.now w.in-SelectAt.base w.in-SelectAt.index _ _ w.in-SelectAt.is)
  | in-Unary+in_ok-push-in-Unary w ↦ ap (λ (v : Vec (Bor DExpr) Global). seen v.items) w.all-is ∙ pushed c.new-all.result.items w.push-in-Unary.new.self.items _ [] w.in-Unary.a none w.in_ok-push-in-Unary.ensures.items w.get-in-Unary.ensures ∙ sym (operands_unary c.args.e.now _ w.in-Unary.a w.in-Unary.is)
  | in-Extend+in_ok-push-in-Extend w ↦ ap (λ (v : Vec (Bor DExpr) Global). seen v.items) w.all-is ∙ pushed c.new-all.result.items w.push-in-Extend.new.self.items _ [] w.in-Extend.a none w.in_ok-push-in-Extend.ensures.items w.get-in-Extend.ensures ∙ sym (operands_extend c.args.e.now w.in-Extend.a _ w.in-Extend.is)
  | in-Binary+in_ok-push-in-Binary+in_ok-push-in-Binary-2 w ↦ ap (λ (v : Vec (Bor DExpr) Global). seen v.items) w.all-is ∙ pushed w.push-in-Binary.new.self.items w.push-in-Binary-2.new.self.items _ (w.in-Binary.a ∷ []) w.in-Binary.b (pushed c.new-all.result.items w.push-in-Binary.new.self.items _ [] w.in-Binary.a none w.in_ok-push-in-Binary.ensures.items w.get-in-Binary.ensures) w.in_ok-push-in-Binary-2.ensures.items w.get-in-Binary-2.ensures ∙ sym (operands_binary c.args.e.now _ w.in-Binary.a w.in-Binary.b w.in-Binary.is)
  | in-Mux+in_ok-push-in-Mux+in_ok-push-in-Mux-2+in_ok-push-in-Mux-3 w ↦ ap (λ (v : Vec (Bor DExpr) Global). seen v.items) w.all-is ∙ pushed w.push-in-Mux-2.new.self.items w.push-in-Mux-3.new.self.items _ (w.in-Mux.c ∷ w.in-Mux.a ∷ []) w.in-Mux.b (pushed w.push-in-Mux.new.self.items w.push-in-Mux-2.new.self.items _ (w.in-Mux.c ∷ []) w.in-Mux.a (pushed c.new-all.result.items w.push-in-Mux.new.self.items _ [] w.in-Mux.c none w.in_ok-push-in-Mux.ensures.items w.get-in-Mux.ensures) w.in_ok-push-in-Mux-2.ensures.items w.get-in-Mux-2.ensures) w.in_ok-push-in-Mux-3.ensures.items w.get-in-Mux-3.ensures ∙ sym (operands_mux c.args.e.now w.in-Mux.c w.in-Mux.a w.in-Mux.b w.in-Mux.is)
  | in-Concat+in_ok-push_all-in-Concat w ↦ ap (λ (v : Vec (Bor DExpr) Global). seen v.items) w.all-is ∙ passed c.new-all.result.items w.push_all.new.all.items [] w.as_slice.result.now w.in-Concat.parts none w.in_ok-push_all-in-Concat.ensures w.as_slice.ensures ∙ sym (operands_concat c.args.e.now w.in-Concat.parts w.in-Concat.is)
  | in-Repeat+in_ok-push-in-Repeat w ↦ ap (λ (v : Vec (Bor DExpr) Global). seen v.items) w.all-is ∙ pushed c.new-all.result.items w.push-in-Repeat.new.self.items _ [] w.in-Repeat.part none w.in_ok-push-in-Repeat.ensures.items w.get-in-Repeat.ensures ∙ sym (operands_repeat c.args.e.now _ w.in-Repeat.part w.in-Repeat.is)
  | in-Call+in_ok-push_all-in-Call w ↦ ap (λ (v : Vec (Bor DExpr) Global). seen v.items) w.all-is ∙ passed c.new-all.result.items w.push_all-in-Call.new.all.items [] w.as_slice-in-Call.result.now w.in-Call.arguments none w.in_ok-push_all-in-Call.ensures w.as_slice-in-Call.ensures ∙ sym (operands_call c.args.e.now _ w.in-Call.arguments w.in-Call.is)
]
