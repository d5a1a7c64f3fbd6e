use Rattle.std.proofs.Common.{[], ◌∷◌, ◌++◌, map, ap, sym, ◌∙◌, Bor, Vec, Global}
use Rattle.std.proofs.lemmas.List.{append-nil}
use Rattle.design_core.specs.declared.tree.DArm.{DArm, out-DArm}
use Rattle.design_core.specs.declared.tree.DStmt.{DStmt}
use Rattle.tree_parts.specs.Parts.{rest_of, seen}
use Rattle.tree_parts.proofs.StatementLaws.{children_block, children_turns, children_write, children_if, children_case}
use Rattle.tree_parts.proofs.PushLaws.{passed, pushed}
use Rattle.tree_parts.proofs.statements.children.Goals as goal
use Rattle.tree_parts.proofs.statements.children.Goals.{in-Block+in_ok-push_parts-in-Block, in-Turns+in_ok-push_parts-in-Turns, in-Write, in-If+in_ok-push-in-If+in_ok-push-in-If-2, in-Case+in_ok-push_bodies-in-Case+in-Some+in_ok-push-in-Case, in-Case+in_ok-push_bodies-in-Case+in_default}

pub returns : goal.returns
returns c = let none = ap seen c.new-all.ensures.items in elim c.match-body.branch [
  | in-Block+in_ok-push_parts-in-Block w ↦ ap (λ (v : Vec (Bor DStmt) Global). seen v.items) w.all-is ∙ passed c.new-all.result.items w.push_parts.new.all.items [] w.as_slice.result.now w.in-Block.parts none w.in_ok-push_parts-in-Block.ensures w.as_slice.ensures ∙ sym (children_block c.args.body.now w.in-Block.parts w.in-Block.is)
  | in-Turns+in_ok-push_parts-in-Turns w ↦ ap (λ (v : Vec (Bor DStmt) Global). seen v.items) w.all-is ∙ passed c.new-all.result.items w.push_parts-in-Turns.new.all.items [] w.as_slice-in-Turns.result.now w.in-Turns.parts none w.in_ok-push_parts-in-Turns.ensures w.as_slice-in-Turns.ensures ∙ sym (children_turns c.args.body.now w.in-Turns.parts w.in-Turns.is)
  | in-Write w ↦ ap (λ (v : Vec (Bor DStmt) Global). seen v.items) w.all-is ∙ none ∙ sym (children_write c.args.body.now _ _ _ w.in-Write.is)
  | in-If+in_ok-push-in-If+in_ok-push-in-If-2 w ↦ ap (λ (v : Vec (Bor DStmt) Global). seen v.items) w.all-is ∙ pushed w.push.new.self.items w.push-in-If.new.self.items _ (w.in-If.yes ∷ []) w.in-If.no (pushed c.new-all.result.items w.push.new.self.items _ [] w.in-If.yes none w.in_ok-push-in-If.ensures.items w.get.ensures) w.in_ok-push-in-If-2.ensures.items w.get-in-If.ensures ∙ sym (children_if c.args.body.now _ w.in-If.yes w.in-If.no w.in-If.is)
  | in-Case+in_ok-push_bodies-in-Case+in-Some+in_ok-push-in-Case w ↦ ap (λ (v : Vec (Bor DStmt) Global). seen v.items) w.all-is ∙ pushed w.push_bodies.new.all.items w.push-in-Some.new.self.items _ (map (λ (a : DArm). (out-DArm a).body) w.in-Case.arms) w.in-Some.rest (passed c.new-all.result.items w.push_bodies.new.all.items [] (map (λ (a : DArm). (out-DArm a).body) w.as_slice-in-Case.result.now) (map (λ (a : DArm). (out-DArm a).body) w.in-Case.arms) none w.in_ok-push_bodies-in-Case.ensures (ap (map (λ (a : DArm). (out-DArm a).body)) w.as_slice-in-Case.ensures)) w.in_ok-push-in-Case.ensures.items w.get-in-Some.ensures ∙ sym (children_case c.args.body.now _ w.in-Case.arms w.in-Case.rest w.in-Case.is ∙ ap (λ r. map (λ (a : DArm). (out-DArm a).body) w.in-Case.arms ++ rest_of r) w.in-Some.is)
  | in-Case+in_ok-push_bodies-in-Case+in_default w ↦ ap (λ (v : Vec (Bor DStmt) Global). seen v.items) w.all-is ∙ passed c.new-all.result.items w.push_bodies.new.all.items [] (map (λ (a : DArm). (out-DArm a).body) w.as_slice-in-Case.result.now) (map (λ (a : DArm). (out-DArm a).body) w.in-Case.arms) none w.in_ok-push_bodies-in-Case.ensures (ap (map (λ (a : DArm). (out-DArm a).body)) w.as_slice-in-Case.ensures) ∙ sym (append-nil (map (λ (a : DArm). (out-DArm a).body) w.in-Case.arms)) ∙ sym (children_case c.args.body.now _ w.in-Case.arms w.in-Case.rest w.in-Case.is ∙ ap (λ r. map (λ (a : DArm). (out-DArm a).body) w.in-Case.arms ++ rest_of r) w.in_default.is)
]
