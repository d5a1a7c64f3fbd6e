use Rattle.std.proofs.Common.{[], ◌∷◌, ap, refl, sym, ◌∙◌, Bor, Vec, Global}
use Rattle.design_core.specs.declared.tree.DExpr.{DExpr}
use Rattle.tree_parts.specs.Parts.{items_of, seen}
use Rattle.tree_parts.proofs.StatementLaws.{heads_block, heads_turns, heads_write, heads_if, heads_case}
use Rattle.tree_parts.proofs.PushLaws.{passed, pushed}
use Rattle.tree_parts.proofs.statements.heads.Goals as goal
use Rattle.tree_parts.proofs.statements.heads.Goals.{in-Block, in-Turns, in-Write, in-If+in_ok-push-in-If, in-Case+in_ok-push-in-Case+in_ok-push_items-in-Case}

pub returns : goal.returns
returns c = let none = ap seen c.new-all.ensures.items in elim c.match-body.branch [
  | in-Block w ↦ ap (λ (v : Vec (Bor DExpr) Global). seen v.items) w.all-is ∙ none ∙ sym (heads_block c.args.body.now _ w.in-Block.is)
  | in-Turns w ↦ ap (λ (v : Vec (Bor DExpr) Global). seen v.items) w.all-is ∙ none ∙ sym (heads_turns c.args.body.now _ w.in-Turns.is)
  | in-Write w ↦ ap (λ (v : Vec (Bor DExpr) Global). seen v.items) w.all-is ∙ none ∙ sym (heads_write c.args.body.now _ _ _ w.in-Write.is)
  | in-If+in_ok-push-in-If w ↦ ap (λ (v : Vec (Bor DExpr) Global). seen v.items) w.all-is ∙ pushed c.new-all.result.items w.push.new.self.items _ [] w.in-If.test none w.in_ok-push-in-If.ensures.items refl ∙ sym (heads_if c.args.body.now w.in-If.test _ _ w.in-If.is)
  | in-Case+in_ok-push-in-Case+in_ok-push_items-in-Case w ↦ ap (λ (v : Vec (Bor DExpr) Global). seen v.items) w.all-is ∙ passed w.push-in-Case.new.self.items w.push_items.new.all.items (w.in-Case.selector ∷ []) (items_of w.as_slice.result.now) (items_of w.in-Case.arms) (pushed c.new-all.result.items w.push-in-Case.new.self.items _ [] w.in-Case.selector none w.in_ok-push-in-Case.ensures.items refl) w.in_ok-push_items-in-Case.ensures (ap items_of w.as_slice.ensures) ∙ sym (heads_case c.args.body.now w.in-Case.selector w.in-Case.arms _ w.in-Case.is)
]
