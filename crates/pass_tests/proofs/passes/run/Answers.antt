use Rattle.std.proofs.Common.{◌≡◌, ◌≤◌, ◌∙◌, ◌∷◌, ℕ, [], List, Bool, length, map, All, sym, ap, subst, ap₂, arith}
use Rattle.std.proofs.lemmas.List.Elements.{All-nil, All-cons}
use Rattle.design_core.specs.declared.items.Item.{Item}
use Rattle.design_core.specs.Cells.{IsOrdered}
use Rattle.design_core.specs.Numbers.{chosen_cells}
use Rattle.stmt_exec.specs.State.{assignment}
use Rattle.item_exec.specs.Passes.{CanRun, cell_in}
use Rattle.pass_tests.specs.Design.{lengths, items}
use Rattle.pass_tests.proofs.Formed.{can_run}
use Rattle.pass_tests.proofs.Apart.{ordered}
use Rattle.pass_tests.proofs.passes.run.Goals as goal

few : All (λ (n : ℕ). n ≤ 65536) lengths
few = All-cons (λ n. n ≤ 65536) 1 (1 ∷ 1 ∷ 1 ∷ []) (omega arith) (All-cons (λ n. n ≤ 65536) 1 (1 ∷ 1 ∷ []) (omega arith) (All-cons (λ n. n ≤ 65536) 1 (1 ∷ []) (omega arith) (All-cons (λ n. n ≤ 65536) 1 [] (omega arith) (All-nil (λ n. n ≤ 65536)))))

can_run_at : (vs : List ℕ) (list : List Item) → vs ≡ lengths → list ≡ items → All (CanRun vs list) (1 ∷ 0 ∷ [])
can_run_at vs list e f = subst (λ ws. All (CanRun ws list) (1 ∷ 0 ∷ [])) (sym e) (subst (λ xs. All (CanRun lengths xs) (1 ∷ 0 ∷ [])) (sym f) can_run)

ordered_at : (vs : List ℕ) (list : List Item) → vs ≡ lengths → list ≡ items → IsOrdered (chosen_cells (map (cell_in vs) list) (1 ∷ 0 ∷ []))
ordered_at vs list e f = subst (λ ws. IsOrdered (chosen_cells (map (cell_in ws) list) (1 ∷ 0 ∷ []))) (sym e) (subst (λ xs. IsOrdered (chosen_cells (map (cell_in lengths) xs) (1 ∷ 0 ∷ []))) (sym f) ordered)

pub settle_items-requires-clause-env : goal.settle_items-requires-clause-env
settle_items-requires-clause-env c = record {
  now_are = λ k d l. tt;
  next_are = λ k d l. tt;
  most = subst (All (λ n. n ≤ 65536)) (sym c.requires.wide) few;
  alike = ap (map length) c.requires.same;
}

pub settle_items-requires-clause-fit : goal.settle_items-requires-clause-fit
settle_items-requires-clause-fit c = can_run_at _ _ c.requires.wide c.requires.items

pub settle_items-requires-clause-ordered : goal.settle_items-requires-clause-ordered
settle_items-requires-clause-ordered c = ordered_at _ _ c.requires.wide c.requires.items

pub settle_items-requires-clause-ready : goal.settle_items-requires-clause-ready
settle_items-requires-clause-ready c v cell there b clocked drives = ap (λ (xs : List (List Bool)). assignment (map (λ (x : List Bool). x) xs) b) (sym c.requires.same)

pub store_items-requires-clause-fit : goal.store_items-requires-clause-fit
store_items-requires-clause-fit c = can_run_at _ _ (c.settle_items.ensures.wide ∙ c.requires.wide) c.requires.items

pub store_items-requires-clause-ordered : goal.store_items-requires-clause-ordered
store_items-requires-clause-ordered c = ordered_at _ _ (c.settle_items.ensures.wide ∙ c.requires.wide) c.requires.items
