use Rattle.std.proofs.Common.{rules}
use Rattle.plain_form.specs.Names.{listed}
use Rattle.plain_form.specs.SeenTable.{seen_row}
use Rattle.plain_form.proofs.TableLaws as laws
use Rattle.plain_form.proofs.table.add_row.Goals as goal

pub returns-then-not-branch-clause-refused : goal.returns-then-not-branch-clause-refused
returns-then-not-branch-clause-refused c = λ _ next.
    laws.taken_before c.args.rows.now.items (listed c.args.taken.now) _ (seen_row c.in-Some.row) next (search rules) c.requires (search rules)

pub returns-clause-added : goal.returns-clause-added
returns-clause-added c = λ _ next.
    laws.taken_now c.args.rows.now.items (listed c.args.taken.now) _ (seen_row c.in-Some.row) next c.push.new.self.items c.in-Some.row (search rules) (search rules) c.requires (search rules)
    (c.in_ok-push.ensures {u = tt}).items
