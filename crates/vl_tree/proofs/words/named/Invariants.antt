use Rattle.std.proofs.Common.{◌≡◌, map, drop}
use Rattle.vl_tree.specs.Words.{named}
use Rattle.vl_tree.proofs.words.named.Given as goal

abbrev pub invariant-loop-entry : goal.invariant-loop-entry
invariant-loop-entry l = named (map (λ e. (e.0.now, e.1)) (drop l.entry-index l.table)) l.text ≡ named (map (λ e. (e.0.now, e.1)) l.table) l.text
