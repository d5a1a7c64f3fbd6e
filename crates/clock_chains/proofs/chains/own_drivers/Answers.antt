use Rattle.std.proofs.Common.{◌∙◌, ap, sym, ◌++◌, ◌∷◌, [], List, ℕ, Option, Some, arith}
use Rattle.std.proofs.lemmas.List.FromFn.{map-range_with_len_more}
use Rattle.clock_chains.proofs.chains.own_drivers.Goals as goal

pub loop-at-preserved : goal.loop-at-preserved
loop-at-preserved c =
    c.in_ok-push.ensures.items ∙ ap (λ (x : List (Option ℕ)). x ++ Some c.loop-at.at ∷ []) c.loop-at.invariant ∙ sym (map-range_with_len_more Some 0 c.loop-at.at c.loop-at.at (omega arith))
