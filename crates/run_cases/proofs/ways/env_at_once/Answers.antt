use Rattle.std.proofs.Common.{sym, subst, ◌∙◌, ◌≤◌, All, List, Bool, [], false, length, map}
use Rattle.design_core.specs.Formed.{IsFormed, IsFormedLeft}
use Rattle.run_cases.proofs.RunLaws.{is_env, short_at}
use Rattle.run_cases.proofs.ways.env_at_once.Goals as goal

pub write_at_once-requires-clause-values : goal.write_at_once-requires-clause-values
write_at_once-requires-clause-values c = is_env _ _ _ _ (λ x. tt) (subst (λ (rows : List (List Bool)). All (λ n. n ≤ 65536) (map length rows)) (sym (c.as_mut_slice-now.ensures.value ∙ c.in_ok-env.ensures.now)) (short_at _ c.requires.short)) (c.as_mut_slice-next.ensures.value ∙ c.in_ok-env.ensures.next ∙ sym (c.as_mut_slice-now.ensures.value ∙ c.in_ok-env.ensures.now))

pub write_at_once-requires-clause-formed_left : goal.write_at_once-requires-clause-formed_left
write_at_once-requires-clause-formed_left c = subst (λ (rows : List (List Bool)). IsFormedLeft (map length rows) [] false c.args.left.now) (sym (c.as_mut_slice-now.ensures.value ∙ c.in_ok-env.ensures.now)) c.requires.left

pub write_at_once-requires-clause-formed_right : goal.write_at_once-requires-clause-formed_right
write_at_once-requires-clause-formed_right c = subst (λ (rows : List (List Bool)). IsFormed (map length rows) [] c.args.right.now) (sym (c.as_mut_slice-now.ensures.value ∙ c.in_ok-env.ensures.now)) c.requires.right
