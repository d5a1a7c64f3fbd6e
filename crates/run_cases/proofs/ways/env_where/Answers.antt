use Rattle.std.proofs.Common.{sym, subst, ◌∙◌, ◌≤◌, All, List, Bool, [], false, length, map}
use Rattle.run_cases.proofs.RunLaws.{is_env, short_at, runnable}
use Rattle.stmt_exec.specs.Runs.{IsRunnable}
use Rattle.run_cases.proofs.ways.env_where.Goals as goal

pub exec_where-requires-clause-values : goal.exec_where-requires-clause-values
exec_where-requires-clause-values c = is_env _ _ _ _ (λ x. tt) (subst (λ (rows : List (List Bool)). All (λ n. n ≤ 65536) (map length rows)) (sym (c.as_mut_slice-now.ensures.value ∙ c.in_ok-env.ensures.now)) (short_at _ c.requires.short)) (c.as_mut_slice-next.ensures.value ∙ c.in_ok-env.ensures.next ∙ sym (c.as_mut_slice-now.ensures.value ∙ c.in_ok-env.ensures.now))

pub exec_where-requires-clause-formed : goal.exec_where-requires-clause-formed
exec_where-requires-clause-formed c = subst (λ (rows : List (List Bool)). IsRunnable (map length rows) [] false c.args.s.now) (sym (c.as_mut_slice-now.ensures.value ∙ c.in_ok-env.ensures.now)) (runnable _ _ c.requires.body)
