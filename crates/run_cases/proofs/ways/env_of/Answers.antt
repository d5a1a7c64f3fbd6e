use Rattle.std.proofs.Common.{sym, subst, ◌∙◌, ◌≤◌, All, List, Bool, [], false, length, map}
use Rattle.run_cases.proofs.RunLaws.{is_env, short_at, runnable}
use Rattle.stmt_exec.specs.Runs.{IsRunnable}
use Rattle.run_cases.proofs.ways.env_of.Goals as goal

pub exec-requires-clause-values : goal.exec-requires-clause-values
exec-requires-clause-values c = is_env _ _ _ _ (λ x. tt) (subst (λ (rows : List (List Bool)). All (λ n. n ≤ 65536) (map length rows)) (sym c.in_ok-env.ensures.now) (short_at _ c.requires.short)) (c.in_ok-env.ensures.next ∙ sym c.in_ok-env.ensures.now)

pub exec-requires-clause-formed : goal.exec-requires-clause-formed
exec-requires-clause-formed c = subst (λ (rows : List (List Bool)). IsRunnable (map length rows) [] false c.args.s.now) (sym c.in_ok-env.ensures.now) (runnable _ _ c.requires.body)
