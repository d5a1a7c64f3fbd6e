use Rattle.std.proofs.Common.{◌∙◌}
use Rattle.std.proofs.lemmas.Result.{on_ok_weaker}
use Rattle.stmt_exec.proofs.ExecLaws as x
use Rattle.stmt_exec.proofs.environment.exec.Goals as goal

pub returns-clause-done : goal.returns-clause-done
returns-clause-done g c =
    on_ok_weaker c.exec_in.result (λ done v. x.env_ran g.D.Domain.meaning c.args.domain.now c.exec_in.new.domain c.as_slice.result.now c.args.env.now.now.items c.args.env.now.next.items c.as_mut_slice.result.now c.as_mut_slice-2.result.now
    c.exec_in.new.now c.exec_in.new.next _ _ c.args.env.now.now.len c.args.env.now.next.len c.args.body.now (c.as_slice.ensures.value ∙ c.new-none.ensures.items) c.as_mut_slice.ensures.value c.as_mut_slice-2.ensures.value c.requires.values.alike
    c.as_mut_slice.ensures.len c.as_mut_slice-2.ensures.len c.exec_in.ensures.like done v) c.exec_in.ensures.done
