use Rattle.std.proofs.Common.{sym, subst, ap, ◌∙◌, map, arith}
use Rattle.design_names.specs.Alike.{IsFront, IsFirstAlike}
use Rattle.design_core.specs.Wellformed.{scopes_apart}
use Rattle.design_names.specs.Texts.{listed}
use Rattle.std.specs.declared.option.Option.TheVariants.{Some}
use Rattle.design_names.proofs.ScopeLaws.{some_scope, none_scope}
use Rattle.design_names.proofs.alike.first_scope_alike.Goals as goal

pub returns-then-end-scopes : goal.returns-then-end-scopes
returns-then-end-scopes c =
    subst (λ k. IsFirstAlike scopes_apart c.args.scopes.now (Some k)) (sym c.len-end.ensures)
    (some_scope c.args.scopes.now (listed c.in_ok-texts.texts)
    (subst (IsFront (listed c.in_ok-texts.texts)) (ap (map (λ t. t.now)) c.as_slice.ensures.value ∙ c.in_ok-all.ensures {u = tt}) (c.in_ok-texts.ensures {u = tt}))
    (omega (arith, c.if-end-scopes.true, c.len-end.ensures)))

pub returns : goal.returns
returns c =
    none_scope c.args.scopes.now (listed c.in_ok-texts.texts)
    (subst (IsFront (listed c.in_ok-texts.texts)) (ap (map (λ t. t.now)) c.as_slice.ensures.value ∙ c.in_ok-all.ensures {u = tt}) (c.in_ok-texts.ensures {u = tt}))
    (omega (arith, c.if-end-scopes.false, c.len-end.ensures))
