use Rattle.std.proofs.Common.{◌∷◌, ◌∙◌, ap, sym}
use Rattle.design_names.proofs.ReadLaws.{signed, plain_sign, other_head, index_some, no_text}
use Rattle.design_names.proofs.brackets.index_of.Goals as goal

pub returns-then-first-eq45 : goal.returns-then-first-eq45
returns-then-first-eq45 c =
    let e = (c.in-Some.ensures {u = tt}).cases.0 in
    signed c.args.text.now c.in-Some.rest.now c.number_of.result c.below_zero.result (e ∙ ap (λ b. b ∷ c.in-Some.rest.now) c.if-first-eq45.true) c.number_of.ensures c.below_zero.ensures

pub returns-else-first-eq45 : goal.returns-else-first-eq45
returns-else-first-eq45 c =
    let e = (c.in-Some.ensures {u = tt}).cases.0 in
    plain_sign c.args.text.now c.number_of-else-first-eq45.result c.from_zero.result (other_head c.args.text.now c.in-Some.rest.now c.in-Some.first.now e c.if-first-eq45.false) c.number_of-else-first-eq45.ensures c.from_zero.ensures

pub returns-in-None : goal.returns-in-None
returns-in-None c = λ z b is. index_some z (sym is ∙ no_text c.args.text.now (c.in-None.ensures {u = tt}).cases)
