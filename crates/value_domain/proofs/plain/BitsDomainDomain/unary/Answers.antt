use Rattle.std.proofs.Common.{ap, ◌∙◌, length}
use Rattle.std.proofs.lemmas.Result.{IfOk-weaker}
use Rattle.value_domain.proofs.LengthLaws.{length_unary}
use Rattle.value_domain.proofs.plain.BitsDomainDomain.unary.Goals as goal

pub returns-clause-made : goal.returns-clause-made
returns-clause-made c = IfOk-weaker c.unary_bits.result _ _ (λ r e. record {
  is_one = tt;
  wide = ap length e ∙ length_unary c.args.op c.args.a.now;
  reads_as = λ v. e;
}) c.unary_bits.ensures
