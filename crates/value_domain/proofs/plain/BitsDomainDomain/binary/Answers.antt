use Rattle.std.proofs.Common.{ap, ◌∙◌, length}
use Rattle.std.proofs.lemmas.Result.{IfOk-weaker}
use Rattle.value_domain.proofs.LengthLaws.{length_binary}
use Rattle.value_domain.proofs.plain.BitsDomainDomain.binary.Goals as goal

pub returns-clause-made : goal.returns-clause-made
returns-clause-made c = IfOk-weaker c.binary_bits.result _ _ (λ r e. record {
  is_one = tt;
  wide = ap length e ∙ length_binary c.args.op c.args.signed c.args.a.now c.args.b.now c.requires.fits;
  reads_as = λ v. e;
}) c.binary_bits.ensures
