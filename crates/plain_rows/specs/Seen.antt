-- Verdicts as the code holds them.
use Rattle.plain_rows.specs.Plain.{ones}
use Rattle.plain_rows.specs.Verdicts as spec
use Rattle.plain_rows.specs.declared.decide.Verdict.{Verdict}
use Rattle.plain_rows.specs.declared.decide.Verdict.TheVariants.{Proved, Refuted}

-- nothing, or one port with value 1 in cycle 0
abbrev pub seen_verdict : Verdict → spec.Verdict
seen_verdict Proved = spec.proved
seen_verdict (Refuted one) = spec.refuted 0 (ones one)
