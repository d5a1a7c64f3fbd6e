use Rattle.std.proofs.Common.{Bool, ap, ◌∙◌, arith}
use mathlib.Core.Bool.{beq}
use Rattle.cnf_core.specs.Lit.{variable_of}
use Rattle.cnf_core.specs.Values.{give}
use Rattle.lrat_checker.specs.Marks.{reads}
use Rattle.lrat_checker.proofs.MarkLaws.{reads-set}
use Rattle.lrat_checker.proofs.stamps.assign.Goals as goal

pub returns-clause-given : goal.returns-clause-given
returns-clause-given c =
    let vs = c.args.variables.now in
    let marks = c.args.marks.now in
    reads-set vs marks c.args.stamp c.place_of.result (variable_of c.args.lit) (beq c.is_positive.result c.args.value) c.place_of.ensures.place (omega (arith, c.place_of.ensures.within, c.requires.size))
    ∙ ap (λ (b : Bool). give (reads vs marks c.args.stamp) (variable_of c.args.lit) (beq b c.args.value)) c.is_positive.ensures
