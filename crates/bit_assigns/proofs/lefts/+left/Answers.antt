use Rattle.std.proofs.Common.{◌++◌, ◌∙◌, ap, sym}
use Rattle.std.proofs.lemmas.List.{append-nil}
use Rattle.design_core.specs.Parts.{length_at}
use Rattle.bit_assigns.specs.Sides.{left_bits}
use Rattle.bit_assigns.proofs.SideLaws.{bits-At}
use Rattle.bit_assigns.proofs.lefts.+left.Goals as goal

pub push_left-returns-in-At : goal.push_left-returns-in-At
push_left-returns-in-At t c =
    let size = length_at c.args.signals.now in
    sym (ap (λ xs. c.args.all.now.items ++ xs) (ap (left_bits size) c.in-At.is ∙ bits-At size c.in-At.base c.in-At.index c.in-At.offset c.in-At.down c.in-At.length) ∙ append-nil c.args.all.now.items)
