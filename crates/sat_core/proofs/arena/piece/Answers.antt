use Rattle.std.proofs.Common.{◌≡◌, ◌-◌, ℕ, Some, get_or, take, drop, sym, ap, ◌∙◌, arith}
use Rattle.sat_core.specs.Arena.{end_before}
use Rattle.sat_core.proofs.ArenaLaws.{bounds, piece_at}
use Rattle.sat_core.proofs.arena.piece.Goals as goal

pub cut-requires-clause-order : goal.cut-requires-clause-order
cut-requires-clause-order c =
    let b = bounds 0 c.args.ends.now c.args.lits.now c.args.at 0 c.requires.ends c.requires.at in
    omega (arith, b.order, c.start_of-start.ensures)

pub cut-requires-clause-within : goal.cut-requires-clause-within
cut-requires-clause-within c =
    let b = bounds 0 c.args.ends.now c.args.lits.now c.args.at 0 c.requires.ends c.requires.at in
    omega (arith, b.within)

pub returns : goal.returns
returns c =
    let ends = c.args.ends.now in
    let lits = c.args.lits.now in
    let at = c.args.at in
    let zero_less : end_before 0 ends at - 0 ≡ end_before 0 ends at = omega arith in
    piece_at 0 ends lits at 0 c.requires.ends c.requires.at
    ∙ ap (λ (n : ℕ). Some (take (get_or ends at 0 - end_before 0 ends at) (drop n lits))) zero_less
    ∙ ap (λ (n : ℕ). Some (take (get_or ends at 0 - n) (drop n lits))) (sym c.start_of-start.ensures)
    ∙ ap Some (sym c.cut.ensures)
