use Rattle.std.proofs.Common.{◌≡◌, ℕ, Some, length, slice_get, refl, sym, subst, arith}
use Rattle.std.proofs.lemmas.Option.{slice_get_read}
use Rattle.sat_core.specs.Watch.{IsHeld}
use Rattle.sat_core.proofs.TurnLaws.{visit_starts}
use Rattle.sat_core.proofs.propagation.propagate.Goals as goal

pub visit-requires : goal.visit-requires
visit-requires c =
    let cs = c.args.clauses.now in
    let t = c.loop-trail.trail in
    let w = c.loop-trail.watches in
    let h = c.loop-trail.invariant.held in
    let size = length t.values.items in
    let count = length w.pairs.items in
    let held : IsHeld cs c.args.leaves size count t w =
    subst (λ (n : ℕ). IsHeld cs c.args.leaves n count t w) (sym h.size_is)
    (subst (λ (n : ℕ). IsHeld cs c.args.leaves (length c.args.trail.now.values.items) n t w) (sym h.count_is) h) in
    let there : slice_get t.marks t.done ≡ Some c.get.result = slice_get_read t.marks (length t.marks) t.done c.get.result refl (omega arith) c.get.ensures in
    visit_starts cs c.args.leaves size count t w held c.get.result c.negated-lit.result there c.negated-lit.ensures
