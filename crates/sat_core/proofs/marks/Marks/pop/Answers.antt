use Rattle.std.proofs.Common.{List, reverse, sym, subst}
use Rattle.sat_core.specs.declared.trail.Mark.{Mark}
use Rattle.sat_core.specs.Decisions.{AreDecisions}
use Rattle.sat_core.specs.Trail.{AreFresh}
use Rattle.sat_core.proofs.DecisionLaws.{decisions_pop}
use Rattle.sat_core.proofs.PlaceLaws.{places_popped}
use Rattle.sat_core.proofs.marks.Marks.pop.Goals as goal

pub invariant_of-self : goal.invariant_of-self
invariant_of-self c =
    let xs = c.self.inside.list.items in
    let ys = c.pop.new.self.items in
    let ds = c.self.inside.decisions.items in (
      places_popped c.self.inside.places.items xs ys c.pop.result c.pop.ensures.items (subst (λ (ms : List Mark). AreFresh (reverse ms)) (sym c.self.view_is) c.requires) c.self.invariant.0,
      decisions_pop ds c.take_decision.new.decisions.items ys c.in-Some.mark c.take_decision.ensures (subst (AreDecisions ds) c.in-Some.ensures.items c.self.invariant.1),
    )
