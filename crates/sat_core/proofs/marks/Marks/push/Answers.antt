use Rattle.std.proofs.Common.{◌≡◌, ◌++◌, ◌∷◌, [], length, ◌∙◌, arith}
use Rattle.sat_core.specs.declared.trail.Mark.{Mark}
use Rattle.sat_core.proofs.DecisionLaws.{decisions_pushed}
use Rattle.sat_core.proofs.PlaceLaws.{places_pushed}
use Rattle.sat_core.proofs.marks.Marks.push.Goals as goal

pub invariant_of-self-2 : goal.invariant_of-self-2
invariant_of-self-2 c =
    let xs = c.self.inside.list.items in
    let m : Mark = c.args.mark in
    let ye : c.push.new.self.items ≡ xs ++ m ∷ [] = grind arith in
    let ne : c.len-place.result ≡ length xs = c.len-place.ensures ∙ c.self.inside.list.ok.0 in
    let g = c.in_ok-grow.ensures in (
      places_pushed c.self.inside.places.items c.grow.new.places.items xs c.push.new.self.items m c.variable-variable.result c.len-place.result c.variable-variable.ensures.value ne ye g.more g.same
          (omega (arith, g.room, c.variable-variable.ensures.value)) c.self.invariant.0,
      decisions_pushed c.self.inside.decisions.items c.put_decision.new.decisions.items xs c.push.new.self.items m c.len-place.result ne ye c.in_ok-put_decision.ensures.ok c.self.invariant.1,
    )
