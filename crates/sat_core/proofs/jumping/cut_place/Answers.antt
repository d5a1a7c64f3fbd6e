use Rattle.std.proofs.Common.{◌≡◌, ◌-◌, ℕ, [], List, get_or, reverse, take, sym, ap, ◌∙◌, arith}
use Rattle.cnf_core.specs.Lit.{variable_of}
use Rattle.sat_core.specs.declared.trail.Mark.{Mark}
use Rattle.sat_core.specs.Decisions.{decision_places}
use Rattle.sat_core.specs.Jump.{jumped}
use Rattle.sat_core.proofs.DecisionLaws.{level_cut, cut_found, cut_passed, jumped_none}
use Rattle.sat_core.proofs.jumping.cut_place.Goals as goal

pub get-requires : goal.get-requires
get-requires c =
    let i = c.loop-level.invariant in
    let k = level_cut c.args.second c.args.marks.now c.loop-level.cut c.loop-level.level c.decision-place.result i.cut i.level (omega arith) i.places c.decision-place.ensures in
    k.within

pub loop-level-preserved : goal.loop-level-preserved
loop-level-preserved c =
    let x = c.args.second in
    let marks = c.args.marks.now in
    let cut = c.loop-level.cut in
    let level = c.loop-level.level in
    let p = c.decision-place.result in
    let m : Mark = c.get.result in
    let i = c.loop-level.invariant in
    let k = level_cut x marks cut level p i.cut i.level (omega arith) i.places c.decision-place.ensures in
    let rest : List ℕ = reverse (take (level - 1) (reverse (decision_places (reverse marks)))) in
    let is : variable_of (get_or marks p m).lit ≡ c.variable.result = sym (ap (λ (n : Mark). variable_of n.lit) c.get.ensures) ∙ sym c.variable.ensures.value in
    record {
      cut = let within = k.within in omega arith;
      level = let le = i.level in omega arith;
      places = k.others;
      jumped = cut_passed x marks cut p rest m (jumped x (reverse marks) (reverse marks)) k (λ e. c.if-variable-second.false (sym is ∙ e)) i.jumped;
    }

pub returns-then-variable-second-clause-jumped : goal.returns-then-variable-second-clause-jumped
returns-then-variable-second-clause-jumped c =
    let x = c.args.second in
    let marks = c.args.marks.now in
    let cut = c.loop-level.cut in
    let level = c.loop-level.level in
    let p = c.decision-place.result in
    let m : Mark = c.get.result in
    let i = c.loop-level.invariant in
    let k = level_cut x marks cut level p i.cut i.level (omega arith) i.places c.decision-place.ensures in
    let rest : List ℕ = reverse (take (level - 1) (reverse (decision_places (reverse marks)))) in
    let is : variable_of (get_or marks p m).lit ≡ c.variable.result = sym (ap (λ (n : Mark). variable_of n.lit) c.get.ensures) ∙ sym c.variable.ensures.value in
    cut_found x marks cut p rest m (jumped x (reverse marks) (reverse marks)) k (is ∙ c.if-variable-second.true) i.jumped

pub returns-clause-jumped : goal.returns-clause-jumped
returns-clause-jumped c =
    let x = c.args.second in
    let marks = c.args.marks.now in
    let tr : List Mark = reverse (take c.loop-level.cut marks) in
    let i = c.loop-level.invariant in
    let z : c.loop-level.level ≡ 0 = omega arith in
    let none : decision_places tr ≡ [] = i.places ∙ ap (λ (n : ℕ). reverse (take n (reverse (decision_places (reverse marks))))) z in
    sym (jumped_none x tr tr none) ∙ i.jumped
