use Rattle.std.proofs.Common.{◌≡◌, ℕ, ◌<◌, List, length, get_or, sym, subst, arith}
use Rattle.std.proofs.lemmas.List.{get_or_read}
use Rattle.sat_core.specs.declared.trail.Mark.{Mark}
use Rattle.sat_core.specs.Places.{HasMark, StandsAt}
use Rattle.sat_core.proofs.PlaceLaws.{place_stands}
use Rattle.sat_core.proofs.marks.Marks.place.Goals as goal

pub index-requires : goal.index-requires
index-requires c =
    let marks = c.self.inside.list.items in
    let h : HasMark marks c.args.variable = subst (λ (ms : List Mark). HasMark ms c.args.variable) (sym c.self.view_is) c.requires in
    let lt : c.args.variable < length c.self.inside.places.items = (place_stands c.self.inside.places.items marks c.args.variable c.self.invariant.0 h).0 in
    let n = c.self.inside.places.ok.0 in
    omega arith

pub returns : goal.returns
returns c =
    let places = c.self.inside.places.items in
    let marks = c.self.inside.list.items in
    let x = c.args.variable in
    let h : HasMark marks x = subst (λ (ms : List Mark). HasMark ms x) (sym c.self.view_is) c.requires in
    let p = place_stands places marks x c.self.invariant.0 h in
    let e : c.index.result.now ≡ get_or places x 0 = get_or_read places x c.index.result.now p.0 c.index.ensures 0 in
    subst (λ (ms : List Mark). StandsAt ms c.index.result.now x) c.self.view_is (subst (λ (k : ℕ). StandsAt marks k x) (sym e) p.1)
