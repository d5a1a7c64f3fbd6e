use Rattle.std.proofs.Common.{◌≡◌, drop, map, None}
use Rattle.vl_items.specs.Parts.{part, parts_of}
use Rattle.vl_places.specs.Steps.{spot, spot_from}
use Rattle.vl_places.proofs.places.items_at.Given as goal

abbrev pub invariant-loop-number : goal.invariant-loop-number
invariant-loop-number l = spot_from (spot (parts_of (map part l.now)) l.item) (drop l.number-index l.place) ≡ spot_from (spot (parts_of (map part l.items)) None) l.place
