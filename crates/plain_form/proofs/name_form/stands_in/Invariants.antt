use Rattle.std.proofs.Common.{◌≡◌, drop, map}
use Rattle.std.specs.List.{list_any}
use Rattle.std.specs.Str.{bytes_eq}
use Rattle.plain_form.proofs.name_form.stands_in.Given as goal

abbrev pub invariant-loop-item : goal.invariant-loop-item
invariant-loop-item l = list_any (bytes_eq l.word) (map (λ w. w.now) (drop l.item-index l.list)) ≡ list_any (bytes_eq l.word) (map (λ w. w.now) l.list)
