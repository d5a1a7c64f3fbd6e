use Rattle.std.proofs.Common.{◌≡◌, ℕ, ◌≤◌, Bool, List, Option, length, map, sym, ap, subst, arith}
use Rattle.std.specs.Vec.{with_items}
use Rattle.std.proofs.lemmas.List.{length-map, with_items_is}
use Rattle.design_core.specs.Parts.{item_cell}
use Rattle.design_core.specs.Wellformed.{signal_lengths}
use Rattle.item_links.specs.Noted.{AreNoted, all_drives}
use Rattle.item_links.proofs.NotedLaws.{all_noted}
use Rattle.item_links.proofs.drivers.note_all.Goals as goal

pub returns-clause-noted : goal.returns-clause-noted
returns-clause-noted c =
    let signals = c.args.signals.now in
    let lengths = signal_lengths signals in
    let items = c.args.items.now in
    let cells = map (item_cell signals) items in
    let drivers = c.in_ok-drivers.drivers in
    let twice = c.in_ok-twice.twice in
    let new_drivers = c.note_items.new.drivers in
    let new_twice = c.note_items.new.twice in
    let long_drivers : length new_drivers ≡ drivers.len = (let a = c.note_items.auto.drivers in let b = ap length c.as_mut_slice.ensures.value in omega (arith, a, b, drivers.ok.0)) in
    let long_twice : length new_twice ≡ twice.len = (let a = c.note_items.auto.twice in let b = ap length c.as_mut_slice-2.ensures.value in omega (arith, a, b, twice.ok.0)) in
    let many : length cells ≤ length items = (let e = length-map items (item_cell signals) in omega (arith, e)) in
    let P : List (Option ℕ) → Type 0 = λ ds. AreNoted lengths (all_drives cells) ds new_twice in
    let Q : List Bool → Type 0 = λ ts. AreNoted lengths (all_drives cells) (with_items drivers new_drivers).items ts in
    subst Q (sym (with_items_is twice new_twice long_twice)) (subst P (sym (with_items_is drivers new_drivers long_drivers))
    (all_noted lengths cells (length items) new_drivers new_twice many c.in_ok-note_items.ensures))
