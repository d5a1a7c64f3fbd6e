-- Assigns taken one by one.
use Rattle.std.proofs.Common.{◌≡◌, ◌∙◌, ◌+◌, ◌<◌, ℕ, List, Option, length, map, drop, get_or, ap}
use Rattle.plain_form.specs.Seen.{seen_assign}
use Rattle.plain_form.specs.Wires.{Wires, all_driven, driven, then_all}
use Rattle.plain_form.specs.declared.modules.Assign.{Assign}
use Rattle.plain_form.proofs.ReadLaws.{at_item}

pub next_driven : (w : Wires) (xs : List Assign) (i : ℕ) (d : Assign) (o : Option Wires) → i < length xs → driven w (seen_assign (get_or xs i d)) ≡ o
    → all_driven w (map seen_assign (drop i xs)) ≡ then_all o (λ more. all_driven more (map seen_assign (drop (i + 1) xs)))
next_driven w xs i d o lt e =
    ap (λ r. all_driven w (map seen_assign r)) (at_item xs i d lt) ∙ ap (λ x. then_all x (λ more. all_driven more (map seen_assign (drop (i + 1) xs)))) e
