-- What the tests of numbers say of each place of a list.
use Rattle.std.proofs.Common.{◌≡◌, ℕ, zero, suc, ◌<◌, ◌≤◌, Bool, true, List, [], ◌∷◌, length, All, Option, Some, None, slice_index_or, sym, subst, ◌∙◌, arith}
use Rattle.std.proofs.lemmas.Option.{none-some}
use Rattle.std.specs.Prelude.{nat_lt, nat_le}
use Rattle.std.specs.List.{list_all}
use Rattle.std.proofs.lemmas.Bool.Decides.{nat_tests}
use Rattle.std.proofs.lemmas.List.{get_or_past}
use Rattle.std.proofs.lemmas.List.Elements.{All-nil, All-cons}
use Rattle.design_core.proofs.BoolLaws.{both_true}
use Rattle.item_order.specs.declared.spans.Span.{Span}
use Rattle.item_order.specs.Spans.{AreNamed, AreWithin, driver_in}
use Rattle.order_cases.specs.Fits.{ends_by, ends_all_by, names_below}

below_is : (a b : ℕ) → nat_lt a b ≡ true → a < b
below_is a b h = grind (arith, nat_tests)

most_is : (a b : ℕ) → nat_le a b ≡ true → a ≤ b
most_is a b h = grind (arith, nat_tests)

named_at : (items b i : ℕ) (drivers : List (Option ℕ)) → list_all (names_below items) drivers ≡ true → driver_in drivers b ≡ Some i → i < items
named_at items b i [] h e = absurd (none-some i (sym (get_or_past {X = Option ℕ} [] b None (omega arith)) ∙ e))
named_at items zero i (None ∷ ds) h e = absurd (none-some i e)
named_at items zero i (Some j ∷ ds) h e =
    let l = below_is j items (both_true (nat_lt j items) (list_all (names_below items) ds) h).0 in
    let same : j ≡ i = cc in
    omega (arith, l, same)
named_at items (suc b) i (d ∷ ds) h e = named_at items b i ds (both_true (names_below items d) (list_all (names_below items) ds) h).1 e

pub names_are : (items : ℕ) (drivers : List (Option ℕ)) → list_all (names_below items) drivers ≡ true → AreNamed (driver_in drivers) items
names_are items drivers h = λ b i e. named_at items b i drivers h e

pub all_end : (bits : ℕ) (spans : List Span) → ends_all_by bits spans ≡ true → All (λ (s : Span). s.to ≤ bits) spans
all_end bits [] h = All-nil (λ (s : Span). s.to ≤ bits)
all_end bits (s ∷ ss) h = let p = both_true (ends_by bits s) (ends_all_by bits ss) h in All-cons (λ (x : Span). x.to ≤ bits) s ss (most_is s.to bits p.0) (all_end bits ss p.1)

within_at : (bits : ℕ) (reads : List (List Span)) (i : ℕ) → list_all (ends_all_by bits) reads ≡ true → All (λ (s : Span). s.to ≤ bits) (slice_index_or reads i [])
within_at bits [] i h = subst (λ (l : List Span). All (λ (s : Span). s.to ≤ bits) l) (sym (get_or_past {X = List Span} [] i [] (omega arith))) (All-nil (λ (s : Span). s.to ≤ bits))
within_at bits (r ∷ rs) zero h = all_end bits r (both_true (ends_all_by bits r) (list_all (ends_all_by bits) rs) h).0
within_at bits (r ∷ rs) (suc i) h = within_at bits rs i (both_true (ends_all_by bits r) (list_all (ends_all_by bits) rs) h).1

pub spans_are : (bits : ℕ) (reads : List (List Span)) → list_all (ends_all_by bits) reads ≡ true → AreWithin bits reads
spans_are bits reads h = λ i. within_at bits reads i h
