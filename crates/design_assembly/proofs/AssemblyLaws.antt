-- A design made of its parts.
use Rattle.std.proofs.Common.{◌≡◌, ℕ, ◌+◌, ◌-◌, ◌≤◌, ◌^◌, true, List, [], ◌∷◌, ◌++◌, length, sum, refl, sym, ap, ap₂, ◌∙◌, subst, arith, length-append, nat_le}
use Rattle.std.specs.List.{list_all, filter}
use Rattle.std.proofs.lemmas.Bool.Decides.{nat_tests}
use Rattle.std.proofs.lemmas.List.{length-map}
use Rattle.std.proofs.lemmas.List.Sums.{sum_by-cons, sum-map}
use Rattle.design_core.specs.declared.place.BitRef.{BitRef}
use Rattle.design_core.specs.declared.signals.Signal.{Signal}
use Rattle.design_core.specs.declared.signals.Scope.{Scope}
use Rattle.design_core.specs.declared.items.Item.{Item}
use Rattle.design_core.specs.declared.items.PowerUp.{PowerUp}
use Rattle.design_core.specs.Parts.{bits_of_signals}
use Rattle.design_core.specs.Formed.{is_vector}
use Rattle.design_core.specs.Wellformed.{are_formed, scopes_apart, print_apart, is_design, signal_fits, signal_lengths, total_weight}
use Rattle.design_core.proofs.BoolLaws.{both_true, true_both}
use Rattle.design_names.specs.Alike.{is_spanned}
use Rattle.design_assembly.specs.Known.{AllFit}
use Rattle.design_assembly.specs.Keepers.{keepers, keeper_of}
use Rattle.design_assembly.specs.Power.{is_kept, power_list}
use Rattle.design_assembly.proofs.BitLaws.{all_fit}
use Rattle.design_assembly.proofs.KeeperLaws.{is_made, kept_weight}

at_least_one : (n : ℕ) → is_vector n ≡ true → 1 ≤ n
at_least_one n h = let k = (both_true (nat_le 1 n) (nat_le n 65536) h).0 in grind (arith, nat_tests)

few_signals : (scopes : List Scope) (signals : List Signal) → list_all (signal_fits scopes) signals ≡ true → length signals ≤ sum (signal_lengths signals)
few_signals scopes [] h = omega arith
few_signals scopes (x ∷ xs) h =
    let a = both_true (signal_fits scopes x) (list_all (signal_fits scopes) xs) h in
    let v = (both_true _ _ (both_true _ _ (both_true _ _ a.0).0).0).1 in
    let l = at_least_one x.length v in
    let e = sum-map (λ (y : Signal). y.length) (x ∷ xs) in
    let f = sum_by-cons (λ (y : Signal). y.length) x xs in
    let g = sum-map (λ (y : Signal). y.length) xs in
    omega (arith, few_signals scopes xs a.1, e, f, g, l)

signals_of : (scopes : List Scope) (signals : List Signal) (items : List Item) → are_formed scopes signals items ≡ true → list_all (signal_fits scopes) signals ≡ true
unfolding are_formed
signals_of scopes signals items h = (both_true _ _ (both_true _ _ h).0).1

pub few : (scopes : List Scope) (signals given : List Signal) (items : List Item) (left : ℕ) → are_formed scopes signals items ≡ true → total_weight signals items + left ≤ 2 ^ 22 → given ≡ signals → length given ≤ 2 ^ 22
few scopes signals given items left h l e = omega (arith, few_signals scopes signals (signals_of scopes signals items h), l, ap length e)

pub bits_fit : (signals : List Signal) (bits : List BitRef) → bits ≡ bits_of_signals 0 signals → AllFit signals bits
bits_fit signals bits e = subst (AllFit signals) (sym e) (record { fits = all_fit signals })

keepers_count : (signals : List Signal) (items : List Item) (inits : List PowerUp) → total_weight signals (items ++ keepers signals items inits) ≡ total_weight signals items + length (keepers signals items inits)
keepers_count signals items inits =
    let bs = filter (is_kept signals items inits) (bits_of_signals 0 signals) in
    kept_weight signals items bs ∙ ap (λ n. total_weight signals items + n) (sym (length-map bs (keeper_of signals)))

pub more_items : (old now add : List Item) → now ≡ old ++ add → length now - length old ≡ length add
more_items old now add e = omega (arith, ap length e, length-append old add)

pub is_assembled : (scopes : List Scope) (signals : List Signal) (items now : List Item) (inits : List PowerUp) (powerup : List PowerUp) (left : ℕ) → are_formed scopes signals items ≡ true → scopes_apart scopes ≡ true → print_apart signals ≡ true
    → total_weight signals items + left ≤ 2 ^ 22 → now ≡ items ++ keepers signals items inits → powerup ≡ power_list signals items inits → length now - length items ≤ left
    → is_design scopes signals now powerup ≡ true
is_assembled scopes signals items now inits powerup left h a b l e p w =
    let n = more_items items now (keepers signals items inits) e in
    let k = keepers_count signals items inits in
    ap₂ (is_design scopes signals) e p ∙ is_made scopes signals items inits h a b (omega (arith, n, k, l, w))

spanned_one : (scopes : List Scope) (x : Signal) → signal_fits scopes x ≡ true → is_spanned x ≡ true
spanned_one scopes x h = (both_true _ _ (both_true _ _ h).0).1

spanned_all : (scopes : List Scope) (signals : List Signal) → list_all (signal_fits scopes) signals ≡ true → list_all is_spanned signals ≡ true
spanned_all scopes [] h = refl
spanned_all scopes (x ∷ xs) h = let a = both_true (signal_fits scopes x) (list_all (signal_fits scopes) xs) h in true_both (is_spanned x) (list_all is_spanned xs) (spanned_one scopes x a.0) (spanned_all scopes xs a.1)

-- signals that fit their scopes have as many bits as they say
pub spanned : (scopes : List Scope) (signals given : List Signal) (items : List Item) → are_formed scopes signals items ≡ true → given ≡ signals → list_all is_spanned given ≡ true
spanned scopes signals given items h e = ap (list_all is_spanned) e ∙ spanned_all scopes signals (signals_of scopes signals items h)
