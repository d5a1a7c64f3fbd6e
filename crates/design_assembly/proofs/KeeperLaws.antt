-- The items that keep bits: what they drive, that they are formed, and what they weigh.
use Rattle.std.proofs.Common.{◌≡◌, ℕ, zero, suc, ◌+◌, ◌<◌, ◌≤◌, ◌^◌, Bool, true, false, List, [], ◌∷◌, ◌++◌, ◌&&◌, ◌||◌, map, length, sum, refl, sym, ap, ap₂, ◌∙◌, subst, inl, inr, arith, nat_lt, nat_le, pos}
use Rattle.std.specs.Prelude.{◌==◌, slice_index_or, Some, None}
use Rattle.std.specs.List.{list_any, list_all, filter}
use Rattle.std.proofs.lemmas.Bool.{eqb-true, eq-eqb}
use Rattle.std.proofs.lemmas.Bool.Decides.{nat_tests}
use Rattle.std.proofs.lemmas.List.Folds.{list_any-append}
use Rattle.std.proofs.lemmas.List.{length-map}
use Rattle.std.proofs.lemmas.List.Sums.{sum_by-append, sum_by-cons, sum-map}
use Rattle.design_core.specs.Numbers.{is_bit}
use Rattle.design_core.specs.declared.place.BitRef.{BitRef}
use Rattle.design_core.specs.declared.signals.Signal.{Signal}
use Rattle.design_core.specs.declared.signals.Scope.{Scope}
use Rattle.design_core.specs.declared.items.Item.{Item}
use Rattle.design_core.specs.declared.items.PowerUp.{PowerUp}
use Rattle.design_core.specs.declared.tree.DBase.TheVariants as base
use Rattle.design_core.specs.declared.tree.DLeft.TheVariants as lefts
use Rattle.design_core.specs.Core.{same_bit, drives, left_drives, covers}
use Rattle.design_core.specs.Cells.{In}
use Rattle.design_core.specs.Parts.{item_cell, is_register, bits_of_signals, length_at}
use Rattle.design_core.specs.declared.tree.DLeft.TheOpen.{DLeft-F, DNode-F, DStmt-F}
use Rattle.design_core.specs.Formed.{Body, is_vector, has_length, left_size, node_size, stmt_size, sized_stmt, of_kind}
use Rattle.design_core.specs.Wellformed.{signal_lengths, same_bits, item_fits, signal_fits, total_weight, carried_weight, are_formed, scopes_apart, print_apart, is_design}
use Rattle.design_core.proofs.BoolLaws.{both_true, true_both, or_left, or_right, or_cases, either, not_both, if_true, if_false}
use Rattle.design_core.proofs.TermLaws.{stmt_write, left_part}
use Rattle.design_core.proofs.FormedLaws.{at_length, sized_write, sized_part, sized_select, sized_signal}
use Rattle.design_assembly.specs.Power.{is_kept, is_powered, power_list}
use Rattle.design_assembly.specs.Keepers.{scope_at, whole, own_bit, keeps, keeper_of, keepers}
use Rattle.design_assembly.proofs.PowerLaws.{same_bit_self, same_bits_self, bits_again, filter_same}
use Rattle.design_assembly.proofs.BitLaws.{all_fit}

or_false : (x : Bool) → (x || false) ≡ x
or_false true = refl
or_false false = refl

-- a keeper drives its bit alone
keeper_drives : (signals : List Signal) (b a : BitRef) → nat_lt b.bit (length_at signals b.signal) ≡ true → (item_cell signals (keeper_of signals b)).drives a ≡ same_bit a b
keeper_drives signals b a h =
    let l = lefts.Part (base.Signal b.signal) (pos b.bit) 1 in
    ap (λ s. drives s a) (stmt_write (length_at signals) (keeps signals b) l (own_bit signals b) false refl)
    ∙ ap (λ x. left_drives x a) (left_part (length_at signals) l (base.Signal b.signal) (pos b.bit) 1 refl)
    ∙ ap (λ o. (a.signal == b.signal) && covers a.bit (o ∷ [])) (if_true (nat_lt b.bit (length_at signals b.signal)) (Some b.bit) None h)
    ∙ ap (λ x. (a.signal == b.signal) && x) (or_false (a.bit == b.bit))

fits_below : (signals : List Signal) (b : BitRef) → is_bit (signal_lengths signals) b ≡ true → nat_lt b.bit (length_at signals b.signal) ≡ true
fits_below signals b h = h

keepers_drive : (signals : List Signal) (bs : List BitRef) (b : BitRef) → ((x : BitRef) → In x bs → is_bit (signal_lengths signals) x ≡ true) → is_register signals (map (keeper_of signals) bs) b ≡ list_any (λ x. same_bit b x) bs
keepers_drive signals [] b h = refl
keepers_drive signals (x ∷ xs) b h = ap₂ ◌||◌ (keeper_drives signals x b (fits_below signals x (h x (inl refl)))) (keepers_drive signals xs b (λ y m. h y (inr m)))

bit_is : (a b : BitRef) → same_bit a b ≡ true → a ≡ b
bit_is a b h = let k = both_true (a.signal == b.signal) (a.bit == b.bit) h in ap₂ (λ s n. record { signal = s; bit = n }) (eqb-true a.signal b.signal k.0) (eqb-true a.bit b.bit k.1)

in_filter : (p : BitRef → Bool) (xs : List BitRef) (b : BitRef) → In b (filter p xs) → (In b xs) × (p b ≡ true)
in_filter p [] b m = elim m [ ]
in_filter p (x ∷ xs) b m = elim (either (p x)) [
  | inl hit ↦ elim (subst (In b) (if_true (p x) (x ∷ filter p xs) (filter p xs) hit) m) [ inl e ↦ (inl e, ap p e ∙ hit) | inr n ↦ (let r = in_filter p xs b n in (inr r.0, r.1)) ]
  | inr miss ↦ (let r = in_filter p xs b (subst (In b) (if_false (p x) (x ∷ filter p xs) (filter p xs) miss) m) in (inr r.0, r.1))
]

filter_in : (p : BitRef → Bool) (xs : List BitRef) (b : BitRef) → In b xs → p b ≡ true → In b (filter p xs)
filter_in p [] b m h = elim m [ ]
filter_in p (x ∷ xs) b (inl e) h = subst (In b) (sym (if_true (p x) (x ∷ filter p xs) (filter p xs) (ap p (sym e) ∙ h))) (inl e)
filter_in p (x ∷ xs) b (inr m) h = elim (either (p x)) [
  | inl hit ↦ subst (In b) (sym (if_true (p x) (x ∷ filter p xs) (filter p xs) hit)) (inr (filter_in p xs b m h))
  | inr miss ↦ subst (In b) (sym (if_false (p x) (x ∷ filter p xs) (filter p xs) miss)) (filter_in p xs b m h)
]

in_any : (xs : List BitRef) (b : BitRef) → In b xs → list_any (λ x. same_bit b x) xs ≡ true
in_any [] b m = elim m [ ]
in_any (x ∷ xs) b (inl e) = or_left (same_bit b x) (list_any (λ y. same_bit b y) xs) (ap (same_bit b) (sym e) ∙ same_bit_self b)
in_any (x ∷ xs) b (inr m) = or_right (same_bit b x) (list_any (λ y. same_bit b y) xs) (in_any xs b m)

any_in : (xs : List BitRef) (b : BitRef) → list_any (λ x. same_bit b x) xs ≡ true → In b xs
any_in [] b h = cc
any_in (x ∷ xs) b h = elim (or_cases (same_bit b x) (list_any (λ y. same_bit b y) xs) h) [ inl e ↦ inl (bit_is b x e) | inr m ↦ inr (any_in xs b m) ]

any_filter : (p : BitRef → Bool) (xs : List BitRef) (b : BitRef) → In b xs → list_any (λ x. same_bit b x) (filter p xs) ≡ p b
any_filter p xs b m = elim (either (p b)) [
  | inl hit ↦ in_any (filter p xs) b (filter_in p xs b m hit) ∙ sym hit
  | inr miss ↦ elim (either (list_any (λ x. same_bit b x) (filter p xs))) [
    | inl some ↦ absurd (not_both {P = ⊥} (p b) (in_filter p xs b (any_in (filter p xs) b some)).1 miss)
    | inr none ↦ none ∙ sym miss
  ]
]

-- with its keepers a design's registers are the registers before, and the bits that are kept
pub all_registers : (signals : List Signal) (items : List Item) (inits : List PowerUp) (b : BitRef) → In b (bits_of_signals 0 signals)
    → is_register signals (items ++ keepers signals items inits) b ≡ is_powered signals items inits b
all_registers signals items inits b m =
    list_any-append (λ i. (item_cell signals i).clocked && (item_cell signals i).drives b) items (keepers signals items inits)
    ∙ ap (λ x. is_register signals items b || x)
    (keepers_drive signals (filter (is_kept signals items inits) (bits_of_signals 0 signals)) b (λ x n. all_fit signals x (in_filter (is_kept signals items inits) (bits_of_signals 0 signals) x n).0)
    ∙ any_filter (is_kept signals items inits) (bits_of_signals 0 signals) b m)

-- the power-up list has one value for each register bit, in the order of bits
pub power_bits : (signals : List Signal) (items : List Item) (inits : List PowerUp)
    → same_bits (map (λ (x : PowerUp). x.bit) (power_list signals items inits)) (filter (is_register signals (items ++ keepers signals items inits)) (bits_of_signals 0 signals)) ≡ true
power_bits signals items inits =
    ap₂ same_bits (bits_again inits (filter (is_powered signals items inits) (bits_of_signals 0 signals)))
    (filter_same (is_register signals (items ++ keepers signals items inits)) (is_powered signals items inits) (bits_of_signals 0 signals) (all_registers signals items inits))
    ∙ same_bits_self (filter (is_powered signals items inits) (bits_of_signals 0 signals))

weights_append : (xs ys : List Item) → sum (map carried_weight (xs ++ ys)) ≡ sum (map carried_weight xs) + sum (map carried_weight ys)
weights_append xs ys = sum-map carried_weight (xs ++ ys) ∙ sum_by-append carried_weight xs ys ∙ sym (ap₂ (λ a b. a + b) (sum-map carried_weight xs) (sum-map carried_weight ys))

keepers_weigh : (signals : List Signal) (bs : List BitRef) → sum (map carried_weight (map (keeper_of signals) bs)) ≡ length bs
keepers_weigh signals [] = refl
keepers_weigh signals (b ∷ bs) =
    sum-map carried_weight (map (keeper_of signals) (b ∷ bs)) ∙ sum_by-cons carried_weight (keeper_of signals b) (map (keeper_of signals) bs)
    ∙ (let e = sum-map carried_weight (map (keeper_of signals) bs) in omega (arith, keepers_weigh signals bs, e))

-- each keeper weighs 1
pub kept_weight : (signals : List Signal) (items : List Item) (bs : List BitRef) → total_weight signals (items ++ map (keeper_of signals) bs) ≡ total_weight signals items + length bs
kept_weight signals items bs = omega (arith, weights_append items (map (keeper_of signals) bs), keepers_weigh signals bs)

below : (a b : ℕ) → nat_lt a b ≡ true → a < b
below a b h = grind (arith, nat_tests)

is_le : (a b : ℕ) → a ≤ b → nat_le a b ≡ true
is_le a b h = grind (arith, nat_tests)

vector_at : (scopes : List Scope) (signals : List Signal) (s : ℕ) → list_all (signal_fits scopes) signals ≡ true → s < length signals
    → (is_vector (length_at signals s) ≡ true) × (nat_lt (scope_at signals s) (length scopes) ≡ true)
vector_at scopes [] s h l = absurd (omega arith)
vector_at scopes (x ∷ xs) zero h l =
    let a = both_true (signal_fits scopes x) (list_all (signal_fits scopes) xs) h in
    let b = both_true _ _ a.0 in
    let d = both_true _ _ b.0 in
    let e = both_true (nat_lt x.scope (length scopes)) (is_vector x.length) d.0 in
    (e.1, e.0)
vector_at scopes (x ∷ xs) (suc s) h l = vector_at scopes xs s (both_true (signal_fits scopes x) (list_all (signal_fits scopes) xs) h).1 (omega arith)

keeper_body : (vs : List ℕ) (signals : List Signal) (b : BitRef) → sized_stmt vs (keeps signals b) ≡ stmt_size (DStmt-F.Write (left_size vs (DLeft-F.Part (base.Signal b.signal) (pos b.bit) 1))
    (at_length 1 (node_size vs (DNode-F.Select (at_length (length_at signals b.signal) (node_size vs (DNode-F.Signal b.signal) (length_at signals b.signal))) (pos b.bit)) 1)) false)
keeper_body vs signals b =
    let l = lefts.Part (base.Signal b.signal) (pos b.bit) 1 in
    sized_write vs (keeps signals b) l (own_bit signals b) false refl
    ∙ ap₂ (λ x y. stmt_size (DStmt-F.Write x y false)) (sized_part vs l (base.Signal b.signal) (pos b.bit) 1 refl)
    (sized_select vs (own_bit signals b) (whole signals b.signal) (pos b.bit) refl ∙ ap (λ w. at_length 1 (node_size vs (DNode-F.Select w (pos b.bit)) 1)) (sized_signal vs (whole signals b.signal) b.signal refl))

keeper_formed : (signals : List Signal) (b : BitRef) → nat_lt b.signal (length (signal_lengths signals)) ≡ true → is_vector (length_at signals b.signal) ≡ true
    → (sized_stmt (signal_lengths signals) (keeps signals b)).formed [] false (of_kind false) ≡ true
keeper_formed signals b h v =
    let vs = signal_lengths signals in
    ap (λ (x : Body). x.formed [] false (of_kind false)) (keeper_body vs signals b)
    ∙ true_both _ true (true_both _ true (true_both (nat_lt b.signal (length vs) && is_vector 1) (is_vector 1 && (is_vector (length_at signals b.signal) && has_length vs b.signal (length_at signals b.signal)))
    (true_both (nat_lt b.signal (length vs)) true h refl)
    (true_both (is_vector (length_at signals b.signal)) (has_length vs b.signal (length_at signals b.signal)) v
    (true_both (nat_lt b.signal (length vs)) (slice_index_or vs b.signal 0 == length_at signals b.signal) h (eq-eqb (slice_index_or vs b.signal 0) (length_at signals b.signal) refl)))) refl) refl

keeper_weight : (vs : List ℕ) (signals : List Signal) (b : BitRef) → (sized_stmt vs (keeps signals b)).weight [] ≡ 1
keeper_weight vs signals b = ap (λ (x : Body). x.weight []) (keeper_body vs signals b)

within_of : (vs : List ℕ) (s k : ℕ) → nat_lt k (slice_index_or vs s 0) ≡ true → s < length vs
within_of [] s k h = absurd (omega (arith, below k 0 h))
within_of (v ∷ vs) zero k h = omega arith
within_of (v ∷ vs) (suc s) k h = omega (arith, within_of vs s k h)

is_lt : (a b : ℕ) → a < b → nat_lt a b ≡ true
is_lt a b h = grind (arith, nat_tests)

-- a keeper is formed, where its bit is one of a signal's
pub keeper_fits : (scopes : List Scope) (signals : List Signal) (b : BitRef) → list_all (signal_fits scopes) signals ≡ true → is_bit (signal_lengths signals) b ≡ true
    → item_fits (signal_lengths signals) (length_at signals) (length scopes) (keeper_of signals b) ≡ true
keeper_fits scopes signals b h k =
    let vs = signal_lengths signals in
    let s = b.signal in
    let w = within_of vs s b.bit k in
    let v = vector_at scopes signals s h (omega (arith, w, length-map signals (λ (x : Signal). x.length))) in
    true_both (nat_lt (scope_at signals s) (length scopes) && ((sized_stmt vs (keeps signals b)).formed [] false (of_kind false) && true)) (1 == (sized_stmt vs (keeps signals b)).weight [])
    (true_both (nat_lt (scope_at signals s) (length scopes)) ((sized_stmt vs (keeps signals b)).formed [] false (of_kind false) && true) v.1
    (true_both ((sized_stmt vs (keeps signals b)).formed [] false (of_kind false)) true (keeper_formed signals b (is_lt s (length vs) w) v.0) refl))
    (eq-eqb 1 ((sized_stmt vs (keeps signals b)).weight []) (sym (keeper_weight vs signals b)))

all_append : {A : Type 0} (p : A → Bool) (xs ys : List A) → list_all p xs ≡ true → list_all p ys ≡ true → list_all p (xs ++ ys) ≡ true
all_append p [] ys h k = k
all_append p (x ∷ xs) ys h k = let e = both_true (p x) (list_all p xs) h in true_both (p x) (list_all p (xs ++ ys)) e.0 (all_append p xs ys e.1 k)

keepers_fit : (scopes : List Scope) (signals : List Signal) (bs : List BitRef) → list_all (signal_fits scopes) signals ≡ true → ((b : BitRef) → In b bs → is_bit (signal_lengths signals) b ≡ true)
    → list_all (item_fits (signal_lengths signals) (length_at signals) (length scopes)) (map (keeper_of signals) bs) ≡ true
keepers_fit scopes signals [] h k = refl
keepers_fit scopes signals (b ∷ bs) h k = true_both _ _ (keeper_fits scopes signals b h (k b (inl refl))) (keepers_fit scopes signals bs h (λ x m. k x (inr m)))

-- the items that keep bits are formed, where the others are
formed_more : (scopes : List Scope) (signals : List Signal) (items : List Item) (inits : List PowerUp) → are_formed scopes signals items ≡ true → are_formed scopes signals (items ++ keepers signals items inits) ≡ true
unfolding are_formed
formed_more scopes signals items inits h =
    let a = both_true _ _ h in
    let e = both_true _ _ a.0 in
    true_both _ _ a.0 (all_append (item_fits (signal_lengths signals) (length_at signals) (length scopes)) items (keepers signals items inits) a.1
    (keepers_fit scopes signals (filter (is_kept signals items inits) (bits_of_signals 0 signals)) e.1 (λ x m. all_fit signals x (in_filter (is_kept signals items inits) (bits_of_signals 0 signals) x m).0)))

-- parts that are formed and print apart make a design, with the items that keep bits and the power-up values, if they are not too heavy
pub is_made : (scopes : List Scope) (signals : List Signal) (items : List Item) (inits : List PowerUp) → are_formed scopes signals items ≡ true → scopes_apart scopes ≡ true → print_apart signals ≡ true
    → total_weight signals (items ++ keepers signals items inits) ≤ 2 ^ 22 → is_design scopes signals (items ++ keepers signals items inits) (power_list signals items inits) ≡ true
unfolding is_design
is_made scopes signals items inits h s p l =
    true_both _ _ (true_both _ _ (true_both _ _ (true_both _ _ (formed_more scopes signals items inits h) s) p) (power_bits signals items inits)) (is_le (total_weight signals (items ++ keepers signals items inits)) (2 ^ 22) l)
