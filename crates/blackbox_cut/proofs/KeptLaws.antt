-- What a design keeps of its scopes and of the scopes of its items.
use Rattle.std.proofs.Common.{◌≡◌, ℕ, ◌+◌, ◌<◌, Bool, true, false, cond, List, [], ◌∷◌, ◌++◌, length, get_or, take, ap, refl, sym, ◌∙◌, arith}
use Rattle.std.proofs.lemmas.Bool.{false≢true}
use Rattle.std.specs.Prelude.{nat_lt}
use Rattle.std.specs.List.{filter, list_all}
use Rattle.std.proofs.lemmas.Bool.Decides.{nat_tests}
use Rattle.std.proofs.lemmas.List.{append-nil, get_or_read}
use Rattle.std.proofs.lemmas.List.Elements.{filter_more}
use Rattle.std.proofs.lemmas.List.Folds.{list_all_at}
use Rattle.design_core.specs.declared.design.Design.{Design}
use Rattle.design_core.specs.declared.items.Item.{Item}
use Rattle.design_core.specs.Parts.{length_at, scope_of}
use Rattle.design_core.specs.Wellformed.{are_formed, is_design, item_fits, signal_lengths}
use Rattle.design_core.proofs.BoolLaws.{both_true}
use Rattle.blackbox_cut.proofs.BoxLaws.{AreLower, are_lower}

pub parents_are_lower : (design : Design) → AreLower design.scopes
unfolding is_design are_formed
parents_are_lower design = are_lower design.scopes (both_true _ _ (both_true _ _ (both_true _ _ (both_true _ _ (both_true _ _ (both_true _ _ (both_true _ _ design.kept).0).0).0).0).0).0).1

below_is : (a b : ℕ) → nat_lt a b ≡ true → a < b
below_is a b h = grind (arith, nat_tests)

at_by : {X : Type 0} (p : X → Bool) (xs : List X) (i : ℕ) (d : X) → i < length xs → list_all p xs ≡ true → (b : Bool) → p (get_or xs i d) ≡ b → p (get_or xs i d) ≡ true
at_by p xs i d lt h true e = e
at_by p xs i d lt h false e = absurd (false≢true (sym (list_all_at p xs i d lt e) ∙ h))

all_at : {X : Type 0} (p : X → Bool) (xs : List X) (i : ℕ) (d : X) → i < length xs → list_all p xs ≡ true → p (get_or xs i d) ≡ true
all_at p xs i d lt h = at_by p xs i d lt h (p (get_or xs i d)) refl

-- the scope of an item is one of the design's
pub item_stands : (design : Design) (k : ℕ) (d : Item) → k < length design.items → scope_of (get_or design.items k d) < length design.scopes
unfolding is_design are_formed
item_stands design k d lt =
    let all = (both_true _ _ (both_true _ _ (both_true _ _ (both_true _ _ (both_true _ _ design.kept).0).0).0).0).1 in
    let fits = all_at (item_fits (signal_lengths design.signals) (length_at design.signals) (length design.scopes)) design.items k d lt all in
    below_is _ _ (both_true _ _ (both_true _ _ fits).0).0

-- an item more that stays, or that goes
module _ (p : Item → Bool) (items : List Item) (i : ℕ) (x : Item) (within : i < length items) (is : x ≡ get_or items i x) where
  pub stays : (all news : List Item) → p x ≡ true → news ≡ all ++ x ∷ [] → all ≡ filter p (take i items) → news ≡ filter p (take (i + 1) items)
  stays all news kept new h = new ∙ ap (λ xs. xs ++ x ∷ []) h
      ∙ sym (filter_more p items i x within ∙ ap (λ (y : Item). filter p (take i items) ++ cond (p y) (y ∷ []) []) (sym is) ∙ ap (λ b. filter p (take i items) ++ cond b (x ∷ []) []) kept)

  pub goes : (all : List Item) → p x ≡ false → all ≡ filter p (take i items) → all ≡ filter p (take (i + 1) items)
  goes all gone h = h ∙ sym (filter_more p items i x within ∙ ap (λ (y : Item). filter p (take i items) ++ cond (p y) (y ∷ []) []) (sym is)
      ∙ ap (λ b. filter p (take i items) ++ cond b (x ∷ []) []) gone ∙ append-nil (filter p (take i items)))

-- what a mark that was read says of its scope
pub told_by : (marks : List Bool) (s at : ℕ) (v b : Bool) → at ≡ s → at < length marks → v ≡ get_or marks at v → get_or marks s false ≡ b → b ≡ v
told_by marks s at v b same lt read told = sym told ∙ ap (λ k. get_or marks k false) (sym same) ∙ sym (get_or_read marks at v lt read false)
