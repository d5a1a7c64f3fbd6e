-- One more signal.
use Rattle.std.proofs.Common.{◌≡◌, true, ◌&&◌, List, [], ◌∷◌, ◌++◌, refl}
use Rattle.std.specs.List.{list_all}
use Rattle.design_core.specs.declared.signals.Signal.{Signal}
use Rattle.design_core.proofs.BoolLaws.{both_true, true_both}
use Rattle.design_names.specs.Alike.{is_spanned}

pub all_pushed : (xs : List Signal) (x : Signal) → list_all is_spanned xs ≡ true → is_spanned x ≡ true → list_all is_spanned (xs ++ x ∷ []) ≡ true
all_pushed [] x h k = true_both (is_spanned x) true k refl
all_pushed (y ∷ ys) x h k = let p = both_true (is_spanned y) (list_all is_spanned ys) h in true_both (is_spanned y) (list_all is_spanned (ys ++ x ∷ [])) p.0 (all_pushed ys x p.1 k)
