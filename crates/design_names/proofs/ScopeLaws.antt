-- The first scope that prints like an earlier one.
use Rattle.std.proofs.Common.{◌≡◌, ℕ, zero, suc, ◌<◌, ◌≤◌, true, List, [], ◌∷◌, ◌++◌, take, length, refl, sym, ap, ◌∙◌, inl, arith}
use Rattle.std.specs.Prelude.{slice_index_or}
use Rattle.std.specs.declared.option.Option.TheVariants.{Some, None}
use Rattle.design_core.specs.declared.signals.Scope.{Scope}
use Rattle.design_core.specs.Wellformed.{all_distinct, scopes_apart}
use Rattle.design_names.specs.Alike.{paths_of, IsFront, IsFirstAlike}
use Rattle.design_names.proofs.DistinctLaws.{shared, has_in}
use Rattle.design_names.proofs.FirstLaws.{front_more, whole}
use Rattle.design_names.proofs.MeetLaws.{stands_get}

front_paths : (xs : List Scope) (n : ℕ) → paths_of (take n xs) ≡ take n (paths_of xs)
front_paths [] zero = refl
front_paths [] (suc n) = refl
front_paths (x ∷ xs) zero = refl
front_paths (x ∷ xs) (suc n) = ap (λ r. x.path ∷ r) (front_paths xs n)

paths_length : (xs : List Scope) → length (paths_of xs) ≡ length xs
paths_length [] = refl
paths_length (x ∷ xs) = ap suc (paths_length xs)

module _ (scopes : List Scope) (front : List (List ℕ)) (w : IsFront front (paths_of scopes)) where
  before : scopes_apart (take (length front) scopes) ≡ true
  unfolding scopes_apart
  before = ap all_distinct (front_paths scopes (length front) ∙ sym w.is_front) ∙ w.distinct

  pub some_scope : length front < length scopes → IsFirstAlike scopes_apart scopes (Some (length front))
  unfolding scopes_apart
  some_scope l =
      let k : length front < length (paths_of scopes) = omega (arith, paths_length scopes) in
      let t = slice_index_or (paths_of scopes) (length front) [] in (
        l,
        before,
        ap all_distinct (front_paths scopes (suc (length front)) ∙ front_more (paths_of scopes) (length front) t (stands_get (paths_of scopes) (length front) [] k) ∙ ap (λ r. r ++ t ∷ []) (sym w.is_front))
            ∙ shared t front (t ∷ []) (has_in t front (w.repeats k)) (inl refl),
      )

  pub none_scope : length scopes ≤ length front → IsFirstAlike scopes_apart scopes None
  none_scope l = ap scopes_apart (sym (whole scopes (length front) l)) ∙ before
