-- What a left side surely names, by its parts.
use Rattle.std.proofs.Common.{◌≡◌, ℕ, Bool, false, ◌||◌, List, [], ◌∷◌, map, refl, ◌∙◌, ap, ℤ, pos}
use Rattle.std.specs.List.{list_any}
use Rattle.design_core.specs.declared.place.BitRef.{BitRef}
use Rattle.design_core.specs.declared.tree.DBase.{DBase}
use Rattle.design_core.specs.declared.tree.DBase.TheVariants as base
use Rattle.design_core.specs.declared.tree.DExpr.{DExpr}
use Rattle.design_core.specs.declared.tree.DLeft.{DLeft}
use Rattle.design_core.specs.declared.tree.DLeft.TheVariants as lefts
use Rattle.design_core.specs.Core.{slice, surely_names, left_drives}
use Rattle.design_core.specs.Terms.{left, all_left, base_of, size_of}
use Rattle.design_core.proofs.TermLaws.{left_whole, left_part, left_at, left_concat}

slice_sure : (d : DBase) (m n : ℕ) (low : ℤ) (b : BitRef) → surely_names (slice (base_of d) m low n) b ≡ left_drives (slice (base_of d) m low n) b
slice_sure (base.Signal s) m n low b = refl
slice_sure (base.Local k) m n low b = refl

module _ (size : ℕ → ℕ) (b : BitRef) where
  all_sure : (ls : List DLeft) → surely_names (all_left (map (left size) ls)) b ≡ list_any (λ (l : DLeft). surely_names (left size l) b) ls
  all_sure [] = refl
  all_sure (l ∷ ls) = ap (λ x. surely_names (left size l) b || x) (all_sure ls)

  pub left_concat_sure : (l : DLeft) (parts : List DLeft) → l ≡ lefts.Concat parts → surely_names (left size l) b ≡ list_any (λ (x : DLeft). surely_names (left size x) b) parts
  left_concat_sure l parts is = ap (λ t. surely_names t b) (left_concat size l parts is) ∙ all_sure parts

  pub left_whole_sure : (l : DLeft) (d : DBase) (n : ℕ) → l ≡ lefts.Whole d n → surely_names (left size l) b ≡ left_drives (slice (base_of d) n (pos 0) n) b
  left_whole_sure l d n is = ap (λ t. surely_names t b) (left_whole size l d n is) ∙ slice_sure d n n (pos 0) b

  pub left_part_sure : (l : DLeft) (d : DBase) (low : ℤ) (n : ℕ) → l ≡ lefts.Part d low n → surely_names (left size l) b ≡ left_drives (slice (base_of d) (size_of size d) low n) b
  left_part_sure l d low n is = ap (λ t. surely_names t b) (left_part size l d low n is) ∙ slice_sure d (size_of size d) n low b

  -- a variable index surely names none
  pub left_at_sure : (l : DLeft) (d : DBase) (index : DExpr) (offset : ℤ) (down : Bool) (n : ℕ) → l ≡ lefts.At d index offset down n → surely_names (left size l) b ≡ false
  left_at_sure l d index offset down n is = ap (λ t. surely_names t b) (left_at size l d index offset down n is)
