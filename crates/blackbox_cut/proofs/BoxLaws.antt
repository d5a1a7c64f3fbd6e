-- A scope is a box or inside one where it is a box itself, or the scope round it is so: parents have lower numbers.
use Rattle.std.proofs.Common.{◌≡◌, ℕ, zero, suc, ◌+◌, ◌<◌, ◌≤◌, ◌≢◌, Bool, true, false, ◌||◌, List, [], ◌∷◌, length, get_or, set, Option, Some, None, refl, sym, ap, ◌∙◌, arith, slice_index_or, ◌⊎◌, inl, inr, ap₂}
use Rattle.std.specs.Prelude.{nat_lt}
use Rattle.std.proofs.lemmas.Bool.Decides.{eqb_tells, nat_tests}
use Rattle.std.proofs.lemmas.List.{get_or-map, get_or_past, get_or-set_same, get_or-set_other}
use Rattle.std.proofs.lemmas.Option.{none-some}
use Rattle.design_core.specs.declared.signals.Scope.{Scope}
use Rattle.design_core.specs.Parts.{boxed_within, is_boxed, parent_of, where_some}
use Rattle.design_core.specs.Wellformed.{same_bytes, dotted, path_at, scope_fits, scopes_fit}
use Rattle.design_core.proofs.BoolLaws.{both_true}

-- parents have lower numbers
abbrev pub AreLower : List Scope → Type 0
AreLower scopes = (s p : ℕ) → parent_of scopes s ≡ Some p → p < s

below_is : (a b : ℕ) → nat_lt a b ≡ true → a < b
below_is a b h = grind (arith, nat_tests)

parent_lower : (all : List Scope) (k p : ℕ) (o : Option ℕ) (x : Scope) → scope_fits all k o x ≡ true → o ≡ Some p → p < k
parent_lower all k p None x h e = absurd (none-some p e)
parent_lower all k p (Some q) x h e =
    let l = below_is q k (both_true (nat_lt q k) (same_bytes x.path (dotted (path_at all q) x.name)) h).0 in
    let same : q ≡ p = cc in
    omega (arith, l, same)

lower_from : (all xs : List Scope) (k : ℕ) → scopes_fit all k xs ≡ true → (s p : ℕ) → parent_of xs s ≡ Some p → p < k + s
lower_from all [] k h s p e = absurd (none-some p (sym (get_or_past {X = Option ℕ} [] s None (omega arith)) ∙ e))
lower_from all (x ∷ xs) k h zero p e = let l = parent_lower all k p x.parent x (both_true (scope_fits all k x.parent x) (scopes_fit all (suc k) xs) h).0 e in omega (arith, l)
lower_from all (x ∷ xs) k h (suc s) p e = let l = lower_from all xs (suc k) (both_true (scope_fits all k x.parent x) (scopes_fit all (suc k) xs) h).1 s p e in omega (arith, l)

pub are_lower : (scopes : List Scope) → scopes_fit scopes 0 scopes ≡ true → AreLower scopes
are_lower scopes h s p e = let l = lower_from scopes scopes 0 h s p e in omega (arith, l)

-- either is less, or it is not
nat_cases : (s at : ℕ) → (s < at) ⊎ (at ≤ s)
nat_cases s zero = inr (omega arith)
nat_cases zero (suc at) = inl (omega arith)
nat_cases (suc s) (suc at) = elim (nat_cases s at) [ inl l ↦ inl (omega (arith, l)) | inr m ↦ inr (omega (arith, m)) ]

smaller : (s at : ℕ) → s < at + 1 → s ≢ at → s < at
smaller s at below d = elim (nat_cases s at) [ inl l ↦ l | inr m ↦ absurd (d (omega (arith, m, below))) ]

-- two tests that agree on the parent
same_up : (f g : ℕ → Bool) (o : Option ℕ) → ((p : ℕ) → o ≡ Some p → f p ≡ g p) → where_some f o ≡ where_some g o
same_up f g None h = refl
same_up f g (Some p) h = h p refl

-- the marks below a place tell all, the others tell of the boxes alone
pub record AreMarked (scopes : List Scope) (boxes : ℕ → Bool) (marks : List Bool) (at : ℕ) : Type 0 where
  pub count : length marks ≡ length scopes
  pub told : (s : ℕ) → s < at → slice_index_or marks s false ≡ is_boxed scopes boxes s
  pub here : (s : ℕ) → at ≤ s → s < length marks → slice_index_or marks s false ≡ boxes s

module _ (scopes : List Scope) (boxes : ℕ → Bool) (lower : AreLower scopes) where
  -- more steps than a scope's number change nothing
  enough : (j k s : ℕ) → s < j → s < k → boxed_within j scopes boxes s ≡ boxed_within k scopes boxes s
  enough zero k s lt gt = absurd (omega (arith, lt))
  enough (suc j) zero s lt gt = absurd (omega (arith, gt))
  enough (suc j) (suc k) s lt gt = ap (λ t. boxes s || t) (same_up _ _ (parent_of scopes s)
      (λ p e. let l = lower s p e in enough j k p (omega (arith, l, lt)) (omega (arith, l, gt))))

  pub boxed_out : (s : ℕ) → is_boxed scopes boxes s ≡ (boxes s || where_some (is_boxed scopes boxes) (parent_of scopes s))
  boxed_out s = ap (λ t. boxes s || t) (same_up _ _ (parent_of scopes s) (λ p e. let l = lower s p e in enough s (suc p) p l (omega arith)))

  -- the next mark
  pub mark_next : (marks : List Bool) (at : ℕ) (mark : Bool) → AreMarked scopes boxes marks at → at < length marks
      → mark ≡ (slice_index_or marks at false || where_some (λ p. slice_index_or marks p false) (parent_of scopes at)) → mark ≡ is_boxed scopes boxes at
  mark_next marks at mark h lt is = is ∙ ap (λ t. t || where_some (λ p. slice_index_or marks p false) (parent_of scopes at)) (h.here at (omega arith) lt)
      ∙ ap (λ t. boxes at || t) (same_up _ _ (parent_of scopes at) (λ p e. h.told p (lower at p e))) ∙ sym (boxed_out at)

  -- a mark more
  pub marked_more : (marks news : List Bool) (at : ℕ) (mark : Bool) → AreMarked scopes boxes marks at → at < length marks → mark ≡ is_boxed scopes boxes at → length news ≡ length marks
      → news ≡ set marks at mark → AreMarked scopes boxes news (at + 1)
  marked_more marks news at mark h lt is same new = record {
    count = same ∙ h.count;
    told = λ s below. elim (eqb_tells s at) [
      | inl e ↦ let one : slice_index_or news s false ≡ slice_index_or (set marks at mark) at false = ap₂ (λ xs i. slice_index_or xs i false) new e.1 in
          one ∙ get_or-set_same marks at mark false lt ∙ is ∙ ap (is_boxed scopes boxes) (sym e.1)
      | inr d ↦ ap (λ xs. slice_index_or xs s false) new ∙ get_or-set_other marks at s mark false d.1 ∙ h.told s (smaller s at below d.1)
    ];
    here = λ s from within. ap (λ xs. slice_index_or xs s false) new ∙ get_or-set_other marks at s mark false (λ e. absurd (omega (arith, from, e)))
        ∙ h.here s (omega (arith, from)) (omega (arith, within, same));
  }

-- the scope round a scope that was read
pub parent_is : (scopes : List Scope) (s : ℕ) (x : Scope) → s < length scopes → x ≡ get_or scopes s x → x.parent ≡ parent_of scopes s
parent_is scopes s x lt is = ap (λ (y : Scope). y.parent) is ∙ sym (get_or-map (λ (y : Scope). y.parent) scopes s x None lt)

-- a mark that was found in a slice of the marks
pub mark_of : (scopes : List Scope) (marks seen : List Bool) (at : ℕ) (o : Option ℕ) (mark : Bool) → seen ≡ marks → o ≡ parent_of scopes at
    → mark ≡ (slice_index_or seen at false || where_some (λ p. slice_index_or seen p false) o)
    → mark ≡ (slice_index_or marks at false || where_some (λ p. slice_index_or marks p false) (parent_of scopes at))
mark_of scopes marks seen at o mark same up is = is ∙ ap₂ (λ (ms : List Bool) (q : Option ℕ). slice_index_or ms at false || where_some (λ p. slice_index_or ms p false) q) same up
