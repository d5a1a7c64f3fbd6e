-- The innermost branch is the last of the list.
use Rattle.std.proofs.Common.{◌≡◌, Some, None, List, [], ◌∷◌, ◌++◌, length, refl, ap, ◌∙◌, arith}
use Rattle.vl_lex.specs.declared.branches.Branch.{Branch}
use Rattle.vl_lex.specs.Walk.{top, below}

top_last : (xs : List Branch) (x : Branch) → top (xs ++ x ∷ []) ≡ Some x
top_last [] x = refl
top_last (y ∷ []) x = refl
top_last (y ∷ z ∷ xs) x = top_last (z ∷ xs) x

below_last : (xs : List Branch) (x : Branch) → below (xs ++ x ∷ []) ≡ xs
below_last [] x = refl
below_last (y ∷ []) x = refl
below_last (y ∷ z ∷ xs) x = ap (λ r. y ∷ r) (below_last (z ∷ xs) x)

pub top_of : (old xs : List Branch) (x : Branch) → old ≡ xs ++ x ∷ [] → top old ≡ Some x
top_of old xs x e = ap top e ∙ top_last xs x

pub below_of : (old xs : List Branch) (x : Branch) → old ≡ xs ++ x ∷ [] → below old ≡ xs
below_of old xs x e = ap below e ∙ below_last xs x

pub none_open : (old : List Branch) → length old ≡ 0 → top old ≡ None
none_open [] h = refl
none_open (x ∷ xs) h = absurd (omega arith)

pub ruleset tops = (top_of, below_of, none_open)
