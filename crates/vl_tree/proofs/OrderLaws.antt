-- The lowest of some codes.
use Rattle.std.proofs.Common.{◌≡◌, inl, inr, ℕ, ◌+◌, ◌<◌, ◌≤◌, length, drop, get_or, Bool, true, false, nat_lt, List, [], ◌∷◌, ◌++◌, Option, Some, None, ap, refl, sym, ◌∙◌, arith, if◌then◌else◌}
use Rattle.std.proofs.lemmas.Bool.Decides.{nat_tests}
use Rattle.std.proofs.lemmas.List.{drop_more}
use Rattle.vl_tree.specs.declared.faults.Code.{Code}
use Rattle.vl_tree.specs.Order.{rank, lower, lowest, if_any, those_of, NoneIsBelow, IsLowest}

pub lower_none : (a : Option Code) → lower a None ≡ a
lower_none None = refl
lower_none (Some c) = refl

pub lower_assoc : (a b c : Option Code) → lower (lower a b) c ≡ lower a (lower b c)
lower_assoc None b c = refl
lower_assoc (Some a) None c = refl
lower_assoc (Some a) (Some b) None = lower_none (lower (Some a) (Some b))
lower_assoc (Some a) (Some b) (Some c) = grind (arith, nat_tests)

pub lowest_append : (fs gs : List Code) → lowest (fs ++ gs) ≡ lower (lowest fs) (lowest gs)
lowest_append [] gs = refl
lowest_append (f ∷ fs) gs = ap (lower (Some f)) (lowest_append fs gs) ∙ sym (lower_assoc (Some f) (lowest fs) (lowest gs))

pub lowest_one : (o : Option Code) → lowest (if_any o) ≡ o
lowest_one None = refl
lowest_one (Some c) = refl

pub both : (fs gs : List Code) (a b : Option Code) → a ≡ lowest fs → b ≡ lowest gs → lower a b ≡ lowest (fs ++ gs)
both fs gs a b e f = ap (λ o. lower o b) e ∙ ap (lower (lowest fs)) f ∙ sym (lowest_append fs gs)

pub code : (o : Option Code) → o ≡ lowest (if_any o)
code o = sym (lowest_one o)

below : (c d : Code) (cs : List Code) → rank c ≤ rank d → NoneIsBelow d cs → NoneIsBelow c cs
below c d [] l h = tt
below c d (e ∷ es) l h = let here = h.0 in (omega (arith, l, here), below c d es l h.1)

one_more : (c d : Code) (cs : List Code) (t : Bool) → nat_lt (rank d) (rank c) ≡ t → IsLowest (Some d) cs → IsLowest (if t then Some d else Some c) (c ∷ cs)
one_more c d cs true e h = let l : rank d ≤ rank c = grind (arith, nat_tests) in (inr h.0, (l, h.1))
one_more c d cs false e h = let l : rank c ≤ rank d = grind (arith, nat_tests) in (inl refl, (omega arith, below c d cs l h.1))

with_code : (c : Code) (o : Option Code) (cs : List Code) → IsLowest o cs → IsLowest (lower (Some c) o) (c ∷ cs)
with_code c None [] h = (inl refl, (omega arith, tt))
with_code c None (d ∷ ds) h = absurd h
with_code c (Some d) cs h = one_more c d cs (nat_lt (rank d) (rank c)) refl h

pub lowest_is_lowest : (cs : List Code) → IsLowest (lowest cs) cs
lowest_is_lowest [] = tt
lowest_is_lowest (c ∷ cs) = with_code c (lowest cs) cs (lowest_is_lowest cs)

lowest_those : (f : Option Code) (fs : List (Option Code)) → lowest (those_of (f ∷ fs)) ≡ lower f (lowest (those_of fs))
lowest_those f fs = lowest_append (if_any f) (those_of fs) ∙ ap (λ o. lower o (lowest (those_of fs))) (lowest_one f)

-- one more code of a list, behind others
pub one_more_of : (least new d : Option Code) (fs : List (Option Code)) (k : ℕ) (end : Option Code)
    → k < length fs → new ≡ lower least (get_or fs k d) → lower least (lowest (those_of (drop k fs))) ≡ end → lower new (lowest (those_of (drop (k + 1) fs))) ≡ end
one_more_of least new d fs k end l made whole =
    let rest = those_of (drop (k + 1) fs) in
    ap (λ o. lower o (lowest rest)) made ∙ lower_assoc least (get_or fs k d) (lowest rest)
    ∙ ap (lower least) (sym (lowest_those (get_or fs k d) (drop (k + 1) fs)) ∙ ap (λ gs. lowest (those_of gs)) (sym (drop_more fs k d l))) ∙ whole
