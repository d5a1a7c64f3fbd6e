-- The arm of a `case` that matches is the first that does, and so is the `default`.
use Rattle.std.proofs.Common.{◌≡◌, ℕ, suc, ◌+◌, Bool, true, false, Option, Some, None, refl, ap, sym, subst, ◌∙◌, Ok, Err, arith, option_map}
use Rattle.vl_tree.specs.Outcomes.{Outcome, and_then}
use Rattle.vl_size.specs.declared.constant.Const.{Const}
use Rattle.vl_size.specs.declared.tree.Size.{Size}
use Rattle.vl_const.specs.Scopes.{Meaning}
use Rattle.vl_items.specs.Parts.{Arm, Arms, matched, otherwise, no_arm, arm}
use Rattle.vl_generate.specs.Branches.{Found, found_of, some_match, of_arms, with_match, no_match, first_of, or_else}
use Rattle.vl_generate.specs.Firsts.{matches, is_default, First, nowhere, here, behind, never, FirstArmsCount}

-- a place among the arms from the n-th on
abbrev placed : ℕ → Option ℕ → Option ℕ
placed n o = option_map (λ k. n + k) o

-- what is found behind something that was found before
abbrev Behind : (Arm → Outcome Bool) → ℕ → Option ℕ → Arms → Option ℕ → Type 0
Behind test n before as' after = (o : Option ℕ) × First test as' o × (after ≡ or_else before (placed n o))

none_more : (o : Option ℕ) → o ≡ or_else o None
none_more None = refl
none_more (Some k) = refl

-- an arm for which the test holds, before others
on_here : (test : Arm → Outcome Bool) (n : ℕ) (before : Option ℕ) (a : Arm) (as' : Arms) (after : Option ℕ) → test a ≡ Ok true
    → Behind test (n + 1) (first_of before n) as' after → Behind test n before (arm a as') after
on_here test n None a as' after is more =
    let at : n ≡ n + 0 = omega arith in (Some 0, here a as' is, more.2 ∙ ap (λ k. Some k) at)
on_here test n (Some k) a as' after is more = (Some 0, here a as' is, more.2)

-- an arm for which it does not
passed : (test : Arm → Outcome Bool) (n : ℕ) (before : Option ℕ) (a : Arm) (as' : Arms) (after : Option ℕ) (o : Option ℕ) → test a ≡ Ok false
    → First test as' o → after ≡ or_else before (placed (n + 1) o) → Behind test n before (arm a as') after
passed test n before a as' after None is first e = (None, never a as' is first, e)
passed test n before a as' after (Some k) is first e =
    let same : n + 1 + k ≡ n + suc k = omega arith in (Some (suc k), behind a as' k is first, e ∙ ap (λ at. or_else before (Some at)) same)

on_other : (test : Arm → Outcome Bool) (n : ℕ) (before : Option ℕ) (a : Arm) (as' : Arms) (after : Option ℕ) → test a ≡ Ok false
    → Behind test (n + 1) before as' after → Behind test n before (arm a as') after
on_other test n before a as' after is more = passed test n before a as' after more.0 is more.1 more.2

abbrev Both : Meaning → Size → Const → ℕ → Found → Arms → Found → Type 0
Both m x c n f as' g = Behind (matches m x c) n f.match as' g.match × Behind is_default n f.default as' g.default

abbrev Rest : Meaning → Size → Const → ℕ → Arms → Type 0
Rest m x c n as' = (f g : Found) → of_arms m x c n f as' ≡ Ok g → Both m x c n f as' g

abbrev found : Found → Outcome Found
found f = Ok f

found_or : Found → Outcome Found → Found
found_or f (Ok g) = g
found_or f (Err e) = f

same : (f g : Found) → found f ≡ found g → f ≡ g
unfolding found_or
same f g e = ap (found_or f) e

on_values : (m : Meaning) (x : Size) (c : Const) (n : ℕ) (f g : Found) (a : Arm) (as' : Arms) (o : Outcome Bool) → Rest m x c (n + 1) as' → matches m x c a ≡ o → is_default a ≡ Ok false
    → and_then (and_then o (λ on. Ok (with_match on n f))) (λ h. of_arms m x c (n + 1) h as') ≡ Ok g → Both m x c n f (arm a as') g
on_values m x c n f g a as' (Ok true) rest is other e =
    let both = rest (with_match true n f) g e in (on_here (matches m x c) n f.match a as' g.match is both.0, on_other is_default n f.default a as' g.default other both.1)
on_values m x c n f g a as' (Ok false) rest is other e =
    let both = rest f g e in (on_other (matches m x c) n f.match a as' g.match is both.0, on_other is_default n f.default a as' g.default other both.1)
on_values m x c n f g a as' (Err k) rest is other e = cc

from : (m : Meaning) (x : Size) (c : Const) (n : ℕ) (as' : Arms) (f g : Found) → of_arms m x c n f as' ≡ Ok g → Both m x c n f as' g
from m x c n no_arm f g e =
    let is = same f g e in ((None, nowhere, ap (λ h. h.match) (sym is) ∙ none_more f.match), (None, nowhere, ap (λ h. h.default) (sym is) ∙ none_more f.default))
from m x c n (arm (matched es b) as') f g e = on_values m x c n f g (matched es b) as' (some_match m x c false es) (from m x c (n + 1) as') refl refl e
from m x c n (arm (otherwise b) as') f g e =
    let both = from m x c (n + 1) as' (found_of f.match (first_of f.default n)) g e in
    (on_other (matches m x c) n f.match (otherwise b) as' g.match refl both.0, on_here is_default n f.default (otherwise b) as' g.default refl both.1)

at_zero : (o : Option ℕ) → placed 0 o ≡ o
at_zero None = refl
at_zero (Some k) =
    let e : 0 + k ≡ k = omega arith in ap (λ n. Some n) e

first : (test : Arm → Outcome Bool) (as' : Arms) (after : Option ℕ) → Behind test 0 None as' after → First test as' after
first test as' after some = subst (λ o. First test as' o) (sym (some.2 ∙ at_zero some.0)) some.1

pub first_arms : FirstArmsCount
first_arms m x c as' f e =
    let both = from m x c 0 as' no_match f e in (first (matches m x c) as' f.match both.0, first is_default as' f.default both.1)
