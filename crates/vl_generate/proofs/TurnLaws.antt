-- The values of a loop are exactly those of its turns.
use Rattle.std.proofs.Common.{◌≡◌, ◌≤◌, ℕ, zero, suc, ◌-◌, Bool, true, false, List, [], ◌∷◌, length, refl, ap, sym, subst, ◌∙◌, Ok, Err, if◌then◌else◌, arith}
use Rattle.vl_tree.specs.declared.faults.Code.TheVariants.{LoopTooLong}
use Rattle.vl_tree.specs.Outcomes.{Outcome, and_then}
use Rattle.vl_size.specs.declared.constant.Const.{Const}
use Rattle.vl_generate.specs.Turns.{values, with_front}
use Rattle.vl_generate.specs.Followed.{Turning, ends, turn, TurnsFollow, once, again, LongLoopsAreRefused}

abbrev Values : Type 0
Values = Outcome (List Const)

-- one value before those of the turns that follow
abbrev behind : Const → Values → Values
behind v o = and_then o (λ vs. Ok (v ∷ vs))

abbrev at_limit : Bool → Values
at_limit on = if on then Err LoopTooLong else Ok []

abbrev on_step : (Const → Values) → Const → Outcome Const → Values
on_step rest v s = and_then s (λ w. behind v (rest w))

abbrev on_turn : (Const → Values) → Const → Outcome Const → Bool → Values
on_turn rest v s on = if on then on_step rest v s else Ok []

last : (go : Const → Outcome Bool) (step : Const → Outcome Const) (v : Const) → values 0 go step v ≡ and_then (go v) at_limit
unfolding values
last go step v = refl

next : (go : Const → Outcome Bool) (step : Const → Outcome Const) (n : ℕ) (v : Const)
    → values (suc n) go step v ≡ and_then (go v) (on_turn (values n go step) v (step v))
unfolding values
next go step n v = refl

value_or : List Const → Values → List Const
value_or vs (Ok ws) = ws
value_or vs (Err c) = vs

abbrev those : List Const → Values
those vs = Ok vs

same : (vs ws : List Const) → those vs ≡ those ws → vs ≡ ws
unfolding value_or
same vs ws e = ap (value_or []) e

abbrev Ahead : (Const → Outcome Bool) → (Const → Outcome Const) → ℕ → Const → List Const → Type 0
Ahead go step n v vs = Turning go step v vs × (length vs ≤ n)

-- the test does not hold: this was the last value
none_behind : (go : Const → Outcome Bool) (step : Const → Outcome Const) (n : ℕ) (v : Const) (vs : List Const) → go v ≡ Ok false → those [] ≡ those vs → Ahead go step n v vs
none_behind go step n v vs is e = subst (λ all. Ahead go step n v all) (same [] vs e) (ends v is, omega arith)

ended : (go : Const → Outcome Bool) (step : Const → Outcome Const) (v : Const) (vs : List Const) (o : Outcome Bool) → go v ≡ o → and_then o at_limit ≡ Ok vs → Ahead go step 0 v vs
ended go step v vs (Ok false) is e = none_behind go step 0 v vs is e
ended go step v vs (Ok true) is e = cc
ended go step v vs (Err c) is e = cc

abbrev Follows : (Const → Outcome Bool) → (Const → Outcome Const) → ℕ → Type 0
Follows go step n = (w : Const) (ws : List Const) → values n go step w ≡ Ok ws → Ahead go step n w ws

joined : (go : Const → Outcome Bool) (step : Const → Outcome Const) (n : ℕ) (v w : Const) (vs : List Const) (o : Values) → Follows go step n → go v ≡ Ok true → step v ≡ Ok w
    → values n go step w ≡ o → behind v o ≡ Ok vs → Ahead go step (suc n) v vs
joined go step n v w vs (Ok ws) rest is there found e =
    let more = rest w ws found in
    let few = more.1 in subst (λ all. Ahead go step (suc n) v all) (same (v ∷ ws) vs e) (turn v w ws is there more.0, omega (arith, few))
joined go step n v w vs (Err c) rest is there found e = cc

stepped : (go : Const → Outcome Bool) (step : Const → Outcome Const) (n : ℕ) (v : Const) (vs : List Const) (s : Outcome Const) → Follows go step n → go v ≡ Ok true → step v ≡ s
    → on_step (values n go step) v s ≡ Ok vs → Ahead go step (suc n) v vs
stepped go step n v vs (Ok w) rest is there e = joined go step n v w vs (values n go step w) rest is there refl e
stepped go step n v vs (Err c) rest is there e = cc

turned : (go : Const → Outcome Bool) (step : Const → Outcome Const) (n : ℕ) (v : Const) (vs : List Const) (o : Outcome Bool) → Follows go step n → go v ≡ o
    → and_then o (on_turn (values n go step) v (step v)) ≡ Ok vs → Ahead go step (suc n) v vs
turned go step n v vs (Ok false) rest is e = none_behind go step (suc n) v vs is e
turned go step n v vs (Ok true) rest is e = stepped go step n v vs (step v) rest is refl e
turned go step n v vs (Err c) rest is e = cc

from : (go : Const → Outcome Bool) (step : Const → Outcome Const) (n : ℕ) → Follows go step n
from go step zero v vs e = ended go step v vs (go v) refl (sym (last go step v) ∙ e)
from go step (suc n) v vs e = turned go step n v vs (go v) (from go step n) refl (sym (next go step n v) ∙ e)

to : (go : Const → Outcome Bool) (step : Const → Outcome Const) (n : ℕ) (v : Const) (vs : List Const) → Turning go step v vs → length vs ≤ n → values n go step v ≡ Ok vs
to go step zero v vs (ends u is) few = last go step u ∙ ap (λ o. and_then o at_limit) is
to go step (suc n) v vs (ends u is) few = next go step n u ∙ ap (λ o. and_then o (on_turn (values n go step) u (step u))) is
to go step zero v vs (turn u w ws is there more) few = absurd (omega (arith, few))
to go step (suc n) v vs (turn u w ws is there more) few =
    next go step n u ∙ ap (λ o. and_then o (on_turn (values n go step) u (step u))) is ∙ ap (on_step (values n go step) u) there
    ∙ ap (behind u) (to go step n w ws more (omega (arith, few)))

pub turns_follow : TurnsFollow
turns_follow go step n v vs = (from go step n v vs, λ both. to go step n v vs both.0 both.1)

pub long_loops : LongLoopsAreRefused
long_loops go step n v (once u is) = last go step u ∙ ap (λ o. and_then o at_limit) is
long_loops go step n v (again k u w is there more) =
    next go step k u ∙ ap (λ o. and_then o (on_turn (values k go step) u (step u))) is ∙ ap (on_step (values k go step) u) there
    ∙ ap (behind u) (long_loops go step k w more)

alone_behind : (o : Values) → o ≡ with_front [] o
alone_behind (Ok vs) = refl
alone_behind (Err c) = refl

-- before the first turn nothing is known
pub at_start : (f : ℕ → Values) (n : ℕ) (front : List Const) → front ≡ [] → f n ≡ with_front front (f (n - 0))
at_start f n front is =
    let all : n ≡ n - 0 = omega arith in alone_behind (f n) ∙ ap (λ k. with_front [] (f k)) all ∙ ap (λ vs. with_front vs (f (n - 0))) (sym is)
