-- What holds of an outcome.
use Rattle.std.proofs.Common.{Bool, true, false, if◌then◌else◌, Ok, Err}
use Rattle.vl_lex.specs.Gate.{Reached, and_then}

-- where the walk goes on
abbrev pub Holds : {S : Type 0} → (S → Type 0) → Reached S → Type 0
Holds R (Ok a) = R a
Holds R (Err e) = Unit {0}

pub then_holds : {A B : Type 0} (R : A → Type 0) (S : B → Type 0) (o : Reached A) (f : A → Reached B) → Holds R o → ((a : A) → R a → Holds S (f a)) → Holds S (and_then o f)
then_holds R S (Ok a) f g k = k a g
then_holds R S (Err e) f g k = tt

-- whatever the call before gave
pub anyway : {A B : Type 0} (S : B → Type 0) (o : Reached A) (f : A → Reached B) → ((a : A) → Holds S (f a)) → Holds S (and_then o f)
anyway S (Ok a) f k = k a
anyway S (Err e) f k = tt

pub either : {A : Type 0} (R : A → Type 0) (c : Bool) (x y : Reached A) → Holds R x → Holds R y → Holds R (if c then x else y)
either R true x y g k = g
either R false x y g k = k
