-- A case that always finds its item: its last arm needs no test.
use Rattle.std.specs.Prelude.{◌≡◌, Bool, true, false, ◌||◌, List, [], ◌∷◌}
use Rattle.bits_core.specs.Places.{is_set}
use Rattle.design_core.specs.Core.{Assignment, Term, Stmt, skip, seq, choose, value}

-- an arm of a case, with its test
pub record Arm : Type 0 where
  pub test : Term
  pub body : Stmt

-- the first arm whose test holds, else nothing (9.5)
abbrev pub first_arm : List Arm → Stmt
first_arm [] = skip
first_arm (a ∷ as') = choose a.test a.body (first_arm as')

-- the same, where the last arm is taken without its test
abbrev pub last_untested : Arm → List Arm → Stmt
last_untested a [] = a.body
last_untested a (x ∷ xs) = choose a.test a.body (last_untested x xs)

-- some test holds
abbrev pub some_holds : List Arm → Assignment → List (List Bool) → Bool
some_holds [] σ λs = false
some_holds (a ∷ as') σ λs = is_set (value a.test σ λs) || some_holds as' σ λs

-- the second statement is the first one, where cases of which some test always holds may take their last arm untested
pub data Completes : Stmt → Stmt → Type 0 where
  as_is : {s : Stmt} → Completes s s
  in_seq : {a b x y : Stmt} → Completes a x → Completes b y → Completes (seq a b) (seq x y)
  in_choose : {c : Term} {a b x y : Stmt} → Completes a x → Completes b y → Completes (choose c a b) (choose c x y)
  covering : {x : Stmt} (a : Arm) (as' : List Arm) → ((σ : Assignment) (λs : List (List Bool)) → some_holds (a ∷ as') σ λs ≡ true)
      → Completes (last_untested a as') x → Completes (first_arm (a ∷ as')) x
