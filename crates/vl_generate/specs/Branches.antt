-- Which block of a generate construct is taken (IEEE 1364-2005, 12.4.2).
use Rattle.std.specs.Prelude.{ℕ, zero, suc, ◌+◌, Bool, false, ◌||◌, List, [], ◌∷◌, ◌++◌, Option, Some, None, option_map, Ok, if◌then◌else◌}
use Rattle.design_core.specs.Operators.{is_equal}
use Rattle.vl_tree.specs.declared.expressions.Expr.{Expr}
use Rattle.vl_tree.specs.declared.tokens.Token.{Token}
use Rattle.vl_tree.specs.Outcomes.{Outcome, and_then}
use Rattle.vl_size.specs.declared.constant.Const.{Const}
use Rattle.vl_size.specs.declared.tree.Size.{Size}
use Rattle.vl_size.specs.Terms.{term, name_at}
use Rattle.vl_const.specs.Scopes.{Meaning}
use Rattle.vl_items.specs.Parts.{Part, Body, Arm, Arms, port, net, integer, genvar, parameter, assign, always, initial, function, instances, gates, region, loop, choice, cases, begun, single, hollow, absent, matched, otherwise, no_arm, arm}
use Rattle.vl_generate.specs.declared.branches.Taken as code
use Rattle.vl_generate.specs.Values.{test, own_size, joint_size, case_value}

-- a block that is taken: its place in the construct, and the name it has in the source
pub record Taken : Type 0 where
  pub place : List ℕ
  pub label : Option (List ℕ)

abbrev pub taken_block : List ℕ → Option (List ℕ) → Taken
taken_block at n = record { place = at; label = n }

-- the same without where it lies in memory
abbrev pub seen : Option code.Taken → Option Taken
seen None = None
seen (Some t) = Some (taken_block t.place (option_map (λ n. n.now) t.label))

abbrev pub label_by : Option Token → Option (List ℕ)
label_by None = None
label_by (Some t) = Some (name_at t)

-- the name of a block; a single item and an empty block have none
abbrev pub label : Body → Option (List ℕ)
label (begun n ps) = label_by n
label (single p) = None
label hollow = None
label absent = None

abbrev pub taken : List ℕ → Body → Outcome (Option Taken)
taken at b = Ok (Some (taken_block at (label b)))

abbrev mutual
  pub of_else : Meaning → List ℕ → Body → Outcome (Option Taken)
  of_else m at (begun n ps) = taken at (begun n ps)
  of_else m at (single p) = of_single m at p
  of_else m at hollow = taken at hollow
  of_else m at absent = Ok None

  pub of_single : Meaning → List ℕ → Part → Outcome (Option Taken)
  of_single m at (choice t first other) = and_then (test m (term t)) (λ on. if on then taken ((at ++ 0 ∷ []) ++ 0 ∷ []) first else of_else m ((at ++ 0 ∷ []) ++ 1 ∷ []) other)
  of_single m at (port p) = taken at (single (port p))
  of_single m at (net n) = taken at (single (net n))
  of_single m at (integer vs) = taken at (single (integer vs))
  of_single m at (genvar ts) = taken at (single (genvar ts))
  of_single m at (parameter p) = taken at (single (parameter p))
  of_single m at (assign xs) = taken at (single (assign xs))
  of_single m at (always p) = taken at (single (always p))
  of_single m at (initial s) = taken at (single (initial s))
  of_single m at (function f) = taken at (single (function f))
  of_single m at (instances i) = taken at (single (instances i))
  of_single m at (gates g) = taken at (single (gates g))
  of_single m at (region ps) = taken at (single (region ps))
  of_single m at (loop h b) = taken at (single (loop h b))
  of_single m at (cases s as') = taken at (single (cases s as'))

-- an `else` that an `if` follows continues the construct; where nothing stands, nothing is taken
abbrev pub of_choice : Meaning → List ℕ → Expr → Body → Body → Outcome (Option Taken)
of_choice m at t first other = and_then (test m (term t)) (λ on. if on then taken (at ++ 0 ∷ []) first else of_else m (at ++ 1 ∷ []) other)

-- the size that a selector and all items of a `case` share
abbrev pub arm_size : Meaning → Size → Arm → Size
arm_size m x (matched es b) = joint_size m x es
arm_size m x (otherwise b) = x

abbrev pub arms_size : Meaning → Size → Arms → Size
arms_size m x no_arm = x
arms_size m x (arm a as') = arms_size m (arm_size m x a) as'

abbrev pub is_same : Const → Const → Bool
is_same c d = is_equal c.bits d.bits

-- whether one of the items has the value; all are evaluated
abbrev pub some_match : Meaning → Size → Const → Bool → List Expr → Outcome Bool
some_match m x c so_far [] = Ok so_far
some_match m x c so_far (e ∷ es) = and_then (case_value m x e) (λ d. some_match m x c (so_far || is_same c d) es)

-- the places of the first arm whose items match so far, and of `default`
pub record Found : Type 0 where
  pub match : Option ℕ
  pub default : Option ℕ

abbrev pub found_of : Option ℕ → Option ℕ → Found
found_of a b = record { match = a; default = b }

abbrev pub first_of : Option ℕ → ℕ → Option ℕ
first_of None n = Some n
first_of (Some k) n = Some k

abbrev pub with_match : Bool → ℕ → Found → Found
with_match on n f = if on then found_of (first_of f.match n) f.default else f

-- the arm at the place n
abbrev pub with_arm : Meaning → Size → Const → ℕ → Found → Arm → Outcome Found
with_arm m x c n f (matched es b) = and_then (some_match m x c false es) (λ on. Ok (with_match on n f))
with_arm m x c n f (otherwise b) = Ok (found_of f.match (first_of f.default n))

-- the arms from the n-th on
abbrev pub of_arms : Meaning → Size → Const → ℕ → Found → Arms → Outcome Found
of_arms m x c n f no_arm = Ok f
of_arms m x c n f (arm a as') = and_then (with_arm m x c n f a) (λ g. of_arms m x c (n + 1) g as')

abbrev pub or_else : Option ℕ → Option ℕ → Option ℕ
or_else None o = o
or_else (Some n) o = Some n

abbrev pub no_match : Found
no_match = found_of None None

abbrev pub arm_body : Arm → Body
arm_body (matched es b) = b
arm_body (otherwise b) = b

abbrev pub arm_at : Arms → ℕ → Option Arm
arm_at no_arm n = None
arm_at (arm a as') zero = Some a
arm_at (arm a as') (suc n) = arm_at as' n

-- the block of an arm is taken
abbrev pub arm_taken : List ℕ → ℕ → Option Arm → Option Taken
arm_taken at n None = None
arm_taken at n (Some a) = Some (taken_block (at ++ n ∷ []) (label (arm_body a)))

abbrev pub taken_at : List ℕ → Arms → Option ℕ → Option Taken
taken_at at as' None = None
taken_at at as' (Some n) = arm_taken at n (arm_at as' n)

abbrev pub case_size : Meaning → Expr → Arms → Size
case_size m s as' = arms_size m (own_size m s) as'

-- the first arm of which an item has the selector's value, else `default`
abbrev pub of_cases : Meaning → List ℕ → Expr → Arms → Outcome (Option Taken)
of_cases m at s as' =
    and_then (case_value m (case_size m s as') s) (λ c. and_then (of_arms m (case_size m s as') c 0 no_match as') (λ f. Ok (taken_at at as' (or_else f.match f.default))))
