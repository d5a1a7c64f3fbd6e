-- What is proved of values and faults, beside the definitions.
use Rattle.std.specs.Prelude.{◌≡◌, ℕ, ◌+◌, ◌*◌, ◌<◌, ◌≤◌, ◌^◌, Bool, true, false, List, [], ◌++◌, length, Option, Some, None}
use Rattle.vl_tree.specs.declared.faults.Code.{Code}
use Rattle.vl_tree.specs.declared.faults.Code.TheVariants.{NotConstant, WideArithmetic}
use Rattle.vl_size.specs.declared.operators.SystemFunction.{SystemFunction}
use Rattle.vl_size.specs.declared.operators.SystemFunction.TheVariants as s
use Rattle.vl_size.specs.declared.tree.Size.{Size}
use Rattle.vl_size.specs.declared.tree.Sizing.{Sizing}
use Rattle.vl_size.specs.Terms.{Term, Terms, Pick, Picks, number, name, call, system, concat, repeat, group, unary, binary, choice, index, range, up, down, whole, pick}
use Rattle.vl_size.specs.Terms as term
use Rattle.design_core.specs.declared.operators.Unary.{Unary}
use Rattle.vl_size.specs.Owns.{own}
use Rattle.vl_const.specs.declared.answers.Answer.{Answer}
use Rattle.vl_const.specs.declared.operators.Work.{Work}
use Rattle.vl_const.specs.Answers.{tested, is_sound}
use Rattle.vl_tree.specs.Order.{where_true, lowest, if_any}
use Rattle.vl_const.specs.Operators.{work_of, unary_of, power, ceiling_log, is_negative, magnitude, signed_bits, quotient, remainder}
use Rattle.bits_core.specs.Places.{exclusive_or}
use Rattle.bits_core.specs.Numbers.{bits_of}
use Rattle.bits_core.specs.Numbers.{number as number_of}
use Rattle.vl_const.specs.Rooms.{room}
use Rattle.vl_const.specs.Scopes.{Meaning}
use Rattle.vl_const.specs.Streams.{first_node, inside, behind, own_size, own_context, part_context}
use Rattle.vl_const.specs.Values.{Values, Found, fault_at, rest_of}
use Rattle.vl_const.specs.Worths.{worth, wide_here}

-- the parts of an operator, each in its context
abbrev pub part_one : Meaning → Term → List Sizing → Size → Values → Found Answer
part_one m t ss x cs = worth m t (inside ss) (part_context ss x true (inside ss)) cs

abbrev pub part_two : Meaning → Term → List Sizing → Size → Values → Found Answer
part_two m t ss x cs = worth m t (behind (inside ss)) (part_context ss x false (behind (inside ss))) cs

-- the faults of an operator itself
abbrev pub wide_codes : Bool → List Code
wide_codes wide = if_any (where_true wide WideArithmetic)

abbrev pub unary_codes : Option Unary → Bool → List Code
unary_codes None wide = []
unary_codes (Some op) wide = wide_codes wide

abbrev pub system_codes : SystemFunction → Answer → List Code
system_codes s.Signed a = []
system_codes s.Unsigned a = []
system_codes s.CeilingLog a = if_any (where_true a.reads NotConstant)

abbrev pub binary_codes : Work → List Sizing → Size → Answer → Answer → List Code
binary_codes op ss x a c =
    if_any (tested op (is_sound (first_node (behind (inside ss))).fault c) (own_context (behind (inside ss))).signed a c) ++ wide_codes (wide_here ss x)

abbrev mutual
  -- each fault of an expression and of its counts, bounds and widths, place by place
  pub faults : Meaning → Term → List Sizing → Size → Values → List Code
  faults m (number text) ss x cs = []
  faults m (name w ps) ss x cs = faults_picks m ps ss cs
  faults m (call w ts) ss x cs = faults_each m ts (inside ss) cs
  faults m (system f a) ss x cs = faults m a (inside ss) (own_context (inside ss)) cs ++ system_codes f (worth m a (inside ss) (own_context (inside ss)) cs).0
  faults m (concat ts) ss x cs = faults_each m ts (inside ss) cs
  faults m (repeat c ts) ss x cs = if_any (fault_at cs) ++ faults_each m ts (inside ss) (rest_of cs)
  faults m (group a) ss x cs = faults m a (inside ss) x cs
  faults m (unary op a) ss x cs = faults m a (inside ss) (part_context ss x true (inside ss)) cs ++ unary_codes (unary_of op) (wide_here ss x)
  faults m (binary op a c) ss x cs =
      (faults m a (inside ss) (part_context ss x true (inside ss)) cs ++ faults m c (behind (inside ss)) (part_context ss x false (behind (inside ss))) (part_one m a ss x cs).1)
      ++ binary_codes (work_of op) ss x (part_one m a ss x cs).0 (part_two m c ss x (part_one m a ss x cs).1).0
  faults m (choice t a c) ss x cs =
      faults m t (inside ss) (part_context ss x true (inside ss)) cs
      ++ (faults m a (behind (inside ss)) (part_context ss x false (behind (inside ss))) (part_one m t ss x cs).1
      ++ faults m c (behind (behind (inside ss))) (part_context ss x false (behind (behind (inside ss)))) (part_two m a ss x (part_one m t ss x cs).1).1)

  pub faults_picks : Meaning → Picks → List Sizing → Values → List Code
  faults_picks m whole ss cs = []
  faults_picks m (pick p ps) ss cs = faults_pick m p (inside ss) cs ++ wide_codes (wide_here ss (own_size ss))

  pub faults_pick : Meaning → Pick → List Sizing → Values → List Code
  faults_pick m (index a) ss cs = faults m a ss (own_context ss) cs
  faults_pick m (range h l) ss cs = if_any (fault_at cs) ++ if_any (fault_at (rest_of cs))
  faults_pick m (up a w) ss cs = faults m a ss (own_context ss) cs ++ if_any (fault_at (worth m a ss (own_context ss) cs).1)
  faults_pick m (down a w) ss cs = faults m a ss (own_context ss) cs ++ if_any (fault_at (worth m a ss (own_context ss) cs).1)

  pub faults_each : Meaning → Terms → List Sizing → Values → List Code
  faults_each m term.none ss cs = []
  faults_each m (term.more t ts) ss cs = faults m t ss (own_context ss) cs ++ faults_each m ts (behind ss) (worth m t ss (own_context ss) cs).1

-- what is told of a walk is the lowest of these
abbrev pub FaultsAreLowest : Type 0
FaultsAreLowest = (m : Meaning) (t : Term) (ss : List Sizing) (x : Size) (cs : Values) → (worth m t ss x cs).0.fault ≡ lowest (faults m t ss x cs)

-- a value has the length of its context
abbrev pub ValuesAreLong : Type 0
ValuesAreLong = (m : Meaning) (t : Term) (ss : List Sizing) (x : Size) (cs : Values) → length (worth m t ss x cs).0.value ≡ room x.length

-- the walk uses the values that the sizes use
abbrev pub ValuesAreUsed : Type 0
ValuesAreUsed = (m : Meaning) (t : Term) (ss : List Sizing) (x : Size) (cs : Values) → (worth m t ss x cs).1.0 ≡ (own m.look t cs.0).1

-- a power by squares is the power of the numbers
abbrev pub PowersAreOfNumbers : Type 0
PowersAreOfNumbers = (a c : List Bool) → power a c ≡ bits_of (length a) (number_of a ^ number_of c)

-- k is the least with 2 ^ k at least n
pub record IsLeastLog (n k : ℕ) : Type 0 where
  pub enough : n ≤ 2 ^ k
  pub least : (j : ℕ) → n ≤ 2 ^ j → k ≤ j

-- `$clog2` gives the least such number
abbrev pub LogarithmsAreLeast : Type 0
LogarithmsAreLeast = (a : List Bool) → IsLeastLog (number_of a) (ceiling_log a)

-- the number of the bits without its sign
abbrev pub amount : Bool → List Bool → ℕ
amount signed a = number_of (magnitude (is_negative signed a) a)

-- A number is so many times another and what is left, which is less than the other. The quotient is below 0 where one of the two is, and what is
-- left where the first is: so the quotient is cut towards 0.
pub record IsDivided (signed : Bool) (a c : List Bool) : Type 0 where
  pub times : ℕ
  pub left : ℕ
  pub whole : amount signed a ≡ times * amount signed c + left
  pub less : left < amount signed c
  pub quotient_is : quotient signed a c ≡ signed_bits (exclusive_or (is_negative signed a) (is_negative signed c)) (length a) times
  pub remainder_is : remainder signed a c ≡ signed_bits (is_negative signed a) (length a) left

abbrev pub NumbersAreDivided : Type 0
NumbersAreDivided = (signed : Bool) (a c : List Bool) → 0 < amount signed c → IsDivided signed a c
