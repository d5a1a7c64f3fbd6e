-- What is found of an expression in its context: its value, whether it reads a signal or calls a function, and the lowest code among its faults.
use Rattle.std.specs.Prelude.{ℕ, ◌*◌, Bool, true, false, not, ◌&&◌, ◌||◌, nat_lt, nat_eq, List, [], ◌∷◌, ◌++◌, length, reverse, replicate, Option, Some, None, ℤ, pos, negsuc, if◌then◌else◌}
use Rattle.bits_core.specs.Numbers.{bits_of}
use Rattle.bits_core.specs.Places.{extended, selected, is_set}
use Rattle.design_core.specs.declared.operators.Unary.{Unary}
use Rattle.design_core.specs.Operators.{unary_value, chosen, repeated}
use Rattle.vl_tree.specs.declared.faults.Code.{Code}
use Rattle.vl_tree.specs.declared.faults.Code.TheVariants.{NotConstant, ZeroDivisor, WideArithmetic}
use Rattle.vl_size.specs.declared.constant.Const.{Const}
use Rattle.vl_size.specs.declared.operators.SystemFunction.{SystemFunction}
use Rattle.vl_size.specs.declared.operators.SystemFunction.TheVariants as s
use Rattle.vl_size.specs.declared.table.SizeEntry.{SizeEntry}
use Rattle.vl_size.specs.declared.table.NameKind.TheVariants as kind
use Rattle.vl_size.specs.declared.tree.Size.{Size}
use Rattle.vl_size.specs.Nodes.{sizes, bit, is_kind}
use Rattle.vl_const.specs.declared.answers.Answer.{Answer}
use Rattle.vl_const.specs.declared.answers.Joined.{Joined}
use Rattle.vl_const.specs.declared.answers.Place.{Place}
use Rattle.vl_const.specs.declared.operators.Work.{Work}
use Rattle.vl_const.specs.declared.operators.Work.TheVariants as work
use Rattle.vl_const.specs.declared.places.Way.{Way}
use Rattle.vl_tree.specs.Order.{lower, where_true}
use Rattle.vl_const.specs.Operators.{worked, is_negative, ceiling_log}
use Rattle.vl_const.specs.Places.{aim_of, low_at}
use Rattle.vl_const.specs.Rooms.{room}

abbrev pub is_none : Option Code → Bool
is_none None = true
is_none (Some c) = false

-- bits brought to a context: cut, or extended by sign where the context is signed (5.5.2)
abbrev pub fit : Size → List Bool → List Bool
fit x v = extended x.signed (room x.length) v

abbrev pub answer : List Bool → Bool → Option Code → Answer
answer v r f = record { value = v; reads = r; fault = f }

abbrev pub brought : Size → Answer → Answer
brought x a = answer (fit x a.value) a.reads a.fault

-- what is no constant has 0 for a value
abbrev pub zeros : Size → List Bool
zeros x = replicate (room x.length) false

abbrev pub with_fault : Option Code → Answer → Answer
with_fault f a = answer a.value a.reads (lower f a.fault)

-- an operator before an operand, in the context x
abbrev pub unary_made : Option Unary → Bool → Size → Answer → Answer
unary_made None wide x a = brought x a
unary_made (Some op) wide x a = answer (fit x (unary_value op a.value)) a.reads (lower a.fault (where_true wide WideArithmetic))

-- The faults of an operator on constants: an operand that is none, a divisor 0, an exponent below 0. The value of the second operand is tested where
-- it has no fault of its own.
abbrev pub tested : Work → Bool → Bool → Answer → Answer → Option Code
tested (work.Plain op) sound signed a c = None
tested work.Quotient sound signed a c = lower (where_true (a.reads || c.reads) NotConstant) (where_true (sound && not (is_set c.value)) ZeroDivisor)
tested work.Remainder sound signed a c = lower (where_true (a.reads || c.reads) NotConstant) (where_true (sound && not (is_set c.value)) ZeroDivisor)
tested work.Power sound signed a c = where_true ((a.reads || c.reads) || (sound && is_negative signed c.value)) NotConstant

-- whether the value of an operand may be tested, where `own` is the lowest code of its sizes
abbrev pub is_sound : Option Code → Answer → Bool
is_sound own a = not a.reads && (is_none own && is_none a.fault)

-- what surrounds an operator: its context, the sign by which it works, whether it is too wide, and the lowest code and the sign of its second operand
abbrev pub binary_made : Work → Size → Bool → Bool → Option Code → Bool → Answer → Answer → Answer
binary_made op x signed wide own second a c =
    answer (fit x (worked op signed a.value c.value)) (a.reads || c.reads)
    (lower (lower a.fault c.fault) (lower (tested op (is_sound own c) second a c) (where_true wide WideArithmetic)))

abbrev pub choice_made : Size → Answer → Answer → Answer → Answer
choice_made x t a c = answer (fit x (chosen t.value a.value c.value)) (t.reads || (a.reads || c.reads)) (lower t.fault (lower a.fault c.fault))

abbrev pub system_made : SystemFunction → Size → Answer → Answer
system_made s.Signed x a = brought x a
system_made s.Unsigned x a = brought x a
system_made s.CeilingLog x a = answer (fit x (bits_of 32 (ceiling_log a.value))) a.reads (lower a.fault (where_true a.reads NotConstant))

-- parts of a concatenation, the highest bit first
abbrev pub nothing : Joined
nothing = record { bits = []; reads = false; fault = None }

-- a part of n bits behind others; one of no bits, a replication of count 0, is dropped
abbrev pub joined : Joined → ℕ → Answer → Joined
joined j n a = record { bits = j.bits ++ (if nat_eq n 0 then [] else reverse a.value); reads = j.reads || a.reads; fault = lower j.fault a.fault }

-- the number of copies, where they are not too long
abbrev pub copies : Option ℤ → ℕ → ℕ
copies (Some (pos k)) n = if nat_lt 65536 (k * n) then 1 else k
copies (Some (negsuc k)) n = 1
copies None n = 1

abbrev pub concat_made : Size → Joined → Answer
concat_made x j = answer (fit x (reverse j.bits)) j.reads j.fault

abbrev pub repeat_made : Option ℤ → Option Code → Size → Joined → Answer
repeat_made count f x j = answer (fit x (reverse (repeated (copies count (length j.bits)) j.bits))) j.reads (lower f j.fault)

abbrev pub call_made : Size → Joined → Answer
call_made x j = answer (zeros x) true j.fault

abbrev pub value_bits : Option Const → List Bool
value_bits None = false ∷ []
value_bits (Some c) = c.bits

-- a name: a constant has its value, a signal is read
abbrev pub leaf : Option SizeEntry → Option Const → Answer
leaf None v = answer (zeros bit) false None
leaf (Some e) v =
    if is_kind e.kind kind.Constant then answer (fit (sizes e.length e.signed) (value_bits v)) false None
    else answer (zeros (sizes e.length e.signed)) (not (is_kind e.kind kind.Function)) None

-- where the bits of a select lie, by an index
abbrev pub place : Way → Option ℤ → Bool → Option Code → Place
place w i r f = record { way = w; at = i; reads = r; fault = f }

abbrev pub select_low : Option SizeEntry → Place → ℤ
select_low None p = pos 0
select_low (Some e) p = low_at (aim_of e p.way) p.at

-- a select of a name, of so many bits
abbrev pub select_made : Option SizeEntry → Size → Bool → Answer → Place → Answer
select_made e own wide a p =
    answer (selected (select_low e p) (room own.length) a.value) (a.reads || p.reads) (lower (lower a.fault p.fault) (where_true wide WideArithmetic))
