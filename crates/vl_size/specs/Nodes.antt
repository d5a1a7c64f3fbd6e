-- The own length and sign of each kind of expression, and from where its operands take theirs (IEEE 1364-2005, 5.4 and 5.5).
use Rattle.std.specs.Prelude.{ℕ, suc, ◌+◌, ◌*◌, max, Bool, true, false, ◌&&◌, ◌||◌, not, nat_lt, nat_eq, List, [], ◌∷◌, Option, Some, None, ℤ, pos, negsuc, int_lt, ◌-ℤ◌, unsigned_abs, if◌then◌else◌}
use denote.Enum.Bare.{sameb}
use Rattle.vl_size.specs.contracts.table.NameKind.{the_type}
use Rattle.vl_tree.specs.declared.faults.Code.{Code}
use Rattle.vl_tree.specs.declared.faults.Code.TheVariants.{UnknownName, BadRange}
use Rattle.vl_size.specs.declared.operators.UnaryOperator.{UnaryOperator}
use Rattle.vl_size.specs.declared.operators.UnaryOperator.TheVariants as u
use Rattle.vl_size.specs.declared.operators.BinaryOperator.{BinaryOperator}
use Rattle.vl_size.specs.declared.operators.BinaryOperator.TheVariants as b
use Rattle.vl_size.specs.declared.operators.SystemFunction.{SystemFunction}
use Rattle.vl_size.specs.declared.operators.SystemFunction.TheVariants as s
use Rattle.vl_size.specs.declared.table.SizeEntry.{SizeEntry}
use Rattle.vl_size.specs.declared.table.NameKind.{NameKind}
use Rattle.vl_size.specs.declared.table.NameKind.TheVariants as kind
use Rattle.vl_size.specs.declared.tree.Size.{Size}
use Rattle.vl_size.specs.declared.tree.Node.{Node}
use Rattle.vl_size.specs.declared.tree.Operands.{Operands}
use Rattle.vl_size.specs.declared.tree.Operands.TheVariants.{Apart, Shared, Compared, FirstShared, FirstApart}
use Rattle.vl_size.specs.declared.tree.Narrow.{Narrow}
use Rattle.vl_size.specs.declared.tree.Narrow.TheVariants as narrow
use Rattle.vl_size.specs.Texts.{capped, number_size}
use Rattle.vl_size.specs.declared.tree.Sizing.{Sizing}
use Rattle.vl_tree.specs.Order.{lower, where_true}
use Rattle.vl_size.specs.Sizings.{sizing_of, length_of, signed_of, faults_of, are_constant, is_some_empty}

abbrev pub sizes : ℕ → Bool → Size
sizes n s = record { length = n; signed = s }

-- the length, or 1 where it is too long
abbrev pub cut : ℕ → ℕ
cut n = if nat_lt 65536 n then 1 else n

-- what is known of an expression of these parts; one that is too long is a fault
abbrev pub node_made : Size → Operands → Narrow → Bool → Option Code → List Sizing → Node
node_made x how arithmetic constant fault ps = record {
  size = sizes (cut x.length) x.signed;
  least = 0;
  operands = how;
  narrow = arithmetic;
  constant = constant && are_constant ps;
  fault = lower (faults_of ps) (lower fault (where_true (nat_lt 65536 x.length) BadRange));
}

abbrev pub made : Size → Operands → Narrow → Bool → Option Code → List Sizing → Sizing
made x how arithmetic constant fault ps = sizing_of (node_made x how arithmetic constant fault ps) ps

-- an operator and its operands, of which none has the length 0
abbrev pub applied : Size → Operands → Narrow → List Sizing → Sizing
applied x how arithmetic ps = made x how arithmetic true (where_true (is_some_empty ps) BadRange) ps

abbrev pub one : Sizing → List Sizing
one a = a ∷ []

abbrev pub two : Sizing → Sizing → List Sizing
two a c = a ∷ c ∷ []

-- one bit without a sign
abbrev pub bit : Size
bit = sizes 1 false

abbrev pub own_size : Sizing → Size
own_size a = sizes (length_of a) (signed_of a)

-- the larger length, with a sign where both have one
abbrev pub joint_size : Sizing → Sizing → Size
joint_size a c = sizes (max (length_of a) (length_of c)) (signed_of a && signed_of c)

abbrev pub number_node : List ℕ → Sizing
number_node text = made (number_size text) Apart narrow.Nothing true None []

abbrev pub unary_node : UnaryOperator → Sizing → Sizing
unary_node u.Plus a = applied (own_size a) Shared narrow.Nothing (one a)
unary_node u.Minus a = applied (own_size a) Shared narrow.Context (one a)
unary_node u.Invert a = applied (own_size a) Shared narrow.Nothing (one a)
unary_node u.Not a = applied bit Apart narrow.Nothing (one a)
unary_node u.And a = applied bit Apart narrow.Nothing (one a)
unary_node u.Nand a = applied bit Apart narrow.Nothing (one a)
unary_node u.Or a = applied bit Apart narrow.Nothing (one a)
unary_node u.Nor a = applied bit Apart narrow.Nothing (one a)
unary_node u.Xor a = applied bit Apart narrow.Nothing (one a)
unary_node u.Xnor a = applied bit Apart narrow.Nothing (one a)

-- an operator between operands, by the size of the left one and their joint size
abbrev pub joined : BinaryOperator → Size → Size → List Sizing → Sizing
joined b.Add left joint ps = applied joint Shared narrow.Context ps
joined b.Subtract left joint ps = applied joint Shared narrow.Context ps
joined b.Multiply left joint ps = applied joint Shared narrow.Context ps
joined b.Divide left joint ps = applied joint Shared narrow.Context ps
joined b.Remainder left joint ps = applied joint Shared narrow.Context ps
joined b.Power left joint ps = applied left FirstShared narrow.ContextAndSecond ps
joined b.And left joint ps = applied joint Shared narrow.Nothing ps
joined b.Or left joint ps = applied joint Shared narrow.Nothing ps
joined b.Xor left joint ps = applied joint Shared narrow.Nothing ps
joined b.Xnor left joint ps = applied joint Shared narrow.Nothing ps
joined b.Less left joint ps = applied bit Compared narrow.Operands ps
joined b.LessEqual left joint ps = applied bit Compared narrow.Operands ps
joined b.Greater left joint ps = applied bit Compared narrow.Operands ps
joined b.GreaterEqual left joint ps = applied bit Compared narrow.Operands ps
joined b.Equal left joint ps = applied bit Compared narrow.Nothing ps
joined b.NotEqual left joint ps = applied bit Compared narrow.Nothing ps
joined b.LogicAnd left joint ps = applied bit Apart narrow.Nothing ps
joined b.LogicOr left joint ps = applied bit Apart narrow.Nothing ps
joined b.ShiftLeft left joint ps = applied left FirstShared narrow.Second ps
joined b.ShiftRight left joint ps = applied left FirstShared narrow.Second ps
joined b.ShiftLeftSigned left joint ps = applied left FirstShared narrow.Second ps
joined b.ShiftRightSigned left joint ps = applied left FirstShared narrow.Second ps

abbrev pub binary_node : BinaryOperator → Sizing → Sizing → Sizing
binary_node op a c = joined op (own_size a) (joint_size a c) (two a c)

abbrev pub choice_node : Sizing → Sizing → Sizing → Sizing
choice_node t a c = applied (joint_size a c) FirstApart narrow.Nothing (t ∷ two a c)

abbrev pub system_node : SystemFunction → Sizing → Sizing
system_node s.Signed a = applied (sizes (length_of a) true) Apart narrow.Nothing (one a)
system_node s.Unsigned a = applied (sizes (length_of a) false) Apart narrow.Nothing (one a)
system_node s.CeilingLog a = applied (sizes 32 true) Apart narrow.Nothing (one a)

-- brackets change nothing
abbrev pub group_node : Sizing → Sizing
group_node a = made (own_size a) Shared narrow.Nothing true None (one a)

abbrev pub sum_of : List Sizing → ℕ
sum_of [] = 0
sum_of (t ∷ ts) = length_of t + sum_of ts

-- the sum of the lengths
abbrev pub total : List Sizing → ℕ
total ps = capped (sum_of ps)

-- operands of which one has a length of 1 or more
abbrev pub concat_node : List Sizing → Sizing
concat_node ps = made (sizes (total ps) false) Apart narrow.Nothing true (where_true (nat_eq (total ps) 0) BadRange) ps

abbrev pub times : Option ℤ → ℕ → ℕ
times (Some (pos k)) n = capped (k * n)
times (Some (negsuc k)) n = 1
times None n = 1

-- a count is not below 0
abbrev pub is_bad_count : Option ℤ → Bool
is_bad_count (Some (pos k)) = false
is_bad_count (Some (negsuc k)) = true
is_bad_count None = true

-- so many copies of the parts, which may be none
abbrev pub copies_node : Option ℤ → List Sizing → Node
copies_node count ps = node_made (sizes (times count (total ps)) false) Apart narrow.Nothing true (where_true (is_bad_count count || nat_eq (total ps) 0) BadRange) ps

abbrev pub is_no_copy : Option ℤ → Bool
is_no_copy (Some (pos k)) = nat_eq k 0
is_no_copy (Some (negsuc k)) = false
is_no_copy None = false

abbrev pub constant_where : Bool → Node → Node
constant_where gone n = record { size = n.size; least = n.least; operands = n.operands; narrow = n.narrow; constant = n.constant || gone; fault = n.fault }

-- What is copied no time is dropped, so it reads nothing: the expression is constant whatever its parts are.
abbrev pub repeat_node : Option ℤ → List Sizing → Sizing
repeat_node count ps = sizing_of (constant_where (is_no_copy count) (copies_node count ps)) ps

abbrev pub is_kind : NameKind → NameKind → Bool
is_kind = sameb the_type

-- a whole name; a function is called and not read
abbrev pub name_node : Option SizeEntry → Sizing
name_node None = made bit Apart narrow.Nothing true (Some UnknownName) []
name_node (Some e) = made (sizes e.length e.signed) Apart narrow.Nothing (is_kind e.kind kind.Constant) (where_true (is_kind e.kind kind.Function) UnknownName) []

abbrev pub call_node : Option SizeEntry → List Sizing → Sizing
call_node None ps = made bit Apart narrow.Nothing false (Some UnknownName) ps
call_node (Some e) ps = made (sizes e.length e.signed) Apart narrow.Nothing false (lower (where_true (not (is_kind e.kind kind.Function)) UnknownName) (where_true (is_some_empty ps) BadRange)) ps

-- a signal of one bit that was declared without range has no selects
abbrev pub is_bare : SizeEntry → Bool
is_bare e = is_kind e.kind kind.Signal && (not e.ranged && nat_eq e.length 1)

-- the range of a name falls where its left bound is not below its right one, and where it has none
abbrev pub is_falling : SizeEntry → Bool
is_falling e = not e.ranged || not (int_lt e.high e.low)

-- a select of so many bits with these parts, and whether it is against the rules
abbrev pub select_node : Option SizeEntry → ℕ → Bool → List Sizing → Sizing
select_node None width bad ps = made (sizes width false) Apart narrow.VariableIndex true (Some UnknownName) ps
select_node (Some e) width bad ps = made (sizes width false) Apart narrow.VariableIndex (is_kind e.kind kind.Constant) (lower (where_true (is_kind e.kind kind.Function) UnknownName) (where_true (is_bare e || (bad || is_some_empty ps)) BadRange)) ps

abbrev pub index_node : Option SizeEntry → Sizing → Sizing
index_node e a = select_node e 1 false (one a)

-- a width of 1 or more
abbrev pub width_of : Option ℤ → ℕ
width_of (Some (pos n)) = if nat_eq n 0 then 1 else capped n
width_of (Some (negsuc n)) = 1
width_of None = 1

abbrev pub is_bad_width : Option ℤ → Bool
is_bad_width (Some (pos n)) = nat_eq n 0
is_bad_width (Some (negsuc n)) = true
is_bad_width None = true

-- so many bits from an index upwards, or downwards
abbrev pub part_node : Option SizeEntry → Sizing → Option ℤ → Sizing
part_node e a width = select_node e (width_of width) (is_bad_width width) (one a)

-- the number of places from one bound to the other
abbrev pub span : ℤ → ℤ → ℕ
span h l = capped (suc (unsigned_abs (h -ℤ l)))

abbrev pub range_width : Option ℤ → Option ℤ → ℕ
range_width (Some h) (Some l) = span h l
range_width _ _ = 1

-- against the declared direction
abbrev pub is_against : Option SizeEntry → ℤ → ℤ → Bool
is_against None h l = false
is_against (Some e) h l = if is_falling e then int_lt h l else int_lt l h

abbrev pub is_bad_range : Option SizeEntry → Option ℤ → Option ℤ → Bool
is_bad_range e (Some h) (Some l) = is_against e h l
is_bad_range e _ _ = true

abbrev pub range_node : Option SizeEntry → Option ℤ → Option ℤ → Sizing
range_node e h l = select_node e (range_width h l) (is_bad_range e h l) []
