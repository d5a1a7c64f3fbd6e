-- Declared ranges and types, and what a declared name stands for.
use Rattle.std.specs.Prelude.{ℕ, ◌^◌, Bool, true, false, nat_lt, List, [], length, Option, Some, None, Ok, Err, ℤ, pos, negsuc, ◌-ℤ◌, unsigned_abs, suc, if◌then◌else◌}
use Rattle.bits_core.specs.Places.{extended}
use Rattle.vl_tree.specs.declared.faults.Code.TheVariants.{BadRange}
use Rattle.vl_tree.specs.declared.statements.Ptype.{Ptype}
use Rattle.vl_tree.specs.declared.statements.Ptype.TheVariants as ptype
use Rattle.vl_tree.specs.declared.statements.Range.{Range}
use Rattle.vl_tree.specs.Outcomes.{Outcome, and_then}
use Rattle.vl_size.specs.declared.constant.Const.{Const}
use Rattle.vl_size.specs.declared.table.NameKind.{NameKind}
use Rattle.vl_size.specs.declared.table.NameKind.TheVariants as kind
use Rattle.vl_size.specs.declared.table.SizeEntry.{SizeEntry}
use Rattle.vl_size.specs.Constants.{whole}
use Rattle.vl_size.specs.Terms.{Term, term}
use Rattle.vl_const.specs.Rooms.{room}
use Rattle.vl_const.specs.Scopes.{Meaning}
use Rattle.vl_generate.specs.declared.vectors.Form.{Form}
use Rattle.vl_generate.specs.declared.vectors.Form.TheVariants.{Own, OwnSigned, Given}
use Rattle.vl_generate.specs.declared.vectors.Vector.{Vector}
use Rattle.vl_generate.specs.Values.{alone}

-- one bit without range
abbrev pub one_bit : Vector
one_bit = record { ranged = false; length = 1; high = pos 0; low = pos 0 }

-- the bits of an `integer`
abbrev pub integer_bits : Vector
integer_bits = record { ranged = true; length = 32; high = pos 31; low = pos 0 }

-- from -2^31 to 2^31-1
abbrev pub is_bound : ℤ → Bool
is_bound (pos n) = nat_lt n (2 ^ 31)
is_bound (negsuc n) = nat_lt n (2 ^ 31)

abbrev pub bound_of : Option ℤ → Outcome ℤ
bound_of None = Err BadRange
bound_of (Some z) = if is_bound z then Ok z else Err BadRange

-- a declared bound is a number by its sign
abbrev pub bound : Const → Outcome ℤ
bound c = bound_of (whole c)

abbrev pub bound_at : Meaning → Term → Outcome ℤ
bound_at m t = and_then (alone m t) bound

abbrev pub span : ℤ → ℤ → ℕ
span h l = suc (unsigned_abs (h -ℤ l))

-- from one bound to the other there are at most 65,536 bits
abbrev pub between : ℤ → ℤ → Outcome Vector
between h l = if nat_lt 65536 (span h l) then Err BadRange else Ok (record { ranged = true; length = span h l; high = h; low = l })

abbrev pub range_vector : Meaning → Range → Outcome Vector
range_vector m r = and_then (bound_at m (term r.left)) (λ h. and_then (bound_at m (term r.right)) (λ l. between h l))

abbrev pub vector : Meaning → Option Range → Outcome Vector
vector m None = Ok one_bit
vector m (Some r) = range_vector m r

abbrev pub given_form : Bool → Vector → Form
given_form signed v = Given v signed

abbrev pub vector_form : Meaning → Bool → Option Range → Outcome Form
vector_form m signed None = Ok (if signed then OwnSigned else Own)
vector_form m signed (Some r) = and_then (range_vector m r) (λ v. Ok (given_form signed v))

-- the type of a parameter; without a range it has the length of its value
abbrev pub form : Meaning → Option Ptype → Outcome Form
form m None = Ok Own
form m (Some ptype.Integer) = Ok (given_form true integer_bits)
form m (Some (ptype.Vector signed r)) = vector_form m signed r

abbrev pub entry : NameKind → List ℕ → Vector → Bool → List ℕ → SizeEntry
entry k name v signed inputs = record { name = name; kind = k; length = v.length; signed = signed; ranged = v.ranged; high = v.high; low = v.low; inputs = inputs }

abbrev pub signal_entry : List ℕ → Vector → Bool → SizeEntry
signal_entry name v signed = entry kind.Signal name v signed []

abbrev pub bits_vector : List Bool → Vector
bits_vector bits = record { ranged = false; length = length bits; high = pos 0; low = pos 0 }

abbrev pub constant_entry : List ℕ → Form → Const → SizeEntry
constant_entry name Own c = entry kind.Constant name (bits_vector c.bits) c.signed []
constant_entry name OwnSigned c = entry kind.Constant name (bits_vector c.bits) true []
constant_entry name (Given v signed) c = entry kind.Constant name v signed []

-- a value in its type: extended by its own sign, or cut
abbrev pub typed : Form → Const → Const
typed Own c = c
typed OwnSigned c = record { bits = c.bits; signed = true }
typed (Given v signed) c = record { bits = extended c.signed (room v.length) c.bits; signed = signed }
