-- Lists of bits place by place, the lowest first: selects, extension, shifts and the operators that join bits.
use Rattle.std.specs.Prelude.{ℕ, ◌+◌, ◌-◌, Bool, true, false, not, ◌&&◌, List, [], ◌∷◌, length, map, slice_index_or, ℤ, pos, negsuc, ◌+ℤ◌, ◌-ℤ◌, nat_lt, if◌then◌else◌}
use Rattle.std.specs.List.{range_with_len, list_any}

-- the bit at a place, or 0 past the end
abbrev pub bit_at : List Bool → ℕ → Bool
bit_at bits place = slice_index_or bits place false

-- the bit at a place that may be negative, or 0 outside
abbrev pub bit_at_int : List Bool → ℤ → Bool
bit_at_int bits (pos place) = bit_at bits place
bit_at_int bits (negsuc place) = false

-- the highest bit, or 0
abbrev pub sign_of : List Bool → Bool
sign_of bits = bit_at bits (length bits - 1)

-- the list of n bits that has f k at place k
abbrev pub by_place : ℕ → (ℕ → Bool) → List Bool
by_place n f = map f (range_with_len 0 n)

-- 1 where exactly one of the two is 1
abbrev pub exclusive_or : Bool → Bool → Bool
exclusive_or false b = b
exclusive_or true b = not b

-- bit by bit, as far as both lists go
abbrev pub zip_with : (Bool → Bool → Bool) → List Bool → List Bool → List Bool
zip_with f [] bs = []
zip_with f (a ∷ rest) [] = []
zip_with f (a ∷ rest) (b ∷ bs) = f a b ∷ zip_with f rest bs

-- brought to n bits: cut, or filled above with 0, or with the highest bit where the sign is kept
unfoldable pub extended : Bool → ℕ → List Bool → List Bool
extended by_sign n bits = by_place n (λ k. if nat_lt k (length bits) then bit_at bits k else (by_sign && sign_of bits))

-- n bits from a place on, 0 outside
unfoldable pub selected : ℤ → ℕ → List Bool → List Bool
selected low n bits = by_place n (λ k. bit_at_int bits (low +ℤ pos k))

-- the bit of a part at a place, which may be negative, or what was there where the part has none
abbrev pub written : List Bool → ℤ → Bool → Bool
written part (pos place) old = if nat_lt place (length part) then bit_at part place else old
written part (negsuc place) old = old

-- the bits of part written over those of whole from a place on; nothing is written outside
unfoldable pub placed : ℤ → List Bool → List Bool → List Bool
placed low part whole = by_place (length whole) (λ k. written part (pos k -ℤ low) (bit_at whole k))

-- moved up by a number of places, filled with 0
unfoldable pub shifted_left : ℕ → List Bool → List Bool
shifted_left by bits = by_place (length bits) (λ k. if nat_lt k by then false else bit_at bits (k - by))

-- moved down by a number of places, filled with one bit
unfoldable pub shifted_right : Bool → ℕ → List Bool → List Bool
shifted_right fill by bits = by_place (length bits) (λ k. if nat_lt (k + by) (length bits) then bit_at bits (k + by) else fill)

-- some bit is 1
abbrev pub is_set : List Bool → Bool
is_set bits = list_any (λ bit. bit) bits
