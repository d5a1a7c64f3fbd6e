-- Words that say numbers.
use Rattle.std.specs.Prelude.{◌≡◌, ◌≢◌, ◌<◌, ◌≤◌, ℕ, suc, ℤ, pos, negsuc, true, List, [], ◌∷◌, ◌++◌}
use Rattle.std.specs.List.{AllZip}
use Rattle.std.specs.Int.RustNames.{unsigned_abs}
use Rattle.std.specs.Str.{all_ascii_digits}
use Rattle.std.specs.Str.Parse.{digits_value}

-- one decimal digit or more, with this value; zeros may lead
pub record IsDecimal (word : List ℕ) (n : ℕ) : Type 0 where
  pub full : word ≢ []
  pub digits : all_ascii_digits word ≡ true
  pub value : digits_value 10 word ≡ n

-- digits; or `-` and digits, for a number below 0
abbrev pub SaysInteger : List ℕ → ℤ → Type 0
SaysInteger word (pos n) = IsDecimal word n
SaysInteger word (negsuc n) = (digits : List ℕ) × (word ≡ 45 ∷ digits) × IsDecimal digits (suc n)

-- a number that is not 0, of an absolute value below a bound
pub record SaysNonzero (bound : ℕ) (word : List ℕ) (z : ℤ) : Type 0 where
  pub says : SaysInteger word z
  pub nonzero : 1 ≤ unsigned_abs z
  pub small : unsigned_abs z < bound

-- word by word these numbers, none of them 0
abbrev pub SayAll : ℕ → List (List ℕ) → List ℤ → Type 0
SayAll bound words zs = AllZip (SaysNonzero bound) words zs

-- these numbers, and a 0 that ends them
pub record EndAtZero (bound : ℕ) (words : List (List ℕ)) (zs : List ℤ) (behind : List (List ℕ)) : Type 0 where
  pub front : List (List ℕ)
  pub zero : List ℕ
  pub are : words ≡ front ++ zero ∷ behind
  pub say : SayAll bound front zs
  pub ends : IsDecimal zero 0
