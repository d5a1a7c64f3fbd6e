-- The operands that share the context of an expression (IEEE 1364-2005, 5.4.1 and 5.5.1): what gives its length and sign.
use Rattle.std.specs.Prelude.{◌≡◌, ℕ, max, Bool, true, ◌&&◌, List, [], ◌∷◌, ◌++◌}
use Rattle.vl_size.specs.declared.constant.Const.{Const}
use Rattle.vl_size.specs.declared.tree.Size.{Size}
use Rattle.vl_size.specs.declared.tree.Operands.{Operands}
use Rattle.vl_size.specs.declared.tree.Operands.TheVariants.{Apart, Shared, Compared, FirstShared, FirstApart}
use Rattle.vl_size.specs.declared.tree.Sizing.{Sizing, fold-Sizing}
use Rattle.vl_size.specs.Tables.{Look}
use Rattle.vl_size.specs.Terms.{Term}
use Rattle.vl_size.specs.Sizings.{length_of, signed_of}
use Rattle.vl_size.specs.Owns.{own}

abbrev pub first_of : List (List Size) → List Size
first_of [] = []
first_of (xs ∷ xss) = xs

abbrev pub all_of : List (List Size) → List Size
all_of [] = []
all_of (xs ∷ xss) = xs ++ all_of xss

abbrev pub others_of : List (List Size) → List Size
others_of [] = []
others_of (xs ∷ xss) = all_of xss

-- the expression itself, or the operands of its parts that are in its context
abbrev pub shared_by : Operands → Size → List (List Size) → List Size
shared_by Apart x parts = x ∷ []
shared_by Compared x parts = x ∷ []
shared_by Shared x parts = all_of parts
shared_by FirstShared x parts = first_of parts
shared_by FirstApart x parts = others_of parts

-- the own sizes of the operands that share the context of an expression
unfoldable pub sharing : Sizing → List Size
sharing = fold-Sizing (List Size) (λ s. shared_by s.node.operands s.node.size s.parts)

abbrev pub largest : List Size → ℕ
largest [] = 0
largest (x ∷ xs) = max x.length (largest xs)

abbrev pub are_signed : List Size → Bool
are_signed [] = true
are_signed (x ∷ xs) = x.signed && are_signed xs

-- an expression has the largest length of the operands that share its context, and a sign where all of them have one
pub record IsShared (s : Sizing) : Type 0 where
  pub lengths : length_of s ≡ largest (sharing s)
  pub signs : signed_of s ≡ are_signed (sharing s)

abbrev pub OperandsShare : Type 0
OperandsShare = (look : Look) (t : Term) (values : List Const) → IsShared (own look t values).0
