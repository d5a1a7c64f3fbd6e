-- Words of four bits are operands of each operator.
use Rattle.std.proofs.Common.{◌≡◌, ℕ, ◌+◌, ◌<◌, List, [], ◌∷◌, ◌++◌, length, length-append, refl, sym, subst, arith}
use Rattle.std.proofs.lemmas.List.Elements.{All-push, All-nil, All-weaker}
use Rattle.cyc_net.specs.declared.node.Node.{Node}
use Rattle.cyc_net.specs.Nets.{Extends}
use Rattle.cyc_net.proofs.NetLaws.{Extends-refl, Extends-trans}
use Rattle.net_ops.specs.Words.{AreNodes}
use Rattle.design_core.specs.declared.operators.Unary.{Unary}
use Rattle.design_core.specs.declared.operators.Unary.TheVariants as unary
use Rattle.design_core.specs.declared.operators.Binary.{Binary}
use Rattle.design_core.specs.declared.operators.Binary.TheVariants as binary
use Rattle.value_domain.specs.Lengths.{FitsBinary, FitsUnary}

pub four_fits : (op : Unary) → FitsUnary op 4
four_fits unary.Negate = refl
four_fits unary.Invert = refl
four_fits unary.Not = refl
four_fits unary.And = refl
four_fits unary.Nand = refl
four_fits unary.Or = refl
four_fits unary.Nor = refl
four_fits unary.Xor = refl
four_fits unary.Xnor = refl

pub fours_fit : (op : Binary) → FitsBinary op 4 4
fours_fit binary.Add = refl
fours_fit binary.Sub = refl
fours_fit binary.Mul = refl
fours_fit binary.And = refl
fours_fit binary.Or = refl
fours_fit binary.Xor = refl
fours_fit binary.Xnor = refl
fours_fit binary.Less = refl
fours_fit binary.LessEqual = refl
fours_fit binary.Greater = refl
fours_fit binary.GreaterEqual = refl
fours_fit binary.Equal = refl
fours_fit binary.NotEqual = refl
fours_fit binary.LogicAnd = refl
fours_fit binary.LogicOr = refl
fours_fit binary.ShiftLeft = refl
fours_fit binary.ShiftRight = refl
fours_fit binary.ShiftRightSigned = refl

-- leaves that are pushed one after the other
pub record Leaves (old now : List Node) (word : List ℕ) (at : ℕ) : Type 0 where
  pub kept : Extends old now
  pub are : AreNodes now word
  pub long : length word ≡ at

pub one_more : (old mid now : List Node) (word more : List ℕ) (at n : ℕ) → Leaves old mid word at → Extends mid now → n < length now → more ≡ word ++ n ∷ [] → Leaves old now more (at + 1)
one_more old mid now word more at n l k lt e = subst (λ w. Leaves old now w (at + 1)) (sym e) (record {
  kept = Extends-trans old mid now l.kept k;
  are = All-push (λ m. m < length now) word n (All-weaker (λ m. m < length mid) (λ m. m < length now) (λ m lt. let g = k.longer in omega arith) word l.are) lt;
  long = let h = l.long in omega (arith, length-append word (n ∷ []));
})

pub none_yet : (net : List Node) (word : List ℕ) → word ≡ [] → Leaves net net word 0
none_yet net word e = subst (λ w. Leaves net net w 0) (sym e) (record { kept = Extends-refl net; are = All-nil (λ m. m < length net); long = refl })
