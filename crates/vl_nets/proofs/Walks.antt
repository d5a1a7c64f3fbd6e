-- Walks over a chain of operators, from its first operand on.
use denote.Param.Weighed.{most}
use Rattle.std.proofs.Common.{◌≡◌, ◌<◌, List, [], ◌∷◌, ◌++◌, refl, ap, ◌∙◌, arith}
use Rattle.vl_tree.specs.declared.tokens.Token.{Token}
use Rattle.vl_tree.specs.declared.expressions.Expr.{size-Expr, size_is-Expr}
use Rattle.vl_tree.specs.declared.expressions.Expr.TheVariants as e
use Rattle.vl_tree.specs.declared.expressions.Select.{Select, size-Select}
use Rattle.vl_size.specs.declared.chain.Link.{Link}
use Rattle.vl_size.specs.declared.operators.BinaryOperator.{BinaryOperator}
use Rattle.vl_size.specs.Chains.{chained}
use Rattle.vl_size.specs.Terms.{Term, term, binary}

-- the right operands of a chain, behind what is found of its first operand
abbrev pub walked : {S : Type 0} → (Term → S → S) → S → List Link → S
walked f s [] = s
walked f s (l ∷ ls) = f (term l.right.now) (walked f s ls)

-- a walk goes from the left operand to the right one
abbrev pub FromLeft : {S : Type 0} → (Term → S → S) → Type 0
FromLeft {S} f = (op : BinaryOperator) (a c : Term) (s : S) → f (binary op a c) s ≡ f c (f a s)

pub walk_chain : {S : Type 0} (f : Term → S → S) (w : FromLeft f) (t : Term) (s : S) (ls : List Link) → f (chained t ls) s ≡ walked f (f t s) ls
walk_chain f w t s [] = refl
walk_chain f w t s (l ∷ ls) = w l.op (chained t ls) (term l.right.now) s ∙ ap (f (term l.right.now)) (walk_chain f w t s ls)

pub walk_more : {S : Type 0} (f : Term → S → S) (s : S) (ls : List Link) (l : Link) → walked f s (ls ++ l ∷ []) ≡ walked f (f (term l.right.now) s) ls
walk_more f s [] l = refl
walk_more f s (k ∷ ls) l = ap (f (term k.right.now)) (walk_more f s ls l)

-- what stands in brackets behind a name is smaller than the name with it
pub selects_smaller : (t : Token) (ps : List Select) → most size-Select ps < size-Expr (e.Name t ps)
selects_smaller t ps = let o = e.outs-Name t ps in let h = size_is-Expr (e.Name t ps) in omega (arith, h, rw o at h)
