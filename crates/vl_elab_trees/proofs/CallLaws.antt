-- The calls of chains, and the number of arguments.
use Rattle.std.proofs.Common.{◌≡◌, ℕ, suc, Bool, ◌&&◌, List, [], ◌∷◌, ◌++◌, length, map, refl, ap}
use Rattle.vl_tree.specs.declared.expressions.Expr.{Expr}
use Rattle.vl_size.specs.Chains as chains
use Rattle.vl_size.specs.declared.chain.Link.{Link}
use Rattle.vl_size.specs.Tables.{Look}
use Rattle.vl_size.specs.Terms.{Term, term, terms}
use Rattle.vl_elab_trees.specs.Calls.{calls_fit, count_of}

pub arguments : (xs : List Expr) → count_of (terms (map term xs)) ≡ length xs
arguments [] = refl
arguments (x ∷ xs) = ap suc (arguments xs)

-- those of the right operands of a chain, behind those of its first operand
abbrev pub links_fit : Look → Bool → List Link → Bool
links_fit look b [] = b
links_fit look b (l ∷ ls) = links_fit look b ls && calls_fit look (term l.right.now)

pub chain_fits : (look : Look) (t : Term) (ls : List Link) → calls_fit look (chains.chained t ls) ≡ links_fit look (calls_fit look t) ls
chain_fits look t [] = refl
chain_fits look t (l ∷ ls) = ap (λ b. b && calls_fit look (term l.right.now)) (chain_fits look t ls)

pub links_more : (look : Look) (b : Bool) (ls : List Link) (l : Link) → links_fit look b (ls ++ l ∷ []) ≡ links_fit look (b && calls_fit look (term l.right.now)) ls
links_more look b [] l = refl
links_more look b (k ∷ ls) l = ap (λ c. c && calls_fit look (term k.right.now)) (links_more look b ls l)
