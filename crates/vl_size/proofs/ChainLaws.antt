-- Chains link by link.
use Rattle.std.proofs.Common.{◌≡◌, ℕ, suc, max, ◌<◌, List, [], ◌∷◌, ◌++◌, refl, ap, sym, ◌∙◌, arith}
use Rattle.vl_tree.specs.declared.tokens.Token.{Token}
use Rattle.vl_tree.specs.declared.expressions.Expr.{Expr, size-Expr, size_is-Expr}
use Rattle.vl_tree.specs.declared.expressions.Expr.TheVariants as e
use Rattle.vl_size.specs.declared.constant.Const.{Const}
use Rattle.vl_size.specs.declared.chain.Link.{Link}
use Rattle.vl_size.specs.declared.tree.Sizing.{Sizing}
use Rattle.vl_size.specs.Terms.{Term, term, binary}
use Rattle.vl_size.specs.Tables.{Look}
use Rattle.vl_size.specs.Nodes.{binary_node}
use Rattle.vl_size.specs.Owns.{Found, own, and_then}
use Rattle.vl_size.specs.Chains.{chained, depth}

-- one more link, of the first operator
pub chained_more : (t : Term) (ls : List Link) (l : Link) → chained t (ls ++ l ∷ []) ≡ chained (binary l.op t (term l.right.now)) ls
chained_more t [] l = refl
chained_more t (k ∷ ls) l = ap (λ u. binary k.op u (term k.right.now)) (chained_more t ls l)

pub depth_more : (ls : List Link) (l : Link) → depth (ls ++ l ∷ []) ≡ max (depth ls) (suc (size-Expr l.right.now))
depth_more [] l = omega arith
depth_more (k ∷ ls) l = let h = depth_more ls l in omega (arith, h)

-- the own sizes of a chain, where those of the first operand are found
abbrev pub own_links : Look → Found Sizing → List Link → Found Sizing
own_links look f [] = f
own_links look f (l ∷ ls) = and_then (binary_node l.op) (own_links look f ls) (own look (term l.right.now))

pub own_chain : (look : Look) (t : Term) (cs : List Const) (ls : List Link) → own look (chained t ls) cs ≡ own_links look (own look t cs) ls
own_chain look t cs [] = refl
own_chain look t cs (l ∷ ls) = ap (λ f. and_then (binary_node l.op) f (own look (term l.right.now))) (own_chain look t cs ls)

pub own_more : (look : Look) (f : Found Sizing) (ls : List Link) (l : Link)
    → own_links look f (ls ++ l ∷ []) ≡ own_links look (and_then (binary_node l.op) f (own look (term l.right.now))) ls
own_more look f [] l = refl
own_more look f (k ∷ ls) l = ap (λ g. and_then (binary_node k.op) g (own look (term k.right.now))) (own_more look f ls l)

pub left_smaller : (op : Token) (l r : Expr) → size-Expr l < size-Expr (e.Binary op l r)
left_smaller op l r = let o = e.outs-Binary op l r in let h = size_is-Expr (e.Binary op l r) in omega (arith, h, rw o at h)

pub right_smaller : (op : Token) (l r : Expr) → size-Expr r < size-Expr (e.Binary op l r)
right_smaller op l r = let o = e.outs-Binary op l r in let h = size_is-Expr (e.Binary op l r) in omega (arith, h, rw o at h)

-- the next operator of a chain
pub own_link : (look : Look) (f : Found Sizing) (l : Link) (made right : Sizing) (cs : List Const) → (right, cs) ≡ own look (term l.right.now) f.1 → made ≡ binary_node l.op f.0 right
    → (made, cs) ≡ and_then (binary_node l.op) f (own look (term l.right.now))
own_link look f l made right cs e g =
    let one : (made, cs) ≡ (binary_node l.op f.0 right, cs) = ap (λ m. (m, cs)) g in
    let two : (binary_node l.op f.0 right, cs) ≡ (binary_node l.op f.0 (own look (term l.right.now) f.1).0, (own look (term l.right.now) f.1).1) =
    ap (λ (r : Found Sizing). (binary_node l.op f.0 r.0, r.1)) e in
    one ∙ two
