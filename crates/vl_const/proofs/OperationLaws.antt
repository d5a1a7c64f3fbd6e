-- Chains of operators, one more at a time.
use Rattle.std.proofs.Common.{◌≡◌, ℕ, suc, max, true, false, List, [], ◌∷◌, ◌++◌, refl, ap, sym, ◌∙◌, arith}
use Rattle.vl_tree.specs.declared.expressions.Expr.{size-Expr}
use Rattle.vl_size.specs.Chains as chains
use Rattle.vl_size.specs.Terms.{Term, term, binary}
use Rattle.vl_size.specs.declared.tree.Size.{Size}
use Rattle.vl_size.specs.declared.tree.Sizing.{Sizing}
use Rattle.vl_size.specs.declared.chain.Link.{Link}
use Rattle.vl_const.specs.declared.answers.Answer.{Answer}
use Rattle.vl_const.specs.declared.counting.Counted.{Counted}
use Rattle.vl_const.specs.declared.operations.Operation.{Operation}
use Rattle.vl_const.specs.Counted.{counts}
use Rattle.vl_const.specs.Operations.{combined, right_worth, worth_steps, depth}
use Rattle.vl_const.specs.Scopes.{Meaning}
use Rattle.vl_const.specs.Streams.{inside, behind, part_context}
use Rattle.vl_const.specs.Values.{Values, Found, and_then}
use Rattle.vl_const.specs.Worths.{worth}

pub steps_more : (m : Meaning) (r : Found Answer) (os : List Operation) (o : Operation) → worth_steps m r (os ++ o ∷ []) ≡ worth_steps m (and_then (combined o) r (right_worth m o)) os
steps_more m r [] o = refl
steps_more m r (p ∷ os) o = ap (λ q. and_then (combined p) q (right_worth m p)) (steps_more m r os o)

pub depth_more : (os : List Operation) (o : Operation) → depth (os ++ o ∷ []) ≡ max (depth os) (suc (size-Expr o.right.now))
depth_more [] o = omega arith
depth_more (p ∷ os) o = let h = depth_more os o in omega (arith, h)

-- the counts of the right operands of a chain, behind those of its first operand
abbrev pub counts_links : Meaning → Counted → List Link → Counted
counts_links m f [] = f
counts_links m f (l ∷ ls) = counts m (term l.right.now) (counts_links m f ls)

pub counts_chain : (m : Meaning) (t : Term) (f : Counted) (ls : List Link) → counts m (chains.chained t ls) f ≡ counts_links m (counts m t f) ls
counts_chain m t f [] = refl
counts_chain m t f (l ∷ ls) = ap (counts m (term l.right.now)) (counts_chain m t f ls)

pub counts_more : (m : Meaning) (f : Counted) (ls : List Link) (l : Link) → counts_links m f (ls ++ l ∷ []) ≡ counts_links m (counts m (term l.right.now) f) ls
counts_more m f [] l = refl
counts_more m f (k ∷ ls) l = ap (counts m (term k.right.now)) (counts_more m f ls l)

-- an operator between operands by its own definition
pub opened : (m : Meaning) (cs : Values) (o : Operation) (t a : Term) (inner : List Sizing) (outer : Size) → t ≡ binary o.op a (term o.right.now) → inner ≡ inside o.sizings.now
    → outer ≡ part_context o.sizings.now o.context true inner → and_then (combined o) (worth m a inner outer cs) (right_worth m o) ≡ worth m t o.sizings.now o.context cs
opened m cs o t a inner outer e1 e2 e3 =
    ap (λ z. and_then (combined o) (worth m a inner z cs) (right_worth m o)) (e3 ∙ ap (part_context o.sizings.now o.context true) e2)
    ∙ ap (λ z. and_then (combined o) (worth m a z (part_context o.sizings.now o.context true (inside o.sizings.now)) cs) (right_worth m o)) e2
    ∙ ap (λ u. worth m u o.sizings.now o.context cs) (sym e1)

-- the next operator of a chain
pub operation_made : (m : Meaning) (f : Found Answer) (o : Operation) (made right : Answer) (cs : Values) (inner second : List Sizing) (x : Size)
    → inner ≡ inside o.sizings.now → second ≡ behind inner → x ≡ part_context o.sizings.now o.context false second
    → (right, cs) ≡ worth m (term o.right.now) second x f.1 → made ≡ combined o f.0 right → (made, cs) ≡ and_then (combined o) f (right_worth m o)
operation_made m f o made right cs inner second x e1 e2 e3 e4 e5 =
    let s : second ≡ behind (inside o.sizings.now) = e2 ∙ ap behind e1 in
    let y : x ≡ part_context o.sizings.now o.context false (behind (inside o.sizings.now)) = e3 ∙ ap (part_context o.sizings.now o.context false) s in
    let r : (right, cs) ≡ right_worth m o f.1 =
    e4 ∙ ap (λ z. worth m (term o.right.now) second z f.1) y ∙ ap (λ z. worth m (term o.right.now) z (part_context o.sizings.now o.context false (behind (inside o.sizings.now))) f.1) s in
    let one : (made, cs) ≡ (combined o f.0 right, cs) = ap (λ a. (a, cs)) e5 in
    let two : (combined o f.0 right, cs) ≡ (combined o f.0 (right_worth m o f.1).0, (right_worth m o f.1).1) = ap (λ (q : Found Answer). (combined o f.0 q.0, q.1)) r in
    one ∙ two
