-- An expression made of formed parts that fit is formed.
use Rattle.std.proofs.lemmas.Bool.Decides.{nat_tests}
use Rattle.std.proofs.lemmas.List.Elements.{All-head, All-tail}
use Rattle.std.proofs.Common.{◌≡◌, ℕ, ◌*◌, ◌≤◌, ◌==◌, nat_le, Bool, true, List, [], ◌∷◌, length, map, refl, sym, subst, ap, ◌∙◌, ℤ, arith, All, sum_by, ◌+◌, fold}
use Rattle.design_core.specs.declared.operators.Unary.{Unary}
use Rattle.design_core.specs.declared.operators.Binary.{Binary}
use Rattle.design_core.specs.declared.tree.DExpr.{DExpr}
use Rattle.design_core.specs.declared.tree.DNode.TheVariants as node
use Rattle.design_core.specs.Formed.{Sized, IsFormed, all_formed, is_vector, is_narrow, has_length, unary_fits, binary_fits, sized_expr}
use Rattle.formed_trees.specs.Trees.{is_formed, IsMade}
use Rattle.design_core.proofs.FormedLaws.{sized_length, sized_constant, sized_signal, sized_local, sized_select, sized_select_at, sized_unary, sized_binary, sized_mux, sized_extend, sized_concat, sized_repeat}
use Rattle.design_core.proofs.BoolLaws.{true_both}

-- a fact of an operand's length, as the definition says it
of_length : (p : ℕ → Bool) (vs : List ℕ) (a : DExpr) → p a.length ≡ true → p (sized_expr vs a).length ≡ true
of_length p vs a h = subst (λ n. p n ≡ true) (sym (sized_length vs a)) h

pub formed_as : (x y : Sized) (ls : List ℕ) → x ≡ y → y.formed ls ≡ true → x.formed ls ≡ true
formed_as x y ls e h = ap (λ (z : Sized). z.formed ls) e ∙ h

pub formed_constant : (e : DExpr) (bits : List Bool) → e.node ≡ node.Const bits → is_vector e.length ≡ true → length bits ≡ e.length → (vs ls : List ℕ) → IsMade vs ls e
unfolding is_formed
formed_constant e bits is v f vs ls = formed_as _ _ ls (sized_constant vs e bits is) (true_both _ _ v (grind (arith, nat_tests)))

pub formed_signal : (e : DExpr) (s : ℕ) → e.node ≡ node.Signal s → is_vector e.length ≡ true → (vs ls : List ℕ) → has_length vs s e.length ≡ true → IsMade vs ls e
unfolding is_formed
formed_signal e s is v vs ls h = formed_as _ _ ls (sized_signal vs e s is) (true_both _ _ v h)

pub formed_unary : (e : DExpr) (op : Unary) (a : DExpr) → e.node ≡ node.Unary op a → is_vector e.length ≡ true → unary_fits op e.length a.length ≡ true
    → (vs ls : List ℕ) → IsMade vs ls a → IsMade vs ls e
unfolding is_formed
formed_unary e op a is v f vs ls h = formed_as _ _ ls (sized_unary vs e op a is) (true_both _ _ v (true_both _ _ h (of_length (unary_fits op e.length) vs a f)))

pub formed_binary : (e : DExpr) (op : Binary) (a b : DExpr) → e.node ≡ node.Binary op a b → is_vector e.length ≡ true → binary_fits op e.length a.length b.length ≡ true
    → (vs ls : List ℕ) → IsMade vs ls a → IsMade vs ls b → IsMade vs ls e
unfolding is_formed
formed_binary e op a b is v f vs ls h k = formed_as _ _ ls (sized_binary vs e op a b is) (true_both _ _ v (true_both _ _ (true_both _ _ h k)
    (of_length (λ n. binary_fits op e.length n (sized_expr vs b).length) vs a (of_length (λ n. binary_fits op e.length a.length n) vs b f))))

pub formed_mux : (e c a b : DExpr) → e.node ≡ node.Mux c a b → is_vector e.length ≡ true → a.length ≡ e.length → b.length ≡ e.length
    → (vs ls : List ℕ) → IsMade vs ls c → IsMade vs ls a → IsMade vs ls b → IsMade vs ls e
unfolding is_formed
formed_mux e c a b is v f g vs ls i h k = formed_as _ _ ls (sized_mux vs e c a b is) (true_both _ _ v (true_both _ _ (true_both _ _ (true_both _ _ (true_both _ _ i h) k)
    (of_length (λ n. n == e.length) vs a (grind (arith, nat_tests)))) (of_length (λ n. n == e.length) vs b (grind (arith, nat_tests)))))

pub formed_extend : (e a : DExpr) (keeps : Bool) → e.node ≡ node.Extend a keeps → is_vector e.length ≡ true → a.length ≤ e.length → (vs ls : List ℕ) → IsMade vs ls a → IsMade vs ls e
unfolding is_formed
formed_extend e a keeps is v f vs ls h = formed_as _ _ ls (sized_extend vs e a keeps is) (true_both _ _ v (true_both _ _ h (of_length (λ n. nat_le n e.length) vs a (grind (arith, nat_tests)))))

pub formed_select : (e a b : DExpr) (low : ℤ) → e.node ≡ node.Select b low → b ≡ a → is_vector e.length ≡ true → (vs ls : List ℕ) → IsMade vs ls a → IsMade vs ls e
unfolding is_formed
formed_select e a b low is same v vs ls h = formed_as _ _ ls (sized_select vs e a low (is ∙ ap (λ x. node.Select x low) same)) (true_both _ _ v h)

pub formed_select_at : (e a index b at : DExpr) (offset : ℤ) (down : Bool) → e.node ≡ node.SelectAt b at offset down → b ≡ a → at ≡ index → is_vector e.length ≡ true → is_narrow index.length ≡ true
    → (vs ls : List ℕ) → IsMade vs ls a → IsMade vs ls index → IsMade vs ls e
unfolding is_formed
formed_select_at e a index b at offset down is same also v f vs ls h k = formed_as _ _ ls (sized_select_at vs e a index offset down (is ∙ ap (λ x. node.SelectAt x at offset down) same ∙ ap (λ x. node.SelectAt a x offset down) also)) (true_both _ _ v (true_both _ _ (true_both _ _ h k) (of_length is_narrow vs index f)))

pub formed_repeat : (e : DExpr) (count : ℕ) (part : DExpr) → e.node ≡ node.Repeat count part → is_vector e.length ≡ true → e.length ≡ count * part.length
    → (vs ls : List ℕ) → IsMade vs ls part → IsMade vs ls e
unfolding is_formed
formed_repeat e count part is v f vs ls h = formed_as _ _ ls (sized_repeat vs e count part is) (true_both _ _ v (true_both _ _ h (of_length (λ n. count * n == e.length) vs part (grind (arith, nat_tests)))))

pub formed_of : (vs ls : List ℕ) (e : DExpr) → IsMade vs ls e → IsFormed vs ls e
unfolding is_formed IsFormed
formed_of vs ls e h = h

all_made : (vs ls : List ℕ) (parts : List DExpr) → All (IsMade vs ls) parts → all_formed (map (sized_expr vs) parts) ls ≡ true
unfolding is_formed
all_made vs ls [] h = refl
all_made vs ls (p ∷ ps) h = true_both _ _ (All-head (IsMade vs ls) p ps h) (all_made vs ls ps (All-tail (IsMade vs ls) p ps h))

long_from : (vs : List ℕ) (parts : List DExpr) (n : ℕ)
    → fold (λ (a : ℕ) (x : ℕ). a + x) n (map (λ (x : Sized). x.length) (map (sized_expr vs) parts)) ≡ fold (λ (a : ℕ) (e : DExpr). a + e.length) n parts
long_from vs [] n = refl
long_from vs (p ∷ ps) n = long_from vs ps (n + (sized_expr vs p).length) ∙ ap (λ k. fold (λ (a : ℕ) (e : DExpr). a + e.length) (n + k) ps) (sized_length vs p)

pub formed_concat : (e : DExpr) (parts given : List DExpr) → e.node ≡ node.Concat parts → parts ≡ given → is_vector e.length ≡ true → e.length ≡ sum_by (λ (x : DExpr). x.length) given
    → (vs ls : List ℕ) → All (IsMade vs ls) given → IsMade vs ls e
unfolding is_formed
formed_concat e parts given is same v f vs ls h = formed_as _ _ ls (sized_concat vs e given (is ∙ ap node.Concat same)) (true_both _ _ v (true_both _ _ (all_made vs ls given h)
    (subst (λ n. (n == e.length) ≡ true) (f ∙ sym (long_from vs given 0)) (grind (arith, nat_tests)))))

pub formed_local : (e : DExpr) (k : ℕ) → e.node ≡ node.Local k → is_vector e.length ≡ true → (vs ls : List ℕ) → has_length ls k e.length ≡ true → IsMade vs ls e
unfolding is_formed
formed_local e k is v vs ls h = formed_as _ _ ls (sized_local vs e k is) (true_both _ _ v h)
