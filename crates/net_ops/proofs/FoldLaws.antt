-- A gate that runs over all bits of a word, and the words of one bit.
use Rattle.std.proofs.Common.{◌≡◌, ℕ, ◌+◌, ◌<◌, ◌≤◌, Bool, true, false, not, ◌&&◌, ◌||◌, List, [], ◌∷◌, ◌++◌, length, get_or, take, refl, sym, ap, ap₂, ◌∙◌, arith}
use Rattle.std.specs.Prelude.{Result, IfOk}
use Rattle.std.specs.List.{list_all}
use Rattle.std.proofs.lemmas.List.{length-map, take_more, take_all}
use Rattle.std.proofs.lemmas.List.Elements.{All-push, All-nil}
use Rattle.std.proofs.lemmas.Result.{IfOk-weaker}
use Rattle.bits_core.specs.Places.{exclusive_or, is_set, zip_with}
use Rattle.cyc_net.specs.declared.node.Node.{Node}
use Rattle.cyc_net.specs.Nets.{value, Gated}
use Rattle.design_core.specs.Operators.{is_equal, is_odd, one_bit}
use Rattle.value_domain.specs.Words.{turned}
use Rattle.net_ops.specs.Words.{AreNodes, IsBit, IsWord, folded, read}
use Rattle.net_ops.proofs.BuiltLaws as b
use Rattle.net_ops.proofs.BuiltLaws.{same_read}

folded-snoc : (f : Bool → Bool → Bool) (start : Bool) (xs : List Bool) (x : Bool) → folded f start (xs ++ x ∷ []) ≡ f (folded f start xs) x
folded-snoc f start [] x = refl
folded-snoc f start (y ∷ xs) x = folded-snoc f (f start y) xs x

and_regroup : (x y z : Bool) → ((x && y) && z) ≡ (x && (y && z))
and_regroup true y z = refl
and_regroup false y z = refl

or_regroup : (x y z : Bool) → ((x || y) || z) ≡ (x || (y || z))
or_regroup true y z = refl
or_regroup false y z = refl

xor_regroup : (x y z : Bool) → exclusive_or (exclusive_or x y) z ≡ exclusive_or x (exclusive_or y z)
xor_regroup false y z = refl
xor_regroup true false z = refl
xor_regroup true true false = refl
xor_regroup true true true = refl

and_end : (x : Bool) → (x && true) ≡ x
and_end true = refl
and_end false = refl

or_end : (x : Bool) → (x || false) ≡ x
or_end true = refl
or_end false = refl

xor_end : (x : Bool) → exclusive_or x false ≡ x
xor_end true = refl
xor_end false = refl

all_from : (start : Bool) (xs : List Bool) → folded ◌&&◌ start xs ≡ (start && list_all (λ bit. bit) xs)
all_from start [] = sym (and_end start)
all_from start (x ∷ xs) = all_from (start && x) xs ∙ and_regroup start x (list_all (λ bit. bit) xs)

any_from : (start : Bool) (xs : List Bool) → folded ◌||◌ start xs ≡ (start || is_set xs)
any_from start [] = sym (or_end start)
any_from start (x ∷ xs) = any_from (start || x) xs ∙ or_regroup start x (is_set xs)

odd_from : (start : Bool) (xs : List Bool) → folded exclusive_or start xs ≡ exclusive_or start (is_odd xs)
odd_from start [] = sym (xor_end start)
odd_from start (x ∷ xs) = odd_from (exclusive_or start x) xs ∙ xor_regroup start x (is_odd xs)

-- two lists are the same where none of their bits differ
pub same_or_unlike : (xs ys : List Bool) → length xs ≡ length ys → is_equal xs ys ≡ not (is_set (zip_with exclusive_or xs ys))
same_or_unlike [] [] e = refl
same_or_unlike [] (y ∷ ys) e = absurd (omega (arith, e))
same_or_unlike (x ∷ xs) [] e = absurd (omega (arith, e))
same_or_unlike (x ∷ xs) (y ∷ ys) e = by_first (exclusive_or x y) (same_or_unlike xs ys (omega (arith, e)))
  where
    by_first : (d : Bool) → is_equal xs ys ≡ not (is_set (zip_with exclusive_or xs ys)) → (not d && is_equal xs ys) ≡ not (d || is_set (zip_with exclusive_or xs ys))
    by_first true h = refl
    by_first false h = h

-- one bit more of a word
pub folded_more : (f : Bool → Bool → Bool) (old d now : List Node) (xs : List ℕ) (at acc n x : ℕ) (start : (ℕ → Bool) → Bool) → AreNodes old xs → Gated old d → at < length xs
    → IsBit d acc (λ v. folded f (start v) (take at (read old v xs))) → IsBit now n (λ v. f (value d v acc) (value d v (get_or xs at x)))
    → IsBit now n (λ v. folded f (start v) (take (at + 1) (read old v xs)))
folded_more f old d now xs at acc n x start h k lt so is = record {
  within = is.within;
  worth = λ v.
      let l = length-map xs (value old v) in
      is.worth v ∙ ap₂ f (so.worth v) (b.later_read old d v xs at x k h lt)
      ∙ sym (folded-snoc f (start v) (take at (read old v xs)) (get_or (read old v xs) at false))
      ∙ ap (folded f (start v)) (sym (take_more (read old v xs) at false (omega arith)));
}

pub folded_end : (f : Bool → Bool → Bool) (old now : List Node) (xs : List ℕ) (at acc : ℕ) (start : (ℕ → Bool) → Bool) → length xs ≤ at
    → IsBit now acc (λ v. folded f (start v) (take at (read old v xs))) → IsBit now acc (λ v. folded f (start v) (read old v xs))
folded_end f old now xs at acc start le so = record {
  within = so.within;
  worth = λ v. let l = length-map xs (value old v) in so.worth v ∙ ap (folded f (start v)) (take_all at (read old v xs) (omega arith));
}

module _ {E : Type 0} (old now : List Node) (xs : List ℕ) (r : Result ℕ E) (start : ℕ) where
  pub all_of : ((v : ℕ → Bool) → value old v start ≡ true) → IfOk r (λ n. IsBit now n (λ v. folded ◌&&◌ (value old v start) (read old v xs))) → IfOk r (λ n. IsBit now n (λ v. list_all (λ bit. bit) (read old v xs)))
  all_of s h = IfOk-weaker r _ _ (λ n i. record { within = i.within; worth = λ v. i.worth v ∙ all_from (value old v start) (read old v xs) ∙ ap (λ t. t && list_all (λ bit. bit) (read old v xs)) (s v) }) h

  pub any_of : ((v : ℕ → Bool) → value old v start ≡ false) → IfOk r (λ n. IsBit now n (λ v. folded ◌||◌ (value old v start) (read old v xs))) → IfOk r (λ n. IsBit now n (λ v. is_set (read old v xs)))
  any_of s h = IfOk-weaker r _ _ (λ n i. record { within = i.within; worth = λ v. i.worth v ∙ any_from (value old v start) (read old v xs) ∙ ap (λ t. t || is_set (read old v xs)) (s v) }) h

  pub odd_of : ((v : ℕ → Bool) → value old v start ≡ false) → IfOk r (λ n. IsBit now n (λ v. folded exclusive_or (value old v start) (read old v xs))) → IfOk r (λ n. IsBit now n (λ v. is_odd (read old v xs)))
  odd_of s h = IfOk-weaker r _ _ (λ n i. record { within = i.within; worth = λ v. i.worth v ∙ odd_from (value old v start) (read old v xs) ∙ ap (λ t. exclusive_or t (is_odd (read old v xs))) (s v) }) h

-- the word of one node
pub lone_word : {E : Type 0} (net : List Node) (n : ℕ) (of : (ℕ → Bool) → Bool) (r : Result (List ℕ) E) → IsBit net n of → IfOk r (λ xs. xs ≡ n ∷ []) → IfOk r (λ xs. IsWord net xs 1 (λ v. one_bit (of v)))
lone_word net n of r is h = IfOk-weaker r _ _ (λ xs e. rw e (record { are = All-push (λ m. m < length net) [] n (All-nil (λ m. m < length net)) is.within; long = refl; reads = λ v. ap one_bit (is.worth v) })) h

-- a word of the same bits, said otherwise
pub said : {E : Type 0} (net : List Node) (n : ℕ) (of more : (ℕ → Bool) → List Bool) (r : Result (List ℕ) E) → ((v : ℕ → Bool) → of v ≡ more v) → IfOk r (λ xs. IsWord net xs n of) → IfOk r (λ xs. IsWord net xs n more)
said net n of more r e h = IfOk-weaker r _ _ (λ xs w. record { are = w.are; long = w.long; reads = λ v. w.reads v ∙ e v }) h

-- a gate over whether two words have a bit that is 1
pub logic_bit : (f : Bool → Bool → Bool) (old one two three : List Node) (xs ys : List ℕ) (first second n : ℕ) → Gated old one → Gated one two → AreNodes old ys
    → IsBit one first (λ v. is_set (read old v xs)) → IsBit two second (λ v. is_set (read one v ys)) → IsBit three n (λ v. f (value two v first) (value two v second))
    → IsBit three n (λ v. f (is_set (read old v xs)) (is_set (read old v ys)))
logic_bit f old one two three xs ys first second n k l h a b is = record {
  within = is.within;
  worth = λ v. is.worth v ∙ ap₂ f (l.same first v a.within ∙ a.worth v) (b.worth v ∙ ap is_set (same_read old one v ys k h));
}

turned_other : (p b : Bool) → turned (not p) b ≡ turned p (not b)
turned_other true b = refl
turned_other false true = refl
turned_other false false = refl

-- whether two words are the same, or not, told by whether some bit of them differs
pub equal_word : {E : Type 0} (old mid now : List Node) (xs ys zs : List ℕ) (n : ℕ) (p : Bool) (r : Result (List ℕ) E) → length xs ≡ length ys → IsWord mid zs n (λ v. zip_with exclusive_or (read old v xs) (read old v ys))
    → IfOk r (λ out. IsWord now out 1 (λ v. one_bit (turned (not p) (is_set (read mid v zs))))) → IfOk r (λ out. IsWord now out 1 (λ v. one_bit (turned p (is_equal (read old v xs) (read old v ys)))))
equal_word old mid now xs ys zs n p r same w h = said now 1 (λ v. one_bit (turned (not p) (is_set (read mid v zs)))) _ r (λ v.
    let lx = length-map xs (value old v) in let ly = length-map ys (value old v) in
    let unlike = zip_with exclusive_or (read old v xs) (read old v ys) in
    ap one_bit (ap (λ z. turned (not p) (is_set z)) (w.reads v) ∙ turned_other p (is_set unlike) ∙ ap (turned p) (sym (same_or_unlike (read old v xs) (read old v ys) (omega arith))))) h
