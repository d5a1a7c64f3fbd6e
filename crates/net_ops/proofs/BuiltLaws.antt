-- Words that are made node by node over a net that grows.
use Rattle.std.proofs.Common.{◌≡◌, ℕ, zero, suc, ◌+◌, ◌<◌, ◌≤◌, Bool, false, List, [], ◌∷◌, ◌++◌, length, get_or, take, refl, sym, ap₂, subst, ◌∙◌, arith, length-append, ap, map, not, cond, true}
use Rattle.std.proofs.lemmas.List.{get_or-map, length-map, take_more, map-append, take_all}
use Rattle.std.proofs.lemmas.List.Elements.{All-push, All-nil, All-weaker, All-head, All-tail}
use Rattle.bits_core.specs.Places.{zip_with}
use Rattle.bits_core.proofs.PlaceLaws.{length-zip_with}
use Rattle.cyc_net.specs.declared.node.Node.{Node}
use Rattle.cyc_net.specs.Nets.{value, Gated}
use Rattle.cyc_net.proofs.NetLaws.{Gated-refl, Gated-trans}
use Rattle.net_ops.specs.Words.{AreNodes, IsBit, IsWord, read}

pub still_nodes : (old new : List Node) (xs : List ℕ) → Gated old new → AreNodes old xs → AreNodes new xs
still_nodes old new xs k h = All-weaker (λ n. n < length old) (λ n. n < length new) (λ n lt. let l = k.longer in omega arith) xs h

pub same_read : (old new : List Node) (v : ℕ → Bool) (xs : List ℕ) → Gated old new → AreNodes old xs → read new v xs ≡ read old v xs
same_read old new v [] k h = refl
same_read old new v (n ∷ xs) k h =
    let first = k.same n v (All-head (λ n. n < length old) n xs h) in
    let rest = same_read old new v xs k (All-tail (λ n. n < length old) n xs h) in cc

-- a word that was there reads as it did
pub still_word : (old new : List Node) (xs : List ℕ) (n : ℕ) (of : (ℕ → Bool) → List Bool) → Gated old new → IsWord old xs n of → IsWord new xs n of
still_word old new xs n of k w = record { are = still_nodes old new xs k w.are; long = w.long; reads = λ v. same_read old new v xs k w.are ∙ w.reads v }

-- so does a bit
pub still_bit : (old new : List Node) (x : ℕ) (of : (ℕ → Bool) → Bool) → Gated old new → IsBit old x of → IsBit new x of
still_bit old new x of k b = record { within = let l = k.longer in let w = b.within in omega arith; worth = λ v. k.same x v b.within ∙ b.worth v }

-- the bit at a place of a word
pub get_read : (net : List Node) (v : ℕ → Bool) (xs : List ℕ) (at d : ℕ) → at < length xs → get_or (read net v xs) at false ≡ value net v (get_or xs at d)
get_read net v xs at d lt = get_or-map (value net v) xs at d false lt

-- also where the net has grown
pub later_read : (old now : List Node) (v : ℕ → Bool) (xs : List ℕ) (at d : ℕ) → Gated old now → AreNodes old xs → at < length xs → value now v (get_or xs at d) ≡ get_or (read old v xs) at false
later_read old now v xs at d k h lt = k.same (get_or xs at d) v (h at d lt) ∙ sym (get_or-map (value old v) xs at d false lt)

-- the net has grown, and the word made so far has the first so many bits
pub record Built (old now : List Node) (out : List ℕ) (at : ℕ) (of : (ℕ → Bool) → List Bool) : Type 0 where
  pub kept : Gated old now
  pub word : IsWord now out at (λ v. take at (of v))

module _ (old : List Node) (of : (ℕ → Bool) → List Bool) where
  pub Built-start : Built old old [] 0 of
  Built-start = record { kept = Gated-refl old; word = record { are = All-nil (λ n. n < length old); long = refl; reads = λ v. refl } }

  -- one node more, with the next bit
  pub Built-step : (d now : List Node) (out more : List ℕ) (at n : ℕ) → Built old d out at of → Gated d now
      → IsBit now n (λ v. get_or (of v) at false) → ((v : ℕ → Bool) → at < length (of v)) → more ≡ out ++ n ∷ [] → Built old now more (at + 1) of
  Built-step d now out more at n b k is lt e = subst (λ o. Built old now o (at + 1) of) (sym e) (record {
    kept = Gated-trans old d now b.kept k;
    word = record {
      are = All-push (λ m. m < length now) out n (still_nodes d now out k b.word.are) is.within;
      long = let l = b.word.long in omega (arith, length-append out (n ∷ []));
      reads = λ v. map-append (value now v) out (n ∷ []) ∙ ap₂ (λ l y. l ++ y ∷ []) (same_read d now v out k b.word.are ∙ b.word.reads v) (is.worth v) ∙ sym (take_more (of v) at false (lt v));
    };
  })

  pub Built-end : (now : List Node) (out : List ℕ) (at n : ℕ) → Built old now out at of → at ≡ n → ((v : ℕ → Bool) → length (of v) ≤ n) → IsWord now out n of
  Built-end now out at n b e le = record { are = b.word.are; long = b.word.long ∙ e; reads = λ v. b.word.reads v ∙ take_all at (of v) (let l = le v in omega arith) }

get_or-zip_with : (f : Bool → Bool → Bool) (xs ys : List Bool) (k : ℕ) → k < length xs → k < length ys → get_or (zip_with f xs ys) k false ≡ f (get_or xs k false) (get_or ys k false)
get_or-zip_with f [] ys k h g = absurd (omega arith)
get_or-zip_with f (x ∷ xs) [] k h g = absurd (omega arith)
get_or-zip_with f (x ∷ xs) (y ∷ ys) zero h g = refl
get_or-zip_with f (x ∷ xs) (y ∷ ys) (suc k) h g = get_or-zip_with f xs ys k (omega arith) (omega arith)

-- two words joined bit by bit
module _ (f : Bool → Bool → Bool) (old : List Node) (xs ys : List ℕ) (same : length xs ≡ length ys) where
  abbrev pub joined : (ℕ → Bool) → List Bool
  joined v = zip_with f (read old v xs) (read old v ys)

  pub long_joined : (v : ℕ → Bool) → length (joined v) ≡ length xs
  long_joined v =
      let lx = length-map xs (value old v) in let ly = length-map ys (value old v) in
      length-zip_with f (read old v xs) (read old v ys) (omega arith) ∙ lx

  pub next_joined : (d now : List Node) (at n x y : ℕ) → AreNodes old xs → AreNodes old ys → Gated old d → at < length xs
      → IsBit now n (λ v. f (value d v (get_or xs at x)) (value d v (get_or ys at y))) → IsBit now n (λ v. get_or (joined v) at false)
  next_joined d now at n x y a b k lt is = record {
    within = is.within;
    worth = λ v.
        let lx = length-map xs (value old v) in let ly = length-map ys (value old v) in
        is.worth v ∙ ap₂ f (later_read old d v xs at x k a lt) (later_read old d v ys at y k b (omega arith))
        ∙ sym (get_or-zip_with f (read old v xs) (read old v ys) at (omega arith) (omega arith));
  }

-- a word with each bit inverted
module _ (old : List Node) (xs : List ℕ) where
  pub long_inverted : (v : ℕ → Bool) → length (map not (read old v xs)) ≡ length xs
  long_inverted v = length-map (read old v xs) not ∙ length-map xs (value old v)

  pub next_inverted : (d now : List Node) (at n x : ℕ) → AreNodes old xs → Gated old d → at < length xs
      → IsBit now n (λ v. not (value d v (get_or xs at x))) → IsBit now n (λ v. get_or (map not (read old v xs)) at false)
  next_inverted d now at n x h k lt is = record {
    within = is.within;
    worth = λ v.
        let l = length-map xs (value old v) in
        is.worth v ∙ ap not (later_read old d v xs at x k h lt) ∙ sym (get_or-map not (read old v xs) at false false (omega arith));
  }

pick_bits : (t : Bool) (xs ys : List Bool) (at : ℕ) → cond t (get_or xs at false) (get_or ys at false) ≡ get_or (cond t xs ys) at false
pick_bits true xs ys at = refl
pick_bits false xs ys at = refl

pick_long : (t : Bool) (xs ys : List Bool) (n : ℕ) → length xs ≡ n → length ys ≡ n → length (cond t xs ys) ≡ n
pick_long true xs ys n e f = e
pick_long false xs ys n e f = f

-- one of two words
module _ (old : List Node) (test : ℕ) (xs ys : List ℕ) (same : length xs ≡ length ys) where
  abbrev pub picked : (ℕ → Bool) → List Bool
  picked v = cond (value old v test) (read old v xs) (read old v ys)

  pub long_picked : (v : ℕ → Bool) → length (picked v) ≡ length xs
  long_picked v = pick_long (value old v test) (read old v xs) (read old v ys) (length xs) (length-map xs (value old v)) (length-map ys (value old v) ∙ sym same)

  pub next_picked : (d now : List Node) (at n x y : ℕ) → test < length old → AreNodes old xs → AreNodes old ys → Gated old d → at < length xs
      → IsBit now n (λ v. cond (value d v test) (value d v (get_or xs at x)) (value d v (get_or ys at y))) → IsBit now n (λ v. get_or (picked v) at false)
  next_picked d now at n x y t a b k lt is = record {
    within = is.within;
    worth = λ v.
        is.worth v ∙ ap (λ s. cond s (value d v (get_or xs at x)) (value d v (get_or ys at y))) (k.same test v t)
        ∙ ap₂ (λ p q. cond (value old v test) p q) (later_read old d v xs at x k a lt) (later_read old d v ys at y k b (omega arith))
        ∙ pick_bits (value old v test) (read old v xs) (read old v ys) at;
  }
