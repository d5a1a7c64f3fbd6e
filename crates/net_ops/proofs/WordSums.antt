-- Sums, orders and products as words that grow place by place.
use Rattle.std.proofs.Common.{◌≡◌, ℕ, zero, suc, ◌+◌, ◌-◌, ◌*◌, ◌<◌, ◌≤◌, Bool, true, false, ◌&&◌, List, [], ◌∷◌, ◌++◌, length, map, take, drop, set, get_or, replicate, ap, ap₂, refl, sym, subst, ◌∙◌, arith, if◌then◌else◌, length-append, nat_eq}
use Rattle.std.proofs.lemmas.List.{length-map, get_or-map, take_all, length-set, length-replicate, map-append, map-set, map-id, append-nil, drop-set-lt, drop_all}
use Rattle.std.proofs.lemmas.List.Elements.{All-push, All-nil, All-set}
use Rattle.bits_core.specs.Places.{exclusive_or}
use Rattle.bits_core.specs.Numbers.{number, bits_of, sum_bits, difference_bits, product_bits, is_less}
use Rattle.bits_core.specs.Ripple.{ripple, below}
use Rattle.bits_core.proofs.CarryLaws.{get_flipped, ripple_more, ripple_end, below_place, below_end}
use Rattle.bits_core.proofs.NumberLaws.{ripple_is_sum, ripple_is_difference, added_at, zero_product}
use Rattle.cyc_net.specs.declared.node.Node.{Node}
use Rattle.cyc_net.specs.Nets.{value, Gated}
use Rattle.cyc_net.proofs.NetLaws.{Gated-refl, Gated-trans}
use Rattle.design_core.specs.Operators.{negated}
use Rattle.net_ops.specs.Words.{AreNodes, IsBit, IsWord, read}
use Rattle.net_ops.specs.Places.{IsPlace}
use Rattle.net_ops.proofs.BuiltLaws.{still_nodes, same_read, later_read}
use Rattle.net_ops.proofs.SumLaws.{digit, onward, grown, grown_end, negated_as_difference, less_by_place, row_added}

-- the places so far, and the sum of the rest with the carry, are the whole sum; where the second operand is inverted the carry is, too
pub record Adding (old : List Node) (s : Bool) (xs ys : List ℕ) (now : List Node) (carry : ℕ) (out : List ℕ) (at : ℕ) : Type 0 where
  pub kept : Gated old now
  pub within : carry < length now
  pub are : AreNodes now out
  pub long : length out ≡ at
  pub rest : (v : ℕ → Bool) → read now v out ++ ripple (exclusive_or s (value now v carry)) (drop at (read old v xs)) (drop at (map (exclusive_or s) (read old v ys)))
      ≡ ripple s (read old v xs) (map (exclusive_or s) (read old v ys))

module _ (old : List Node) (s : Bool) (xs ys : List ℕ) where
  pub Adding-start : (z : ℕ) (out : List ℕ) → z < length old → ((v : ℕ → Bool) → value old v z ≡ false) → out ≡ [] → Adding old s xs ys old z out 0
  Adding-start z out lt is e = subst (λ o. Adding old s xs ys old z o 0) (sym e) (record {
    kept = Gated-refl old;
    within = lt;
    are = All-nil (λ n. n < length old);
    long = refl;
    rest = λ v. ap (λ c. ripple c (read old v xs) (map (exclusive_or s) (read old v ys))) (ap (exclusive_or s) (is v) ∙ alone s);
  })
    where
      alone : (t : Bool) → exclusive_or t false ≡ t
      alone true = refl
      alone false = refl

  pub Adding-step : (d now : List Node) (out more : List ℕ) (at x y carry place next : ℕ) → AreNodes old xs → AreNodes old ys → length xs ≡ length ys → at < length xs
      → Adding old s xs ys d carry out at → Gated d now → IsPlace d s (get_or xs at x) (get_or ys at y) carry now place next
      → more ≡ out ++ place ∷ [] → Adding old s xs ys now next more (at + 1)
  Adding-step d now out more at x y carry place next a b same lt inv k is e = subst (λ o. Adding old s xs ys now next o (at + 1)) (sym e) (record {
    kept = Gated-trans old d now inv.kept k;
    within = is.carried.within;
    are = All-push (λ m. m < length now) out place (still_nodes d now out k inv.are) is.sum.within;
    long = let l = inv.long in omega (arith, length-append out (place ∷ []));
    rest = λ v.
        let lx = length-map xs (value old v) in
        let ly = length-map ys (value old v) in
        let lz = length-map (read old v ys) (exclusive_or s) in
        let p = value d v (get_or xs at x) in
        let q = value d v (get_or ys at y) in
        let w = value d v carry in
        ap (λ r. r ++ ripple (exclusive_or s (value now v next)) (drop (at + 1) (read old v xs)) (drop (at + 1) (map (exclusive_or s) (read old v ys))))
        (map-append (value now v) out (place ∷ []) ∙ ap (λ r. r ++ value now v place ∷ []) (same_read d now v out k inv.are))
        ∙ grown at (exclusive_or s w) (value now v place) (exclusive_or s (value now v next)) p (exclusive_or s q) (read d v out) (read old v xs) (map (exclusive_or s) (read old v ys)) _
        (omega arith) (omega arith) (later_read old d v xs at x inv.kept a lt)
        (ap (exclusive_or s) (later_read old d v ys at y inv.kept b (omega arith)) ∙ get_flipped s (read old v ys) at (omega arith))
        (is.sum.worth v ∙ digit s p q w) (ap (exclusive_or s) (is.carried.worth v) ∙ onward s p q w) (inv.rest v);
  })

  pub Adding-end : (now : List Node) (out : List ℕ) (at carry : ℕ) → at ≡ length xs → Adding old s xs ys now carry out at
      → IsWord now out (length xs) (λ v. ripple s (read old v xs) (map (exclusive_or s) (read old v ys)))
  Adding-end now out at carry e inv = record {
    are = inv.are;
    long = inv.long ∙ e;
    reads = λ v. grown_end at (exclusive_or s (value now v carry)) (read now v out) (read old v xs) _ _ (let l = length-map xs (value old v) in omega arith) (inv.rest v);
  }

-- the words of sums and differences
pub word_is : (now : List Node) (out : List ℕ) (n : ℕ) (of more : (ℕ → Bool) → List Bool) → ((v : ℕ → Bool) → of v ≡ more v) → IsWord now out n of → IsWord now out n more
word_is now out n of more e w = record { are = w.are; long = w.long; reads = λ v. w.reads v ∙ e v }

pub sums : (old : List Node) (xs ys : List ℕ) → length xs ≡ length ys → (v : ℕ → Bool)
    → ripple false (read old v xs) (map (exclusive_or false) (read old v ys)) ≡ sum_bits (read old v xs) (read old v ys)
sums old xs ys e v =
    let lx = length-map xs (value old v) in let ly = length-map ys (value old v) in
    ap (λ r. ripple false (read old v xs) r) (map-id (read old v ys)) ∙ ripple_is_sum (read old v xs) (read old v ys) (omega (arith, lx, ly, e))

pub differences : (old : List Node) (xs ys : List ℕ) → length xs ≡ length ys → (v : ℕ → Bool)
    → ripple true (read old v xs) (map (exclusive_or true) (read old v ys)) ≡ difference_bits (read old v xs) (read old v ys)
differences old xs ys e v =
    let lx = length-map xs (value old v) in let ly = length-map ys (value old v) in
    ripple_is_difference (read old v xs) (read old v ys) (omega (arith, lx, ly, e))

-- a word of one node over and over
pub read_replicated : (net : List Node) (v : ℕ → Bool) (n z : ℕ) → read net v (replicate n z) ≡ replicate n (value net v z)
read_replicated net v zero z = refl
read_replicated net v (suc n) z = ap (λ r. value net v z ∷ r) (read_replicated net v n z)

pub are_replicated : (net : List Node) (n z : ℕ) → z < length net → AreNodes net (replicate n z)
are_replicated net zero z lt = All-nil (λ m. m < length net)
are_replicated net (suc n) z lt = All-cons z (replicate n z) lt (are_replicated net n z lt)
  where
    All-cons : (x : ℕ) (zs : List ℕ) → x < length net → AreNodes net zs → AreNodes net (x ∷ zs)
    All-cons x zs l h zero d m = l
    All-cons x zs l h (suc k) d m = h k d (omega (arith, m))

pub negations : (old : List Node) (xs : List ℕ) (z : ℕ) → ((v : ℕ → Bool) → value old v z ≡ false) → (v : ℕ → Bool)
    → difference_bits (read old v (replicate (length xs) z)) (read old v xs) ≡ negated (read old v xs)
negations old xs z is v =
    let lx = length-map xs (value old v) in
    ap (λ r. difference_bits r (read old v xs)) (read_replicated old v (length xs) z ∙ ap₂ replicate (sym lx) (is v)) ∙ negated_as_difference (read old v xs)

pub negated_word : (old : List Node) (xs zeros : List ℕ) (z : ℕ) (now : List Node) (out : List ℕ) → zeros ≡ replicate (length xs) z → ((v : ℕ → Bool) → value old v z ≡ false)
    → IsWord now out (length zeros) (λ v. difference_bits (read old v zeros) (read old v xs)) → IsWord now out (length xs) (λ v. negated (read old v xs))
negated_word old xs zeros z now out e is w = record {
  are = w.are;
  long = w.long ∙ ap length e ∙ length-replicate (length xs) z;
  reads = λ v. w.reads v ∙ ap (λ r. difference_bits (read old v r) (read old v xs)) e ∙ negations old xs z is v;
}

-- the rest decides from the answer so far as the whole does from nothing
pub record Below (old : List Node) (signed : Bool) (xs ys : List ℕ) (now : List Node) (low at : ℕ) : Type 0 where
  pub kept : Gated old now
  pub within : low < length now
  pub rest : (v : ℕ → Bool) → below signed (value now v low) (drop at (read old v xs)) (drop at (read old v ys)) ≡ below signed false (read old v xs) (read old v ys)

module _ (old : List Node) (signed : Bool) (xs ys : List ℕ) where
  pub Below-start : (z : ℕ) → z < length old → ((v : ℕ → Bool) → value old v z ≡ false) → Below old signed xs ys old z 0
  Below-start z lt is = record { kept = Gated-refl old; within = lt; rest = λ v. ap (λ c. below signed c (read old v xs) (read old v ys)) (is v) }

  pub Below-step : (d now : List Node) (at x y low next : ℕ) (top : Bool) → AreNodes old xs → AreNodes old ys → length xs ≡ length ys → at < length xs → top ≡ nat_eq (at + 1) (length xs)
      → Below old signed xs ys d low at → Gated d now
      → IsBit now next (λ v. if exclusive_or (value d v (get_or xs at x)) (value d v (get_or ys at y)) then exclusive_or (signed && top) (value d v (get_or ys at y)) else value d v low)
      → Below old signed xs ys now next (at + 1)
  Below-step d now at x y low next top a b same lt is inv k made = record {
    kept = Gated-trans old d now inv.kept k;
    within = made.within;
    rest = λ v.
        let lx = length-map xs (value old v) in
        let ly = length-map ys (value old v) in
        let p = value d v (get_or xs at x) in
        let q = value d v (get_or ys at y) in
        ap (λ c. below signed c (drop (at + 1) (read old v xs)) (drop (at + 1) (read old v ys))) (made.worth v)
        ∙ below_place at signed (value d v low) p q top (read old v xs) (read old v ys) (omega arith) (omega arith)
        (later_read old d v xs at x inv.kept a lt) (later_read old d v ys at y inv.kept b (omega arith)) (is ∙ ap (nat_eq (at + 1)) (sym lx))
        ∙ inv.rest v;
  }

  pub Below-end : (now : List Node) (low at : ℕ) → length xs ≡ length ys → length xs ≤ at → Below old signed xs ys now low at
      → IsBit now low (λ v. is_less signed (read old v xs) (read old v ys))
  Below-end now low at same le inv = record {
    within = inv.within;
    worth = λ v.
        let lx = length-map xs (value old v) in
        let ly = length-map ys (value old v) in
        sym (below_end signed (value now v low) _ _ (drop_all at (read old v xs) (omega arith))) ∙ inv.rest v
        ∙ less_by_place signed (read old v xs) (read old v ys) (omega arith);
  }

-- the places so far, and the sum of the rest and the row's rest with the carry, are the word with the row added
abbrev pub row : List Node → (ℕ → Bool) → List ℕ → ℕ → List Bool
row net v xs bit = map (λ x. value net v bit && x) (read net v xs)

pub record Row (old : List Node) (xs : List ℕ) (bit from : ℕ) (start : List ℕ) (now : List Node) (carry : ℕ) (out : List ℕ) (at : ℕ) : Type 0 where
  pub kept : Gated old now
  pub within : carry < length now
  pub are : AreNodes now out
  pub long : length out ≡ length start
  pub from_on : from ≤ at
  pub rest : (v : ℕ → Bool) → take at (read now v out) ++ ripple (value now v carry) (drop at (read now v out)) (drop (at - from) (row old v xs bit))
      ≡ take from (read old v start) ++ ripple false (drop from (read old v start)) (row old v xs bit)

module _ (old : List Node) (xs : List ℕ) (bit from : ℕ) (start : List ℕ) where
  pub Row-start : (z : ℕ) → z < length old → ((v : ℕ → Bool) → value old v z ≡ false) → AreNodes old start → Row old xs bit from start old z start from
  Row-start z lt is are = record {
    kept = Gated-refl old;
    within = lt;
    are = are;
    long = refl;
    from_on = omega arith;
    rest = λ v.
        ap (λ c. take from (read old v start) ++ ripple c (drop from (read old v start)) (drop (from - from) (row old v xs bit))) (is v)
        ∙ ap (λ k. take from (read old v start) ++ ripple false (drop from (read old v start)) (drop k (row old v xs bit))) (let e : from - from ≡ 0 = omega arith in e);
  }

  pub Row-step : (d e now : List Node) (out more : List ℕ) (at x o carry part place next : ℕ) → AreNodes old xs → bit < length old → length start ≤ length xs → at < length out
      → Row old xs bit from start d carry out at → Gated d e → Gated e now
      → IsBit e part (λ v. value d v bit && value d v (get_or xs (at - from) x)) → IsPlace e false (get_or out at o) part carry now place next
      → more ≡ set out at place → Row old xs bit from start now next more (at + 1)
  Row-step d e now out more at x o carry part place next a bt long lt inv k l masked is f = subst (λ r. Row old xs bit from start now next r (at + 1)) (sym f) (record {
    kept = Gated-trans old e now (Gated-trans old d e inv.kept k) l;
    within = is.carried.within;
    are = All-set (λ m. m < length now) out at place is.sum.within (still_nodes d now out (Gated-trans d e now k l) inv.are);
    long = length-set out at place ∙ inv.long;
    from_on = let h = inv.from_on in omega arith;
    rest = λ v.
        let h = inv.from_on in
        let le = inv.long in
        let lo = length-map out (value d v) in
        let lx = length-map xs (value old v) in
        let lm = length-map (read old v xs) (λ z. value old v bit && z) in
        let here : at - from < length xs = omega arith in
        let w = value e v carry in
        let p = value e v (get_or out at o) in
        let q = value e v part in
        let n = value now v next in
        let same : read now v (set out at place) ≡ set (read d v out) at (value now v place)
        = map-set (value now v) out at place ∙ ap (λ r. set r at (value now v place)) (same_read d now v out (Gated-trans d e now k l) inv.are) in
        let on : at + 1 - from ≡ at - from + 1 = omega arith in
        ap (λ r. take (at + 1) r ++ ripple n (drop (at + 1) r) (drop (at + 1 - from) (row old v xs bit))) same
        ∙ ap (λ r. take (at + 1) (set (read d v out) at (value now v place)) ++ ripple n r (drop (at + 1 - from) (row old v xs bit))) (drop-set-lt (at + 1) (read d v out) at (value now v place) (omega arith))
        ∙ ap (λ j. take (at + 1) (set (read d v out) at (value now v place)) ++ ripple n (drop (at + 1) (read d v out)) (drop j (row old v xs bit))) on
        ∙ ripple_more at at (at - from) w (value now v place) n p q (read d v out) (read d v out) (row old v xs bit) _ (omega arith) (omega arith) (omega arith)
        (later_read d e v out at o k inv.are lt)
        (masked.worth v ∙ ap₂ (λ y z. y && z) (inv.kept.same bit v bt) (later_read old d v xs (at - from) x inv.kept a here) ∙ sym (get_or-map (λ z. value old v bit && z) (read old v xs) (at - from) false false (omega arith)))
        (is.sum.worth v) (is.carried.worth v ∙ onward false p q w)
        (ap (λ c. take at (read d v out) ++ ripple c (drop at (read d v out)) (drop (at - from) (row old v xs bit))) (k.same carry v inv.within) ∙ inv.rest v);
  })

  pub Row-end : (now : List Node) (out : List ℕ) (at carry : ℕ) → length out ≤ at → Row old xs bit from start now carry out at
      → IsWord now out (length start) (λ v. take from (read old v start) ++ ripple false (drop from (read old v start)) (row old v xs bit))
  Row-end now out at carry le inv = record {
    are = inv.are;
    long = inv.long;
    reads = λ v.
        let lo = length-map out (value now v) in
        ripple_end at (value now v carry) (read now v out) (drop at (read now v out)) _ _ (omega arith) (drop_all at (read now v out) (omega arith)) (inv.rest v);
  }

-- what a vector holds once a loan of its items has ended
pub given_back : (n : ℕ) (new old : List ℕ) → length new ≡ length old → n ≡ length old → take n (new ++ drop (length new) old) ≡ new
given_back n new old e f =
    ap (λ r. take n (new ++ r)) (drop_all (length new) old (omega (arith, e))) ∙ ap (take n) (append-nil new) ∙ take_all n new (omega (arith, e, f))

-- the product with the bits so far
abbrev pub product_so_far : List Node → List ℕ → List ℕ → ℕ → (ℕ → Bool) → List Bool
product_so_far old xs ys from v = bits_of (length (read old v xs)) (number (read old v xs) * number (take from (read old v ys)))

pub record Product (old : List Node) (xs ys : List ℕ) (now : List Node) (out : List ℕ) (from : ℕ) : Type 0 where
  pub kept : Gated old now
  pub word : IsWord now out (length xs) (product_so_far old xs ys from)

module _ (old : List Node) (xs ys : List ℕ) where
  pub Product-start : (z : ℕ) (out : List ℕ) → z < length old → ((v : ℕ → Bool) → value old v z ≡ false) → out ≡ replicate (length xs) z → Product old xs ys old out 0
  Product-start z out lt is e = subst (λ o. Product old xs ys old o 0) (sym e) (record {
    kept = Gated-refl old;
    word = record {
      are = are_replicated old (length xs) z lt;
      long = length-replicate (length xs) z;
      reads = λ v. read_replicated old v (length xs) z ∙ ap₂ replicate (sym (length-map xs (value old v))) (is v) ∙ zero_product (read old v xs) (read old v ys);
    };
  })

  pub Product-step : (d now : List Node) (out more : List ℕ) (from y : ℕ) → AreNodes old xs → AreNodes old ys → length xs ≡ length ys → from < length ys
      → Product old xs ys d out from → Gated d now
      → IsWord now more (length out) (λ v. take from (read d v out) ++ ripple false (drop from (read d v out)) (row d v xs (get_or ys from y)))
      → Product old xs ys now more (from + 1)
  Product-step d now out more from y a b same lt inv k is = record {
    kept = Gated-trans old d now inv.kept k;
    word = record {
      are = is.are;
      long = is.long ∙ inv.word.long;
      reads = λ v.
          let lx = length-map xs (value old v) in
          let ly = length-map ys (value old v) in
          let m = value d v (get_or ys from y) in
          let n = length (read old v xs) in
          let lm = length-map (read old v xs) (λ z. m && z) in
          is.reads v
          ∙ ap (λ r. take from r ++ ripple false (drop from r) (row d v xs (get_or ys from y))) (inv.word.reads v)
          ∙ ap (λ r. take from (product_so_far old xs ys from v) ++ ripple false (drop from (product_so_far old xs ys from v)) (map (λ z. m && z) r)) (same_read old d v xs inv.kept a)
          ∙ added_at n from (number (read old v xs) * number (take from (read old v ys))) (map (λ z. m && z) (read old v xs)) (omega arith) (omega arith)
          ∙ row_added (read old v xs) (read old v ys) from m (omega arith) (sym (later_read old d v ys from y inv.kept b lt));
    };
  }

  pub Product-lent : (d now : List Node) (out lent new : List ℕ) (n from y : ℕ) → AreNodes old xs → AreNodes old ys → length xs ≡ length ys → from < length ys
      → Product old xs ys d out from → Gated d now → lent ≡ out → n ≡ length out
      → IsWord now new (length lent) (λ v. take from (read d v lent) ++ ripple false (drop from (read d v lent)) (row d v xs (get_or ys from y)))
      → Product old xs ys now (take n (new ++ drop (length new) out)) (from + 1)
  Product-lent d now out lent new n from y a b same lt inv k e f is =
      let long = is.long ∙ ap length e in
      Product-step d now out (take n (new ++ drop (length new) out)) from y a b same lt inv k
      (subst (λ r. IsWord now r (length out) (λ v. take from (read d v out) ++ ripple false (drop from (read d v out)) (row d v xs (get_or ys from y)))) (sym (given_back n new out long f))
      (subst (λ r. IsWord now new (length r) (λ v. take from (read d v r) ++ ripple false (drop from (read d v r)) (row d v xs (get_or ys from y)))) e is))

  pub Product-end : (now : List Node) (out : List ℕ) (from : ℕ) → length ys ≤ from → Product old xs ys now out from
      → IsWord now out (length xs) (λ v. product_bits (read old v xs) (read old v ys))
  Product-end now out from le inv = word_is now out (length xs) (product_so_far old xs ys from) _
      (λ v. ap (λ r. bits_of (length (read old v xs)) (number (read old v xs) * number r)) (take_all from (read old v ys) (let ly = length-map ys (value old v) in omega arith))) inv.word
