-- Bits that become known and unknown one by one.
use Rattle.std.proofs.Common.{◌≡◌, ℕ, zero, suc, ◌+◌, ◌<◌, ◌≤◌, nat_lt, nat_le, Bool, true, false, ◌&&◌, ◌||◌, ◌⊎◌, inl, inr, List, [], ◌∷◌, ◌++◌, length, take, drop, get_or, set, replicate, refl, sym, ◌∙◌, ap, subst, arith}
use Rattle.std.specs.Prelude.{◌==◌}
use Rattle.std.proofs.lemmas.Bool.{cases_eq, eqb-true}
use Rattle.std.proofs.lemmas.Bool.Decides.{nat_tests}
use Rattle.std.proofs.lemmas.List.{append-nil, append_assoc, take_at, drop_at, take_more, take-append-drop, get_or-set_same, get_or-set_other, length_push, length-append, drop_all}
use Rattle.std.proofs.lemmas.List.Folds.{list_any-append}
use Rattle.design_core.specs.Cells.{In}
use Rattle.design_core.proofs.BoolLaws.{or_cases, or_left, or_right, either, not_both}
use Rattle.item_order.specs.Circles.{IsOnce}
use Rattle.item_order.proofs.ListLaws.{in_left, in_right, once_push}
use Rattle.known_bits.specs.Known.{knows, among, IsKept, Gains}

same_number : (a b : ℕ) → a ≡ b → (a == b) ≡ true
same_number a b h = grind (arith, nat_tests)

other_number : (a b : ℕ) → (b ≡ a → ⊥) → (a == b) ≡ false
other_number a b h = grind (arith, nat_tests, h)

or_none : (a : Bool) → (a || false) ≡ a
or_none true = refl
or_none false = refl

or_turned : (a b : Bool) → (a || b) ≡ (b || a)
or_turned true true = refl
or_turned true false = refl
or_turned false true = refl
or_turned false false = refl

or_group : (a b c : Bool) → ((a || b) || c) ≡ (a || (b || c))
or_group true b c = refl
or_group false b c = refl

or_same : (a b : Bool) → (b ≡ true → a ≡ true) → a ≡ (a || b)
or_same true b h = refl
or_same false true h = h refl
or_same false false h = refl

-- one more bit
pub among_push : (n x : ℕ) (xs : List ℕ) → among n (xs ++ x ∷ []) ≡ (among n xs || (x == n))
among_push n x xs = list_any-append (λ y. y == n) xs (x ∷ []) ∙ ap (λ t. among n xs || t) (or_none (x == n))

pub among_in : (n : ℕ) (xs : List ℕ) → among n xs ≡ true → In n xs
among_in n [] h = cc
among_in n (x ∷ xs) h = elim (or_cases (x == n) (among n xs) h) [ inl e ↦ inl (sym (eqb-true x n e)) | inr k ↦ inr (among_in n xs k) ]

pub in_among : (n : ℕ) (xs : List ℕ) → In n xs → among n xs ≡ true
in_among n [] h = elim h [ ]
in_among n (x ∷ xs) (inl e) = or_left (x == n) (among n xs) (same_number x n (sym e))
in_among n (x ∷ xs) (inr k) = or_right (x == n) (among n xs) (in_among n xs k)

pub among_get : (xs : List ℕ) (k : ℕ) (d : ℕ) → k < length xs → among (get_or xs k d) xs ≡ true
among_get [] k d l = absurd (omega (arith, l))
among_get (x ∷ xs) zero d l = or_left (x == x) (among x xs) (same_number x x refl)
among_get (x ∷ xs) (suc k) d l = or_right (x == get_or xs k d) (among (get_or xs k d) xs) (among_get xs k d (omega (arith, l)))

-- a known bit has its place
pub knows_below : (known : List Bool) (n : ℕ) → knows known n ≡ true → n < length known
knows_below [] n h = cc
knows_below (x ∷ xs) zero h = omega arith
knows_below (x ∷ xs) (suc n) h = let l = knows_below xs n h in omega (arith, l)

no_bits : (many n : ℕ) → knows (replicate many false) n ≡ false
no_bits zero n = refl
no_bits (suc many) zero = refl
no_bits (suc many) (suc n) = no_bits many n

pub kept_none : (many : ℕ) → IsKept (replicate many false) []
kept_none many = record { same = λ n. no_bits many n; once = tt }

true_last : (a : Bool) → (a || true) ≡ true
true_last true = refl
true_last false = refl

-- a bit that was not known becomes known
pub kept_push : (known : List Bool) (trail : List ℕ) (x : ℕ) → x < length known → knows known x ≡ false → IsKept known trail → IsKept (set known x true) (trail ++ x ∷ [])
kept_push known trail x l f k = record {
  same = λ n. elim (cases_eq n x) [
    | inl e ↦ ap (knows (set known x true)) e ∙ get_or-set_same known x true false l ∙ sym (among_push n x trail ∙ ap (λ t. among n trail || t) (same_number x n (sym e)) ∙ true_last (among n trail))
    | inr ne ↦ get_or-set_other known x n true false ne ∙ k.same n ∙ sym (among_push n x trail ∙ ap (λ t. among n trail || t) (other_number x n ne) ∙ or_none (among n trail))
  ];
  once = once_push trail x k.once (λ m. not_both (knows known x) (k.same x ∙ in_among x trail m) f);
}

once_front : (xs : List ℕ) (x : ℕ) → IsOnce (xs ++ x ∷ []) → IsOnce xs
once_front [] x o = tt
once_front (y ∷ ys) x o = (λ m. o.0 (in_left y ys (x ∷ []) m), once_front ys x o.1)

once_out : (xs : List ℕ) (x : ℕ) → IsOnce (xs ++ x ∷ []) → In x xs → ⊥
once_out [] x o m = elim m [ ]
once_out (y ∷ ys) x o (inl e) = o.0 (in_right y ys (x ∷ []) (inl (sym e)))
once_out (y ∷ ys) x o (inr m) = once_out ys x o.1 m

-- the last bit becomes unknown again
pub kept_pop : (known : List Bool) (longer shorter : List ℕ) (x : ℕ) → longer ≡ shorter ++ x ∷ [] → IsKept known longer → IsKept (set known x false) shorter
kept_pop known longer shorter x is k =
    let o : IsOnce (shorter ++ x ∷ []) = subst IsOnce is k.once in
    let all : (n : ℕ) → knows known n ≡ (among n shorter || (x == n)) = λ n. k.same n ∙ ap (among n) is ∙ among_push n x shorter in
    let l : x < length known = knows_below known x (all x ∙ or_right (among x shorter) (x == x) (same_number x x refl)) in
    let out : among x shorter ≡ false = elim (either (among x shorter)) [ inl t ↦ absurd (once_out shorter x o (among_in x shorter t)) | inr f ↦ f ] in
    record {
      same = λ n. elim (cases_eq n x) [
        | inl e ↦ ap (knows (set known x false)) e ∙ get_or-set_same known x false false l ∙ sym out ∙ ap (λ m. among m shorter) (sym e)
        | inr ne ↦ get_or-set_other known x n false false ne ∙ all n ∙ ap (λ t. among n shorter || t) (other_number x n ne) ∙ or_none (among n shorter)
      ];
      once = once_front shorter x o;
    }

-- what was taken back is what stands from here on
module _ (initial shorter longer : List ℕ) (x : ℕ) (is : longer ≡ shorter ++ x ∷ []) (prefix : longer ≡ take (length longer) initial) (within : length longer ≤ length initial) where
  many : length longer ≡ length shorter + 1
  many = ap length is ∙ length_push shorter x

  whole : initial ≡ shorter ++ x ∷ drop (length longer) initial
  whole = sym (take-append-drop (length longer) initial) ∙ ap (λ l. l ++ drop (length longer) initial) (sym prefix ∙ is) ∙ append_assoc shorter (x ∷ []) (drop (length longer) initial)

  pub prefix_is : shorter ≡ take (length shorter) initial
  prefix_is = sym (take_at shorter (x ∷ drop (length longer) initial) (length shorter) refl) ∙ ap (take (length shorter)) (sym whole)

  rest_is : drop (length shorter) initial ≡ x ∷ drop (length longer) initial
  rest_is = ap (drop (length shorter)) whole ∙ drop_at shorter (x ∷ drop (length longer) initial) (length shorter) refl

  pub gone_more : (gone now : List ℕ) → now ≡ gone ++ x ∷ [] → ((n : ℕ) → among n gone ≡ among n (drop (length longer) initial)) → (n : ℕ) → among n now ≡ among n (drop (length shorter) initial)
  gone_more gone now e h n = ap (among n) e ∙ among_push n x gone ∙ or_turned (among n gone) (x == n) ∙ ap (λ t. (x == n) || t) (h n) ∙ sym (ap (among n) rest_is)

pub gone_none : (initial : List ℕ) (n : ℕ) → among n [] ≡ among n (drop (length initial) initial)
gone_none initial n = ap (among n) (sym (drop_all (length initial) initial (omega arith)))

-- growing trails
pub gains_none : (trail : List ℕ) (f : ℕ → Bool) → ((n : ℕ) → f n ≡ true → among n trail ≡ true) → Gains trail trail f
gains_none trail f h = record { more = []; is = sym (append-nil trail); has = λ n. or_same (among n trail) (f n) (h n) }

pub gains_push : (trail now : List ℕ) (x : ℕ) → now ≡ trail ++ x ∷ [] → Gains trail now (λ n. x == n)
gains_push trail now x e = record { more = x ∷ []; is = e; has = λ n. ap (among n) e ∙ among_push n x trail }

pub gains_both : (a c d : List ℕ) (f g h : ℕ → Bool) → Gains a c f → Gains c d g → ((n : ℕ) → h n ≡ (f n || g n)) → Gains a d h
gains_both a c d f g h v w e = record {
  more = v.more ++ w.more;
  is = w.is ∙ ap (λ l. l ++ w.more) v.is ∙ append_assoc a v.more w.more;
  has = λ n. w.has n ∙ ap (λ t. t || g n) (v.has n) ∙ or_group (among n a) (f n) (g n) ∙ ap (λ t. among n a || t) (sym (e n));
}

pub gains_as : (a c : List ℕ) (f g : ℕ → Bool) → ((n : ℕ) → g n ≡ f n) → Gains a c f → Gains a c g
gains_as a c f g e v = record { more = v.more; is = v.is; has = λ n. v.has n ∙ ap (λ t. among n a || t) (sym (e n)) }

-- what was there is there still
pub gains_keeps : (a c : List ℕ) (f : ℕ → Bool) → Gains a c f → (n : ℕ) → among n a ≡ true → among n c ≡ true
gains_keeps a c f v n h = v.has n ∙ or_left (among n a) (f n) h

pub gains_front : (a c : List ℕ) (f : ℕ → Bool) → Gains a c f → take (length a) c ≡ a
gains_front a c f v = ap (take (length a)) v.is ∙ take_at a v.more (length a) refl

pub gains_long : (a c : List ℕ) (f : ℕ → Bool) → Gains a c f → length a ≤ length c
gains_long a c f v = let e = ap length v.is in let m = length-append a v.more in omega (arith, e, m)

-- the first bits of a list, and the next one
pub among_more : (n k : ℕ) (xs : List ℕ) (d : ℕ) → k < length xs → among n (take (k + 1) xs) ≡ (among n (take k xs) || (get_or xs k d == n))
among_more n k xs d l = ap (among n) (take_more xs k d l) ∙ among_push n (get_or xs k d) (take k xs)

-- a bit more of a span
pub spread : (from at n : ℕ) → from ≤ at → (nat_le from n && nat_lt n (at + 1)) ≡ ((nat_le from n && nat_lt n at) || (at == n))
spread from at n h = grind (arith, nat_tests)

-- a bit that stands in the trail has its place
pub trail_below : (known : List Bool) (trail : List ℕ) (n : ℕ) → IsKept known trail → among n trail ≡ true → n < length known
trail_below known trail n k h = knows_below known n (k.same n ∙ h)

pub last_below : (known : List Bool) (longer shorter : List ℕ) (x : ℕ) → longer ≡ shorter ++ x ∷ [] → IsKept known longer → x < length known
last_below known longer shorter x is k = trail_below known longer x k (ap (among x) is ∙ among_push x x shorter ∙ or_right (among x shorter) (x == x) (same_number x x refl))

pub among_drop : (n k : ℕ) (xs : List ℕ) → among n (drop k xs) ≡ true → among n xs ≡ true
among_drop n k xs h = ap (among n) (sym (take-append-drop k xs)) ∙ list_any-append (λ y. y == n) (take k xs) (drop k xs) ∙ or_right (among n (take k xs)) (among n (drop k xs)) h

-- the whole of a span
pub span_end : (from to at n : ℕ) → to ≤ at → ((at ≤ to) ⊎ (at ≡ from)) → (nat_le from n && nat_lt n to) ≡ (nat_le from n && nat_lt n at)
span_end from to at n h (inl l) = let e : at ≡ to = omega (arith, l, h) in ap (λ x. nat_le from n && nat_lt n x) (sym e)
span_end from to at n h (inr e) = let k : to ≤ from = omega (arith, h, e) in grind (arith, nat_tests)
