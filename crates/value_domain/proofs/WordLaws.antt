-- Words, concatenations and matches in a domain.
use Rattle.std.proofs.Common.{◌≡◌, ℕ, zero, suc, ◌+◌, ◌-◌, ◌*◌, ◌/◌, ◌<◌, ◌≤◌, Bool, true, false, not, ◌&&◌, ◌||◌, List, [], ◌∷◌, ◌++◌, length, map, take, drop, get_or, sum_by, Option, Some, None, ap, ap₂, refl, sym, subst, ◌∙◌, arith, All, ℤ, pos}
use Rattle.std.proofs.lemmas.List.{append_assoc, length-append, length-take, length-drop, take_rest, take-append-drop, map-append, length_push, map_push, append-nil, take_more}
use Rattle.std.proofs.lemmas.List.Sums.{sum_by-append, sum_by-cons, sum_by_push, sum_by_more}
use Rattle.std.proofs.lemmas.List.Elements.{All-take, All-drop, All-head, All-tail, All-weaker, All-push}
use Rattle.bits_core.specs.Places.{is_set, zip_with, exclusive_or, extended, placed}
use Rattle.design_core.specs.Operators.{all_match, is_equal, one_bit, repeated}
use Rattle.design_core.specs.Terms.{free_bits}
use Rattle.value_domain.specs.declared.parts.Word.{Word}
use Rattle.value_domain.specs.Meaning.{Meaning, Stands, Keeps}
use Rattle.value_domain.specs.Words.{IsWord, Made, together, FreeFits}
use Rattle.value_domain.proofs.PlaceLaws.{placed_above}

pub together_append : (xs ys : List (List Bool)) → together (xs ++ ys) ≡ together ys ++ together xs
together_append [] ys = sym (append-nil (together ys))
together_append (x ∷ xs) ys = ap (λ r. r ++ x) (together_append xs ys) ∙ append_assoc (together ys) (together xs) x

pub together_map_append : {X : Type 0} (f : X → List Bool) (xs ys : List X) → together (map f (xs ++ ys)) ≡ together (map f ys) ++ together (map f xs)
together_map_append f xs ys = ap together (map-append f xs ys) ∙ together_append (map f xs) (map f ys)

pub repeated_add : (i j : ℕ) (v : List Bool) → repeated (i + j) v ≡ repeated i v ++ repeated j v
repeated_add zero j v = (let e : zero + j ≡ j = omega arith in ap (λ n. repeated n v) e)
repeated_add (suc i) j v = (let e : suc i + j ≡ suc (i + j) = omega arith in ap (λ n. repeated n v) e) ∙ ap (λ r. v ++ r) (repeated_add i j v) ∙ sym (append_assoc v (repeated i v) (repeated j v))

pub equal_match : (a b : List Bool) → length a ≡ length b → is_equal a b ≡ all_match a b []
equal_match [] [] e = refl
equal_match [] (y ∷ b) e = absurd (omega (arith, e))
equal_match (x ∷ a) [] e = absurd (omega (arith, e))
equal_match (x ∷ a) (y ∷ b) e = ap (λ r. not (exclusive_or x y) && r) (equal_match a b (omega (arith, e)))

-- no bit that counts differs
pub free_match : (a b f : List Bool) → length a ≡ length b → length f ≡ length a
    → not (is_set (zip_with (λ x y. x && y) (zip_with exclusive_or a b) (map not f))) ≡ all_match a b f
free_match [] [] f e g = refl
free_match [] (y ∷ b) f e g = absurd (omega (arith, e))
free_match (x ∷ a) [] f e g = absurd (omega (arith, e))
free_match (x ∷ a) (y ∷ b) [] e g = absurd (omega (arith, g))
free_match (x ∷ a) (y ∷ b) (true ∷ f) e g = differs_not (exclusive_or x y) (is_set (zip_with (λ p q. p && q) (zip_with exclusive_or a b) (map not f))) ∙ free_match a b f (omega (arith, e)) (omega (arith, g))
  where
    differs_not : (d r : Bool) → not ((d && false) || r) ≡ not r
    differs_not true r = refl
    differs_not false r = refl
free_match (x ∷ a) (y ∷ b) (false ∷ f) e g = differs (exclusive_or x y) (is_set (zip_with (λ p q. p && q) (zip_with exclusive_or a b) (map not f))) ∙ ap (λ r. not (exclusive_or x y) && r) (free_match a b f (omega (arith, e)) (omega (arith, g)))
  where
    differs : (d r : Bool) → not ((d && true) || r) ≡ (not d && not r)
    differs true r = refl
    differs false r = refl

module _ {S V : Type 0} (m : Meaning S V) where
  module _ (law : (d : S) (v : ℕ → Bool) (x : V) → m.is_value d x → length (m.reads d v x) ≡ m.width x) where
    pub join_made : (d0 d1 d2 : S) (low high : Word V) (wide value : V) (z : ℤ) → z ≡ pos low.length → IsWord m d0 low → IsWord m d0 high → Keeps m d0 d1
        → Stands m d1 wide (low.length + high.length) (λ v. extended false (low.length + high.length) (m.reads d0 v low.value))
        → Stands m d2 value (m.width wide) (λ v. placed z (m.reads d1 v high.value) (m.reads d1 v wide))
        → Made m d2 (record { value = value; length = low.length + high.length }) (low.length + high.length) (λ v. m.reads d0 v low.value ++ m.reads d0 v high.value)
    join_made d0 d1 d2 low high wide value z at l h k w p = record {
      is_word = record { is_one = p.is_one; wide = p.wide ∙ w.wide; some = (let a = l.some in omega arith) };
      long = refl;
      reads_as = λ v.
          let lo = law d0 v low.value l.is_one ∙ l.wide in
          let hi = law d0 v high.value h.is_one ∙ h.wide in
          p.reads_as v ∙ ap₂ (λ x y. placed z x y) (k.same high.value v h.is_one) (w.reads_as v)
          ∙ ap (λ y. placed y (m.reads d0 v high.value) (extended false (low.length + high.length) (m.reads d0 v low.value))) (at ∙ ap pos (sym lo))
          ∙ placed_above (m.reads d0 v low.value) (m.reads d0 v high.value) (low.length + high.length) (omega (arith, lo, hi));
    }

  -- the two halves of a list of words
  pub halves_made : (d0 d1 d2 d3 : S) (words front back : List (Word V)) (high low out : Word V) → front ++ back ≡ words → All (IsWord m d0) words
      → Keeps m d0 d1 → Keeps m d1 d2
      → Made m d1 high (sum_by (λ (w : Word V). w.length) front) (λ v. together (map (λ (w : Word V). m.reads d0 v w.value) front))
      → Made m d2 low (sum_by (λ (w : Word V). w.length) back) (λ v. together (map (λ (w : Word V). m.reads d1 v w.value) back))
      → Made m d3 out (low.length + high.length) (λ v. m.reads d2 v low.value ++ m.reads d2 v high.value)
      → Made m d3 out (sum_by (λ (w : Word V). w.length) words) (λ v. together (map (λ (w : Word V). m.reads d0 v w.value) words))
  halves_made d0 d1 d2 d3 words front back high low out split all k l h w o = record {
    is_word = o.is_word;
    long = o.long ∙ ap₂ (λ x y. x + y) w.long h.long ∙ (let e = sum_by-append (λ (w : Word V). w.length) front back in let f = ap (sum_by (λ (w : Word V). w.length)) split in omega arith);
    reads_as = λ v.
        o.reads_as v
        ∙ ap₂ (λ x y. x ++ y)
        (w.reads_as v ∙ ap together (kept_words back (tail_all front back (subst (All (IsWord m d0)) (sym split) all)) v))
        (l.same high.value v h.is_word.is_one ∙ h.reads_as v)
        ∙ sym (together_map_append (λ (w : Word V). m.reads d0 v w.value) front back)
        ∙ ap (λ ws. together (map (λ (w : Word V). m.reads d0 v w.value) ws)) split;
  }
    where
      tail_all : (xs ys : List (Word V)) → All (IsWord m d0) (xs ++ ys) → All (IsWord m d0) ys
      tail_all [] ys h = h
      tail_all (x ∷ xs) ys h = tail_all xs ys (All-tail (IsWord m d0) x (xs ++ ys) h)

      kept_words : (xs : List (Word V)) → All (IsWord m d0) xs → (v : ℕ → Bool) → map (λ (w : Word V). m.reads d1 v w.value) xs ≡ map (λ (w : Word V). m.reads d0 v w.value) xs
      kept_words [] h v = refl
      kept_words (x ∷ xs) h v = ap₂ (λ a b. a ∷ b) (k.same x.value v (All-head (IsWord m d0) x xs h).is_one) (kept_words xs (All-tail (IsWord m d0) x xs h) v)

  pub words_later : (d now : S) (xs : List (Word V)) → Keeps m d now → All (IsWord m d) xs → All (IsWord m now) xs
  words_later d now xs k h = All-weaker (IsWord m d) (IsWord m now) (λ w i. record { is_one = k.still w.value i.is_one; wide = i.wide; some = i.some }) xs h

  pub repeat_made : (d0 d1 d2 d3 : S) (count i j : ℕ) (part low high out : Word V) → i + j ≡ count → IsWord m d0 part → Keeps m d0 d1 → Keeps m d1 d2
      → Made m d1 low (i * part.length) (λ v. repeated i (m.reads d0 v part.value))
      → Made m d2 high (j * part.length) (λ v. repeated j (m.reads d1 v part.value))
      → Made m d3 out (low.length + high.length) (λ v. m.reads d2 v low.value ++ m.reads d2 v high.value)
      → Made m d3 out (count * part.length) (λ v. repeated count (m.reads d0 v part.value))
  repeat_made d0 d1 d2 d3 count i j part low high out split p k l w h o = record {
    is_word = o.is_word;
    long = o.long ∙ ap₂ (λ x y. x + y) w.long h.long ∙ (let e : i * part.length + j * part.length ≡ (i + j) * part.length = omega arith in e) ∙ ap (λ n. n * part.length) split;
    reads_as = λ v.
        o.reads_as v
        ∙ ap₂ (λ x y. x ++ y) (l.same low.value v w.is_word.is_one ∙ w.reads_as v) (h.reads_as v ∙ ap (repeated j) (k.same part.value v p.is_one))
        ∙ sym (repeated_add i j (m.reads d0 v part.value)) ∙ ap (λ n. repeated n (m.reads d0 v part.value)) split;
  }

module _ {V : Type 0} (words : List (Word V)) (half : ℕ) where
  pub halves_split : take half words ++ take (length words - half) (drop half words) ≡ words
  halves_split = ap (λ ws. take half words ++ ws) (take_rest words half) ∙ take-append-drop half words

  halves_sum : sum_by (λ (w : Word V). w.length) (take half words) + sum_by (λ (w : Word V). w.length) (take (length words - half) (drop half words)) ≡ sum_by (λ (w : Word V). w.length) words
  halves_sum = sym (sum_by-append (λ (w : Word V). w.length) (take half words) (take (length words - half) (drop half words))) ∙ ap (sum_by (λ (w : Word V). w.length)) halves_split

  pub halves_fit : (h l : ℕ) → h ≡ sum_by (λ (w : Word V). w.length) (take half words) → l ≡ sum_by (λ (w : Word V). w.length) (take (length words - half) (drop half words))
      → sum_by (λ (w : Word V). w.length) words ≤ 65536 → l + h ≤ 65536
  halves_fit h l e f most = let s = halves_sum in omega arith

  pub back_fits : sum_by (λ (w : Word V). w.length) words ≤ 65536 → sum_by (λ (w : Word V). w.length) (take (length words - half) (drop half words)) ≤ 65536
  back_fits most = let s = halves_sum in omega arith

  pub back_length : half < length words → (length (take (length words - half) (drop half words)) ≡ length words - half)
  back_length h = ap length (take_rest words half) ∙ length-drop half words

pub repeat_fits : (n i m l h : ℕ) → l ≡ i * m → h ≡ (n - i) * m → n * m ≤ 65536 → i ≤ n → l + h ≤ 65536
repeat_fits n i m l h e f most le = let s : i * m + (n - i) * m ≡ (i + (n - i)) * m = omega arith in let t = ap (λ k. k * m) (let r : i + (n - i) ≡ n = omega arith in r) in omega arith

module _ {S V : Type 0} (m : Meaning S V) (law : (d : S) (v : ℕ → Bool) (x : V) → m.is_value d x → length (m.reads d v x) ≡ m.width x) where
  pub equal_made : (d0 now : S) (a b r : V) (free : Option (List Bool)) → free ≡ None → m.is_value d0 a → m.is_value d0 b → m.width a ≡ m.width b
      → Stands m now r 1 (λ v. one_bit (is_equal (m.reads d0 v a) (m.reads d0 v b))) → Stands m now r 1 (λ v. one_bit (all_match (m.reads d0 v a) (m.reads d0 v b) (free_bits free)))
  equal_made d0 now a b r free none i j same s = record {
    is_one = s.is_one;
    wide = s.wide;
    reads_as = λ v. s.reads_as v ∙ ap one_bit (equal_match (m.reads d0 v a) (m.reads d0 v b) (law d0 v a i ∙ same ∙ sym (law d0 v b j)))
        ∙ ap (λ f. one_bit (all_match (m.reads d0 v a) (m.reads d0 v b) (free_bits f))) (sym none);
  }

  pub free_made : (d0 d1 d2 d3 d4 d5 : S) (a b unlike free fixed counts r : V) (given : Option (List Bool)) (bits : List Bool) → given ≡ Some bits → FreeFits given (m.width a)
      → m.is_value d0 a → m.is_value d0 b → m.width a ≡ m.width b
      → Keeps m d1 d2 → Keeps m d2 d3
      → Stands m d1 unlike (m.width a) (λ v. zip_with exclusive_or (m.reads d0 v a) (m.reads d0 v b))
      → Stands m d2 free (length bits) (λ v. bits)
      → Stands m d3 fixed (m.width free) (λ v. map not (m.reads d2 v free))
      → Stands m d4 counts (m.width unlike) (λ v. zip_with (λ x y. x && y) (m.reads d3 v unlike) (m.reads d3 v fixed))
      → Stands m d5 r 1 (λ v. one_bit (not (is_set (m.reads d4 v counts))))
      → Stands m d5 r 1 (λ v. one_bit (all_match (m.reads d0 v a) (m.reads d0 v b) (free_bits given)))
  free_made d0 d1 d2 d3 d4 d5 a b unlike free fixed counts r given bits some fits i j same k l u f x q s = record {
    is_one = s.is_one;
    wide = s.wide;
    reads_as = λ v.
        let p : m.reads d3 v unlike ≡ zip_with exclusive_or (m.reads d0 v a) (m.reads d0 v b) = l.same unlike v (k.still unlike u.is_one) ∙ k.same unlike v u.is_one ∙ u.reads_as v in
        let y : m.reads d3 v fixed ≡ map not bits = x.reads_as v ∙ ap (map not) (f.reads_as v) in
        let long : length bits ≡ m.width a = subst (λ o. FreeFits o (m.width a)) some fits in
        s.reads_as v ∙ ap (λ z. one_bit (not (is_set z))) (q.reads_as v ∙ ap₂ (zip_with (λ x y. x && y)) p y)
        ∙ ap one_bit (free_match (m.reads d0 v a) (m.reads d0 v b) bits (law d0 v a i ∙ same ∙ sym (law d0 v b j)) (long ∙ sym (law d0 v a i)))
        ∙ ap (λ o. one_bit (all_match (m.reads d0 v a) (m.reads d0 v b) (free_bits o))) (sym some);
  }
